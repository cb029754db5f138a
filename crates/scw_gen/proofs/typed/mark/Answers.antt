use Rattle.std.proofs.Common.{◌∙◌, sym}
use Rattle.scw_gen.proofs.TypedLemmas.{marked_at, marked_nowhere}
use Rattle.scw_gen.proofs.typed.mark.Goals as goal

pub returns-in-None : goal.returns-in-None
returns-in-None c =
    let h = rw c.deref.ensures.value at c.place_of.ensures in
    marked_nowhere c.args.x c.args.known.now.items (sym h ∙ c.in-None.is)

pub returns-in-Some : goal.returns-in-Some
returns-in-Some c =
    let h = rw c.deref.ensures.value at c.place_of.ensures in
    marked_at c.args.x c.args.known.now.items c.in-Some.place c.index_mut.result.now (sym h ∙ c.in-Some.is) c.index_mut.ensures.value
