use Rattle.std.proofs.Common.{ℕ, List, ◌++◌, take, arith}
use Rattle.scw_heap.specs.Heap.{words_at}
use Rattle.scw_value.specs.Text.{utf8}
use Rattle.scw_value.proofs.EncodedLemmas.{put_all}
use Rattle.scw_machine.specs.Output.{IsParted, said}
use Rattle.scw_machine.proofs.OutputLemmas.{length_at, said-text, parted-whole, done-more, text-more, text-part, text-room, on_err, room-never}
use Rattle.scw_machine.proofs.output.Output.add_text.Goals as goal

pub returns-in_err-add-clause-part : goal.returns-in_err-add-clause-part
returns-in_err-add-clause-part g c =
    let text = said-text c.args.heap.now.objects c.args.r (omega arith) in
    let added = c.loop-i.invariant.added in
    let whole = done-more added.0 _ _ _ _ c.character_at-character.ensures.bytes added.2 in
    on_err c.from_residual.result (rw (← text)
    (text-part _ _ _ _ _ c.args.self.now added.0 _ _ _ _ added.1 whole c.in_err-add.ensures.part))

pub returns-in_err-add-clause-sure : goal.returns-in_err-add-clause-sure
returns-in_err-add-clause-sure g c =
    let text = said-text c.args.heap.now.objects c.args.r (omega arith) in
    let added = c.loop-i.invariant.added in
    let whole = done-more added.0 _ _ _ _ c.character_at-character.ensures.bytes added.2 in
    room-never _ _ _ (rw (← text)
    (text-room _ _ _ _ _ c.args.self.now added.0 _ _ _ _ added.1 whole c.in_err-add.ensures.sure))

pub overflow_add-i : goal.overflow_add-i
overflow_add-i g c = let e = length_at _ _ (c.requires (omega arith)) c.length-length.ensures in omega (arith, c.character_at-character.ensures.end)

pub loop-i-preserved : goal.loop-i-preserved
loop-i-preserved g c =
    let added = c.loop-i.invariant.added in
    record {
      within = c.character_at-character.ensures.end;
      later = omega (arith, c.loop-i.invariant.later, c.in_ok-add.ensures.cause.later);
      added = (
        added.0 ++ take c.character_at-character.result.length c.character_at-character.result.bytes,
        text-more _ _ _ _ _ _ c.args.self.now added.0 _ _ _ added.1 c.in_ok-add.ensures.parted,
        done-more added.0 _ _ _ _ c.character_at-character.ensures.bytes added.2,
      );
    }

-- the whole text is added
all : (g : _) (c : goal.After-loop-i g) → IsParted (g.O.Sink.taken c.args.out.now) (g.O.Sink.taken c.loop-i.out) (g.O.Sink.room c.args.out.now) (g.O.Sink.room c.loop-i.out) (c.args.self.now ++ said c.args.heap.now.objects c.args.r) c.loop-i.self
all g c =
    let us : List ℕ = words_at c.args.heap.now.objects c.args.r in
    let e = length_at _ _ (c.requires (omega arith)) c.length-length.ensures in
    let added = c.loop-i.invariant.added in
    let done = put_all us c.loop-i.i added.0 (utf8 us) (omega arith) added.2 in
    rw (← said-text c.args.heap.now.objects c.args.r (omega arith), ← done) added.1

pub returns-clause-ok : goal.returns-clause-ok
returns-clause-ok g c = parted-whole _ _ _ _ _ _ _ (all g c)

pub returns-clause-parted : goal.returns-clause-parted
returns-clause-parted g c = all g c
