use Rattle.std.proofs.Common.{subst, List, ℕ, arith}
use Rattle.std.specs.Str.{chars}
use Rattle.scw_outside.specs.Content.{Reads}
use Rattle.scw_tool.proofs.JobLemmas.{all_shown, name_is}
use Rattle.scw_tool.proofs.show.show_file.Goals as goal

pub returns-in-Ok-read_class-clause-comes : goal.returns-in-Ok-read_class-clause-comes
returns-in-Ok-read_class-clause-comes g c = λ words m h.
    all_shown c.show_class.result _ c.in-Ok.bytes c.in-Ok-read_class.class
    (record { is_mode = m; name = chars c.args.file.now; job = name_is words c.args.file.now h; read = subst (λ (n : List ℕ). Reads (g.S.Store.told c.args.store.now) n 16777217 c.in-Ok.bytes) c.in_ok-name.ensures c.in-Ok.ensures.content })
    (omega (arith, c.if-len.false, c.len.ensures))
    (rw c.as_slice.ensures at c.in-Ok-read_class.ensures.read)
    (rw c.as_slice.ensures at c.in-Ok-read_class.ensures.ok)
    (rw c.as_slice.ensures at c.in-Ok-read_class.ensures.again)
    c.show_class.ensures.went
