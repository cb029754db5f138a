use Rattle.std.proofs.Common.{refl, subst, List, ℕ}
use Rattle.std.specs.Str.{chars}
use Rattle.scw_outside.specs.Content.{Reads}
use Rattle.scw_tool.proofs.JobLemmas.{all_come, name_is}
use Rattle.scw_tool.proofs.MainObject.{main_is}
use Rattle.scw_tool.proofs.top.run_file.Goals as goal

pub run_program-requires : goal.run_program-requires
run_program-requires g c = record {
  main = main_is _ _ (rw c.in-Some.is at c.in_ok-program.ensures.ok) (rw c.in-Some.is at c.in_ok-program.ensures.main);
  built = c.sources_are_built.ensures _ _ (rw c.in-Some.is at c.in_ok-program.ensures.ok);
}

pub returns-in-Some-clause-comes : goal.returns-in-Some-clause-comes
returns-in-Some-clause-comes g c = λ words m h.
    all_come _ c.in-Ok.source _
    (record { is_mode = m; name = chars c.args.file.now; job = name_is words c.args.file.now h; read = subst (λ (n : List ℕ). Reads (g.S.Store.told c.args.store.now) n 1048577 c.in-Ok.source) c.in_ok-name.ensures c.in-Ok.ensures.content })
    (rw (← c.as_slice.ensures) (rw c.in-Some.is at c.in_ok-program.ensures.ok))
    (rw (← c.as_slice.ensures) (rw c.in-Some.is at c.in_ok-program.ensures.only))
    c.run_program.result c.run_program.ensures.went

pub returns-clause-comes : goal.returns-clause-comes
returns-clause-comes g c = λ words m h. (
  record {
    source = c.in-Ok.source;
    read =
        record { is_mode = m; name = chars c.args.file.now; job = name_is words c.args.file.now h; read = subst (λ (n : List ℕ). Reads (g.S.Store.told c.args.store.now) n 1048577 c.in-Ok.source) c.in_ok-name.ensures c.in-Ok.ensures.content };
    none = rw (← c.as_slice.ensures) (rw c.in-None.is at c.in_ok-program.ensures.none);
  },
  refl,
)
