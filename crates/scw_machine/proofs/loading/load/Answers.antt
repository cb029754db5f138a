use Rattle.scw_machine.proofs.LoadLemmas.{IsLoaded-of}
use Rattle.scw_machine.proofs.loading.load.Goals as goal

pub returns-clause-ok : goal.returns-clause-ok
returns-clause-ok c =
    IsLoaded-of c.in_ok-classes.classes c.as_slice-3.result.now c.as_slice-4.result.now c.args.files.now c.as_slice.result.now c.args.main.now c.as_slice-2.result.now
    c.in_ok-name.name c.in_ok-has_main.field-0 c.in_ok-program.program c.in_ok-machine.machine c.args.heap c.args.frames c.args.words
    c.as_slice.ensures c.in_ok-classes.ensures.ok c.as_slice-2.ensures c.in_ok-name.ensures c.as_slice-3.ensures c.in_ok-has_main.ensures c.if-not-branch.false
    c.as_slice-4.ensures c.in_ok-program.ensures c.in_ok-machine.ensures
