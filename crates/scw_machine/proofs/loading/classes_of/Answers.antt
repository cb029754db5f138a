use Rattle.std.proofs.lemmas.List.{take_more}
use Rattle.scw_machine.proofs.LoadLemmas.{AreFilesOf-push}
use Rattle.scw_machine.proofs.loading.classes_of.Goals as goal

pub loop-i-preserved : goal.loop-i-preserved
loop-i-preserved c =
    rw (c.in_ok-push.ensures.ok, take_more c.args.files.now c.loop-i.i c.index-files-i.result c.loop-i-test.true, ← c.index-files-i.is)
    (AreFilesOf-push _ _ _ _ c.loop-i.invariant c.in_ok-class.ensures.ok)
