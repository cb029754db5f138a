use Rattle.std.proofs.Common.{◌≡◌, OnOk, subst}
use Rattle.std.specs.Io.KnownBytes.{append_known}
use Rattle.scw_machine.specs.Run.{Running}
use Rattle.scw_machine.specs.Tell.{told}
use Rattle.scw_machine.proofs.TellLemmas.{all-taken}
use Rattle.scw_machine.proofs.machine.Machine.tell.Goals as goal

pub returns-clause-ok : goal.returns-clause-ok
returns-clause-ok g c =
    subst (λ (m : Running). OnOk c.put_throwable.result (g.E.Sink.taken c.put_throwable.new.out ≡ append_known (g.E.Sink.taken c.args.err.now) (told m.program m.state.heap.objects c.args.r.0)))
    c.self.view_is (all-taken c.put_throwable.result _ _ _ _ _ c.put_throwable.ensures.parted)
