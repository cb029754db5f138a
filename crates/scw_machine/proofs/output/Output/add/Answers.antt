use Rattle.std.proofs.Common.{◌++◌}
use Rattle.scw_machine.proofs.OutputLemmas.{parted-none, parted-front}
use Rattle.scw_machine.proofs.output.Output.add.Goals as goal
use Rattle.scw_machine.proofs.output.Output.add.Goals.{then-self-len+in_ok-empty, else-self-len}

pub returns-clause-parted : goal.returns-clause-parted
returns-clause-parted g c =
    elim c.if-self-len.branch [
      | then-self-len+in_ok-empty w ↦
          rw (c.append.ensures.items, w.out-is, w.self-inside-is, w.in_ok-empty.ensures.empty)
          (parted-front _ _ _ _ c.args.self.now c.args.bytes.now (rw c.self.view_is at w.in_ok-empty.ensures.ok) (rw c.self.view_is at w.in_ok-empty.ensures.left))
      | else-self-len w ↦
          rw (c.append.ensures.items, w.out-is, w.self-inside-is, c.self.view_is) (parted-none (g.O.Sink.taken c.args.out.now) (g.O.Sink.room c.args.out.now) (c.args.self.now ++ c.args.bytes.now))
    ]
