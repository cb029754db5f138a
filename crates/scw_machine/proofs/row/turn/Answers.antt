use Rattle.std.proofs.Common.{[], refl, append-nil}
use Rattle.scw_machine.specs.Output.{said_by}
use Rattle.scw_machine.proofs.OutputLemmas.{parted-none}
use Rattle.scw_machine.proofs.RunLemmas.{goes-on, goes-says, ends-returned, ends-uncaught, halts-by, short-of}
use Rattle.scw_machine.proofs.row.turn.Goals as goal

pub returns-in-Ok-On-clause-turned : goal.returns-in-Ok-On-clause-turned
returns-in-Ok-On-clause-turned g c = record {
  said = [];
  goes = goes-on _ _ _ (rw c.in-Ok-On.field-0-is at c.in-Ok-On.ensures);
  parted = rw append-nil (parted-none (g.O.Sink.taken c.args.out.now) (g.O.Sink.room c.args.out.now) c.args.output.now);
}

pub returns-in-Ok-clause-turned : goal.returns-in-Ok-clause-turned
returns-in-Ok-clause-turned g c = record {
  said = said_by c.step.new.state.heap.objects c.in-Ok-Says.r;
  goes = goes-says c.args.program.now c.args.state.now c.step.new.state c.in-Ok-Says.r (rw c.in-Ok-Says.field-0-is at c.in-Ok-Says.ensures);
  parted = rw c.in-Ok-Says.field-0-is at c.in-Ok.ensures.parted;
}

pub returns-in-Err-say-clause-turned : goal.returns-in-Err-say-clause-turned
returns-in-Err-say-clause-turned g c = record {
  said = said_by c.step.new.state.heap.objects c.in-Ok-Says.r;
  goes = goes-says c.args.program.now c.args.state.now c.step.new.state c.in-Ok-Says.r (rw c.in-Ok-Says.field-0-is at c.in-Ok-Says.ensures);
  part = rw c.in-Ok-Says.field-0-is at c.in-Err-say.ensures.part;
  short = short-of _ _ (rw c.in-Ok-Says.field-0-is at c.in-Err-say.ensures.sure);
}

pub returns-in-Ok-Ended-clause-turned : goal.returns-in-Ok-Ended-clause-turned
returns-in-Ok-Ended-clause-turned g c = record {
  halts = ends-returned c.args.program.now c.args.state.now c.step.new.state (rw c.in-Ok-Ended.field-0-is at c.in-Ok-Ended.ensures);
  parted = parted-none (g.O.Sink.taken c.args.out.now) (g.O.Sink.room c.args.out.now) c.args.output.now;
}

pub returns-in-Ok-Thrown-clause-turned : goal.returns-in-Ok-Thrown-clause-turned
returns-in-Ok-Thrown-clause-turned g c = rw c.in-Ok-Thrown.field-0-is (record {
  halts = ends-uncaught c.args.program.now c.args.state.now c.step.new.state c.in-Ok-Thrown.r (rw c.in-Ok-Thrown.field-0-is at c.in-Ok-Thrown.ensures);
  parted = parted-none (g.O.Sink.taken c.args.out.now) (g.O.Sink.room c.args.out.now) c.args.output.now;
})

pub returns-in-Err-clause-turned : goal.returns-in-Err-clause-turned
returns-in-Err-clause-turned g c = record {
  halts = rw c.end_by.ensures (halts-by c.args.program.now c.args.state.now c.step.new.state c.in-Err.stop _ c.in-Err.ensures (rw (c.method-method.ensures, c.place-place.ensures) refl));
  parted = parted-none (g.O.Sink.taken c.args.out.now) (g.O.Sink.room c.args.out.now) c.args.output.now;
}
