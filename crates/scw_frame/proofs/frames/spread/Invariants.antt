use Rattle.std.proofs.Common.{◌≡◌, ◌+◌, ◌≤◌, ◌++◌, drop, vec_len}
use Rattle.std.specs.Vec.{vec_capacity}
use Rattle.scw_frame.specs.Frame.{spread, places}
use Rattle.scw_frame.proofs.frames.spread.Given as goal

abbrev pub invariant-loop-argument : goal.invariant-loop-argument
invariant-loop-argument l = record {
  items : l.locals.items ++ spread (drop l.argument-index l.arguments) ≡ l.initial.locals.items ++ spread l.arguments;
  room : vec_len l.locals + places (drop l.argument-index l.arguments) ≤ vec_capacity l.locals;
  grown : vec_capacity l.initial.locals ≤ vec_capacity l.locals;
}
