use Rattle.std.proofs.Common.{reverse, arith}
use Rattle.std.proofs.lemmas.List.{length-reverse, length-drop}
use Rattle.scw_frame.proofs.FrameLemmas.{operands-le-words, operands-le-room, places_of-some}
use Rattle.scw_frame.proofs.frames.Frames.push.Goals as goal

pub unwrap-requires : goal.unwrap-requires
unwrap-requires c =
    c.push.ensures.succeeds (omega (
      arith,
      operands-le-words _ _ _ c.self.invariant.fit.1,
      operands-le-room _ _ _ c.self.invariant.fit.0,
      length-drop c.self.inside.current.operands (reverse c.self.inside.operands.items),
      length-reverse c.self.inside.operands.items,
      places_of-some c.args.value,
      c.self.invariant.operands_reserved,
      c.self.invariant.words_within,
      c.self.invariant.in_use_is,
    ))

pub overflow_add-self-2 : goal.overflow_add-self-2
overflow_add-self-2 c =
    omega (arith, operands-le-room _ _ _ c.self.invariant.fit.0, places_of-some c.args.value)
