use Rattle.std.proofs.Common.{◌≡◌, ℕ, ◌+◌, ◌-◌, List, set, length, refl, arith}
use Rattle.std.proofs.lemmas.List.{length-set, drop-set-add}
use Rattle.scw_frame.specs.declared.value.Value.{Value}
use Rattle.scw_frame.proofs.FrameLemmas.{take-set-above}
use Rattle.scw_frame.proofs.frames.Frames.set_local.Goals as goal

pub returns : goal.returns
returns c =
    let ls : List Value = c.self.inside.locals.items in
    let count : c.len.result ≡ length ls = omega arith in
    let n : ℕ = c.len.result - c.self.inside.current.locals in
    let size : length (set ls (n + c.args.i) c.args.value) - c.self.inside.current.locals ≡ n = omega (arith, length-set ls (n + c.args.i) c.args.value, c.len.ensures) in
    rw (← c.self.view_is) (rw (size) (rw (drop-set-add n ls c.args.i c.args.value, take-set-above n c.args.i c.args.value ls) (rw count refl)))
