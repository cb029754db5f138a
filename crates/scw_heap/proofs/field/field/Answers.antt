use Rattle.std.proofs.Common.{◌≡◌, ◌-◌, ◌^◌, ◌/◌, ℕ, ap, ◌∙◌, arith}
use Rattle.std.proofs.lemmas.Nat.{and_mask}
use Rattle.std.proofs.lemmas.Nat.Bits.{ones_shr}
use Rattle.scw_heap.proofs.field.field.Goals as goal

pub returns : goal.returns
returns c =
    let w : ℕ = c.args.width in
    let k : 64 - (64 - w) ≡ w = omega arith in
    let e : (2 ^ 64 - 1) / 2 ^ (64 - w) ≡ 2 ^ w - 1 = ones_shr 64 (64 - w) (omega arith) ∙ ap (λ n. 2 ^ n - 1) k in
    rw e (and_mask (c.args.word / 2 ^ c.args.shift) w)
