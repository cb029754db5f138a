use Rattle.std.proofs.Common.{◌≡◌, refl, ℕ, zero, suc, ◌+◌, ◌-◌, nat_eq, List, [], ◌∷◌, length, get_or, arith}
use Rattle.scw_gen.specs.Generate.{ends_in_dollar}
use Rattle.scw_gen.proofs.built.ends_in_dollar.Goals as goal

-- the last unit of those before which n stand
last_unit : (us : List ℕ) (n : ℕ) → length us ≡ n + 1 → nat_eq (get_or us n 0) 36 ≡ ends_in_dollar us
last_unit [] n h = absurd (omega arith)
last_unit (u ∷ []) zero h = refl
last_unit (u ∷ []) (suc n) h = absurd (omega arith)
last_unit (u ∷ v ∷ us) zero h = absurd (omega arith)
last_unit (u ∷ v ∷ us) (suc n) h = last_unit (v ∷ us) n (omega arith)

pub returns-in-len1-up : goal.returns-in-len1-up
returns-in-len1-up c = last_unit c.args.units.now (length c.args.units.now - 1) (omega (arith, c.in-len1-up.len_at_least))
