use Rattle.std.proofs.Common.{◌≡◌, refl, ℕ, suc, true, List, [], ◌∷◌, get_or, Fits, w16}
use Rattle.std.proofs.lemmas.Bool.{lt-ltb}
use Rattle.std.specs.List.{list_all}
use Rattle.scw_text.specs.Modified.{is_unit}
use Rattle.scw_gen.proofs.pool.are_units.Goals as goal

all_units : (us : List ℕ) → ((i : ℕ) → Fits w16 (get_or us i 0)) → true ≡ list_all is_unit us
all_units [] fits = refl
all_units (u ∷ us) fits = rw (lt-ltb u 0x10000 (fits 0).fits) (all_units us (λ i. fits (suc i)))

pub returns : goal.returns
returns c = all_units c.args._units.now c.type_inv._units
