-- What a call began and ended with, and what it needs of the store and of `out`.
use Rattle.std.specs.Prelude.{◌≡◌, ◌⊎◌, ℕ, ◌≤◌, Bool, IsTrue, List, Option, Some}
use Rattle.scw_outside.specs.Causes.{Rose}
use Rattle.scw_outside.specs.Content.{Files}

-- the words, what the store tells, the counts of faults of the store and of `out`, and what `out` had taken before and has now
pub record Edge : Type 0 where
  pub words : List (List ℕ)
  pub told : Option Files
  pub is_calm : Bool
  pub store_before : ℕ
  pub store_after : ℕ
  pub room : Option ℕ
  pub out_before : ℕ
  pub out_after : ℕ
  pub taken_before : Option (List ℕ)
  pub taken_after : Option (List ℕ)

-- the edge of a call with the words: what the store tells, whether it is calm and its faults, before and after; and the room of
-- `out`, its faults and what it took, before and after
abbrev pub edge_of : {S O : Type 0} → List (List ℕ) → (S → Option Files) → (S → Bool) → (S → ℕ) → S → S → (O → Option ℕ) → (O → ℕ) → (O → Option (List ℕ)) → O → O → Edge
edge_of words told is_calm store_faults store_old store_new room out_faults taken out_old out_new =
    record {
      words = words;
      told = told store_old;
      is_calm = is_calm store_old;
      store_before = store_faults store_old;
      store_after = store_faults store_new;
      room = room out_old;
      out_before = out_faults out_old;
      out_after = out_faults out_new;
      taken_before = taken out_old;
      taken_after = taken out_new;
    }

-- the store is calm, or it didn't fail in this call
abbrev pub IsServed : Edge → Type 0
IsServed e = IsTrue e.is_calm ⊎ (Rose e.store_before e.store_after → ⊥)

-- `out` tells room for so many bytes, or it didn't fail in this call
abbrev pub HasRoom : Edge → ℕ → Type 0
HasRoom e n = ((left : ℕ) × (e.room ≡ Some left) × (n ≤ left)) ⊎ (Rose e.out_before e.out_after → ⊥)
