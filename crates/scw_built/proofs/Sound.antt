-- What the definition of a class file asks of a program beside its types: units, and names that differ.
use Rattle.std.specs.Prelude.{◌≡◌, ℕ, List, [], ◌∷◌, Bool, true, ◌&&◌, codes}
use Rattle.std.specs.List.{list_all}
use Rattle.scw_text.specs.Modified.{is_unit}
use Rattle.scw_core.specs.Program.{Program}
use Rattle.scw_core.specs.Text.{units_of_name}
use Rattle.scw_core.specs.declared.class.CoreClass.{CoreClass}
use Rattle.scw_core.specs.declared.class.Member.{Member}

abbrev pub are_units : List ℕ → Bool
are_units us = list_all is_unit us

abbrev pub have_units : List Member → Bool
have_units [] = true
have_units (m ∷ ms) = are_units (units_of_name m.name) && have_units ms

-- no member has the name
abbrev pub IsNew : List ℕ → List Member → Type 0
IsNew name [] = Unit {0}
IsNew name (m ∷ ms) = (units_of_name m.name ≡ name → ⊥) × IsNew name ms

abbrev pub Apart : List Member → Type 0
Apart [] = Unit {0}
Apart (m ∷ ms) = IsNew (units_of_name m.name) ms × Apart ms

pub record Sound (p : Program) (k : CoreClass) : Type 0 where
  pub texts : list_all are_units p.table.texts ≡ true
  pub own : are_units (units_of_name k.binary_name) ≡ true
  pub names : have_units k.members ≡ true
  pub init : IsNew (codes "<init>") k.members
  pub get : IsNew (codes "$get") k.members
  pub apart : Apart k.members
