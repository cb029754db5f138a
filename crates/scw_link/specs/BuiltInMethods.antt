-- The methods of the machine's own classes, by their table.
use Rattle.std.specs.Prelude.{ℕ, Bool, true, false, ◌&&◌, not, List, Option, find, nat_le, ◌==◌, if◌then◌else◌}
use Rattle.scw_frame.specs.declared.operation.BuiltIn.{BuiltIn}
use Rattle.scw_link.specs.declared.built_in_method.Owner.{Owner}
use Rattle.scw_link.specs.declared.built_in_method.Owner.TheVariants as owner
use Rattle.scw_link.specs.declared.built_in_method.TheConstants.{METHODS}
use Rattle.scw_link.specs.Names.{same}
use Rattle.scw_link.specs.MethodNames.{owner_of, name_of, descriptor_of}

-- the class with this number is one of the owners
abbrev pub is_owner : Owner → ℕ → Bool
is_owner owner.Object c = c == 0
is_owner owner.String c = c == 1
is_owner owner.Run c = c == 7
is_owner owner.Throwable c = c == 8
is_owner owner.AnyThrowable c = nat_le 8 c && nat_le c 23

abbrev pub owner_is_static : Owner → Bool
owner_is_static owner.Object = false
owner_is_static owner.String = false
owner_is_static owner.Run = true
owner_is_static owner.Throwable = false
owner_is_static owner.AnyThrowable = false

-- both hold or neither
abbrev pub agree : Bool → Bool → Bool
agree a b = if a then b else not b

abbrev pub is_method : Bool → List ℕ → List ℕ → ℕ → BuiltIn → Bool
is_method wants_static name descriptor c m =
    is_owner (owner_of m) c && agree wants_static (owner_is_static (owner_of m)) && same name (name_of m) && same descriptor (descriptor_of m)

-- the method that the class with this number declares, static or not as wanted
unfoldable pub built_in_method : Bool → List ℕ → List ℕ → ℕ → Option BuiltIn
built_in_method wants_static name descriptor c = find (is_method wants_static name descriptor c) METHODS
