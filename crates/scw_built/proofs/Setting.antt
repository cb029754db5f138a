-- What stands around the trees of a program of the small language, and the kinds of its types.
use Rattle.std.proofs.Common.{◌≡◌, refl, ℕ, ◌≤◌, true, false, List, [], ◌∷◌, ◌++◌, length, map, Some}
use Rattle.std.proofs.lemmas.Bool.{eq-eqb}
use Rattle.scw_core.specs.Program.{in_members, type_at}
use Rattle.scw_core.specs.Types.{CoreType, same_symbol}
use Rattle.scw_core.specs.declared.class.Member.{Member}
use Rattle.scw_text.specs.declared.number.SymId.{SymId}
use Rattle.scw_reader.specs.Syntax.{Name}
use Rattle.scw_reader.specs.declared.tree.TypeName.{TypeName}
use Rattle.scw_reader.specs.declared.tree.TypeName.TheVariants as type
use Rattle.scw_gen.specs.Around.{Around, kind_in}
use Rattle.scw_gen.specs.Method.{is_method}
use Rattle.scw_gen.specs.Typed.{as_told, kinds_of_parameters, same_kind, same_kinds}
use Rattle.scw_gen.specs.declared.kind.Kind.{Kind}
use Rattle.scw_gen.specs.declared.kind.Kind.TheVariants as kind
use Rattle.scw_small.specs.Step.{Named, find_name}
use Rattle.scw_small.specs.Symbol.{first_types, kind_id}
use Rattle.scw_small.specs.Whole.{main_class, table}
use Rattle.scw_built.proofs.SmallNames.{Signature}

-- the members of the object, the types of the program behind the first ones, its texts, and the methods that can be called
pub record Setting : Type 0 where
  pub members : List Member
  pub types : List CoreType
  pub texts : List (List ℕ)
  pub methods : Named Signature
  pub two : 2 ≤ length texts

abbrev pub around : Setting → Around
around c = record { table = table c.members (first_types ++ c.types) c.texts; class = main_class c.members; pool = []; is_far = false }

-- ---- kinds

abbrev pub kind_for : TypeName → Kind
kind_for type.Unit = kind.Unit
kind_for type.Boolean = kind.Boolean
kind_for type.Int = kind.Int
kind_for type.Long = kind.Long
kind_for type.String = kind.String

pub told : (c : Setting) (t : TypeName) → kind_in (around c) (kind_id t) ≡ Some (kind_for t)
unfolding type_at
told c type.Unit = refl
told c type.Boolean = refl
told c type.Int = refl
told c type.Long = refl
told c type.String = refl

pub as-told : (c : Setting) (t : TypeName) → as_told (around c) (kind_id t) (kind_for t) ≡ Some (kind_for t)
unfolding type_at
as-told c type.Unit = refl
as-told c type.Boolean = refl
as-told c type.Int = refl
as-told c type.Long = refl
as-told c type.String = refl

pub same-self : (k : Kind) → same_kind k k ≡ true
same-self kind.Unit = refl
same-self kind.Boolean = refl
same-self kind.Int = refl
same-self kind.Long = refl
same-self kind.String = refl
same-self kind.Strings = refl
same-self kind.This = refl

pub same-selves : (ks : List Kind) → same_kinds ks ks ≡ true
same-selves [] = refl
same-selves (k ∷ ks) = rw (same-self k) (same-selves ks)

pub same-symbol : (x : SymId) → same_symbol x x ≡ true
same-symbol x = eq-eqb x.0 x.0 refl

-- ---- methods that can be called

-- the member that the signature is of
pub record Answers (c : Setting) (m : Signature) : Type 0 where
  pub found : Member
  pub there : in_members c.members m.symbol ≡ Some found
  pub is : is_method found ≡ true
  pub parameters : kinds_of_parameters (around c) found.parameters ≡ Some (map kind_for m.kinds)
  pub result : kind_in (around c) found.result ≡ Some (kind_for m.answer)

abbrev pub AllAnswer : Setting → Type 0
AllAnswer c = (x : Name) (m : Signature) → find_name x c.methods ≡ Some m → Answers c m
