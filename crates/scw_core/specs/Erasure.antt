-- Erasure (SLS 3.7).
use Rattle.std.specs.Prelude.{ℕ, zero, suc, List, [], ◌∷◌, Bool, true, false, not, cond, ◌&&◌, ◌||◌, Option, Some, None, unwrap_or, option_map, find, filter, length, slice_get, map}
use Rattle.scw_text.specs.declared.number.SymId.{SymId}
use Rattle.scw_text.specs.declared.number.TypeId.{TypeId}
use Rattle.scw_core.specs.declared.symbol.TheConstants.{ANY_REF, ARRAY}
use Rattle.scw_core.specs.declared.class.ClassKind.{ClassKind}
use Rattle.scw_core.specs.declared.class.ClassKind.TheVariants.{Class, Trait, Object}
use Rattle.scw_core.specs.declared.class.CoreClass.{CoreClass}
use Rattle.scw_core.specs.declared.class.Member.{Member}
use Rattle.scw_core.specs.declared.class.Parameter.{Parameter}
use Rattle.scw_core.specs.declared.program.FunctionClass.{FunctionClass}
use Rattle.scw_core.specs.declared.program.Head.{Head}
use Rattle.scw_core.specs.Types.{Plain, Plains, cls, mem, par, sing, with_all, fun, poly, nullary, bounds, has, unknown, no_plains, more_plains, Path, no_prefix, local_path, this_path, object_path, select_path, Erased, void, unit_ref, ref, arr, CoreType, source_type, erased_type, same_symbol}
use Rattle.scw_core.specs.BuiltIn.{built_in_line, built_in_member, built_in_signature, class_erased}
use Rattle.scw_core.specs.Program.{Table, class_of, head_of, type_at, Defined, member_of}

-- ---- classes

abbrev pub contains : List SymId → SymId → Bool
contains [] c = false
contains (x ∷ xs) c = same_symbol x c || contains xs c

abbrev pub line_in : Option CoreClass → SymId → List SymId
line_in None c = built_in_line c
line_in (Some k) c = k.linearisation

-- the linearisation of a class (SLS 5.1.2)
unfoldable pub line_of : Table → SymId → List SymId
line_of p c = line_in (class_of p c) c

-- a class is another one or derives from it
unfoldable pub derives : Table → SymId → SymId → Bool
derives p a b = contains (line_of p a) b

abbrev pub is_trait_kind : ClassKind → Bool
is_trait_kind Class = false
is_trait_kind Trait = true
is_trait_kind Object = false

abbrev pub is_trait_in : Option CoreClass → Bool
is_trait_in None = false
is_trait_in (Some k) = is_trait_kind k.kind

unfoldable pub is_trait : Table → SymId → Bool
is_trait p c = is_trait_in (class_of p c)

-- ---- of the types of a compound type, the one to which it erases

-- The first is a class above that of the second. A class is not above itself, so that of two equal ones the first counts.
abbrev pub is_class_above : Table → SymId → Erased → Bool
is_class_above p c (ref d) = derives p d c && not (same_symbol d c)
is_class_above p c _ = false

abbrev pub is_above : Table → Erased → Erased → Bool
is_above p (ref c) e = is_class_above p c e
is_above p _ e = false

abbrev pub is_above_one : Table → List Erased → Erased → Bool
is_above_one p [] e = false
is_above_one p (x ∷ xs) e = is_above p e x || is_above_one p xs e

abbrev pub is_no_trait : Table → Erased → Bool
is_no_trait p (ref c) = not (is_trait p c)
is_no_trait p _ = true

abbrev pub first_of : List Erased → Erased
first_of [] = ref ANY_REF
first_of (e ∷ es) = e

-- of those that are above no other one the first that is no trait, and else the first
abbrev pub lowest : Table → List Erased → Erased
lowest p es = unwrap_or (find (is_no_trait p) es) (first_of es)

unfoldable pub dominator : Table → List Erased → Erased
dominator p es = lowest p (filter (λ e. not (is_above_one p es e)) es)

-- ---- types

-- the erasure of a type of a program, by that of a source's type
abbrev pub erased_by : (Plain → Erased) → Option CoreType → Erased
erased_by go None = ref ANY_REF
erased_by go (Some (source_type t)) = go t
erased_by go (Some (erased_type e)) = e

abbrev pub upper_in : Table → Option Head → Option CoreType
upper_in p None = None
upper_in p (Some h) = type_at p h.upper

-- that of the upper bound of a symbol, or of the type of a value
unfoldable pub upper_erased : Table → (Plain → Erased) → SymId → Erased
upper_erased p go s = erased_by go (upper_in p (head_of p s))

abbrev pub path_erased : Table → (Plain → Erased) → Path → Erased
path_erased p go no_prefix = ref ANY_REF
path_erased p go (local_path s) = upper_erased p go s
path_erased p go (this_path c) = class_erased c
path_erased p go (object_path o) = class_erased o
path_erased p go (select_path q s) = upper_erased p go s

-- A type, by what a bound erases to that it names.
unfoldable mutual
  pub within : Table → (Plain → Erased) → Plain → Erased
  within p go (cls q c ts) = class_within p go (same_symbol c ARRAY) c ts
  within p go (mem q s) = upper_erased p go s
  within p go (par s) = upper_erased p go s
  within p go (sing q) = path_erased p go q
  within p go (with_all ts) = dominator p (all_within p go ts)
  within p go (fun xs t) = within p go t
  within p go (poly ss t) = within p go t
  within p go (nullary t) = within p go t
  within p go (bounds t u) = within p go u
  within p go (has name) = ref ANY_REF
  within p go unknown = ref ANY_REF

  -- of a class the arguments count where it is Array
  pub class_within : Table → (Plain → Erased) → Bool → SymId → Plains → Erased
  class_within p go is_array c no_plains = class_erased c
  class_within p go true c (more_plains t ts) = arr (within p go t)
  class_within p go false c (more_plains t ts) = class_erased c

  pub all_within : Table → (Plain → Erased) → Plains → List Erased
  all_within p go no_plains = []
  all_within p go (more_plains t ts) = within p go t ∷ all_within p go ts

-- with so many bounds in a row
unfoldable pub erased_along : Table → ℕ → Plain → Erased
erased_along p zero t = ref ANY_REF
erased_along p (suc n) t = within p (erased_along p n) t

-- Bounds that are followed never come back to one, so there are at most as many in a row as symbols.
unfoldable pub erased : Table → TypeId → Erased
erased p t = erased_by (erased_along p (suc (length p.heads))) (type_at p t)

-- ---- signatures

-- where a type stands as a result
abbrev pub as_result : Erased → Erased
as_result unit_ref = void
as_result e = e

-- the class of by-name arguments, which are functions without parameters
abbrev pub by_name_class : Option FunctionClass → Erased
by_name_class None = ref ANY_REF
by_name_class (Some f) = ref f.class

unfoldable pub parameter_erased : Table → Parameter → Erased
parameter_erased p x = cond x.is_by_name (by_name_class (slice_get p.prelude.functions 0)) (erased p x.type_id)

-- the erased signature of a member: its result, and its parameters
unfoldable pub signature : Table → Member → List Erased
signature p m = as_result (erased p m.result) ∷ map (parameter_erased p) m.parameters

abbrev pub signature_in : Table → Option Defined → SymId → List Erased
signature_in p None m = unwrap_or (option_map built_in_signature (built_in_member m)) []
signature_in p (Some d) m = signature p d.member

unfoldable pub signature_of : Table → SymId → List Erased
signature_of p m = signature_in p (member_of p m) m
