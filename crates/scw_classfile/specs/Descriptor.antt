-- Descriptors: JVMS 4.3.2 and 4.3.3. A class name in one is any text without `;` that isn't empty, and
-- an array has any number of dimensions.
use Rattle.std.specs.Prelude.{ℕ, zero, suc, Bool, true, false, ◌&&◌, ◌||◌, List, [], ◌∷◌, length, Option, Some, None, option_and_then, nat_eq, if◌then◌else◌, codes}
use Rattle.std.specs.List.{list_any}
use Rattle.std.specs.Cmp.Lexicographic.{pointwise}
use Rattle.scw_classfile.specs.declared.pool_entry.TextKind.{TextKind}
use Rattle.scw_classfile.specs.declared.pool_entry.TextKind.TheVariants as text

-- the character is one of the text
abbrev pub one_of : List ℕ → ℕ → Bool
one_of characters c = list_any (λ k. nat_eq k c) characters

-- BaseType: JVMS table 4.3-A
abbrev pub is_base : ℕ → Bool
is_base = one_of (codes "BCDFIJSZ")

-- what follows a class name and the `;` after it, where the name isn't empty
abbrev pub after_name : Bool → List ℕ → Option (List ℕ)
after_name some [] = None
after_name some (c ∷ cs) = if one_of (codes ";") c then (if some then Some cs else None) else after_name true cs

-- what follows a FieldType
abbrev pub after_field : List ℕ → Option (List ℕ)
after_field [] = None
after_field (c ∷ cs) =
    if is_base c then Some cs
    else if one_of (codes "L") c then after_name false cs
    else if one_of (codes "[") c then after_field cs
    else None

-- a text of which so much is left is read to its end
abbrev pub at_end : Option (List ℕ) → Bool
at_end None = false
at_end (Some []) = true
at_end (Some (c ∷ cs)) = false

-- FieldDescriptor
unfoldable pub is_field : List ℕ → Bool
is_field us = at_end (after_field us)

-- what follows the parameters of a method and the `)` after them; there are at most so many
unfoldable pub after_parameters : ℕ → List ℕ → Option (List ℕ)
after_parameters zero us = None
after_parameters (suc n) [] = None
after_parameters (suc n) (c ∷ cs) = if one_of (codes ")") c then Some cs else option_and_then (after_parameters n) (after_field (c ∷ cs))

-- ReturnDescriptor
unfoldable pub is_return : List ℕ → Bool
is_return us = pointwise nat_eq us (codes "V") || is_field us

abbrev pub return_follows : Option (List ℕ) → Bool
return_follows None = false
return_follows (Some us) = is_return us

-- MethodDescriptor
unfoldable pub is_method : List ℕ → Bool
is_method [] = false
is_method (c ∷ cs) = one_of (codes "(") c && return_follows (after_parameters (length cs) cs)

abbrev pub is_array : List ℕ → Bool
is_array [] = false
is_array (c ∷ cs) = one_of (codes "[") c

-- what the text can stand for
unfoldable pub text_kind : List ℕ → TextKind
text_kind us =
    if is_array us then (if is_field us then text.Array else text.NoArray)
    else if is_field us then text.Field
    else if is_method us then text.Method
    else if pointwise nat_eq us (codes "Code") then text.Code
    else if pointwise nat_eq us (codes "java/lang/Object") then text.Object
    else text.Plain
