-- The descriptors that methods have are descriptors of methods, and fit their entries, where the name of the class does.
use Rattle.std.proofs.Common.{◌≡◌, ℕ, zero, suc, ◌≤◌, Bool, true, false, ◌||◌, cond, eqb, List, [], ◌∷◌, ◌++◌, length, Some, None, option_and_then, refl, ap, ◌∙◌, arith, append_assoc, length-append, codes}
use Rattle.std.proofs.lemmas.Bool.{false≢true, and_from, and_parts}
use Rattle.scw_text.specs.Modified.{is_unit}
use Rattle.scw_classfile.specs.Descriptor.{after_field, after_name, after_parameters, at_end, is_field, is_method, is_return, return_follows}
use Rattle.scw_core.specs.Text.{units_of_name}
use Rattle.scw_core.specs.Types.{Name}
use Rattle.scw_gen.specs.Around.{Around}
use Rattle.scw_gen.specs.Name.{field_text, get_name, opened, result_text}
use Rattle.scw_gen.specs.declared.kind.Kind.{Kind}
use Rattle.scw_gen.specs.declared.kind.Kind.TheVariants as kind
use Rattle.scw_built.proofs.Sound.{are_units}

-- ---- the name of a class in a descriptor

-- behind the `L`, it is read to its end
abbrev pub IsOwn : List ℕ → Type 0
IsOwn own = at_end (after_name false (own ++ 59 ∷ [])) ≡ true

-- the name of a class whose accessor has a descriptor
pub own_named : (g : Around) → is_method (get_name g).descriptor ≡ true → IsOwn (units_of_name g.class.binary_name)
unfolding is_method is_return is_field after_parameters
own_named g h = h

-- more follows
not_at_end : (b : Bool) (cs : List ℕ) → at_end (cond b (Some (cs ++ 59 ∷ [])) None) ≡ true → ⊥
not_at_end false cs h = false≢true h
not_at_end true [] h = false≢true h
not_at_end true (c ∷ cs) h = false≢true h

name_read : (b : Bool) (own rest : List ℕ) → at_end (after_name b (own ++ 59 ∷ [])) ≡ true → after_name b ((own ++ 59 ∷ []) ++ rest) ≡ Some rest
name_read true [] rest h = refl
name_read false [] rest h = absurd (false≢true h)
name_read b (c ∷ cs) rest h = by (eqb 59 c) h (name_read true cs rest)
  where
    by : (x : Bool) → at_end (cond (x || false) (cond b (Some (cs ++ 59 ∷ [])) None) (after_name true (cs ++ 59 ∷ []))) ≡ true
        → (at_end (after_name true (cs ++ 59 ∷ [])) ≡ true → after_name true ((cs ++ 59 ∷ []) ++ rest) ≡ Some rest)
        → cond (x || false) (cond b (Some ((cs ++ 59 ∷ []) ++ rest)) None) (after_name true ((cs ++ 59 ∷ []) ++ rest)) ≡ Some rest
    by true g later = absurd (not_at_end b cs g)
    by false g later = later g

-- ---- the texts of values

field_read : (own : Name) (k : Kind) (rest : List ℕ) → IsOwn (units_of_name own) → after_field (field_text own k ++ rest) ≡ Some rest
field_read own kind.Unit rest u = refl
field_read own kind.Boolean rest u = refl
field_read own kind.Int rest u = refl
field_read own kind.Long rest u = refl
field_read own kind.String rest u = refl
field_read own kind.Strings rest u = refl
field_read own kind.This rest u = name_read false (units_of_name own) rest u

-- a parameter comes first
field_first : (own : Name) (k : Kind) (n : ℕ) (rest : List ℕ) → after_parameters (suc n) (field_text own k ++ rest) ≡ option_and_then (after_parameters n) (after_field (field_text own k ++ rest))
unfolding after_parameters
field_first own kind.Unit n rest = refl
field_first own kind.Boolean n rest = refl
field_first own kind.Int n rest = refl
field_first own kind.Long n rest = refl
field_first own kind.String n rest = refl
field_first own kind.Strings n rest = refl
field_first own kind.This n rest = refl

field_long : (own : Name) (k : Kind) → 1 ≤ length (field_text own k)
field_long own kind.Unit = omega arith
field_long own kind.Boolean = omega arith
field_long own kind.Int = omega arith
field_long own kind.Long = omega arith
field_long own kind.String = omega arith
field_long own kind.Strings = omega arith
field_long own kind.This = omega arith

return_read : (own : Name) (k : Kind) → IsOwn (units_of_name own) → is_return (result_text own k) ≡ true
unfolding is_return is_field
return_read own kind.Unit u = refl
return_read own kind.Boolean u = refl
return_read own kind.Int u = refl
return_read own kind.Long u = refl
return_read own kind.String u = refl
return_read own kind.Strings u = refl
return_read own kind.This u = u

-- ---- parameters

-- the texts of parameters, one behind the other
abbrev pub fields_text : Name → List Kind → List ℕ
fields_text own [] = []
fields_text own (k ∷ ks) = field_text own k ++ fields_text own ks

fields_long : (own : Name) (ks : List Kind) → length ks ≤ length (fields_text own ks)
fields_long own [] = omega arith
fields_long own (k ∷ ks) =
    let a = length-append (field_text own k) (fields_text own ks) in
    let b = field_long own k in
    let c = fields_long own ks in omega (arith, a, b, c)

parameters_read : (own : Name) (ks : List Kind) (rest : List ℕ) (n : ℕ) → suc (length ks) ≤ n → IsOwn (units_of_name own) → after_parameters n ((fields_text own ks ++ codes ")") ++ rest) ≡ Some rest
unfolding after_parameters
parameters_read own ks rest zero h u = absurd (omega (arith, h))
parameters_read own [] rest (suc n) h u = refl
parameters_read own (k ∷ ks) rest (suc n) h u =
    let text = field_text own k in
    let more = fields_text own ks in
    ap (λ l. after_parameters (suc n) (l ++ rest)) (append_assoc text more (codes ")"))
    ∙ ap (after_parameters (suc n)) (append_assoc text (more ++ codes ")") rest)
    ∙ field_first own k n ((more ++ codes ")") ++ rest)
    ∙ ap (option_and_then (after_parameters n)) (field_read own k ((more ++ codes ")") ++ rest) u)
    ∙ parameters_read own ks rest n (omega (arith, h)) u

-- the descriptor of a method by the kinds of its parameters and its result
abbrev pub method_text : Name → List Kind → Kind → List ℕ
method_text own ks k = ((opened ++ fields_text own ks) ++ codes ")") ++ result_text own k

pub method_text-is : (own : Name) (ks : List Kind) (k : Kind) → IsOwn (units_of_name own) → is_method (method_text own ks k) ≡ true
unfolding is_method
method_text-is own ks k u =
    let fields = fields_text own ks in
    let result = result_text own k in
    let a = length-append (fields ++ codes ")") result in
    let b = length-append fields (codes ")") in
    let c = fields_long own ks in
    ap return_follows (parameters_read own ks result (length ((fields ++ codes ")") ++ result)) (omega (arith, a, b, c)) u) ∙ return_read own k u

-- ---- units

pub units-append : (a b : List ℕ) → are_units a ≡ true → are_units b ≡ true → are_units (a ++ b) ≡ true
units-append [] b h k = k
units-append (u ∷ a) b h k = let p = and_parts (is_unit u) (are_units a) h in and_from (is_unit u) (are_units (a ++ b)) p.0 (units-append a b p.1 k)

field_units : (own : Name) (k : Kind) → are_units (units_of_name own) ≡ true → are_units (field_text own k) ≡ true
field_units own kind.Unit u = refl
field_units own kind.Boolean u = refl
field_units own kind.Int u = refl
field_units own kind.Long u = refl
field_units own kind.String u = refl
field_units own kind.Strings u = refl
field_units own kind.This u = units-append (units_of_name own) (codes ";") u refl

result_units : (own : Name) (k : Kind) → are_units (units_of_name own) ≡ true → are_units (result_text own k) ≡ true
result_units own kind.Unit u = refl
result_units own kind.Boolean u = refl
result_units own kind.Int u = refl
result_units own kind.Long u = refl
result_units own kind.String u = refl
result_units own kind.Strings u = refl
result_units own kind.This u = field_units own kind.This u

fields_units : (own : Name) (ks : List Kind) → are_units (units_of_name own) ≡ true → are_units (fields_text own ks) ≡ true
fields_units own [] u = refl
fields_units own (k ∷ ks) u = units-append (field_text own k) (fields_text own ks) (field_units own k u) (fields_units own ks u)

pub method_text-units : (own : Name) (ks : List Kind) (k : Kind) → are_units (units_of_name own) ≡ true → are_units (method_text own ks k) ≡ true
method_text-units own ks k u =
    units-append ((opened ++ fields_text own ks) ++ codes ")") (result_text own k)
    (units-append (opened ++ fields_text own ks) (codes ")") (fields_units own ks u) refl) (result_units own k u)
