-- The test of a descriptor and its grammar say the same.
use Rattle.std.proofs.Common.{◌≡◌, ℕ, zero, suc, ◌<◌, ◌≤◌, Bool, true, false, ◌||◌, ◌&&◌, eqb, List, [], ◌∷◌, ◌++◌, length, get_or, Option, Some, None, cond, refl, sym, ap, inl, inr, ◌∙◌, subst, append_assoc, arith, codes, nat_eq, IsTrue, ◌↔◌}
use Rattle.std.proofs.lemmas.Bool.{cases_Bool, eqb-true, or_parts}
use Rattle.std.proofs.lemmas.List.{append-nil}
use Rattle.std.specs.Option.{option_and_then}
use Rattle.std.specs.List.{list_any}
use Rattle.std.proofs.lemmas.Option.{option_and_then_some}
use Rattle.std.proofs.Math.Bool.{or-true}
use Rattle.std.specs.Cmp.Lexicographic.{pointwise, same_text}
use Rattle.scw_classfile.specs.Descriptor.{one_of, is_base, after_name, after_field, after_parameters, at_end, is_field, is_return, return_follows, is_method}
use Rattle.scw_classfile.specs.DescriptorGrammar.{IsClassName, FieldDescriptor, base, object, array, ParameterDescriptors, none, more, ReturnDescriptor, void, field, MethodDescriptor, method}
use Rattle.scw_classfile.proofs.DescriptorLemmas.{after_parameters-more}

-- a text of one character has no other
one_is : (k c : ℕ) → (eqb k c || false) ≡ true → k ≡ c
one_is k c e = elim (cases_Bool (eqb k c)) [ inl h ↦ eqb-true k c h | inr h ↦ (let f : false ≡ true = rw h at e in absurd (cc)) ]

-- ---- class names

-- what `after_name` has read: a name and the `;` after it
record Named (some : Bool) (us rest : List ℕ) : Type 0 where
  name : List ℕ
  is : us ≡ name ++ (codes ";" ++ rest)
  lacks_end : list_any (one_of (codes ";")) name ≡ false
  first : some ≡ false → 0 < length name

name_read : (ends some : Bool) (c : ℕ) (cs rest : List ℕ) → one_of (codes ";") c ≡ ends → (after_name true cs ≡ Some rest → Named true cs rest)
    → cond ends (cond some (Some cs) None) (after_name true cs) ≡ Some rest → Named some (c ∷ cs) rest
name_read true true c cs rest test ih e =
    let is : 59 ≡ c = one_is 59 c test in
    let same : cs ≡ rest = cc in
    record { name = []; is = rw (sym is, same) refl; lacks_end = refl; first = λ f. absurd (cc) }
name_read true false c cs rest test ih e = absurd (cc)
name_read false some c cs rest test ih e =
    let n = ih e in
    record { name = c ∷ n.name; is = ap (λ (l : List ℕ). c ∷ l) n.is; lacks_end = rw test n.lacks_end; first = λ f. omega arith }

after_name-named : (some : Bool) (us rest : List ℕ) → after_name some us ≡ Some rest → Named some us rest
after_name-named some [] rest e = absurd (cc)
after_name-named some (c ∷ cs) rest e = name_read (one_of (codes ";") c) some c cs rest refl (after_name-named true cs rest) e

name_left : (name rest : List ℕ) → list_any (one_of (codes ";")) name ≡ false → after_name true (name ++ (codes ";" ++ rest)) ≡ Some rest
name_left [] rest e = refl
name_left (c ∷ cs) rest e =
    let p = or_parts (one_of (codes ";") c) (list_any (one_of (codes ";")) cs) e in
    let first = p.0 in
    rw first (name_left cs rest p.1)

-- a class name is read whole
after_name-whole : (name rest : List ℕ) → IsClassName name → after_name false (name ++ (codes ";" ++ rest)) ≡ Some rest
after_name-whole [] rest h = let some = h.some in absurd (omega arith)
after_name-whole (c ∷ cs) rest h =
    let p = or_parts (one_of (codes ";") c) (list_any (one_of (codes ";")) cs) h.lacks_end in
    let first = p.0 in
    rw first (name_left cs rest p.1)

-- ---- field descriptors

-- what `after_field` has read: a descriptor
record Typed (us rest : List ℕ) : Type 0 where
  type' : List ℕ
  is : us ≡ type' ++ rest
  holds : FieldDescriptor type'

field_read : (based classed arrayed : Bool) (c : ℕ) (cs rest : List ℕ) → is_base c ≡ based → one_of (codes "L") c ≡ classed → one_of (codes "[") c ≡ arrayed → (after_field cs ≡ Some rest → Typed cs rest)
    → cond based (Some cs) (cond classed (after_name false cs) (cond arrayed (after_field cs) None)) ≡ Some rest → Typed (c ∷ cs) rest
field_read true classed arrayed c cs rest b l a ih e = let same : cs ≡ rest = cc in record { type' = c ∷ []; is = rw same refl; holds = base c b }
field_read false true arrayed c cs rest b l a ih e =
    let is : 76 ≡ c = one_is 76 c l in
    let n = after_name-named false cs rest e in
    record {
      type' = codes "L" ++ (n.name ++ codes ";");
      is = rw (sym is) (ap (λ (k : List ℕ). 76 ∷ k) (n.is ∙ sym (append_assoc n.name (codes ";") rest)));
      holds = object n.name (record { some = n.first refl; lacks_end = n.lacks_end });
    }
field_read false false true c cs rest b l a ih e =
    let is : 91 ≡ c = one_is 91 c a in
    let t = ih e in
    record { type' = codes "[" ++ t.type'; is = rw (sym is) (ap (λ (k : List ℕ). 91 ∷ k) t.is); holds = array t.type' t.holds }
field_read false false false c cs rest b l a ih e = absurd (cc)

after_field-typed : (us rest : List ℕ) → after_field us ≡ Some rest → Typed us rest
after_field-typed [] rest e = absurd (cc)
after_field-typed (c ∷ cs) rest e = field_read (is_base c) (one_of (codes "L") c) (one_of (codes "[") c) c cs rest refl refl refl (after_field-typed cs rest) e

-- a field descriptor is read whole
after_field-whole : (us rest : List ℕ) → FieldDescriptor us → after_field (us ++ rest) ≡ Some rest
after_field-whole us rest (base c h) = rw h refl
after_field-whole us rest (object name h) = rw (append_assoc name (codes ";") rest) (after_name-whole name rest h)
after_field-whole us rest (array component h) = after_field-whole component rest h

ended : (o : Option (List ℕ)) → at_end o ≡ true → o ≡ Some []
ended None e = absurd (cc)
ended (Some []) e = refl
ended (Some (c ∷ cs)) e = absurd (cc)

field_of_test : (us : List ℕ) → is_field us ≡ true → FieldDescriptor us
unfolding is_field
field_of_test us e =
    let t = after_field-typed us [] (ended (after_field us) e) in
    subst FieldDescriptor (sym (t.is ∙ append-nil t.type')) t.holds

test_of_field : (us : List ℕ) → FieldDescriptor us → is_field us ≡ true
unfolding is_field
test_of_field us h = let whole = after_field-whole us [] h in let e : after_field us ≡ Some [] = rw append-nil at whole in rw e refl

-- the test of a field descriptor and the grammar say the same
pub is_field-grammar : (answer : Bool) (us : List ℕ) → answer ≡ is_field us → IsTrue answer ↔ FieldDescriptor us
is_field-grammar answer us e = (λ h. field_of_test us (sym e ∙ h), λ h. e ∙ test_of_field us h)

-- ---- method descriptors

-- what `after_parameters` has read: descriptors and the `)` after them
record Listed (us rest : List ℕ) : Type 0 where
  parameters : List ℕ
  is : us ≡ parameters ++ (codes ")" ++ rest)
  holds : ParameterDescriptors parameters

joined : (us mid rest : List ℕ) → Typed us mid → Listed mid rest → Listed us rest
joined us mid rest t l = record {
  parameters = t.type' ++ l.parameters;
  is = t.is ∙ (ap (λ (k : List ℕ). t.type' ++ k) l.is ∙ sym (append_assoc t.type' l.parameters (codes ")" ++ rest)));
  holds = more t.type' l.parameters t.holds l.holds;
}

parameter_read : (ends : Bool) (n c : ℕ) (cs rest : List ℕ) → one_of (codes ")") c ≡ ends → ((mid : List ℕ) → after_parameters n mid ≡ Some rest → Listed mid rest)
    → cond ends (Some cs) (option_and_then (after_parameters n) (after_field (c ∷ cs))) ≡ Some rest → Listed (c ∷ cs) rest
parameter_read true n c cs rest test ih e =
    let is : 41 ≡ c = one_is 41 c test in
    let same : cs ≡ rest = cc in
    record { parameters = []; is = rw (sym is, same) refl; holds = none }
parameter_read false n c cs rest test ih e =
    option_and_then_some (after_parameters n) (after_field (c ∷ cs)) rest e
    (λ mid m l. joined (c ∷ cs) mid rest (after_field-typed (c ∷ cs) mid m) (ih mid l))

after_parameters-listed : (n : ℕ) (us rest : List ℕ) → after_parameters n us ≡ Some rest → Listed us rest
unfolding after_parameters
after_parameters-listed zero us rest e = absurd (cc)
after_parameters-listed (suc n) [] rest e = absurd (cc)
after_parameters-listed (suc n) (c ∷ cs) rest e = parameter_read (one_of (codes ")") c) n c cs rest refl (λ mid m. after_parameters-listed n mid rest m) e

-- no field descriptor begins with `)`
field_begins : (us rest : List ℕ) → FieldDescriptor us → (1 ≤ length (us ++ rest)) × (get_or (us ++ rest) 0 0 ≡ 41 → ⊥)
field_begins us rest (base c h) = (omega arith, λ is. let other : is_base 41 ≡ true = rw is at h in absurd (cc))
field_begins us rest (object name h) = (omega arith, λ is. omega arith)
field_begins us rest (array component h) = (omega arith, λ is. omega arith)

-- the parameters are read whole
after_parameters-whole : (us rest : List ℕ) → ParameterDescriptors us → after_parameters (length (us ++ (codes ")" ++ rest))) (us ++ (codes ")" ++ rest)) ≡ Some rest
unfolding after_parameters
after_parameters-whole us rest none = refl
after_parameters-whole us rest (more first others h hs) =
    let tail = others ++ (codes ")" ++ rest) in
    let begins = field_begins first tail h in
    let one = after_parameters-more (first ++ tail) begins.0 begins.1 in
    let two = rw (after_field-whole first tail h) at one in
    rw (append_assoc first others (codes ")" ++ rest)) (two ∙ after_parameters-whole others rest hs)

return_by : (void' : Bool) (us : List ℕ) → pointwise nat_eq us (codes "V") ≡ void' → (void' || is_field us) ≡ true → ReturnDescriptor us
return_by true us is e = subst ReturnDescriptor (sym (same_text us (codes "V") (sym is))) void
return_by false us is e = field us (field_of_test us e)

return_of_test : (us : List ℕ) → is_return us ≡ true → ReturnDescriptor us
unfolding is_return
return_of_test us e = return_by (pointwise nat_eq us (codes "V")) us refl e

test_of_return : (us : List ℕ) → ReturnDescriptor us → is_return us ≡ true
unfolding is_return
test_of_return us void = refl
test_of_return us (field same h) = rw (test_of_field us h, or-true) refl

returned_read : (o : Option (List ℕ)) → return_follows o ≡ true → (rest : List ℕ) × (o ≡ Some rest) × (is_return rest ≡ true)
returned_read None e = absurd (cc)
returned_read (Some rest) e = (rest, refl, e)

method_is : (c : ℕ) (cs parameters returned : List ℕ) → 40 ≡ c → cs ≡ parameters ++ (codes ")" ++ returned) → codes "(" ++ (parameters ++ (codes ")" ++ returned)) ≡ c ∷ cs
method_is c cs parameters returned is e = rw (sym is, e) refl

method_read : (begins : Bool) (c : ℕ) (cs : List ℕ) → one_of (codes "(") c ≡ begins → (begins && return_follows (after_parameters (length cs) cs)) ≡ true → MethodDescriptor (c ∷ cs)
method_read true c cs test e =
    let is : 40 ≡ c = one_is 40 c test in
    let r = returned_read (after_parameters (length cs) cs) e in
    let l = after_parameters-listed (length cs) cs r.0 r.1 in
    let whole = method l.parameters r.0 l.holds (return_of_test r.0 r.2) in
    subst MethodDescriptor (method_is c cs l.parameters r.0 is l.is) whole
method_read false c cs test e = absurd (cc)

method_of_test : (us : List ℕ) → is_method us ≡ true → MethodDescriptor us
unfolding is_method
method_of_test [] e = absurd (cc)
method_of_test (c ∷ cs) e = method_read (one_of (codes "(") c) c cs refl e

test_of_method : (us : List ℕ) → MethodDescriptor us → is_method us ≡ true
unfolding is_method
test_of_method us (method parameters returned h r) = rw (after_parameters-whole parameters returned h) (test_of_return returned r)

-- the test of a method descriptor and the grammar say the same
pub is_method-grammar : (answer : Bool) (us : List ℕ) → answer ≡ is_method us → IsTrue answer ↔ MethodDescriptor us
is_method-grammar answer us e = (λ h. method_of_test us (sym e ∙ h), λ h. e ∙ test_of_method us h)
