-- What a text stands for where it may be a class's name, a descriptor, or the name of code.
use Rattle.std.proofs.Common.{◌≡◌, ℕ, Bool, true, false, ◌||◌, eqb, cond, List, [], ◌∷◌, Option, Some, refl, sym, ap, ◌∙◌, subst, codes}
use Rattle.std.proofs.lemmas.Bool.{false≢true, and_parts, eqb-true, cases_Bool}
use Rattle.std.proofs.Common.{inl, inr}
use Rattle.scw_classfile.specs.declared.class_rule.ClassRule.TheVariants as class_rule
use Rattle.scw_classfile.specs.declared.index.Expected.{Expected}
use Rattle.scw_classfile.specs.declared.index.Expected.TheVariants as expected
use Rattle.scw_classfile.specs.declared.pool_entry.EntryKind.{EntryKind}
use Rattle.scw_classfile.specs.declared.pool_entry.EntryKind.TheVariants as kind
use Rattle.scw_classfile.specs.declared.pool_entry.TextKind.{TextKind}
use Rattle.scw_classfile.specs.declared.pool_entry.TextKind.TheVariants as text
use Rattle.scw_classfile.specs.Codec.{is_none, first_of_two, unless}
use Rattle.scw_classfile.specs.Descriptor.{one_of, is_field, is_method, is_array, text_kind}
use Rattle.scw_classfile.specs.Kinds.{kind_at, lets_some, text_passes, type_passes, is_class_text, index_flaw, text_flaw, type_flaw}

-- ---- texts

one_is : (k c : ℕ) → (eqb k c || false) ≡ true → k ≡ c
one_is k c e = elim (cases_Bool (eqb k c)) [ inl h ↦ eqb-true k c h | inr h ↦ (let f : false ≡ true = rw h at e in absurd (cc)) ]

opened : (cs : List ℕ) → is_method (40 ∷ cs) ≡ true → text_kind (40 ∷ cs) ≡ text.Method
unfolding text_kind is_field
opened cs h = rw h refl

-- the descriptor of a method is no other text
pub text_kind-method : (us : List ℕ) → is_method us ≡ true → text_kind us ≡ text.Method
unfolding is_method
text_kind-method [] h = absurd (false≢true h)
text_kind-method (c ∷ cs) h =
    let is : 40 ≡ c = one_is 40 c (and_parts (one_of (codes "(") c) _ h).0 in
    subst (λ n. is_method (n ∷ cs) ≡ true → text_kind (n ∷ cs) ≡ text.Method) is (opened cs) h

-- what is no array may name a class
pub is_class_text-plain : (us : List ℕ) → is_array us ≡ false → is_class_text (text_kind us) ≡ true
unfolding text_kind
is_class_text-plain us h = by (is_array us) (is_field us) _ h (rest (is_method us) _ _)
  where
    rest : (m c o : Bool) → is_class_text (cond m text.Method (cond c text.Code (cond o text.Object text.Plain))) ≡ true
    rest true c o = refl
    rest false true o = refl
    rest false false true = refl
    rest false false false = refl

    by : (a f : Bool) (k : TextKind) → a ≡ false → is_class_text k ≡ true → is_class_text (cond a (cond f text.Array text.NoArray) (cond f text.Field k)) ≡ true
    by true f k e r = absurd (false≢true (sym e))
    by false true k e r = refl
    by false false k e r = r

-- ---- indices

-- an index of something of the kind that is expected
pub index_right : (kinds : List EntryKind) (e : Expected) (n after : ℕ) (k : EntryKind) → kind_at kinds n ≡ Some k → lets_some 52 e (Some k) ≡ true → is_none (index_flaw 52 kinds e n after) ≡ true
index_right kinds e n after k at lets = ap (λ (o : Option EntryKind). is_none (unless (lets_some 52 e o) class_rule.Index after)) at ∙ ap (λ (b : Bool). is_none (unless b class_rule.Index after)) lets

-- an index of a text that passes the test
pub text_right : (kinds : List EntryKind) (test : TextKind → Bool) (n after : ℕ) (t : TextKind) → kind_at kinds n ≡ Some (kind.Utf8 t) → test t ≡ true → is_none (text_flaw 52 kinds test n after) ≡ true
text_right kinds test n after t at passes =
    ap (λ (o : Option EntryKind). is_none (first_of_two (unless (lets_some 52 expected.Text o) class_rule.Index after) (unless (text_passes test o) class_rule.Descriptor after))) at
    ∙ ap (λ (b : Bool). is_none (unless b class_rule.Descriptor after)) passes

-- an index of a name and type whose descriptor passes the test
pub type_right : (kinds : List EntryKind) (test : TextKind → Bool) (n after d : ℕ) (t : TextKind) → kind_at kinds n ≡ Some (kind.NameAndType d) → kind_at kinds d ≡ Some (kind.Utf8 t) → test t ≡ true → is_none (type_flaw 52 kinds test n after) ≡ true
type_right kinds test n after d t at named passes =
    ap (λ (o : Option EntryKind). is_none (first_of_two (unless (lets_some 52 expected.NameAndType o) class_rule.Index after) (unless (type_passes kinds test o) class_rule.Descriptor after))) at
    ∙ ap (λ (o : Option EntryKind). is_none (unless (text_passes test o) class_rule.Descriptor after)) named ∙ ap (λ (b : Bool). is_none (unless b class_rule.Descriptor after)) passes
