-- The kinds of the arguments that the linker reads from the descriptor of a method are those of its parameters.
use Rattle.std.proofs.Common.{◌≡◌, ℕ, Bool, true, false, ◌||◌, cond, eqb, List, [], ◌∷◌, ◌++◌, map, Option, Some, None, refl, sym, ap, ◌∙◌, codes, append-nil, append_assoc}
use Rattle.std.proofs.lemmas.Bool.{false≢true, eqb-false, ne_eqb}
use Rattle.std.proofs.lemmas.Option.{same_Some, none-some}
use Rattle.scw_classfile.specs.Descriptor.{after_name, after_parameters, at_end, is_field, is_method, is_return}
use Rattle.scw_core.specs.Text.{units_of_name}
use Rattle.scw_core.specs.Types.{Name}
use Rattle.scw_core.specs.declared.class.Member.{Member}
use Rattle.scw_core.specs.declared.class.Parameter.{Parameter}
use Rattle.scw_frame.specs.declared.value.ValueKind.{ValueKind}
use Rattle.scw_frame.specs.declared.value.ValueKind.TheVariants as value
use Rattle.scw_gen.specs.Outcome.{◌>>=◌}
use Rattle.scw_gen.specs.Around.{Around, kind_in}
use Rattle.scw_gen.specs.Name.{closed, descriptor, field_text, get_name, kind_of_parameter, opened, parameters_text, result_text}
use Rattle.scw_gen.specs.Typed.{kinds_of_parameters}
use Rattle.scw_gen.specs.declared.kind.Kind.{Kind}
use Rattle.scw_gen.specs.declared.kind.Kind.TheVariants as kind
use Rattle.scw_gen.proofs.Steps.{bound}
use Rattle.scw_link.specs.Descriptor.{after_first, kinds_from, parameter_kinds}
use Rattle.scw_back.proofs.Placed.{value_of_kind}

-- ---- names without the `;` that ends them in descriptors

abbrev pub Unended : List ℕ → Type 0
Unended [] = Unit {0}
Unended (c ∷ cs) = (eqb c 59 ≡ false) × Unended cs

-- more follows
not_at_end : (b : Bool) (cs : List ℕ) → at_end (cond b (Some (cs ++ 59 ∷ [])) None) ≡ true → ⊥
not_at_end false cs h = false≢true h
not_at_end true [] h = false≢true h
not_at_end true (c ∷ cs) h = false≢true h

unended : (b : Bool) (own : List ℕ) → at_end (after_name b (own ++ 59 ∷ [])) ≡ true → Unended own
unended b [] h = tt
unended b (c ∷ cs) h = by (eqb 59 c) refl h (unended true cs)
  where
    by : (x : Bool) → eqb 59 c ≡ x → at_end (cond (x || false) (cond b (Some (cs ++ 59 ∷ [])) None) (after_name true (cs ++ 59 ∷ []))) ≡ true
        → (at_end (after_name true (cs ++ 59 ∷ [])) ≡ true → Unended cs) → Unended (c ∷ cs)
    by true e g rest = absurd (not_at_end b cs g)
    by false e g rest = (ne_eqb c 59 (λ z. eqb-false 59 c e (sym z)), rest g)

-- the name of a class whose accessor has a descriptor
pub own_unended : (g : Around) → is_method (get_name g).descriptor ≡ true → Unended (units_of_name g.class.binary_name)
unfolding is_method is_return is_field after_parameters
own_unended g h = unended false (units_of_name g.class.binary_name) h

-- ---- the kinds of fields

-- the kinds of parameters, of which the first begins here
abbrev from_here : List ℕ → List ValueKind
from_here text = kinds_from (after_first 73) text

-- behind the `L` of a class name
abbrev in_name : List ℕ → List ValueKind
in_name text = kinds_from (after_first 76) text

name_passed : (own rest : List ℕ) → Unended own → in_name ((own ++ codes ";") ++ rest) ≡ from_here rest
name_passed [] rest u = refl
name_passed (c ∷ own) rest u = ap (λ b. kinds_from (cond b (after_first 73) (after_first 76)) ((own ++ codes ";") ++ rest)) u.0 ∙ name_passed own rest u.1

kind_read : (own : Name) (k : Kind) (rest : List ℕ) → Unended (units_of_name own) → from_here (field_text own k ++ rest) ≡ value_of_kind k ∷ from_here rest
kind_read own kind.Unit rest u = refl
kind_read own kind.Boolean rest u = refl
kind_read own kind.Int rest u = refl
kind_read own kind.Long rest u = refl
kind_read own kind.String rest u = refl
kind_read own kind.Strings rest u = refl
kind_read own kind.This rest u = ap (λ ks. value.Reference ∷ ks) (name_passed (units_of_name own) rest u)

-- the texts of parameters, one behind the other
abbrev fields_text : Name → List Kind → List ℕ
fields_text own [] = []
fields_text own (k ∷ ks) = field_text own k ++ fields_text own ks

kinds_read : (own : Name) (ks : List Kind) (rest : List ℕ) → Unended (units_of_name own) → from_here ((fields_text own ks ++ codes ")") ++ rest) ≡ map value_of_kind ks
kinds_read own [] rest u = refl
kinds_read own (k ∷ ks) rest u =
    let text = field_text own k in
    let more = fields_text own ks in
    ap (λ l. from_here (l ++ rest)) (append_assoc text more (codes ")"))
    ∙ ap from_here (append_assoc text (more ++ codes ")") rest)
    ∙ kind_read own k ((more ++ codes ")") ++ rest) u
    ∙ ap (λ l. value_of_kind k ∷ l) (kinds_read own ks rest u)

-- ---- descriptors

record Parameters (g : Around) (text out : List ℕ) (xs : List Parameter) : Type 0 where
  kinds : List Kind
  kinds_are : kinds_of_parameters g xs ≡ Some kinds
  is : out ≡ text ++ fields_text g.class.binary_name kinds

parameters_are : (g : Around) (text out : List ℕ) (xs : List Parameter) → parameters_text g text xs ≡ Some out → Parameters g text out xs
unfolding parameters_text
parameters_are g text out [] h = record { kinds = []; kinds_are = refl; is = sym (same_Some text out h) ∙ sym (append-nil text) }
parameters_are g text out (x ∷ xs) h =
    let own = g.class.binary_name in
    let b = bound (kind_of_parameter g x) (λ k. parameters_text g (text ++ field_text own k) xs) out h in
    let r = parameters_are g (text ++ field_text own b.0) out xs b.2 in
    record {
      kinds = b.0 ∷ r.kinds;
      kinds_are = ap (λ o. o >>= λ k. kinds_of_parameters g xs >>= λ ks. Some (k ∷ ks)) b.1 ∙ ap (λ o. o >>= λ ks. Some (b.0 ∷ ks)) r.kinds_are;
      is = r.is ∙ append_assoc text (field_text own b.0) (fields_text own r.kinds);
    }

closed_is : (g : Around) (text out : List ℕ) (k : Option Kind) → closed g text k ≡ Some out → (rest : List ℕ) × (out ≡ (text ++ codes ")") ++ rest)
closed_is g text out None h = absurd (none-some out h)
closed_is g text out (Some k) h = (result_text g.class.binary_name k, sym (same_Some ((text ++ codes ")") ++ result_text g.class.binary_name k) out h))

-- what the linker reads
pub record Read (g : Around) (m : Member) (text : List ℕ) : Type 0 where
  pub kinds : List Kind
  pub kinds_are : kinds_of_parameters g m.parameters ≡ Some kinds
  pub is : parameter_kinds text ≡ map value_of_kind kinds

pub descriptor_read : (g : Around) (m : Member) (text : List ℕ) → Unended (units_of_name g.class.binary_name) → descriptor g m ≡ Some text → Read g m text
descriptor_read g m text u h =
    let own = g.class.binary_name in
    let b = bound (parameters_text g opened m.parameters) (λ t. closed g t (kind_in g m.result)) text h in
    let r = parameters_are g opened b.0 m.parameters b.1 in
    let c = closed_is g b.0 text (kind_in g m.result) b.2 in
    record {
      kinds = r.kinds;
      kinds_are = r.kinds_are;
      is = ap parameter_kinds c.1 ∙ ap (λ t. parameter_kinds ((t ++ codes ")") ++ c.0)) r.is ∙ kinds_read own r.kinds c.0 u;
    }
