-- The name and the descriptor of a method that has the form of `main`.
use Rattle.std.proofs.Common.{◌≡◌, refl, sym, ap, ◌∙◌, Bool, true, false, cond, not, List, [], ◌∷◌, ◌++◌, Option, Some, None, codes}
use Rattle.std.proofs.lemmas.Bool.{and_parts, true≢false}
use Rattle.std.specs.Cmp.Lexicographic.{bytes_decides}
use Rattle.std.specs.Prelude.{◌&&◌}
use Rattle.scw_text.specs.declared.number.SymId.{SymId}
use Rattle.scw_classfile.specs.Descriptor.{after_parameters, is_method, is_return}
use Rattle.scw_core.specs.declared.class.Member.{Member}
use Rattle.scw_core.specs.declared.class.Parameter.{Parameter}
use Rattle.scw_core.specs.declared.symbol.TheConstants.{ARRAY, STRING, UNIT}
use Rattle.scw_core.specs.Entry.{is_array_of_strings, is_class, is_main, is_one_class, is_string_array, is_string_ref, is_strings, is_unit, is_void, none_of, no_types, takes_strings}
use Rattle.scw_core.specs.Program.{type_at}
use Rattle.scw_core.specs.Text.{units_of_name}
use Rattle.scw_core.specs.Types.{CoreType, Erased, Plain, Plains, arr, boolean, bounds, char, cls, erased_type, fun, has, int, long, mem, more_plains, no_plains, nullary, par, poly, ref, same_symbol, sing, source_type, unit_ref, unknown, void, with_all}
use Rattle.scw_gen.specs.Around.{Around, kind_in}
use Rattle.scw_gen.specs.Kind.{is_string, kind_of, kind_of_applied, kind_of_class}
use Rattle.scw_gen.specs.Name.{closed, descriptor, described, field_text, kind_of_parameter, method_name, opened, own_method, parameters_text}
use Rattle.scw_gen.specs.Outcome.{◌>>=◌}
use Rattle.scw_gen.specs.Typed.{kinds_of_parameters}
use Rattle.scw_gen.specs.declared.kind.Kind.TheVariants as kind
use Rattle.scw_gen.specs.declared.pool.MethodName.{MethodName}
use Rattle.scw_gen.proofs.PoolWritable.{described-is}
use Rattle.scw_back.proofs.CoreCalls.{all-three, none-there}
use Rattle.scw_back.proofs.MainMember.{main-parts}
use Rattle.scw_back.proofs.Maps.{symbol-itself, symbol-same}

-- ---- the type of strings, and that of arrays of strings

no-plains : (ts : Plains) → no_types ts ≡ true → ts ≡ no_plains
no-plains no_plains h = refl
no-plains (more_plains t ts) h = absurd (true≢false (sym h))

symbol-turned : (c d : SymId) → same_symbol c d ≡ true → same_symbol d c ≡ true
symbol-turned c d h = let e = symbol-same c d h in ap (λ a. same_symbol d a) e ∙ symbol-itself d

class-string : (t : Plain) → is_class STRING t ≡ true → is_string t ≡ true
class-string (cls q d ts) h =
    let a = and_parts (same_symbol STRING d) (no_types ts) h in
    let e = no-plains ts a.1 in
    ap (λ ts. is_string (cls q d ts)) e ∙ symbol-turned STRING d a.0
class-string (mem q s) h = absurd (true≢false (sym h))
class-string (par s) h = absurd (true≢false (sym h))
class-string (sing q) h = absurd (true≢false (sym h))
class-string (with_all ts) h = absurd (true≢false (sym h))
class-string (fun xs t) h = absurd (true≢false (sym h))
class-string (poly ss t) h = absurd (true≢false (sym h))
class-string (nullary t) h = absurd (true≢false (sym h))
class-string (bounds t u) h = absurd (true≢false (sym h))
class-string (has name) h = absurd (true≢false (sym h))
class-string unknown h = absurd (true≢false (sym h))

kind-applied : (own c : SymId) (ts : Plains) → same_symbol c ARRAY ≡ true → is_one_class STRING ts ≡ true → kind_of_applied own c ts ≡ Some kind.Strings
kind-applied own c no_plains a h = absurd (true≢false (sym h))
kind-applied own c (more_plains t ts) a h =
    let b = and_parts (is_class STRING t) (no_types ts) h in
    ap (λ us. kind_of_applied own c (more_plains t us)) (no-plains ts b.1)
    ∙ ap (λ x. cond (x && is_string t) (Some kind.Strings) None) a
    ∙ ap (λ x. cond x (Some kind.Strings) None) (class-string t b.0)

plain-strings : (own : SymId) (t : Plain) → is_strings t ≡ true → kind_of own (source_type t) ≡ Some kind.Strings
plain-strings own (cls q c ts) h = let a = and_parts (same_symbol c ARRAY) (is_one_class STRING ts) h in kind-applied own c ts a.0 a.1
plain-strings own (mem q s) h = absurd (true≢false (sym h))
plain-strings own (par s) h = absurd (true≢false (sym h))
plain-strings own (sing q) h = absurd (true≢false (sym h))
plain-strings own (with_all ts) h = absurd (true≢false (sym h))
plain-strings own (fun xs t) h = absurd (true≢false (sym h))
plain-strings own (poly ss t) h = absurd (true≢false (sym h))
plain-strings own (nullary t) h = absurd (true≢false (sym h))
plain-strings own (bounds t u) h = absurd (true≢false (sym h))
plain-strings own (has name) h = absurd (true≢false (sym h))
plain-strings own unknown h = absurd (true≢false (sym h))

element-strings : (own : SymId) (e : Erased) → is_string_ref e ≡ true → kind_of own (erased_type (arr e)) ≡ Some kind.Strings
element-strings own void h = absurd (true≢false (sym h))
element-strings own boolean h = absurd (true≢false (sym h))
element-strings own char h = absurd (true≢false (sym h))
element-strings own int h = absurd (true≢false (sym h))
element-strings own long h = absurd (true≢false (sym h))
element-strings own unit_ref h = absurd (true≢false (sym h))
element-strings own (ref c) h = ap (λ x. cond x (Some kind.Strings) None) h
element-strings own (arr e) h = absurd (true≢false (sym h))

erased-strings : (own : SymId) (e : Erased) → is_string_array e ≡ true → kind_of own (erased_type e) ≡ Some kind.Strings
erased-strings own void h = absurd (true≢false (sym h))
erased-strings own boolean h = absurd (true≢false (sym h))
erased-strings own char h = absurd (true≢false (sym h))
erased-strings own int h = absurd (true≢false (sym h))
erased-strings own long h = absurd (true≢false (sym h))
erased-strings own unit_ref h = absurd (true≢false (sym h))
erased-strings own (ref c) h = absurd (true≢false (sym h))
erased-strings own (arr e) h = element-strings own e h

strings-kind : (own : SymId) (t : Option CoreType) → is_array_of_strings t ≡ true → (t >>= kind_of own) ≡ Some kind.Strings
strings-kind own None h = absurd (true≢false (sym h))
strings-kind own (Some (source_type t)) h = plain-strings own t h
strings-kind own (Some (erased_type e)) h = erased-strings own e h

-- ---- the type `Unit`

plain-unit : (own : SymId) (t : Plain) → is_class UNIT t ≡ true → kind_of own (source_type t) ≡ Some kind.Unit
plain-unit own (cls q d ts) h =
    let a = and_parts (same_symbol UNIT d) (no_types ts) h in
    ap (kind_of_applied own d) (no-plains ts a.1) ∙ ap (kind_of_class own) (sym (symbol-same UNIT d a.0))
plain-unit own (mem q s) h = absurd (true≢false (sym h))
plain-unit own (par s) h = absurd (true≢false (sym h))
plain-unit own (sing q) h = absurd (true≢false (sym h))
plain-unit own (with_all ts) h = absurd (true≢false (sym h))
plain-unit own (fun xs t) h = absurd (true≢false (sym h))
plain-unit own (poly ss t) h = absurd (true≢false (sym h))
plain-unit own (nullary t) h = absurd (true≢false (sym h))
plain-unit own (bounds t u) h = absurd (true≢false (sym h))
plain-unit own (has name) h = absurd (true≢false (sym h))
plain-unit own unknown h = absurd (true≢false (sym h))

erased-unit : (own : SymId) (e : Erased) → is_void e ≡ true → kind_of own (erased_type e) ≡ Some kind.Unit
erased-unit own void h = refl
erased-unit own boolean h = absurd (true≢false (sym h))
erased-unit own char h = absurd (true≢false (sym h))
erased-unit own int h = absurd (true≢false (sym h))
erased-unit own long h = absurd (true≢false (sym h))
erased-unit own unit_ref h = absurd (true≢false (sym h))
erased-unit own (ref c) h = absurd (true≢false (sym h))
erased-unit own (arr e) h = absurd (true≢false (sym h))

unit-kind : (own : SymId) (t : Option CoreType) → is_unit t ≡ true → (t >>= kind_of own) ≡ Some kind.Unit
unit-kind own None h = absurd (true≢false (sym h))
unit-kind own (Some (source_type t)) h = plain-unit own t h
unit-kind own (Some (erased_type e)) h = erased-unit own e h

-- ---- `main`

module _ (g : Around) (m : Member) (h : is_main g.table m ≡ true) where
  kind-strings : (xs : List Parameter) → takes_strings g.table xs ≡ true → (x : Parameter) × (xs ≡ x ∷ []) × (kind_of_parameter g x ≡ Some kind.Strings) × (kind_in g x.type_id ≡ Some kind.Strings)
  kind-strings [] h = absurd (true≢false (sym h))
  kind-strings (x ∷ xs) h =
      let a = all-three (not x.is_by_name) (is_array_of_strings (type_at g.table x.type_id)) (none_of xs) h in
      let k = strings-kind g.class.symbol (type_at g.table x.type_id) a.1 in
      (x, ap (λ ys. x ∷ ys) (none-there xs a.2), by_value x.is_by_name a.0 ∙ k, k)
    where
      by_value : (b : Bool) → not b ≡ true → cond b None (kind_in g x.type_id) ≡ kind_in g x.type_id
      by_value true h = absurd (true≢false (sym h))
      by_value false h = refl

  -- the one parameter is an array of strings
  pub main-kinds : (x : Parameter) × (m.parameters ≡ x ∷ []) × (kind_of_parameter g x ≡ Some kind.Strings) × (kind_in g x.type_id ≡ Some kind.Strings)
  main-kinds = kind-strings m.parameters (main-parts g.table m h).takes

  pub main-arguments : kinds_of_parameters g m.parameters ≡ Some (kind.Strings ∷ [])
  main-arguments =
      let a = main-kinds in
      ap (kinds_of_parameters g) a.1 ∙ ap (λ k. k >>= λ k. Some (k ∷ [])) a.2

  -- and the result is `()`
  pub main-result : kind_in g m.result ≡ Some kind.Unit
  main-result = unit-kind g.class.symbol (type_at g.table m.result) (main-parts g.table m h).gives_unit

  main-descriptor : descriptor g m ≡ Some (codes "([Ljava/lang/String;)V")
  unfolding parameters_text
  main-descriptor =
      let a = main-kinds in
      ap (λ xs. parameters_text g opened xs >>= λ text. closed g text (kind_in g m.result)) a.1
      ∙ ap (λ k. (k >>= λ k. Some (opened ++ field_text g.class.binary_name k)) >>= λ text. closed g text (kind_in g m.result)) a.2
      ∙ ap (closed g (opened ++ codes "[Ljava/lang/String;")) main-result

  main-text : m.name ≡ codes "main"
  main-text = (bytes_decides m.name (codes "main")).0 (main-parts g.table m h).name

  pub main-name : (n : MethodName) → method_name g m ≡ Some n → (n.name ≡ codes "main") × (n.descriptor ≡ codes "([Ljava/lang/String;)V")
  main-name n e =
      let d = described-is (own_method g (units_of_name m.name) (codes "([Ljava/lang/String;)V")) n (sym (ap (λ d. d >>= λ text. described (own_method g (units_of_name m.name) text)) main-descriptor) ∙ e) in
      (ap (λ (k : MethodName). k.name) (sym d.0) ∙ ap units_of_name main-text, ap (λ (k : MethodName). k.descriptor) (sym d.0))

  -- and it has them
  pub main-named : method_name g m ≡ Some (own_method g (codes "main") (codes "([Ljava/lang/String;)V"))
  unfolding is_method after_parameters is_return
  main-named =
      ap (λ d. d >>= λ text. described (own_method g (units_of_name m.name) text)) main-descriptor
      ∙ ap (λ name. described (own_method g (units_of_name name) (codes "([Ljava/lang/String;)V"))) main-text
