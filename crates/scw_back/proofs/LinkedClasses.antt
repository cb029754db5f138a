-- The classes of a program that is linked from one generated file, and what its calls run.
use Rattle.std.proofs.Common.{◌≡◌, ℕ, zero, suc, ◌+◌, Bool, true, false, not, ltb, List, [], ◌∷◌, ◌++◌, map, length, Option, Some, None, unwrap_or, slice_get, position, refl, sym, ap, ◌∙◌, arith, codes}
use Rattle.std.specs.List.{list_all, position_or_len, range_with_len}
use Rattle.std.specs.Option.{option_map}
use Rattle.std.specs.Cmp.Lexicographic.{same_text}
use Rattle.std.proofs.lemmas.Bool.{and_parts, cond-false, cond-true, false≢true, le-ltb, not-true, not_from_false}
use Rattle.std.proofs.lemmas.Option.{slice_get-map}
use Rattle.scw_classfile.specs.declared.class_file.ClassFile.{ClassFile}
use Rattle.scw_classfile.specs.declared.class_file.MemberInfo.{MemberInfo}
use Rattle.scw_classfile.specs.declared.pool_entry.PoolEntry.{PoolEntry}
use Rattle.scw_core.specs.Program as core
use Rattle.scw_core.specs.declared.class.CoreClass.{CoreClass}
use Rattle.scw_frame.specs.declared.operation.BuiltIn.TheVariants as built
use Rattle.scw_frame.specs.declared.program.Class.{Class}
use Rattle.scw_frame.specs.declared.program.Program.{Program}
use Rattle.scw_frame.specs.declared.program.Target.{Target}
use Rattle.scw_frame.specs.declared.program.Target.TheVariants as target
use Rattle.scw_gen.specs.Generate.{ends_in_dollar, file_with}
use Rattle.scw_link.specs.Ancestors.{ancestors_of, supers_of}
use Rattle.scw_link.specs.BuiltInMethods.{built_in_method}
use Rattle.scw_link.specs.BuiltIns.{built_in_fields, built_in_name, built_in_number}
use Rattle.scw_link.specs.Classes.{class_number, is_class, parents, superclasses}
use Rattle.scw_link.specs.Linked.{class_at, getter_target, program_with, selected}
use Rattle.scw_link.specs.Members.{target_in}
use Rattle.scw_link.specs.Names.{and_then, at, class_name, is_text, or_else, same}
use Rattle.scw_link.specs.Selectors.{selectors_of}
use Rattle.scw_link.specs.Site.{Selector, Site}
use Rattle.scw_step.specs.CallStep.{found, target_of}
use Rattle.scw_back.proofs.Firsts.{first-position}
use Rattle.scw_back.proofs.Loaded.{IsClass}
use Rattle.scw_back.proofs.Placed.{has_machine_text}
use Rattle.scw_back.proofs.SelectorNumbers.{same-refl}

-- ---- the machine's own classes have other names

-- a name that doesn't end in `$` is another one
other_name : (own name : List ℕ) → ends_in_dollar own ≡ true → not (ends_in_dollar name) ≡ true → same own name ≡ false
other_name own name d n = by (same own name) refl
  where
    by : (b : Bool) → same own name ≡ b → b ≡ false
    by false e = refl
    by true e = absurd (false≢true (sym (not-true (ends_in_dollar name) n) ∙ (ap ends_in_dollar (sym (same_text own name (sym e))) ∙ d)))

-- none of these has the name
none_named : {A : Type 0} (name : A → List ℕ) (own : List ℕ) (xs : List A) → ends_in_dollar own ≡ true → list_all (λ x. not (ends_in_dollar (name x))) xs ≡ true → position (λ x. same own (name x)) xs ≡ None
none_named {A} name own xs d h =
    let n = position_or_len (λ x. same own (name x)) xs in
    let all = passed xs h in
    cond-false (ltb n (length xs)) (Some n) None (le-ltb n (length xs) (omega (arith, all)))
  where
    passed : (ys : List A) → list_all (λ x. not (ends_in_dollar (name x))) ys ≡ true → position_or_len (λ x. same own (name x)) ys ≡ length ys
    passed [] e = refl
    passed (y ∷ ys) e =
        let p = and_parts (not (ends_in_dollar (name y))) (list_all (λ x. not (ends_in_dollar (name x))) ys) e in
        let rest = passed ys p.1 in
        cond-true (not (same own (name y))) (1 + position_or_len (λ x. same own (name x)) ys) 0 (not_from_false (same own (name y)) (other_name own (name y) d p.0)) ∙ omega (arith, rest)

pub not_built_in : (own : List ℕ) → ends_in_dollar own ≡ true → built_in_number own ≡ None
unfolding built_in_number built_in_name
not_built_in own d = none_named built_in_name own (range_with_len 0 24) d refl

-- ---- the program

-- the superclasses: the class itself has Object
abbrev pub lines : List (Option ℕ)
lines = None ∷ Some 0 ∷ Some 0 ∷ Some 0 ∷ Some 0 ∷ Some 0 ∷ Some 0 ∷ Some 0 ∷ Some 0 ∷ Some 8 ∷ Some 9 ∷ Some 10 ∷ Some 10 ∷ Some 10 ∷ Some 10 ∷ Some 14 ∷ Some 14 ∷ Some 10 ∷ Some 10 ∷ Some 10 ∷ Some 10 ∷ Some 10 ∷ Some 10 ∷ Some 10 ∷ Some 0 ∷ []

module _ (pool : List PoolEntry) (infos : List MemberInfo) (this above : ℕ) where
  abbrev pub C : ClassFile
  C = file_with pool infos this above

  abbrev pub F : List ClassFile
  F = C ∷ []

  abbrev pub SS : List Selector
  SS = selectors_of F

  -- where the names of the class are resolved
  abbrev pub S : Site
  S = record { files = F; parents = lines; selectors = SS; pool = pool; before = 0 }

  abbrev pub P : List ℕ → Program
  P main = program_with F lines SS main

  pub parents_are : class_name pool (at pool above) ≡ Some (codes "java/lang/Object") → parents F ≡ lines
  unfolding parents built_in_number
  parents_are h = ap (λ o. None ∷ Some 0 ∷ Some 0 ∷ Some 0 ∷ Some 0 ∷ Some 0 ∷ Some 0 ∷ Some 0 ∷ Some 0 ∷ Some 8 ∷ Some 9 ∷ Some 10 ∷ Some 10 ∷ Some 10 ∷ Some 10 ∷ Some 14 ∷ Some 14 ∷ Some 10 ∷ Some 10 ∷ Some 10 ∷ Some 10 ∷ Some 10 ∷ Some 10 ∷ Some 10 ∷ and_then o (class_number F) ∷ []) h

  module _ (own : List ℕ) (named : class_name pool (at pool this) ≡ Some own) (dollar : ends_in_dollar own ≡ true) where
    pub own_number : class_number F own ≡ Some 24
    own_number =
        let place = first-position (is_class own) F 0 C (record { there = refl; passes = ap (λ o. is_text o own) named ∙ same-refl own; before = λ k y l h. absurd (omega arith) }) in
        ap (λ o. or_else o (option_map (λ k. 24 + k) (position (is_class own) F))) (not_built_in own dollar) ∙ ap (option_map (λ k. 24 + k)) place

    -- ---- the classes

    abbrev class_there : List ℕ → ℕ → Class
    class_there main c = class_at F lines SS (ancestors_of (supers_of F)) c

    module _ (p : core.Program) (K : CoreClass) (main : List ℕ) where
      pub own_class : IsClass p K pool (P main) 24 own 0
      unfolding built_in_fields
      own_class = record { class = class_there main 24; there = refl; name_is = ap (λ o. unwrap_or o []) named; fields_are = refl }

      pub arithmetic_class : IsClass p K pool (P main) 11 (codes "java/lang/ArithmeticException") 1
      unfolding built_in_fields built_in_name
      arithmetic_class = record { class = class_there main 11; there = refl; name_is = refl; fields_are = refl }

  -- ---- what calls run

  module _ (main : List ℕ) (k : ℕ) (s : Selector) (there : slice_get SS k ≡ Some s) where
    -- on an object whose class has this line of superclasses
    on_line : (line : List ℕ) → found (slice_get (map (selected F line) SS) k) ≡ selected F line s
    on_line line = ap found (slice_get-map (selected F line) SS k) ∙ ap (λ o. found (option_map (selected F line) o)) there

    pub own_target : target_of (P main) 24 k ≡ selected F (24 ∷ 0 ∷ []) s
    unfolding target_of
    own_target = on_line (24 ∷ 0 ∷ [])

  -- the text of an object of the machine's own classes
  pub text_target : (main : List ℕ) (k c : ℕ) → slice_get SS k ≡ Some (record { name = codes "toString"; descriptor = codes "()Ljava/lang/String;" }) → has_machine_text c ≡ true → target_of (P main) c k ≡ Some (target.BuiltIn built.ToString)
  unfolding target_of built_in_method
  text_target main k zero h t = absurd (false≢true t)
  text_target main k (suc zero) h t = on_line main k _ h (1 ∷ 0 ∷ [])
  text_target main k (suc (suc zero)) h t = on_line main k _ h (2 ∷ 0 ∷ [])
  text_target main k (suc (suc (suc zero))) h t = on_line main k _ h (3 ∷ 0 ∷ [])
  text_target main k (suc (suc (suc (suc zero)))) h t = absurd (false≢true t)
  text_target main k (suc (suc (suc (suc (suc zero))))) h t = on_line main k _ h (5 ∷ 0 ∷ [])
  text_target main k (suc (suc (suc (suc (suc (suc zero)))))) h t = on_line main k _ h (6 ∷ 0 ∷ [])
  text_target main k (suc (suc (suc (suc (suc (suc (suc c))))))) h t = absurd (false≢true t)

  -- the accessor of the object
  pub accessor_target : (own main : List ℕ) (t : Target) → main ++ codes "$" ≡ own → class_number F own ≡ Some 24
      → target_in F true (codes "$get") ((codes "()L" ++ own) ++ codes ";") (24 ∷ 0 ∷ []) ≡ Some t → getter_target F lines SS main ≡ Some t
  accessor_target own main t e n h =
      ap (λ name. and_then (option_map (superclasses lines) (class_number F name)) (target_in F true (codes "$get") ((codes "()L" ++ name) ++ codes ";"))) e
      ∙ ap (λ o. and_then (option_map (superclasses lines) o) (target_in F true (codes "$get") ((codes "()L" ++ own) ++ codes ";"))) n
      ∙ h
