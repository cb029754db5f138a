-- The program of a source has the object `Main`, and its `main`.
use Rattle.std.proofs.Common.{◌≡◌, inl, inr, refl, sym, subst, ℕ, ◌<◌, arith, Bool, true, false, cond, List, [], length, position, option_map, Option, Some, None, nat_lt, codes}
use Rattle.std.specs.Prelude.{IsSome, option_and_then, slice_get}
use Rattle.std.specs.List.{position_or_len}
use Rattle.std.proofs.lemmas.Bool.{false≢true, ltb-true}
use Rattle.std.proofs.lemmas.Option.{slice_get_cases}
use Rattle.scw_text.specs.declared.number.SymId.{SymId}
use Rattle.scw_core.specs.declared.class.Member.{Member}
use Rattle.scw_core.specs.declared.program.MethodId.{MethodId}
use Rattle.scw_core.specs.Entry.{IsEntry, is_main, is_member, main_method, main_of, member_entered, symbol_of}
use Rattle.scw_core.specs.Program.{Program, Table, class_of, first_some, head_of}
use Rattle.scw_core.specs.Text.{binary_name}
use Rattle.scw_core.specs.Types.{CoreType}
use Rattle.scw_small.specs.Says.{SaysProgram}
use Rattle.scw_small.specs.Step.{State}
use Rattle.scw_small.specs.Whole.{Made, beginning, main_class, object, program, program_in, table, typed}
use Rattle.scw_back.specs.Same.{object_name}
use Rattle.scw_tool.specs.Machine.{main_name}
use Rattle.scw_tool.specs.Source.{HasMain}

-- the symbol of the object
abbrev main_object : SymId
main_object = (main_class []).symbol

some_same : {A : Type 0} (y z : A) → Some y ≡ Some z → y ≡ z
some_same y z k = cc

-- a search finds a place within the list
within : (b : Bool) (k n l : ℕ) → nat_lt k l ≡ b → cond b (Some k) None ≡ Some n → n < l
within false k n l e h = absurd (cc)
within true k n l e h = let same : k ≡ n = cc in let lt = ltb-true k l e in omega (arith, lt, same)

-- what stands at a place within a list is there
there : {A B : Type 0} (f : A → B) (xs : List A) (n : ℕ) → n < length xs → IsSome (option_map f (slice_get xs n))
there f xs n h = elim (slice_get_cases xs n).1 [
  | inl x ↦ rw x.2 refl
  | inr e ↦ let far = e.0 in absurd (omega (arith, far, h))
]

module _ (ms : List Member) (types : List CoreType) (texts : List (List ℕ)) where
  abbrev P : Table
  P = table ms types texts

  abbrev is : Member → Bool
  is = is_member [] (is_main P)

  abbrev place : Option ℕ → Option MethodId
  place o = first_some (option_map (λ m. record { object = 0; class = 0; member = m }) o) None

  by : (o : Option ℕ) → position is ms ≡ o → IsSome (place o) → IsSome (option_and_then (symbol_of P.classes) (place o))
  by None e h = absurd (false≢true h)
  by (Some n) e h = there (λ (x : Member). x.symbol) ms n (within (nat_lt (position_or_len is ms) (length ms)) (position_or_len is ms) n (length ms) refl e)

  -- the member that is found has a symbol
  pub entry_is : IsSome (main_method P (codes "Main")) → IsEntry P (main_of main_object)
  unfolding main_method member_entered class_of head_of
  entry_is h = by (position is ms) refl h

module _ (made : Made) (s : State) where
  named_is : object_name (program made s) main_object ≡ main_name
  unfolding binary_name class_of
  named_is = refl

  pub object_is : IsSome (main_method (program made s).table (codes "Main")) → HasMain (program made s)
  object_is h = (main_object, record { entry = entry_is made.members s.types s.texts h; named = named_is })

-- the object of a source
pub main_is : (bytes : List ℕ) (p : Program) → SaysProgram bytes p → IsSome (main_method p.table (codes "Main")) → HasMain p
unfolding typed
main_is bytes p s h = by (object s.source beginning) s.means
  where
    by : (r : Option (Made × State)) → program_in r ≡ Some p → HasMain p
    by None k = absurd (cc)
    by (Some x) k =
        let same = some_same _ _ k in
        subst HasMain same (object_is x.0 x.1 (subst (λ (q : Program). IsSome (main_method q.table (codes "Main"))) (sym same) h))
