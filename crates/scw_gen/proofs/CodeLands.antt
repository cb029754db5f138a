-- The code of trees lands, in each mode.
use Rattle.std.proofs.Common.{◌≡◌, List, [], ◌++◌, Option, Some, sym, ap, ◌∙◌, subst, append-nil}
use Rattle.scw_text.specs.declared.number.TypeId.{TypeId}
use Rattle.scw_core.specs.Tree.{Tree, Trees, info_of, strict, block, and_also, or_else, if_else, while_do, function, thunk, match_on, try_in, label, switch, none, more}
use Rattle.scw_core.specs.declared.tree.Local.{Local}
use Rattle.scw_gen.specs.declared.instr.Instr.{Instr}
use Rattle.scw_gen.specs.declared.mode.Mode.{Mode}
use Rattle.scw_gen.specs.declared.mode.Mode.TheVariants.{Value, Effect}
use Rattle.scw_gen.specs.declared.operator.Form.{Form}
use Rattle.scw_gen.specs.declared.operator.Form.TheVariants.{Values, Effects, Texts}
use Rattle.scw_gen.specs.Around.{Around, kind_in}
use Rattle.scw_gen.specs.Mode.{unit}
use Rattle.scw_gen.specs.Operator.{form_of, op_code, text_of}
use Rattle.scw_gen.specs.Scope.{Scope, from, inside, placed}
use Rattle.scw_gen.specs.Code.{block_code, block_end, code, joined, operand, operands, repeated, statements, truth_of}
use Rattle.scw_gen.proofs.Steps.{bound, joined-is}
use Rattle.scw_gen.proofs.ScopeFits.{ScopeFits, from-fits, inside-fits, placed-fits}
use Rattle.scw_gen.proofs.Landing.{effect-value, lands-both, lands-nil}
use Rattle.scw_gen.proofs.ModeLands.{unit-lands}
use Rattle.scw_gen.proofs.ChoiceLands.{Good, choice-lands, repeated-lands}
use Rattle.scw_gen.proofs.OperatorLands.{Lands_in, op-lands, text-lands}

module _ (g : Around) where
  abbrev Good_in : (Mode → Option (List Instr)) → Type 0
  Good_in made = Good g.table g.pool g.is_far made

  -- two codes, of which the first puts a value on the stack, or nothing
  pub both_land : (m : Mode) (a b : Option (List Instr)) (is : List Instr) → ((x : List Instr) → a ≡ Some x → Lands_in g Value x) → ((y : List Instr) → b ≡ Some y → Lands_in g m y) → joined a b ≡ Some is → Lands_in g m is
  both_land m a b is la lb h =
      let j = joined-is a b is h in
      subst (Lands_in g m) j.is (lands-both g.table g.pool g.is_far m j.first j.second (la j.first j.a-is) (lb j.second j.b-is))

  -- behind code that lands stands nothing
  pub alone_lands : (m : Mode) (a : Option (List Instr)) (is : List Instr) → ((x : List Instr) → a ≡ Some x → Lands_in g m x) → joined a (Some []) ≡ Some is → Lands_in g m is
  alone_lands m a is la h =
      let j = joined-is a (Some []) is h in
      let same : [] ≡ j.second = (let e = j.b-is in cc) in
      subst (Lands_in g m) (sym (append-nil j.first) ∙ ap (λ (l : List Instr). j.first ++ l) same ∙ j.is) (la j.first j.a-is)

  same_list : (a b : List Instr) (m : Mode) → Some a ≡ Some b → Lands_in g m a → Lands_in g m b
  same_list a b m h l = let e : a ≡ b = cc in subst (Lands_in g m) e l

  operand-lands : (form : Form) (t : TypeId) (made : Mode → Option (List Instr)) (is : List Instr) → Good_in made → operand g form t made ≡ Some is → Lands_in g Value is
  operand-lands Values t made is good h = good Value is h
  operand-lands Effects t made is good h = effect-value g.table g.pool g.is_far is (good Effect is h)
  operand-lands Texts t made is good h = both_land Value (made Value) (text_of (kind_in g t)) is (λ x e. good Value x e) (λ y e. text-lands g (kind_in g t) y e) h

  block-lands : (s : Scope) (m : Mode) (xs : List Local) (made : Scope → Option (List Instr)) (end is : List Instr) → ScopeFits s
      → ((inner : Scope) (ys : List Instr) → ScopeFits inner → joined (made inner) (Some end) ≡ Some ys → Lands_in g m ys) → block_code g s m xs made end ≡ Some is → Lands_in g m is
  block-lands s m xs made end is fits lands h =
      let b = bound (placed g.table g.class.symbol (from s.next) xs) (λ inner. joined (made (inside inner s)) (Some end)) is h in
      lands (inside b.0 s) is (inside-fits b.0 s (placed-fits g.table g.class.symbol (from s.next) xs b.0 (from-fits s.next fits.next) b.1) fits) b.2

  -- there are statements
  abbrev IsSome : Trees → Type 0
  IsSome none = ⊥
  IsSome (more t ts) = Unit {0}

  statements_step : (s : Scope) (m : Mode) (t : Tree) (ts : Trees) (is : List Instr) → Good_in (λ n. code g s n t)
      → ((y : List Instr) → IsSome ts → statements g s m ts ≡ Some y → Lands_in g m y) → statements g s m (more t ts) ≡ Some is → Lands_in g m is
  unfolding statements
  statements_step s m t none is good rest h = alone_lands m (code g s m t) is (λ x e. good m x e) h
  statements_step s m t (more u us) is good rest h =
      both_land m (code g s Effect t) (statements g s m (more u us)) is (λ x e. effect-value g.table g.pool g.is_far x (good Effect x e)) (λ y e. rest y tt e) h

  block_step : (s : Scope) (m : Mode) (xs : List Local) (ts : Trees) (is : List Instr) → ScopeFits s
      → ((inner : Scope) (y : List Instr) → ScopeFits inner → IsSome ts → statements g inner m ts ≡ Some y → Lands_in g m y)
      → block_code g s m xs (λ inner. statements g inner m ts) (block_end g.is_far m ts) ≡ Some is → Lands_in g m is
  unfolding statements
  block_step s m xs none is fits lands h =
      block-lands s m xs (λ inner. statements g inner m none) (block_end g.is_far m none) is fits (λ inner ys f e. same_list _ ys m e (unit-lands g.table g.pool g.is_far m)) h
  block_step s m xs (more t ts) is fits lands h =
      block-lands s m xs (λ inner. statements g inner m (more t ts)) (block_end g.is_far m (more t ts)) is fits
      (λ inner ys f e. alone_lands m (statements g inner m (more t ts)) ys (λ x k. lands inner x f tt k) e) h

  mutual
    unfolding code operands statements

    pub code-lands : (s : Scope) (m : Mode) (t : Tree) (is : List Instr) → ScopeFits s → code g s m t ≡ Some is → Lands_in g m is
    code-lands s m (strict i o ts) is fits h =
        both_land m (operands g s (form_of m o) ts) (op_code g s m o) is (λ x e. operands-land s (form_of m o) ts x fits e) (λ y e. op-lands g s m o y fits e) h
    code-lands s m (block i xs ts) is fits h = block_step s m xs ts is fits (λ inner y f k e. statements-land inner m ts y f k e) h
    code-lands s m (and_also i a b) is fits h = absurd (cc)
    code-lands s m (or_else i a b) is fits h = absurd (cc)
    code-lands s m (if_else i a b c) is fits h =
        choice-lands g.table g.pool g.is_far (λ n. code g s n a) (λ n. code g s n b) (λ n. code g s n c)
        (λ n x e. code-lands s n a x fits e) (λ n x e. code-lands s n b x fits e) (λ n x e. code-lands s n c x fits e) m (truth_of b) (truth_of c) is h
    code-lands s m (while_do i a b) is fits h =
        both_land m (repeated g.is_far (λ n. code g s n a) (λ n. code g s n b)) (Some (unit g.is_far m)) is
        (λ x e. repeated-lands g.table g.pool g.is_far (λ n. code g s n a) (λ n. code g s n b) (λ n y k. code-lands s n a y fits k) (λ n y k. code-lands s n b y fits k) x e)
        (λ y e. same_list _ y m e (unit-lands g.table g.pool g.is_far m)) h
    code-lands s m (function i name xs a) is fits h = absurd (cc)
    code-lands s m (thunk i a) is fits h = absurd (cc)
    code-lands s m (match_on i a cs) is fits h = absurd (cc)
    code-lands s m (try_in i a cs fin) is fits h = absurd (cc)
    code-lands s m (label i k a) is fits h = absurd (cc)
    code-lands s m (switch i a ks ts d) is fits h = absurd (cc)

    operands-land : (s : Scope) (form : Form) (ts : Trees) (is : List Instr) → ScopeFits s → operands g s form ts ≡ Some is → Lands_in g Value is
    operands-land s form none is fits h = same_list [] is Value h (lands-nil g.table g.pool g.is_far)
    operands-land s form (more t ts) is fits h =
        both_land Value (operand g form (info_of t).type_id (λ n. code g s n t)) (operands g s form ts) is
        (λ x e. operand-lands form (info_of t).type_id (λ n. code g s n t) x (λ n y k. code-lands s n t y fits k) e) (λ y e. operands-land s form ts y fits e) h

    -- one statement or more
    statements-land : (s : Scope) (m : Mode) (ts : Trees) (is : List Instr) → ScopeFits s → IsSome ts → statements g s m ts ≡ Some is → Lands_in g m is
    statements-land s m none is fits some h = absurd some
    statements-land s m (more t ts) is fits some h = statements_step s m t ts is (λ n x e. code-lands s n t x fits e) (λ y k e. statements-land s m ts y fits k e) h
