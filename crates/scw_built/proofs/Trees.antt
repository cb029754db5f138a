-- Trees that have a kind have code in each mode, under each pool, with jumps near or far; and these codes name the same.
use Rattle.std.proofs.Common.{◌≡◌, Bool, List, [], ◌∷◌, Option, Some, None, sym, subst}
use Rattle.std.proofs.lemmas.Option.{none-some, same_Some}
use Rattle.scw_text.specs.declared.number.TypeId.{TypeId}
use Rattle.scw_classfile.specs.declared.pool_entry.PoolEntry.{PoolEntry}
use Rattle.scw_core.specs.Program.{Table}
use Rattle.scw_core.specs.Tree.{Tree, Trees, info_of, strict, block, and_also, or_else, if_else, while_do, function, thunk, match_on, try_in, label, switch, none, more}
use Rattle.scw_core.specs.declared.class.CoreClass.{CoreClass}
use Rattle.scw_core.specs.declared.tree.Local.{Local}
use Rattle.scw_gen.specs.Around.{Around, kind_in}
use Rattle.scw_gen.specs.Code.{block_code, block_end, code, joined, mode_before, operand, operands, repeated, statements, truth_of}
use Rattle.scw_gen.specs.Mode.{unit}
use Rattle.scw_gen.specs.Operator.{form_of, op_code, text_of}
use Rattle.scw_gen.specs.Outcome.{◌>>=◌}
use Rattle.scw_gen.specs.Scope.{Scope, from, inside}
use Rattle.scw_gen.specs.Typed as typed
use Rattle.scw_gen.specs.Typed.{Known, behind, kind_at_end, kind_of_statements, kind_of_tree, kinds_of_trees}
use Rattle.scw_gen.specs.declared.instr.Instr.{Instr}
use Rattle.scw_gen.specs.declared.kind.Kind.{Kind}
use Rattle.scw_gen.specs.declared.mode.Mode.{Mode}
use Rattle.scw_gen.specs.declared.mode.Mode.TheVariants.{Value, Effect}
use Rattle.scw_gen.specs.declared.operator.Form.{Form}
use Rattle.scw_gen.specs.declared.operator.Form.TheVariants.{Values, Effects, Texts}
use Rattle.scw_gen.proofs.Steps.{bound}
use Rattle.scw_built.proofs.Alike.{Alike, Both, alike-none, both, joined-both}
use Rattle.scw_built.proofs.Choices.{choice-there, choice_code-both, repeated-both}
use Rattle.scw_built.proofs.Covered.{Covers, behind-less, covers-less, placed-covers}
use Rattle.scw_built.proofs.Modes.{Modes, m_effect, m_value, unit-alike}
use Rattle.scw_built.proofs.OperandForms.{TextIn, TextsIn, same-form, texts-in}
use Rattle.scw_built.proofs.Operators.{Ready, op-both, plain, text-both, under}
use Rattle.scw_back.proofs.TypedKinds.{block-kind, choice-kind, loop-kind, more-kinds, strict-kind, told-kind}

module _ (table : Table) (class : CoreClass) (ready : Ready table class) (p q : List PoolEntry) (d e : Bool) where
  abbrev N : Around
  N = plain table class

  abbrev G : Around
  G = under table class p d

  abbrev H : Around
  H = under table class q e

  abbrev Made : Type 0
  Made = Mode → Option (List Instr)

  abbrev GoodHere : Made → Made → Type 0
  GoodHere one two = (m n : Mode) → Modes m n → Both N (one m) (two n)

  some-both : (a b : List Instr) → Alike N a b → Both N (Some a) (Some b)
  some-both a b h = both a b h

  -- ---- operands

  text-there : (o : Option Kind) (k : Kind) → o ≡ Some k → TextIn Texts k → Both N (text_of o) (text_of o)
  text-there None k h t = absurd (none-some k h)
  text-there (Some l) k h t = text-both table class ready p q d e l (subst (TextIn Texts) (sym (same_Some l k h)) t)

  operand-both : (form : Form) (t : TypeId) (one two : Made) (k : Kind) → kind_in N t ≡ Some k → TextIn form k → GoodHere one two → Both N (operand G form t one) (operand H form t two)
  operand-both Values t one two k h x good = good Value Value m_value
  operand-both Effects t one two k h x good = good Effect Effect m_effect
  operand-both Texts t one two k h x good = joined-both N (one Value) (two Value) (text_of (kind_in N t)) (text_of (kind_in N t)) (good Value Value m_value) (text-there (kind_in N t) k h x)

  -- ---- blocks

  block-there : (s : Scope) (xs : List Local) (ys inner : List Known) (m n : Mode) (one two : Scope → Option (List Instr)) (a b : List Instr) → Covers s.slots ys → typed.bound N xs ys ≡ Some inner
      → ((t : Scope) → Covers t.slots inner → Both N (one t) (two t)) → Alike N a b → Both N (block_code G s m xs one a) (block_code H s n xs two b)
  block-there s xs ys inner m n one two a b c h good end =
      let f = placed-covers N s.slots (from s.next) xs ys inner c h in
      subst (λ o. Both N (o >>= λ t. joined (one (inside t s)) (Some a)) (o >>= λ t. joined (two (inside t s)) (Some b))) (sym f.is)
      (joined-both N (one (inside f.scope s)) (two (inside f.scope s)) (Some a) (Some b) (good (inside f.scope s) f.covers) (some-both a b end))

  end-alike : (m n : Mode) (ts : Trees) → Modes m n → Alike N (block_end d m ts) (block_end e n ts)
  end-alike m n none h = unit-alike N d e m n h
  end-alike m n (more t ts) h = alike-none N

  -- one statement more
  statements-more : (s : Scope) (ys : List Known) (m n : Mode) (t : Tree) (ts : Trees) (k : Kind) → Modes m n → ((l : Kind) → kind_of_tree N ys t ≡ Some l → GoodHere (λ u. code G s u t) (λ u. code H s u t))
      → (kind_of_statements N (behind t ys) ts ≡ Some k → Both N (statements G s m ts) (statements H s n ts)) → (kind_of_tree N ys t >>= kind_at_end ts (kind_of_statements N (behind t ys) ts)) ≡ Some k
      → Both N (joined (code G s (mode_before m ts) t) (statements G s m ts)) (joined (code H s (mode_before n ts) t) (statements H s n ts))
  unfolding statements
  statements-more s ys m n t none k same one rest h =
      let b = bound (kind_of_tree N ys t) (kind_at_end none (kind_of_statements N (behind t ys) none)) k h in
      joined-both N (code G s m t) (code H s n t) (Some []) (Some []) (one b.0 b.1 m n same) (some-both [] [] (alike-none N))
  statements-more s ys m n t (more u us) k same one rest h =
      let b = bound (kind_of_tree N ys t) (kind_at_end (more u us) (kind_of_statements N (behind t ys) (more u us))) k h in
      joined-both N (code G s Effect t) (code H s Effect t) (statements G s m (more u us)) (statements H s n (more u us)) (one b.0 b.1 Effect Effect m_effect) (rest b.2)

  mutual
    unfolding code operands statements kind_of_tree kinds_of_trees kind_of_statements

    pub tree-both : (s : Scope) (ys : List Known) (m n : Mode) (t : Tree) (k : Kind) → Covers s.slots ys → Modes m n → kind_of_tree N ys t ≡ Some k → Both N (code G s m t) (code H s n t)
    tree-both s ys m n (strict i o ts) k c same h =
        let b = strict-kind N ys o ts i.type_id k h in
        joined-both N (operands G s (form_of m o) ts) (operands H s (form_of n o) ts) (op_code G s m o) (op_code H s n o)
        (subst (λ f. Both N (operands G s (form_of m o) ts) (operands H s f ts)) (same-form m n o same) (operands-both s ys (form_of m o) ts b.kinds c (texts-in N ys m o b.kinds k b.op_kind) b.operands))
        (op-both table class ready p q d e m n same s ys o b.kinds k c b.op_kind)
    tree-both s ys m n (block i xs ts) k c same h =
        let b = block-kind N ys xs ts i.type_id k h in
        block-there s xs ys b.inner m n (λ t. statements G t m ts) (λ t. statements H t n ts) (block_end d m ts) (block_end e n ts) c b.bound_is
        (λ t u. statements-both t b.inner m n ts k u same b.last) (end-alike m n ts same)
    tree-both s ys m n (and_also i a b) k c same h = absurd (none-some k h)
    tree-both s ys m n (or_else i a b) k c same h = absurd (none-some k h)
    tree-both s ys m n (if_else i x y z) k c same h =
        let b = choice-kind N ys x y z i.type_id k h in
        choice_code-both N d e (λ u. code G s u x) (λ u. code H s u x) _ _ (λ u v w. tree-both s ys u v x _ c w b.test)
        (choice-there N d e (λ u. code G s u y) (λ u. code H s u y) (λ u. code G s u z) (λ u. code H s u z) (λ u v w. tree-both s ys u v y k c w b.first) (λ u v w. tree-both s ys u v z k c w b.second) m n (truth_of y) (truth_of z) same)
    tree-both s ys m n (while_do i x y) k c same h =
        let b = loop-kind N ys x y i.type_id k h in
        joined-both N (repeated d (λ u. code G s u x) (λ u. code G s u y)) (repeated e (λ u. code H s u x) (λ u. code H s u y)) (Some (unit d m)) (Some (unit e n))
        (repeated-both N d e (λ u. code G s u x) (λ u. code H s u x) (λ u. code G s u y) (λ u. code H s u y) (λ u v w. tree-both s ys u v x _ c w b.test) (λ u v w. tree-both s ys u v y b.body_kind c w b.body))
        (some-both (unit d m) (unit e n) (unit-alike N d e m n same))
    tree-both s ys m n (function i name xs a) k c same h = absurd (none-some k h)
    tree-both s ys m n (thunk i a) k c same h = absurd (none-some k h)
    tree-both s ys m n (match_on i a cs) k c same h = absurd (none-some k h)
    tree-both s ys m n (try_in i a cs fin) k c same h = absurd (none-some k h)
    tree-both s ys m n (label i l a) k c same h = absurd (none-some k h)
    tree-both s ys m n (switch i a ls ts x) k c same h = absurd (none-some k h)

    operands-both : (s : Scope) (ys : List Known) (form : Form) (ts : Trees) (ks : List Kind) → Covers s.slots ys → TextsIn form ks → kinds_of_trees N ys ts ≡ Some ks → Both N (operands G s form ts) (operands H s form ts)
    operands-both s ys form none ks c x h = some-both [] [] (alike-none N)
    operands-both s ys form (more t ts) ks c x h =
        let b = more-kinds N ys t ts ks h in
        let y : TextsIn form (b.0 ∷ b.1) = subst (TextsIn form) (sym b.4) x in
        joined-both N (operand G form (info_of t).type_id (λ u. code G s u t)) (operand H form (info_of t).type_id (λ u. code H s u t)) (operands G s form ts) (operands H s form ts)
        (operand-both form (info_of t).type_id (λ u. code G s u t) (λ u. code H s u t) b.0 (told-kind N ys t b.0 b.2) y.0 (λ u v w. tree-both s ys u v t b.0 c w b.2))
        (operands-both s ys form ts b.1 c y.1 b.3)

    statements-both : (s : Scope) (ys : List Known) (m n : Mode) (ts : Trees) (k : Kind) → Covers s.slots ys → Modes m n → kind_of_statements N ys ts ≡ Some k → Both N (statements G s m ts) (statements H s n ts)
    statements-both s ys m n none k c same h = some-both [] [] (alike-none N)
    statements-both s ys m n (more t ts) k c same h =
        statements-more s ys m n t ts k same (λ l f u v w. tree-both s ys u v t l c w f) (λ f. statements-both s (behind t ys) m n ts k (covers-less s.slots (behind t ys) ys (behind-less t ys) c) same f) h
