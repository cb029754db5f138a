-- The kinds of the trees that the small language makes, from those of their parts.
use Rattle.std.proofs.Common.{◌≡◌, refl, ap, sym, subst, ◌∙◌, ℕ, zero, suc, ◌^◌, ◌<◌, ◌≤◌, nat_lt, nat_le, Bool, true, false, cond, List, [], ◌∷◌, ◌++◌, length, map, slice_get, Option, Some, None, arith}
use Rattle.std.proofs.lemmas.Bool.{leb-true, lt-ltb}
use Rattle.std.proofs.lemmas.List.{map-append}
use Rattle.scw_core.specs.Program.{text_at, type_at}
use Rattle.scw_core.specs.Tree.{Tree, Trees, block, none, more}
use Rattle.scw_core.specs.TreeOf.{trees_of}
use Rattle.scw_core.specs.declared.operator.Literal.TheVariants as literal
use Rattle.scw_core.specs.declared.operator.Op.{Op}
use Rattle.scw_core.specs.declared.operator.Op.TheVariants as op
use Rattle.scw_core.specs.declared.operator.Primitive.{Primitive}
use Rattle.scw_core.specs.declared.operator.Primitive.TheVariants as primitive
use Rattle.scw_core.specs.declared.operator.RunMethod.TheVariants.{Print}
use Rattle.scw_text.specs.declared.number.SymId.{SymId}
use Rattle.scw_reader.specs.declared.tree.Operator.{Operator}
use Rattle.scw_reader.specs.declared.tree.Operator.TheVariants as operator
use Rattle.scw_reader.specs.declared.tree.TypeName.{TypeName}
use Rattle.scw_reader.specs.declared.tree.TypeName.TheVariants as type
use Rattle.scw_core.specs.declared.tree.Local.{Local}
use Rattle.scw_gen.specs.Outcome.{◌>>=◌}
use Rattle.scw_gen.specs.Typed.{Known, bound, kind_of_op, kind_of_primitive, kind_of_statements, kind_of_tree, kinds_of_trees}
use Rattle.scw_gen.specs.declared.kind.Kind.{Kind}
use Rattle.scw_gen.specs.declared.kind.Kind.TheVariants as kind
use Rattle.scw_small.specs.Rule.{combined, plus, times, operated, operated_by, operator_rule, plus_rule, times_rule, chosen, repeated, and_also, or_else, is_boolean}
use Rattle.scw_small.specs.Typed.{Typed, same_kind, leaf, unary, binary, truth, text, printed, set, conditional, loop, call, info}
use Rattle.scw_small.specs.Typing.{Operands, no_arguments, one_more}
use Rattle.scw_built.proofs.Setting.{Setting, Answers, around, kind_for, as-told, same-self, same-selves}
use Rattle.scw_built.proofs.Marks.{BoundAs, SetAs, some-is}
use Rattle.scw_built.proofs.RuleKinds.{Right, same-kind-is, operator-right, plus-right, times-right}
use Rattle.scw_built.proofs.SmallNames.{Signature, Rule, this_symbol}

-- the tree has the kind of its type
pub record Has (c : Setting) (ys : List Known) (t : Typed) : Type 0 where
  pub kind_is : kind_of_tree (around c) ys t.tree ≡ Some (kind_for t.kind)

within : (ts : List (List ℕ)) (n : ℕ) → n < length ts → (t : List ℕ) × (slice_get ts n ≡ Some t)
within [] n h = absurd (omega arith)
within (t ∷ ts) zero h = (t, refl)
within (t ∷ ts) (suc n) h = within ts n (omega arith)

-- what the first of two gave, and then the second
then-gave : {A B : Type 0} (o : Option A) (f : A → Option B) (b : B) → (o >>= f) ≡ Some b → (a : A) × (o ≡ Some a) × (f a ≡ Some b)
then-gave None f b h = absurd (cc)
then-gave (Some a) f b h = (a, refl, h)

module _ (c : Setting) (ys : List Known) where
  -- ---- literals and locals

  pub int-has : (n : ℕ) → nat_le n 2147483647 ≡ true → Has c ys (leaf type.Int (op.Literal (literal.Int n)))
  unfolding kind_of_tree
  int-has n h = let l : n ≤ 2147483647 = leb-true n 2147483647 h in let e : nat_lt n (2 ^ 32) ≡ true = lt-ltb n (2 ^ 32) (omega arith) in record { kind_is = rw e (as-told c type.Int) }

  pub long-has : (n : ℕ) → nat_le n 9223372036854775807 ≡ true → Has c ys (leaf type.Long (op.Literal (literal.Long n)))
  unfolding kind_of_tree
  long-has n h = let l : n ≤ 9223372036854775807 = leb-true n 9223372036854775807 h in let e : nat_lt n (2 ^ 64) ≡ true = lt-ltb n (2 ^ 64) (omega arith) in record { kind_is = rw e (as-told c type.Long) }

  pub truth-has : (b : Bool) → Has c ys (truth b)
  unfolding kind_of_tree
  truth-has b = record { kind_is = as-told c type.Boolean }

  pub text-has : (n : ℕ) → n < length c.texts → Has c ys (text n)
  unfolding kind_of_tree text_at
  text-has n h = let w = within c.texts n h in record { kind_is = rw w.1 (as-told c type.String) }

  pub local-has : (x : SymId) (k : TypeName) → SetAs ys x (kind_for k) → Has c ys (leaf k (op.Local x))
  unfolding kind_of_tree
  local-has x k s = record { kind_is = rw (s.there, s.set, s.kind_is) (as-told c k) }

  -- ---- operators

  unary-has : (k : TypeName) (o : Op) (t : Typed) → Has c ys t → kind_of_op (around c) ys o (kind_for t.kind ∷ []) ≡ Some (kind_for k) → Has c ys (unary k o t.tree)
  unfolding kind_of_tree
  unary-has k o t h e = record { kind_is = rw (h.kind_is, e) (as-told c k) }

  binary-has : (k : TypeName) (q : Primitive) (t u : Typed) → Has c ys t → Has c ys u → kind_of_primitive q (kind_for t.kind ∷ kind_for u.kind ∷ []) ≡ Some (kind_for k) → Has c ys (binary k (op.Primitive q) t.tree u.tree)
  unfolding kind_of_tree
  binary-has k q t u h l e = record { kind_is = rw (h.kind_is, l.kind_is, e) (as-told c k) }

  pub set-has : (x : SymId) (t : Typed) → BoundAs ys x (kind_for t.kind) → Has c ys t → Has c ys (set x t.tree)
  set-has x t b h = unary-has type.Unit (op.SetLocal x) t h (rw (b.there, b.kind_is, same-self (kind_for t.kind)) refl)

  joins : (t : TypeName) → kind_of_primitive primitive.Concatenate (kind.String ∷ kind_for t ∷ []) ≡ Some kind.String
  joins type.Unit = refl
  joins type.Boolean = refl
  joins type.Int = refl
  joins type.Long = refl
  joins type.String = refl

  pub printed-has : (t : Typed) → Has c ys t → Has c ys (printed t)
  printed-has t h =
      let n = c.two in
      let one : Typed = binary type.String (op.Primitive primitive.Concatenate) (text 0).tree t.tree in
      let a : Has c ys one = binary-has type.String primitive.Concatenate (text 0) t (text-has 0 (omega arith)) h (joins t.kind) in
      let two : Typed = binary type.String (op.Primitive primitive.Concatenate) one.tree (text 1).tree in
      let b : Has c ys two = binary-has type.String primitive.Concatenate one (text 1) a (text-has 1 (omega arith)) refl in
      unary-has type.Unit (op.Run Print) two b refl

  -- ---- rules

  combined-has : (o : Option Rule) (t u v : Typed) → Right t.kind u.kind o → Has c ys t → Has c ys u → combined o t u ≡ Some v → Has c ys v
  combined-has None t u v r h l e = absurd (cc)
  combined-has (Some q) t u v r h l e = subst (λ (x : Typed). Has c ys x) (some-is _ v e) (binary-has q.kind q.primitive t u h l r)

  pub plus-has : (t u v : Typed) → Has c ys t → Has c ys u → plus t u ≡ Some v → Has c ys v
  unfolding plus
  plus-has t u v h l e = combined-has (plus_rule t.kind u.kind) t u v (plus-right t.kind u.kind) h l e

  pub times-has : (t u v : Typed) → Has c ys t → Has c ys u → times t u ≡ Some v → Has c ys v
  unfolding times
  times-has t u v h l e = combined-has (times_rule t.kind u.kind) t u v (times-right t.kind u.kind) h l e

  -- ---- nodes of other forms

  -- the same, of a tree by itself
  abbrev Is : Tree → TypeName → Type 0
  Is a k = kind_of_tree (around c) ys a ≡ Some (kind_for k)

  conditional-has : (k : TypeName) (a b d : Tree) → Is a type.Boolean → Is b k → Is d k → Has c ys (conditional k a b d)
  unfolding kind_of_tree
  conditional-has k a b d p q r = record { kind_is = rw (p, r, q, same-self (kind_for k)) (as-told c k) }

  loop-has : (a : Tree) (u : Typed) → Is a type.Boolean → Has c ys u → Has c ys (loop a u.tree)
  unfolding kind_of_tree
  loop-has a u p q = record { kind_is = rw (p, q.kind_is) (as-told c type.Unit) }

  boolean-is : (t : Typed) → is_boolean t ≡ true → Has c ys t → Is t.tree type.Boolean
  boolean-is t e h = h.kind_is ∙ ap (λ k. Some (kind_for k)) (same-kind-is t.kind type.Boolean e)

  -- what is there where a test is passed
  passed : (b : Bool) (o : Option Typed) (v : Typed) → cond b o None ≡ Some v → (b ≡ true) × (o ≡ Some v)
  passed true o v e = (refl, e)
  passed false o v e = absurd (cc)

  as-kind : (t : Typed) (k : TypeName) → t.kind ≡ k → Has c ys t → Is t.tree k
  as-kind t k e h = h.kind_is ∙ ap (λ l. Some (kind_for l)) e

  and-has : (t u v : Typed) → t.kind ≡ u.kind → Has c ys t → Has c ys u → and_also t u ≡ Some v → Has c ys v
  unfolding and_also
  and-has t u v s h l e =
      let p = passed (is_boolean t) _ v e in
      let k = same-kind-is t.kind type.Boolean p.0 in
      subst (λ (x : Typed). Has c ys x) (some-is _ v p.1) (conditional-has type.Boolean t.tree u.tree (truth false).tree (as-kind t type.Boolean k h) (as-kind u type.Boolean (sym s ∙ k) l) (truth-has false).kind_is)

  or-has : (t u v : Typed) → t.kind ≡ u.kind → Has c ys t → Has c ys u → or_else t u ≡ Some v → Has c ys v
  unfolding or_else
  or-has t u v s h l e =
      let p = passed (is_boolean t) _ v e in
      let k = same-kind-is t.kind type.Boolean p.0 in
      subst (λ (x : Typed). Has c ys x) (some-is _ v p.1) (conditional-has type.Boolean t.tree (truth true).tree u.tree (as-kind t type.Boolean k h) (truth-has true).kind_is (as-kind u type.Boolean (sym s ∙ k) l))

  by-rule : (o : Operator) (t u v : Typed) → t.kind ≡ u.kind → Has c ys t → Has c ys u → combined (operator_rule o t.kind) t u ≡ Some v → Has c ys v
  by-rule o t u v s h l e = combined-has (operator_rule o t.kind) t u v (subst (λ (k : TypeName). Right t.kind k (operator_rule o t.kind)) s (operator-right o t.kind)) h l e

  by-operator : (o : Operator) (t u v : Typed) → t.kind ≡ u.kind → Has c ys t → Has c ys u → operated_by o t u ≡ Some v → Has c ys v
  by-operator operator.And t u v s h l e = and-has t u v s h l e
  by-operator operator.Or t u v s h l e = or-has t u v s h l e
  by-operator operator.Subtract t u v s h l e = by-rule operator.Subtract t u v s h l e
  by-operator operator.Divide t u v s h l e = by-rule operator.Divide t u v s h l e
  by-operator operator.Remainder t u v s h l e = by-rule operator.Remainder t u v s h l e
  by-operator operator.Less t u v s h l e = by-rule operator.Less t u v s h l e
  by-operator operator.LessOrEqual t u v s h l e = by-rule operator.LessOrEqual t u v s h l e
  by-operator operator.Greater t u v s h l e = by-rule operator.Greater t u v s h l e
  by-operator operator.GreaterOrEqual t u v s h l e = by-rule operator.GreaterOrEqual t u v s h l e
  by-operator operator.Equal t u v s h l e = by-rule operator.Equal t u v s h l e
  by-operator operator.Unequal t u v s h l e = by-rule operator.Unequal t u v s h l e

  pub operated-has : (o : Operator) (t u v : Typed) → Has c ys t → Has c ys u → operated o t u ≡ Some v → Has c ys v
  unfolding operated
  operated-has o t u v h l e = let p = passed (same_kind t.kind u.kind) _ v e in by-operator o t u v (same-kind-is t.kind u.kind p.0) h l p.1

  pub chosen-has : (t u w v : Typed) → Has c ys t → Has c ys u → Has c ys w → chosen t u w ≡ Some v → Has c ys v
  unfolding chosen
  chosen-has t u w v h l m e =
      let p = passed (is_boolean t) _ v e in
      let q = passed (same_kind u.kind w.kind) _ v p.1 in
      subst (λ (x : Typed). Has c ys x) (some-is _ v q.1) (conditional-has u.kind t.tree u.tree w.tree (boolean-is t p.0 h) l.kind_is (as-kind w u.kind (sym (same-kind-is u.kind w.kind q.0)) m))

  pub repeated-has : (t u v : Typed) → Has c ys t → Has c ys u → repeated t u ≡ Some v → Has c ys v
  unfolding repeated
  repeated-has t u v h l e =
      let p = passed (is_boolean t) _ v e in
      subst (λ (x : Typed). Has c ys x) (some-is _ v p.1) (loop-has t.tree u (boolean-is t p.0 h) l)

  -- ---- calls

  -- the operands so far have their kinds, behind the receiver
  pub record Passed (o : Operands) : Type 0 where
    pub kinds_are : kinds_of_trees (around c) ys (trees_of o.trees) ≡ Some (kind.This ∷ map kind_for o.kinds)

  pub call-has : (m : Signature) (o : Operands) → Answers c m → o.kinds ≡ m.kinds → Passed o → Has c ys (call m.symbol m.answer o.trees)
  unfolding kind_of_tree
  call-has m o a e p =
      let s : kinds_of_trees (around c) ys (trees_of o.trees) ≡ Some (kind.This ∷ map kind_for m.kinds) = p.kinds_are ∙ ap (λ ks. Some (kind.This ∷ map kind_for ks)) e in
      record { kind_is = rw (s, a.there, a.is, a.parameters, a.result, same-selves (map kind_for m.kinds)) (as-told c m.answer) }

  -- the kinds of one operand more
  snoc-kinds : (ts : List Tree) (u : Tree) (ks : List Kind) (k : Kind) → kinds_of_trees (around c) ys (trees_of ts) ≡ Some ks → kind_of_tree (around c) ys u ≡ Some k → kinds_of_trees (around c) ys (trees_of (ts ++ u ∷ [])) ≡ Some (ks ++ k ∷ [])
  unfolding kind_of_tree
  snoc-kinds [] u ks k h e = rw e (ap (λ (l : List Kind). Some (l ++ k ∷ [])) (some-is [] ks h))
  snoc-kinds (t ∷ ts) u ks k h e =
      let a = then-gave (kind_of_tree (around c) ys t) _ ks h in
      let b = then-gave (kinds_of_trees (around c) ys (trees_of ts)) _ ks a.2 in
      let l : kinds_of_trees (around c) ys (trees_of (ts ++ u ∷ [])) ≡ Some (b.0 ++ k ∷ []) = snoc-kinds ts u b.0 k b.1 e in
      rw (a.1, l) (ap (λ (q : List Kind). Some (q ++ k ∷ [])) (some-is (a.0 ∷ b.0) ks b.2))

  pub one-passed : (o : Operands) (t : Typed) → Has c ys t → Passed o → Passed (one_more o t)
  one-passed o t h p = record { kinds_are = snoc-kinds o.trees t.tree (kind.This ∷ map kind_for o.kinds) (kind_for t.kind) p.kinds_are h.kind_is ∙ ap (λ (l : List Kind). Some (kind.This ∷ l)) (sym (map-append kind_for o.kinds (t.kind ∷ []))) }

  pub none-passed : SetAs ys this_symbol kind.This → Passed no_arguments
  unfolding kind_of_tree type_at
  none-passed s = record { kinds_are = rw (s.there, s.set, s.kind_is) refl }

  -- ---- blocks

  pub block-is : (k : TypeName) (xs : List Local) (ts : Trees) (zs : List Known) → bound (around c) xs ys ≡ Some zs → kind_of_statements (around c) zs ts ≡ Some (kind_for k) → kind_of_tree (around c) ys (block (info k) xs ts) ≡ Some (kind_for k)
  unfolding kind_of_tree
  block-is k xs ts zs b h = rw (b, h) (as-told c k)

  pub last-is : (t : Typed) → Has c ys t → kind_of_statements (around c) ys (more t.tree none) ≡ Some (kind_for t.kind)
  unfolding kind_of_tree
  last-is t h = rw h.kind_is refl
