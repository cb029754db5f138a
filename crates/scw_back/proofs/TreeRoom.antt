-- The stack gets as deep by a tree as its value is wide; and slots don't depend on how jumps are made.
use Rattle.std.proofs.Common.{◌≡◌, ℕ, ◌+◌, ◌^◌, ◌≤◌, max, Bool, true, false, cond, ◌&&◌, List, [], ◌∷◌, Option, Some, None, refl, sym, ap, ◌∙◌, subst, arith, nat_lt}
use Rattle.scw_text.specs.declared.number.TypeId.{TypeId}
use Rattle.scw_classfile.specs.declared.pool_entry.PoolEntry.{PoolEntry}
use Rattle.scw_core.specs.Program as core
use Rattle.scw_core.specs.Program.{in_members, text_at}
use Rattle.scw_core.specs.Tree.{Tree, Trees, info_of, strict, block, and_also, or_else, if_else, while_do, function, thunk, match_on, try_in, label, switch, none, more}
use Rattle.scw_core.specs.declared.class.CoreClass.{CoreClass}
use Rattle.scw_core.specs.declared.class.Member.{Member}
use Rattle.scw_core.specs.declared.operator.Literal.{Literal}
use Rattle.scw_core.specs.declared.operator.Literal.TheVariants as literal
use Rattle.scw_core.specs.declared.operator.Logic.{Logic}
use Rattle.scw_core.specs.declared.operator.Logic.TheVariants as logic
use Rattle.scw_core.specs.declared.operator.Op.{Op}
use Rattle.scw_core.specs.declared.operator.Op.TheVariants as op
use Rattle.scw_core.specs.declared.operator.Primitive.{Primitive}
use Rattle.scw_core.specs.declared.operator.Primitive.TheVariants as primitive
use Rattle.scw_core.specs.declared.operator.Width.{Width}
use Rattle.scw_core.specs.declared.operator.Width.TheVariants as width
use Rattle.scw_core.specs.declared.tree.Local.{Local}
use Rattle.scw_core.specs.declared.tree.NodeInfo.{NodeInfo}
use Rattle.scw_gen.specs.declared.kind.Kind.{Kind}
use Rattle.scw_gen.specs.declared.kind.Kind.TheVariants as kind
use Rattle.scw_gen.specs.declared.mode.Mode.TheVariants.{Value}
use Rattle.scw_gen.specs.declared.operator.Form.TheVariants.{Values, Texts}
use Rattle.scw_gen.specs.Around.{Around, kind_in}
use Rattle.scw_gen.specs.Kind.{width_of}
use Rattle.scw_gen.specs.Method.{is_method}
use Rattle.scw_gen.specs.Operator.{form_of, kind_of_width}
use Rattle.scw_gen.specs.Outcome.{◌>>=◌}
use Rattle.scw_gen.specs.Room.{of_call_of, of_end, of_literal, of_op, of_result, slot_behind, stack_of, stack_of_operands, stack_of_statements, sum, width_at}
use Rattle.scw_gen.specs.Typed.{Known, behind, has_text, kind_of_call, kind_of_call_by, kind_of_joined, kind_of_literal, kind_of_logic, kind_of_op, kind_of_primitive, kind_of_set, kind_of_statements, kind_of_text, kind_of_tree, kinds_of_parameters, kinds_of_trees, known, taking}
use Rattle.scw_gen.proofs.Steps.{bound}
use Rattle.scw_back.proofs.Loaded.{around_by}
use Rattle.scw_back.proofs.RoomAt.{width-is}
use Rattle.scw_back.proofs.TypedKinds.{block-kind, choice-kind, leaf-kind, loop-kind, more-kinds, some-is, strict-kind, taking-is, told-kind}

abbrev widths : List Kind → ℕ
widths [] = 0
widths (k ∷ ks) = width_of k + widths ks

abbrev count : List Kind → ℕ
count [] = 0
count (k ∷ ks) = 1 + count ks

module _ (p : core.Program) (K : CoreClass) (pool : List PoolEntry) (far : Bool) where
  abbrev g : Around
  g = around_by p K pool far

  abbrev near : Around
  near = around_by p K pool false

  -- the slots of locals don't depend on how jumps are made
  pub slots-near : (n : ℕ) (xs : List Local) → slot_behind g n xs ≡ slot_behind near n xs
  unfolding slot_behind
  slots-near n [] = refl
  slots-near n (x ∷ xs) = slots-near (sum n (width_at g x.type_id)) xs

  -- a kind that is the same is as wide
  wide-as : (l k : Kind) (n : ℕ) → l ≡ k → width_of l ≤ n → width_of k ≤ n
  wide-as l k n same h = subst (λ (x : Kind). width_of x ≤ n) same h

  cond-some : (b : Bool) (l k : Kind) → cond b (Some l) None ≡ Some k → l ≡ k
  cond-some true l k h = some-is l k h
  cond-some false l k h = absurd (cc)

  text-kind : (o : Option (List ℕ)) (k : Kind) → kind_of_text o ≡ Some k → kind.String ≡ k
  text-kind None k h = absurd (cc)
  text-kind (Some us) k h = some-is kind.String k h

  literal-width : (l : Literal) (k : Kind) → kind_of_literal near l ≡ Some k → width_of k ≤ of_literal Value l
  literal-width literal.Unit k h = wide-as kind.Unit k 1 (some-is kind.Unit k h) (omega arith)
  literal-width (literal.Boolean b) k h = wide-as kind.Boolean k 1 (some-is kind.Boolean k h) (omega arith)
  literal-width (literal.Char c) k h = absurd (cc)
  literal-width (literal.Int n) k h = wide-as kind.Int k 1 (cond-some (nat_lt n (2 ^ 32)) kind.Int k h) (omega arith)
  literal-width (literal.Long n) k h = wide-as kind.Long k 2 (cond-some (nat_lt n (2 ^ 64)) kind.Long k h) (omega arith)
  literal-width literal.Null k h = absurd (cc)
  literal-width (literal.String t) k h = wide-as kind.String k 1 (text-kind (text_at p.table t) k h) (omega arith)

  result-width : (k : Kind) → of_result Value (Some k) ≡ width_of k
  result-width kind.Unit = refl
  result-width kind.Boolean = refl
  result-width kind.Int = refl
  result-width kind.Long = refl
  result-width kind.String = refl
  result-width kind.Strings = refl
  result-width kind.This = refl

  -- a call gives a value of its member's result
  call-by-result : (member : Member) (ks : List Kind) (k : Kind) (b : Bool) → cond b (kind_of_call_by near member ks) None ≡ Some k → kind_in near member.result ≡ Some k
  call-by-result member ks k true h =
      let a = bound (kinds_of_parameters near member.parameters) (λ ps. kind_in near member.result >>= taking (kind.This ∷ ps) ks) k h in
      let b = bound (kind_in near member.result) (taking (kind.This ∷ a.0) ks) k a.2 in
      b.1 ∙ ap Some (taking-is (kind.This ∷ a.0) ks b.0 k b.2).1
  call-by-result member ks k false h = absurd (cc)

  call-width : (o : Option Member) (ks : List Kind) (k : Kind) → kind_of_call near ks o ≡ Some k → width_of k ≤ of_call_of g Value o
  call-width None ks k h = absurd (cc)
  call-width (Some member) ks k h =
      let same : of_result Value (kind_in near member.result) ≡ of_result Value (Some k) = ap (λ (o : Option Kind). of_result Value o) (call-by-result member ks k (is_method member) h) in
      let wide = result-width k in
      omega (arith, same, wide)

  module _ (ys : List Known) where
    operands-width : (ts : Trees) (ks : List Kind) (depth : ℕ) → kinds_of_trees near ys ts ≡ Some ks → stack_of_operands g Values depth ts ≤ 65535 → depth + widths ks ≤ stack_of_operands g Values depth ts
    unfolding stack_of_operands kinds_of_trees
    operands-width none ks depth h few = let e : [] ≡ ks = some-is [] ks h in subst (λ (l : List Kind). depth + widths l ≤ depth) e (omega arith)
    operands-width (more t ts) ks depth h few =
        let n = more-kinds near ys t ts ks h in
        let w = width_at g (info_of t).type_id in
        let wide : w ≡ width_of n.0 = width-is g (info_of t).type_id n.0 (told-kind near ys t n.0 n.2) in
        let rest = operands-width ts n.1 (sum depth w) n.3 (omega (arith, few)) in
        subst (λ (l : List Kind). depth + widths l ≤ stack_of_operands g Values depth (more t ts)) n.4 (omega (arith, few, wide, rest))

    texts-count : (ts : Trees) (ks : List Kind) (depth : ℕ) → kinds_of_trees near ys ts ≡ Some ks → stack_of_operands g Texts depth ts ≤ 65535 → depth + count ks ≤ stack_of_operands g Texts depth ts
    unfolding stack_of_operands kinds_of_trees
    texts-count none ks depth h few = let e : [] ≡ ks = some-is [] ks h in subst (λ (l : List Kind). depth + count l ≤ depth) e (omega arith)
    texts-count (more t ts) ks depth h few =
        let n = more-kinds near ys t ts ks h in
        let rest = texts-count ts n.1 (sum depth 1) n.3 (omega (arith, few)) in
        subst (λ (l : List Kind). depth + count l ≤ stack_of_operands g Texts depth (more t ts)) n.4 (omega (arith, few, rest))

    -- two operands of a kind, and a value that is no wider than they
    pair-width : (ts : Trees) (ks : List Kind) (l n k : Kind) (room : ℕ) → kinds_of_trees near ys ts ≡ Some ks → taking (l ∷ l ∷ []) ks n ≡ Some k → width_of n ≤ width_of l + width_of l → stack_of_operands g Values 0 ts ≤ room → room ≤ 65535 → width_of k ≤ room
    pair-width ts ks l n k room operands h wide le few =
        let t = taking-is (l ∷ l ∷ []) ks n k h in
        let all = operands-width ts (l ∷ l ∷ []) 0 (operands ∙ ap Some (sym t.0)) (omega (arith, le, few)) in
        wide-as n k room t.1 (omega (arith, wide, all, le))

    some-width : (w : Width) → 1 ≤ width_of (kind_of_width w)
    some-width width.Int = omega arith
    some-width width.Long = omega arith

    joined-width : (ts : Trees) (ks : List Kind) (k : Kind) (room : ℕ) → kinds_of_trees near ys ts ≡ Some ks → kind_of_joined ks ≡ Some k → stack_of_operands g Texts 0 ts ≤ room → room ≤ 65535 → width_of k ≤ room
    joined-width ts [] k room operands h le few = absurd (cc)
    joined-width ts (a ∷ []) k room operands h le few = absurd (cc)
    joined-width ts (a ∷ b ∷ []) k room operands h le few =
        let all = texts-count ts (a ∷ b ∷ []) 0 operands (omega (arith, le, few)) in
        wide-as kind.String k room (cond-some (has_text a && has_text b) kind.String k h) (omega (arith, all, le))
    joined-width ts (a ∷ b ∷ c ∷ ks) k room operands h le few = absurd (cc)

    logic-width : (l : Logic) (ts : Trees) (ks : List Kind) (k : Kind) (room : ℕ) → kinds_of_trees near ys ts ≡ Some ks → kind_of_logic l ks ≡ Some k → stack_of_operands g Values 0 ts ≤ room → room ≤ 65535 → width_of k ≤ room
    logic-width logic.And ts ks k room operands h le few = absurd (cc)
    logic-width logic.Or ts ks k room operands h le few = absurd (cc)
    logic-width logic.Xor ts ks k room operands h le few = absurd (cc)
    logic-width logic.Equal ts ks k room operands h le few = pair-width ts ks kind.Boolean kind.Boolean k room operands h (omega arith) le few
    logic-width logic.NotEqual ts ks k room operands h le few = pair-width ts ks kind.Boolean kind.Boolean k room operands h (omega arith) le few

    primitive-width : (o : Primitive) (ts : Trees) (ks : List Kind) (k : Kind) (room : ℕ) → kinds_of_trees near ys ts ≡ Some ks → kind_of_primitive o ks ≡ Some k → stack_of_operands g (form_of Value (op.Primitive o)) 0 ts ≤ room → room ≤ 65535 → width_of k ≤ room
    primitive-width (primitive.Arithmetic w a) ts ks k room operands h le few = pair-width ts ks (kind_of_width w) (kind_of_width w) k room operands h (omega arith) le few
    primitive-width (primitive.Division w a) ts ks k room operands h le few = pair-width ts ks (kind_of_width w) (kind_of_width w) k room operands h (omega arith) le few
    primitive-width (primitive.Comparison w a) ts ks k room operands h le few = let s = some-width w in pair-width ts ks (kind_of_width w) kind.Boolean k room operands h (omega (arith, s)) le few
    primitive-width (primitive.Logic l) ts ks k room operands h le few = logic-width l ts ks k room operands h le few
    primitive-width primitive.Concatenate ts ks k room operands h le few = joined-width ts ks k room operands h le few
    primitive-width _ ts ks k room operands h le few = absurd (cc)

    set-unit : (o : Option Known) (ks : List Kind) (k : Kind) → kind_of_set o ks ≡ Some k → kind.Unit ≡ k
    set-unit None ks k h = absurd (cc)
    set-unit (Some y) ks k h = (taking-is (y.kind ∷ []) ks kind.Unit k h).1

    op-width : (o : Op) (ts : Trees) (ks : List Kind) (t : TypeId) (k : Kind) (room : ℕ) → kinds_of_trees near ys ts ≡ Some ks → kind_of_op near ys o ks ≡ Some k → kind_in near t ≡ Some k → stack_of_operands g (form_of Value o) 0 ts ≤ room → of_op g Value o t ≤ room → room ≤ 65535 → width_of k ≤ room
    op-width (op.Literal l) ts ks t k room operands h told le le' few = let leaf = leaf-kind near ys ks (kind_of_literal near l) k h in let w = literal-width l k leaf.1 in omega (arith, w, le')
    op-width (op.Local x) ts ks t k room operands h told le le' few = let w = width-is g t k told in omega (arith, w, le')
    op-width (op.SetLocal x) ts ks t k room operands h told le le' few = wide-as kind.Unit k room (set-unit (known ys x) ks k h) (omega (arith, le'))
    op-width (op.Call x) ts ks t k room operands h told le le' few = let w = call-width (in_members K.members x) ks k h in omega (arith, w, le')
    op-width (op.Primitive o) ts ks t k room operands h told le le' few = primitive-width o ts ks k room operands h le few
    op-width (op.Run r) ts ks t k room operands h told le le' few = wide-as kind.Unit k room (taking-is (kind.String ∷ []) ks kind.Unit k h).1 (omega (arith, le'))
    op-width _ ts ks t k room operands h told le le' few = absurd (cc)

  -- the room for the value of a tree
  abbrev Wide : List Known → Tree → Type 0
  Wide ys t = (k : Kind) → kind_of_tree near ys t ≡ Some k → stack_of g Value t ≤ 65535 → width_of k ≤ stack_of g Value t

  abbrev Wide_last : List Known → Trees → Type 0
  Wide_last ys ts = (k : Kind) → kind_of_statements near ys ts ≡ Some k → max (stack_of_statements g Value ts) (of_end Value ts) ≤ 65535 → width_of k ≤ max (stack_of_statements g Value ts) (of_end Value ts)

  strict-width : (ys : List Known) (i : NodeInfo) (o : Op) (ts : Trees) → Wide ys (strict i o ts)
  unfolding kind_of_tree stack_of
  strict-width ys i o ts k h few =
      let n = strict-kind near ys o ts i.type_id k h in
      op-width ys o ts n.kinds i.type_id k (max (stack_of_operands g (form_of Value o) 0 ts) (of_op g Value o i.type_id)) n.operands n.op_kind n.told (omega arith) (omega arith) few

  block-width : (ys : List Known) (i : NodeInfo) (xs : List Local) (ts : Trees) → ((zs : List Known) → Wide_last zs ts) → Wide ys (block i xs ts)
  unfolding kind_of_tree stack_of
  block-width ys i xs ts last k h few = let n = block-kind near ys xs ts i.type_id k h in last n.inner k n.last few

  choice-width : (ys : List Known) (i : NodeInfo) (a b c : Tree) → Wide ys b → Wide ys (if_else i a b c)
  unfolding kind_of_tree stack_of
  choice-width ys i a b c first k h few = let n = choice-kind near ys a b c i.type_id k h in let w = first k n.first (omega (arith, few)) in omega (arith, w)

  loop-width : (ys : List Known) (i : NodeInfo) (a b : Tree) → Wide ys (while_do i a b)
  unfolding kind_of_tree stack_of
  loop-width ys i a b k h few = let n = loop-kind near ys a b i.type_id k h in wide-as kind.Unit k _ n.unit (omega arith)

  none-width : (ys : List Known) → Wide_last ys none
  unfolding kind_of_statements
  none-width ys k h few = wide-as kind.Unit k _ (some-is kind.Unit k h) (omega arith)

  more-width : (ys : List Known) (t : Tree) (ts : Trees) → Wide ys t → Wide_last (behind t ys) ts → Wide_last ys (more t ts)
  unfolding kind_of_statements stack_of_statements
  more-width ys t none first rest k h few =
      let b = bound (kind_of_tree near ys t) (λ l. Some l) k h in
      let w = first k (b.1 ∙ b.2) (omega (arith, few)) in
      omega (arith, w)
  more-width ys t (more u us) first rest k h few =
      let b = bound (kind_of_tree near ys t) (λ l. kind_of_statements near (behind t ys) (more u us)) k h in
      let w = rest k b.2 (omega (arith, few)) in
      omega (arith, w)

  no-width : (ys : List Known) (t : Tree) → kind_of_tree near ys t ≡ None → Wide ys t
  no-width ys t e k h few = absurd (cc)

  mutual
    unfolding kind_of_tree

    pub width-le : (t : Tree) (ys : List Known) → Wide ys t
    width-le (strict i o ts) ys = strict-width ys i o ts
    width-le (block i xs ts) ys = block-width ys i xs ts (λ zs. last-width ts zs)
    width-le (and_also i a b) ys = no-width ys _ refl
    width-le (or_else i a b) ys = no-width ys _ refl
    width-le (if_else i a b c) ys = choice-width ys i a b c (width-le b ys)
    width-le (while_do i a b) ys = loop-width ys i a b
    width-le (function i name xs a) ys = no-width ys _ refl
    width-le (thunk i a) ys = no-width ys _ refl
    width-le (match_on i a cs) ys = no-width ys _ refl
    width-le (try_in i a cs fin) ys = no-width ys _ refl
    width-le (label i l a) ys = no-width ys _ refl
    width-le (switch i a ls ts d) ys = no-width ys _ refl

    last-width : (ts : Trees) (ys : List Known) → Wide_last ys ts
    last-width none ys = none-width ys
    last-width (more t ts) ys = more-width ys t ts (width-le t ys) (last-width ts (behind t ys))
