-- How deep the stack gets by a tree in one mode and in another, and by operands one behind the other; and the slots of locals.
use Rattle.std.proofs.Common.{◌≡◌, ℕ, ◌+◌, ◌-◌, ◌≤◌, max, Bool, true, List, [], ◌∷◌, Option, Some, None, refl, sym, ap, ap₂, ◌∙◌, subst, arith, le_refl}
use Rattle.scw_text.specs.declared.number.TypeId.{TypeId}
use Rattle.scw_core.specs.Program.{in_members}
use Rattle.scw_core.specs.Tree.{Tree, Trees, info_of, strict, block, and_also, or_else, if_else, while_do, function, thunk, match_on, try_in, label, switch, none, more}
use Rattle.scw_core.specs.declared.class.Member.{Member}
use Rattle.scw_core.specs.declared.operator.Literal.{Literal}
use Rattle.scw_core.specs.declared.operator.Literal.TheVariants as literal
use Rattle.scw_core.specs.declared.operator.Op.{Op}
use Rattle.scw_core.specs.declared.operator.Op.TheVariants as op
use Rattle.scw_core.specs.declared.operator.Primitive.{Primitive}
use Rattle.scw_core.specs.declared.operator.Primitive.TheVariants as primitive
use Rattle.scw_core.specs.declared.tree.Local.{Local}
use Rattle.scw_gen.specs.declared.kind.Kind.{Kind}
use Rattle.scw_gen.specs.declared.kind.Kind.TheVariants as kind
use Rattle.scw_gen.specs.declared.mode.Mode.{Mode}
use Rattle.scw_gen.specs.declared.mode.Mode.TheVariants.{Value, Effect, Test, Return}
use Rattle.scw_gen.specs.declared.operator.Form.{Form}
use Rattle.scw_gen.specs.declared.operator.Form.TheVariants.{Values, Effects}
use Rattle.scw_gen.specs.Around.{Around, kind_in}
use Rattle.scw_gen.specs.Code.{mode_before}
use Rattle.scw_gen.specs.Kind.{width_of}
use Rattle.scw_gen.specs.Operator.{form_of, form_of_primitive, form_of_value}
use Rattle.scw_gen.specs.Room.{left_by, mode_of_operand, of_call_of, of_end, of_given, of_literal, of_op, of_result, of_truth, slot_behind, stack_of, stack_of_operands, stack_of_statements, sum, width, width_at}
use Rattle.scw_gen.specs.Scope.{Scope, placed, with_local}
use Rattle.scw_gen.proofs.Steps.{bound}

module _ (g : Around) where
  -- ---- where a test jumps, and how far, doesn't matter

  module _ (a b : Bool) (v w : ℕ) where
    primitive-test : (p : Primitive) → form_of_primitive (Test a v) p ≡ form_of_primitive (Test b w) p
    primitive-test (primitive.Arithmetic l o) = refl
    primitive-test (primitive.Comparison l c) = refl
    primitive-test (primitive.Logic l) = refl
    primitive-test primitive.Concatenate = refl
    primitive-test _ = refl

    form-test : (o : Op) → form_of (Test a v) o ≡ form_of (Test b w) o
    form-test (op.Primitive p) = primitive-test p
    form-test _ = refl

    literal-test : (l : Literal) → of_literal (Test a v) l ≡ of_literal (Test b w) l
    literal-test literal.Unit = refl
    literal-test (literal.Boolean c) = refl
    literal-test (literal.Char c) = refl
    literal-test (literal.Int n) = refl
    literal-test (literal.Long n) = refl
    literal-test literal.Null = refl
    literal-test (literal.String t) = refl

    result-test : (k : Option Kind) → of_result (Test a v) k ≡ of_result (Test b w) k
    result-test None = refl
    result-test (Some kind.Unit) = refl
    result-test (Some kind.Boolean) = refl
    result-test (Some kind.Int) = refl
    result-test (Some kind.Long) = refl
    result-test (Some kind.String) = refl
    result-test (Some kind.Strings) = refl
    result-test (Some kind.This) = refl

    call-test : (o : Option Member) → of_call_of g (Test a v) o ≡ of_call_of g (Test b w) o
    call-test None = refl
    call-test (Some member) = result-test (kind_in g member.result)

    op-test : (o : Op) (t : TypeId) → of_op g (Test a v) o t ≡ of_op g (Test b w) o t
    op-test (op.Literal l) t = literal-test l
    op-test (op.Call x) t = call-test (in_members g.class.members x)
    op-test _ t = refl

    end-test : (ts : Trees) → of_end (Test a v) ts ≡ of_end (Test b w) ts
    end-test none = refl
    end-test (more t ts) = refl

    before-test : (t : Tree) (ts : Trees) → stack_of g (Test a v) t ≡ stack_of g (Test b w) t → stack_of g (mode_before (Test a v) ts) t ≡ stack_of g (mode_before (Test b w) ts) t
    before-test t none h = h
    before-test t (more u ts) h = refl

    mutual
      unfolding stack_of stack_of_statements

      pub stack-test : (t : Tree) → stack_of g (Test a v) t ≡ stack_of g (Test b w) t
      stack-test (strict i o ts) = ap₂ (λ (f : Form) n. max (stack_of_operands g f 0 ts) n) (form-test o) (op-test o i.type_id)
      stack-test (block i xs ts) = ap₂ max (statements-test ts) (end-test ts)
      stack-test (and_also i x y) = refl
      stack-test (or_else i x y) = refl
      stack-test (if_else i x y z) = ap (max (stack_of g (Test true 0) x)) (ap₂ max (stack-test y) (stack-test z))
      stack-test (while_do i x y) = refl
      stack-test (function i name xs x) = refl
      stack-test (thunk i x) = refl
      stack-test (match_on i x cs) = refl
      stack-test (try_in i x cs fin) = refl
      stack-test (label i k x) = refl
      stack-test (switch i x ks ts d) = refl

      statements-test : (ts : Trees) → stack_of_statements g (Test a v) ts ≡ stack_of_statements g (Test b w) ts
      statements-test none = refl
      statements-test (more t ts) = ap₂ max (before-test t ts (stack-test t)) (statements-test ts)

  -- ---- a value that is dropped takes no more

  given-effect : (m : Mode) (n : ℕ) → of_given Effect n ≤ of_given m n
  given-effect Value n = omega arith
  given-effect Effect n = omega arith
  given-effect (Test s w) n = omega arith
  given-effect (Return w) n = omega arith

  truth-effect : (m : Mode) → of_truth Effect ≤ of_truth m
  truth-effect Value = omega arith
  truth-effect Effect = omega arith
  truth-effect (Test s w) = omega arith
  truth-effect (Return w) = omega arith

  literal-effect : (m : Mode) (l : Literal) → of_literal Effect l ≤ of_literal m l
  literal-effect m literal.Unit = given-effect m 1
  literal-effect m (literal.Boolean b) = truth-effect m
  literal-effect m (literal.Char c) = given-effect m 1
  literal-effect m (literal.Int n) = given-effect m 1
  literal-effect m (literal.Long n) = given-effect m 2
  literal-effect m literal.Null = given-effect m 1
  literal-effect m (literal.String t) = given-effect m 1

  result-effect : (m : Mode) (k : Option Kind) → of_result Effect k ≤ of_result m k
  result-effect m None = given-effect m 1
  result-effect m (Some kind.Unit) = given-effect m 1
  result-effect m (Some kind.Boolean) = le_refl _
  result-effect m (Some kind.Int) = le_refl _
  result-effect m (Some kind.Long) = le_refl _
  result-effect m (Some kind.String) = le_refl _
  result-effect m (Some kind.Strings) = le_refl _
  result-effect m (Some kind.This) = le_refl _

  call-effect : (m : Mode) (o : Option Member) → of_call_of g Effect o ≤ of_call_of g m o
  call-effect m None = le_refl _
  call-effect m (Some member) = result-effect m (kind_in g member.result)

  op-effect : (m : Mode) (o : Op) (t : TypeId) → of_op g Effect o t ≤ of_op g m o t
  op-effect m (op.Literal l) t = literal-effect m l
  op-effect m (op.Local x) t = given-effect m (width_at g t)
  op-effect m (op.SetLocal x) t = given-effect m 1
  op-effect m (op.Run r) t = given-effect m 1
  op-effect m (op.Call x) t = call-effect m (in_members g.class.members x)
  op-effect m _ t = le_refl _

  value-form : (m : Mode) (ts : Trees) → stack_of_operands g Effects 0 ts ≤ stack_of_operands g Values 0 ts → stack_of_operands g Effects 0 ts ≤ stack_of_operands g (form_of_value m) 0 ts
  value-form Value ts h = h
  value-form Effect ts h = le_refl _
  value-form (Test s w) ts h = h
  value-form (Return w) ts h = h

  primitive-form : (m : Mode) (p : Primitive) (ts : Trees) → stack_of_operands g Effects 0 ts ≤ stack_of_operands g Values 0 ts → stack_of_operands g (form_of_primitive Effect p) 0 ts ≤ stack_of_operands g (form_of_primitive m p) 0 ts
  primitive-form m (primitive.Arithmetic l o) ts h = value-form m ts h
  primitive-form m (primitive.Comparison l c) ts h = value-form m ts h
  primitive-form m (primitive.Logic l) ts h = value-form m ts h
  primitive-form m primitive.Concatenate ts h = le_refl _
  primitive-form m _ ts h = le_refl _

  form-effect : (m : Mode) (o : Op) (ts : Trees) → stack_of_operands g Effects 0 ts ≤ stack_of_operands g Values 0 ts → stack_of_operands g (form_of Effect o) 0 ts ≤ stack_of_operands g (form_of m o) 0 ts
  form-effect m (op.Primitive p) ts h = primitive-form m p ts h
  form-effect m _ ts h = le_refl _

  end-effect : (m : Mode) (ts : Trees) → of_end Effect ts ≤ of_end m ts
  end-effect m none = given-effect m 1
  end-effect m (more t ts) = le_refl _

  before-effect : (m : Mode) (t : Tree) (ts : Trees) → stack_of g Effect t ≤ stack_of g m t → stack_of g (mode_before Effect ts) t ≤ stack_of g (mode_before m ts) t
  before-effect m t none h = h
  before-effect m t (more u ts) h = le_refl _

  max-le : (a b c d : ℕ) → a ≤ c → b ≤ d → max a b ≤ max c d
  max-le a b c d h k = omega (arith, h, k)

  mutual
    unfolding stack_of stack_of_operands stack_of_statements

    pub stack-effect : (m : Mode) (t : Tree) → stack_of g Effect t ≤ stack_of g m t
    stack-effect m (strict i o ts) = max-le _ _ _ _ (form-effect m o ts (operands-effect 0 ts)) (op-effect m o i.type_id)
    stack-effect m (block i xs ts) = max-le _ _ _ _ (statements-effect m ts) (end-effect m ts)
    stack-effect m (and_also i x y) = le_refl _
    stack-effect m (or_else i x y) = le_refl _
    stack-effect m (if_else i x y z) = max-le _ _ _ _ (le_refl _) (max-le _ _ _ _ (stack-effect m y) (stack-effect m z))
    stack-effect m (while_do i x y) = max-le _ _ _ _ (le_refl _) (max-le _ _ _ _ (le_refl _) (given-effect m 1))
    stack-effect m (function i name xs x) = le_refl _
    stack-effect m (thunk i x) = le_refl _
    stack-effect m (match_on i x cs) = le_refl _
    stack-effect m (try_in i x cs fin) = le_refl _
    stack-effect m (label i k x) = le_refl _
    stack-effect m (switch i x ks ts d) = le_refl _

    operands-effect : (d : ℕ) (ts : Trees) → stack_of_operands g Effects 0 ts ≤ stack_of_operands g Values d ts
    operands-effect d none = omega arith
    operands-effect d (more t ts) = let one = stack-effect Value t in let rest = operands-effect (sum d (width_at g (info_of t).type_id)) ts in omega (arith, one, rest)

    statements-effect : (m : Mode) (ts : Trees) → stack_of_statements g Effect ts ≤ stack_of_statements g m ts
    statements-effect m none = le_refl _
    statements-effect m (more t ts) = max-le _ _ _ _ (before-effect m t ts (stack-effect m t)) (statements-effect m ts)

  -- ---- operands

  -- with so many words there, the stack is as deep at least
  pub operands-depth : (f : Form) (d : ℕ) (ts : Trees) → stack_of_operands g f d ts ≤ 65535 → d ≤ stack_of_operands g f d ts
  unfolding stack_of_operands
  operands-depth f d none h = le_refl _
  operands-depth f d (more t ts) h = let rest = operands-depth f (sum d (left_by g f (info_of t).type_id)) ts (omega (arith, h)) in omega (arith, h, rest)

  -- where so many words are there, and so many may be there more
  pub record Room (f : Form) (t : Tree) (ts : Trees) (d depth left : ℕ) : Type 0 where
    pub operand : stack_of g (mode_of_operand f) t ≤ d
    pub leaves : left + (d - left) ≤ d
    pub rest : stack_of_operands g f (depth + left) ts ≤ (d - left) + (depth + left)
    pub few : (d - left) + (depth + left) ≤ 65535

  pub operand-room : (f : Form) (t : Tree) (ts : Trees) (d depth : ℕ) → stack_of_operands g f depth (more t ts) ≤ d + depth → d + depth ≤ 65535 → Room f t ts d depth (left_by g f (info_of t).type_id)
  unfolding stack_of_operands
  operand-room f t ts d depth h few =
      let left = left_by g f (info_of t).type_id in
      let next = operands-depth f (sum depth left) ts (omega (arith, h, few)) in
      let same : sum depth left ≡ depth + left = omega (arith, h, few, next) in
      let rest : stack_of_operands g f (sum depth left) ts ≤ d + depth = omega (arith, h) in
      let there : left ≤ d = omega (arith, rest, next, same) in
      let rest2 = subst (λ n. stack_of_operands g f n ts ≤ d + depth) same rest in
      record {
        operand = (let all : sum depth (stack_of g (mode_of_operand f) t) ≤ d + depth = omega (arith, h) in omega (arith, all, few));
        leaves = omega (arith, there);
        rest = omega (arith, rest2, there);
        few = omega (arith, few, there);
      }

  -- a value of the type takes as many words as one of its kind
  pub width-is : (t : TypeId) (k : Kind) → kind_in g t ≡ Some k → width_at g t ≡ width_of k
  width-is t k h = ap (λ (o : Option Kind). width o) h

  -- ---- slots

  -- behind locals the first free slot is no lower
  pub slots-rise : (n : ℕ) (xs : List Local) → slot_behind g n xs ≤ 65535 → n ≤ slot_behind g n xs
  unfolding slot_behind
  slots-rise n [] h = le_refl _
  slots-rise n (x ∷ xs) h = let rest = slots-rise (sum n (width_at g x.type_id)) xs h in omega (arith, h, rest)

  -- it is that of their scope
  pub placed-next : (xs : List Local) (s added : Scope) → placed g.table g.class.symbol s xs ≡ Some added → slot_behind g s.next xs ≤ 65535 → added.next ≡ slot_behind g s.next xs
  unfolding slot_behind placed
  placed-next [] s added h few = let e : s ≡ added = cc in ap (λ (t : Scope). t.next) (sym e)
  placed-next (x ∷ xs) s added h few =
      let b = bound (kind_in g x.type_id) (λ k. placed g.table g.class.symbol (with_local s x.symbol k) xs) added h in
      let wide = width-is x.type_id b.0 b.1 in
      let rest = slots-rise (sum s.next (width_at g x.type_id)) xs few in
      let same : sum s.next (width_at g x.type_id) ≡ (with_local s x.symbol b.0).next = omega (arith, few, rest, wide) in
      let few2 = subst (λ n. slot_behind g n xs ≤ 65535) same few in
      placed-next xs (with_local s x.symbol b.0) added b.2 few2 ∙ ap (λ n. slot_behind g n xs) (sym same)
