-- Choices and loops stand where they should, where their parts do.
use Rattle.std.proofs.Common.{◌≡◌, ℕ, ◌+◌, ◌-◌, ◌≤◌, ◌<◌, Bool, true, false, cond, List, [], ◌∷◌, ◌++◌, Option, Some, None, refl, sym, ap, ◌∙◌, subst, inl, arith, nat_eq, eqb-true}
use Rattle.scw_classfile.specs.declared.pool_entry.PoolEntry.{PoolEntry}
use Rattle.scw_core.specs.Program as core
use Rattle.scw_core.specs.Tree.{Tree, Trees, strict, if_else, none}
use Rattle.scw_core.specs.declared.class.CoreClass.{CoreClass}
use Rattle.scw_core.specs.declared.operator.Literal.TheVariants as literal
use Rattle.scw_core.specs.declared.operator.Op.{Op}
use Rattle.scw_core.specs.declared.operator.Op.TheVariants as op
use Rattle.scw_core.specs.declared.tree.NodeInfo.{NodeInfo}
use Rattle.scw_gen.specs.declared.instr.Instr.{Instr}
use Rattle.scw_gen.specs.declared.instr.Instr.TheVariants as instr
use Rattle.scw_gen.specs.declared.kind.Kind.{Kind}
use Rattle.scw_gen.specs.declared.kind.Kind.TheVariants as kind
use Rattle.scw_gen.specs.declared.kind.Word.{Word}
use Rattle.scw_gen.specs.declared.mode.Mode.{Mode}
use Rattle.scw_gen.specs.declared.mode.Mode.TheVariants.{Value, Effect, Test, Return}
use Rattle.scw_gen.specs.declared.operator.Form.TheVariants.{Values}
use Rattle.scw_gen.specs.Around.{Around}
use Rattle.scw_gen.specs.Code.{choice, choice_code, joined, loop, test_choice, truth_of, truth_of_op, value_choice}
use Rattle.scw_gen.specs.Instr.{bytes_of, plus, room_of, size_of}
use Rattle.scw_gen.specs.Mode.{Tail, agree, alone, both, branches, decided, either, farther, jump, jump_back, jump_size, mode_of_test}
use Rattle.scw_gen.specs.Outcome.{◌>>=◌}
use Rattle.scw_gen.specs.Room.{stack_of}
use Rattle.scw_gen.specs.Scope.{Scope}
use Rattle.scw_gen.specs.Typed.{Known, kind_of_op, kind_of_tree}
use Rattle.scw_gen.proofs.Landing.{bytes-append, bytes-one, reach, room-is}
use Rattle.scw_gen.proofs.Steps.{bound, joined-is}
use Rattle.scw_frame.specs.declared.operation.Operation.TheVariants as operation
use Rattle.scw_frame.specs.declared.program.Method.{Method}
use Rattle.scw_frame.specs.declared.program.Program.{Program}
use Rattle.scw_back.proofs.Placed.{At, Stood, m_back, m_far_back}
use Rattle.scw_back.proofs.Loaded.{around_by}
use Rattle.scw_back.proofs.Goals.{CodeAt, Goal, Joins, Leads, goal_of, push, drop, test, leave, j_push, j_drop, j_test, j_leave, a_none, o_boolean, t_test, c_strict, c_if, c_if_same}
use Rattle.scw_back.proofs.CodeGoals.{Fits, Only, jump-leads, size-jump, stood-back, stood-front, there-as}
use Rattle.scw_back.proofs.TypedKinds.{leaf-kind, no-kinds, some-is, strict-kind}
use Rattle.scw_back.proofs.RoomAt.{stack-effect, stack-test}

module _ (p : core.Program) (K : CoreClass) (pool : List PoolEntry) (far : Bool) (L : Program) (m : Method) where
  abbrev g : Around
  g = around_by p K pool far

  abbrev near : Around
  near = around_by p K pool false

  abbrev Stand : ℕ → List Instr → Type 0
  Stand pc is = Stood p.table K L m pc is

  abbrev Leads_to : ℕ → ℕ → Type 0
  Leads_to from to = Leads p K pool L m from to

  -- ---- sizes

  jump-some : 3 ≤ jump_size far
  jump-some = by far
    where
      by : (f : Bool) → 3 ≤ jump_size f
      by true = omega arith
      by false = omega arith

  size-back : (way : ℕ) → size_of (jump_back far way) ≡ jump_size far
  size-back way = by far
    where
      by : (f : Bool) → size_of (jump_back f way) ≡ jump_size f
      by true = refl
      by false = refl

  -- two branches, of which the first jumps over the second
  abbrev joint : List Instr → List Instr → List Instr
  joint a b = (a ++ jump far (room_of b) ∷ []) ++ b

  record Both (a b : List Instr) (mid e : ℕ) : Type 0 where
    one : Stand mid a
    two : Stand (mid + plus (room_of a) (jump_size far)) b
    jumps : Leads_to (mid + bytes_of a) e
    over : e ≡ mid + bytes_of a + room_of b + jump_size far
    end : e ≡ mid + plus (room_of a) (jump_size far) + bytes_of b
    within : mid + plus (room_of a) (jump_size far) ≤ e

  both-parts : (a b : List Instr) (mid e : ℕ) → Stand mid (joint a b) → e ≡ mid + bytes_of (joint a b) → e ≤ 65535 → Both a b mid e
  both-parts a b mid e st at few =
      let j = jump far (room_of b) in
      let front = a ++ j ∷ [] in
      let x = bytes-append front b in
      let y = bytes-append a (j ∷ []) in
      let z = bytes-one j in
      let s = size-jump far (room_of b) in
      let ra = room-is a (omega (arith, at, few, x, y)) in
      let rb = room-is b (omega (arith, at, few, x, y)) in
      let place : mid + bytes_of front ≡ mid + plus (room_of a) (jump_size far) = omega (arith, x, y, z, s, ra, at, few) in
      let begin = stood-front p.table K L m mid front b st in
      let jumps = stood-back p.table K L m mid a (j ∷ []) begin in
      record {
        one = stood-front p.table K L m mid a (j ∷ []) begin;
        two = subst (λ n. Stand n b) place (stood-back p.table K L m mid front b st);
        jumps = jump-leads p K pool L m far (room_of b) (mid + bytes_of a) e jumps.0 (omega (arith, x, y, z, s, rb, at)) few;
        over = omega (arith, x, y, z, s, rb, at);
        end = omega (arith, place, x, at);
        within = omega (arith, place, x, at);
      }

  module _ (ys : List Known) (s : Scope) (d : ℕ) where
    abbrev Code_at : Kind → Goal → ℕ → Tree → Type 0
    Code_at k goal pc t = CodeAt p K pool L m ys s k goal d pc t

    -- the code of a tree in each mode stands where it should
    abbrev pub PlacedBy : Kind → Tree → (Mode → Option (List Instr)) → Type 0
    PlacedBy k t made = (mode : Mode) (is : List Instr) (pc e : ℕ) → made mode ≡ Some is → Fits mode k → stack_of g mode t ≤ d → Stand pc is → e ≡ pc + bytes_of is → e + reach mode ≤ 65535 → Code_at k (goal_of mode e) pc t

    joins-same : (goal : Goal) → Joins p K pool L m goal goal
    joins-same (push q) = j_push (inl refl)
    joins-same (drop q) = j_drop (inl refl)
    joins-same (test y n) = j_test (inl refl) (inl refl)
    joins-same leave = j_leave

    -- ---- a branch that is a constant

    truth-op : (o : Op) (b : Bool) → truth_of_op o ≡ Some b → o ≡ op.Literal (literal.Boolean b)
    truth-op (op.Literal (literal.Boolean c)) b h = ap (λ x. op.Literal (literal.Boolean x)) (some-is c b h)
    truth-op _ b h = absurd (cc)

    constant-strict : (i : NodeInfo) (o : Op) (ts : Trees) (b : Bool) (k : Kind) (pc y n : ℕ) → truth_of_op o ≡ Some b → kind_of_tree near ys (strict i o ts) ≡ Some k → pc ≡ cond b y n → Code_at k (test y n) pc (strict i o ts)
    unfolding kind_of_tree
    constant-strict i o ts b k pc y n h told at =
        let node = strict-kind near ys o ts i.type_id k told in
        let same = truth-op o b h in
        let op_kind = subst (λ (x : Op). kind_of_op near ys x node.kinds ≡ Some k) same node.op_kind in
        let leaf = leaf-kind near ys node.kinds (Some kind.Boolean) k op_kind in
        let empty = no-kinds near ys ts (node.operands ∙ ap Some leaf.0) in
        let made : Code_at kind.Boolean (test y n) pc (strict i (op.Literal (literal.Boolean b)) none) = c_strict {f = Values} {ks = []} a_none (o_boolean (t_test (inl at))) in
        subst (λ (l : Kind). Code_at l (test y n) pc (strict i o ts)) (some-is kind.Boolean k leaf.1)
        (subst (λ (x : Op). Code_at kind.Boolean (test y n) pc (strict i x ts)) (sym same) (subst (λ (us : Trees). Code_at kind.Boolean (test y n) pc (strict i (op.Literal (literal.Boolean b)) us)) (sym empty) made))

    constant-at : (t : Tree) (b : Bool) (k : Kind) (pc y n : ℕ) → truth_of t ≡ Some b → kind_of_tree near ys t ≡ Some k → pc ≡ cond b y n → Code_at k (test y n) pc t
    constant-at (strict i o ts) b k pc y n h told at = constant-strict i o ts b k pc y n h told at
    constant-at _ b k pc y n h told at = absurd (cc)

    -- where the test of the choice leads to a constant, the choice goes on
    decided-at : (sense b : Bool) (way : ℕ) (t : Tree) (k : Kind) (pc e : ℕ) → truth_of t ≡ Some b → kind_of_tree near ys t ≡ Some k → pc ≡ cond (agree b sense) (e + way) e → Code_at k (cond sense (test (e + way) e) (test e (e + way))) pc t
    decided-at true true way t k pc e h told at = constant-at t true k pc (e + way) e h told at
    decided-at true false way t k pc e h told at = constant-at t false k pc (e + way) e h told at
    decided-at false true way t k pc e h told at = constant-at t true k pc e (e + way) h told at
    decided-at false false way t k pc e h told at = constant-at t false k pc e (e + way) h told at

    -- ---- a choice

    module _ (a b c : Tree) (k : Kind) where
      -- the branches behind a test that ends at the place
      data Chosen (goal : Goal) (mid : ℕ) (sense : Bool) (way : ℕ) : Type 0 where
        direct : Code_at k goal (cond sense (mid + way) mid) b → Code_at k goal (cond sense mid (mid + way)) c → Chosen goal mid sense way
        joining : {first second : Goal} → 0 < way → Code_at k first (cond sense (mid + way) mid) b → Joins p K pool L m first goal → Code_at k second (cond sense mid (mid + way)) c → Joins p K pool L m second goal → Chosen goal mid sense way

      module _ (i : NodeInfo) (tests : Mode → Option (List Instr)) (places : PlacedBy kind.Boolean a tests) (shallow : stack_of g (Test true 0) a ≤ d) where
        -- the test would jump to what follows
        same-place : (sense : Bool) (mid way : ℕ) → way ≡ 0 → cond sense (mid + way) mid ≡ mid
        same-place true mid way h = omega (arith, h)
        same-place false mid way h = refl

        same-place' : (sense : Bool) (mid way : ℕ) → way ≡ 0 → cond sense mid (mid + way) ≡ mid
        same-place' true mid way h = refl
        same-place' false mid way h = omega (arith, h)

        idle-test : (goal : Goal) (sense : Bool) (pc mid way : ℕ) → way ≡ 0 → Code_at kind.Boolean (drop mid) pc a → Chosen goal mid sense way → Code_at k goal pc (if_else i a b c)
        idle-test goal sense pc mid way h code (direct one two) =
            c_if_same {r = mid} code (subst (λ n. Code_at k goal n b) (same-place sense mid way h) one) (subst (λ n. Code_at k goal n c) (same-place' sense mid way h) two)
        idle-test goal sense pc mid way h code (joining some one j two j') = absurd (omega (arith, h, some))

        true-test : (goal : Goal) (sense : Bool) (pc mid way : ℕ) → Code_at kind.Boolean (goal_of (Test sense way) mid) pc a → Chosen goal mid sense way → Code_at k goal pc (if_else i a b c)
        true-test goal true pc mid way code (direct one two) = c_if {first = goal} {second = goal} {y = mid + way} {n = mid} code one (joins-same goal) two (joins-same goal)
        true-test goal true pc mid way code (joining some one j two j') = c_if {y = mid + way} {n = mid} code one j two j'
        true-test goal false pc mid way code (direct one two) = c_if {first = goal} {second = goal} {y = mid} {n = mid + way} code one (joins-same goal) two (joins-same goal)
        true-test goal false pc mid way code (joining some one j two j') = c_if {y = mid} {n = mid + way} code one j two j'

        -- a test, and behind it the branches
        chosen-at : (goal : Goal) (sense : Bool) (way : ℕ) (ts : List Instr) (pc mid : ℕ) → tests (mode_of_test sense way) ≡ Some ts → Stand pc ts → mid ≡ pc + bytes_of ts → mid + way ≤ 65535 → Chosen goal mid sense way → Code_at k goal pc (if_else i a b c)
        chosen-at goal sense way ts pc mid h st at few chosen = by (nat_eq way 0) refl h
          where
            by : (z : Bool) → nat_eq way 0 ≡ z → tests (cond z Effect (Test sense way)) ≡ Some ts → Code_at k goal pc (if_else i a b c)
            by true e h =
                let low : stack_of g Effect a ≤ d = (let l = stack-effect g (Test true 0) a in omega (arith, l, shallow)) in
                idle-test goal sense pc mid way (eqb-true way 0 e) (places Effect ts pc mid h tt low st at (omega (arith, few))) chosen
            by false e h =
                let low : stack_of g (Test sense way) a ≤ d = (let l = stack-test g true sense 0 way a in omega (arith, l, shallow)) in
                true-test goal sense pc mid way (places (Test sense way) ts pc mid h refl low st at few) chosen

      module _ (ones twos : Mode → Option (List Instr)) (placed1 : PlacedBy k b ones) (placed2 : PlacedBy k c twos) (kind1 : kind_of_tree near ys b ≡ Some k) (kind2 : kind_of_tree near ys c ≡ Some k) where
        -- what stands behind the test of a choice
        abbrev TailAt : Mode → Tail → Type 0
        TailAt mode t = (mid e : ℕ) → Stand mid t.instrs → e ≡ mid + bytes_of t.instrs → e + reach mode ≤ 65535 → Chosen (goal_of mode e) mid t.sense t.way × (mid + t.way ≤ 65535)

        tail-same : (mode : Mode) (x t : Tail) → Some x ≡ Some t → TailAt mode x → TailAt mode t
        tail-same mode x t h k = subst (λ (y : Tail). TailAt mode y) (some-is x t h) k

        both-value : (x y : List Instr) → ones Value ≡ Some x → twos Value ≡ Some y → stack_of g Value b ≤ d → stack_of g Value c ≤ d → TailAt Value (both far x y)
        both-value x y hx hy low low' mid e st at few =
            let parts = both-parts x y mid e st at (omega (arith, few)) in
            let some = jump-some in
            let one = placed1 Value x mid (mid + bytes_of x) hx tt low parts.one refl (let over = parts.over in omega (arith, over, few)) in
            let two = placed2 Value y (mid + plus (room_of x) (jump_size far)) e hy tt low' parts.two parts.end few in
            (joining {first = push (mid + bytes_of x)} {second = push e} (omega (arith, some)) one (j_push parts.jumps) two (joins-same (push e)), let within = parts.within in omega (arith, within, few))

        both-effect : (x y : List Instr) → ones Effect ≡ Some x → twos Effect ≡ Some y → stack_of g Effect b ≤ d → stack_of g Effect c ≤ d → TailAt Effect (both far x y)
        both-effect x y hx hy low low' mid e st at few =
            let parts = both-parts x y mid e st at (omega (arith, few)) in
            let some = jump-some in
            let one = placed1 Effect x mid (mid + bytes_of x) hx tt low parts.one refl (let over = parts.over in omega (arith, over, few)) in
            let two = placed2 Effect y (mid + plus (room_of x) (jump_size far)) e hy tt low' parts.two parts.end few in
            (joining {first = drop (mid + bytes_of x)} {second = drop e} (omega (arith, some)) one (j_drop parts.jumps) two (joins-same (drop e)), let within = parts.within in omega (arith, within, few))

        joins-test : (sense : Bool) (f e w v : ℕ) → Leads_to f e → f + w ≡ e + v → Joins p K pool L m (goal_of (Test sense w) f) (goal_of (Test sense v) e)
        joins-test true f e w v l h = j_test (inl h) l
        joins-test false f e w v l h = j_test l (inl h)

        abbrev past : ℕ → List Instr → ℕ
        past way y = plus (plus (room_of y) (jump_size far)) way

        both-test : (sense : Bool) (way : ℕ) (x y : List Instr) → ones (Test sense (past way y)) ≡ Some x → twos (Test sense way) ≡ Some y → k ≡ kind.Boolean → stack_of g (Test sense way) b ≤ d → stack_of g (Test sense way) c ≤ d → TailAt (Test sense way) (both far x y)
        both-test sense way x y hx hy fits low low' mid e st at few =
            let parts = both-parts x y mid e st at (omega (arith, few)) in
            let some = jump-some in
            let over = parts.over in
            let same : mid + bytes_of x + past way y ≡ e + way = omega (arith, over, few) in
            let low2 : stack_of g (Test sense (past way y)) b ≤ d = (let l = stack-test g sense sense way (past way y) b in omega (arith, l, low)) in
            let one = placed1 (Test sense (past way y)) x mid (mid + bytes_of x) hx fits low2 parts.one refl (omega (arith, same, few)) in
            let two = placed2 (Test sense way) y (mid + plus (room_of x) (jump_size far)) e hy fits low' parts.two parts.end few in (
              joining {first = goal_of (Test sense (past way y)) (mid + bytes_of x)} {second = goal_of (Test sense way) e} (omega (arith, some)) one (joins-test sense (mid + bytes_of x) e (past way y) way parts.jumps same) two (joins-same (goal_of (Test sense way) e)),
              let within = parts.within in omega (arith, within, few),
            )

        no-bytes : bytes_of [] ≡ 0
        unfolding bytes_of
        no-bytes = refl

        either-tail : (x y : List Instr) → ones Effect ≡ Some x → twos Effect ≡ Some y → stack_of g Effect b ≤ d → stack_of g Effect c ≤ d → TailAt Effect (either far x y)
        either-tail x [] hx hy low low' mid e st at few =
            let r = room-is x (omega (arith, at, few)) in
            let n = no-bytes in
            (direct (placed1 Effect x mid e hx tt low st at few) (placed2 Effect [] (mid + room_of x) e hy tt low' tt (omega (arith, at, r, n)) few), omega (arith, r, at, few))
        either-tail [] (j ∷ js) hx hy low low' mid e st at few =
            let r = room-is (j ∷ js) (omega (arith, at, few)) in
            let n = no-bytes in
            (direct (placed1 Effect [] (mid + room_of (j ∷ js)) e hx tt low tt (omega (arith, at, r, n)) few) (placed2 Effect (j ∷ js) mid e hy tt low' st at few), omega (arith, r, at, few))
        either-tail (l ∷ ls) (j ∷ js) hx hy low low' mid e st at few = both-effect (l ∷ ls) (j ∷ js) hx hy low low' mid e st at few

        apart-tail : (w : Word) (x y : List Instr) → ones (Return w) ≡ Some x → twos (Return w) ≡ Some y → Fits (Return w) k → stack_of g (Return w) b ≤ d → stack_of g (Return w) c ≤ d → TailAt (Return w) (branches far (Return w) x y)
        apart-tail w x y hx hy fits low low' mid e st at few =
            let z = bytes-append x y in
            let r = room-is x (omega (arith, at, few, z)) in
            let place : mid + bytes_of x ≡ mid + room_of x = omega (arith, r) in
            let two = subst (λ n. Stand n y) place (stood-back p.table K L m mid x y st) in (
              direct (placed1 (Return w) x mid (mid + bytes_of x) hx fits low (stood-front p.table K L m mid x y st) refl (omega (arith, at, few, z))) (placed2 (Return w) y (mid + room_of x) e hy fits low' two (omega (arith, z, r, at)) few),
              omega (arith, z, r, at, few),
            )

        -- the second branch is a constant
        second-decided : (sense v : Bool) (way : ℕ) (x : List Instr) → truth_of c ≡ Some v → ones (Test sense way) ≡ Some x → k ≡ kind.Boolean → stack_of g (Test sense way) b ≤ d → TailAt (Test sense way) (decided sense way v (alone false x))
        second-decided sense v way x h hx fits low = by (agree v sense) refl
          where
            by : (z : Bool) → agree v sense ≡ z → TailAt (Test sense way) (cond z (farther way (alone false x)) (alone false x))
            by true e mid q st at few =
                let r = room-is x (omega (arith, at, few)) in
                let place : mid + plus (room_of x) way ≡ q + way = omega (arith, r, at, few) in
                (direct (placed1 (Test sense way) x mid q hx fits low st at few) (decided-at sense v way c k (mid + plus (room_of x) way) q h kind2 (place ∙ ap (λ z. cond z (q + way) q) (sym e))), omega (arith, place, few))
            by false e mid q st at few =
                let r = room-is x (omega (arith, at, few)) in
                let place : mid + room_of x ≡ q = omega (arith, r, at, few) in
                (direct (placed1 (Test sense way) x mid q hx fits low st at few) (decided-at sense v way c k (mid + room_of x) q h kind2 (place ∙ ap (λ z. cond z (q + way) q) (sym e))), omega (arith, place, few))

        -- the first branch is
        first-decided : (sense v : Bool) (way : ℕ) (x : List Instr) → truth_of b ≡ Some v → twos (Test sense way) ≡ Some x → k ≡ kind.Boolean → stack_of g (Test sense way) c ≤ d → TailAt (Test sense way) (decided sense way v (alone true x))
        first-decided sense v way x h hx fits low = by (agree v sense) refl
          where
            by : (z : Bool) → agree v sense ≡ z → TailAt (Test sense way) (cond z (farther way (alone true x)) (alone true x))
            by true e mid q st at few =
                let r = room-is x (omega (arith, at, few)) in
                let place : mid + plus (room_of x) way ≡ q + way = omega (arith, r, at, few) in
                (direct (decided-at sense v way b k (mid + plus (room_of x) way) q h kind1 (place ∙ ap (λ z. cond z (q + way) q) (sym e))) (placed2 (Test sense way) x mid q hx fits low st at few), omega (arith, place, few))
            by false e mid q st at few =
                let r = room-is x (omega (arith, at, few)) in
                let place : mid + room_of x ≡ q = omega (arith, r, at, few) in
                (direct (decided-at sense v way b k (mid + room_of x) q h kind1 (place ∙ ap (λ z. cond z (q + way) q) (sym e))) (placed2 (Test sense way) x mid q hx fits low st at few), omega (arith, place, few))

        test_choice-tail : (sense : Bool) (way : ℕ) (u v : Option Bool) (t : Tail) → truth_of b ≡ u → truth_of c ≡ v → test_choice far sense way u v ones twos ≡ Some t → k ≡ kind.Boolean → stack_of g (Test sense way) b ≤ d → stack_of g (Test sense way) c ≤ d → TailAt (Test sense way) t
        test_choice-tail sense way u (Some v) t hu hv h fits low low' =
            let o = bound (ones (Test sense way)) (λ is. Some (decided sense way v (alone false is))) t h in
            tail-same (Test sense way) _ t o.2 (second-decided sense v way o.0 hv o.1 fits low)
        test_choice-tail sense way (Some u) None t hu hv h fits low low' =
            let o = bound (twos (Test sense way)) (λ is. Some (decided sense way u (alone true is))) t h in
            tail-same (Test sense way) _ t o.2 (first-decided sense u way o.0 hu o.1 fits low')
        test_choice-tail sense way None None t hu hv h fits low low' =
            let o = bound (twos (Test sense way)) (λ second. ones (Test sense (past way second)) >>= λ first. Some (both far first second)) t h in
            let q = bound (ones (Test sense (past way o.0))) (λ first. Some (both far first o.0)) t o.2 in
            tail-same (Test sense way) _ t q.2 (both-test sense way q.0 o.0 q.1 o.1 fits low low')

        value_choice-tail : (mode : Mode) (t : Tail) → ((x y : List Instr) → ones mode ≡ Some x → twos mode ≡ Some y → TailAt mode (branches far mode x y)) → value_choice far mode ones twos ≡ Some t → TailAt mode t
        value_choice-tail mode t tails h =
            let o = bound (ones mode) (λ first. twos mode >>= λ second. Some (branches far mode first second)) t h in
            let q = bound (twos mode) (λ second. Some (branches far mode o.0 second)) t o.2 in
            tail-same mode _ t q.2 (tails o.0 q.0 o.1 q.1)

        choice-tail : (mode : Mode) (t : Tail) → choice far mode (truth_of b) (truth_of c) ones twos ≡ Some t → Fits mode k → stack_of g mode b ≤ d → stack_of g mode c ≤ d → TailAt mode t
        choice-tail Value t h fits low low' = value_choice-tail Value t (λ x y hx hy. both-value x y hx hy low low') h
        choice-tail Effect t h fits low low' = value_choice-tail Effect t (λ x y hx hy. either-tail x y hx hy low low') h
        choice-tail (Test sense way) t h fits low low' = test_choice-tail sense way (truth_of b) (truth_of c) t refl refl h fits low low'
        choice-tail (Return w) t h fits low low' = value_choice-tail (Return w) t (λ x y hx hy. apart-tail w x y hx hy fits low low') h

    -- a choice stands where it should, where its parts do
    pub choice-at : (i : NodeInfo) (a b c : Tree) (k : Kind) (tests ones twos : Mode → Option (List Instr)) → PlacedBy kind.Boolean a tests → PlacedBy k b ones → PlacedBy k c twos → kind_of_tree near ys b ≡ Some k → kind_of_tree near ys c ≡ Some k → stack_of g (Test true 0) a ≤ d
        → (mode : Mode) (is : List Instr) (pc e : ℕ) → choice_code tests (choice far mode (truth_of b) (truth_of c) ones twos) ≡ Some is → Fits mode k → stack_of g mode b ≤ d → stack_of g mode c ≤ d → Stand pc is → e ≡ pc + bytes_of is → e + reach mode ≤ 65535
        → Code_at k (goal_of mode e) pc (if_else i a b c)
    choice-at i a b c k tests ones twos placed placed1 placed2 kind1 kind2 shallow mode is pc e h fits low low' st at few =
        let o = bound (choice far mode (truth_of b) (truth_of c) ones twos) (λ t. joined (tests (mode_of_test t.sense t.way)) (Some t.instrs)) is h in
        let t = o.0 in
        let tail = choice-tail a b c k ones twos placed1 placed2 kind1 kind2 mode t o.1 fits low low' in
        let j = joined-is (tests (mode_of_test t.sense t.way)) (Some t.instrs) is o.2 in
        let second : j.second ≡ t.instrs = sym (some-is t.instrs j.second j.b-is) in
        let same : is ≡ j.first ++ t.instrs = sym j.is ∙ ap (λ (l : List Instr). j.first ++ l) second in
        let stands = subst (λ (l : List Instr). Stand pc l) same st in
        let ends = subst (λ (l : List Instr). e ≡ pc + bytes_of l) same at in
        let size = bytes-append j.first t.instrs in
        let mid = pc + bytes_of j.first in
        let chosen = tail mid e (stood-back p.table K L m pc j.first t.instrs stands) (omega (arith, ends, size)) few in
        chosen-at a b c k i tests placed shallow (goal_of mode e) t.sense t.way j.first pc mid j.a-is (stood-front p.table K L m pc j.first t.instrs stands) refl chosen.1 chosen.0

  -- ---- loops

  only-back : (way pc : ℕ) → Only p.table K L pc (instr.Back way) (operation.Jump (pc - way))
  only-back way pc x (m_back way' le) = refl

  only-far_back : (way pc : ℕ) → Only p.table K L pc (instr.FarBack way) (operation.Jump (pc - way))
  only-far_back way pc x (m_far_back way' le) = refl

  only-jump_back : (way pc : ℕ) → Only p.table K L pc (jump_back far way) (operation.Jump (pc - way))
  only-jump_back way pc = by far
    where
      by : (f : Bool) → Only p.table K L pc (jump_back f way) (operation.Jump (pc - way))
      by true = only-far_back way pc
      by false = only-back way pc

  pub record Loop (a b : List Instr) (pc e : ℕ) : Type 0 where
    pub test : Stand pc a
    pub body : Stand (pc + bytes_of a) b
    pub next : ℕ
    pub back : At p.table K L m (pc + bytes_of a + bytes_of b) (operation.Jump pc) next
    pub out : e ≡ pc + bytes_of a + plus (room_of b) (jump_size far)
    pub within : pc + bytes_of a + bytes_of b ≤ e

  pub loop-parts : (a b : List Instr) (pc e : ℕ) → Stand pc (loop far a b) → e ≡ pc + bytes_of (loop far a b) → e ≤ 65535 → Loop a b pc e
  loop-parts a b pc e st at few =
      let way = plus (room_of a) (room_of b) in
      let j = jump_back far way in
      let s = size-back way in
      let y = bytes-append (a ++ b) (j ∷ []) in
      let z = bytes-append a b in
      let k = bytes-one j in
      let ra = room-is a (omega (arith, at, few, y, z)) in
      let rb = room-is b (omega (arith, at, few, y, z)) in
      let front = stood-front p.table K L m pc (a ++ b) (j ∷ []) st in
      let last = stood-back p.table K L m pc (a ++ b) (j ∷ []) st in
      let q = pc + bytes_of (a ++ b) in
      let to : q - way ≡ pc = omega (arith, z, ra, rb, at, few, y) in
      let jump = subst (λ n. At p.table K L m q (operation.Jump n) (q + size_of j)) to (there-as p.table K L m q j (operation.Jump (q - way)) last.0 (only-jump_back way q)) in
      let place : q ≡ pc + bytes_of a + bytes_of b = omega (arith, z) in
      record {
        test = stood-front p.table K L m pc a b front;
        body = stood-back p.table K L m pc a b front;
        next = q + size_of j;
        back = subst (λ n. At p.table K L m n (operation.Jump pc) (q + size_of j)) place jump;
        out = omega (arith, at, y, z, k, s, rb, few);
        within = omega (arith, at, y, z);
      }
