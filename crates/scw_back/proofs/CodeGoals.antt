-- What instructions that stand somewhere lead to: behind values, units, truths and comparisons.
use Rattle.std.proofs.Common.{◌≡◌, ℕ, ◌+◌, ◌≤◌, ℤ, pos, Bool, true, false, cond, List, [], ◌∷◌, ◌++◌, Some, None, refl, sym, subst, inl, inr, arith}
use Rattle.std.specs.Int.{w32, cast_unsigned}
use Rattle.scw_value.specs.declared.comparison.Comparison.{Comparison}
use Rattle.scw_value.specs.declared.comparison.Comparison.TheVariants as comparison
use Rattle.scw_classfile.specs.declared.pool_entry.PoolEntry.{PoolEntry}
use Rattle.scw_core.specs.Program as core
use Rattle.scw_core.specs.Program.{Table}
use Rattle.scw_core.specs.declared.class.CoreClass.{CoreClass}
use Rattle.scw_core.specs.declared.operator.Width.{Width}
use Rattle.scw_core.specs.declared.operator.Width.TheVariants as width
use Rattle.scw_gen.specs.declared.instr.BuiltIn.{BuiltIn}
use Rattle.scw_gen.specs.declared.instr.BuiltIn.TheVariants as built
use Rattle.scw_gen.specs.declared.instr.Compared.{Compared}
use Rattle.scw_gen.specs.declared.instr.Compared.TheVariants as compared
use Rattle.scw_gen.specs.declared.instr.Instr.{Instr}
use Rattle.scw_gen.specs.declared.instr.Instr.TheVariants as instr
use Rattle.scw_gen.specs.declared.kind.Kind.{Kind}
use Rattle.scw_gen.specs.declared.kind.Kind.TheVariants as kind
use Rattle.scw_gen.specs.declared.kind.Word.{Word}
use Rattle.scw_gen.specs.declared.mode.Mode.{Mode}
use Rattle.scw_gen.specs.declared.mode.Mode.TheVariants.{Value, Effect, Test, Return}
use Rattle.scw_gen.specs.Instr.{bytes_of, plus, size_of}
use Rattle.scw_gen.specs.Kind.{width_of, word_of}
use Rattle.scw_gen.specs.Mode as modes
use Rattle.scw_gen.specs.Mode.{agree, bit, branch, compared_by, compared_value, difference, drop_instr, ended, given, jump, jump_size, negated, one, sensed, truth, unit}
use Rattle.scw_gen.specs.Operator.{form_of_value, text_by, text_of}
use Rattle.scw_gen.specs.declared.operator.Form.TheVariants.{Values}
use Rattle.scw_gen.specs.Room.{of_given, of_truth}
use Rattle.scw_gen.proofs.Landing.{bytes-append, reach}
use Rattle.scw_frame.specs.declared.operation.BuiltIn.TheVariants as machine
use Rattle.scw_frame.specs.declared.operation.Operation.{Operation}
use Rattle.scw_frame.specs.declared.operation.Operation.TheVariants as operation
use Rattle.scw_frame.specs.declared.operation.StackOperation.TheVariants as stack
use Rattle.scw_frame.specs.declared.program.Method.{Method}
use Rattle.scw_frame.specs.declared.program.Program.{Program}
use Rattle.scw_frame.specs.declared.program.Target.TheVariants as target
use Rattle.scw_frame.specs.declared.value.Value.TheVariants.{Int}
use Rattle.scw_back.proofs.Placed.{At, Means, SelectsText, StandsAt, Stood, jump_when, static_built_in, value_of_word, m_number, m_compare, m_pop, m_pop_two, m_branch, m_goto, m_far_goto, m_return, m_static, m_to_string}
use Rattle.scw_back.proofs.Goals.{ComparedAt, Compares, Decides, Gives, Goal, Leads, PutAt, TextAt, TruthAt, UnitAt, box_of, drop_operation, goal_of, push, drop, test, leave, straight, turned, g_push, g_drop, g_test, g_leave, u_drop, u_made, t_drop, t_test, t_made, p_drop, p_made, x_test, x_value, text_string, text_unit, text_boxed}

-- the mode is one of values of the kind
abbrev pub Fits : Mode → Kind → Type 0
Fits Value k = Unit {0}
Fits Effect k = Unit {0}
Fits (Test sense way) k = k ≡ kind.Boolean
Fits (Return w) k = w ≡ word_of k

pub size-jump : (far : Bool) (way : ℕ) → size_of (jump far way) ≡ jump_size far
size-jump true way = refl
size-jump false way = refl

-- ---- instructions at their places

module _ (T : Table) (K : CoreClass) (L : Program) where
  -- an instruction of which it is known what it means
  abbrev pub Only : ℕ → Instr → Operation → Type 0
  Only pc i o = (x : Operation) → Means T K L pc i x → x ≡ o

  only-pop : (pc : ℕ) → Only pc instr.Pop (operation.Stack stack.Pop)
  only-pop pc x m_pop = refl

  only-pop_two : (pc : ℕ) → Only pc instr.PopTwo (operation.Stack stack.PopTwo)
  only-pop_two pc x m_pop_two = refl

  only-drop : (k : Kind) (pc : ℕ) → Only pc (drop_instr k) (operation.Stack (drop_operation k))
  only-drop kind.Unit pc = only-pop pc
  only-drop kind.Boolean pc = only-pop pc
  only-drop kind.Int pc = only-pop pc
  only-drop kind.Long pc = only-pop_two pc
  only-drop kind.String pc = only-pop pc
  only-drop kind.Strings pc = only-pop pc
  only-drop kind.This pc = only-pop pc

  only-branch : (k : Compared) (c : Comparison) (way pc : ℕ) → Only pc (instr.Branch k c way) (jump_when k c (pc + way))
  only-branch k c way pc x (m_branch k' c' way') = refl

  only-goto : (way pc : ℕ) → Only pc (instr.Goto way) (operation.Jump (pc + way))
  only-goto way pc x (m_goto way') = refl

  only-far_goto : (way pc : ℕ) → Only pc (instr.FarGoto way) (operation.Jump (pc + way))
  only-far_goto way pc x (m_far_goto way') = refl

  only-return : (w : Word) (pc : ℕ) → Only pc (instr.Return w) (operation.ReturnValue (value_of_word w))
  only-return w pc x (m_return w') = refl

  pub only-number : (n : ℤ) (pc : ℕ) → Only pc (instr.Number n) (operation.Push (Int (cast_unsigned w32 n)))
  only-number n pc x (m_number n') = refl

  only-compare : (pc : ℕ) → Only pc instr.CompareLongs operation.CompareLongs
  only-compare pc x m_compare = refl

  pub only-static : (b : BuiltIn) (o : Operation) (pc : ℕ) → static_built_in b ≡ Some o → Only pc (instr.CallBuiltIn b) o
  only-static b o pc h x (m_static b' o' k) = cc
  only-static b o pc h x (m_to_string selector s) = absurd (cc)

  -- the call of a text has a selector of texts
  abbrev pub CallsText : Operation → Type 0
  CallsText x = (selector : ℕ) × (SelectsText T K L selector) × (x ≡ operation.CallVirtual (record { 0 = selector }))

  means-text : (pc : ℕ) (x : Operation) → Means T K L pc (instr.CallBuiltIn built.ToString) x → CallsText x
  means-text pc x (m_static b o k) = absurd (cc)
  means-text pc x (m_to_string selector s) = (selector, s, refl)

  module _ (m : Method) where
    pub stood-front : (pc : ℕ) (a b : List Instr) → Stood T K L m pc (a ++ b) → Stood T K L m pc a
    stood-front pc [] b h = tt
    stood-front pc (i ∷ a) b h = (h.0, stood-front (pc + size_of i) a b h.1)

    pub stood-back : (pc : ℕ) (a b : List Instr) → Stood T K L m pc (a ++ b) → Stood T K L m (pc + bytes_of a) b
    unfolding bytes_of
    stood-back pc [] b h = let e : pc ≡ pc + 0 = omega arith in subst (λ n. Stood T K L m n b) e h
    stood-back pc (i ∷ a) b h = let e : pc + size_of i + bytes_of a ≡ pc + (size_of i + bytes_of a) = omega arith in subst (λ n. Stood T K L m n b) e (stood-back (pc + size_of i) a b h.1)

    pub there-as : (pc : ℕ) (i : Instr) (o : Operation) → StandsAt T K L m pc i → Only pc i o → At T K L m pc o (pc + size_of i)
    there-as pc i o s only = subst (λ (x : Operation). At T K L m pc x (pc + size_of i)) (only s.operation s.means) s.there

    text-there : (pc : ℕ) → StandsAt T K L m pc (instr.CallBuiltIn built.ToString) → (selector : ℕ) × (SelectsText T K L selector) × (At T K L m pc (operation.CallVirtual (record { 0 = selector })) (pc + 3))
    text-there pc s = let c = means-text pc s.operation s.means in (c.0, c.1, subst (λ (x : Operation). At T K L m pc x (pc + 3)) c.2 s.there)

module _ (p : core.Program) (K : CoreClass) (pool : List PoolEntry) (L : Program) (m : Method) where
  abbrev Stand : ℕ → List Instr → Type 0
  Stand pc is = Stood p.table K L m pc is

  abbrev One : ℕ → Instr → Type 0
  One pc i = StandsAt p.table K L m pc i

  abbrev There : ℕ → Operation → ℕ → Type 0
  There pc o next = At p.table K L m pc o next

  there : (pc : ℕ) (i : Instr) (o : Operation) → One pc i → Only p.table K L pc i o → There pc o (pc + size_of i)
  there pc i o s only = there-as p.table K L m pc i o s only

  -- ---- jumps

  -- a jump leads over so many bytes
  pub jump-at : (far : Bool) (over pc to : ℕ) → One pc (jump far over) → to ≡ pc + jump_size far + over → to ≤ 65535 → (r : ℕ) × There pc (operation.Jump to) r
  jump-at true over pc to s at few =
      let e : pc + plus 5 over ≡ to = omega (arith, at, few) in
      (pc + 5, subst (λ n. There pc (operation.Jump n) (pc + 5)) e (there pc (instr.FarGoto (plus 5 over)) (operation.Jump (pc + plus 5 over)) s (only-far_goto p.table K L (plus 5 over) pc)))
  jump-at false over pc to s at few =
      let e : pc + plus 3 over ≡ to = omega (arith, at, few) in
      (pc + 3, subst (λ n. There pc (operation.Jump n) (pc + 3)) e (there pc (instr.Goto (plus 3 over)) (operation.Jump (pc + plus 3 over)) s (only-goto p.table K L (plus 3 over) pc)))

  pub jump-leads : (far : Bool) (over pc to : ℕ) → One pc (jump far over) → to ≡ pc + jump_size far + over → to ≤ 65535 → Leads p K pool L m pc to
  jump-leads far over pc to s at few = inr (jump-at far over pc to s at few)

  negated-twice : (c : Comparison) → negated (negated c) ≡ c
  negated-twice comparison.Equal = refl
  negated-twice comparison.NotEqual = refl
  negated-twice comparison.Less = refl
  negated-twice comparison.GreaterOrEqual = refl
  negated-twice comparison.Greater = refl
  negated-twice comparison.LessOrEqual = refl

  -- where a comparison doesn't hold, the other one does
  turn : (k : Compared) (c : Comparison) (pc a b : ℕ) → Decides p K pool L m k (negated c) pc a b → Decides p K pool L m k c pc b a
  turn k c pc a b (straight {y = y} {n = n} at l r) = turned {y = n} {n = y} at r l
  turn k c pc a b (turned {y = y} {n = n} at l r) = straight {y = n} {n = y} (subst (λ (d : Comparison). There pc (jump_when k d n) y) (negated-twice c) at) r l

  branch-decides : (far : Bool) (k : Compared) (c : Comparison) (way pc e : ℕ) → Stand pc (branch far k c way) → e ≡ pc + bytes_of (branch far k c way) → e + way ≤ 65535 → Decides p K pool L m k c pc (e + way) e
  unfolding bytes_of
  branch-decides true k c way pc e st at few =
      turned {y = pc + 3} {n = pc + 8} (there pc (instr.Branch k (negated c) 8) (jump_when k (negated c) (pc + 8)) st.0 (only-branch p.table K L k (negated c) 8 pc))
      (jump-leads true way (pc + 3) (e + way) st.1.0 (omega (arith, at)) few) (inl (omega (arith, at)))
  branch-decides false k c way pc e st at few =
      straight {y = pc + plus 3 way} {n = pc + 3} (there pc (instr.Branch k c (plus 3 way)) (jump_when k c (pc + plus 3 way)) st.0 (only-branch p.table K L k c (plus 3 way) pc))
      (inl (omega (arith, at, few))) (inl (omega (arith, at)))

  -- ---- behind a value

  test-gives : (far sense : Bool) (way pc e : ℕ) → Stand pc (branch far compared.Zero (sensed sense comparison.NotEqual) way) → e ≡ pc + bytes_of (branch far compared.Zero (sensed sense comparison.NotEqual) way) → e + way ≤ 65535
      → Gives p K pool L m (cond sense (test (e + way) e) (test e (e + way))) kind.Boolean pc
  test-gives far true way pc e st at few = g_test (branch-decides far compared.Zero comparison.NotEqual way pc e st at few)
  test-gives far false way pc e st at few = g_test (turn compared.Zero comparison.NotEqual pc (e + way) e (branch-decides far compared.Zero comparison.Equal way pc e st at few))

  pub ended-gives : (far : Bool) (mode : Mode) (k : Kind) (pc e : ℕ) → Fits mode k → Stand pc (ended far mode k) → e ≡ pc + bytes_of (ended far mode k) → e + reach mode ≤ 65535 → Gives p K pool L m (goal_of mode e) k pc
  unfolding bytes_of
  ended-gives far Value k pc e fits st at few = g_push (inl (omega (arith, at)))
  ended-gives far Effect k pc e fits st at few =
      g_drop {r = pc + size_of (drop_instr k)} (there pc (drop_instr k) (operation.Stack (drop_operation k)) st.0 (only-drop p.table K L k pc)) (inl (omega (arith, at)))
  ended-gives far (Test sense way) k pc e fits st at few = subst (λ (l : Kind). Gives p K pool L m (cond sense (test (e + way) e) (test e (e + way))) l pc) (sym fits) (test-gives far sense way pc e st at few)
  ended-gives far (Return w) k pc e fits st at few =
      g_leave {r = pc + 1} (subst (λ (v : Word). There pc (operation.ReturnValue (value_of_word v)) (pc + 1)) fits (there pc (instr.Return w) (operation.ReturnValue (value_of_word w)) st.0 (only-return p.table K L w pc)))

  -- behind an instruction
  pub behind-one : (far : Bool) (mode : Mode) (k : Kind) (i : Instr) (pc e : ℕ) → Fits mode k → Stand pc (i ∷ ended far mode k) → e ≡ pc + bytes_of (i ∷ ended far mode k) → e + reach mode ≤ 65535 → Gives p K pool L m (goal_of mode e) k (pc + size_of i)
  unfolding bytes_of
  behind-one far mode k i pc e fits st at few = ended-gives far mode k (pc + size_of i) e fits st.1 (omega (arith, at)) few

  pub put-at : (far : Bool) (mode : Mode) (k : Kind) (i : Instr) (o : Operation) (d pc e : ℕ) → Fits mode k → Only p.table K L pc i o → of_given mode (width_of k) ≤ d
      → Stand pc (given far mode k (i ∷ [])) → e ≡ pc + bytes_of (given far mode k (i ∷ [])) → e + reach mode ≤ 65535 → PutAt p K pool L m d o k (goal_of mode e) pc
  unfolding bytes_of
  put-at far Value k i o d pc e fits only room st at few = p_made {r = pc + size_of i} room (there pc i o st.0 only) (behind-one far Value k i pc e fits st at few)
  put-at far Effect k i o d pc e fits only room st at few = p_drop (inl (omega (arith, at)))
  put-at far (Test sense way) k i o d pc e fits only room st at few = p_made {r = pc + size_of i} room (there pc i o st.0 only) (behind-one far (Test sense way) k i pc e fits st at few)
  put-at far (Return w) k i o d pc e fits only room st at few = p_made {r = pc + size_of i} room (there pc i o st.0 only) (behind-one far (Return w) k i pc e fits st at few)

  -- ---- units and truths

  only-unit : (pc : ℕ) → Only p.table K L pc (instr.CallBuiltIn built.Unit) (operation.CallStatic (target.BuiltIn machine.Unit))
  only-unit pc = only-static p.table K L built.Unit (operation.CallStatic (target.BuiltIn machine.Unit)) pc refl

  unit-by : (d pc : ℕ) (goal : Goal) → PutAt p K pool L m d (operation.CallStatic (target.BuiltIn machine.Unit)) kind.Unit goal pc → UnitAt p K pool L m d goal pc
  unit-by d pc goal (p_drop l) = u_drop l
  unit-by d pc goal (p_made room at gives) = u_made room at gives

  pub unit-at : (far : Bool) (mode : Mode) (d pc e : ℕ) → Fits mode kind.Unit → of_given mode 1 ≤ d → Stand pc (unit far mode) → e ≡ pc + bytes_of (unit far mode) → e + reach mode ≤ 65535 → UnitAt p K pool L m d (goal_of mode e) pc
  unit-at far mode d pc e fits room st at few =
      unit-by d pc (goal_of mode e) (put-at far mode kind.Unit (instr.CallBuiltIn built.Unit) (operation.CallStatic (target.BuiltIn machine.Unit)) d pc e fits (only-unit pc) room st at few)

  only-bit : (b : Bool) (pc : ℕ) → Only p.table K L pc (instr.Number (pos (bit b))) (operation.Push (Int (bit b)))
  only-bit true pc = only-number p.table K L (pos 1) pc
  only-bit false pc = only-number p.table K L (pos 0) pc

  truth-by : (b : Bool) (d pc : ℕ) (goal : Goal) → PutAt p K pool L m d (operation.Push (Int (bit b))) kind.Boolean goal pc → TruthAt p K pool L m d b goal pc
  truth-by b d pc goal (p_drop l) = t_drop l
  truth-by b d pc goal (p_made room at gives) = t_made room at gives

  pub jump-there : (far : Bool) (way pc e : ℕ) → One pc (jump far way) → e ≡ pc + size_of (jump far way) → e + way ≤ 65535 → Leads p K pool L m pc (e + way)
  jump-there true way pc e s at few = jump-leads true way pc (e + way) s (omega (arith, at)) few
  jump-there false way pc e s at few = jump-leads false way pc (e + way) s (omega (arith, at)) few

  -- a constant in a test
  truth-test : (far b sense : Bool) (way d pc e : ℕ) → Stand pc (one (cond (agree b sense) (Some (jump far way)) None)) → e ≡ pc + bytes_of (one (cond (agree b sense) (Some (jump far way)) None)) → e + way ≤ 65535
      → TruthAt p K pool L m d b (cond sense (test (e + way) e) (test e (e + way))) pc
  unfolding bytes_of
  truth-test far true true way d pc e st at few = t_test (jump-there far way pc e st.0 (omega (arith, at)) few)
  truth-test far true false way d pc e st at few = t_test (inl (omega (arith, at)))
  truth-test far false true way d pc e st at few = t_test (inl (omega (arith, at)))
  truth-test far false false way d pc e st at few = t_test (jump-there far way pc e st.0 (omega (arith, at)) few)

  pub truth-at : (far : Bool) (mode : Mode) (b : Bool) (d pc e : ℕ) → Fits mode kind.Boolean → of_truth mode ≤ d → Stand pc (truth far mode b) → e ≡ pc + bytes_of (truth far mode b) → e + reach mode ≤ 65535 → TruthAt p K pool L m d b (goal_of mode e) pc
  truth-at far Value b d pc e fits room st at few = truth-by b d pc (push e) (put-at far Value kind.Boolean (instr.Number (pos (bit b))) (operation.Push (Int (bit b))) d pc e fits (only-bit b pc) room st at few)
  truth-at far Effect b d pc e fits room st at few = truth-by b d pc (drop e) (put-at far Effect kind.Boolean (instr.Number (pos (bit b))) (operation.Push (Int (bit b))) d pc e fits (only-bit b pc) room st at few)
  truth-at far (Test sense way) b d pc e fits room st at few = truth-test far b sense way d pc e st at few
  truth-at far (Return w) b d pc e fits room st at few = truth-by b d pc leave (put-at far (Return w) kind.Boolean (instr.Number (pos (bit b))) (operation.Push (Int (bit b))) d pc e fits (only-bit b pc) room st at few)

  -- ---- comparisons

  compares-turn : (w : Width) (c : Comparison) (pc a b : ℕ) → Compares p K pool L m w (negated c) pc a b → Compares p K pool L m w c pc b a
  compares-turn width.Int c pc a b h = turn compared.Two c pc a b h
  compares-turn width.Long c pc a b h = (h.0, h.1, turn compared.Zero c h.0 a b h.2)

  compares-test : (far : Bool) (w : Width) (c : Comparison) (way pc e : ℕ) → Stand pc (modes.test far w c way) → e ≡ pc + bytes_of (modes.test far w c way) → e + way ≤ 65535 → Compares p K pool L m w c pc (e + way) e
  unfolding bytes_of
  compares-test far width.Int c way pc e st at few = branch-decides far compared.Two c way pc e st at few
  compares-test far width.Long c way pc e st at few =
      (pc + 1, there pc instr.CompareLongs operation.CompareLongs st.0 (only-compare p.table K L pc), branch-decides far compared.Zero c way (pc + 1) e st.1 (omega (arith, at)) few)

  sensed-test : (far sense : Bool) (w : Width) (c : Comparison) (way pc e : ℕ) → Stand pc (modes.test far w (sensed sense c) way) → e ≡ pc + bytes_of (modes.test far w (sensed sense c) way) → e + way ≤ 65535
      → ComparedAt p K pool L m w c (cond sense (test (e + way) e) (test e (e + way))) pc
  sensed-test far true w c way pc e st at few = x_test (compares-test far w c way pc e st at few)
  sensed-test far false w c way pc e st at few = x_test (compares-turn w c pc (e + way) e (compares-test far w (negated c) way pc e st at few))

  -- the value of a comparison, behind its test
  abbrev bits : Bool → List Instr
  bits far = instr.Number (pos 1) ∷ jump far 1 ∷ instr.Number (pos 0) ∷ []

  bits-size : (far : Bool) → bytes_of (bits far) ≡ 2 + jump_size far
  unfolding bytes_of
  bits-size far = omega (arith, size-jump far 1)

  -- 1 where the comparison holds, and else 0
  bits-made : (far : Bool) (mode : Mode) (w : Width) (c : Comparison) (pc mid last e : ℕ) → Fits mode kind.Boolean → Compares p K pool L m w c pc mid last → Stand mid (bits far) → last ≡ mid + 1 + jump_size far → Stand (last + 1) (ended far mode kind.Boolean)
      → e ≡ last + 1 + bytes_of (ended far mode kind.Boolean) → e + reach mode ≤ 65535 → ComparedAt p K pool L m w c (goal_of mode e) pc
  bits-made far mode w c pc mid last e fits decides st at st' at' few =
      let s = size-jump far 1 in
      let jumps = jump-at far 1 (mid + 1) (last + 1) st.1.0 (omega (arith, at)) (omega (arith, at', few)) in
      let place : mid + 1 + size_of (jump far 1) ≡ last = omega (arith, s, at) in
      let zero = subst (λ n. One n (instr.Number (pos 0))) place st.1.1.0 in
      x_value mid last {r = mid + 1} {r' = jumps.0} {e = last + 1} decides (there mid (instr.Number (pos 1)) (operation.Push (Int 1)) st.0 (only-bit true mid)) jumps.1
      (there last (instr.Number (pos 0)) (operation.Push (Int 0)) zero (only-bit false last)) (ended-gives far mode kind.Boolean (last + 1) e fits st' at' few)

  -- the value, and what its mode puts behind it
  compared-made : (far : Bool) (mode : Mode) (w : Width) (c : Comparison) (pc e : ℕ) → Fits mode kind.Boolean → Stand pc (compared_value far w c ++ ended far mode kind.Boolean) → e ≡ pc + bytes_of (compared_value far w c ++ ended far mode kind.Boolean)
      → e + reach mode ≤ 65535 → ComparedAt p K pool L m w c (goal_of mode e) pc
  compared-made far mode w c pc e fits st at few =
      let over = plus 1 (jump_size far) in
      let first = modes.test far w (negated c) over in
      let value = stood-front p.table K L m pc (first ++ bits far) (ended far mode kind.Boolean) st in
      let all = bytes-append (first ++ bits far) (ended far mode kind.Boolean) in
      let both = bytes-append first (bits far) in
      let z = bits-size far in
      let mid = pc + bytes_of first in
      let few2 : mid + over ≤ 65535 = omega (arith, all, both, z, at, few) in
      let decides = compares-turn w c pc (mid + over) mid (compares-test far w (negated c) over pc mid (stood-front p.table K L m pc first (bits far) value) refl few2) in
      let last : pc + bytes_of (first ++ bits far) ≡ mid + over + 1 = omega (arith, all, both, z, at, few) in
      let behind = subst (λ n. Stand n (ended far mode kind.Boolean)) last (stood-back p.table K L m pc (first ++ bits far) (ended far mode kind.Boolean) st) in
      bits-made far mode w c pc mid (mid + over) e fits decides (stood-back p.table K L m pc first (bits far) value) (omega (arith, all, both, z, at, few)) behind (omega (arith, all, both, z, at, few)) few

  pub comparison-at : (far : Bool) (mode : Mode) (w : Width) (c : Comparison) (pc e : ℕ) → form_of_value mode ≡ Values → Fits mode kind.Boolean → Stand pc (modes.comparison far mode w c) → e ≡ pc + bytes_of (modes.comparison far mode w c)
      → e + reach mode ≤ 65535 → ComparedAt p K pool L m w c (goal_of mode e) pc
  comparison-at far Value w c pc e h fits st at few = compared-made far Value w c pc e fits st at few
  comparison-at far Effect w c pc e h fits st at few = absurd (cc)
  comparison-at far (Test sense way) w c pc e h fits st at few = sensed-test far sense w c way pc e st at few
  comparison-at far (Return r) w c pc e h fits st at few = compared-made far (Return r) w c pc e fits st at few

  -- ---- texts

  text_by-at : (b : BuiltIn) (o : Operation) (k : Kind) (pc q : ℕ) → static_built_in b ≡ Some o → box_of k ≡ Some o → Stand pc (text_by b) → q ≡ pc + bytes_of (text_by b) → TextAt p K pool L m k pc q
  unfolding bytes_of
  text_by-at b o k pc q h box st at =
      let c = text-there p.table K L m (pc + 3) st.1.0 in
      let e : pc + 3 + 3 ≡ q = omega (arith, at) in
      text_boxed {r = pc + 3} {q = q} {selector = c.0} {k = k} {o = o} box (there pc (instr.CallBuiltIn b) o st.0 (only-static p.table K L b o pc h)) c.1
      (subst (λ n. There (pc + 3) (operation.CallVirtual (record { 0 = c.0 })) n) e c.2)

  -- what was given stands and ends where it did
  pub same-stand : (a b : List Instr) (pc q : ℕ) → Some a ≡ Some b → Stand pc b → q ≡ pc + bytes_of b → Stand pc a × (q ≡ pc + bytes_of a)
  same-stand a b pc q h st at = let e : b ≡ a = cc in (subst (λ (l : List Instr). Stand pc l) e st, subst (λ (l : List Instr). q ≡ pc + bytes_of l) e at)

  pub text-at : (k : Kind) (is : List Instr) (pc q : ℕ) → text_of (Some k) ≡ Some is → Stand pc is → q ≡ pc + bytes_of is → TextAt p K pool L m k pc q
  unfolding bytes_of
  text-at kind.Unit is pc q h st at =
      let s = same-stand (instr.CallBuiltIn built.ToString ∷ []) is pc q h st at in
      let c = text-there p.table K L m pc s.0.0 in
      let e : pc + 3 ≡ q = omega (arith, s.1) in
      text_unit {selector = c.0} c.1 (subst (λ n. There pc (operation.CallVirtual (record { 0 = c.0 })) n) e c.2)
  text-at kind.Boolean is pc q h st at = let s = same-stand (text_by built.BoxBoolean) is pc q h st at in text_by-at built.BoxBoolean _ kind.Boolean pc q refl refl s.0 s.1
  text-at kind.Int is pc q h st at = let s = same-stand (text_by built.BoxInt) is pc q h st at in text_by-at built.BoxInt _ kind.Int pc q refl refl s.0 s.1
  text-at kind.Long is pc q h st at = let s = same-stand (text_by built.BoxLong) is pc q h st at in text_by-at built.BoxLong _ kind.Long pc q refl refl s.0 s.1
  text-at kind.String is pc q h st at =
      let s = same-stand [] is pc q h st at in
      let e : pc ≡ q = omega (arith, s.1) in
      subst (λ n. TextAt p K pool L m kind.String pc n) e text_string
  text-at kind.Strings is pc q h st at = absurd (cc)
  text-at kind.This is pc q h st at = absurd (cc)
