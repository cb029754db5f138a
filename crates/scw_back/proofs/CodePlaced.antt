-- The code of a tree stands where it should.
use Rattle.std.proofs.Common.{◌≡◌, ℕ, ◌+◌, ◌-◌, ◌≤◌, max, Bool, true, false, List, [], ◌∷◌, ◌++◌, Option, Some, None, refl, sym, ap, ◌∙◌, subst, arith, append-nil}
use Rattle.scw_classfile.specs.declared.pool_entry.PoolEntry.{PoolEntry}
use Rattle.scw_core.specs.Program as core
use Rattle.scw_core.specs.Tree.{Tree, Trees, info_of, strict, block, and_also, or_else, if_else, while_do, function, thunk, match_on, try_in, label, switch, none, more}
use Rattle.scw_core.specs.declared.class.CoreClass.{CoreClass}
use Rattle.scw_core.specs.declared.operator.Op.{Op}
use Rattle.scw_core.specs.declared.tree.Local.{Local}
use Rattle.scw_core.specs.declared.tree.NodeInfo.{NodeInfo}
use Rattle.scw_gen.specs.declared.instr.Instr.{Instr}
use Rattle.scw_gen.specs.declared.kind.Kind.{Kind}
use Rattle.scw_gen.specs.declared.kind.Kind.TheVariants as kind
use Rattle.scw_gen.specs.declared.mode.Mode.{Mode}
use Rattle.scw_gen.specs.declared.mode.Mode.TheVariants.{Value, Effect, Test}
use Rattle.scw_gen.specs.declared.operator.Form.{Form}
use Rattle.scw_gen.specs.declared.operator.Form.TheVariants.{Values, Effects, Texts}
use Rattle.scw_gen.specs.Around.{Around, kind_in}
use Rattle.scw_gen.specs.Code.{block_end, code, joined, loop, operands, repeated, statements}
use Rattle.scw_gen.specs.Instr.{bytes_of, plus, room_of}
use Rattle.scw_gen.specs.Kind.{width_of}
use Rattle.scw_gen.specs.Mode.{jump_size, unit}
use Rattle.scw_gen.specs.Operator.{form_of, op_code, text_of}
use Rattle.scw_gen.specs.Outcome.{◌>>=◌}
use Rattle.scw_gen.specs.Room.{locals_of, locals_of_all, of_end, slot_behind, stack_of, stack_of_operands, stack_of_statements, width_at}
use Rattle.scw_gen.specs.Scope.{Scope, from, inside, placed}
use Rattle.scw_gen.specs.Typed.{Known, behind, kind_of_statements, kind_of_tree, kinds_of_trees}
use Rattle.scw_gen.proofs.Landing.{bytes-append, reach}
use Rattle.scw_gen.proofs.Steps.{bound, joined-is}
use Rattle.scw_frame.specs.declared.program.Method.{Method}
use Rattle.scw_frame.specs.declared.program.Program.{Program}
use Rattle.scw_back.proofs.Placed.{Stood}
use Rattle.scw_back.proofs.Loaded.{around_by}
use Rattle.scw_back.proofs.Goals.{ArgsAt, CodeAt, StatementsAt, UnitAt, goal_of, a_none, a_value, a_effect, a_text, c_strict, c_block, c_while, s_none, s_last, s_more}
use Rattle.scw_back.proofs.Matches.{Matches, behind-matches, block-matches}
use Rattle.scw_back.proofs.CodeGoals.{Fits, stood-back, stood-front, text-at, unit-at}
use Rattle.scw_back.proofs.TypedKinds.{block-kind, choice-kind, loop-kind, more-kinds, some-is, strict-kind, told-kind}
use Rattle.scw_back.proofs.RoomAt.{operand-room, placed-next, stack-test, width-is}
use Rattle.scw_back.proofs.TreeRoom.{slots-near, width-le}
use Rattle.scw_back.proofs.OperatorGoals.{op-at}
use Rattle.scw_back.proofs.ChoicePlaced.{choice-at, loop-parts}

module _ (p : core.Program) (K : CoreClass) (pool : List PoolEntry) (far : Bool) (L : Program) (m : Method) where
  abbrev g : Around
  g = around_by p K pool far

  abbrev near : Around
  near = around_by p K pool false

  abbrev Stand : ℕ → List Instr → Type 0
  Stand pc is = Stood p.table K L m pc is

  -- the code of a tree stands where it should, in each mode that fits its kind
  abbrev pub TreePlaced : List Known → Scope → Tree → Type 0
  TreePlaced ys s t = (mode : Mode) (k : Kind) (is : List Instr) (pc e d : ℕ) → kind_of_tree near ys t ≡ Some k → code g s mode t ≡ Some is → Fits mode k → stack_of g mode t ≤ d → d ≤ 65535 → locals_of g s.next t ≤ m.locals
      → Stand pc is → e ≡ pc + bytes_of is → e + reach mode ≤ 65535 → CodeAt p K pool L m ys s k (goal_of mode e) d pc t

  abbrev pub OperandsPlaced : List Known → Scope → Trees → Type 0
  OperandsPlaced ys s ts = (f : Form) (ks : List Kind) (is : List Instr) (pc q d depth : ℕ) → kinds_of_trees near ys ts ≡ Some ks → operands g s f ts ≡ Some is → stack_of_operands g f depth ts ≤ d + depth → d + depth ≤ 65535
      → locals_of_all g s.next ts ≤ m.locals → Stand pc is → q ≡ pc + bytes_of is → q ≤ 65535 → ArgsAt p K pool L m ys s f d pc ts ks q

  abbrev pub StatementsPlaced : List Known → Scope → Trees → Type 0
  StatementsPlaced ys s ts = (mode : Mode) (k : Kind) (is : List Instr) (pc e d : ℕ) → kind_of_statements near ys ts ≡ Some k → statements g s mode ts ≡ Some is → Fits mode k → max (stack_of_statements g mode ts) (of_end mode ts) ≤ d → d ≤ 65535
      → locals_of_all g s.next ts ≤ m.locals → Stand pc (is ++ block_end far mode ts) → e ≡ pc + bytes_of (is ++ block_end far mode ts) → e + reach mode ≤ 65535 → StatementsAt p K pool L m ys s k (goal_of mode e) d pc ts

  -- two codes, one behind the other
  record Two (a b : Option (List Instr)) (pc e : ℕ) : Type 0 where
    first : List Instr
    second : List Instr
    first_is : a ≡ Some first
    second_is : b ≡ Some second
    front : Stand pc first
    back : Stand (pc + bytes_of first) second
    end : e ≡ pc + bytes_of first + bytes_of second

  two-codes : (a b : Option (List Instr)) (is : List Instr) (pc e : ℕ) → joined a b ≡ Some is → Stand pc is → e ≡ pc + bytes_of is → Two a b pc e
  two-codes a b is pc e h st at =
      let j = joined-is a b is h in
      let same : is ≡ j.first ++ j.second = sym j.is in
      let stands = subst (λ (l : List Instr). Stand pc l) same st in
      let ends = subst (λ (l : List Instr). e ≡ pc + bytes_of l) same at in
      let size = bytes-append j.first j.second in
      record {
        first = j.first;
        second = j.second;
        first_is = j.a-is;
        second_is = j.b-is;
        front = stood-front p.table K L m pc j.first j.second stands;
        back = stood-back p.table K L m pc j.first j.second stands;
        end = omega (arith, ends, size);
      }

  -- ---- operands

  no-operands : (ys : List Known) (s : Scope) → OperandsPlaced ys s none
  unfolding operands kinds_of_trees bytes_of
  no-operands ys s f ks is pc q d depth kinds made room few low st at short =
      let none_is : [] ≡ is = some-is [] is made in
      let no_kinds : [] ≡ ks = some-is [] ks kinds in
      let end = subst (λ (l : List Instr). q ≡ pc + bytes_of l) (sym none_is) at in
      let same : pc ≡ q = omega (arith, end) in
      subst (λ n. ArgsAt p K pool L m ys s f d pc none ks n) same (subst (λ (l : List Kind). ArgsAt p K pool L m ys s f d pc none l pc) no_kinds a_none)

  module _ (ys : List Known) (s : Scope) (t : Tree) (ts : Trees) (first : TreePlaced ys s t) (rest : OperandsPlaced ys s ts) where
    value-operand : (k : Kind) (ks : List Kind) (is : List Instr) (pc q d depth : ℕ) → kind_of_tree near ys t ≡ Some k → kinds_of_trees near ys ts ≡ Some ks → joined (code g s Value t) (operands g s Values ts) ≡ Some is
        → stack_of_operands g Values depth (more t ts) ≤ d + depth → d + depth ≤ 65535 → max (locals_of g s.next t) (locals_of_all g s.next ts) ≤ m.locals → Stand pc is → q ≡ pc + bytes_of is → q ≤ 65535 → ArgsAt p K pool L m ys s Values d pc (more t ts) (k ∷ ks) q
    value-operand k ks is pc q d depth typed kinds made room few low st at short =
        let two = two-codes (code g s Value t) (operands g s Values ts) is pc q made st at in
        let r = operand-room g Values t ts d depth room few in
        let w = width_at g (info_of t).type_id in
        let wide = width-is g (info_of t).type_id k (told-kind near ys t k typed) in
        let end = two.end in
        let leaves : width_of k + (d - w) ≤ d = (let l = r.leaves in omega (arith, l, wide)) in
        let one = first Value k two.first pc (pc + bytes_of two.first) d typed two.first_is tt r.operand (omega (arith, few)) (omega (arith, low)) two.front refl (omega (arith, end, short)) in
        let others = rest Values ks two.second (pc + bytes_of two.first) q (d - w) (depth + w) kinds two.second_is r.rest r.few (omega (arith, low)) two.back end short in
        a_value {d' = d - w} {r = pc + bytes_of two.first} one leaves others

    effect-operand : (k : Kind) (ks : List Kind) (is : List Instr) (pc q d depth : ℕ) → kind_of_tree near ys t ≡ Some k → kinds_of_trees near ys ts ≡ Some ks → joined (code g s Effect t) (operands g s Effects ts) ≡ Some is
        → stack_of_operands g Effects depth (more t ts) ≤ d + depth → d + depth ≤ 65535 → max (locals_of g s.next t) (locals_of_all g s.next ts) ≤ m.locals → Stand pc is → q ≡ pc + bytes_of is → q ≤ 65535 → ArgsAt p K pool L m ys s Effects d pc (more t ts) (k ∷ ks) q
    effect-operand k ks is pc q d depth typed kinds made room few low st at short =
        let two = two-codes (code g s Effect t) (operands g s Effects ts) is pc q made st at in
        let r = operand-room g Effects t ts d depth room few in
        let end = two.end in
        let same : depth + 0 ≡ depth = omega arith in
        let left : stack_of_operands g Effects depth ts ≤ d + depth = (let l = subst (λ n. stack_of_operands g Effects n ts ≤ d - 0 + n) same r.rest in omega (arith, l)) in
        let one = first Effect k two.first pc (pc + bytes_of two.first) d typed two.first_is tt r.operand (omega (arith, few)) (omega (arith, low)) two.front refl (omega (arith, end, short)) in
        let others = rest Effects ks two.second (pc + bytes_of two.first) q d depth kinds two.second_is left few (omega (arith, low)) two.back end short in
        a_effect {r = pc + bytes_of two.first} one others

    text-operand : (k : Kind) (ks : List Kind) (is : List Instr) (pc q d depth : ℕ) → kind_of_tree near ys t ≡ Some k → kinds_of_trees near ys ts ≡ Some ks → joined (joined (code g s Value t) (text_of (kind_in g (info_of t).type_id))) (operands g s Texts ts) ≡ Some is
        → stack_of_operands g Texts depth (more t ts) ≤ d + depth → d + depth ≤ 65535 → max (locals_of g s.next t) (locals_of_all g s.next ts) ≤ m.locals → Stand pc is → q ≡ pc + bytes_of is → q ≤ 65535 → ArgsAt p K pool L m ys s Texts d pc (more t ts) (k ∷ ks) q
    text-operand k ks is pc q d depth typed kinds made room few low st at short =
        let two = two-codes (joined (code g s Value t) (text_of (kind_in g (info_of t).type_id))) (operands g s Texts ts) is pc q made st at in
        let mid = pc + bytes_of two.first in
        let inner = two-codes (code g s Value t) (text_of (kind_in g (info_of t).type_id)) two.first pc mid two.first_is two.front refl in
        let r = operand-room g Texts t ts d depth room few in
        let end = two.end in
        let end2 = inner.end in
        let operand = r.operand in
        let value = pc + bytes_of inner.first in
        let one = first Value k inner.first pc value d typed inner.first_is tt operand (omega (arith, few)) (omega (arith, low)) inner.front refl (omega (arith, end, end2, short)) in
        let high = width-le p K pool far t ys k typed (omega (arith, operand, few)) in
        let told = told-kind near ys t k typed in
        let text = text-at p K pool L m k inner.second value mid (subst (λ (o : Option Kind). text_of o ≡ Some inner.second) told inner.second_is) inner.back end2 in
        let others = rest Texts ks two.second mid q (d - 1) (depth + 1) kinds two.second_is r.rest r.few (omega (arith, low)) two.back end short in
        a_text {d' = d - 1} {r = value} {r' = mid} one (omega (arith, high, operand)) text r.leaves others

    more-operands : OperandsPlaced ys s (more t ts)
    unfolding operands locals_of_all
    more-operands Values ks is pc q d depth kinds made room few low st at short =
        let n = more-kinds near ys t ts ks kinds in
        subst (λ (l : List Kind). ArgsAt p K pool L m ys s Values d pc (more t ts) l q) n.4 (value-operand n.0 n.1 is pc q d depth n.2 n.3 made room few low st at short)
    more-operands Effects ks is pc q d depth kinds made room few low st at short =
        let n = more-kinds near ys t ts ks kinds in
        subst (λ (l : List Kind). ArgsAt p K pool L m ys s Effects d pc (more t ts) l q) n.4 (effect-operand n.0 n.1 is pc q d depth n.2 n.3 made room few low st at short)
    more-operands Texts ks is pc q d depth kinds made room few low st at short =
        let n = more-kinds near ys t ts ks kinds in
        subst (λ (l : List Kind). ArgsAt p K pool L m ys s Texts d pc (more t ts) l q) n.4 (text-operand n.0 n.1 is pc q d depth n.2 n.3 made room few low st at short)

  -- ---- nodes

  strict-step : (ys : List Known) (s : Scope) (i : NodeInfo) (o : Op) (ts : Trees) → Matches ys s → OperandsPlaced ys s ts → TreePlaced ys s (strict i o ts)
  unfolding code kind_of_tree stack_of locals_of
  strict-step ys s i o ts matches args mode k is pc e d typed made fits room few low st at short =
      let n = strict-kind near ys o ts i.type_id k typed in
      let two = two-codes (operands g s (form_of mode o) ts) (op_code g s mode o) is pc e made st at in
      let end = two.end in
      let mid = pc + bytes_of two.first in
      let deep : stack_of_operands g (form_of mode o) 0 ts ≤ d + 0 = omega (arith, room) in
      let before = args (form_of mode o) n.kinds two.first pc mid d 0 n.operands two.first_is deep (omega (arith, few)) (omega (arith, low)) two.front refl (omega (arith, end, short)) in
      c_strict {r = mid} {f = form_of mode o} {ks = n.kinds} before (op-at p K pool far L m ys s d mode o i.type_id n.kinds k two.second mid e matches n.op_kind n.told two.second_is fits (omega (arith, room)) two.back end short)

  block-step : (ys : List Known) (s : Scope) (i : NodeInfo) (xs : List Local) (ts : Trees) → m.locals ≤ 65535 → Matches ys s → ((inner : List Known) (t : Scope) → Matches inner t → StatementsPlaced inner t ts) → TreePlaced ys s (block i xs ts)
  unfolding code kind_of_tree stack_of locals_of
  block-step ys s i xs ts small matches all mode k is pc e d typed made fits room few low st at short =
      let n = block-kind near ys xs ts i.type_id k typed in
      let b = bound (placed p.table K.symbol (from s.next) xs) (λ t. joined (statements g (inside t s) mode ts) (Some (block_end far mode ts))) is made in
      let added = b.0 in
      let j = joined-is (statements g (inside added s) mode ts) (Some (block_end far mode ts)) is b.2 in
      let second : j.second ≡ block_end far mode ts = sym (some-is (block_end far mode ts) j.second j.b-is) in
      let same : is ≡ j.first ++ block_end far mode ts = sym j.is ∙ ap (λ (l : List Instr). j.first ++ l) second in
      let next = placed-next g xs (from s.next) added b.1 (omega (arith, low, small)) in
      let lower : slot_behind near s.next xs ≤ m.locals = (let e = slots-near p K pool far s.next xs in omega (arith, e, low)) in
      let within = subst (λ v. locals_of_all g v ts ≤ m.locals) (sym next) (omega (arith, low)) in
      let matches2 = block-matches near s xs ys n.inner added n.bound_is b.1 matches in
      c_block {inner = n.inner} {added = added} n.bound_is b.1 lower
      (all n.inner (inside added s) matches2 mode k j.first pc e d n.last j.a-is fits room few within (subst (λ (l : List Instr). Stand pc l) same st) (subst (λ (l : List Instr). e ≡ pc + bytes_of l) same at) short)

  if-step : (ys : List Known) (s : Scope) (i : NodeInfo) (a b c : Tree) → TreePlaced ys s a → TreePlaced ys s b → TreePlaced ys s c → TreePlaced ys s (if_else i a b c)
  unfolding code kind_of_tree stack_of locals_of
  if-step ys s i a b c one two three mode k is pc e d typed made fits room few low st at short =
      let n = choice-kind near ys a b c i.type_id k typed in
      choice-at p K pool far L m ys s d i a b c k (λ x. code g s x a) (λ x. code g s x b) (λ x. code g s x c)
      (λ x js v q h fit deep stands end within. one x kind.Boolean js v q d n.test h fit deep few (omega (arith, low)) stands end within)
      (λ x js v q h fit deep stands end within. two x k js v q d n.first h fit deep few (omega (arith, low)) stands end within)
      (λ x js v q h fit deep stands end within. three x k js v q d n.second h fit deep few (omega (arith, low)) stands end within)
      n.first n.second (omega (arith, room)) mode is pc e made fits (omega (arith, room)) (omega (arith, room)) st at short

  while-step : (ys : List Known) (s : Scope) (i : NodeInfo) (a b : Tree) → TreePlaced ys s a → TreePlaced ys s b → TreePlaced ys s (while_do i a b)
  unfolding code kind_of_tree stack_of locals_of
  while-step ys s i a b one two mode k is pc e d typed made fits room few low st at short =
      let n = loop-kind near ys a b i.type_id k typed in
      let codes = two-codes (repeated far (λ x. code g s x a) (λ x. code g s x b)) (Some (unit far mode)) is pc e made st at in
      let body = bound (code g s Effect b) (λ js. code g s (Test false (plus (room_of js) (jump_size far))) a >>= λ ts. Some (loop far ts js)) codes.first codes.first_is in
      let way = plus (room_of body.0) (jump_size far) in
      let tests = bound (code g s (Test false way) a) (λ ts. Some (loop far ts body.0)) codes.first body.2 in
      let same = some-is (loop far tests.0 body.0) codes.first tests.2 in
      let end = codes.end in
      let out = pc + bytes_of codes.first in
      let parts = loop-parts p K pool far L m tests.0 body.0 pc out (subst (λ (l : List Instr). Stand pc l) (sym same) codes.front) (ap (λ (l : List Instr). pc + bytes_of l) (sym same)) (omega (arith, end, short)) in
      let mid = pc + bytes_of tests.0 in
      let last = mid + bytes_of body.0 in
      let out_is = parts.out in
      let within = parts.within in
      let high : stack_of g (Test false way) a ≤ d = (let l = stack-test g true false 0 way a in omega (arith, l, room)) in
      let tested = one (Test false way) kind.Boolean tests.0 pc mid d n.test tests.1 refl high few (omega (arith, low)) parts.test refl (omega (arith, out_is, end, short)) in
      let done = two Effect n.body_kind body.0 mid last d n.body body.1 tt (omega (arith, room)) few (omega (arith, low)) parts.body refl (omega (arith, within, end, short)) in
      let unit_is : codes.second ≡ unit far mode = sym (some-is (unit far mode) codes.second codes.second_is) in
      let units = unit-at p K pool L m far mode d out e (subst (λ (l : Kind). Fits mode l) (sym n.unit) fits) (omega (arith, room)) (subst (λ (l : List Instr). Stand out l) unit_is codes.back) (subst (λ (l : List Instr). e ≡ out + bytes_of l) unit_is end) short in
      let units2 = subst (λ v. UnitAt p K pool L m d (goal_of mode e) v) out_is units in
      subst (λ (l : Kind). CodeAt p K pool L m ys s l (goal_of mode e) d pc (while_do i a b)) n.unit (c_while {k = n.body_kind} {y = mid} {n = mid + way} {r = last} {r' = parts.next} tested done parts.back units2)

  -- ---- statements

  no-statements : (ys : List Known) (s : Scope) → StatementsPlaced ys s none
  unfolding statements kind_of_statements
  no-statements ys s mode k is pc e d typed made fits room few low st at short =
      let none_is : is ≡ [] = sym (some-is [] is made) in
      let unit_is = some-is kind.Unit k typed in
      let stands = subst (λ (l : List Instr). Stand pc (l ++ unit far mode)) none_is st in
      let end = subst (λ (l : List Instr). e ≡ pc + bytes_of (l ++ unit far mode)) none_is at in
      let units = unit-at p K pool L m far mode d pc e (subst (λ (l : Kind). Fits mode l) (sym unit_is) fits) (omega (arith, room)) stands end short in
      subst (λ (l : Kind). StatementsAt p K pool L m ys s l (goal_of mode e) d pc none) unit_is (s_none units)

  -- nothing stands behind
  alone : (is : List Instr) (pc e : ℕ) → Stand pc (is ++ []) → e ≡ pc + bytes_of (is ++ []) → Stand pc is × (e ≡ pc + bytes_of is)
  alone is pc e st at = (subst (λ (l : List Instr). Stand pc l) (append-nil is) st, subst (λ (l : List Instr). e ≡ pc + bytes_of l) (append-nil is) at)

  last-statement : (ys : List Known) (s : Scope) (t : Tree) → TreePlaced ys s t → StatementsPlaced ys s (more t none)
  unfolding statements kind_of_statements stack_of_statements locals_of_all bytes_of
  last-statement ys s t first mode k is pc e d typed made fits room few low st at short =
      let b = bound (kind_of_tree near ys t) (λ l. Some l) k typed in
      let stands = alone is pc e st at in
      let two = two-codes (code g s mode t) (Some []) is pc e made stands.0 stands.1 in
      let nothing : bytes_of two.second ≡ 0 = ap bytes_of (sym (some-is [] two.second two.second_is)) in
      let end = two.end in
      s_last (first mode k two.first pc e d (b.1 ∙ b.2) two.first_is fits (omega (arith, room)) few (omega (arith, low)) two.front (omega (arith, end, nothing)) short)

  next-statement : (ys : List Known) (s : Scope) (t u : Tree) (us : Trees) → TreePlaced ys s t → StatementsPlaced (behind t ys) s (more u us) → StatementsPlaced ys s (more t (more u us))
  unfolding statements kind_of_statements stack_of_statements locals_of_all
  next-statement ys s t u us first rest mode k is pc e d typed made fits room few low st at short =
      let b = bound (kind_of_tree near ys t) (λ l. kind_of_statements near (behind t ys) (more u us)) k typed in
      let stands = alone is pc e st at in
      let two = two-codes (code g s Effect t) (statements g s mode (more u us)) is pc e made stands.0 stands.1 in
      let end = two.end in
      let mid = pc + bytes_of two.first in
      let one = first Effect b.0 two.first pc mid d b.1 two.first_is tt (omega (arith, room)) few (omega (arith, low)) two.front refl (omega (arith, end, short)) in
      let empty = sym (append-nil two.second) in
      s_more {l = b.0} {r = mid} one
      (rest mode k two.second mid e d b.2 two.second_is fits (omega (arith, room)) few (omega (arith, low)) (subst (λ (l : List Instr). Stand mid l) empty two.back) (subst (λ (l : List Instr). e ≡ mid + bytes_of l) empty end) short)

  more-statements : (ys : List Known) (s : Scope) (t : Tree) (ts : Trees) → TreePlaced ys s t → StatementsPlaced (behind t ys) s ts → StatementsPlaced ys s (more t ts)
  more-statements ys s t none first rest = last-statement ys s t first
  more-statements ys s t (more u us) first rest = next-statement ys s t u us first rest

  -- ---- trees

  -- a tree that has no kind
  not-typed : (ys : List Known) (s : Scope) (t : Tree) → kind_of_tree near ys t ≡ None → TreePlaced ys s t
  not-typed ys s t absent mode k is pc e d typed made fits room few low st at short = absurd (cc)

  module _ (small : m.locals ≤ 65535) where
    mutual
      unfolding kind_of_tree

      tree-placed : (t : Tree) (ys : List Known) (s : Scope) → Matches ys s → TreePlaced ys s t
      tree-placed (strict i o ts) ys s h = strict-step ys s i o ts h (operands-placed ts ys s h)
      tree-placed (block i xs ts) ys s h = block-step ys s i xs ts small h (λ zs t k. statements-placed ts zs t k)
      tree-placed (and_also i a b) ys s h = not-typed ys s _ refl
      tree-placed (or_else i a b) ys s h = not-typed ys s _ refl
      tree-placed (if_else i a b c) ys s h = if-step ys s i a b c (tree-placed a ys s h) (tree-placed b ys s h) (tree-placed c ys s h)
      tree-placed (while_do i a b) ys s h = while-step ys s i a b (tree-placed a ys s h) (tree-placed b ys s h)
      tree-placed (function i name xs a) ys s h = not-typed ys s _ refl
      tree-placed (thunk i a) ys s h = not-typed ys s _ refl
      tree-placed (match_on i a cs) ys s h = not-typed ys s _ refl
      tree-placed (try_in i a cs fin) ys s h = not-typed ys s _ refl
      tree-placed (label i l a) ys s h = not-typed ys s _ refl
      tree-placed (switch i a ls ts d) ys s h = not-typed ys s _ refl

      operands-placed : (ts : Trees) (ys : List Known) (s : Scope) → Matches ys s → OperandsPlaced ys s ts
      operands-placed none ys s h = no-operands ys s
      operands-placed (more t ts) ys s h = more-operands ys s t ts (tree-placed t ys s h) (operands-placed ts ys s h)

      statements-placed : (ts : Trees) (ys : List Known) (s : Scope) → Matches ys s → StatementsPlaced ys s ts
      statements-placed none ys s h = no-statements ys s
      statements-placed (more t ts) ys s h = more-statements ys s t ts (tree-placed t ys s h) (statements-placed ts (behind t ys) s (behind-matches t ys s h))

  -- the code of a tree that stands somewhere does what the tree's goal tells
  pub code-at : (ys : List Known) (s : Scope) (mode : Mode) (k : Kind) (t : Tree) (is : List Instr) (pc e d : ℕ) → Matches ys s → kind_of_tree near ys t ≡ Some k → code g s mode t ≡ Some is → Stood p.table K L m pc is → e ≡ pc + bytes_of is → e + reach mode ≤ 65535
      → Fits mode k → stack_of g mode t ≤ d → d ≤ 65535 → locals_of g s.next t ≤ m.locals → m.locals ≤ 65535 → CodeAt p K pool L m ys s k (goal_of mode e) d pc t
  code-at ys s mode k t is pc e d matches typed made st at short fits room few low small = tree-placed small t ys s matches mode k is pc e d typed made fits room few low st at short
