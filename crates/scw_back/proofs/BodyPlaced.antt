-- The body of a method stands where it should: from its method's first place on.
use Rattle.std.proofs.Common.{◌≡◌, ◌⊎◌, ℕ, ◌+◌, ◌≤◌, ◌<◌, Bool, true, false, cond, List, [], ◌∷◌, map, Option, Some, None, refl, sym, ap, ◌∙◌, subst, inl, inr, ⊎_elim, arith}
use Rattle.scw_text.specs.declared.number.SymId.{SymId}
use Rattle.scw_classfile.specs.declared.pool_entry.PoolEntry.{PoolEntry}
use Rattle.scw_core.specs.Program as core
use Rattle.scw_core.specs.Program.{in_members, look}
use Rattle.scw_core.specs.Tree.{Tree}
use Rattle.scw_core.specs.Types.{same_symbol}
use Rattle.scw_core.specs.declared.class.CoreClass.{CoreClass}
use Rattle.scw_core.specs.declared.class.Member.{Member}
use Rattle.scw_core.specs.declared.tree.Local.{Local}
use Rattle.scw_gen.specs.declared.instr.Instr.{Instr}
use Rattle.scw_gen.specs.declared.instr.Instr.TheVariants as instr
use Rattle.scw_gen.specs.declared.kind.Kind.{Kind}
use Rattle.scw_gen.specs.declared.kind.Kind.TheVariants as kind
use Rattle.scw_gen.specs.declared.mode.Mode.{Mode}
use Rattle.scw_gen.specs.declared.mode.Mode.TheVariants.{Effect, Return}
use Rattle.scw_gen.specs.Around.{Around, kind_in}
use Rattle.scw_gen.specs.Code.{code}
use Rattle.scw_gen.specs.Instr.{bytes_of}
use Rattle.scw_gen.specs.Kind.{word_of}
use Rattle.scw_gen.specs.Method.{Start, end_of_body, local_of, mode_of_body, outermost, started}
use Rattle.scw_gen.specs.Mode.{one}
use Rattle.scw_gen.specs.Outcome.{◌>>=◌}
use Rattle.scw_gen.specs.Room.{locals_of, slot_behind, stack_of}
use Rattle.scw_gen.specs.Scope.{Scope, from, inside, placed}
use Rattle.scw_gen.specs.Typed.{Known, is_typed, is_typed_by, kind_of_tree, known_in_body, rank, told}
use Rattle.scw_gen.proofs.Landing.{bytes-append, reach}
use Rattle.scw_gen.proofs.Steps.{bound, joined-is}
use Rattle.scw_frame.specs.declared.operation.Operation.TheVariants as operation
use Rattle.scw_frame.specs.declared.program.Method.{Method}
use Rattle.scw_frame.specs.declared.program.Program.{Program}
use Rattle.scw_back.proofs.Placed.{At, Stood, m_return_nothing}
use Rattle.scw_back.proofs.Loaded.{Generated, around_by}
use Rattle.scw_back.proofs.Goals.{CodeAt, drop, goal_of, leave}
use Rattle.scw_back.proofs.Matches.{Matches, parameters-match, same-is}
use Rattle.scw_back.proofs.CodeGoals.{Fits, Only, stood-back, stood-front, there-as}
use Rattle.scw_back.proofs.CodePlaced.{code-at}
use Rattle.scw_back.proofs.RoomAt.{placed-next}
use Rattle.scw_back.proofs.TypedKinds.{same_kind-is, some-is}

-- ---- members by their symbols

found-symbol : (x : SymId) (ms : List Member) (m : Member) → in_members ms x ≡ Some m → same_symbol m.symbol x ≡ true
found-symbol x [] m h = absurd (cc)
found-symbol x (n ∷ ns) m h = by (same_symbol n.symbol x) refl (λ k. found-symbol x ns m k) h
  where
    by : (b : Bool) → same_symbol n.symbol x ≡ b → (in_members ns x ≡ Some m → same_symbol m.symbol x ≡ true) → cond b (Some n) (in_members ns x) ≡ Some m → same_symbol m.symbol x ≡ true
    by true e later k = subst (λ (o : Member). same_symbol o.symbol x ≡ true) (some-is n m k) e
    by false e later k = later k

-- ---- starts

-- what the code of a body begins with, by the kind of the result
pub record Begins (g : Around) (xs : List Local) (s : Scope) (k : Option Kind) (start : Start) : Type 0 where
  pub result : Kind
  pub result_is : k ≡ Some result
  pub mode_is : start.mode ≡ mode_of_body result
  pub end_is : start.end ≡ end_of_body result
  pub scope_is : start.scope ≡ inside s (outermost g)
  pub next_is : start.next ≡ slot_behind g 1 xs

pub begins : (g : Around) (xs : List Local) (s : Scope) (k : Option Kind) (start : Start) → started g xs s k ≡ Some start → Begins g xs s k start
begins g xs s None start h = absurd (cc)
begins g xs s (Some k) start h =
    let same = sym (some-is (record { scope = inside s (outermost g); mode = mode_of_body k; end = end_of_body k; next = slot_behind g 1 xs }) start h) in
    record {
      result = k;
      result_is = refl;
      mode_is = ap (λ (t : Start). t.mode) same;
      end_is = ap (λ (t : Start). t.end) same;
      scope_is = ap (λ (t : Start). t.scope) same;
      next_is = ap (λ (t : Start). t.next) same;
    }

told-same : (a b : Option Kind) (k : Kind) → told a b ≡ true → b ≡ Some k → a ≡ Some k
told-same None b k h e = absurd (cc)
told-same (Some l) None k h e = absurd (cc)
told-same (Some l) (Some n) k h e = ap Some (same_kind-is l n h) ∙ e

-- a result that isn't `()` is returned
value-mode : (k : Kind) → 0 < rank k → (mode_of_body k ≡ Return (word_of k)) × (end_of_body k ≡ None)
value-mode kind.Unit h = absurd (omega (arith, h))
value-mode kind.Boolean h = (refl, refl)
value-mode kind.Int h = (refl, refl)
value-mode kind.Long h = (refl, refl)
value-mode kind.String h = (refl, refl)
value-mode kind.Strings h = (refl, refl)
value-mode kind.This h = (refl, refl)

cases-unit : (k : Kind) → (k ≡ kind.Unit) ⊎ (0 < rank k)
cases-unit kind.Unit = inl refl
cases-unit kind.Boolean = inr (omega arith)
cases-unit kind.Int = inr (omega arith)
cases-unit kind.Long = inr (omega arith)
cases-unit kind.String = inr (omega arith)
cases-unit kind.Strings = inr (omega arith)
cases-unit kind.This = inr (omega arith)

module _ (p : core.Program) (K : CoreClass) (pool : List PoolEntry) (L : Program) where
  abbrev G : Bool → Around
  G far = around_by p K pool far

  -- the body's code stands in a method that gives nothing, and behind it the return
  pub record UnitBody (m : Method) (ys : List Known) (s : Scope) (d : ℕ) (body : Tree) : Type 0 where
    pub end : ℕ
    pub next : ℕ
    pub code_there : CodeAt p K pool L m ys s kind.Unit (drop end) d 0 body
    pub return_there : At p.table K L m end operation.Return next

  -- the body's code stands in a method, by the kind of its result
  abbrev pub BodyAt : Method → List Known → Scope → Kind → ℕ → Tree → Type 0
  BodyAt m ys s k d body = ((k ≡ kind.Unit) × UnitBody m ys s d body) ⊎ ((0 < rank k) × CodeAt p K pool L m ys s k leave d 0 body)

  only-return_nothing : (pc : ℕ) → Only p.table K L pc instr.ReturnNothing operation.Return
  only-return_nothing pc x m_return_nothing = refl

  -- the tree of a typed member has the kind of its result
  pub body-kind : (member : Member) (x : SymId) (body : Tree) (ys : List Known) (k : Kind) → in_members K.members x ≡ Some member → look p.bodies x ≡ Some body → is_typed (G false) p.bodies member ≡ true → known_in_body (G false) member ≡ Some ys
      → kind_in (G false) member.result ≡ Some k → kind_of_tree (G false) ys body ≡ Some k
  body-kind member x body ys k there body_is typed known result =
      let same = same-is member.symbol x (found-symbol x K.members member there) in
      let by_symbol = subst (λ (y : SymId). is_typed_by (G false) member (look p.bodies y) ≡ true) same typed in
      let by_body = subst (λ (o : Option Tree). is_typed_by (G false) member o ≡ true) body_is by_symbol in
      let by_known = subst (λ (o : Option (List Known)). told (o >>= λ zs. kind_of_tree (G false) zs body) (kind_in (G false) member.result) ≡ true) known by_body in
      told-same (kind_of_tree (G false) ys body) (kind_in (G false) member.result) k by_known result

  -- what is known of a body, by its generated method
  pub record BodyFacts (x : SymId) (number : ℕ) (b : Generated p K pool L x number) (ys : List Known) (k : Kind) : Type 0 where
    pub first : List Instr
    pub second : List Instr
    pub code_is : code (G b.far) b.start.scope b.start.mode b.body ≡ Some first
    pub front : Stood p.table K L b.is.method 0 first
    pub back : Stood p.table K L b.is.method (0 + bytes_of first) second
    pub few : 0 + bytes_of first ≤ 65535
    pub second_is : second ≡ one b.start.end
    pub mode_is : b.start.mode ≡ mode_of_body k
    pub end_is : b.start.end ≡ end_of_body k
    pub matches : Matches ys b.start.scope
    pub typed : kind_of_tree (G false) ys b.body ≡ Some k
    -- the scope's first free slot is that behind the parameters
    pub next_is : b.start.scope.next ≡ b.start.next
    pub low : locals_of (G b.far) b.start.scope.next b.body ≤ b.is.method.locals
    pub small : b.is.method.locals ≤ 65535

  pub body-of : (x : SymId) (number : ℕ) (b : Generated p K pool L x number) (ys : List Known) (k : Kind) → is_typed (G false) p.bodies b.member ≡ true → known_in_body (G false) b.member ≡ Some ys → kind_in (G false) b.member.result ≡ Some k → BodyFacts x number b ys k
  body-of x number b ys k typed known result =
      let g = G b.far in
      let start = b.start in
      let xs = map local_of b.member.parameters in
      let s = bound (placed p.table K.symbol (from 1) xs) (λ t. started (G b.far) xs t (kind_in (G b.far) b.member.result)) b.start b.starts in
      let begin = begins (G b.far) xs s.0 (kind_in (G b.far) b.member.result) b.start s.2 in
      let same : begin.result ≡ k = some-is begin.result k (sym begin.result_is ∙ result) in
      let few = b.few in
      let next_is = begin.next_is in
      let next = placed-next (G b.far) xs (from 1) s.0 s.1 (omega (arith, few, next_is)) in
      let scope = begin.scope_is in
      let there : b.start.scope.next ≡ b.start.next = ap (λ (t : Scope). t.next) scope ∙ next ∙ sym next_is in
      let locals = b.is.locals_is in
      let narrow = b.narrow in
      let j = joined-is (code (G b.far) b.start.scope b.start.mode b.body) (Some (one b.start.end)) b.instrs b.made in
      let stands = subst (λ (l : List Instr). Stood p.table K L b.is.method 0 l) (sym j.is) b.is.stood in
      let size = bytes-append j.first j.second in
      let short = subst (λ (l : List Instr). bytes_of l ≤ 65535) (sym j.is) b.short in
      record {
        first = j.first;
        second = j.second;
        code_is = j.a-is;
        front = stood-front p.table K L b.is.method 0 j.first j.second stands;
        back = stood-back p.table K L b.is.method 0 j.first j.second stands;
        few = omega (arith, size, short);
        second_is = sym (some-is (one b.start.end) j.second j.b-is);
        mode_is = begin.mode_is ∙ ap mode_of_body same;
        end_is = begin.end_is ∙ ap end_of_body same;
        matches = subst (λ (t : Scope). Matches ys t) (sym scope) (parameters-match (G false) b.member ys s.0 known s.1);
        typed = body-kind b.member x b.body ys k b.member_there b.body_there typed known result;
        next_is = there;
        low = (let l = ap (λ n. locals_of (G b.far) n b.body) there in omega (arith, l, locals));
        small = omega (arith, locals, narrow);
      }

  module _ (x : SymId) (number : ℕ) (b : Generated p K pool L x number) (ys : List Known) (k : Kind) (body : BodyFacts x number b ys k) where
    abbrev stack : ℕ
    stack = stack_of (G b.far) b.start.mode b.body

    -- in the mode with which it begins
    in-mode : (mode : Mode) → b.start.mode ≡ mode → reach mode ≡ 0 → Fits mode k → CodeAt p K pool L b.is.method ys b.start.scope k (goal_of mode (0 + bytes_of body.first)) stack 0 b.body
    in-mode mode same none fits =
        let few = body.few in
        let code_is = subst (λ (n : Mode). code (G b.far) b.start.scope n b.body ≡ Some body.first) same body.code_is in
        let room : stack_of (G b.far) mode b.body ≤ stack = (let e = ap (λ (n : Mode). stack_of (G b.far) n b.body) same in omega (arith, e)) in
        code-at p K pool b.far L b.is.method ys b.start.scope mode k b.body body.first 0 (0 + bytes_of body.first) stack body.matches body.typed code_is body.front refl (omega (arith, few, none)) fits room b.shallow body.low body.small

    unit-body : k ≡ kind.Unit → UnitBody b.is.method ys b.start.scope stack b.body
    unit-body unit =
        let mode = body.mode_is ∙ ap mode_of_body unit in
        let end : body.second ≡ instr.ReturnNothing ∷ [] = body.second_is ∙ ap one (body.end_is ∙ ap end_of_body unit) in
        let back = subst (λ (l : List Instr). Stood p.table K L b.is.method (0 + bytes_of body.first) l) end body.back in
        let place = 0 + bytes_of body.first in
        record {
          end = 0 + bytes_of body.first;
          next = 0 + bytes_of body.first + 1;
          code_there = subst (λ (l : Kind). CodeAt p K pool L b.is.method ys b.start.scope l (drop (0 + bytes_of body.first)) stack 0 b.body) unit (in-mode Effect mode refl tt);
          return_there = there-as p.table K L b.is.method (0 + bytes_of body.first) instr.ReturnNothing operation.Return back.0 (only-return_nothing (0 + bytes_of body.first));
        }

    value-body : 0 < rank k → CodeAt p K pool L b.is.method ys b.start.scope k leave stack 0 b.body
    value-body some = in-mode (Return (word_of k)) (body.mode_is ∙ (value-mode k some).0) refl refl

  -- the body of a generated method stands where it should, if its member is typed
  pub body-placed : (x : SymId) (number : ℕ) (b : Generated p K pool L x number) (ys : List Known) (k : Kind) → is_typed (G false) p.bodies b.member ≡ true → known_in_body (G false) b.member ≡ Some ys → kind_in (G false) b.member.result ≡ Some k
      → BodyAt b.is.method ys b.start.scope k (stack_of (G b.far) b.start.mode b.body) b.body
  body-placed x number b ys k typed known result =
      let body = body-of x number b ys k typed known result in
      ⊎_elim (λ unit. inl (unit, unit-body x number b ys k body unit)) (λ some. inr (some, value-body x number b ys k body some)) (cases-unit k)
