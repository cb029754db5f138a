-- What is put on the stack, compared, or made a text, and where the machine comes then.
use Rattle.std.proofs.Common.{◌≡◌, refl, sym, ap, ◌∙◌, subst, ℕ, ◌+◌, ◌%◌, ◌^◌, ◌≤◌, arith, Bool, true, false, cond, not, List, [], ◌∷◌, ◌++◌, Some, Ok, inl, inr}
use Rattle.std.specs.Prelude.{codes, slice_get}
use Rattle.std.specs.Int as bits
use Rattle.std.specs.Int.{w32, w64, cast_signed}
use Rattle.std.specs.List.{list_all}
use Rattle.scw_text.specs.Modified.{is_unit}
use Rattle.scw_text.specs.declared.number.SymId.{SymId}
use Rattle.scw_value.specs.Number.{compared, order}
use Rattle.scw_value.specs.Text.{number_text}
use Rattle.scw_value.specs.declared.comparison.Comparison.{Comparison}
use Rattle.scw_classfile.specs.declared.pool_entry.PoolEntry.{PoolEntry}
use Rattle.scw_core.specs.Number.{boolean_text, plain_text}
use Rattle.scw_core.specs.Program as core
use Rattle.scw_core.specs.Run.{Config}
use Rattle.scw_core.specs.State.{Thing, Value, boolean_v, int_v, long_v, unit_v}
use Rattle.scw_core.specs.declared.class.CoreClass.{CoreClass}
use Rattle.scw_core.specs.declared.operator.Width.{Width}
use Rattle.scw_core.specs.declared.operator.Width.TheVariants as width
use Rattle.scw_gen.specs.declared.instr.Compared.TheVariants.{Two}
use Rattle.scw_gen.specs.declared.kind.Kind.{Kind}
use Rattle.scw_gen.specs.declared.kind.Kind.TheVariants as kind
use Rattle.scw_gen.specs.Kind.{width_of}
use Rattle.scw_gen.specs.Mode.{bit, negated}
use Rattle.scw_heap.specs.Heap.{Entity, used}
use Rattle.scw_heap.specs.declared.kind.Kind.TheVariants as made
use Rattle.scw_frame.specs.declared.operation.BuiltIn.TheVariants as built
use Rattle.scw_frame.specs.declared.operation.Operation.{Operation}
use Rattle.scw_frame.specs.declared.operation.Operation.TheVariants as operation
use Rattle.scw_frame.specs.declared.operation.Primitive.{Primitive}
use Rattle.scw_frame.specs.declared.operation.Primitive.TheVariants as primitive
use Rattle.scw_frame.specs.declared.program.Method.{Method}
use Rattle.scw_frame.specs.declared.program.Program.{Program}
use Rattle.scw_frame.specs.declared.program.Target.TheVariants as target
use Rattle.scw_frame.specs.declared.value.Value.TheVariants.{Int, Long, Reference}
use Rattle.scw_frame.specs.Frame.{is_of, places}
use Rattle.scw_frame.specs.Frame as machine_frame
use Rattle.scw_step.specs.BoxStep.{box_class}
use Rattle.scw_step.specs.ObjectStep.{box_text}
use Rattle.scw_step.specs.Step.{stepping}
use Rattle.scw_step.specs.declared.event.Event.TheVariants as event
use Rattle.scw_machine.specs.Course.{Course, going}
use Rattle.scw_back.proofs.Goals.{ComparedAt, Compares, Decides, Goal, PutAt, TextAt, p_drop, p_made, straight, text_boxed, text_string, text_unit, turned, x_test, x_value}
use Rattle.scw_back.proofs.Grown.{grows-by, grows-further, grows-itself, holds-last}
use Rattle.scw_back.proofs.NumberBounds.{compared-order, number_text-units}
use Rattle.scw_back.proofs.NumberLaws.{compared-negated}
use Rattle.scw_back.proofs.Placed.{At, SelectsText, has_machine_text, value_of_kind}
use Rattle.scw_back.proofs.Reach.{Comes, Then, after-row, decide-zero, gives, lead, more-time, r_drop, r_test}
use Rattle.scw_back.proofs.Rows.{on, row-box-boolean, row-box-int, row-box-long, row-box-text, row-compare, row-ints, row-jump, row-push, row-unit-text}
use Rattle.scw_back.proofs.Stands.{Alike, Grows, Holds, IsOf, MachineState, UnitThere, Word, k_boolean, k_int, k_long, k_string, k_strings, k_this, k_unit, text_object, unit_object}

-- the word is of the kind's values
pub alike-kind : (h : List Entity) (store : List Thing) (own : SymId) (k : Kind) (v : Value) (w : Word) → Alike h store own k v w → is_of (value_of_kind k) w ≡ true
alike-kind h store own k v w (k_unit r x) = refl
alike-kind h store own k v w (k_boolean b) = refl
alike-kind h store own k v w (k_int n lt) = refl
alike-kind h store own k v w (k_long n lt) = refl
alike-kind h store own k v w (k_string us r u x) = refl
alike-kind h store own k v w (k_strings v2 r) = refl
alike-kind h store own k v w (k_this q r ws i x) = refl

-- the value of Unit stays there
pub unit-grown : (h h' : List Entity) (u : ℕ) → Grows h h' → UnitThere h u → UnitThere h' u
unit-grown h h' u g (inl e) = inl e
unit-grown h h' u g (inr x) = inr (record { some = x.some; there = g.by u unit_object x.there })

-- two numbers of a width, as words
abbrev pub number_word : Width → ℕ → Word
number_word width.Int n = Int n
number_word width.Long n = Long n

abbrev pub bits_of : Width → bits.Width
bits_of width.Int = w32
bits_of width.Long = w64

module _ (p : core.Program) (K : CoreClass) (pool : List PoolEntry) (L : Program) (z : List Word) (number : ℕ) (m : Method) (there : slice_get L.methods number ≡ Some m) (fs : List machine_frame.Frame) (store : List Thing) where
  abbrev Here : ℕ → List Word → List Word → List Entity → ℕ → List ℕ → Course
  Here pc ws st h u out = going (on L number m there fs z pc ws st h u) out

  abbrev Come : Course → Config → ℕ → ℕ → Type 0
  Come x d b lim = Comes p K pool L z x d b lim

  abbrev On : ℕ → List Word → List Word → List Entity → ℕ → MachineState
  On pc ws st h u = on L number m there fs z pc ws st h u

  -- a row puts a word for the value on the stack
  pub record Puts (ws st : List Word) (h : List Entity) (u pc r : ℕ) (k : Kind) (v : Value) : Type 0 where
    pub word : Word
    pub heap : List Entity
    pub grown : Grows h heap
    pub alike : Alike heap store K.symbol k v word
    pub room : places (word ∷ st) ≤ m.stack
    pub row : stepping L (On pc ws st h u) ≡ Ok (event.On, On r ws (word ∷ st) heap u)

  module _ (ws st : List Word) (out : List ℕ) (d : Config) (b lim : ℕ) where
    pub put-then : (goal : Goal) (k : Kind) (v : Value) (o : Operation) (pc n : ℕ) (h : List Entity) (u : ℕ) → PutAt p K pool L m n o k goal pc → places st + n ≤ m.stack → UnitThere h u → IsOf store K.symbol k v
        → ((r : ℕ) → At p.table K L m pc o r → width_of k + places st ≤ m.stack → Puts ws st h u pc r k v) → Then p K pool L z number m there fs store ws st h u out goal k v d b lim → Come (Here pc ws st h u out) d (3 + b) lim
    put-then goal k v o pc n h u (p_drop {q = q} l) room unit i puts go = more-time p K pool L z _ d (1 + b) (3 + b) lim lim (lead p K pool L z number m there fs store ws st out d b lim pc q st h u l (go h u (grows-itself h) unit _ (r_drop i))) (omega arith) (omega arith)
    put-then goal k v o pc n h u (p_made {r = r} some at g) room unit i puts go =
        let x = puts r at (omega (arith, some, room)) in
        after-row p K pool L z (On pc ws st h u) (On r ws (x.word ∷ st) x.heap u) out d (2 + b) (3 + b) lim lim x.row (omega arith)
        (gives p K pool L z number m there fs store ws st out d b lim goal k v x.word r x.heap u g x.alike x.room (λ s a. go x.heap u x.grown (unit-grown h x.heap u x.grown unit) s a))

    -- a branch where two numbers compare so
    decide-ints : (c : Comparison) (pc on_true on_false x y : ℕ) (t : Bool) (h : List Entity) (u : ℕ) → Decides p K pool L m Two c pc on_true on_false → compared w32 c x y ≡ t → Come (Here (cond t on_true on_false) ws st h u out) d b lim → Come (Here pc ws (Int y ∷ Int x ∷ st) h u out) d (2 + b) lim
    decide-ints c pc on_true on_false x y t h u (straight {y = y'} {n = n'} at ly ln) is go =
        after-row p K pool L z (On pc ws (Int y ∷ Int x ∷ st) h u) (On (cond t y' n') ws st h u) out d (1 + b) (2 + b) lim lim
        (row-ints L number m there fs z pc n' y' x y c ws st h u at ∙ ap (λ a. Ok (event.On, On (cond a y' n') ws st h u)) is) (omega arith) (by_truth t go)
      where
        by_truth : (t : Bool) → Come (Here (cond t on_true on_false) ws st h u out) d b lim → Come (Here (cond t y' n') ws st h u out) d (1 + b) lim
        by_truth true go = lead p K pool L z number m there fs store ws st out d b lim y' on_true st h u ly go
        by_truth false go = lead p K pool L z number m there fs store ws st out d b lim n' on_false st h u ln go
    decide-ints c pc on_true on_false x y t h u (turned {y = y'} {n = n'} at ly ln) is go =
        after-row p K pool L z (On pc ws (Int y ∷ Int x ∷ st) h u) (On (cond (not t) n' y') ws st h u) out d (1 + b) (2 + b) lim lim
        (row-ints L number m there fs z pc y' n' x y (negated c) ws st h u at ∙ ap (λ a. Ok (event.On, On (cond a n' y') ws st h u)) (compared-negated w32 c x y ∙ ap not is)) (omega arith) (by_truth t go)
      where
        by_truth : (t : Bool) → Come (Here (cond t on_true on_false) ws st h u out) d b lim → Come (Here (cond (not t) n' y') ws st h u out) d (1 + b) lim
        by_truth true go = lead p K pool L z number m there fs store ws st out d b lim y' on_true st h u ly go
        by_truth false go = lead p K pool L z number m there fs store ws st out d b lim n' on_false st h u ln go

    pub compare-ints : (w : Width) (c : Comparison) (pc on_true on_false x y : ℕ) (t : Bool) (h : List Entity) (u : ℕ) → Compares p K pool L m w c pc on_true on_false → 2 + places st ≤ m.stack → compared (bits_of w) c x y ≡ t
        → Come (Here (cond t on_true on_false) ws st h u out) d b lim → Come (Here pc ws (number_word w y ∷ number_word w x ∷ st) h u out) d (3 + b) lim
    compare-ints width.Int c pc on_true on_false x y t h u decides room is go = more-time p K pool L z _ d (2 + b) (3 + b) lim lim (decide-ints c pc on_true on_false x y t h u decides is go) (omega arith) (omega arith)
    compare-ints width.Long c pc on_true on_false x y t h u decides room is go =
        after-row p K pool L z (On pc ws (Long y ∷ Long x ∷ st) h u) (On decides.0 ws (Int (order w64 x y) ∷ st) h u) out d (2 + b) (3 + b) lim lim (row-compare L number m there fs z pc decides.0 x y ws st h u decides.1 (omega (arith, room))) (omega arith)
        (decide-zero p K pool L z number m there fs store ws st out d b lim c decides.0 on_true on_false (order w64 x y) t h u decides.2 (compared-order c x y ∙ is) go)

  module _ (ws st : List Word) (out : List ℕ) (d : Config) (b lim : ℕ) where
    -- the comparison's value
    pub compared-then : (w : Width) (c : Comparison) (goal : Goal) (pc x y : ℕ) (t : Bool) (h : List Entity) (u : ℕ) → ComparedAt p K pool L m w c goal pc → 2 + places st ≤ m.stack → UnitThere h u → compared (bits_of w) c x y ≡ t
        → Then p K pool L z number m there fs store ws st h u out goal kind.Boolean (boolean_v t) d b lim → Come (Here pc ws (number_word w y ∷ number_word w x ∷ st) h u out) d (7 + b) lim
    compared-then w c goal pc x y t h u (x_test {yes = on_true} {no = on_false} k) room unit is go =
        more-time p K pool L z _ d (3 + b) (7 + b) lim lim (compare-ints ws st out d b lim w c pc on_true on_false x y t h u k room is (go h u (grows-itself h) unit _ r_test)) (omega arith) (omega arith)
    compared-then w c goal pc x y t h u (x_value on_true on_false {r = r} {r' = r'} {e = e} k a1 a2 a3 g) room unit is go =
        more-time p K pool L z _ d (3 + (4 + b)) (7 + b) lim lim (compare-ints ws st out d (4 + b) lim w c pc on_true on_false x y t h u k room is (by_truth t go)) (omega arith) (omega arith)
      where
        pushed : (t : Bool) → Then p K pool L z number m there fs store ws st h u out goal kind.Boolean (boolean_v t) d b lim → Come (Here e ws (Int (bit t) ∷ st) h u out) d (2 + b) lim
        pushed t go = gives p K pool L z number m there fs store ws st out d b lim goal kind.Boolean (boolean_v t) (Int (bit t)) e h u g (k_boolean t) (omega (arith, room)) (λ s a. go h u (grows-itself h) unit s a)

        by_truth : (t : Bool) → Then p K pool L z number m there fs store ws st h u out goal kind.Boolean (boolean_v t) d b lim → Come (Here (cond t on_true on_false) ws st h u out) d (4 + b) lim
        by_truth true go =
            after-row p K pool L z (On on_true ws st h u) (On r ws (Int 1 ∷ st) h u) out d (3 + b) (4 + b) lim lim (row-push L number m there fs z on_true r (Int 1) ws st h u a1 (omega (arith, room))) (omega arith)
            (after-row p K pool L z (On r ws (Int 1 ∷ st) h u) (On e ws (Int 1 ∷ st) h u) out d (2 + b) (3 + b) lim lim (row-jump L number m there fs z r r' e ws (Int 1 ∷ st) h u a2) (omega arith) (pushed true go))
        by_truth false go = after-row p K pool L z (On on_false ws st h u) (On e ws (Int 0 ∷ st) h u) out d (2 + b) (4 + b) lim lim (row-push L number m there fs z on_false e (Int 0) ws st h u a3 (omega (arith, room))) (omega arith) (pushed false go)

    -- ---- texts

    -- a reference to the text of a value stands on the stack
    pub record Texted (v : Value) (h : List Entity) (u : ℕ) : Type 0 where
      pub heap : List Entity
      pub grown : Grows h heap
      pub units : List ℕ
      pub text_is : plain_text v ≡ Some units
      pub narrow : list_all is_unit units ≡ true
      pub reference : ℕ
      pub holds : Holds heap reference (text_object units)

    abbrev AfterText : Value → ℕ → List Entity → ℕ → Type 0
    AfterText v r' h u = (x : Texted v h u) → Come (Here r' ws (Reference x.reference ∷ st) x.heap u out) d b lim

    abbrev made-text : (v : Value) (us : List ℕ) (h h' : List Entity) (u : ℕ) → Grows h h' → plain_text v ≡ Some us → list_all is_unit us ≡ true → Texted v h u
    made-text v us h h' u g is narrow = record { heap = h' ++ text_object us ∷ []; grown = grows-further h h' _ g (grows-by h' (text_object us ∷ [])); units = us; text_is = is; narrow = narrow; reference = 1 + used h'; holds = holds-last h' (text_object us) }

    -- a box, and its text
    boxed : (q : Primitive) (v : Value) (w : Word) (n pc r r' selector : ℕ) (us : List ℕ) (h : List Entity) (u : ℕ) → has_machine_text (box_class q) ≡ true → SelectsText p.table K L selector → At p.table K L m r (operation.CallVirtual (record { 0 = selector })) r'
        → box_text q n ≡ us → plain_text v ≡ Some us → list_all is_unit us ≡ true → 1 + places st ≤ m.stack
        → stepping L (On pc ws (w ∷ st) h u) ≡ Ok (event.On, On r ws (Reference (1 + used h) ∷ st) (h ++ record { kind = made.Object (box_class q); words = n ∷ [] } ∷ []) u)
        → AfterText v r' h u → Come (Here pc ws (w ∷ st) h u out) d (2 + b) lim
    boxed q v w n pc r r' selector us h u has s at is text narrow room row go =
        let o : Entity = record { kind = made.Object (box_class q); words = n ∷ [] } in
        let h1 : List Entity = h ++ o ∷ [] in
        let last = holds-last h o in
        after-row p K pool L z (On pc ws (w ∷ st) h u) (On r ws (Reference (1 + used h) ∷ st) h1 u) out d (1 + b) (2 + b) lim lim row (omega arith)
        (after-row p K pool L z (On r ws (Reference (1 + used h) ∷ st) h1 u) (On r' ws (Reference (1 + used h1) ∷ st) (h1 ++ text_object us ∷ []) u) out d b (1 + b) lim lim
        (row-box-text L number m there fs z q r r' (1 + used h) n selector ws st h1 u at s.kinds_are (s.target_is (box_class q) has) last.some last.there room ∙ ap (λ t. Ok (event.On, On r' ws (Reference (1 + used h1) ∷ st) (h1 ++ text_object t ∷ []) u)) is) (omega arith)
        (go (made-text v us h h1 u (grows-by h (o ∷ [])) text narrow)))

    boolean-text : (t : Bool) → box_text primitive.Boolean (bit t) ≡ boolean_text t
    boolean-text true = refl
    boolean-text false = refl

    boolean-narrow : (t : Bool) → list_all is_unit (boolean_text t) ≡ true
    boolean-narrow true = refl
    boolean-narrow false = refl

    pub text-then : (k : Kind) (v : Value) (w : Word) (pc r' : ℕ) (h : List Entity) (u : ℕ) → TextAt p K pool L m k pc r' → Alike h store K.symbol k v w → 1 + places st ≤ m.stack → AfterText v r' h u → Come (Here pc ws (w ∷ st) h u out) d (2 + b) lim
    text-then k v w pc r' h u text_string (k_string us r narrow x) room go =
        more-time p K pool L z _ d b (2 + b) lim lim (go (record { heap = h; grown = grows-itself h; units = us; text_is = refl; narrow = narrow; reference = r; holds = x })) (omega arith) (omega arith)
    text-then k v w pc r' h u (text_unit {selector = selector} s at) (k_unit r x) room go =
        after-row p K pool L z (On pc ws (Reference r ∷ st) h u) (On r' ws (Reference (1 + used h) ∷ st) (h ++ text_object (codes "()") ∷ []) u) out d b (2 + b) lim lim
        (row-unit-text L number m there fs z pc r' r selector ws st h u at s.kinds_are (s.target_is 6 refl) x.some x.there room) (omega arith) (go (made-text unit_v (codes "()") h h u (grows-itself h) refl refl))
    text-then k v w pc r' h u (text_boxed {r = r} {selector = selector} {o = o} is at s at2) (k_boolean t) room go =
        let e : operation.CallStatic (target.BuiltIn (built.Box primitive.Boolean)) ≡ o = cc in
        boxed primitive.Boolean (boolean_v t) (Int (bit t)) (bit t) pc r r' selector (boolean_text t) h u refl s at2 (boolean-text t) refl (boolean-narrow t) room
        (row-box-boolean L number m there fs z pc r (bit t) ws st h u (subst (λ a. At p.table K L m pc a r) (sym e) at) room) go
    text-then k v w pc r' h u (text_boxed {r = r} {selector = selector} {o = o} is at s at2) (k_int n lt) room go =
        let e : operation.CallStatic (target.BuiltIn (built.Box primitive.Int)) ≡ o = cc in
        let small : n % 2 ^ 32 ≡ n = omega (arith, lt) in
        boxed primitive.Int (int_v n) (Int n) n pc r r' selector (number_text (cast_signed w32 n)) h u refl s at2 (ap (λ a. number_text (cast_signed w32 a)) small) refl (number_text-units (cast_signed w32 n)) room
        (row-box-int L number m there fs z pc r n ws st h u (subst (λ a. At p.table K L m pc a r) (sym e) at) room) go
    text-then k v w pc r' h u (text_boxed {r = r} {selector = selector} {o = o} is at s at2) (k_long n lt) room go =
        let e : operation.CallStatic (target.BuiltIn (built.Box primitive.Long)) ≡ o = cc in
        boxed primitive.Long (long_v n) (Long n) n pc r r' selector (number_text (cast_signed w64 n)) h u refl s at2 refl refl (number_text-units (cast_signed w64 n)) room
        (row-box-long L number m there fs z pc r n ws st h u (subst (λ a. At p.table K L m pc a r) (sym e) at) room) go
    text-then k v w pc r' h u (text_boxed is at s at2) (k_unit r x) room go = absurd (cc)
    text-then k v w pc r' h u (text_boxed is at s at2) (k_string us r t x) room go = absurd (cc)
    text-then k v w pc r' h u (text_boxed is at s at2) (k_strings v2 r) room go = absurd (cc)
    text-then k v w pc r' h u (text_boxed is at s at2) (k_this q r words i x) room go = absurd (cc)
