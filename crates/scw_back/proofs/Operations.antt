-- What the instructions of a generated file are once it is linked.
use Rattle.std.proofs.Common.{◌≡◌, ℕ, zero, suc, ◌+◌, ◌-◌, ◌≤◌, ℤ, pos, negsuc, neg_ℤ, ◌+ℤ◌, Bool, true, false, ◌&&◌, cond, leb, ltb, Some, None, refl, ap, ◌∙◌, subst, arith}
use Rattle.std.specs.Prelude.{nat_le}
use Rattle.std.specs.Option.{option_map}
use Rattle.std.proofs.Math.Dec.{leb-zero}
use Rattle.std.proofs.lemmas.Bool.{cond-false, le-ltb, leb-true, lt-ltb}
use Rattle.scw_value.specs.declared.arithmetic.Arithmetic.{Arithmetic}
use Rattle.scw_value.specs.declared.arithmetic.Arithmetic.TheVariants.{Add, Subtract, Multiply, And, Or, Xor}
use Rattle.scw_value.specs.declared.comparison.Comparison.{Comparison}
use Rattle.scw_value.specs.declared.comparison.Comparison.TheVariants.{Equal, NotEqual, Less, GreaterOrEqual, Greater, LessOrEqual}
use Rattle.scw_value.specs.declared.division.Division.{Division}
use Rattle.scw_value.specs.declared.division.Division.TheVariants.{Divide, Remainder}
use Rattle.scw_code.specs.declared.instr.Instr as any
use Rattle.scw_code.specs.declared.instr.InstrArgs.TheVariants as args
use Rattle.scw_code.specs.declared.instr.Numbers.TheVariants.{One}
use Rattle.scw_core.specs.declared.operator.Width.{Width}
use Rattle.scw_core.specs.declared.operator.Width.TheVariants as width
use Rattle.scw_frame.specs.declared.operation.Operation.{Operation}
use Rattle.scw_frame.specs.declared.operation.Operation.TheVariants as op
use Rattle.scw_frame.specs.declared.value.Value.TheVariants.{Int}
use Rattle.scw_gen.specs.Encode.{arithmetic, bare, branching, division, jump, load, number, plain, pushed, returning, slot, store, with_index}
use Rattle.scw_gen.specs.declared.instr.Compared.{Compared}
use Rattle.scw_gen.specs.declared.instr.Compared.TheVariants as compared
use Rattle.scw_gen.specs.declared.kind.Word.{Word}
use Rattle.scw_gen.specs.declared.kind.Word.TheVariants as word
use Rattle.scw_gen.specs.Instr.{is_between}
use Rattle.scw_link.specs.Meaning.{meaning_of}
use Rattle.scw_link.specs.Numbers.{bits, or_undefined, place_at, two_bytes}
use Rattle.scw_link.specs.Resolve.{operation}
use Rattle.scw_link.specs.Site.{Site}
use Rattle.scw_back.proofs.Placed.{arithmetic_of, division_of, jump_when, value_of_word}

-- a number of 16 bits
small : (n : ℕ) → n ≤ 65535 → two_bytes (pos n) ≡ Some n
small n le = ap (λ b. cond b (Some n) None) (lt-ltb n 65536 (omega (arith, le)))

-- a jump to a place that has 16 bits
jumps : (f : ℕ → Operation) (at to : ℕ) (way : ℤ) → pos at +ℤ way ≡ pos to → to ≤ 65535 → or_undefined (option_map f (place_at at way)) ≡ f to
jumps f at to way e le = ap (λ z. or_undefined (option_map f (two_bytes z))) e ∙ ap (λ o. or_undefined (option_map f o)) (small to le)

-- a way back
pub back_to : (at way : ℕ) → way ≤ at → pos at +ℤ neg_ℤ (pos way) ≡ pos (at - way)
back_to at zero le = ap pos (omega arith)
back_to at (suc way) le = cond-false (ltb at (suc way)) (negsuc (suc way - suc at)) (pos (at - suc way)) (le-ltb at (suc way) le)

module _ (s : Site) (at switch : ℕ) where
  abbrev Does : any.Instr → Operation → Type 0
  Does i o = operation s at switch i ≡ o

  -- ---- numbers

  abbrev Pushes : any.Instr → ℤ → Type 0
  Pushes i z = Does i (op.Push (Int (bits z)))

  pushed_does : (z : ℤ) → Pushes (pushed z) z
  unfolding meaning_of
  pushed_does z = by (is_between (negsuc 127) (pos 127) z)
    where
      by : (b : Bool) → Pushes (plain (cond b 16 17) (One z)) z
      by true = refl
      by false = refl

  constant_does : (k : ℕ) → k ≤ 5 → Pushes (bare (3 + k)) (pos k)
  unfolding meaning_of
  constant_does zero h = refl
  constant_does (suc zero) h = refl
  constant_does (suc (suc zero)) h = refl
  constant_does (suc (suc (suc zero))) h = refl
  constant_does (suc (suc (suc (suc zero)))) h = refl
  constant_does (suc (suc (suc (suc (suc zero))))) h = refl
  constant_does (suc (suc (suc (suc (suc (suc k)))))) h = absurd (omega arith)

  minus_does : Pushes (bare 2) (negsuc 0)
  unfolding meaning_of
  minus_does = refl

  pub number_does : (z : ℤ) → Pushes (number z) z
  number_does (pos k) = by (leb 0 k) (leb k 5) (leb-zero k) (λ b. constant_does k (leb-true k 5 b)) (pushed_does (pos k))
    where
      by : (a b : Bool) → a ≡ true → (b ≡ true → Pushes (bare (3 + k)) (pos k)) → Pushes (pushed (pos k)) (pos k) → Pushes (cond (a && b) (bare (3 + k)) (pushed (pos k))) (pos k)
      by true true e f g = f refl
      by true false e f g = g
      by false b e f g = absurd (cc)
  number_does (negsuc k) = by (leb 0 k) (leb k 0) (leb-zero k) (λ b. let e : 0 ≡ k = (let le = leb-true k 0 b in omega (arith, le)) in subst (λ n. Pushes (bare 2) (negsuc n)) e minus_does) (pushed_does (negsuc k))
    where
      by : (a b : Bool) → a ≡ true → (b ≡ true → Pushes (bare 2) (negsuc k)) → Pushes (pushed (negsuc k)) (negsuc k) → Pushes (cond (b && a) (bare 2) (pushed (negsuc k))) (negsuc k)
      by true true e f g = f refl
      by true false e f g = g
      by false b e f g = absurd (cc)

  -- ---- local variables

  -- by the three forms
  slot_does : (opcode first n : ℕ) (o : Operation) → (n ≤ 3 → Does (bare (first + n)) o) → Does (with_index opcode n) o → Does (record { op = 196; args = args.Wide opcode (One (pos n)) }) o → Does (slot opcode first n) o
  slot_does opcode first n o a b c = by (nat_le n 3) (nat_le n 255) (λ h. a (leb-true n 3 h))
    where
      by : (x y : Bool) → (x ≡ true → Does (bare (first + n)) o) → Does (cond x (bare (first + n)) (cond y (with_index opcode n) (record { op = 196; args = args.Wide opcode (One (pos n)) }))) o
      by true y f = f refl
      by false true f = b
      by false false f = c

  load_short : (w : Word) (first n : ℕ) → n ≤ 3
      → Does (bare (first + 0)) (op.Load (value_of_word w) 0) → Does (bare (first + 1)) (op.Load (value_of_word w) 1) → Does (bare (first + 2)) (op.Load (value_of_word w) 2) → Does (bare (first + 3)) (op.Load (value_of_word w) 3)
      → Does (bare (first + n)) (op.Load (value_of_word w) n)
  load_short w first zero h a b c d = a
  load_short w first (suc zero) h a b c d = b
  load_short w first (suc (suc zero)) h a b c d = c
  load_short w first (suc (suc (suc zero))) h a b c d = d
  load_short w first (suc (suc (suc (suc n)))) h a b c d = absurd (omega arith)

  pub load_does : (w : Word) (n : ℕ) → n ≤ 65535 → Does (load w n) (op.Load (value_of_word w) n)
  unfolding meaning_of
  load_does word.Int n le =
      let e = ap (λ o. or_undefined (option_map (λ k. op.Load (value_of_word word.Int) k) o)) (small n le) in
      slot_does 21 26 n (op.Load (value_of_word word.Int) n) (λ h. load_short word.Int 26 n h refl refl refl refl) e e
  load_does word.Long n le =
      let e = ap (λ o. or_undefined (option_map (λ k. op.Load (value_of_word word.Long) k) o)) (small n le) in
      slot_does 22 30 n (op.Load (value_of_word word.Long) n) (λ h. load_short word.Long 30 n h refl refl refl refl) e e
  load_does word.Reference n le =
      let e = ap (λ o. or_undefined (option_map (λ k. op.Load (value_of_word word.Reference) k) o)) (small n le) in
      slot_does 25 42 n (op.Load (value_of_word word.Reference) n) (λ h. load_short word.Reference 42 n h refl refl refl refl) e e

  store_short : (w : Word) (first n : ℕ) → n ≤ 3
      → Does (bare (first + 0)) (op.Store (value_of_word w) 0) → Does (bare (first + 1)) (op.Store (value_of_word w) 1) → Does (bare (first + 2)) (op.Store (value_of_word w) 2) → Does (bare (first + 3)) (op.Store (value_of_word w) 3)
      → Does (bare (first + n)) (op.Store (value_of_word w) n)
  store_short w first zero h a b c d = a
  store_short w first (suc zero) h a b c d = b
  store_short w first (suc (suc zero)) h a b c d = c
  store_short w first (suc (suc (suc zero))) h a b c d = d
  store_short w first (suc (suc (suc (suc n)))) h a b c d = absurd (omega arith)

  pub store_does : (w : Word) (n : ℕ) → n ≤ 65535 → Does (store w n) (op.Store (value_of_word w) n)
  unfolding meaning_of
  store_does word.Int n le =
      let e = ap (λ o. or_undefined (option_map (λ k. op.Store (value_of_word word.Int) k) o)) (small n le) in
      slot_does 54 59 n (op.Store (value_of_word word.Int) n) (λ h. store_short word.Int 59 n h refl refl refl refl) e e
  store_does word.Long n le =
      let e = ap (λ o. or_undefined (option_map (λ k. op.Store (value_of_word word.Long) k) o)) (small n le) in
      slot_does 55 63 n (op.Store (value_of_word word.Long) n) (λ h. store_short word.Long 63 n h refl refl refl refl) e e
  store_does word.Reference n le =
      let e = ap (λ o. or_undefined (option_map (λ k. op.Store (value_of_word word.Reference) k) o)) (small n le) in
      slot_does 58 75 n (op.Store (value_of_word word.Reference) n) (λ h. store_short word.Reference 75 n h refl refl refl refl) e e

  -- ---- operators

  pub arithmetic_does : (w : Width) (o : Arithmetic) → Does (bare (arithmetic w o)) (arithmetic_of w o)
  unfolding meaning_of
  arithmetic_does width.Int Add = refl
  arithmetic_does width.Int Subtract = refl
  arithmetic_does width.Int Multiply = refl
  arithmetic_does width.Int And = refl
  arithmetic_does width.Int Or = refl
  arithmetic_does width.Int Xor = refl
  arithmetic_does width.Long Add = refl
  arithmetic_does width.Long Subtract = refl
  arithmetic_does width.Long Multiply = refl
  arithmetic_does width.Long And = refl
  arithmetic_does width.Long Or = refl
  arithmetic_does width.Long Xor = refl

  pub division_does : (w : Width) (o : Division) → Does (bare (division w o)) (division_of w o)
  unfolding meaning_of
  division_does width.Int Divide = refl
  division_does width.Int Remainder = refl
  division_does width.Long Divide = refl
  division_does width.Long Remainder = refl

  pub returning_does : (w : Word) → Does (bare (returning w)) (op.ReturnValue (value_of_word w))
  unfolding meaning_of
  returning_does word.Int = refl
  returning_does word.Long = refl
  returning_does word.Reference = refl

  -- ---- jumps

  pub branch_does : (k : Compared) (c : Comparison) (to : ℕ) (way : ℤ) → pos at +ℤ way ≡ pos to → to ≤ 65535 → Does (jump (branching k c) way) (jump_when k c to)
  unfolding meaning_of
  branch_does compared.Zero Equal to way e le = jumps (λ k. op.JumpIfZero Equal k) at to way e le
  branch_does compared.Zero NotEqual to way e le = jumps (λ k. op.JumpIfZero NotEqual k) at to way e le
  branch_does compared.Zero Less to way e le = jumps (λ k. op.JumpIfZero Less k) at to way e le
  branch_does compared.Zero GreaterOrEqual to way e le = jumps (λ k. op.JumpIfZero GreaterOrEqual k) at to way e le
  branch_does compared.Zero Greater to way e le = jumps (λ k. op.JumpIfZero Greater k) at to way e le
  branch_does compared.Zero LessOrEqual to way e le = jumps (λ k. op.JumpIfZero LessOrEqual k) at to way e le
  branch_does compared.Two Equal to way e le = jumps (λ k. op.JumpIfInts Equal k) at to way e le
  branch_does compared.Two NotEqual to way e le = jumps (λ k. op.JumpIfInts NotEqual k) at to way e le
  branch_does compared.Two Less to way e le = jumps (λ k. op.JumpIfInts Less k) at to way e le
  branch_does compared.Two GreaterOrEqual to way e le = jumps (λ k. op.JumpIfInts GreaterOrEqual k) at to way e le
  branch_does compared.Two Greater to way e le = jumps (λ k. op.JumpIfInts Greater k) at to way e le
  branch_does compared.Two LessOrEqual to way e le = jumps (λ k. op.JumpIfInts LessOrEqual k) at to way e le

  pub goto_does : (to : ℕ) (way : ℤ) → pos at +ℤ way ≡ pos to → to ≤ 65535 → Does (jump 167 way) (op.Jump to)
  unfolding meaning_of
  goto_does to way e le = jumps (λ k. op.Jump k) at to way e le

  pub far_goto_does : (to : ℕ) (way : ℤ) → pos at +ℤ way ≡ pos to → to ≤ 65535 → Does (jump 200 way) (op.Jump to)
  unfolding meaning_of
  far_goto_does to way e le = jumps (λ k. op.Jump k) at to way e le
