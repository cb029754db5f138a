-- Code whose jumps lead to instructions of it, or to where its mode lets it go on, and how such code is joined.
use Rattle.std.proofs.Common.{◌≡◌, ℕ, ◌+◌, ◌-◌, ◌<◌, ◌≤◌, pos, negsuc, Bool, true, false, cond, List, [], ◌∷◌, ◌++◌, length, Some, refl, sym, ap, ◌∙◌, subst, arith, length-append}
use Rattle.scw_classfile.specs.declared.pool_entry.PoolEntry.{PoolEntry}
use Rattle.scw_core.specs.Program.{Table, text_at}
use Rattle.scw_gen.specs.declared.instr.Constant.{Constant}
use Rattle.scw_gen.specs.declared.instr.Constant.TheVariants as constant
use Rattle.scw_gen.specs.declared.instr.Instr.{Instr}
use Rattle.scw_gen.specs.declared.instr.Instr.TheVariants as instr
use Rattle.scw_gen.specs.declared.kind.Word.{Word}
use Rattle.scw_gen.specs.declared.mode.Mode.{Mode}
use Rattle.scw_gen.specs.declared.mode.Mode.TheVariants.{Value, Effect, Test, Return}
use Rattle.scw_gen.specs.Instr.{bytes_of, is_between, room_of, size_of}
use Rattle.scw_gen.specs.Pool.{integer_index, string_index}

-- ---- instructions

-- the index of the constant has 8 bits
abbrev pub Low : Table → List PoolEntry → Constant → Type 0
Low T P (constant.Int n) = integer_index P n ≤ 255
Low T P (constant.Text t) = (us : List ℕ) → text_at T t ≡ Some us → string_index P us ≤ 255

-- An instruction at a place has operands that fit, and jumps to a place that is `ok`.
abbrev pub Right : Table → List PoolEntry → (ℕ → Bool) → ℕ → Instr → Type 0
Right T P ok o (instr.Number n) = is_between (negsuc 32767) (pos 32767) n ≡ true
Right T P ok o (instr.Constant c) = Low T P c
Right T P ok o (instr.Load w n) = n ≤ 65535
Right T P ok o (instr.Store w n) = n ≤ 65535
Right T P ok o (instr.Branch k c way) = (ok (o + way) ≡ true) × (way ≤ 32767)
Right T P ok o (instr.Goto way) = (ok (o + way) ≡ true) × (way ≤ 32767)
Right T P ok o (instr.FarGoto way) = (ok (o + way) ≡ true) × (way ≤ 65535)
Right T P ok o (instr.Back way) = (ok (o - way) ≡ true) × (way ≤ o) × (way ≤ 32767)
Right T P ok o (instr.FarBack way) = (ok (o - way) ≡ true) × (way ≤ o) × (way ≤ 65535)
Right T P ok o _ = Unit {0}

-- all instructions, the first of which is at the place
abbrev pub Goes : Table → List PoolEntry → (ℕ → Bool) → ℕ → List Instr → Type 0
Goes T P ok o [] = Unit {0}
Goes T P ok o (i ∷ is) = Right T P ok o i × Goes T P ok (o + size_of i) is

-- each begins at a place that is `ok`
abbrev pub Starts : (ℕ → Bool) → ℕ → List Instr → Type 0
Starts ok o [] = Unit {0}
Starts ok o (i ∷ is) = (ok o ≡ true) × Starts ok (o + size_of i) is

pub bytes-append : (a b : List Instr) → bytes_of (a ++ b) ≡ bytes_of a + bytes_of b
unfolding bytes_of
bytes-append [] b = omega arith
bytes-append (i ∷ a) b = let h = bytes-append a b in omega (arith, h)

pub bytes-one : (i : Instr) → bytes_of (i ∷ []) ≡ size_of i
unfolding bytes_of
bytes-one i = omega arith

-- the room of short code isn't cut
pub room-is : (is : List Instr) → bytes_of is ≤ 65535 → room_of is ≡ bytes_of is
unfolding room_of
room-is is le = omega (arith, le)

pub room-le : (is : List Instr) → room_of is ≤ bytes_of is
unfolding room_of
room-le is = omega arith

-- what holds at a place holds at it by another sum
pub ok-at : (ok : ℕ → Bool) (m n : ℕ) → m ≡ n → ok m ≡ true → ok n ≡ true
ok-at ok m n e h = ap ok (sym e) ∙ h

module _ (T : Table) (P : List PoolEntry) (ok : ℕ → Bool) where
  pub goes-append : (o : ℕ) (a b : List Instr) → Goes T P ok o a → Goes T P ok (o + bytes_of a) b → Goes T P ok o (a ++ b)
  unfolding bytes_of
  goes-append o [] b h k = let e : o + 0 ≡ o = omega arith in subst (λ n. Goes T P ok n b) e k
  goes-append o (i ∷ a) b h k =
      let e : o + (size_of i + bytes_of a) ≡ o + size_of i + bytes_of a = omega arith in
      (h.0, goes-append (o + size_of i) a b h.1 (subst (λ n. Goes T P ok n b) e k))

pub starts-front : (ok : ℕ → Bool) (o : ℕ) (a b : List Instr) → Starts ok o (a ++ b) → Starts ok o a
starts-front ok o [] b h = tt
starts-front ok o (i ∷ a) b h = (h.0, starts-front ok (o + size_of i) a b h.1)

pub starts-back : (ok : ℕ → Bool) (o : ℕ) (a b : List Instr) → Starts ok o (a ++ b) → Starts ok (o + bytes_of a) b
unfolding bytes_of
starts-back ok o [] b h = let e : o ≡ o + 0 = omega arith in subst (λ n. Starts ok n b) e h
starts-back ok o (i ∷ a) b h = let e : o + size_of i + bytes_of a ≡ o + (size_of i + bytes_of a) = omega arith in subst (λ n. Starts ok n b) e (starts-back ok (o + size_of i) a b h.1)

-- ---- modes

-- how far behind its end code goes on
abbrev pub reach : Mode → ℕ
reach Value = 0
reach Effect = 0
reach (Test sense way) = way
reach (Return w) = 0

-- the places where code goes on that ends there
abbrev pub Exits : (ℕ → Bool) → Mode → ℕ → Type 0
Exits ok Value e = ok e ≡ true
Exits ok Effect e = ok e ≡ true
Exits ok (Test sense way) e = (ok e ≡ true) × (ok (e + way) ≡ true)
Exits ok (Return w) e = Unit {0}

-- code that doesn't go on behind it has an instruction
abbrev pub Begun : Mode → List Instr → Type 0
Begun Value is = Unit {0}
Begun Effect is = Unit {0}
Begun (Test sense way) is = Unit {0}
Begun (Return w) is = 0 < length is

-- how many bytes jumps can reach over
abbrev pub limit : Bool → ℕ
limit far = cond far 65535 32767

-- Code in a mode, with near or far jumps: wherever it stands, its instructions are right if the opcodes in it, and the places
-- where the mode lets it go on, may be jumped to.
pub record Lands (T : Table) (P : List PoolEntry) (far : Bool) (m : Mode) (is : List Instr) : Type 0 where
  pub goes : (ok : ℕ → Bool) (o e : ℕ) → e ≡ o + bytes_of is → bytes_of is + reach m ≤ limit far → Starts ok o is → Exits ok m e → Goes T P ok o is
  pub some : Begun m is

-- the place of code is `ok`
pub start-ok : (ok : ℕ → Bool) (m : Mode) (o e : ℕ) (is : List Instr) → e ≡ o + bytes_of is → Starts ok o is → Exits ok m e → Begun m is → ok o ≡ true
unfolding bytes_of
start-ok ok m o e (i ∷ is) at h x some = h.0
start-ok ok Value o e [] at h x some = ok-at ok e o (omega arith) x
start-ok ok Effect o e [] at h x some = ok-at ok e o (omega arith) x
start-ok ok (Test sense way) o e [] at h x some = ok-at ok e o (omega arith) x.0
start-ok ok (Return w) o e [] at h x some = absurd (omega arith)

-- what stands before code doesn't matter
pub begun-back : (m : Mode) (a b : List Instr) → Begun m b → Begun m (a ++ b)
begun-back Value a b h = tt
begun-back Effect a b h = tt
begun-back (Test sense way) a b h = tt
begun-back (Return w) a b h = omega (arith, length-append a b)

-- code behind a test that jumps so far into it, or behind it
pub record Tails (T : Table) (P : List PoolEntry) (far : Bool) (m : Mode) (way : ℕ) (is : List Instr) : Type 0 where
  pub lands : Lands T P far m is
  pub within : way ≤ bytes_of is + reach m
  pub to : (ok : ℕ → Bool) (o e : ℕ) → e ≡ o + bytes_of is → bytes_of is + reach m ≤ limit far → Starts ok o is → Exits ok m e → ok (o + way) ≡ true

pub limit-le : (far : Bool) → limit far ≤ 65535
limit-le true = omega arith
limit-le false = omega arith

module _ (T : Table) (P : List PoolEntry) (far : Bool) where
  pub lands-nil : Lands T P far Value []
  lands-nil = record { goes = λ ok o e at few h x. tt; some = tt }

  pub effect-value : (is : List Instr) → Lands T P far Effect is → Lands T P far Value is
  effect-value is l = record { goes = λ ok o e at few h x. l.goes ok o e at few h x; some = tt }

  pub value-effect : (is : List Instr) → Lands T P far Value is → Lands T P far Effect is
  value-effect is l = record { goes = λ ok o e at few h x. l.goes ok o e at few h x; some = tt }

  -- an instruction that doesn't jump
  pub lands-one : (i : Instr) → ((ok : ℕ → Bool) (o : ℕ) → Right T P ok o i) → Lands T P far Value (i ∷ [])
  lands-one i r = record { goes = λ ok o e at few h x. (r ok o, tt); some = tt }

  -- code, and behind it code
  pub lands-both : (m : Mode) (a b : List Instr) → Lands T P far Value a → Lands T P far m b → Lands T P far m (a ++ b)
  lands-both m a b la lb = record {
    goes = λ ok o e at few h x.
        let size = bytes-append a b in
        let mid = o + bytes_of a in
        let back = starts-back ok o a b h in
        let end : e ≡ mid + bytes_of b = omega (arith, size, at) in
        goes-append T P ok o a b
        (la.goes ok o mid refl (omega (arith, size, few)) (starts-front ok o a b h) (start-ok ok m mid e b end back x lb.some))
        (lb.goes ok mid e end (omega (arith, size, few)) back x);
    some = begun-back m a b lb.some;
  }

  -- a test, and behind it code into which it jumps
  pub lands-test : (sense : Bool) (way : ℕ) (m : Mode) (a b : List Instr) → Lands T P far (Test sense way) a → Tails T P far m way b → Lands T P far m (a ++ b)
  lands-test sense way m a b la tb = record {
    goes = λ ok o e at few h x.
        let size = bytes-append a b in
        let mid = o + bytes_of a in
        let back = starts-back ok o a b h in
        let end : e ≡ mid + bytes_of b = omega (arith, size, at) in
        let within = tb.within in
        let less : bytes_of b + reach m ≤ limit far = omega (arith, size, few) in
        goes-append T P ok o a b
        (la.goes ok o mid refl (omega (arith, size, few, within)) (starts-front ok o a b h) (start-ok ok m mid e b end back x tb.lands.some, tb.to ok mid e end less back x))
        (tb.lands.goes ok mid e end less back x);
    some = begun-back m a b tb.lands.some;
  }

  -- code that doesn't go on, and behind it code that is jumped to
  pub lands-apart : (w : Word) (a b : List Instr) → Lands T P far (Return w) a → Lands T P far (Return w) b → Lands T P far (Return w) (a ++ b)
  lands-apart w a b la lb = record {
    goes = λ ok o e at few h x.
        let size = bytes-append a b in
        let mid = o + bytes_of a in
        let back = starts-back ok o a b h in
        goes-append T P ok o a b (la.goes ok o mid refl (omega (arith, size, few)) (starts-front ok o a b h) tt) (lb.goes ok mid e (omega (arith, size, at)) (omega (arith, size, few)) back x);
    some = begun-back (Return w) a b lb.some;
  }
