-- Instructions with their opcodes take the bytes that are counted, fit, jump to opcodes and name what they must.
use Rattle.std.proofs.Common.{◌≡◌, ℕ, zero, suc, ◌+◌, ◌-◌, ◌<◌, ◌≤◌, ℤ, pos, negsuc, neg_ℤ, leb, ltb, Bool, true, false, ◌&&◌, cond, List, Some, refl, sym, ap, ◌∙◌, arith}
use Rattle.std.specs.Prelude.{slice_index_or, nat_le}
use Rattle.std.specs.List.{list_all}
use Rattle.std.proofs.Math.Dec.{leb-zero}
use Rattle.std.proofs.lemmas.Bool.{and_from, and_parts, cond-false, le-ltb, leb-true, lt-ltb}
use Rattle.scw_value.specs.declared.arithmetic.Arithmetic.TheVariants.{Add, Subtract, Multiply, And, Or, Xor}
use Rattle.scw_value.specs.declared.arithmetic.Arithmetic.{Arithmetic}
use Rattle.scw_value.specs.declared.comparison.Comparison.{Comparison}
use Rattle.scw_value.specs.declared.comparison.Comparison.TheVariants.{Equal, NotEqual, Less, GreaterOrEqual, Greater, LessOrEqual}
use Rattle.scw_value.specs.declared.division.Division.{Division}
use Rattle.scw_value.specs.declared.division.Division.TheVariants.{Divide, Remainder}
use Rattle.scw_core.specs.declared.operator.Width.{Width}
use Rattle.scw_core.specs.declared.operator.Width.TheVariants as width
use Rattle.scw_code.specs.declared.instr.Instr as any
use Rattle.scw_code.specs.declared.instr.InstrArgs.TheVariants as args
use Rattle.scw_code.specs.declared.instr.Numbers.TheVariants.{One}
use Rattle.scw_code.specs.declared.form.Form.{Form}
use Rattle.scw_code.specs.declared.form.Form.TheVariants as form
use Rattle.scw_code.specs.declared.layout.Layout.TheVariants.{U2}
use Rattle.scw_code.specs.declared.layout.Shape.TheVariants as shape
use Rattle.scw_code.specs.Codec.{s2, s4}
use Rattle.scw_code.specs.Layout.{shape_of}
use Rattle.scw_code.specs.Instr.{instr_bytes, instr_fits}
use Rattle.scw_code.specs.Code.{size_at}
use Rattle.scw_code.specs.Jump.{is_jump, jumps_of, starts_at, target_is}
use Rattle.scw_code.specs.Opcode.{form_of}
use Rattle.scw_classfile.specs.declared.pool_entry.EntryKind.{EntryKind}
use Rattle.scw_classfile.specs.Codec.{is_none}
use Rattle.scw_classfile.specs.declared.index.Expected.{Expected}
use Rattle.scw_classfile.specs.declared.index.Expected.TheVariants as expected
use Rattle.scw_classfile.specs.Kinds.{index_flaw}
use Rattle.scw_classfile.specs.Code.{index_by, index_in, operand_flaw}
use Rattle.scw_gen.specs.declared.instr.Compared.{Compared}
use Rattle.scw_gen.specs.declared.instr.Compared.TheVariants as compared
use Rattle.scw_gen.specs.declared.kind.Word.{Word}
use Rattle.scw_gen.specs.declared.kind.Word.TheVariants as word
use Rattle.scw_gen.specs.declared.opcode.TheConstants.{ALOAD, ALOAD_0, ASTORE, ASTORE_0, BIPUSH, ICONST_0, ILOAD, ILOAD_0, ISTORE, ISTORE_0, LLOAD, LLOAD_0, LSTORE, LSTORE_0, SIPUSH, WIDE}
use Rattle.scw_gen.specs.Instr.{is_between, number_size, slot_size}
use Rattle.scw_gen.specs.Encode.{arithmetic, bare, branching, division, jump, load, number, plain, pushed, returning, slot, store, with_index}

-- an instruction of so many bytes at a place, from which ways lead to opcodes that pass the test
pub record Fine (kinds : List EntryKind) (leads : ℤ → Bool) (at : ℕ) (i : any.Instr) (n : ℕ) : Type 0 where
  pub size : size_at at i ≡ n
  pub fits : instr_fits i ≡ true
  pub targets : list_all leads (jumps_of i) ≡ true
  pub named : is_none (operand_flaw 52 kinds i.args (index_by (form_of i.op))) ≡ true

module _ (kinds : List EntryKind) (leads : ℤ → Bool) (at : ℕ) where
  abbrev FineHere : any.Instr → ℕ → Type 0
  FineHere i n = Fine kinds leads at i n

  -- ---- opcodes by their forms

  -- without operands
  pub bare_fine : (op : ℕ) → form_of op ≡ Some form.Bare → op < 256 → FineHere (bare op) 1
  unfolding instr_bytes instr_fits
  bare_fine op e b = record { size = rw e refl; fits = rw (e, lt-ltb op 256 b) refl; targets = rw e refl; named = rw e refl }

  -- with a jump of 16 bits
  pub jump_fine : (op : ℕ) (way : ℤ) → form_of op ≡ Some form.Jump → op < 256 → s2.fits way ≡ true → leads way ≡ true → FineHere (jump op way) 3
  unfolding instr_bytes instr_fits
  jump_fine op way e b f t = record { size = rw e refl; fits = rw (e, lt-ltb op 256 b, f) refl; targets = rw e (and_from (leads way) true t refl); named = rw e refl }

  -- with a jump of 32 bits
  pub far_fine : (op : ℕ) (way : ℤ) → form_of op ≡ Some form.FarJump → op < 256 → s4.fits way ≡ true → leads way ≡ true → FineHere (jump op way) 5
  unfolding instr_bytes instr_fits
  far_fine op way e b f t = record { size = rw e refl; fits = rw (e, lt-ltb op 256 b, f) refl; targets = rw e (and_from (leads way) true t refl); named = rw e refl }

  -- with an index of 16 bits
  pub index_fine : (op index : ℕ) (f : Form) (wanted : Expected) → form_of op ≡ Some f → op < 256 → shape_of f ≡ shape.Plain U2 → is_jump f ≡ false → index_in f ≡ Some wanted
      → index < 65536 → is_none (index_flaw 52 kinds wanted index 1) ≡ true → FineHere (with_index op index) 3
  unfolding instr_bytes instr_fits
  index_fine op index f wanted e b s j i few right = record {
    size = rw (e, s) refl;
    fits = rw (e, s, lt-ltb op 256 b) (lt-ltb index 65536 few);
    targets = rw (e, j) refl;
    named = rw (e, i) right;
  }

  -- with an index of 8 bits
  pub low_fine : (op index : ℕ) → form_of op ≡ Some form.Constant → op < 256 → index < 256 → is_none (index_flaw 52 kinds expected.Constant index 1) ≡ true → FineHere (with_index op index) 2
  unfolding instr_bytes instr_fits
  low_fine op index e b few right = record { size = rw e refl; fits = rw (e, lt-ltb op 256 b) (lt-ltb index 256 few); targets = rw e refl; named = rw e right }

  -- with a local variable, and behind `wide`
  near_fine : (op n : ℕ) → form_of op ≡ Some form.Slot → op < 256 → n ≤ 255 → FineHere (with_index op n) 2
  unfolding instr_bytes instr_fits
  near_fine op n e b few = record { size = rw e refl; fits = rw (e, lt-ltb op 256 b) (lt-ltb n 256 (omega arith)); targets = rw e refl; named = rw e refl }

  wide_form : form_of WIDE ≡ Some form.Wide
  unfolding form_of
  wide_form = refl

  wide_fine : (op n : ℕ) → form_of op ≡ Some form.Slot → op < 256 → n ≤ 65535 → FineHere (record { op = WIDE; args = args.Wide op (One (pos n)) }) 4
  unfolding instr_bytes instr_fits
  wide_fine op n e b few =
      let w = wide_form in
      record { size = rw (w, e) refl; fits = rw (w, e, lt-ltb op 256 b) (lt-ltb n 65536 (omega arith)); targets = refl; named = rw w refl }

  -- ---- numbers

  byte_fine : (z : ℤ) → is_between (negsuc 127) (pos 127) z ≡ true → FineHere (plain BIPUSH (One z)) 2
  unfolding instr_bytes instr_fits form_of
  byte_fine (pos k) h = (let le = leb-true k 127 h in record { size = refl; fits = lt-ltb k 128 (omega (arith, le)); targets = refl; named = refl })
  byte_fine (negsuc k) h =
      let le = leb-true k 127 (and_parts (leb k 127) true h).0 in record { size = refl; fits = lt-ltb k 128 (omega (arith, le)); targets = refl; named = refl }

  short_fine : (z : ℤ) → is_between (negsuc 32767) (pos 32767) z ≡ true → FineHere (plain SIPUSH (One z)) 3
  unfolding instr_bytes instr_fits form_of
  short_fine (pos k) h = (let le = leb-true k 32767 h in record { size = refl; fits = lt-ltb k 32768 (omega (arith, le)); targets = refl; named = refl })
  short_fine (negsuc k) h =
      let le = leb-true k 32767 (and_parts (leb k 32767) true h).0 in record { size = refl; fits = lt-ltb k 32768 (omega (arith, le)); targets = refl; named = refl }

  pushed_fine : (z : ℤ) → is_between (negsuc 32767) (pos 32767) z ≡ true → FineHere (pushed z) (cond (is_between (negsuc 127) (pos 127) z) 2 3)
  pushed_fine z h = by (is_between (negsuc 127) (pos 127) z) (λ b. byte_fine z b)
    where
      by : (b : Bool) → (b ≡ true → FineHere (plain BIPUSH (One z)) 2) → FineHere (plain (cond b BIPUSH SIPUSH) (One z)) (cond b 2 3)
      by true f = f refl
      by false f = short_fine z h

  small_fine : (k : ℕ) → k ≤ 5 → FineHere (bare (ICONST_0 + k)) 1
  unfolding form_of
  small_fine zero h = bare_fine 3 refl (omega arith)
  small_fine (suc zero) h = bare_fine 4 refl (omega arith)
  small_fine (suc (suc zero)) h = bare_fine 5 refl (omega arith)
  small_fine (suc (suc (suc zero))) h = bare_fine 6 refl (omega arith)
  small_fine (suc (suc (suc (suc zero)))) h = bare_fine 7 refl (omega arith)
  small_fine (suc (suc (suc (suc (suc zero))))) h = bare_fine 8 refl (omega arith)
  small_fine (suc (suc (suc (suc (suc (suc k)))))) h = absurd (omega arith)

  minus_fine : FineHere (bare (ICONST_0 - 1)) 1
  unfolding form_of
  minus_fine = bare_fine 2 refl (omega arith)

  pub number_fine : (z : ℤ) → is_between (negsuc 32767) (pos 32767) z ≡ true → FineHere (number z) (number_size z)
  number_fine (pos k) h = by (leb 0 k) (leb k 5) (leb-zero k) (λ b. small_fine k (leb-true k 5 b)) (pushed_fine (pos k) h)
    where
      by : (a b : Bool) → a ≡ true → (b ≡ true → FineHere (bare (ICONST_0 + k)) 1) → FineHere (pushed (pos k)) (cond (is_between (negsuc 127) (pos 127) (pos k)) 2 3)
          → FineHere (cond (a && b) (bare (ICONST_0 + k)) (pushed (pos k))) (cond b 1 (cond (is_between (negsuc 127) (pos 127) (pos k)) 2 3))
      by true true e f g = f refl
      by true false e f g = g
      by false b e f g = absurd (cc)
  number_fine (negsuc k) h = by (leb 0 k) (leb k 0) (leb-zero k) (pushed_fine (negsuc k) h)
    where
      by : (a b : Bool) → a ≡ true → FineHere (pushed (negsuc k)) (cond (is_between (negsuc 127) (pos 127) (negsuc k)) 2 3)
          → FineHere (cond (b && a) (bare (ICONST_0 - 1)) (pushed (negsuc k))) (cond (b && true) 1 (cond (is_between (negsuc 127) (pos 127) (negsuc k)) 2 3))
      by true true e g = minus_fine
      by true false e g = g
      by false b e g = absurd (cc)

  -- ---- local variables

  -- by its three forms
  slot_by : (op first n : ℕ) → (n ≤ 3 → FineHere (bare (first + n)) 1) → (n ≤ 255 → FineHere (with_index op n) 2) → FineHere (record { op = WIDE; args = args.Wide op (One (pos n)) }) 4 → FineHere (slot op first n) (slot_size n)
  slot_by op first n a b c = by (nat_le n 3) (nat_le n 255) (λ h. a (leb-true n 3 h)) (λ h. b (leb-true n 255 h))
    where
      by : (x y : Bool) → (x ≡ true → FineHere (bare (first + n)) 1) → (y ≡ true → FineHere (with_index op n) 2)
          → FineHere (cond x (bare (first + n)) (cond y (with_index op n) (record { op = WIDE; args = args.Wide op (One (pos n)) }))) (cond x 1 (cond y 2 4))
      by true y f g = f refl
      by false true f g = g refl
      by false false f g = c

  -- the form `<n>`
  bare_slot : (first n : ℕ) → first + 3 < 256 → form_of first ≡ Some form.Bare → form_of (first + 1) ≡ Some form.Bare → form_of (first + 2) ≡ Some form.Bare → form_of (first + 3) ≡ Some form.Bare → n ≤ 3 → FineHere (bare (first + n)) 1
  bare_slot first zero few a b c d h = let e : first ≡ first + 0 = omega arith in bare_fine (first + 0) (ap form_of (sym e) ∙ a) (omega arith)
  bare_slot first (suc zero) few a b c d h = bare_fine (first + 1) b (omega arith)
  bare_slot first (suc (suc zero)) few a b c d h = bare_fine (first + 2) c (omega arith)
  bare_slot first (suc (suc (suc zero))) few a b c d h = bare_fine (first + 3) d (omega arith)
  bare_slot first (suc (suc (suc (suc n)))) few a b c d h = absurd (omega arith)

  slot_fine : (op first n : ℕ) → form_of op ≡ Some form.Slot → op < 256 → first + 3 < 256 → form_of first ≡ Some form.Bare → form_of (first + 1) ≡ Some form.Bare → form_of (first + 2) ≡ Some form.Bare → form_of (first + 3) ≡ Some form.Bare
      → n ≤ 65535 → FineHere (slot op first n) (slot_size n)
  slot_fine op first n e few small a b c d h = slot_by op first n (bare_slot first n small a b c d) (near_fine op n e few) (wide_fine op n e few h)

  pub load_fine : (w : Word) (n : ℕ) → n ≤ 65535 → FineHere (load w n) (slot_size n)
  unfolding form_of
  load_fine word.Int n h = slot_fine ILOAD ILOAD_0 n refl (omega arith) (omega arith) refl refl refl refl h
  load_fine word.Long n h = slot_fine LLOAD LLOAD_0 n refl (omega arith) (omega arith) refl refl refl refl h
  load_fine word.Reference n h = slot_fine ALOAD ALOAD_0 n refl (omega arith) (omega arith) refl refl refl refl h

  pub store_fine : (w : Word) (n : ℕ) → n ≤ 65535 → FineHere (store w n) (slot_size n)
  unfolding form_of
  store_fine word.Int n h = slot_fine ISTORE ISTORE_0 n refl (omega arith) (omega arith) refl refl refl refl h
  store_fine word.Long n h = slot_fine LSTORE LSTORE_0 n refl (omega arith) (omega arith) refl refl refl refl h
  store_fine word.Reference n h = slot_fine ASTORE ASTORE_0 n refl (omega arith) (omega arith) refl refl refl refl h

  -- ---- operators, jumps and results

  pub arithmetic_fine : (w : Width) (o : Arithmetic) → FineHere (bare (arithmetic w o)) 1
  unfolding form_of
  arithmetic_fine width.Int Add = bare_fine 96 refl (omega arith)
  arithmetic_fine width.Int Subtract = bare_fine 100 refl (omega arith)
  arithmetic_fine width.Int Multiply = bare_fine 104 refl (omega arith)
  arithmetic_fine width.Int And = bare_fine 126 refl (omega arith)
  arithmetic_fine width.Int Or = bare_fine 128 refl (omega arith)
  arithmetic_fine width.Int Xor = bare_fine 130 refl (omega arith)
  arithmetic_fine width.Long Add = bare_fine 97 refl (omega arith)
  arithmetic_fine width.Long Subtract = bare_fine 101 refl (omega arith)
  arithmetic_fine width.Long Multiply = bare_fine 105 refl (omega arith)
  arithmetic_fine width.Long And = bare_fine 127 refl (omega arith)
  arithmetic_fine width.Long Or = bare_fine 129 refl (omega arith)
  arithmetic_fine width.Long Xor = bare_fine 131 refl (omega arith)

  pub division_fine : (w : Width) (o : Division) → FineHere (bare (division w o)) 1
  unfolding form_of
  division_fine width.Int Divide = bare_fine 108 refl (omega arith)
  division_fine width.Int Remainder = bare_fine 112 refl (omega arith)
  division_fine width.Long Divide = bare_fine 109 refl (omega arith)
  division_fine width.Long Remainder = bare_fine 113 refl (omega arith)

  pub returning_fine : (w : Word) → FineHere (bare (returning w)) 1
  unfolding form_of
  returning_fine word.Int = bare_fine 172 refl (omega arith)
  returning_fine word.Long = bare_fine 173 refl (omega arith)
  returning_fine word.Reference = bare_fine 176 refl (omega arith)

  pub branch_fine : (k : Compared) (c : Comparison) (way : ℤ) → s2.fits way ≡ true → leads way ≡ true → FineHere (jump (branching k c) way) 3
  unfolding form_of
  branch_fine compared.Zero Equal way f t = jump_fine 153 way refl (omega arith) f t
  branch_fine compared.Zero NotEqual way f t = jump_fine 154 way refl (omega arith) f t
  branch_fine compared.Zero Less way f t = jump_fine 155 way refl (omega arith) f t
  branch_fine compared.Zero GreaterOrEqual way f t = jump_fine 156 way refl (omega arith) f t
  branch_fine compared.Zero Greater way f t = jump_fine 157 way refl (omega arith) f t
  branch_fine compared.Zero LessOrEqual way f t = jump_fine 158 way refl (omega arith) f t
  branch_fine compared.Two Equal way f t = jump_fine 159 way refl (omega arith) f t
  branch_fine compared.Two NotEqual way f t = jump_fine 160 way refl (omega arith) f t
  branch_fine compared.Two Less way f t = jump_fine 161 way refl (omega arith) f t
  branch_fine compared.Two GreaterOrEqual way f t = jump_fine 162 way refl (omega arith) f t
  branch_fine compared.Two Greater way f t = jump_fine 163 way refl (omega arith) f t
  branch_fine compared.Two LessOrEqual way f t = jump_fine 164 way refl (omega arith) f t

-- where a jump leads, forward and back
pub target-forward : (marks : List Bool) (at way : ℕ) → slice_index_or marks (at + way) false ≡ true → target_is marks at (pos way) ≡ true
target-forward marks at way h = h

pub target-back : (marks : List Bool) (at way : ℕ) → way ≤ at → slice_index_or marks (at - way) false ≡ true → target_is marks at (neg_ℤ (pos way)) ≡ true
target-back marks at zero le h = let e : at - 0 ≡ at + 0 = omega arith in sym (ap (λ n. slice_index_or marks n false) e) ∙ h
target-back marks at (suc way) le h =
    ap (starts_at marks) (cond-false (ltb at (suc way)) (negsuc (suc way - suc at)) (pos (at - suc way)) (le-ltb at (suc way) le)) ∙ h

-- a way of 15 bits, forward and back, and one of 31 bits
pub near-forward : (way : ℕ) → way ≤ 32767 → s2.fits (pos way) ≡ true
near-forward way le = lt-ltb way 32768 (omega arith)

pub near-back : (way : ℕ) → way ≤ 32767 → s2.fits (neg_ℤ (pos way)) ≡ true
near-back zero le = refl
near-back (suc way) le = lt-ltb way 32768 (omega arith)

pub far-forward : (way : ℕ) → way ≤ 65535 → s4.fits (pos way) ≡ true
far-forward way le = lt-ltb way 2147483648 (omega arith)

pub far-back : (way : ℕ) → way ≤ 65535 → s4.fits (neg_ℤ (pos way)) ≡ true
far-back zero le = refl
far-back (suc way) le = lt-ltb way 2147483648 (omega arith)
