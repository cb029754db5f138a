-- Jumps, comparisons and what a mode puts behind a value land.
use Rattle.std.proofs.Common.{◌≡◌, ℕ, ◌+◌, pos, Bool, true, false, cond, List, [], ◌∷◌, ◌++◌, Some, None, refl, arith}
use Rattle.scw_classfile.specs.declared.pool_entry.PoolEntry.{PoolEntry}
use Rattle.scw_core.specs.Program.{Table}
use Rattle.scw_core.specs.declared.operator.Width.{Width}
use Rattle.scw_core.specs.declared.operator.Width.TheVariants as width
use Rattle.scw_value.specs.declared.comparison.Comparison.{Comparison}
use Rattle.scw_value.specs.declared.comparison.Comparison.TheVariants.{NotEqual}
use Rattle.scw_gen.specs.declared.instr.BuiltIn.TheVariants as built
use Rattle.scw_gen.specs.declared.instr.Compared.{Compared}
use Rattle.scw_gen.specs.declared.instr.Compared.TheVariants.{Zero}
use Rattle.scw_gen.specs.declared.instr.Instr.{Instr}
use Rattle.scw_gen.specs.declared.instr.Instr.TheVariants as instr
use Rattle.scw_gen.specs.declared.kind.Kind.{Kind}
use Rattle.scw_gen.specs.declared.kind.Kind.TheVariants as kind
use Rattle.scw_gen.specs.declared.kind.Word.{Word}
use Rattle.scw_gen.specs.declared.mode.Mode.{Mode}
use Rattle.scw_gen.specs.declared.mode.Mode.TheVariants.{Value, Effect, Test, Return}
use Rattle.scw_gen.specs.Instr.{bytes_of, plus, size_of}
use Rattle.scw_gen.specs.Mode.{agree, bit, branch, compared_by, compared_value, comparison, difference, drop_instr, ended, given, jump, jump_size, negated, one, sensed, test, truth, unit}
use Rattle.scw_gen.proofs.Landing.{Lands, Tails, limit-le, ok-at, lands-nil, lands-one, lands-both, lands-test, value-effect}

module _ (T : Table) (P : List PoolEntry) where
  -- ---- jumps

  pub jump-lands : (far sense : Bool) (way : ℕ) → Lands T P far (Test sense way) (jump far way ∷ [])
  unfolding bytes_of
  jump-lands true sense way = record {
    goes = λ ok o e at few h x. ((ok-at ok (e + way) (o + plus 5 way) (omega (arith, at, few)) x.1, omega arith), tt);
    some = tt;
  }
  jump-lands false sense way = record {
    goes = λ ok o e at few h x. ((ok-at ok (e + way) (o + plus 3 way) (omega (arith, at, few)) x.1, omega (arith, few)), tt);
    some = tt;
  }

  pub branch-lands : (far : Bool) (c : Compared) (by : Comparison) (sense : Bool) (way : ℕ) → Lands T P far (Test sense way) (branch far c by way)
  unfolding bytes_of
  branch-lands true c by sense way = record {
    goes = λ ok o e at few h x.
        ((ok-at ok e (o + 8) (omega (arith, at)) x.0, omega arith), ((ok-at ok (e + way) (o + 3 + plus 5 way) (omega (arith, at, few)) x.1, omega arith), tt));
    some = tt;
  }
  branch-lands false c by sense way = record {
    goes = λ ok o e at few h x. ((ok-at ok (e + way) (o + plus 3 way) (omega (arith, at, few)) x.1, omega (arith, few)), tt);
    some = tt;
  }

  -- a jump takes the bytes that are counted for it
  pub size-jump : (far : Bool) (way : ℕ) → size_of (jump far way) ≡ jump_size far
  size-jump true way = refl
  size-jump false way = refl

  module _ (far : Bool) where
    -- ---- behind a value

    return-lands : (w : Word) → Lands T P far (Return w) (instr.Return w ∷ [])
    return-lands w = record { goes = λ ok o e at few h x. (tt, tt); some = omega arith }

    -- a value is dropped
    dropped : (k : Kind) → Lands T P far Value (drop_instr k ∷ [])
    dropped kind.Unit = lands-one T P far instr.Pop (λ ok o. tt)
    dropped kind.Boolean = lands-one T P far instr.Pop (λ ok o. tt)
    dropped kind.Int = lands-one T P far instr.Pop (λ ok o. tt)
    dropped kind.Long = lands-one T P far instr.PopTwo (λ ok o. tt)
    dropped kind.String = lands-one T P far instr.Pop (λ ok o. tt)
    dropped kind.Strings = lands-one T P far instr.Pop (λ ok o. tt)
    dropped kind.This = lands-one T P far instr.Pop (λ ok o. tt)

    pub ended-lands : (m : Mode) (k : Kind) → Lands T P far m (ended far m k)
    ended-lands Value k = lands-nil T P far
    ended-lands Effect k = value-effect T P far _ (dropped k)
    ended-lands (Test sense way) k = branch-lands far Zero (sensed sense NotEqual) sense way
    ended-lands (Return w) k = return-lands w

    -- a value, and what its mode puts behind it
    pub with_end : (m : Mode) (k : Kind) (is : List Instr) → Lands T P far Value is → Lands T P far m (is ++ ended far m k)
    with_end m k is l = lands-both T P far m is (ended far m k) l (ended-lands m k)

    pub given-lands : (m : Mode) (k : Kind) (is : List Instr) → Lands T P far Value is → Lands T P far m (given far m k is)
    given-lands Value k is l = with_end Value k is l
    given-lands Effect k is l = value-effect T P far [] (lands-nil T P far)
    given-lands (Test sense way) k is l = with_end (Test sense way) k is l
    given-lands (Return w) k is l = with_end (Return w) k is l

    pub unit-lands : (m : Mode) → Lands T P far m (unit far m)
    unit-lands m = given-lands m kind.Unit _ (lands-one T P far (instr.CallBuiltIn built.Unit) (λ ok o. tt))

    bit-lands : (b : Bool) → Lands T P far Value (instr.Number (pos (bit b)) ∷ [])
    bit-lands true = lands-one T P far (instr.Number (pos 1)) (λ ok o. refl)
    bit-lands false = lands-one T P far (instr.Number (pos 0)) (λ ok o. refl)

    -- code of a test that goes on behind it
    value-test : (sense : Bool) (way : ℕ) (is : List Instr) → Lands T P far Value is → Lands T P far (Test sense way) is
    value-test sense way is l = record { goes = λ ok o e at few h x. l.goes ok o e at (omega (arith, few)) h x.0; some = tt }

    pub truth-lands : (m : Mode) (b : Bool) → Lands T P far m (truth far m b)
    truth-lands Value b = given-lands Value kind.Boolean _ (bit-lands b)
    truth-lands Effect b = given-lands Effect kind.Boolean _ (bit-lands b)
    truth-lands (Test sense way) b = by (agree b sense)
      where
        by : (c : Bool) → Lands T P far (Test sense way) (one (cond c (Some (jump far way)) None))
        by true = jump-lands far sense way
        by false = value-test sense way [] (lands-nil T P far)
    truth-lands (Return w) b = given-lands (Return w) kind.Boolean _ (bit-lands b)

    -- ---- comparisons

    difference-lands : (w : Width) → Lands T P far Value (one (difference w))
    difference-lands width.Int = lands-nil T P far
    difference-lands width.Long = lands-one T P far instr.CompareLongs (λ ok o. tt)

    test-lands : (w : Width) (c : Comparison) (sense : Bool) (way : ℕ) → Lands T P far (Test sense way) (test far w c way)
    test-lands w c sense way = lands-both T P far (Test sense way) (one (difference w)) (branch far (compared_by w) c way) (difference-lands w) (branch-lands far (compared_by w) c sense way)

    -- the value of a comparison, behind its test
    abbrev bits : List Instr
    bits = instr.Number (pos 1) ∷ jump far 1 ∷ instr.Number (pos 0) ∷ []

    bits-size : bytes_of bits ≡ 2 + jump_size far
    unfolding bytes_of
    bits-size = omega (arith, size-jump far 1)

    bits-land : Lands T P far Value bits
    unfolding bytes_of
    bits-land = record {
      goes = λ ok o e at few h x.
          let s = size-jump far 1 in
          let z = bits-size in
          let behind = ok-at ok (o + 1 + size_of (jump far 1)) (o + 1 + jump_size far) (omega (arith, s)) h.1.1.0 in
          let out = ok-at ok e (o + 1 + jump_size far + 1) (omega (arith, z, at)) x in
          let j = (jump-lands far true 1).goes ok (o + 1) (o + 1 + jump_size far) (omega (arith, s)) (omega (arith, s, z, few)) (h.1.0, tt) (behind, out) in
          (refl, (j.0, (refl, tt)));
      some = tt;
    }

    bits-tail : Tails T P far Value (plus 1 (jump_size far)) bits
    bits-tail = record {
      lands = bits-land;
      within = (let z = bits-size in omega (arith, z));
      to = λ ok o e at few h x.
          let s = size-jump far 1 in
          let z = bits-size in
          let l = limit-le far in
          ok-at ok (o + 1 + size_of (jump far 1)) (o + plus 1 (jump_size far)) (omega (arith, s, z, few, l)) h.1.1.0;
    }

    compared-lands : (w : Width) (c : Comparison) → Lands T P far Value (compared_value far w c)
    compared-lands w c = lands-test T P far true (plus 1 (jump_size far)) Value (test far w (negated c) (plus 1 (jump_size far))) bits (test-lands w (negated c) true (plus 1 (jump_size far))) bits-tail

    pub comparison-lands : (m : Mode) (w : Width) (c : Comparison) → Lands T P far m (comparison far m w c)
    comparison-lands Value w c = given-lands Value kind.Boolean _ (compared-lands w c)
    comparison-lands Effect w c = given-lands Effect kind.Boolean _ (compared-lands w c)
    comparison-lands (Test sense way) w c = test-lands w (sensed sense c) sense way
    comparison-lands (Return r) w c = given-lands (Return r) kind.Boolean _ (compared-lands w c)
