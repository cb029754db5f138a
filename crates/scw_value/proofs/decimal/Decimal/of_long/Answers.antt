use Rattle.std.proofs.Common.{rules, ◌≡◌, List, ℕ, drop, slice_set, IsAscii, ◌-◌, ◌++◌, FitsSigned, arith, sym, ap, ◌∙◌, subst, replicate, append-nil}
use Rattle.std.specs.Int.{w64}
use Rattle.std.specs.Fmt.{decimal}
use Rattle.std.proofs.lemmas.Int.{to_z-of_z}
use Rattle.std.proofs.lemmas.Fmt.{length-decimal-le}
use Rattle.scw_value.specs.Text.{number_text}
use Rattle.scw_value.proofs.TextLemmas.{minus_text, plain_text, number_text-IsAscii}
use Rattle.scw_value.proofs.decimal.Decimal.of_long.Goals as goal

-- the digits stand at the end of the bytes
digits_in : (n start : ℕ) (new : List ℕ) → drop start new ≡ decimal n ++ drop 20 (replicate 20 0) → drop start new ≡ decimal n
digits_in n start new written = written ∙ append-nil (decimal n)

negative : (c : goal.Then-n-lt0) → drop (c.write_digits-start.result - 1) (slice_set c.write_digits-start.new.buf (c.write_digits-start.result - 1) 45) ≡ number_text c.cast_signed-n.result
negative c =
    let f : FitsSigned w64 c.cast_signed-n.result = search rules in
    let long = length-decimal-le 19 c.unsigned_abs.result (omega arith) (omega arith) (omega arith) in
    minus_text c.cast_signed-n.result c.unsigned_abs.result c.write_digits-start.result c.write_digits-start.new.buf
    (simp to_z-of_z at c.if-n-lt0.true) (simp to_z-of_z at c.unsigned_abs.ensures.value) (omega arith) (omega arith)
    (digits_in c.unsigned_abs.result c.write_digits-start.result c.write_digits-start.new.buf c.write_digits-start.ensures.written)

pub write_digits-start-requires : goal.write_digits-start-requires
write_digits-start-requires c = (length-decimal-le 20 c.unsigned_abs.result (omega arith) (omega arith) (omega arith), omega arith)

pub overflow_sub-bytes : goal.overflow_sub-bytes
overflow_sub-bytes c = omega (arith, length-decimal-le 19 c.unsigned_abs.result (omega arith) (omega arith) (omega arith))

pub overflow_sub-result : goal.overflow_sub-result
overflow_sub-result c = omega (arith, length-decimal-le 19 c.unsigned_abs.result (omega arith) (omega arith) (omega arith))

pub invariant_of-result : goal.invariant_of-result
invariant_of-result c = (omega arith, subst IsAscii (sym (negative c)) (number_text-IsAscii c.cast_signed-n.result c.cast_signed-n.type_inv))

pub invariant_of-result-2 : goal.invariant_of-result-2
invariant_of-result-2 c =
    let f : FitsSigned w64 c.cast_signed-n.result = search rules in (
      omega arith,
      subst IsAscii (sym (plain_text c.cast_signed-n.result c.unsigned_abs.result c.write_digits-start.result c.write_digits-start.new.buf
          (simp to_z-of_z at c.if-n-lt0.false) (simp to_z-of_z at c.unsigned_abs.ensures.value)
          (digits_in c.unsigned_abs.result c.write_digits-start.result c.write_digits-start.new.buf c.write_digits-start.ensures.written))) (number_text-IsAscii c.cast_signed-n.result c.cast_signed-n.type_inv),
    )

pub returns-then-n-lt0 : goal.returns-then-n-lt0
returns-then-n-lt0 c = negative c ∙ ap number_text c.cast_signed-n.ensures
