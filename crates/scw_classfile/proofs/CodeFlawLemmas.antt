-- The first flaw of the instructions of a method, one by one.
use Rattle.std.proofs.Common.{◌≡◌, ℕ, ◌+◌, ◌-◌, ◌<◌, ◌≤◌, Bool, false, List, ◌∷◌, length, drop, get_or, Some, None, refl, sym, ap, ◌∙◌, length-append, arith}
use Rattle.std.proofs.Math.ListN.{drop_of_length-le}
use Rattle.std.proofs.lemmas.List.{drop_more, length-replicate}
use Rattle.scw_code.proofs.JumpLemmas.{size_has_bytes}
use Rattle.std.specs.Option.{option_map}
use Rattle.scw_code.specs.declared.instr.Instr.{Instr}
use Rattle.scw_code.specs.Code.{size_at}
use Rattle.scw_code.specs.Jump.{marks, starts, starts_from}
use Rattle.scw_classfile.specs.declared.fault.Flaw.{Flaw}
use Rattle.scw_classfile.specs.declared.pool_entry.EntryKind.{EntryKind}
use Rattle.scw_classfile.specs.Codec.{fault_in}
use Rattle.scw_classfile.specs.Code.{instr_flaw, instrs_flaw, code_flaw}

length-marks : (size : ℕ) → 0 < size → length (marks size) ≡ size
length-marks size some = omega (arith, length-replicate (size - 1) false)

-- the marks from the first instruction on
pub starts_all : (is : List Instr) → length (starts_from 0 is) ≡ length (starts is)
unfolding starts
starts_all is = refl

-- the flaw is the first from the first instruction on
pub flaw_all : (major : ℕ) (kinds : List EntryKind) (is : List Instr) (marked : List Bool) → code_flaw major kinds marked is ≡ instrs_flaw major kinds marked 0 is
unfolding code_flaw
flaw_all major kinds is marked = refl

module _ (is : List Instr) (k at : ℕ) (i : Instr) (lt : k < length is) (same : i ≡ get_or is k i) where
  next : drop k is ≡ i ∷ drop (k + 1) is
  next = drop_more is k i lt ∙ ap (λ (x : Instr). x ∷ drop (k + 1) is) (sym same)

  -- one instruction takes its bytes of the marks
  pub marks_more : length (starts_from at (drop k is)) ≡ size_at at i + length (starts_from (at + size_at at i) (drop (k + 1) is))
  marks_more = omega (arith, ap (λ (l : List Instr). length (starts_from at l)) next, length-append (marks (size_at at i)) (starts_from (at + size_at at i) (drop (k + 1) is)), length-marks (size_at at i) (size_has_bytes at i))

  module _ (major : ℕ) (kinds : List EntryKind) (marked : List Bool) where
    pub flaw_here : (left : ℕ) (flaw : Flaw) → instr_flaw major kinds marked at i ≡ Some flaw → option_map (fault_in left) (instrs_flaw major kinds marked at (drop k is)) ≡ Some (fault_in (left - at) flaw)
    unfolding instrs_flaw
    flaw_here left flaw h =
        let one : instrs_flaw major kinds marked at (drop k is) ≡ Some (record { rule = flaw.rule; after = at + flaw.after }) = ap (instrs_flaw major kinds marked at) next ∙ rw h refl in
        let place : left - (at + flaw.after) ≡ left - at - flaw.after = omega arith in
        rw one (ap (λ (n : ℕ). Some (record { rule = flaw.rule; left = n })) place)

    pub no_flaw_here : instr_flaw major kinds marked at i ≡ None → instrs_flaw major kinds marked at (drop k is) ≡ instrs_flaw major kinds marked (at + size_at at i) (drop (k + 1) is)
    unfolding instrs_flaw
    no_flaw_here h = ap (instrs_flaw major kinds marked at) next ∙ rw h refl

pub no_flaw_left : (major : ℕ) (kinds : List EntryKind) (marked : List Bool) (at k : ℕ) (is : List Instr) → length is ≤ k → instrs_flaw major kinds marked at (drop k is) ≡ None
unfolding instrs_flaw
no_flaw_left major kinds marked at k is le = ap (instrs_flaw major kinds marked at) (drop_of_length-le is le)
