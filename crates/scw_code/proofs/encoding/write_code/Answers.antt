use Rattle.std.proofs.Common.{◌≡◌, ◌++◌, List, ℕ, length, take, ap, sym, ◌∙◌, append_assoc, arith}
use Rattle.std.proofs.lemmas.List.{length-append}
use Rattle.scw_code.specs.Code.{code_bytes}
use Rattle.scw_code.specs.Instr.{instr_bytes}
use Rattle.scw_code.proofs.EncodeLemmas.{code_bytes_more}
use Rattle.scw_code.proofs.encoding.write_code.Goals as goal

pub loop-instr-preserved : goal.loop-instr-preserved
loop-instr-preserved c =
    let is = c.args.instrs.now in
    let out = c.args.out.now.items in
    let l = c.loop-instr in
    let front = code_bytes (take l.instr-index is) in
    let at = c.saturating_sub.result in
    let place : at ≡ length front = omega (arith, l.out.ok.0, ap length l.invariant.bytes, length-append out front) in
    let more = code_bytes_more is l.instr-index c.instr-item.result at c.loop-instr-test.true c.instr-item.is place in
    record {
      bytes = c.in_ok-write_instr.ensures ∙ ap (λ (b : List ℕ). b ++ instr_bytes at c.instr-item.result) l.invariant.bytes ∙ append_assoc out front (instr_bytes at c.instr-item.result) ∙ ap (λ (b : List ℕ). out ++ b) (sym more);
      begin = l.invariant.begin;
    }
