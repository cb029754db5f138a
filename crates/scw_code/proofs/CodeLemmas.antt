-- Code is decoded to the instructions that it was made of, and what is decoded without a fault has the
-- bytes that it was decoded from.
use Rattle.std.proofs.Common.{◌≡◌, ℕ, zero, suc, ◌+◌, ◌-◌, ◌<◌, ◌≤◌, Option, Some, None, List, [], ◌∷◌, ◌++◌, length, Result, Ok, Err, refl, sym, ap, ◌∙◌, arith, IsTrue, Fits, w8, get_or}
use Rattle.std.proofs.lemmas.Bool.{and_parts, and_from}
use Rattle.std.proofs.lemmas.List.{length-append}
use Rattle.scw_text.proofs.ByteLemmas.{AreBytes, AreBytes-right}
use Rattle.scw_code.specs.declared.decoding.Decoded.{Decoded}
use Rattle.scw_code.specs.declared.fault.CodeFault.{CodeFault}
use Rattle.scw_code.specs.declared.instr.Instr.{Instr}
use Rattle.scw_code.specs.Instr.{instr_bytes, instr_fits, read_instr}
use Rattle.scw_code.specs.Code.{size_at, code_bytes_from, code_bytes, code_fits, IsCode, with_front, after_instr, decoded_from, decoded}
use Rattle.scw_code.proofs.InstrLemmas.{instr_again, instr_back, instr_bytes_are, instr_has_bytes}

abbrev all_of : List Instr → Decoded
all_of is = record { instrs = is; fault = None }

-- one step of the reading, where a byte is left
step : (n end op : ℕ) (bytes more : List ℕ) → bytes ≡ op ∷ more → decoded_from (suc n) end bytes ≡ after_instr (decoded_from n end) (read_instr end bytes)
unfolding decoded_from
step n end op bytes more e = rw e refl

decoded_again : (is : List Instr) (n end at : ℕ) → IsTrue (code_fits is) → length (code_bytes_from at is) ≤ n → at + length (code_bytes_from at is) ≡ end → decoded_from n end (code_bytes_from at is) ≡ all_of is
unfolding decoded_from
decoded_again [] zero end at h le e = refl
decoded_again [] (suc n) end at h le e = refl
decoded_again (i ∷ is) zero end at h le e = absurd (let k = instr_has_bytes at i in omega (arith, length-append (instr_bytes at i) (code_bytes_from (at + size_at at i) is)))
decoded_again (i ∷ is) (suc n) end at h le e =
    let p = and_parts (instr_fits i) (code_fits is) h in
    let more = code_bytes_from (at + size_at at i) is in
    let b = instr_bytes_are at i in
    let len = length-append (instr_bytes at i) more in
    let k = instr_has_bytes at i in
    let again = instr_again end at i more p.0 e in
    let go = decoded_again is n end (at + size_at at i) p.1 (omega arith) (omega arith) in
    step n end i.op (instr_bytes at i ++ more) (b.0 ++ more) (ap (λ (l : List ℕ). l ++ more) b.1)
    ∙ rw (again, go) refl

-- the instructions of a code are decoded from its bytes
pub decoded-code_bytes : (is : List Instr) → IsTrue (code_fits is) → decoded (code_bytes is) ≡ record { instrs = is; fault = None }
unfolding decoded
decoded-code_bytes is h = decoded_again is (length (code_bytes is)) (length (code_bytes is)) 0 h (omega arith) (omega arith)

-- what is decoded fits, and has the bytes that it was decoded from where no fault is left
record IsFrom (bytes : List ℕ) (at : ℕ) (d : Decoded) : Type 0 where
  fits : IsTrue (code_fits d.instrs)
  are : d.fault ≡ None → bytes ≡ code_bytes_from at d.instrs

from_instr : (bytes more : List ℕ) (at end : ℕ) (i : Instr) (d : Decoded) → at + length bytes ≡ end → (bytes ≡ instr_bytes at i ++ more) × IsTrue (instr_fits i) → IsFrom more (end - length more) d → IsFrom bytes at (with_front (i ∷ []) d)
from_instr bytes more at end i d place p from =
    let len = length-append (instr_bytes at i) more in
    let next : end - length more ≡ at + size_at at i = omega (arith, ap length p.0) in
    record {
      fits = and_from (instr_fits i) (code_fits d.instrs) p.1 from.fits;
      are = λ e. p.0 ∙ ap (λ (l : List ℕ). instr_bytes at i ++ l) (from.are e ∙ ap (λ (k : ℕ). code_bytes_from k d.instrs) next);
    }

from_step : (end : ℕ) (bytes : List ℕ) (go : List ℕ → Decoded) (r : Result (Instr × List ℕ) CodeFault) → r ≡ read_instr end bytes → AreBytes bytes → length bytes ≤ end
    → ((more : List ℕ) → AreBytes more → length more < length bytes → IsFrom more (end - length more) (go more)) → IsFrom bytes (end - length bytes) (after_instr go r)
from_step end bytes go (Err fault) e are le each = record { fits = refl; are = λ none. absurd (let k : ⊥ = cc in k) }
from_step end bytes go (Ok x) e are le each =
    let at = end - length bytes in
    let p = instr_back end bytes x.0 x.1 are (sym e) in
    let more = AreBytes-right (instr_bytes at x.0) x.1 (rw p.0 at are) in
    let shorter : length x.1 < length bytes = (let k = instr_has_bytes at x.0 in omega (arith, ap length p.0, length-append (instr_bytes at x.0) x.1)) in
    from_instr bytes x.1 at end x.0 (go x.1) (omega arith) p (each x.1 more shorter)

decoded_is_from : (n end : ℕ) (bytes : List ℕ) → AreBytes bytes → length bytes ≤ n → length bytes ≤ end → IsFrom bytes (end - length bytes) (decoded_from n end bytes)
unfolding decoded_from
decoded_is_from zero end [] are le within = record { fits = refl; are = λ e. refl }
decoded_is_from zero end (b ∷ bs) are le within = absurd (omega arith)
decoded_is_from (suc n) end [] are le within = record { fits = refl; are = λ e. refl }
decoded_is_from (suc n) end (b ∷ bs) are le within =
    from_step end (b ∷ bs) (decoded_from n end) (read_instr end (b ∷ bs)) refl are within (λ more bytes shorter. decoded_is_from n end more bytes (omega arith) (omega arith))

-- what is decoded without a fault fits and has the bytes that it was decoded from
pub code_bytes-decoded : (bytes : List ℕ) → AreBytes bytes → (decoded bytes).fault ≡ None → (bytes ≡ code_bytes (decoded bytes).instrs) × IsTrue (code_fits (decoded bytes).instrs)
unfolding decoded
code_bytes-decoded bytes are none =
    let n = length bytes in
    let from = decoded_is_from n n bytes are (omega arith) (omega arith) in
    let start : n - n ≡ 0 = omega arith in
    (from.are none ∙ ap (λ (k : ℕ). code_bytes_from k (decoded_from n n bytes).instrs) start, from.fits)

-- what is decoded fits, also before a fault
pub instrs_fit : (bytes : List ℕ) → AreBytes bytes → IsTrue (code_fits (decoded bytes).instrs)
unfolding decoded
instrs_fit bytes are = (decoded_is_from (length bytes) (length bytes) bytes are (omega arith) (omega arith)).fits

-- what the type of a slice of bytes says of it, as an answer finds it under `type_inv`
pub AreBytes-from_fits : (bytes : List ℕ) → ((i : ℕ) → Fits w8 (get_or bytes i 0)) → AreBytes bytes
AreBytes-from_fits bytes h = record { each = λ i. (h i).fits }

-- bytes that decode without a fault are the code of what they decode to
pub is_code_from : (bytes : List ℕ) (d : Decoded) → AreBytes bytes → d ≡ decoded bytes → d.fault ≡ None → IsCode d.instrs bytes
is_code_from bytes d are e none =
    let p = code_bytes-decoded bytes are (ap (λ (k : Decoded). k.fault) (sym e) ∙ none) in
    rw e (p.1, p.0)

-- the code of instructions decodes to them
pub all_from : (bytes : List ℕ) (d : Decoded) (is : List Instr) → d ≡ decoded bytes → IsCode is bytes → d ≡ record { instrs = is; fault = None }
all_from bytes d is e code = e ∙ ap decoded code.1 ∙ decoded-code_bytes is code.0

pub no_fault : (bytes : List ℕ) (d : Decoded) (is : List Instr) (fault : CodeFault) → d ≡ decoded bytes → d.fault ≡ Some fault → IsCode is bytes → ⊥
no_fault bytes d is fault e some code =
    let none : ◌≡◌ {A = Option CodeFault} None (Some fault) = ap (λ (k : Decoded). k.fault) (sym (all_from bytes d is e code)) ∙ some in
    cc
