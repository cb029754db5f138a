-- Decoding instructions one after another, as the loop of `decode` does.
use Rattle.std.proofs.Common.{◌≡◌, ℕ, zero, suc, ◌+◌, ◌-◌, ◌<◌, ◌≤◌, true, false, eqb, Option, Some, None, List, [], ◌∷◌, ◌++◌, length, Ok, Err, refl, sym, ap, ◌∙◌, append_assoc, arith}
use Rattle.std.proofs.lemmas.Bool.{eqb-true, true≢false}
use Rattle.std.proofs.lemmas.List.{append-nil}
use Rattle.scw_code.specs.declared.decoding.Decoded.{Decoded}
use Rattle.scw_code.specs.declared.fault.CodeFault.{CodeFault}
use Rattle.scw_code.specs.declared.instr.Instr.{Instr}
use Rattle.scw_code.specs.Instr.{read_instr}
use Rattle.scw_code.specs.Code.{with_front, after_instr, nothing_left, decoded_from, decoded}

-- what is read behind one instruction more
regroup : (front : List Instr) (i : Instr) (d : Decoded) → with_front front (with_front (i ∷ []) d) ≡ with_front (front ++ i ∷ []) d
regroup front i d = ap (λ (is : List Instr). record { instrs = is; fault = d.fault }) (sym (append_assoc front (i ∷ []) d.instrs))

-- nothing is read behind the instructions
alone : (front : List Instr) (fault : Option CodeFault) → with_front front (record { instrs = []; fault = fault }) ≡ record { instrs = front; fault = fault }
alone front fault = ap (λ (is : List Instr). record { instrs = is; fault = fault }) (append-nil front)

pub begins : (bytes : List ℕ) → with_front [] (decoded_from (length bytes - 0) (length bytes) bytes) ≡ decoded bytes
unfolding decoded
begins bytes = let e : length bytes - 0 ≡ length bytes = omega arith in rw e refl

one_step : (n end : ℕ) (bytes : List ℕ) → eqb (length bytes) 0 ≡ false → decoded_from (suc n) end bytes ≡ after_instr (decoded_from n end) (read_instr end bytes)
unfolding decoded_from
one_step n end [] h = absurd (true≢false h)
one_step n end (b ∷ bs) h = refl

no_step : (n end : ℕ) (bytes : List ℕ) → eqb (length bytes) 0 ≡ true → decoded_from n end bytes ≡ nothing_left
unfolding decoded_from
no_step zero end bytes h = refl
no_step (suc n) end [] h = refl
no_step (suc n) end (b ∷ bs) h = absurd (let e = eqb-true (length (b ∷ bs)) 0 h in omega (arith, e))

none_more : (end : ℕ) (bytes : List ℕ) → decoded_from zero end bytes ≡ nothing_left
unfolding decoded_from
none_more end bytes = refl

module _ (front : List Instr) (count i end : ℕ) (bytes : List ℕ) (total : Decoded) (so_far : with_front front (decoded_from (count - i) end bytes) ≡ total) where
  -- one instruction more
  pub goes_on : (x : Instr) (more : List ℕ) → i < count → eqb (length bytes) 0 ≡ false → read_instr end bytes ≡ Ok (x, more) → with_front (front ++ x ∷ []) (decoded_from (count - (i + 1)) end more) ≡ total
  goes_on x more lt some h =
      let k : count - i ≡ suc (count - (i + 1)) = omega arith in
      let n = count - (i + 1) in
      let one : decoded_from (count - i) end bytes ≡ with_front (x ∷ []) (decoded_from n end more) = ap (λ (m : ℕ). decoded_from m end bytes) k ∙ one_step n end bytes some ∙ ap (after_instr (decoded_from n end)) h in
      sym (regroup front x (decoded_from n end more)) ∙ sym (ap (with_front front) one) ∙ so_far

  -- the first fault
  pub stops : (fault : CodeFault) → i < count → eqb (length bytes) 0 ≡ false → read_instr end bytes ≡ Err fault → record { instrs = front; fault = Some fault } ≡ total
  stops fault lt some h =
      let k : count - i ≡ suc (count - (i + 1)) = omega arith in
      let n = count - (i + 1) in
      let one : decoded_from (count - i) end bytes ≡ record { instrs = []; fault = Some fault } = ap (λ (m : ℕ). decoded_from m end bytes) k ∙ one_step n end bytes some ∙ ap (after_instr (decoded_from n end)) h in
      sym (alone front (Some fault)) ∙ sym (ap (with_front front) one) ∙ so_far

  -- no byte is left
  pub at_end : eqb (length bytes) 0 ≡ true → record { instrs = front; fault = None } ≡ total
  at_end none = sym (alone front None) ∙ sym (ap (with_front front) (no_step (count - i) end bytes none)) ∙ so_far

  -- as many were read as there can be
  pub is_done : count ≤ i → record { instrs = front; fault = None } ≡ total
  is_done le =
      let k : count - i ≡ 0 = omega arith in
      sym (alone front None) ∙ sym (ap (with_front front) (ap (λ (m : ℕ). decoded_from m end bytes) k ∙ none_more end bytes)) ∙ so_far
