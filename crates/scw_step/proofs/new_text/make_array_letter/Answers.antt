use Rattle.std.proofs.Common.{◌≡◌, ℕ, ◌+◌, List, [], ◌∷◌, ◌++◌, length, replicate, ap, sym, ◌∙◌, arith, length-append}
use Rattle.std.proofs.lemmas.List.{length-replicate}
use Rattle.scw_step.proofs.TextLemmas.{making_text-put, putting-then}
use Rattle.scw_step.proofs.new_text.make_array_letter.Goals as goal

pub returns : goal.returns
returns c =
    let m = c.begin.new.state in
    let d : ℕ = c.args.dimensions in
    let brackets : List ℕ = replicate d 0x5b in
    let letter : List ℕ = c.args.letter ∷ [] in
    let l : length brackets ≡ d = length-replicate d 0x5b in
    let n : d + 1 ≡ length (brackets ++ letter) = sym (length-append brackets letter ∙ omega arith) in
    let e = putting-then brackets letter m.heap c.put_brackets-place.new.heap c.put_bytes.new.heap c.in_ok-r.r 0 c.put_brackets-place.result c.put_brackets-place.ensures.units (omega arith) c.put_bytes.ensures.units in
    making_text-put (brackets ++ letter) _ c.in_ok-r.r c.args.state.now m _ c.in_ok-r.ensures.gives n (ap (λ h. record m { heap = h }) e)
