use Rattle.std.proofs.Common.{◌≡◌, ℕ, ◌+◌, List, ◌++◌, length, map, replicate, codes, ap, sym, ◌∙◌, arith, length-append}
use Rattle.std.proofs.lemmas.List.{length-map, length-replicate}
use Rattle.scw_step.specs.TextStep.{dotted}
use Rattle.scw_step.proofs.TextLemmas.{making_text-put, putting-then}
use Rattle.scw_step.proofs.new_text.make_array_name.Goals as goal

pub returns : goal.returns
returns c =
    let m = c.begin.new.state in
    let d : ℕ = c.args.dimensions in
    let r : ℕ = c.in_ok-r.r in
    let brackets : List ℕ = replicate d 0x5b in
    let name : List ℕ = map dotted c.args.name.now in
    let k : length brackets ≡ d = length-replicate d 0x5b in
    let l : length name ≡ length c.args.name.now = length-map c.args.name.now dotted in
    let u : length (brackets ++ codes "L") ≡ d + 1 = length-append brackets (codes "L") ∙ omega arith in
    let v : length (brackets ++ codes "L" ++ name) ≡ d + 1 + length name = length-append (brackets ++ codes "L") name ∙ omega arith in
    let n : d + 2 + length c.args.name.now ≡ length (brackets ++ codes "L" ++ name ++ codes ";") =
    sym (length-append (brackets ++ codes "L" ++ name) (codes ";") ∙ omega arith) in
    let e = putting-then brackets (codes "L") m.heap c.put_brackets-place.new.heap c.put_bytes-place.new.heap r 0 c.put_brackets-place.result c.put_brackets-place.ensures.units (omega arith) c.put_bytes-place.ensures.units in
    let f = putting-then (brackets ++ codes "L") name m.heap c.put_bytes-place.new.heap c.put_dotted-place.new.heap r 0 c.put_bytes-place.result e (omega arith) c.put_dotted-place.ensures.units in
    let g = putting-then (brackets ++ codes "L" ++ name) (codes ";") m.heap c.put_dotted-place.new.heap c.put_bytes.new.heap r 0 c.put_dotted-place.result f (omega arith) c.put_bytes.ensures.units in
    making_text-put (brackets ++ codes "L" ++ name ++ codes ";") _ r c.args.state.now m _ c.in_ok-r.ensures.gives n (ap (λ h. record m { heap = h }) g)
