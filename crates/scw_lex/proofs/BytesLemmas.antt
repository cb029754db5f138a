-- The bytes of a front of a text, and of its rest.
use Rattle.std.proofs.Common.{◌≡◌, ℕ, ◌+◌, ◌≤◌, List, ◌++◌, length, take, drop, refl, sym, ap, ◌∙◌, arith}
use Rattle.std.specs.Str.{encode_utf8_all}
use Rattle.std.proofs.lemmas.List.{take-append-drop, length-append}
use Rattle.std.proofs.lemmas.Str.{encodes-append, length-le-encodes}
use Rattle.scw_text.specs.declared.source.TheConstants.{MAX_SOURCE_BYTES}
use Rattle.scw_lex.specs.Lexing.{bytes}

pub front_and_rest : (n : ℕ) (text : List ℕ) → bytes (take n text) + bytes (drop n text) ≡ bytes text
front_and_rest n text =
    sym (length-append (encode_utf8_all (take n text)) (encode_utf8_all (drop n text))) ∙ ap length (sym (encodes-append (take n text) (drop n text)))
    ∙ ap bytes (take-append-drop n text)

pub front_fits : (n : ℕ) (text front : List ℕ) → front ≡ take n text → bytes text ≤ MAX_SOURCE_BYTES → length front ≤ MAX_SOURCE_BYTES
front_fits n text front e h =
    let l : length (take n text) ≤ bytes (take n text) = length-le-encodes (take n text) in
    let b = front_and_rest n text in
    rw e (omega (arith, l, b, h))

pub gap_fits : (at n : ℕ) (text front : List ℕ) → front ≡ take n text → at + bytes text ≤ MAX_SOURCE_BYTES → at + bytes front ≤ MAX_SOURCE_BYTES
gap_fits at n text front e h =
    let b = front_and_rest n text in
    rw e (omega (arith, b, h))
