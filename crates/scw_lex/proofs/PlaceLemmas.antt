-- The places of line ends fit spans.
use Rattle.std.proofs.Common.{◌≡◌, ℕ, ◌+◌, ◌≤◌, List, [], ◌∷◌, ◌++◌, length, take, drop, codes, ap, ◌∙◌, arith, append_assoc}
use Rattle.std.specs.Str.{encode_utf8_all}
use Rattle.std.proofs.lemmas.List.{take-append-drop, length-append}
use Rattle.std.proofs.lemmas.Str.{encodes-append}
use Rattle.scw_text.specs.declared.source.TheConstants.{MAX_SOURCE_BYTES}
use Rattle.scw_lex.specs.declared.token.Gap.{Gap}
use Rattle.scw_lex.specs.declared.token.Gap.TheVariants as gap
use Rattle.scw_lex.specs.declared.token.Lexeme.{Lexeme}
use Rattle.scw_lex.specs.Gap.{IsFirstLineEnd, IsGap}
use Rattle.scw_lex.specs.Newline.{HasPlace}
use Rattle.scw_lex.specs.Lexing.{bytes, Found, Next, ends, passes, takes, fails}

pub bytes-append : (a b : List ℕ) → bytes (a ++ b) ≡ bytes a + bytes b
bytes-append a b = ap length (encodes-append a b) ∙ length-append (encode_utf8_all a) (encode_utf8_all b)

first_has_place : (at first : ℕ) (text : List ℕ) → IsFirstLineEnd at text first → at + bytes text ≤ MAX_SOURCE_BYTES → first ≤ MAX_SOURCE_BYTES
first_has_place at first text is h =
    let whole = ap bytes is.whole ∙ bytes-append is.before (codes "\n" ++ is.after) in
    let place = is.place in
    omega (arith, whole, place, h)

gap_has_place : (at : ℕ) (text : List ℕ) (g : Gap) → IsGap at text g → at + bytes text ≤ MAX_SOURCE_BYTES → HasPlace g
gap_has_place at text gap.Joined is h = tt
gap_has_place at text (gap.LineEnd first) is h = let l = first_has_place at first text is.0 h in omega (arith, l)
gap_has_place at text (gap.BlankLine first) is h = let l = first_has_place at first text is.0 h in omega (arith, l)

-- the same of the gap of what is found
abbrev pub FitsFound : Found → Type 0
FitsFound (Found.Taken lexeme at text) = HasPlace lexeme.gap
FitsFound (Found.Ended lexeme) = HasPlace lexeme.gap
FitsFound (Found.Failed refusal) = Unit {0}

next_has_place : {file since : ℕ} {between : List ℕ} {at : ℕ} {text : List ℕ} {found : Found} → Next file since between at text found → since + bytes (between ++ text) ≤ MAX_SOURCE_BYTES → FitsFound found
next_has_place (ends {since} {between} {gap} is lexeme) h =
    let b = bytes-append between [] in
    rw lexeme.gap_is (gap_has_place since between gap is (omega (arith, b, h)))
next_has_place (passes {since} {between} {c} {cs} {n} e next) h =
    let whole : (between ++ take n (c ∷ cs)) ++ drop n (c ∷ cs) ≡ between ++ c ∷ cs
    = append_assoc between (take n (c ∷ cs)) (drop n (c ∷ cs)) ∙ ap (λ t. between ++ t) (take-append-drop n (c ∷ cs)) in
    next_has_place next (rw whole h)
next_has_place (takes {since} {between} {c} {cs} {gap} e is lexeme) h =
    let b = bytes-append between (c ∷ cs) in
    rw lexeme.gap_is (gap_has_place since between gap is (omega (arith, b, h)))
next_has_place (fails e is) h = tt

pub taken_has_place : (file at : ℕ) (text : List ℕ) (lexeme : Lexeme) (end : ℕ) (rest : List ℕ) → Next file at [] at text (Found.Taken lexeme end rest) → at + bytes text ≤ MAX_SOURCE_BYTES
    → HasPlace lexeme.gap
taken_has_place file at text lexeme end rest next h = next_has_place next h

pub ended_has_place : (file at : ℕ) (text : List ℕ) (lexeme : Lexeme) → Next file at [] at text (Found.Ended lexeme) → at + bytes text ≤ MAX_SOURCE_BYTES → HasPlace lexeme.gap
ended_has_place file at text lexeme next h = next_has_place next h
