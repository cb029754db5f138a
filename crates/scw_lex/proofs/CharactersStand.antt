-- Characters, symbol literals and backquoted identifiers stand where they are found.
use Rattle.std.proofs.Common.{◌≡◌, ℕ, zero, suc, ◌+◌, ◌<◌, ◌≤◌, Bool, true, false, cond, List, [], ◌∷◌, ◌++◌, length, take, drop, codes, refl, sym, ap, ◌∙◌, subst, arith, Option, Some, None, append_assoc}
use Rattle.std.specs.Prelude.{◌&&◌, ◌||◌, not, nat_eq, nat_lt}
use Rattle.std.specs.List.{list_all}
use Rattle.std.proofs.lemmas.Bool.{and_parts, both_ways, ltb-true, lt-ltb, not-true, not_from_false}
use Rattle.std.proofs.lemmas.Option.{same_Some, none-some}
use Rattle.std.proofs.lemmas.List.{take-append-drop, take_at, drop_at, length-append, length-take-le}
use Rattle.scw_text.specs.declared.rule.Rule.TheVariants as rule
use Rattle.scw_lex.specs.declared.escape.Spelling.{Spelling}
use Rattle.scw_lex.specs.declared.piece.Piece.{Piece}
use Rattle.scw_lex.specs.declared.piece.Piece.TheVariants as piece
use Rattle.scw_lex.specs.Character.{is_of, begins, is_letter, class_of}
use Rattle.scw_lex.specs.Name.{word_name_len}
use Rattle.scw_lex.specs.Escape.{escape_at}
use Rattle.scw_lex.specs.Literal.{is_symbol, behind_backslash, escaped_content, content_at, closed_unit, is_closed_at, closed_character, character_piece, begins_quotes, back_len, closed_back, back_piece}
use Rattle.scw_lex.specs.Lexical.{IsIdentifier, IsBadEscape, IsContent, Lexical}
use Rattle.scw_lex.specs.Stands.{NothingBegins}
use Rattle.scw_lex.proofs.TextLemmas.{later_is, begins_with, run_all, run_is}
use Rattle.scw_lex.proofs.IdentifierLemmas.{identifier_here, identifier_is_long, word_name_len_fits}
use Rattle.scw_lex.proofs.CommentLemmas.{is_of_one}
use Rattle.scw_lex.proofs.EscapeLemmas.{not_in, escape_is, UnitIs, escape_found, bad_is}
use Rattle.scw_lex.proofs.HeadLemmas.{Head, View, head_at}
use Rattle.scw_lex.proofs.BestLemmas.{Rival, Best, best_is, nothing_is}

-- what begins with a quote is the longest text there, or isn't closed
pub data Judged (c : ℕ) (cs : List ℕ) (p : Piece) : Type 0 where
  closed : Best (c ∷ cs) p → Judged c cs p
  unclosed : NothingBegins (c ∷ cs) → p ≡ piece.Refused rule.OpenText 0 (cond (begins_quotes 3 (c ∷ cs)) 3 1) → Judged c cs p

-- ---- what stands between the quotes

plain_content_is : (c : ℕ) (more : List ℕ) → not (is_of (codes "'\\\n\r") c) ≡ true → c < 0x10000 → content_at (c ∷ more) ≡ Some (record { unit = Some c; len = 1 })
plain_content_is c more h l =
    let n = not-true (is_of (codes "'\\\n\r") c) h in
    let a : is_of (codes "'\n\r") c ≡ false = not_in (codes "'\n\r") (codes "'\\\n\r") c refl n in
    let b : is_of (codes "\\") c ≡ false = not_in (codes "\\") (codes "'\\\n\r") c refl n in
    let k : nat_lt c 0x10000 ≡ true = lt-ltb c 0x10000 l in
    rw a (rw b (rw k refl))

behind : (u : Option ℕ) (n : ℕ) → behind_backslash (record { unit = u; len = n }) ≡ record { unit = u; len = suc n }
behind u n = let e : n + 1 ≡ suc n = omega arith in ap (λ k. record { unit = u; len = k }) e

content_is : (content : List ℕ) (unit : ℕ) (more : List ℕ) → IsContent content unit → content_at (content ++ more) ≡ Some (record { unit = Some unit; len = length content })
content_is content unit more (IsContent.plain h l) = plain_content_is unit more h l
content_is content unit more (IsContent.escape e) =
    let r = escape_is content unit e in
    let s : escaped_content (r.first ∷ (r.later ++ more)) ≡ Some (record { unit = Some unit; len = suc (length (r.first ∷ r.later)) }) =
    rw r.no_end (ap Some (ap behind_backslash (r.spelling more) ∙ behind (Some unit) (length (r.first ∷ r.later)))) in
    ap (λ t. content_at (t ++ more)) r.whole ∙ s ∙ ap (λ t. Some (record { unit = Some unit; len = length t })) (sym r.whole)

bad_content_is : (content more : List ℕ) → IsBadEscape content → content_at (content ++ (39 ∷ more)) ≡ Some (record { unit = None; len = length content })
bad_content_is content more b =
    let r = bad_is content b in
    let s : escaped_content (r.first ∷ (r.later ++ (39 ∷ more))) ≡ Some (record { unit = None; len = suc (length (r.first ∷ r.later)) }) =
    rw r.no_end (ap Some (ap behind_backslash (r.spelling more) ∙ behind None (length (r.first ∷ r.later)))) in
    ap (λ t. content_at (t ++ (39 ∷ more))) r.whole ∙ s ∙ ap (λ t. Some (record { unit = None; len = length t })) (sym r.whole)

abbrev ContentIs : List ℕ → Option ℕ → Type 0
ContentIs text (Some unit) = IsContent text unit
ContentIs text None = IsBadEscape text

record Holds (text : List ℕ) (s : Spelling) : Type 0 where
  fits : s.len ≤ length text
  is : ContentIs (take s.len text) s.unit

abbrev HoldsIf : List ℕ → Option Spelling → Type 0
HoldsIf text None = Unit {0}
HoldsIf text (Some s) = Holds text s

escaped_is : (text : List ℕ) (u : Option ℕ) → UnitIs text u → ContentIs text u
escaped_is text (Some unit) i = IsContent.escape i
escaped_is text None i = i

escaped_holds : (cs : List ℕ) → HoldsIf (92 ∷ cs) (escaped_content cs)
escaped_holds [] = tt
escaped_holds (c ∷ cs) = by (is_of (codes "\n\r") c) refl
  where
    by : (b : Bool) → is_of (codes "\n\r") c ≡ b → HoldsIf (92 ∷ c ∷ cs) (cond b None (Some (behind_backslash (escape_at (c ∷ cs)))))
    by true e = tt
    by false e =
        let f = escape_found c cs e in
        let s : Spelling = escape_at (c ∷ cs) in
        let l = f.fits in
        let k : s.len + 1 ≡ suc s.len = omega arith in
        record { fits = omega (arith, l); is = rw k (escaped_is (92 ∷ take s.len (c ∷ cs)) s.unit f.is) }

content_holds : (cs : List ℕ) → HoldsIf cs (content_at cs)
content_holds [] = tt
content_holds (c ∷ cs) = by (is_of (codes "'\n\r") c) refl (is_of (codes "\\") c) refl (nat_lt c 0x10000) refl
  where
    or_slash : (b d : Bool) → is_of (codes "'") c ≡ b → is_of (codes "\\") c ≡ false → is_of (codes "'\n\r") c ≡ false → is_of (codes "'\\\n\r") c ≡ false
    or_slash b d x y z = by (nat_eq 39 c) (nat_eq 92 c) z y
      where
        by : (p q : Bool) → (p || is_of (codes "\n\r") c) ≡ false → (q || false) ≡ false → (p || (q || is_of (codes "\n\r") c)) ≡ false
        by true q z y = absurd cc
        by false true z y = absurd cc
        by false false z y = z

    by : (b : Bool) → is_of (codes "'\n\r") c ≡ b → (s : Bool) → is_of (codes "\\") c ≡ s → (l : Bool) → nat_lt c 0x10000 ≡ l
        → HoldsIf (c ∷ cs) (cond b None (cond s (escaped_content cs) (cond l (Some (record { unit = Some c; len = 1 })) None)))
    by true e s f l g = tt
    by false e true f l g = subst (λ d. HoldsIf (d ∷ cs) (escaped_content cs)) (is_of_one 92 c f) (escaped_holds cs)
    by false e false f true g = record {
      fits = omega arith;
      is = IsContent.plain (not_from_false (is_of (codes "'\\\n\r") c) (or_slash (is_of (codes "'") c) false refl f e)) (ltb-true c 0x10000 g);
    }
    by false e false f false g = tt

-- ---- characters

-- what is closed, with its quotes
closed_text : (content more cs : List ℕ) → 39 ∷ cs ≡ (codes "'" ++ (content ++ codes "'")) ++ more → cs ≡ content ++ (39 ∷ more)
closed_text content more cs e = later_is e ∙ append_assoc content (codes "'") more

closed_length : (content : List ℕ) → length (codes "'" ++ (content ++ codes "'")) ≡ length content + 2
closed_length content = let l = length-append content (codes "'") in omega (arith, l)

character_has : (content more cs : List ℕ) (unit : ℕ) → IsContent content unit → 39 ∷ cs ≡ (codes "'" ++ (content ++ codes "'")) ++ more
    → content_at cs ≡ Some (record { unit = Some unit; len = length content })
character_has content more cs unit i e = ap content_at (closed_text content more cs e) ∙ content_is content unit (39 ∷ more) i

bad_has : (content more cs : List ℕ) → IsBadEscape content → 39 ∷ cs ≡ (codes "'" ++ (content ++ codes "'")) ++ more → content_at cs ≡ Some (record { unit = None; len = length content })
bad_has content more cs i e = ap content_at (closed_text content more cs e) ∙ bad_content_is content more i

closed_has : (content more cs : List ℕ) → 39 ∷ cs ≡ (codes "'" ++ (content ++ codes "'")) ++ more → is_closed_at cs (length content) ≡ true
closed_has content more cs e =
    ap (λ t. is_closed_at t (length content)) (closed_text content more cs e) ∙ ap (begins (is_of (codes "'"))) (drop_at content (39 ∷ more) (length content) refl)

symbol_has : (c : ℕ) (name more cs : List ℕ) → is_letter c ≡ true → begins (is_of (codes "'")) (name ++ more) ≡ false → 39 ∷ cs ≡ (codes "'" ++ (c ∷ name)) ++ more → is_symbol cs ≡ true
symbol_has c name more cs l n e = ap is_symbol (later_is e) ∙ rw (l, n) refl

-- no content of a character is closed behind a letter that begins a symbol
letter_content : (content more cs : List ℕ) (u : Option ℕ) → is_symbol cs ≡ true → ContentIs content u → cs ≡ content ++ (39 ∷ more) → ⊥
unfolding class_of
letter_content content more cs (Some unit) s (IsContent.plain h l) e = both_ways (is_symbol cs) (ap is_symbol e ∙ no_quote (is_letter unit)) s
  where
    no_quote : (b : Bool) → (b && false) ≡ false
    no_quote true = refl
    no_quote false = refl
letter_content content more cs (Some unit) s (IsContent.escape i) e =
    let r = escape_is content unit i in
    both_ways (is_symbol cs) (ap is_symbol (e ∙ ap (λ t. t ++ (39 ∷ more)) r.whole)) s
letter_content content more cs None s b e =
    let r = bad_is content b in
    both_ways (is_symbol cs) (ap is_symbol (e ∙ ap (λ t. t ++ (39 ∷ more)) r.whole)) s

symbol_rival : (cs other more : List ℕ) (q : Piece) → is_symbol cs ≡ true → 39 ∷ cs ≡ other ++ more → View Head.Single other more q
    → Rival (codes "'" ++ take (word_name_len cs) cs) (piece.Refused rule.LeftOutToken 0 (word_name_len cs + 1)) other q
symbol_rival cs other more q s e (View.character {content} {unit} i) = absurd (letter_content content more cs (Some unit) s i (closed_text content more cs e))
symbol_rival cs other more q s e (View.bad_character {content} i) = absurd (letter_content content more cs None s i (closed_text content more cs e))
symbol_rival cs other more q s e (View.symbol {c} {name = rest} i l n) =
    let k : length (c ∷ rest) ≤ word_name_len cs = subst (λ u. length (c ∷ rest) ≤ word_name_len u) (sym (later_is e)) (identifier_is_long (c ∷ rest) more i l) in
    let m = length-take-le (word_name_len cs) cs (word_name_len_fits cs) in
    record { shorter = omega (arith, k, m); same = λ w. ap (piece.Refused rule.LeftOutToken 0) (omega (arith, w, m)) }

symbol_best : (c : ℕ) (cs : List ℕ) → head_at 39 ≡ Head.Single → is_letter c ≡ true → begins (is_of (codes "'")) cs ≡ false
    → Best (39 ∷ c ∷ cs) (piece.Refused rule.LeftOutToken 0 (word_name_len (c ∷ cs) + 1))
symbol_best c cs k l n = by (word_name_len (c ∷ cs)) refl
  where
    s : is_symbol (c ∷ cs) ≡ true
    s = rw (l, n) refl

    by : (m : ℕ) → word_name_len (c ∷ cs) ≡ m → Best (39 ∷ c ∷ cs) (piece.Refused rule.LeftOutToken 0 (word_name_len (c ∷ cs) + 1))
    by zero e =
        let i = identifier_here c cs l in
        absurd (none (subst (λ m. IsIdentifier (take m (c ∷ cs)) (drop m (c ∷ cs))) e i))
      where
        none_is : (t r : List ℕ) → IsIdentifier t r → 0 < length t
        none_is t r (IsIdentifier.word w) = begins_with is_letter t w.letter
        none_is t r (IsIdentifier.joined {text = u} {operator} w o) =
            let a = length-append u (codes "_" ++ operator) in
            let b = begins_with is_letter u w.letter in
            omega (arith, a, b)
        none_is t r (IsIdentifier.operator o) = o.any

        none : IsIdentifier [] (c ∷ cs) → ⊥
        none i = let z = none_is [] (c ∷ cs) i in omega (arith, z)
    by (suc m) e =
        let i : IsIdentifier (c ∷ take m cs) (drop m cs) = subst (λ j. IsIdentifier (take j (c ∷ cs)) (drop j (c ∷ cs))) e (identifier_here c cs l) in
        let f = word_name_len_fits (c ∷ cs) in
        let len : length (take m cs) ≡ m = length-take-le m cs (omega (arith, f, e)) in
        let p : length (c ∷ take m cs) + 1 ≡ word_name_len (c ∷ cs) + 1 = omega (arith, len, e) in
        let x : Lexical (codes "'" ++ (c ∷ take m cs)) (drop m cs) (piece.Refused rule.LeftOutToken 0 (length (c ∷ take m cs) + 1)) =
        Lexical.symbol i l (ap (begins (is_of (codes "'"))) (take-append-drop m cs) ∙ n) in
        best_is Head.Single 39 (c ∷ cs) (codes "'" ++ (c ∷ take m cs)) (drop m cs) (piece.Refused rule.LeftOutToken 0 (word_name_len (c ∷ cs) + 1)) k
        (ap (λ t. 39 ∷ c ∷ t) (sym (take-append-drop m cs))) (subst (λ j. Lexical (codes "'" ++ (c ∷ take m cs)) (drop m cs) (piece.Refused rule.LeftOutToken 0 j)) p x)
        (λ other more q w v. subst (λ j. Rival (codes "'" ++ take j (c ∷ cs)) (piece.Refused rule.LeftOutToken 0 (word_name_len (c ∷ cs) + 1)) other q) e (symbol_rival (c ∷ cs) other more q s w v))

unit_rival : (cs front : List ℕ) (spelling : Spelling) → is_symbol cs ≡ false → content_at cs ≡ Some spelling → length front ≡ spelling.len + 2 → (other more : List ℕ) (q : Piece)
    → 39 ∷ cs ≡ other ++ more → View Head.Single other more q → Rival front (closed_unit spelling.unit spelling.len) other q
unit_rival cs front spelling s h f other more q e (View.character {content} {unit} i) =
    let w : record { unit = Some unit; len = length content } ≡ spelling = same_Some (record { unit = Some unit; len = length content }) spelling (sym (character_has content more cs unit i e) ∙ h) in
    let l : length content ≡ spelling.len = ap (λ s. s.len) w in
    let k = closed_length content in
    record { shorter = omega (arith, l, k, f); same = λ z. ap (λ s. closed_unit s.unit s.len) w }
unit_rival cs front spelling s h f other more q e (View.bad_character {content} i) =
    let w : record { unit = None; len = length content } ≡ spelling = same_Some (record { unit = None; len = length content }) spelling (sym (bad_has content more cs i e) ∙ h) in
    let l : length content ≡ spelling.len = ap (λ s. s.len) w in
    let k = closed_length content in
    record { shorter = omega (arith, l, k, f); same = λ z. ap (λ s. closed_unit s.unit s.len) w }
unit_rival cs front spelling s h f other more q e (View.symbol {c} {name = rest} i l n) = absurd (both_ways (is_symbol cs) s (symbol_has c rest more cs l n e))

not_closed : (cs : List ℕ) → is_symbol cs ≡ false → content_at cs ≡ None → (other more : List ℕ) (q : Piece) → 39 ∷ cs ≡ other ++ more → View Head.Single other more q → ⊥
not_closed cs s h other more q e (View.character {content} {unit} i) = none-some (record { unit = Some unit; len = length content }) (sym h ∙ character_has content more cs unit i e)
not_closed cs s h other more q e (View.bad_character {content} i) = none-some (record { unit = None; len = length content }) (sym h ∙ bad_has content more cs i e)
not_closed cs s h other more q e (View.symbol {c} {name = rest} i l n) = both_ways (is_symbol cs) s (symbol_has c rest more cs l n e)

no_quote_there : (cs : List ℕ) (spelling : Spelling) → is_symbol cs ≡ false → content_at cs ≡ Some spelling → is_closed_at cs spelling.len ≡ false → (other more : List ℕ) (q : Piece)
    → 39 ∷ cs ≡ other ++ more → View Head.Single other more q → ⊥
no_quote_there cs spelling s h n other more q e (View.character {content} {unit} i) =
    let w : record { unit = Some unit; len = length content } ≡ spelling = same_Some (record { unit = Some unit; len = length content }) spelling (sym (character_has content more cs unit i e) ∙ h) in
    both_ways (is_closed_at cs spelling.len) n (ap (λ s. is_closed_at cs s.len) (sym w) ∙ closed_has content more cs e)
no_quote_there cs spelling s h n other more q e (View.bad_character {content} i) =
    let w : record { unit = None; len = length content } ≡ spelling = same_Some (record { unit = None; len = length content }) spelling (sym (bad_has content more cs i e) ∙ h) in
    both_ways (is_closed_at cs spelling.len) n (ap (λ s. is_closed_at cs s.len) (sym w) ∙ closed_has content more cs e)
no_quote_there cs spelling s h n other more q e (View.symbol {c} {name = rest} i l k) = both_ways (is_symbol cs) s (symbol_has c rest more cs l k e)

quote_behind : (t : List ℕ) → begins (is_of (codes "'")) t ≡ true → t ≡ 39 ∷ drop 1 t
quote_behind [] h = absurd cc
quote_behind (c ∷ cs) h = ap (λ d. d ∷ cs) (sym (is_of_one 39 c h))

character_lexical : (content rest : List ℕ) (u : Option ℕ) → ContentIs content u → Lexical (codes "'" ++ (content ++ codes "'")) rest (closed_unit u (length content))
character_lexical content rest (Some unit) i = Lexical.character i
character_lexical content rest None i = Lexical.bad_character i

unit_best : (cs : List ℕ) (spelling : Spelling) → head_at 39 ≡ Head.Single → is_symbol cs ≡ false → content_at cs ≡ Some spelling → Holds cs spelling → is_closed_at cs spelling.len ≡ true
    → Best (39 ∷ cs) (closed_unit spelling.unit spelling.len)
unit_best cs spelling k s h holds b =
    let n : ℕ = spelling.len in
    let content : List ℕ = take n cs in
    let rest : List ℕ = drop 1 (drop n cs) in
    let l : length content ≡ n = length-take-le n cs holds.fits in
    let m = closed_length content in
    let w : cs ≡ (content ++ codes "'") ++ rest =
    sym (take-append-drop n cs) ∙ ap (λ t. content ++ t) (quote_behind (drop n cs) b) ∙ sym (append_assoc content (codes "'") rest) in
    best_is Head.Single 39 cs (codes "'" ++ (content ++ codes "'")) rest (closed_unit spelling.unit spelling.len) k (ap (λ t. 39 ∷ t) w)
    (subst (λ j. Lexical (codes "'" ++ (content ++ codes "'")) rest (closed_unit spelling.unit j)) l (character_lexical content rest spelling.unit holds.is))
    (unit_rival cs (codes "'" ++ (content ++ codes "'")) spelling s h (omega (arith, l, m)))

character_at : (cs : List ℕ) → head_at 39 ≡ Head.Single → Judged 39 cs (character_piece cs)
unfolding character_piece
character_at cs k = by (is_symbol cs) refl
  where
    closed_or_not : is_symbol cs ≡ false → (spelling : Spelling) → content_at cs ≡ Some spelling → Holds cs spelling → (b : Bool) → is_closed_at cs spelling.len ≡ b
        → Judged 39 cs (cond b (closed_unit spelling.unit spelling.len) (piece.Refused rule.OpenText 0 1))
    closed_or_not s spelling h holds true b = Judged.closed (unit_best cs spelling k s h holds b)
    closed_or_not s spelling h holds false b = Judged.unclosed (nothing_is Head.Single 39 cs k (no_quote_there cs spelling s h b)) refl

    content_or_not : is_symbol cs ≡ false → (o : Option Spelling) → content_at cs ≡ o → HoldsIf cs o → Judged 39 cs (closed_character cs o)
    content_or_not s None h holds = Judged.unclosed (nothing_is Head.Single 39 cs k (not_closed cs s h)) refl
    content_or_not s (Some spelling) h holds = closed_or_not s spelling h holds (is_closed_at cs spelling.len) refl

    symbol : (t : List ℕ) → is_symbol t ≡ true → Best (39 ∷ t) (piece.Refused rule.LeftOutToken 0 (word_name_len t + 1))
    symbol [] s = absurd cc
    symbol (c ∷ t) s =
        let a = and_parts (is_letter c) (not (begins (is_of (codes "'")) t)) s in
        symbol_best c t k a.0 (not-true (begins (is_of (codes "'")) t) a.1)

    by : (b : Bool) → is_symbol cs ≡ b → Judged 39 cs (cond b (piece.Refused rule.LeftOutToken 0 (word_name_len cs + 1)) (closed_character cs (content_at cs)))
    by true s = Judged.closed (symbol cs s)
    by false s = content_or_not s (content_at cs) refl (content_holds cs)

pub character_judged : (cs : List ℕ) → Judged 39 cs (character_piece cs)
unfolding class_of
character_judged cs = character_at cs refl

-- ---- backquoted identifiers

abbrev in_back : ℕ → Bool
in_back c = not (is_of (codes "`\n") c)

back_text : (name more cs : List ℕ) → list_all in_back name ≡ true → 96 ∷ cs ≡ (codes "`" ++ (name ++ codes "`")) ++ more → (take (back_len cs) cs ≡ name) × (drop (back_len cs) cs ≡ 96 ∷ more)
back_text name more cs a e =
    let w : cs ≡ name ++ (96 ∷ more) = later_is e ∙ append_assoc name (codes "`") more in
    let n : back_len cs ≡ length name = ap back_len w ∙ run_is in_back name (96 ∷ more) a refl in (
      ap (λ t. take (back_len cs) t) w ∙ ap (λ k. take k (name ++ (96 ∷ more))) n ∙ take_at name (96 ∷ more) (length name) refl,
      ap (λ t. drop (back_len cs) t) w ∙ ap (λ k. drop k (name ++ (96 ∷ more))) n ∙ drop_at name (96 ∷ more) (length name) refl,
    )

back_length : (name : List ℕ) → length (codes "`" ++ (name ++ codes "`")) ≡ length name + 2
back_length name = let l = length-append name (codes "`") in omega (arith, l)

back_rival : (cs other more : List ℕ) (q : Piece) → 96 ∷ cs ≡ other ++ more → View Head.Back other more q
    → Rival (codes "`" ++ (take (back_len cs) cs ++ codes "`")) (closed_back (take (back_len cs) cs)) other q
back_rival cs other more q e (View.backquoted n a) =
    let w = (back_text n more cs a e).0 in
    let l = back_length n in
    let m = back_length (take (back_len cs) cs) in
    let k = ap length w in
    record { shorter = omega (arith, l, m, k); same = λ z. ap closed_back (sym w) }

back_open : (cs : List ℕ) → begins (is_of (codes "`")) (drop (back_len cs) cs) ≡ false → (other more : List ℕ) (q : Piece) → 96 ∷ cs ≡ other ++ more → View Head.Back other more q → ⊥
back_open cs h other more q e (View.backquoted n a) =
    let w = (back_text n more cs a e).1 in
    both_ways (begins (is_of (codes "`")) (drop (back_len cs) cs)) h (ap (begins (is_of (codes "`"))) w)

back_behind : (t : List ℕ) → begins (is_of (codes "`")) t ≡ true → t ≡ 96 ∷ drop 1 t
back_behind [] h = absurd cc
back_behind (c ∷ cs) h = ap (λ d. d ∷ cs) (sym (is_of_one 96 c h))

back_at : (cs : List ℕ) → head_at 96 ≡ Head.Back → Judged 96 cs (back_piece cs)
unfolding back_piece
back_at cs k = by (begins (is_of (codes "`")) (drop (back_len cs) cs)) refl
  where
    by : (b : Bool) → begins (is_of (codes "`")) (drop (back_len cs) cs) ≡ b → Judged 96 cs (cond b (closed_back (take (back_len cs) cs)) (piece.Refused rule.OpenText 0 1))
    by true h =
        let n : List ℕ = take (back_len cs) cs in
        let rest : List ℕ = drop 1 (drop (back_len cs) cs) in
        let w : cs ≡ (n ++ codes "`") ++ rest =
        sym (take-append-drop (back_len cs) cs) ∙ ap (λ t. n ++ t) (back_behind (drop (back_len cs) cs) h) ∙ sym (append_assoc n (codes "`") rest) in
        Judged.closed (best_is Head.Back 96 cs (codes "`" ++ (n ++ codes "`")) rest (closed_back n) k (ap (λ t. 96 ∷ t) w) (Lexical.backquoted n (run_all in_back cs)) (back_rival cs))
    by false h = Judged.unclosed (nothing_is Head.Back 96 cs k (back_open cs h)) refl

pub back_judged : (cs : List ℕ) → Judged 96 cs (back_piece cs)
unfolding class_of
back_judged cs = back_at cs refl
