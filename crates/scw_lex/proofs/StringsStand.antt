-- Strings stand where they are found.
use Rattle.std.proofs.Common.{◌≡◌, ℕ, zero, suc, ◌+◌, ◌<◌, ◌≤◌, Bool, true, false, cond, List, [], ◌∷◌, ◌++◌, length, take, drop, codes, refl, sym, ap, ◌∙◌, subst, arith, Option, Some, None, is_none, Result, Ok, Err, append_assoc}
use Rattle.std.specs.Prelude.{◌&&◌, ◌||◌, nat_eq}
use Rattle.std.specs.List.{list_all}
use Rattle.std.specs.Char.{is_ascii_hexdigit}
use Rattle.std.specs.Char.Escape.{encode_utf16}
use Rattle.std.proofs.lemmas.Bool.{and_parts, both_ways, not-true, not_from_false}
use Rattle.std.proofs.lemmas.Option.{same_Some, none-some}
use Rattle.std.proofs.lemmas.List.{append-nil, take-append-drop, take_at, length-append, length-take-le}
use Rattle.scw_text.specs.declared.rule.Rule.TheVariants as rule
use Rattle.scw_lex.specs.declared.escape.Spelling.{Spelling}
use Rattle.scw_lex.specs.declared.piece.Piece.{Piece}
use Rattle.scw_lex.specs.declared.piece.Piece.TheVariants as piece
use Rattle.scw_lex.specs.Character.{is_of, begins}
use Rattle.scw_lex.specs.Escape.{escape_at}
use Rattle.scw_lex.specs.Literal.{closing_quote, after_escape, escaped_units, string_of, closed_line, line_piece, line_string, begins_quotes}
use Rattle.scw_lex.specs.Lexical.{IsEscape, Spells, IsLine, HasBadEscape, is_quote, Lexical}
use Rattle.scw_lex.proofs.TextLemmas.{same_fronts, first_is, later_is}
use Rattle.scw_lex.proofs.CommentLemmas.{is_of_one}
use Rattle.scw_lex.proofs.FloatingLemmas.{each_of, not_of}
use Rattle.scw_lex.proofs.EscapeLemmas.{not_in, escape_is, UnitIs, Found, escape_found, no_escape}
use Rattle.scw_lex.proofs.HeadLemmas.{Head, View, head_at}
use Rattle.scw_lex.proofs.BestLemmas.{Rival, Best, best_is, nothing_is}
use Rattle.scw_lex.proofs.CharactersStand.{Judged}

-- ---- where a string of one line is closed

abbrev is_special : ℕ → Bool
is_special c = is_of (codes "\"\\\n\r") c

special_from : (c : ℕ) → is_of (codes "\"") c ≡ false → is_of (codes "\\") c ≡ false → is_of (codes "\n\r") c ≡ false → is_special c ≡ false
special_from c x y z = by (nat_eq 34 c) (nat_eq 92 c) x y
  where
    by : (p q : Bool) → (p || false) ≡ false → (q || false) ≡ false → (p || (q || is_of (codes "\n\r") c)) ≡ false
    by true q x y = absurd cc
    by false true x y = absurd cc
    by false false x y = z

line_closes : (content : List ℕ) → IsLine content → (n : ℕ) (more : List ℕ) → closing_quote n false (content ++ (34 ∷ more)) ≡ Some (n + length content)
line_closes content IsLine.none n more = let z : n ≡ n + 0 = omega arith in ap Some z
line_closes content (IsLine.plain {c} {text} h i) n more =
    let s = not-true (is_special c) h in
    let l : is_of (codes "\n\r") c ≡ false = not_in (codes "\n\r") (codes "\"\\\n\r") c refl s in
    let q : is_of (codes "\"") c ≡ false = not_in (codes "\"") (codes "\"\\\n\r") c refl s in
    let b : is_of (codes "\\") c ≡ false = not_in (codes "\\") (codes "\"\\\n\r") c refl s in
    let z : n + 1 + length text ≡ n + suc (length text) = omega arith in
    rw l (rw q (rw b (line_closes text i (n + 1) more ∙ ap Some z)))
line_closes content (IsLine.pair {c} {text} h i) n more =
    let l = not-true (is_of (codes "\n\r") c) h in
    let z : n + 1 + 1 + length text ≡ n + suc (suc (length text)) = omega arith in
    rw l (line_closes text i (n + 1 + 1) more ∙ ap Some z)

abbrev LineBehind : Bool → List ℕ → Type 0
LineBehind true text = IsLine (92 ∷ text)
LineBehind false text = IsLine text

record LineClosed (is_escaped : Bool) (n : ℕ) (text : List ℕ) (m : ℕ) : Type 0 where
  content : List ℕ
  rest : List ℕ
  whole : text ≡ content ++ (34 ∷ rest)
  place : m ≡ n + length content
  line : LineBehind is_escaped content

line_later : (b d : Bool) (n c : ℕ) (cs : List ℕ) (m : ℕ) → ((t : List ℕ) → LineBehind d t → LineBehind b (c ∷ t)) → LineClosed d (n + 1) cs m → LineClosed b n (c ∷ cs) m
line_later b d n c cs m go r = record {
  content = c ∷ r.content;
  rest = r.rest;
  whole = ap (λ t. c ∷ t) r.whole;
  place = let p = r.place in omega (arith, p);
  line = go r.content r.line;
}

plain_line : (c : ℕ) → is_of (codes "\"") c ≡ false → is_of (codes "\n\r") c ≡ false → (b : Bool) → is_of (codes "\\") c ≡ b → (t : List ℕ) → LineBehind b t → IsLine (c ∷ t)
plain_line c q l true e t i = subst (λ d. IsLine (d ∷ t)) (is_of_one 92 c e) i
plain_line c q l false e t i = IsLine.plain (not_from_false (is_special c) (special_from c q e l)) i

line_closed : (text : List ℕ) (n : ℕ) (b : Bool) (m : ℕ) → closing_quote n b text ≡ Some m → LineClosed b n text m
line_closed [] n b m h = absurd cc
line_closed (c ∷ cs) n false m h = by (line_closed cs (n + 1) (is_of (codes "\\") c) m) (is_of (codes "\n\r") c) refl (is_of (codes "\"") c) refl h
  where
    by : (closing_quote (n + 1) (is_of (codes "\\") c) cs ≡ Some m → LineClosed (is_of (codes "\\") c) (n + 1) cs m) → (l : Bool) → is_of (codes "\n\r") c ≡ l
        → (q : Bool) → is_of (codes "\"") c ≡ q → cond l None (cond q (Some n) (closing_quote (n + 1) (is_of (codes "\\") c) cs)) ≡ Some m → LineClosed false n (c ∷ cs) m
    by later true e q f h = absurd cc
    by later false e true f h =
        let p = same_Some n m h in
        record { content = []; rest = cs; whole = ap (λ d. d ∷ cs) (sym (is_of_one 34 c f)); place = omega (arith, p); line = IsLine.none }
    by later false e false f h = line_later false (is_of (codes "\\") c) n c cs m (plain_line c f e (is_of (codes "\\") c) refl) (later h)
line_closed (c ∷ cs) n true m h = by (line_closed cs (n + 1) false m) (is_of (codes "\n\r") c) refl h
  where
    by : (closing_quote (n + 1) false cs ≡ Some m → LineClosed false (n + 1) cs m) → (l : Bool) → is_of (codes "\n\r") c ≡ l
        → cond l None (closing_quote (n + 1) false cs) ≡ Some m → LineClosed true n (c ∷ cs) m
    by later true e h = absurd cc
    by later false e h = line_later true false n c cs m (λ t i. IsLine.pair (not_from_false (is_of (codes "\n\r") c) e) i) (later h)

-- ---- lines and escapes

-- how a line that isn't empty begins
record LineView (c : ℕ) (cs : List ℕ) : Type 0 where
  plain : is_of (codes "\\") c ≡ false → (is_special c ≡ false) × IsLine cs
  pair : (d : ℕ) (ds : List ℕ) → is_of (codes "\\") c ≡ true → cs ≡ d ∷ ds → (is_of (codes "\n\r") d ≡ false) × IsLine ds
  some : is_of (codes "\\") c ≡ true → 0 < length cs

line_view : (t : List ℕ) → IsLine t → (c : ℕ) (cs : List ℕ) → t ≡ c ∷ cs → LineView c cs
line_view t IsLine.none c cs e = absurd cc
line_view t (IsLine.plain {c = x} {text} h i) c cs e =
    let s : is_special c ≡ false = ap is_special (sym (first_is e)) ∙ not-true (is_special x) h in
    let b : is_of (codes "\\") c ≡ false = not_in (codes "\\") (codes "\"\\\n\r") c refl s in
    record {
      plain = λ n. (s, subst IsLine (later_is e) i);
      pair = λ d ds n w. absurd (both_ways (is_of (codes "\\") c) b n);
      some = λ n. absurd (both_ways (is_of (codes "\\") c) b n);
    }
line_view t (IsLine.pair {c = x} {text} h i) c cs e =
    let b : is_of (codes "\\") c ≡ true = ap (is_of (codes "\\")) (sym (first_is e)) in
    let l : cs ≡ x ∷ text = sym (later_is e) in
    record {
      plain = λ n. absurd (both_ways (is_of (codes "\\") c) n b);
      pair = λ d ds n w. let v : x ∷ text ≡ d ∷ ds = sym l ∙ w in (ap (is_of (codes "\n\r")) (sym (first_is v)) ∙ not-true (is_of (codes "\n\r") x) h, subst IsLine (later_is v) i);
      some = λ n. let k = ap length l in omega (arith, k);
    }

hex_digits_in_line : (digits more : List ℕ) → list_all is_ascii_hexdigit digits ≡ true → IsLine (digits ++ more) → IsLine more
hex_digits_in_line [] more a i = i
hex_digits_in_line (c ∷ cs) more a i =
    let p = and_parts (is_ascii_hexdigit c) (list_all is_ascii_hexdigit cs) a in
    let b : is_of (codes "\\") c ≡ false = not_of is_ascii_hexdigit (codes "\\") c refl p.0 in
    hex_digits_in_line cs more p.1 ((line_view (c ∷ (cs ++ more)) i c (cs ++ more) refl).plain b).1

escape_in_line : (e more : List ℕ) (unit : ℕ) → IsEscape e unit → IsLine (e ++ more) → IsLine more
escape_in_line e more unit (IsEscape.simple {c} h) i = ((line_view (92 ∷ c ∷ more) i 92 (c ∷ more) refl).pair c more refl refl).1
escape_in_line e more unit (IsEscape.unicode {digits} a n) i =
    hex_digits_in_line digits more a ((line_view (92 ∷ 117 ∷ (digits ++ more)) i 92 (117 ∷ (digits ++ more)) refl).pair 117 (digits ++ more) refl refl).1

line_of_digits : (digits more : List ℕ) → list_all is_ascii_hexdigit digits ≡ true → IsLine more → IsLine (digits ++ more)
line_of_digits [] more a i = i
line_of_digits (c ∷ cs) more a i =
    let p = and_parts (is_ascii_hexdigit c) (list_all is_ascii_hexdigit cs) a in
    let s : is_special c ≡ false = not_of is_ascii_hexdigit (codes "\"\\\n\r") c refl p.0 in
    IsLine.plain (not_from_false (is_special c) s) (line_of_digits cs more p.1 i)

escape_line : (e more : List ℕ) (unit : ℕ) → IsEscape e unit → IsLine more → IsLine (e ++ more)
escape_line e more unit (IsEscape.simple {c} h) i = let r = escape_is (92 ∷ c ∷ []) unit (IsEscape.simple h) in
    let w : c ≡ r.first = first_is (later_is r.whole) in
    IsLine.pair (not_from_false (is_of (codes "\n\r") c) (ap (is_of (codes "\n\r")) w ∙ r.no_end)) i
escape_line e more unit (IsEscape.unicode {digits} a n) i = IsLine.pair refl (line_of_digits digits more a i)

spells_line : (text units : List ℕ) → Spells text units → IsLine text
spells_line text units Spells.none = IsLine.none
spells_line text units (Spells.plain {text = t} {units = us} h s) = IsLine.plain h (spells_line t us s)
spells_line text units (Spells.escape {e} {text = t} {units = us} {unit} i s) = escape_line e t unit i (spells_line t us s)

-- ---- the units

skipped : (w : List ℕ) (at : ℕ) (us more : List ℕ) → escaped_units (length w) at us (w ++ more) ≡ escaped_units 0 (at + length w) us more
skipped [] at us more = let z : at ≡ at + 0 = omega arith in ap (λ k. escaped_units 0 k us more) z
skipped (c ∷ cs) at us more =
    let z : at + 1 + length cs ≡ at + suc (length cs) = omega arith in
    skipped cs (at + 1) us more ∙ ap (λ k. escaped_units 0 k us more) z

escape_taken : (at : ℕ) (us cs : List ℕ) (s : Spelling) → escape_at cs ≡ s
    → escaped_units 0 at us (92 ∷ cs) ≡ after_escape (λ n us. escaped_units n (at + 1) us cs) at us s.unit s.len
escape_taken at us cs s e = ap (λ s. after_escape (λ n us. escaped_units n (at + 1) us cs) at us s.unit s.len) e

spelled_front : (text units : List ℕ) → Spells text units → (at : ℕ) (us more : List ℕ) → escaped_units 0 at us (text ++ more) ≡ escaped_units 0 (at + length text) (us ++ units) more
spelled_front text units Spells.none at us more =
    let z : at ≡ at + 0 = omega arith in
    ap (λ k. escaped_units 0 k us more) z ∙ ap (λ v. escaped_units 0 (at + 0) v more) (sym (append-nil us))
spelled_front text units (Spells.plain {c} {text = t} {units = vs} h s) at us more =
    let b : is_of (codes "\\") c ≡ false = not_in (codes "\\") (codes "\"\\\n\r") c refl (not-true (is_special c) h) in
    let z : at + 1 + length t ≡ at + suc (length t) = omega arith in
    rw b (spelled_front t vs s (at + 1) (us ++ encode_utf16 c) more ∙ ap (λ k. escaped_units 0 k ((us ++ encode_utf16 c) ++ vs) more) z
    ∙ ap (λ v. escaped_units 0 (at + suc (length t)) v more) (append_assoc us (encode_utf16 c) vs))
spelled_front text units (Spells.escape {e} {text = t} {units = vs} {unit} i s) at us more =
    let r = escape_is e unit i in
    let w : List ℕ = r.first ∷ r.later in
    let n : length (e ++ t) ≡ suc (length w) + length t = length-append e t ∙ ap (λ x. length x + length t) r.whole in
    let z : at + 1 + length w + length t ≡ at + length (e ++ t) = omega (arith, n) in
    ap (escaped_units 0 at us) (append_assoc e t more ∙ ap (λ x. x ++ (t ++ more)) r.whole)
    ∙ escape_taken at us (w ++ (t ++ more)) (record { unit = Some unit; len = length w }) (r.spelling (t ++ more))
    ∙ skipped w (at + 1) (us ++ unit ∷ []) (t ++ more)
    ∙ spelled_front t vs s (at + 1 + length w) (us ++ unit ∷ []) more
    ∙ ap (λ k. escaped_units 0 k ((us ++ unit ∷ []) ++ vs) more) z
    ∙ ap (λ v. escaped_units 0 (at + length (e ++ t)) v more) (append_assoc us (unit ∷ []) vs)

spelled : (text units : List ℕ) → Spells text units → escaped_units 0 0 [] text ≡ Ok units
spelled text units s = ap (escaped_units 0 0 []) (sym (append-nil text)) ∙ spelled_front text units s 0 [] []

bad_at : (at : ℕ) (us rest : List ℕ) → (escape_at rest).unit ≡ None → escaped_units 0 at us (92 ∷ rest) ≡ Err at
bad_at at us rest h = ap (λ o. after_escape (λ n us. escaped_units n (at + 1) us rest) at us o (escape_at rest).len) h

none_is : (o : Option ℕ) → is_none o ≡ true → o ≡ None
none_is None h = refl
none_is (Some x) h = absurd cc

none_found : (rest : List ℕ) → ((e more : List ℕ) (unit : ℕ) → 92 ∷ rest ≡ e ++ more → IsEscape e unit → ⊥) → (escape_at rest).unit ≡ None
none_found [] bad = refl
none_found (c ∷ cs) bad = by_end (is_of (codes "\n\r") c) refl
  where
    by_unit : (o : Option ℕ) → UnitIs (92 ∷ take (escape_at (c ∷ cs)).len (c ∷ cs)) o → o ≡ None
    by_unit None i = refl
    by_unit (Some unit) i =
        absurd (bad (92 ∷ take (escape_at (c ∷ cs)).len (c ∷ cs)) (drop (escape_at (c ∷ cs)).len (c ∷ cs)) unit (ap (λ t. 92 ∷ t) (sym (take-append-drop (escape_at (c ∷ cs)).len (c ∷ cs)))) i)

    by_end : (b : Bool) → is_of (codes "\n\r") c ≡ b → (escape_at (c ∷ cs)).unit ≡ None
    by_end false e = by_unit (escape_at (c ∷ cs)).unit (escape_found c cs e).is
    by_end true e = none_is (escape_at (c ∷ cs)).unit (each_of (λ d. is_none (escape_at (d ∷ cs)).unit) (codes "\n\r") c refl e)

misspelled : (text : List ℕ) (at : ℕ) → HasBadEscape text at → escaped_units 0 0 [] text ≡ Err at
misspelled text at b =
    let p = b.place in
    let z : 0 + length b.good ≡ at = omega (arith, p) in
    ap (escaped_units 0 0 []) b.whole ∙ spelled_front b.good b.units b.spelled 0 [] (92 ∷ b.rest) ∙ bad_at (0 + length b.good) b.units b.rest (none_found b.rest b.bad) ∙ ap Err z

-- ---- what is found

-- what the units that are found say of the text
abbrev UnitsAre : List ℕ → ℕ → List ℕ → Result (List ℕ) ℕ → Type 0
UnitsAre us at text (Ok found) = (units : List ℕ) × (found ≡ us ++ units) × Spells text units
UnitsAre us at text (Err place) = (k : ℕ) × (place ≡ at + k) × HasBadEscape text k

units_plain : (us : List ℕ) (at c : ℕ) (cs : List ℕ) (r : Result (List ℕ) ℕ) → is_special c ≡ false → UnitsAre (us ++ encode_utf16 c) (at + 1) cs r → UnitsAre us at (c ∷ cs) r
units_plain us at c cs (Ok found) s u = (encode_utf16 c ++ u.0, u.1 ∙ append_assoc us (encode_utf16 c) u.0, Spells.plain (not_from_false (is_special c) s) u.2)
units_plain us at c cs (Err place) s u =
    let b : HasBadEscape cs u.0 = u.2 in
    let p = u.1 in
    let q = b.place in (
      suc u.0,
      omega (arith, p),
      record {
        good = c ∷ b.good;
        units = encode_utf16 c ++ b.units;
        rest = b.rest;
        whole = ap (λ t. c ∷ t) b.whole;
        place = omega (arith, q);
        spelled = Spells.plain (not_from_false (is_special c) s) b.spelled;
        bad = b.bad;
      },
    )

units_escape : (us : List ℕ) (at unit : ℕ) (e cs : List ℕ) (r : Result (List ℕ) ℕ) → IsEscape e unit → UnitsAre (us ++ unit ∷ []) (at + length e) cs r → UnitsAre us at (e ++ cs) r
units_escape us at unit e cs (Ok found) i u = (unit ∷ u.0, u.1 ∙ append_assoc us (unit ∷ []) u.0, Spells.escape i u.2)
units_escape us at unit e cs (Err place) i u =
    let b : HasBadEscape cs u.0 = u.2 in
    let p = u.1 in
    let q = b.place in
    let n = length-append e b.good in (
      length e + u.0,
      omega (arith, p),
      record {
        good = e ++ b.good;
        units = unit ∷ b.units;
        rest = b.rest;
        whole = ap (λ t. e ++ t) b.whole ∙ sym (append_assoc e b.good (codes "\\" ++ b.rest));
        place = omega (arith, n, q);
        spelled = Spells.escape i b.spelled;
        bad = b.bad;
      },
    )

-- where the text goes on behind so many characters that belong to an escape
units_are : (text : List ℕ) (n at : ℕ) (us : List ℕ) → n ≤ length text → IsLine (drop n text) → UnitsAre us (at + n) (drop n text) (escaped_units n at us text)
units_are [] zero at us l i = ([], sym (append-nil us), Spells.none)
units_are [] (suc n) at us l i = absurd (omega (arith, l))
units_are (c ∷ cs) (suc n) at us l i =
    let z : at + 1 + n ≡ at + suc n = omega arith in
    subst (λ k. UnitsAre us k (drop n cs) (escaped_units n (at + 1) us cs)) z (units_are cs n (at + 1) us (omega (arith, l)) i)
units_are (c ∷ cs) zero at us l i = by (units_are cs) (is_of (codes "\\") c) refl
  where
    v : LineView c cs
    v = line_view (c ∷ cs) i c cs refl

    z0 : at + 0 ≡ at
    z0 = omega arith

    escape : ((n at : ℕ) (us : List ℕ) → n ≤ length cs → IsLine (drop n cs) → UnitsAre us (at + n) (drop n cs) (escaped_units n at us cs)) → is_of (codes "\\") c ≡ true
        → (d : ℕ) (ds : List ℕ) → cs ≡ d ∷ ds → (o : Option ℕ) → (escape_at cs).unit ≡ o
        → UnitsAre us at (c ∷ cs) (after_escape (λ n us. escaped_units n (at + 1) us cs) at us o (escape_at cs).len)
    escape later b d ds w None h = (
      0,
      sym z0,
      record {
        good = [];
        units = [];
        rest = cs;
        whole = ap (λ x. x ∷ cs) (sym (is_of_one 92 c b));
        place = refl;
        spelled = Spells.none;
        bad = no_escape cs h;
      },
    )
    escape later b d ds w (Some unit) h =
        let p = v.pair d ds b w in
        let f : Found cs (escape_at cs) = subst (λ t. Found t (escape_at t)) (sym w) (escape_found d ds p.0) in
        let n : ℕ = (escape_at cs).len in
        let e : IsEscape (92 ∷ take n cs) unit = subst (λ o. UnitIs (92 ∷ take n cs) o) h f.is in
        let g = f.fits in
        let len : length (take n cs) ≡ n = length-take-le n cs g in
        let whole : (92 ∷ take n cs) ++ drop n cs ≡ 92 ∷ cs = ap (λ t. 92 ∷ t) (take-append-drop n cs) in
        let li : IsLine ((92 ∷ take n cs) ++ drop n cs) = subst IsLine (ap (λ x. x ∷ cs) (sym (is_of_one 92 c b)) ∙ sym whole) i in
        let rest : IsLine (drop n cs) = escape_in_line (92 ∷ take n cs) (drop n cs) unit e li in
        let z : at + 1 + n ≡ at + length (92 ∷ take n cs) = omega (arith, len) in
        let u : UnitsAre (us ++ unit ∷ []) (at + length (92 ∷ take n cs)) (drop n cs) (escaped_units n (at + 1) (us ++ unit ∷ []) cs) =
        subst (λ k. UnitsAre (us ++ unit ∷ []) k (drop n cs) (escaped_units n (at + 1) (us ++ unit ∷ []) cs)) z (later n (at + 1) (us ++ unit ∷ []) g rest) in
        subst (λ x. UnitsAre us at (x ∷ cs) (escaped_units n (at + 1) (us ++ unit ∷ []) cs)) (is_of_one 92 c b)
        (subst (λ t. UnitsAre us at t (escaped_units n (at + 1) (us ++ unit ∷ []) cs)) whole (units_escape us at unit (92 ∷ take n cs) (drop n cs) (escaped_units n (at + 1) (us ++ unit ∷ []) cs) e u))

    some : ((n at : ℕ) (us : List ℕ) → n ≤ length cs → IsLine (drop n cs) → UnitsAre us (at + n) (drop n cs) (escaped_units n at us cs)) → is_of (codes "\\") c ≡ true
        → (t : List ℕ) → cs ≡ t → UnitsAre us at (c ∷ cs) (after_escape (λ n us. escaped_units n (at + 1) us cs) at us (escape_at cs).unit (escape_at cs).len)
    some later b [] w = let k = v.some b in let m : length cs ≡ 0 = ap length w in absurd (omega (arith, k, m))
    some later b (d ∷ ds) w = escape later b d ds w (escape_at cs).unit refl

    by : ((n at : ℕ) (us : List ℕ) → n ≤ length cs → IsLine (drop n cs) → UnitsAre us (at + n) (drop n cs) (escaped_units n at us cs)) → (b : Bool) → is_of (codes "\\") c ≡ b
        → UnitsAre us (at + 0) (c ∷ cs)
        (cond b (after_escape (λ n us. escaped_units n (at + 1) us cs) at us (escape_at cs).unit (escape_at cs).len) (escaped_units 0 (at + 1) (us ++ encode_utf16 c) cs))
    by later true b = rw z0 (some later b cs refl)
    by later false b =
        let p = v.plain b in
        let z : at + 1 + 0 ≡ at + 1 = omega arith in
        rw z0 (units_plain us at c cs (escaped_units 0 (at + 1) (us ++ encode_utf16 c) cs) p.0
        (subst (λ k. UnitsAre (us ++ encode_utf16 c) k cs (escaped_units 0 (at + 1) (us ++ encode_utf16 c) cs)) z (later 0 (at + 1) (us ++ encode_utf16 c) (omega arith) p.1)))

-- ---- strings of one line

string_text : (content more cs : List ℕ) → 34 ∷ cs ≡ (codes "\"" ++ (content ++ codes "\"")) ++ more → cs ≡ content ++ (34 ∷ more)
string_text content more cs e = later_is e ∙ append_assoc content (codes "\"") more

string_length : (content : List ℕ) → length (codes "\"" ++ (content ++ codes "\"")) ≡ length content + 2
string_length content = let l = length-append content (codes "\"") in omega (arith, l)

-- a string that stands there is the one that is found
line_is : (cs content more : List ℕ) (m : ℕ) → closing_quote 0 false cs ≡ Some m → IsLine content → cs ≡ content ++ (34 ∷ more) → m ≡ length content
line_is cs content more m h i e = same_Some m (0 + length content) (sym h ∙ ap (closing_quote 0 false) e ∙ line_closes content i 0 more) ∙ zero_more (length content)
  where
    zero_more : (n : ℕ) → 0 + n ≡ n
    zero_more n = omega arith

same_content : (cs content rest other more : List ℕ) → closing_quote 0 false cs ≡ Some (length content) → cs ≡ content ++ (34 ∷ rest) → IsLine other → cs ≡ other ++ (34 ∷ more) → other ≡ content
same_content cs content rest other more h e i w = (same_fronts other (34 ∷ more) content (34 ∷ rest) (sym w ∙ e) (sym (line_is cs other more (length content) h i w))).0

-- three quotes at the front
three : (cs more : List ℕ) (t : List ℕ) → 34 ∷ cs ≡ (codes "\"\"\"" ++ t) ++ more → begins_quotes 3 (34 ∷ cs) ≡ true
three cs more t e = ap (begins_quotes 3) e

line_rival : (cs content rest : List ℕ) → closing_quote 0 false cs ≡ Some (length content) → cs ≡ content ++ (34 ∷ rest) → begins_quotes 3 (34 ∷ cs) ≡ false → (other more : List ℕ) (q : Piece)
    → 34 ∷ cs ≡ other ++ more → View Head.Double other more q → Rival (codes "\"" ++ (content ++ codes "\"")) (closed_line (length content) (escaped_units 0 0 [] content)) other q
line_rival cs content rest h e n other more q w (View.string {content = c} {units} s k) =
    let x = same_content cs content rest c more h e (spells_line c units s) (string_text c more cs w) in
    let l : length c ≡ length content = ap length x in
    let a = string_length content in
    let b = string_length c in
    let r : escaped_units 0 0 [] content ≡ Ok units = ap (escaped_units 0 0 []) (sym x) ∙ spelled c units s in
    record { shorter = omega (arith, l, a, b); same = λ z. ap (λ j. string_of units (j + 2)) l ∙ ap (closed_line (length content)) (sym r) }
line_rival cs content rest h e n other more q w (View.bad_string {content = c} {at} i k) =
    let x = same_content cs content rest c more h e i (string_text c more cs w) in
    let l : length c ≡ length content = ap length x in
    let a = string_length content in
    let b = string_length c in
    let r : escaped_units 0 0 [] content ≡ Err at = ap (escaped_units 0 0 []) (sym x) ∙ misspelled c at k in
    record { shorter = omega (arith, l, a, b); same = λ z. ap (closed_line (length content)) (sym r) }
line_rival cs content rest h e n other more q w (View.lines b c x y z) = absurd (both_ways (begins_quotes 3 (34 ∷ cs)) n (three cs more ((b ++ c) ++ codes "\"\"\"") w))

line_open : (cs : List ℕ) → closing_quote 0 false cs ≡ None → begins_quotes 3 (34 ∷ cs) ≡ false → (other more : List ℕ) (q : Piece) → 34 ∷ cs ≡ other ++ more → View Head.Double other more q → ⊥
line_open cs h n other more q w (View.string {content = c} {units} s k) =
    none-some (0 + length c) (sym h ∙ ap (closing_quote 0 false) (string_text c more cs w) ∙ line_closes c (spells_line c units s) 0 more)
line_open cs h n other more q w (View.bad_string {content = c} {at} i k) = none-some (0 + length c) (sym h ∙ ap (closing_quote 0 false) (string_text c more cs w) ∙ line_closes c i 0 more)
line_open cs h n other more q w (View.lines b c x y z) = both_ways (begins_quotes 3 (34 ∷ cs)) n (three cs more ((b ++ c) ++ codes "\"\"\"") w)

-- an empty string isn't followed by a quote
no_third : (content rest : List ℕ) → begins_quotes 3 (34 ∷ (content ++ (34 ∷ rest))) ≡ false → content ≡ [] → begins is_quote rest ≡ false
no_third content rest n e = by rest (sym (ap (λ t. begins_quotes 3 (34 ∷ (t ++ (34 ∷ rest)))) e) ∙ n)
  where
    by : (t : List ℕ) → begins_quotes 1 t ≡ false → begins is_quote t ≡ false
    by [] h = refl
    by (c ∷ cs) h = one (is_quote c) h
      where
        one : (b : Bool) → (b && true) ≡ false → b ≡ false
        one true h = absurd cc
        one false h = refl

line_lexical : (content rest : List ℕ) (r : Result (List ℕ) ℕ) → IsLine content → (content ≡ [] → begins is_quote rest ≡ false) → UnitsAre [] 0 content r
    → Lexical (codes "\"" ++ (content ++ codes "\"")) rest (closed_line (length content) r)
line_lexical content rest (Ok found) i k u =
    subst (λ us. Lexical (codes "\"" ++ (content ++ codes "\"")) rest (string_of us (length content + 2))) (sym u.1) (Lexical.string u.2 k)
line_lexical content rest (Err at) i k u =
    let p = u.1 in
    let z : at ≡ u.0 = omega (arith, p) in
    subst (λ k. Lexical (codes "\"" ++ (content ++ codes "\"")) rest (piece.Refused rule.BadEscape (k + 1) 1)) (sym z) (Lexical.bad_string i u.2)

pub line_at : (cs : List ℕ) → head_at 34 ≡ Head.Double → begins_quotes 3 (34 ∷ cs) ≡ false → Judged 34 cs (line_string cs)
unfolding line_string
line_at cs k n = by (closing_quote 0 false cs) refl
  where
    open_piece : piece.Refused rule.OpenText 0 1 ≡ piece.Refused rule.OpenText 0 (cond (begins_quotes 3 (34 ∷ cs)) 3 1)
    open_piece = ap (λ b. piece.Refused rule.OpenText 0 (cond b 3 1)) (sym n)

    by : (o : Option ℕ) → closing_quote 0 false cs ≡ o → Judged 34 cs (line_piece cs o)
    by None h = Judged.unclosed (nothing_is Head.Double 34 cs k (line_open cs h n)) open_piece
    by (Some m) h =
        let r = line_closed cs 0 false m h in
        let p = r.place in
        let l : m ≡ length r.content = omega (arith, p) in
        let t : take m cs ≡ r.content = ap (take m) r.whole ∙ take_at r.content (34 ∷ r.rest) m (sym l) in
        let z : escaped_units 0 0 [] r.content ≡ escaped_units 0 0 [] (take m cs) = ap (escaped_units 0 0 []) (sym t) in
        let u : UnitsAre [] 0 r.content (escaped_units 0 0 [] r.content) = units_are r.content 0 0 [] (omega arith) r.line in
        let w : 34 ∷ cs ≡ (codes "\"" ++ (r.content ++ codes "\"")) ++ r.rest = ap (λ x. 34 ∷ x) (r.whole ∙ sym (append_assoc r.content (codes "\"") r.rest)) in
        let third : r.content ≡ [] → begins is_quote r.rest ≡ false = no_third r.content r.rest (ap (λ x. begins_quotes 3 (34 ∷ x)) (sym r.whole) ∙ n) in
        let b : Best (34 ∷ cs) (closed_line (length r.content) (escaped_units 0 0 [] r.content)) =
        best_is Head.Double 34 cs (codes "\"" ++ (r.content ++ codes "\"")) r.rest (closed_line (length r.content) (escaped_units 0 0 [] r.content)) k w
        (line_lexical r.content r.rest (escaped_units 0 0 [] r.content) r.line third u)
        (line_rival cs r.content r.rest (h ∙ ap Some l) r.whole n) in
        Judged.closed (subst (λ x. Best (34 ∷ cs) (closed_line m x)) z (subst (λ j. Best (34 ∷ cs) (closed_line j (escaped_units 0 0 [] r.content))) (sym l) b))
