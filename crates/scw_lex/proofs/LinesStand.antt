-- Strings of many lines stand where they are found.
use Rattle.std.proofs.Common.{◌≡◌, ℕ, suc, ◌+◌, Bool, true, false, cond, List, [], ◌∷◌, ◌++◌, length, take, codes, refl, sym, ap, ◌∙◌, subst, arith, Option, Some, None, append_assoc}
use Rattle.std.specs.Prelude.{◌&&◌, not}
use Rattle.std.specs.List.{list_all}
use Rattle.std.proofs.lemmas.Bool.{and_parts, and_from, both_ways, not-true}
use Rattle.std.proofs.lemmas.Option.{same_Some, none-some}
use Rattle.std.proofs.lemmas.List.{take_at, length-append}
use Rattle.scw_lex.specs.declared.piece.Piece.{Piece}
use Rattle.scw_lex.specs.Character.{is_of, begins, class_of}
use Rattle.scw_lex.specs.Literal.{begins_quotes, closing_quotes, closed_lines, lines_piece, lines_string, line_string, string_piece}
use Rattle.scw_lex.specs.Lexical.{Spells, IsLine, HasBadEscape, HasNoRun, is_quote, Lexical}
use Rattle.scw_lex.proofs.TextLemmas.{same_fronts, first_is, later_is}
use Rattle.scw_lex.proofs.CommentLemmas.{is_of_one, is_not_of_one}
use Rattle.scw_lex.proofs.EscapeLemmas.{not_in, escape_is}
use Rattle.scw_lex.proofs.HeadLemmas.{Head, View, head_at}
use Rattle.scw_lex.proofs.BestLemmas.{Rival, Best, best_is, nothing_is}
use Rattle.scw_lex.proofs.CharactersStand.{Judged}
use Rattle.scw_lex.proofs.StringsStand.{line_at}

-- ---- runs of quotes

empty_has_no_run : HasNoRun []
empty_has_no_run = record { no_three = no_three; no_last = no_last }
  where
    no_three : (before after : List ℕ) → [] ≡ before ++ (codes "\"\"\"" ++ after) → ⊥
    no_three [] after e = absurd cc
    no_three (d ∷ ds) after e = absurd cc

    no_last : (before : List ℕ) → [] ≡ before ++ codes "\"" → ⊥
    no_last [] e = absurd cc
    no_last (d ∷ ds) e = absurd cc

no_run_later : (c : ℕ) (t : List ℕ) → HasNoRun (c ∷ t) → HasNoRun t
no_run_later c t r = record {
  no_three = λ before after e. r.no_three (c ∷ before) after (ap (λ u. c ∷ u) e);
  no_last = λ before e. r.no_last (c ∷ before) (ap (λ u. c ∷ u) e);
}

-- one character more makes no run
no_run_more : (c : ℕ) (t : List ℕ) → HasNoRun t → ((after : List ℕ) → c ∷ t ≡ codes "\"\"\"" ++ after → ⊥) → (c ∷ t ≡ codes "\"" → ⊥) → HasNoRun (c ∷ t)
no_run_more c t r h k = record { no_three = no_three; no_last = no_last }
  where
    no_three : (before after : List ℕ) → c ∷ t ≡ before ++ (codes "\"\"\"" ++ after) → ⊥
    no_three [] after e = h after e
    no_three (d ∷ ds) after e = r.no_three ds after (later_is e)

    no_last : (before : List ℕ) → c ∷ t ≡ before ++ codes "\"" → ⊥
    no_last [] e = k e
    no_last (d ∷ ds) e = r.no_last ds (later_is e)

-- a text with no run that isn't empty begins with fewer than three quotes, whatever follows
few_quotes : (c : ℕ) (t more : List ℕ) → HasNoRun (c ∷ t) → begins_quotes 3 ((c ∷ t) ++ more) ≡ false
few_quotes c [] more r = by (is_quote c) refl
  where
    by : (b : Bool) → is_quote c ≡ b → (b && begins_quotes 2 more) ≡ false
    by true e = absurd (r.no_last [] (ap (λ d. d ∷ []) (sym (is_of_one 34 c e))))
    by false e = refl
few_quotes c (d ∷ []) more r = by (is_quote c) refl (is_quote d) refl
  where
    by : (b : Bool) → is_quote c ≡ b → (k : Bool) → is_quote d ≡ k → (b && (k && begins_quotes 1 more)) ≡ false
    by true e true f = absurd (r.no_last (c ∷ []) (ap (λ x. c ∷ x ∷ []) (sym (is_of_one 34 d f))))
    by true e false f = refl
    by false e k f = refl
few_quotes c (d ∷ g ∷ t) more r = by (is_quote c) refl (is_quote d) refl (is_quote g) refl
  where
    by : (b : Bool) → is_quote c ≡ b → (k : Bool) → is_quote d ≡ k → (l : Bool) → is_quote g ≡ l → (b && (k && (l && true))) ≡ false
    by true e true f true h =
        absurd (r.no_three [] t (ap (λ x. x ∷ d ∷ g ∷ t) (sym (is_of_one 34 c e)) ∙ ap (λ x. 34 ∷ x ∷ g ∷ t) (sym (is_of_one 34 d f)) ∙ ap (λ x. 34 ∷ 34 ∷ x ∷ t) (sym (is_of_one 34 g h))))
    by true e true f false h = refl
    by true e false f l h = refl
    by false e k f l h = refl

-- quotes before three quotes
many_quotes : (quotes rest : List ℕ) → list_all is_quote quotes ≡ true → begins_quotes 3 (quotes ++ (codes "\"\"\"" ++ rest)) ≡ true
many_quotes [] rest a = refl
many_quotes (c ∷ []) rest a = rw (and_parts (is_quote c) true a).0 refl
many_quotes (c ∷ d ∷ []) rest a =
    let p = and_parts (is_quote c) (is_quote d && true) a in
    rw (p.0, (and_parts (is_quote d) true p.1).0) refl
many_quotes (c ∷ d ∷ g ∷ t) rest a =
    let p = and_parts (is_quote c) (is_quote d && (is_quote g && list_all is_quote t)) a in
    let q = and_parts (is_quote d) (is_quote g && list_all is_quote t) p.1 in
    let s = and_parts (is_quote g) (list_all is_quote t) q.1 in
    rw (p.0, q.0, s.0) refl

one_quote : (rest : List ℕ) → begins is_quote rest ≡ false → begins_quotes 1 rest ≡ false
one_quote [] h = refl
one_quote (c ∷ cs) h = rw h refl

no_one_quote : (rest : List ℕ) → begins_quotes 1 rest ≡ false → begins is_quote rest ≡ false
no_one_quote [] h = refl
no_one_quote (c ∷ cs) h = one (is_quote c) h
  where
    one : (b : Bool) → (b && true) ≡ false → b ≡ false
    one true h = absurd cc
    one false h = refl

-- ---- where the string is closed

run_closes : (quotes rest : List ℕ) → list_all is_quote quotes ≡ true → begins is_quote rest ≡ false → (n : ℕ) → closing_quotes n (quotes ++ (codes "\"\"\"" ++ rest)) ≡ Some (n + length quotes)
run_closes [] rest a h n =
    let z : n ≡ n + 0 = omega arith in
    rw (one_quote rest h) (ap Some z)
run_closes (c ∷ cs) rest a h n =
    let p = and_parts (is_quote c) (list_all is_quote cs) a in
    let m : begins_quotes 3 (cs ++ (codes "\"\"\"" ++ rest)) ≡ true = many_quotes cs rest p.1 in
    let f : begins_quotes 4 (c ∷ (cs ++ (codes "\"\"\"" ++ rest))) ≡ true = and_from (is_quote c) (begins_quotes 3 (cs ++ (codes "\"\"\"" ++ rest))) p.0 m in
    let z : n + 1 + length cs ≡ n + suc (length cs) = omega arith in
    not_here (begins_quotes 3 (c ∷ (cs ++ (codes "\"\"\"" ++ rest)))) (begins_quotes 4 (c ∷ (cs ++ (codes "\"\"\"" ++ rest)))) f ∙ run_closes cs rest p.1 h (n + 1) ∙ ap Some z
  where
    not_here : (b k : Bool) → k ≡ true → cond (b && not k) (Some n) (closing_quotes (n + 1) (cs ++ (codes "\"\"\"" ++ rest))) ≡ closing_quotes (n + 1) (cs ++ (codes "\"\"\"" ++ rest))
    not_here true true e = refl
    not_here false true e = refl
    not_here b false e = absurd cc

lines_close : (before quotes rest : List ℕ) → HasNoRun before → list_all is_quote quotes ≡ true → begins is_quote rest ≡ false → (n : ℕ)
    → closing_quotes n ((before ++ quotes) ++ (codes "\"\"\"" ++ rest)) ≡ Some (n + length (before ++ quotes))
lines_close [] quotes rest r a h n = run_closes quotes rest a h n
lines_close (c ∷ cs) quotes rest r a h n =
    let t : List ℕ = (cs ++ quotes) ++ (codes "\"\"\"" ++ rest) in
    let f : begins_quotes 3 (c ∷ t) ≡ false =
    ap (λ u. begins_quotes 3 (c ∷ u)) (append_assoc cs quotes (codes "\"\"\"" ++ rest)) ∙ few_quotes c cs (quotes ++ (codes "\"\"\"" ++ rest)) r in
    let z : n + 1 + length (cs ++ quotes) ≡ n + suc (length (cs ++ quotes)) = omega arith in
    rw f (lines_close cs quotes rest (no_run_later c cs r) a h (n + 1) ∙ ap Some z)

record LinesClosed (n : ℕ) (text : List ℕ) (m : ℕ) : Type 0 where
  before : List ℕ
  quotes : List ℕ
  rest : List ℕ
  whole : text ≡ (before ++ quotes) ++ (codes "\"\"\"" ++ rest)
  place : m ≡ n + length (before ++ quotes)
  no_run : HasNoRun before
  are : list_all is_quote quotes ≡ true
  ends : begins is_quote rest ≡ false

-- the first three of these characters are quotes, and the next is none
closes_here : (c : ℕ) (cs : List ℕ) (n m : ℕ) → begins_quotes 3 (c ∷ cs) ≡ true → begins_quotes 4 (c ∷ cs) ≡ false → n ≡ m → LinesClosed n (c ∷ cs) m
closes_here c [] n m h k e = absurd (let a = and_parts (is_quote c) false h in let f = a.1 in cc)
closes_here c (d ∷ []) n m h k e =
    absurd (let a = and_parts (is_quote c) (is_quote d && false) h in let b = and_parts (is_quote d) false a.1 in let f = b.1 in cc)
closes_here c (d ∷ g ∷ t) n m h k e =
    let a = and_parts (is_quote c) (is_quote d && (is_quote g && true)) h in
    let b = and_parts (is_quote d) (is_quote g && true) a.1 in
    let f = and_parts (is_quote g) true b.1 in
    let w : begins_quotes 1 t ≡ false = rest_is (is_quote c) (is_quote d) (is_quote g) a.0 b.0 f.0 k in
    record {
      before = [];
      quotes = [];
      rest = t;
      whole = ap (λ x. x ∷ d ∷ g ∷ t) (sym (is_of_one 34 c a.0)) ∙ ap (λ x. 34 ∷ x ∷ g ∷ t) (sym (is_of_one 34 d b.0)) ∙ ap (λ x. 34 ∷ 34 ∷ x ∷ t) (sym (is_of_one 34 g f.0));
      place = omega (arith, e);
      no_run = empty_has_no_run;
      are = refl;
      ends = no_one_quote t w;
    }
  where
    rest_is : (x y z : Bool) → x ≡ true → y ≡ true → z ≡ true → (x && (y && (z && begins_quotes 1 t))) ≡ false → begins_quotes 1 t ≡ false
    rest_is true true true p q r k = k
    rest_is false y z p q r k = absurd cc
    rest_is true false z p q r k = absurd cc
    rest_is true true false p q r k = absurd cc

-- the string closes further on, and none begins to close here
closes_later : (c : ℕ) (cs : List ℕ) (n m : ℕ) → (begins_quotes 3 (c ∷ cs) && not (begins_quotes 4 (c ∷ cs))) ≡ false → LinesClosed (n + 1) cs m → LinesClosed n (c ∷ cs) m
closes_later c cs n m h r = by (is_quote c) refl r.before refl
  where
    grown : (b q : List ℕ) → c ∷ (r.before ++ r.quotes) ≡ b ++ q → HasNoRun b → list_all is_quote q ≡ true → LinesClosed n (c ∷ cs) m
    grown b q e run a =
        let p = r.place in
        let l : suc (length (r.before ++ r.quotes)) ≡ length (b ++ q) = ap length e in
        record {
          before = b;
          quotes = q;
          rest = r.rest;
          whole = ap (λ t. c ∷ t) r.whole ∙ ap (λ t. t ++ (codes "\"\"\"" ++ r.rest)) e;
          place = omega (arith, p, l);
          no_run = run;
          are = a;
          ends = r.ends;
        }

    -- where quotes stand here and behind, three of them would close here
    no_three_here : (b : ℕ) (bs : List ℕ) → r.before ≡ b ∷ bs → is_quote c ≡ true → (after : List ℕ) → c ∷ r.before ≡ codes "\"\"\"" ++ after → ⊥
    no_three_here b bs w q after e =
        let t : cs ≡ r.before ++ (r.quotes ++ (codes "\"\"\"" ++ r.rest)) = r.whole ∙ append_assoc r.before r.quotes (codes "\"\"\"" ++ r.rest) in
        let few : begins_quotes 3 cs ≡ false =
        ap (begins_quotes 3) (t ∙ ap (λ u. u ++ (r.quotes ++ (codes "\"\"\"" ++ r.rest))) w) ∙ few_quotes b bs (r.quotes ++ (codes "\"\"\"" ++ r.rest)) (subst HasNoRun w r.no_run) in
        let all : begins_quotes 3 (c ∷ cs) ≡ true = ap (λ u. begins_quotes 3 (c ∷ u)) t ∙ ap (λ u. begins_quotes 3 (u ++ (r.quotes ++ (codes "\"\"\"" ++ r.rest)))) e in
        clash (begins_quotes 3 (c ∷ cs)) (is_quote c) (begins_quotes 3 cs) all few h
      where
        clash : (x y z : Bool) → x ≡ true → z ≡ false → (x && not (y && z)) ≡ false → ⊥
        clash true true false p q k = absurd cc
        clash true false false p q k = absurd cc
        clash false y z p q k = absurd cc
        clash x y true p q k = absurd cc

    by : (q : Bool) → is_quote c ≡ q → (b : List ℕ) → r.before ≡ b → LinesClosed n (c ∷ cs) m
    by true q [] w = grown [] (c ∷ r.quotes) (ap (λ b. c ∷ (b ++ r.quotes)) w) empty_has_no_run (and_from (is_quote c) (list_all is_quote r.quotes) q r.are)
    by true q (b ∷ bs) w =
        grown (c ∷ r.before) r.quotes refl
        (no_run_more c r.before r.no_run (no_three_here b bs w q) (λ e. let l : suc (length r.before) ≡ 1 = ap length e in let k : length r.before ≡ suc (length bs) = ap length w in absurd (omega (arith, l, k)))) r.are
    by false q b w =
        grown (c ∷ r.before) r.quotes refl
        (no_run_more c r.before r.no_run (λ after e. is_not_of_one 34 c q (sym (first_is e))) (λ e. is_not_of_one 34 c q (sym (first_is e)))) r.are

lines_closed : (text : List ℕ) (n m : ℕ) → closing_quotes n text ≡ Some m → LinesClosed n text m
lines_closed [] n m h = absurd cc
lines_closed (c ∷ cs) n m h = by (lines_closed cs (n + 1) m) (begins_quotes 3 (c ∷ cs)) refl (begins_quotes 4 (c ∷ cs)) refl h
  where
    by : (closing_quotes (n + 1) cs ≡ Some m → LinesClosed (n + 1) cs m) → (b : Bool) → begins_quotes 3 (c ∷ cs) ≡ b → (k : Bool) → begins_quotes 4 (c ∷ cs) ≡ k
        → cond (b && not k) (Some n) (closing_quotes (n + 1) cs) ≡ Some m → LinesClosed n (c ∷ cs) m
    by later true e false f h = closes_here c cs n m e f (same_Some n m h)
    by later true e true f h = closes_later c cs n m (ap (λ k. begins_quotes 3 (c ∷ cs) && not k) f ∙ and_none (begins_quotes 3 (c ∷ cs))) (later h)
      where
        and_none : (b : Bool) → (b && not true) ≡ false
        and_none true = refl
        and_none false = refl
    by later false e k f h = closes_later c cs n m (ap (λ b. b && not (begins_quotes 4 (c ∷ cs))) e) (later h)

-- ---- strings of many lines

lines_text : (content more ds : List ℕ) → 34 ∷ 34 ∷ 34 ∷ ds ≡ (codes "\"\"\"" ++ (content ++ codes "\"\"\"")) ++ more → ds ≡ content ++ (codes "\"\"\"" ++ more)
lines_text content more ds e = later_is (later_is (later_is e)) ∙ append_assoc content (codes "\"\"\"") more

lines_length : (content : List ℕ) → length (codes "\"\"\"" ++ (content ++ codes "\"\"\"")) ≡ length content + 6
lines_length content = let l = length-append content (codes "\"\"\"") in omega (arith, l)

-- no string of one line begins with three quotes
no_line_begins : (content more ds : List ℕ) → IsLine content → 34 ∷ 34 ∷ 34 ∷ ds ≡ (codes "\"" ++ (content ++ codes "\"")) ++ more → (content ≡ []) × (more ≡ 34 ∷ ds)
no_line_begins content more ds IsLine.none e = (refl, sym (later_is (later_is e)))
no_line_begins content more ds (IsLine.plain {c} {text} h i) e =
    let s : is_of (codes "\"") c ≡ false = not_in (codes "\"") (codes "\"\\\n\r") c refl (not-true (is_of (codes "\"\\\n\r") c) h) in
    absurd (is_not_of_one 34 c s (first_is (later_is e)))
no_line_begins content more ds (IsLine.pair {c} {text} h i) e = let k : 34 ≡ 92 = first_is (later_is e) in absurd (omega (arith, k))

no_spells_begin : (content units more ds : List ℕ) → Spells content units → 34 ∷ 34 ∷ 34 ∷ ds ≡ (codes "\"" ++ (content ++ codes "\"")) ++ more → (content ≡ []) × (more ≡ 34 ∷ ds)
no_spells_begin content units more ds Spells.none e = (refl, sym (later_is (later_is e)))
no_spells_begin content units more ds (Spells.plain {c} {text} {units = us} h i) e =
    let s : is_of (codes "\"") c ≡ false = not_in (codes "\"") (codes "\"\\\n\r") c refl (not-true (is_of (codes "\"\\\n\r") c) h) in
    absurd (is_not_of_one 34 c s (first_is (later_is e)))
no_spells_begin content units more ds (Spells.escape {e = x} {text} {units = us} {unit} i s) e =
    let r = escape_is x unit i in
    let k : 34 ≡ 92 = first_is (later_is (e ∙ ap (λ y. (codes "\"" ++ ((y ++ text) ++ codes "\"")) ++ more) r.whole)) in
    absurd (omega (arith, k))

no_bad_begins : (content more ds : List ℕ) (at : ℕ) → IsLine content → HasBadEscape content at → 34 ∷ 34 ∷ 34 ∷ ds ≡ (codes "\"" ++ (content ++ codes "\"")) ++ more → ⊥
no_bad_begins content more ds at i b e =
    let x = (no_line_begins content more ds i e).0 in
    let l = length-append b.good (codes "\\" ++ b.rest) in
    let k : length content ≡ 0 = ap length x in
    let m : length content ≡ length (b.good ++ (codes "\\" ++ b.rest)) = ap length b.whole in
    omega (arith, l, k, m)

no_string_begins : (content units more ds : List ℕ) → Spells content units → (content ≡ [] → begins is_quote more ≡ false) → 34 ∷ 34 ∷ 34 ∷ ds ≡ (codes "\"" ++ (content ++ codes "\"")) ++ more → ⊥
no_string_begins content units more ds s k e =
    let x = no_spells_begin content units more ds s e in
    both_ways (begins is_quote more) (k x.0) (ap (begins is_quote) x.1)

lines_rival : (ds content rest : List ℕ) → closing_quotes 0 ds ≡ Some (length content) → ds ≡ content ++ (codes "\"\"\"" ++ rest) → (other more : List ℕ) (q : Piece)
    → 34 ∷ 34 ∷ 34 ∷ ds ≡ other ++ more → View Head.Double other more q → Rival (codes "\"\"\"" ++ (content ++ codes "\"\"\"")) (closed_lines content) other q
lines_rival ds content rest h e other more q w (View.string {content = c} {units} s k) = absurd (no_string_begins c units more ds s k w)
lines_rival ds content rest h e other more q w (View.bad_string {content = c} {at} i b) = absurd (no_bad_begins c more ds at i b w)
lines_rival ds content rest h e other more q w (View.lines b c r a k) =
    let t : ds ≡ (b ++ c) ++ (codes "\"\"\"" ++ more) = lines_text (b ++ c) more ds w in
    let n = same_Some (length content) (0 + length (b ++ c)) (sym h ∙ ap (closing_quotes 0) t ∙ lines_close b c more r a k 0) in
    let l : length (b ++ c) ≡ length content = omega (arith, n) in
    let x : b ++ c ≡ content = (same_fronts (b ++ c) (codes "\"\"\"" ++ more) content (codes "\"\"\"" ++ rest) (sym t ∙ e) l).0 in
    let y = lines_length (b ++ c) in
    let z = lines_length content in
    record { shorter = omega (arith, l, y, z); same = λ u. ap closed_lines x }

lines_open : (ds : List ℕ) → closing_quotes 0 ds ≡ None → (other more : List ℕ) (q : Piece) → 34 ∷ 34 ∷ 34 ∷ ds ≡ other ++ more → View Head.Double other more q → ⊥
lines_open ds h other more q w (View.string {content = c} {units} s k) = no_string_begins c units more ds s k w
lines_open ds h other more q w (View.bad_string {content = c} {at} i b) = no_bad_begins c more ds at i b w
lines_open ds h other more q w (View.lines b c r a k) =
    none-some (0 + length (b ++ c)) (sym h ∙ ap (closing_quotes 0) (lines_text (b ++ c) more ds w) ∙ lines_close b c more r a k 0)

lines_at : (ds : List ℕ) → head_at 34 ≡ Head.Double → Judged 34 (34 ∷ 34 ∷ ds) (lines_string ds)
unfolding lines_string
lines_at ds k = by (closing_quotes 0 ds) refl
  where
    by : (o : Option ℕ) → closing_quotes 0 ds ≡ o → Judged 34 (34 ∷ 34 ∷ ds) (lines_piece ds o)
    by None h = Judged.unclosed (nothing_is Head.Double 34 (34 ∷ 34 ∷ ds) k (lines_open ds h)) refl
    by (Some m) h =
        let r = lines_closed ds 0 m h in
        let p = r.place in
        let content : List ℕ = r.before ++ r.quotes in
        let l : m ≡ length content = omega (arith, p) in
        let t : take m ds ≡ content = ap (take m) r.whole ∙ take_at content (codes "\"\"\"" ++ r.rest) m (sym l) in
        let w : 34 ∷ 34 ∷ 34 ∷ ds ≡ (codes "\"\"\"" ++ (content ++ codes "\"\"\"")) ++ r.rest =
        ap (λ x. 34 ∷ 34 ∷ 34 ∷ x) (r.whole ∙ sym (append_assoc content (codes "\"\"\"") r.rest)) in
        let b : Best (34 ∷ 34 ∷ 34 ∷ ds) (closed_lines content) =
        best_is Head.Double 34 (34 ∷ 34 ∷ ds) (codes "\"\"\"" ++ (content ++ codes "\"\"\"")) r.rest (closed_lines content) k w (Lexical.lines r.before r.quotes r.no_run r.are r.ends)
        (lines_rival ds content r.rest (h ∙ ap Some l) r.whole) in
        Judged.closed (subst (λ c. Best (34 ∷ 34 ∷ 34 ∷ ds) (closed_lines c)) (sym t) b)

-- ---- both

string_at : (cs : List ℕ) → head_at 34 ≡ Head.Double → Judged 34 cs (string_piece cs)
string_at [] k = line_at [] k refl
string_at (c ∷ []) k = line_at (c ∷ []) k (none (is_quote c))
  where
    none : (b : Bool) → (b && false) ≡ false
    none true = refl
    none false = refl
string_at (c ∷ d ∷ ds) k = by (is_quote c) refl (is_quote d) refl
  where
    by : (x : Bool) → is_quote c ≡ x → (y : Bool) → is_quote d ≡ y → Judged 34 (c ∷ d ∷ ds) (cond (x && y) (lines_string ds) (line_string (c ∷ d ∷ ds)))
    by true e true f = subst (λ z. Judged 34 (z ∷ d ∷ ds) (lines_string ds)) (is_of_one 34 c e) (subst (λ z. Judged 34 (34 ∷ z ∷ ds) (lines_string ds)) (is_of_one 34 d f) (lines_at ds k))
    by true e false f = line_at (c ∷ d ∷ ds) k (rw (e, f) refl)
    by false e y f = line_at (c ∷ d ∷ ds) k (rw e refl)

pub string_judged : (cs : List ℕ) → Judged 34 cs (string_piece cs)
unfolding class_of
string_judged cs = string_at cs refl
