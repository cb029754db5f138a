-- The gap that is found is that of the definition.
use Rattle.std.proofs.Common.{◌≡◌, ℕ, ◌+◌, ◌≤◌, Bool, true, false, cond, List, [], ◌∷◌, ◌++◌, length, take, codes, refl, sym, ap, ◌∙◌, subst, arith, IsTrue, Option, Some, None, ◌⊎◌, inl, inr}
use Rattle.std.specs.Prelude.{◌&&◌, ◌||◌, not, nat_eq}
use Rattle.std.specs.List.{list_all}
use Rattle.std.specs.Str.{encode_utf8_all}
use Rattle.std.proofs.lemmas.Bool.{both_ways, eqb-true}
use Rattle.std.proofs.lemmas.Option.{same_Some}
use Rattle.std.proofs.lemmas.List.{take-append-le, take_all}
use Rattle.scw_lex.specs.declared.token.Gap.{Gap}
use Rattle.scw_lex.specs.declared.token.Gap.TheVariants as gap
use Rattle.scw_lex.specs.Gap.{is_line_end, is_blank, HasBlankLine, IsFirstLineEnd, IsGap, line_end, has_blank_line, ended, gap_of}

-- ---- the first line end

-- a character that is a line end is U+000A
line_end_is : (c : ℕ) → is_line_end c ≡ true → 10 ≡ c
line_end_is c h = by (nat_eq 10 c) refl h
  where
    by : (b : Bool) → nat_eq 10 c ≡ b → (b || false) ≡ true → 10 ≡ c
    by true e h = eqb-true 10 c e
    by false e h = absurd (both_ways false refl h)

none_ends : (n : ℕ) (text : List ℕ) → line_end n text ≡ None → IsTrue (list_all (λ c. not (is_line_end c)) text)
none_ends n [] h = refl
none_ends n (c ∷ cs) h = by (none_ends (n + 1) cs) (is_line_end c) refl h
  where
    by : (line_end (n + 1) cs ≡ None → IsTrue (list_all (λ c. not (is_line_end c)) cs)) → (b : Bool) → is_line_end c ≡ b → cond b (Some n) (line_end (n + 1) cs) ≡ None
        → IsTrue (list_all (λ c. not (is_line_end c)) (c ∷ cs))
    by later true e h = absurd cc
    by later false e h = rw e (later h)

-- a line end stands behind so many characters, and none before
record EndsAt (k : ℕ) (text : List ℕ) : Type 0 where
  before : List ℕ
  after : List ℕ
  whole : text ≡ before ++ (codes "\n" ++ after)
  none : IsTrue (list_all (λ c. not (is_line_end c)) before)
  place : k ≡ length before

ends_later : (c k : ℕ) (cs : List ℕ) → is_line_end c ≡ false → EndsAt k cs → EndsAt (k + 1) (c ∷ cs)
ends_later c k cs e r = record {
  before = c ∷ r.before;
  after = r.after;
  whole = ap (λ t. c ∷ t) r.whole;
  none = rw e r.none;
  place = let p = r.place in omega (arith, p);
}

one_ends : (n k : ℕ) (text : List ℕ) → line_end n text ≡ Some k → (i : ℕ) × (k ≡ n + i) × EndsAt i text
one_ends n k [] h = absurd cc
one_ends n k (c ∷ cs) h = by (one_ends (n + 1) k cs) (is_line_end c) refl h
  where
    by : (line_end (n + 1) cs ≡ Some k → (i : ℕ) × (k ≡ (n + 1) + i) × EndsAt i cs) → (b : Bool) → is_line_end c ≡ b → cond b (Some n) (line_end (n + 1) cs) ≡ Some k
        → (i : ℕ) × (k ≡ n + i) × EndsAt i (c ∷ cs)
    by later true e h =
        let s : n ≡ k = same_Some n k h in
        (0, omega (arith, s), record { before = []; after = cs; whole = ap (λ d. d ∷ cs) (sym (line_end_is c e)); none = refl; place = refl })
    by later false e h = let l = later h in let p = l.1 in (l.0 + 1, omega (arith, p), ends_later c l.0 cs e l.2)

first_line_end : (at k : ℕ) (text : List ℕ) → line_end 0 text ≡ Some k → IsFirstLineEnd at text (at + length (encode_utf8_all (take k text)))
first_line_end at k text h =
    let o = one_ends 0 k text h in
    let e : EndsAt o.0 text = o.2 in
    let p = e.place in
    let q = o.1 in
    let n : k ≡ length e.before = omega (arith, p, q) in
    let l : length e.before ≤ length e.before = omega arith in
    record {
      before = e.before;
      after = e.after;
      whole = e.whole;
      none = e.none;
      place = ap (λ t. at + length (encode_utf8_all t))
          (ap (λ m. take m text) n ∙ ap (take (length e.before)) e.whole ∙ take-append-le (length e.before) e.before (codes "\n" ++ e.after) l ∙ take_all (length e.before) e.before l);
    }

-- ---- blank lines

-- white space alone stands before the first line end
record Opens (text : List ℕ) : Type 0 where
  line : List ℕ
  after : List ℕ
  whole : text ≡ line ++ (codes "\n" ++ after)
  blank : IsTrue (list_all is_blank line)

blank_is_no_end : (c : ℕ) → is_blank c ≡ true → is_line_end c ≡ false
blank_is_no_end c h = by (is_line_end c) refl
  where
    by : (b : Bool) → is_line_end c ≡ b → b ≡ false
    by false e = refl
    by true e = let t : is_blank 10 ≡ true = subst (λ d. is_blank d ≡ true) (sym (line_end_is c e)) h in absurd (both_ways false refl t)

blank_later : (c : ℕ) (cs : List ℕ) → is_blank c ≡ true → Opens cs → Opens (c ∷ cs)
blank_later c cs e o = record { line = c ∷ o.line; after = o.after; whole = ap (λ t. c ∷ t) o.whole; blank = rw e o.blank }

line_later : (c : ℕ) (cs : List ℕ) → HasBlankLine cs → HasBlankLine (c ∷ cs)
line_later c cs h = record { before = c ∷ h.before; line = h.line; after = h.after; whole = ap (λ t. c ∷ t) h.whole; blank = h.blank }

line_here : (c : ℕ) (cs : List ℕ) → is_line_end c ≡ true → Opens cs → HasBlankLine (c ∷ cs)
line_here c cs e o = record { before = []; line = o.line; after = o.after; whole = ap (λ d. d ∷ cs) (sym (line_end_is c e)) ∙ ap (λ t. 10 ∷ t) o.whole; blank = o.blank }

-- what the test says: a blank line, or, where the text stands behind white space alone, the end of one
Blank : Bool → List ℕ → Type 0
Blank is_open text = HasBlankLine text ⊎ ((is_open ≡ true) × Opens text)

blank_is_there : (is_open : Bool) (text : List ℕ) → has_blank_line is_open text ≡ true → Blank is_open text
unfolding Blank
blank_is_there is_open [] h = absurd cc
blank_is_there is_open (c ∷ cs) h = by (blank_is_there true cs) (blank_is_there (is_open && is_blank c) cs) (is_line_end c) refl h
  where
    ended_here : (b : Bool) → is_open ≡ b → is_line_end c ≡ true → (has_blank_line true cs ≡ true → Blank true cs) → (b || has_blank_line true cs) ≡ true → Blank is_open (c ∷ cs)
    ended_here true o e later h = inr (o, record { line = []; after = cs; whole = ap (λ d. d ∷ cs) (sym (line_end_is c e)); blank = refl })
    ended_here false o e later h = elim (later h) [ inl w ↦ inl (line_later c cs w) | inr w ↦ inl (line_here c cs e w.1) ]

    goes_on : (b : Bool) → is_blank c ≡ b → (has_blank_line (is_open && is_blank c) cs ≡ true → Blank (is_open && is_blank c) cs) → has_blank_line (is_open && is_blank c) cs ≡ true → Blank is_open (c ∷ cs)
    goes_on b e later h = elim (later h) [ inl w ↦ inl (line_later c cs w) | inr w ↦ inr (both is_open (is_blank c) refl w.0 w.1) ]
      where
        both : (o k : Bool) → is_blank c ≡ k → (o && k) ≡ true → Opens cs → (o ≡ true) × Opens (c ∷ cs)
        both true true e h p = (refl, blank_later c cs e p)
        both true false e h p = absurd cc
        both false k e h p = absurd cc

    by : (has_blank_line true cs ≡ true → Blank true cs) → (has_blank_line (is_open && is_blank c) cs ≡ true → Blank (is_open && is_blank c) cs) → (b : Bool) → is_line_end c ≡ b
        → cond b (is_open || has_blank_line true cs) (has_blank_line (is_open && is_blank c) cs) ≡ true → Blank is_open (c ∷ cs)
    by first later true e h = ended_here is_open refl e first h
    by first later false e h = goes_on (is_blank c) refl later h

opens_is_found : (line after : List ℕ) → IsTrue (list_all is_blank line) → has_blank_line true (line ++ (codes "\n" ++ after)) ≡ true
opens_is_found [] after b = refl
opens_is_found (c ∷ cs) after b = by (opens_is_found cs after) (is_blank c) refl b
  where
    by : (IsTrue (list_all is_blank cs) → has_blank_line true (cs ++ (codes "\n" ++ after)) ≡ true) → (k : Bool) → is_blank c ≡ k → IsTrue (k && list_all is_blank cs)
        → has_blank_line true (c ∷ (cs ++ (codes "\n" ++ after))) ≡ true
    by later false e h = absurd cc
    by later true e h = rw (blank_is_no_end c e, e) (later h)

or_true : (a b : Bool) → b ≡ true → (a || b) ≡ true
or_true true b h = refl
or_true false b h = h

line_is_found : (is_open : Bool) (before line after : List ℕ) → IsTrue (list_all is_blank line)
    → has_blank_line is_open (before ++ (codes "\n" ++ (line ++ (codes "\n" ++ after)))) ≡ true
line_is_found is_open [] line after b = or_true is_open (has_blank_line true (line ++ (codes "\n" ++ after))) (opens_is_found line after b)
line_is_found is_open (c ∷ cs) line after b = by (line_is_found true cs line after b) (line_is_found (is_open && is_blank c) cs line after b) (is_line_end c)
  where
    by : has_blank_line true (cs ++ (codes "\n" ++ (line ++ (codes "\n" ++ after)))) ≡ true → has_blank_line (is_open && is_blank c) (cs ++ (codes "\n" ++ (line ++ (codes "\n" ++ after)))) ≡ true
        → (e : Bool) → cond e (is_open || has_blank_line true (cs ++ (codes "\n" ++ (line ++ (codes "\n" ++ after)))))
        (has_blank_line (is_open && is_blank c) (cs ++ (codes "\n" ++ (line ++ (codes "\n" ++ after))))) ≡ true
    by first later true = or_true is_open _ first
    by first later false = later

-- ---- the gap

no_line : (text : List ℕ) → has_blank_line false text ≡ false → HasBlankLine text → ⊥
no_line text f h = both_ways (has_blank_line false text) f (ap (has_blank_line false) h.whole ∙ line_is_found false h.before h.line h.after h.blank)

a_line : (text : List ℕ) → has_blank_line false text ≡ true → HasBlankLine text
unfolding Blank
a_line text h = elim (blank_is_there false text h) [ inl w ↦ w | inr w ↦ let f = w.0 in absurd cc ]

pub gap_is : (at : ℕ) (text : List ℕ) → IsGap at text (gap_of at text)
unfolding gap_of
gap_is at text = by (line_end 0 text) refl
  where
    lined : (k : ℕ) → line_end 0 text ≡ Some k → (b : Bool) → has_blank_line false text ≡ b
        → IsGap at text (cond b (gap.BlankLine (at + length (encode_utf8_all (take k text)))) (gap.LineEnd (at + length (encode_utf8_all (take k text)))))
    lined k e true b = (first_line_end at k text e, a_line text b)
    lined k e false b = (first_line_end at k text e, no_line text b)

    by : (o : Option ℕ) → line_end 0 text ≡ o → IsGap at text (ended at text o)
    by None e = none_ends 0 text e
    by (Some k) e = lined k e (has_blank_line false text) refl

-- ---- there is no other

none_is_found : (n : ℕ) (text : List ℕ) → IsTrue (list_all (λ c. not (is_line_end c)) text) → line_end n text ≡ None
none_is_found n [] h = refl
none_is_found n (c ∷ cs) h = by (none_is_found (n + 1) cs) (is_line_end c) h
  where
    by : (IsTrue (list_all (λ c. not (is_line_end c)) cs) → line_end (n + 1) cs ≡ None) → (b : Bool) → IsTrue (not b && list_all (λ c. not (is_line_end c)) cs)
        → cond b (Some n) (line_end (n + 1) cs) ≡ None
    by later true h = absurd cc
    by later false h = later h

end_is_found : (n : ℕ) (before after : List ℕ) → IsTrue (list_all (λ c. not (is_line_end c)) before) → line_end n (before ++ (codes "\n" ++ after)) ≡ Some (n + length before)
end_is_found n [] after h = ap Some (omega arith)
end_is_found n (c ∷ cs) after h = by (end_is_found (n + 1) cs after) (is_line_end c) h
  where
    by : (IsTrue (list_all (λ c. not (is_line_end c)) cs) → line_end (n + 1) (cs ++ (codes "\n" ++ after)) ≡ Some ((n + 1) + length cs)) → (b : Bool)
        → IsTrue (not b && list_all (λ c. not (is_line_end c)) cs) → cond b (Some n) (line_end (n + 1) (cs ++ (codes "\n" ++ after))) ≡ Some (n + length (c ∷ cs))
    by later true h = absurd cc
    by later false h = later h ∙ ap Some (omega arith)

first_is_found : (at first : ℕ) (text : List ℕ) → IsFirstLineEnd at text first → (k : ℕ) × (line_end 0 text ≡ Some k) × (first ≡ at + length (encode_utf8_all (take k text)))
first_is_found at first text is =
    let l : length is.before ≤ length is.before = omega arith in
    let front : take (length is.before) text ≡ is.before
    = ap (take (length is.before)) is.whole ∙ take-append-le (length is.before) is.before (codes "\n" ++ is.after) l ∙ take_all (length is.before) is.before l in
    let none : 0 + length is.before ≡ length is.before = omega arith in
    (length is.before, ap (line_end 0) is.whole ∙ end_is_found 0 is.before is.after is.none ∙ ap Some none, is.place ∙ ap (λ t. at + length (encode_utf8_all t)) (sym front))

has_line : (text : List ℕ) → HasBlankLine text → has_blank_line false text ≡ true
has_line text h = ap (has_blank_line false) h.whole ∙ line_is_found false h.before h.line h.after h.blank

has_no_line : (text : List ℕ) → (HasBlankLine text → ⊥) → has_blank_line false text ≡ false
has_no_line text h = by (has_blank_line false text) refl
  where
    by : (b : Bool) → has_blank_line false text ≡ b → b ≡ false
    by true e = absurd (h (a_line text e))
    by false e = refl

pub gap_only : (at : ℕ) (text : List ℕ) (g : Gap) → IsGap at text g → g ≡ gap_of at text
unfolding gap_of
gap_only at text gap.Joined h = rw (none_is_found 0 text h) refl
gap_only at text (gap.LineEnd first) h = let f = first_is_found at first text h.0 in rw (f.1, has_no_line text h.1) (ap gap.LineEnd f.2)
gap_only at text (gap.BlankLine first) h = let f = first_is_found at first text h.0 in rw (f.1, has_line text h.1) (ap gap.BlankLine f.2)
