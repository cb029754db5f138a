-- Escapes at the front of a text.
use Rattle.std.proofs.Common.{◌≡◌, ℕ, suc, ◌+◌, ◌*◌, ◌<◌, ◌≤◌, min, Bool, true, false, cond, List, [], ◌∷◌, ◌++◌, length, take, drop, codes, refl, sym, ap, ◌∙◌, subst, arith, Option, Some, None, is_some, inl, inr}
use Rattle.std.specs.Prelude.{◌&&◌, ◌||◌, not, nat_eq, nat_lt, nat_le}
use Rattle.std.specs.List.{list_all, prefix_len}
use Rattle.std.specs.Char.{is_ascii_hexdigit, digit_value}
use Rattle.std.specs.Str.Parse.{digits_value}
use Rattle.std.proofs.lemmas.Bool.{and_parts, both_ways, or_cases, leb-true, eqb-true, eqb-false, ne_eqb, not-true, not_from_false, agree_below, agree_below_at}
use Rattle.std.proofs.lemmas.Option.{none-some}
use Rattle.std.proofs.lemmas.List.{take-append-drop, take-take, length-take-le}
use Rattle.std.proofs.lemmas.List.Folds.{list_all-append}
use Rattle.scw_lex.specs.declared.escape.Spelling.{Spelling}
use Rattle.scw_lex.specs.declared.escape.TheConstants.{ESCAPES}
use Rattle.scw_lex.specs.Character.{is_of}
use Rattle.scw_lex.specs.Escape.{unit_in, hex_value, four_digits, unicode_escape, escape_at}
use Rattle.scw_lex.specs.Lexical.{IsEscape, IsBadEscape}
use Rattle.scw_lex.proofs.TextLemmas.{later_is, run_all, run_fits, run_is, run_is_long}
use Rattle.scw_lex.proofs.CommentLemmas.{is_of_one}
use Rattle.scw_lex.proofs.FloatingLemmas.{each_of, not_of}

-- a list has no character that a longer one has not
pub not_in : (some all : List ℕ) (c : ℕ) → list_all (is_of all) some ≡ true → is_of all c ≡ false → is_of some c ≡ false
not_in some all c a h = by (is_of some c) refl
  where
    by : (b : Bool) → is_of some c ≡ b → b ≡ false
    by true e = absurd (both_ways (is_of all c) h (each_of (is_of all) some c a e))
    by false e = refl

-- ---- four digits

hex_digits_are : agree_below (λ c. not (is_ascii_hexdigit c) || nat_lt (digit_value c) 16) (λ c. true) 128 ≡ true
hex_digits_are = refl

implied : (a b : Bool) → (not a || b) ≡ true → a ≡ true → b ≡ true
implied true b h k = h
implied false b h k = absurd cc

range_top : (a b c : ℕ) → (nat_le a c && nat_le c b) ≡ true → c ≤ b
range_top a b c h = leb-true c b (and_parts (nat_le a c) (nat_le c b) h).1

hex_top : (c : ℕ) → is_ascii_hexdigit c ≡ true → c < 128
hex_top c h = elim (or_cases ((nat_le 48 c && nat_le c 57) || (nat_le 65 c && nat_le c 70)) (nat_le 97 c && nat_le c 102) h) [
  | inl a ↦ elim (or_cases (nat_le 48 c && nat_le c 57) (nat_le 65 c && nat_le c 70) a) [
    | inl d ↦ let t = range_top 48 57 c d in omega (arith, t)
    | inr d ↦ let t = range_top 65 70 c d in omega (arith, t)
  ]
  | inr d ↦ let t = range_top 97 102 c d in omega (arith, t)
]

hex_value_is : (c : ℕ) → is_ascii_hexdigit c ≡ true → hex_value c ≡ digit_value c
hex_value_is c h =
    let b : nat_lt (digit_value c) 16 ≡ true =
    implied (is_ascii_hexdigit c) (nat_lt (digit_value c) 16) (agree_below_at (λ c. not (is_ascii_hexdigit c) || nat_lt (digit_value c) 16) (λ c. true) 128 c hex_digits_are (hex_top c h)) h in
    rw b refl

four_are : (digits more : List ℕ) → list_all is_ascii_hexdigit digits ≡ true → length digits ≡ 4 → four_digits (digits ++ more) ≡ digits_value 16 digits
four_are [] more a n = absurd (omega (arith, n))
four_are (a ∷ []) more h n = absurd (omega (arith, n))
four_are (a ∷ b ∷ []) more h n = absurd (omega (arith, n))
four_are (a ∷ b ∷ c ∷ []) more h n = absurd (omega (arith, n))
four_are (a ∷ b ∷ c ∷ d ∷ e ∷ es) more h n = absurd (omega (arith, n))
four_are (a ∷ b ∷ c ∷ d ∷ []) more h n =
    let p = and_parts (is_ascii_hexdigit a) (is_ascii_hexdigit b && (is_ascii_hexdigit c && (is_ascii_hexdigit d && true))) h in
    let q = and_parts (is_ascii_hexdigit b) (is_ascii_hexdigit c && (is_ascii_hexdigit d && true)) p.1 in
    let r = and_parts (is_ascii_hexdigit c) (is_ascii_hexdigit d && true) q.1 in
    let s = and_parts (is_ascii_hexdigit d) true r.1 in
    let ha = hex_value_is a p.0 in
    let hb = hex_value_is b q.0 in
    let hc = hex_value_is c r.0 in
    let hd = hex_value_is d s.0 in
    let lhs : four_digits (a ∷ b ∷ c ∷ d ∷ more) ≡ ((digit_value a * 16 + digit_value b) * 16 + digit_value c) * 16 + digit_value d = omega (arith, ha, hb, hc, hd) in
    lhs ∙ four_is (digit_value a) (digit_value b) (digit_value c) (digit_value d)
  where
    four_is : (w x y z : ℕ) → ((w * 16 + x) * 16 + y) * 16 + z ≡ (((0 * 16 + w) * 16 + x) * 16 + y) * 16 + z
    four_is w x y z = omega arith

-- ---- an escape is found

pub record EscapeIs (text : List ℕ) (unit : ℕ) : Type 0 where
  pub first : ℕ
  pub later : List ℕ
  pub whole : text ≡ 92 ∷ first ∷ later
  pub no_end : is_of (codes "\n\r") first ≡ false
  pub spelling : (more : List ℕ) → escape_at (first ∷ (later ++ more)) ≡ record { unit = Some unit; len = length (first ∷ later) }

not_unit : (d c unit : ℕ) → unit_in ESCAPES d ≡ None → unit_in ESCAPES c ≡ Some unit → d ≡ c → ⊥
not_unit d c unit n h e = none-some unit (sym n ∙ ap (unit_in ESCAPES) e ∙ h)

abbrev is_some_unit : ℕ → Bool
is_some_unit c = is_some (unit_in ESCAPES c)

escape_has : (text : List ℕ) (c unit : ℕ) → list_all (λ d. not (is_some_unit d)) text ≡ true → unit_in ESCAPES c ≡ Some unit → is_of text c ≡ false
escape_has text c unit a h = not_of is_some_unit text c a (ap (λ o. is_some o) h)

pub escape_is : (text : List ℕ) (unit : ℕ) → IsEscape text unit → EscapeIs text unit
escape_is text unit (IsEscape.simple {c} h) =
    let u : is_of (codes "u") c ≡ false = escape_has (codes "u") c unit refl h in
    record { first = c; later = []; whole = refl; no_end = escape_has (codes "\n\r") c unit refl h; spelling = λ more. rw u (rw h refl) }
escape_is text unit (IsEscape.unicode {digits} a n) = record {
  first = 117;
  later = digits;
  whole = refl;
  no_end = refl;
  spelling = λ more.
      let k = run_is_long is_ascii_hexdigit digits more a in
      let m : min (prefix_len is_ascii_hexdigit (digits ++ more)) 4 ≡ 4 = omega (arith, k, n) in
      let f = four_are digits more a n in
      rw m (rw f (rw n refl));
}

-- no escape begins where none is found
pub no_escape : (text : List ℕ) → (escape_at text).unit ≡ None → (e more : List ℕ) (unit : ℕ) → 92 ∷ text ≡ e ++ more → IsEscape e unit → ⊥
no_escape text h e more unit w i =
    let r = escape_is e unit i in
    let t : text ≡ r.first ∷ (r.later ++ more) = later_is (w ∙ ap (λ x. x ++ more) r.whole) in
    let s = ap (λ x. (escape_at x).unit) t ∙ ap (λ s. s.unit) (r.spelling more) in
    none-some unit (sym h ∙ s)

-- ---- what is found is one

-- the text behind the backslash, by what it stands for
abbrev pub UnitIs : List ℕ → Option ℕ → Type 0
UnitIs text (Some unit) = IsEscape text unit
UnitIs text None = IsBadEscape text

pub record Found (text : List ℕ) (s : Spelling) : Type 0 where
  pub fits : s.len ≤ length text
  pub is : UnitIs (92 ∷ take s.len text) s.unit

by_unit : (c : ℕ) → is_of (codes "\n\r") c ≡ false → is_of (codes "u") c ≡ false → (o : Option ℕ) → unit_in ESCAPES c ≡ o → UnitIs (92 ∷ c ∷ []) o
by_unit c l u (Some unit) h = IsEscape.simple h
by_unit c l u None h = IsBadEscape.simple (not_from_false (is_of (codes "u\n\r") c) (or_u c u l)) h
  where
    or_u : (c : ℕ) → is_of (codes "u") c ≡ false → is_of (codes "\n\r") c ≡ false → is_of (codes "u\n\r") c ≡ false
    or_u c u l = by (nat_eq 117 c) u
      where
        by : (b : Bool) → (b || false) ≡ false → (b || is_of (codes "\n\r") c) ≡ false
        by true u = absurd cc
        by false u = l

-- a front of a run
front_all : (n : ℕ) (cs : List ℕ) → n ≤ prefix_len is_ascii_hexdigit cs → list_all is_ascii_hexdigit (take n cs) ≡ true
front_all n cs k =
    let m : ℕ = prefix_len is_ascii_hexdigit cs in
    let a = run_all is_ascii_hexdigit cs in
    let w : take n (take m cs) ++ drop n (take m cs) ≡ take m cs = take-append-drop n (take m cs) in
    let b : (list_all is_ascii_hexdigit (take n (take m cs)) && list_all is_ascii_hexdigit (drop n (take m cs))) ≡ true =
    sym (list_all-append is_ascii_hexdigit (take n (take m cs)) (drop n (take m cs))) ∙ ap (list_all is_ascii_hexdigit) w ∙ a in
    ap (list_all is_ascii_hexdigit) (sym (take-take n m cs k)) ∙ (and_parts (list_all is_ascii_hexdigit (take n (take m cs))) (list_all is_ascii_hexdigit (drop n (take m cs))) b).0

found_digits : (cs : List ℕ) → Found (117 ∷ cs) (unicode_escape cs)
found_digits cs = by (min (prefix_len is_ascii_hexdigit cs) 4) (nat_eq (min (prefix_len is_ascii_hexdigit cs) 4) 4) refl (omega arith) (omega arith) (omega arith)
  where
    by : (n : ℕ) (b : Bool) → nat_eq n 4 ≡ b → n ≤ prefix_len is_ascii_hexdigit cs → n ≤ 4 → (n < 4 → n ≡ prefix_len is_ascii_hexdigit cs)
        → Found (117 ∷ cs) (cond b (record { unit = Some (four_digits cs); len = n + 1 }) (record { unit = None; len = n + 1 }))
    by n b e k m same =
        let f = run_fits is_ascii_hexdigit cs in
        let fits : n ≤ length cs = omega (arith, f, k) in
        let l : length (take n cs) ≡ n = length-take-le n cs fits in
        let all : list_all is_ascii_hexdigit (take n cs) ≡ true = all_of n k in
        go b e fits l all
      where
        all_of : (n : ℕ) → n ≤ prefix_len is_ascii_hexdigit cs → list_all is_ascii_hexdigit (take n cs) ≡ true
        all_of n k = front_all n cs k

        s1 : n + 1 ≡ suc n
        s1 = omega arith

        go : (b : Bool) → nat_eq n 4 ≡ b → n ≤ length cs → length (take n cs) ≡ n → list_all is_ascii_hexdigit (take n cs) ≡ true
            → Found (117 ∷ cs) (cond b (record { unit = Some (four_digits cs); len = n + 1 }) (record { unit = None; len = n + 1 }))
        go true e fits l all =
            let four : n ≡ 4 = eqb-true n 4 e in
            let v : digits_value 16 (take n cs) ≡ four_digits cs = sym (four_are (take n cs) (drop n cs) all (l ∙ four)) ∙ ap four_digits (take-append-drop n cs) in
            let i : IsEscape (92 ∷ 117 ∷ take n cs) (digits_value 16 (take n cs)) = IsEscape.unicode all (l ∙ four) in
            rw s1 (record { fits = omega (arith, fits); is = subst (λ u. IsEscape (92 ∷ 117 ∷ take n cs) u) v i })
        go false e fits l all =
            let ne = eqb-false n 4 e in
            let less : n < 4 = omega (arith, m, ne) in
            rw s1 (record { fits = omega (arith, fits); is = IsBadEscape.unicode {digits = take n cs} all (omega (arith, l, less)) })

pub escape_found : (c : ℕ) (cs : List ℕ) → is_of (codes "\n\r") c ≡ false → Found (c ∷ cs) (escape_at (c ∷ cs))
escape_found c cs l = by (is_of (codes "u") c) refl
  where
    by : (b : Bool) → is_of (codes "u") c ≡ b → Found (c ∷ cs) (cond b (unicode_escape cs) (record { unit = unit_in ESCAPES c; len = 1 }))
    by true e = subst (λ d. Found (d ∷ cs) (unicode_escape cs)) (is_of_one 117 c e) (found_digits cs)
    by false e = record { fits = omega arith; is = by_unit c l e (unit_in ESCAPES c) refl }

-- ---- an escape that is none

pub record BadIs (text : List ℕ) : Type 0 where
  pub first : ℕ
  pub later : List ℕ
  pub whole : text ≡ 92 ∷ first ∷ later
  pub no_end : is_of (codes "\n\r") first ≡ false
  pub spelling : (more : List ℕ) → escape_at (first ∷ (later ++ (39 ∷ more))) ≡ record { unit = None; len = length (first ∷ later) }

pub bad_is : (text : List ℕ) → IsBadEscape text → BadIs text
bad_is text (IsBadEscape.simple {c} h n) =
    let o : is_of (codes "u\n\r") c ≡ false = not-true (is_of (codes "u\n\r") c) h in
    let u : is_of (codes "u") c ≡ false = not_in (codes "u") (codes "u\n\r") c refl o in
    record { first = c; later = []; whole = refl; no_end = not_in (codes "\n\r") (codes "u\n\r") c refl o; spelling = λ more. rw u (rw n refl) }
bad_is text (IsBadEscape.unicode {digits} a n) = record {
  first = 117;
  later = digits;
  whole = refl;
  no_end = refl;
  spelling = λ more.
      let k = run_is is_ascii_hexdigit digits (39 ∷ more) a refl in
      let m : min (prefix_len is_ascii_hexdigit (digits ++ (39 ∷ more))) 4 ≡ length digits = omega (arith, k, n) in
      let f : nat_eq (length digits) 4 ≡ false = ne_eqb (length digits) 4 (λ e. omega (arith, e, n)) in
      let s : length digits + 1 ≡ suc (length digits) = omega arith in
      rw m (rw f (rw s refl));
}
