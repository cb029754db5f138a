-- The next token is the first of the tokens that the bytes are.
use Rattle.std.proofs.Common.{◌≡◌, ℕ, ◌<◌, ◌≤◌, Bool, true, false, cond, List, [], ◌∷◌, ◌++◌, length, codes, refl, sym, ap, subst, ◌∙◌, IsTrue, arith, Option, Some, None, append_assoc, append-nil, inl, inr, length-append}
use Rattle.std.specs.Prelude.{◌||◌, nat_eq}
use Rattle.std.specs.List.{list_all, prefix_len}
use Rattle.std.proofs.lemmas.List.{take-append-drop}
use Rattle.std.proofs.lemmas.Bool.{and_parts, and_from, both_ways, not-true, not_from_false, or_cases, or_left, or_right, eqb-true, cases_Bool, leb-true}
use Rattle.std.proofs.lemmas.Option.{same_Some, some_pair_parts}
use Rattle.std.specs.Fmt.{decimal}
use Rattle.scw_reader.specs.declared.token.Token.{Token}
use Rattle.scw_reader.specs.declared.token.Token.TheVariants as token
use Rattle.scw_reader.specs.declared.class.Class.TheVariants as class
use Rattle.scw_reader.specs.Character.{is_in}
use Rattle.scw_reader.specs.Token.{token_text, begins, is_name, is_token}
use Rattle.scw_reader.specs.Layout.{goes_on, is_before_lines, is_after_lines, is_gap_char, is_gap, AreFrom, Spelled}
use Rattle.scw_reader.specs.Outcome.{◌>>=◌}
use Rattle.scw_reader.specs.Lexing.{front, after, sign_of, sign_at, token_at, behind, next_at}
use Rattle.scw_reader.specs.declared.token.TheConstants.{MAX_INT}
use Rattle.scw_reader.proofs.OutcomeLemmas.{bind_some, passed}
use Rattle.scw_reader.proofs.NumberLemmas.{decimal_some}
use Rattle.scw_reader.proofs.TableLemmas.{some_word, some_sign}
use Rattle.scw_reader.proofs.RunLemmas.{list_all-run, take-run, drop-run}
use Rattle.scw_reader.proofs.LexingLemmas.{token_at_is}
use Rattle.scw_reader.proofs.FoundLemmas.{token_found}

-- ---- blanks

-- no token begins with a blank
solid_at : (c : ℕ) (cs : List ℕ) (p : Token × List ℕ) → is_in class.Blank c ≡ true → token_at (c ∷ cs) ≡ Some p → ⊥
unfolding token_at sign_at sign_of
solid_at c cs p blank h = elim (or_cases (nat_eq 32 c) (nat_eq 10 c || false) blank) [
  | inl e ↦ let f : token_at (32 ∷ cs) ≡ Some p = ap (λ d. token_at (d ∷ cs)) (eqb-true 32 c e) ∙ h in cc
  | inr e ↦ elim (or_cases (nat_eq 10 c) false e) [
    | inl d ↦ let f : token_at (10 ∷ cs) ≡ Some p = ap (λ x. token_at (x ∷ cs)) (eqb-true 10 c d) ∙ h in cc
    | inr d ↦ absurd (both_ways false refl d)
  ]
]

solid : (bytes : List ℕ) (p : Token × List ℕ) → token_at bytes ≡ Some p → begins (is_in class.Blank) bytes ≡ false
solid [] p h = refl
solid (c ∷ cs) p h = elim (cases_Bool (is_in class.Blank c)) [ inl e ↦ absurd (solid_at c cs p e h) | inr e ↦ e ]

gap_char_is_blank : (lines : Bool) (c : ℕ) → is_gap_char lines c ≡ true → is_in class.Blank c ≡ true
gap_char_is_blank lines c h = elim (or_cases (nat_eq 32 c || false) _ h) [
  | inl e ↦ elim (or_cases (nat_eq 32 c) false e) [
    | inl d ↦ or_left (nat_eq 32 c) (nat_eq 10 c || false) d
    | inr d ↦ absurd (both_ways false refl d)
  ]
  | inr e ↦ or_right (nat_eq 32 c) (nat_eq 10 c || false) (and_parts lines (nat_eq 10 c || false) e).1
]

gap_is_blank : (lines : Bool) (gap : List ℕ) → IsTrue (is_gap lines gap) → IsTrue (list_all (is_in class.Blank) gap)
gap_is_blank lines [] h = refl
gap_is_blank lines (c ∷ cs) h =
    let both = and_parts (is_gap_char lines c) (is_gap lines cs) h in
    and_from (is_in class.Blank c) (list_all (is_in class.Blank) cs) (gap_char_is_blank lines c both.0) (gap_is_blank lines cs both.1)

blank_is_gap_char : (c : ℕ) → is_in class.Blank c ≡ true → is_gap_char true c ≡ true
blank_is_gap_char c h = elim (or_cases (nat_eq 32 c) (nat_eq 10 c || false) h) [
  | inl e ↦ or_left (nat_eq 32 c || false) (nat_eq 10 c || false) (or_left (nat_eq 32 c) false e)
  | inr e ↦ or_right (nat_eq 32 c || false) (nat_eq 10 c || false) e
]

blank_is_gap : (gap : List ℕ) → IsTrue (list_all (is_in class.Blank) gap) → IsTrue (is_gap true gap)
blank_is_gap [] h = refl
blank_is_gap (c ∷ cs) h =
    let both = and_parts (is_in class.Blank c) (list_all (is_in class.Blank) cs) h in
    and_from (is_gap_char true c) (is_gap true cs) (blank_is_gap_char c both.0) (blank_is_gap cs both.1)

-- ---- what comes next

-- what is found behind a gap
behind_is : (lines : Bool) (gap bytes : List ℕ) (p : Token × List ℕ) → behind lines gap bytes ≡ Some (Some p) → (token_at bytes ≡ Some p) × IsTrue (is_gap (lines || is_after_lines p.0) gap)
behind_is lines gap [] p h = absurd cc
behind_is lines gap (c ∷ cs) p h =
    let b = bind_some (token_at (c ∷ cs)) (λ q. cond (is_gap (lines || is_after_lines q.0) gap) (Some (Some q)) None) (Some p) h in
    let k = passed (is_gap (lines || is_after_lines b.0.0) gap) (Some (Some b.0)) (Some p) b.2 in
    let same : b.0 ≡ p = same_Some _ _ (same_Some _ _ k.1) in
    (b.1 ∙ ap Some same, subst (λ q. IsTrue (is_gap (lines || is_after_lines q.0) gap)) same k.0)

behind_end : (lines : Bool) (gap bytes : List ℕ) → behind lines gap bytes ≡ Some None → bytes ≡ []
behind_end lines gap [] h = refl
behind_end lines gap (c ∷ cs) h =
    let b = bind_some (token_at (c ∷ cs)) (λ q. cond (is_gap (lines || is_after_lines q.0) gap) (Some (Some q)) None) None h in
    let k = passed (is_gap (lines || is_after_lines b.0.0) gap) (Some (Some b.0)) None b.2 in
    absurd (let e : Some b.0 ≡ None = same_Some _ _ k.1 in cc)

nothing_at : (p : Token × List ℕ) → token_at [] ≡ Some p → ⊥
unfolding token_at
nothing_at p h = cc

behind_token : (lines : Bool) (gap bytes : List ℕ) (p : Token × List ℕ) → token_at bytes ≡ Some p → IsTrue (is_gap (lines || is_after_lines p.0) gap) → behind lines gap bytes ≡ Some (Some p)
behind_token lines gap [] p h blank = absurd (nothing_at p h)
behind_token lines gap (c ∷ cs) p h blank =
    ap (λ o. o >>= λ q. cond (is_gap (lines || is_after_lines q.0) gap) (Some (Some q)) None) h ∙ ap (λ b. cond b (Some (Some p)) None) blank

-- the token that is next, with the tokens of what follows it
pub next_is : (lines : Bool) (bytes : List ℕ) (t : Token) (rest : List ℕ) → next_at lines bytes ≡ Some (Some (t, rest)) → (ts : List Token) → AreFrom (is_before_lines t) rest ts → AreFrom lines bytes (t ∷ ts)
unfolding next_at
next_is lines bytes t rest h ts more =
    let b = behind_is lines (front class.Blank bytes) (after class.Blank bytes) (t, rest) h in
    let found = token_at_is (after class.Blank bytes) t rest b.0 in
    record {
      gap = front class.Blank bytes;
      rest = rest;
      whole = sym (take-append-drop (prefix_len (is_in class.Blank) bytes) bytes) ∙ ap (λ x. front class.Blank bytes ++ x) found.0.0;
      blank = b.1;
      token = found.0.1;
      longest = not_from_false (goes_on t rest) found.1;
      follows = more;
    }

-- the first token is next
pub next_found : (lines : Bool) (bytes : List ℕ) (t : Token) (ts : List Token) → AreFrom lines bytes (t ∷ ts) → (rest : List ℕ) × (next_at lines bytes ≡ Some (Some (t, rest))) × AreFrom (is_before_lines t) rest ts
unfolding next_at
next_found lines bytes t ts b =
    let here = token_found t b.rest b.token (not-true (goes_on t b.rest) b.longest) in
    let all = gap_is_blank (lines || is_after_lines t) b.gap b.blank in
    let stops = solid (token_text t ++ b.rest) (t, b.rest) here in (
      b.rest,
      ap (next_at lines) b.whole
          ∙ ap (λ g. behind lines g (after class.Blank (b.gap ++ (token_text t ++ b.rest)))) (take-run (is_in class.Blank) b.gap (token_text t ++ b.rest) all stops)
          ∙ ap (behind lines b.gap) (drop-run (is_in class.Blank) b.gap (token_text t ++ b.rest) all stops)
          ∙ behind_token lines b.gap (token_text t ++ b.rest) (t, b.rest) here b.blank,
      b.follows,
    )

-- nothing is next where there is a gap alone
pub end_is : (lines : Bool) (bytes : List ℕ) → next_at lines bytes ≡ Some None → IsTrue (is_gap true bytes)
unfolding next_at
end_is lines bytes h =
    let e = behind_end lines (front class.Blank bytes) (after class.Blank bytes) h in
    let whole = sym (take-append-drop (prefix_len (is_in class.Blank) bytes) bytes) ∙ ap (λ x. front class.Blank bytes ++ x) e ∙ append-nil (front class.Blank bytes) in
    subst (λ x. IsTrue (is_gap true x)) (sym whole) (blank_is_gap (front class.Blank bytes) (list_all-run (is_in class.Blank) bytes))

pub end_found : (lines : Bool) (bytes : List ℕ) → IsTrue (is_gap true bytes) → next_at lines bytes ≡ Some None
unfolding next_at
end_found lines bytes h =
    let all = gap_is_blank true bytes h in
    let nil = append-nil bytes in
    ap (next_at lines) (sym nil) ∙ ap (behind lines (front class.Blank (bytes ++ []))) (drop-run (is_in class.Blank) bytes [] all refl)

-- ---- the tokens that were read so far

-- the tokens of the bytes are those that were read, and then those of the rest
pub record ReadSoFar (bytes : List ℕ) (tokens : List Token) (lines : Bool) (rest : List ℕ) : Type 0 where
  pub forth : (ts : List Token) → AreFrom lines rest ts → Spelled bytes (tokens ++ ts)
  pub back : (ts : List Token) → Spelled bytes ts → (more : List Token) × (ts ≡ tokens ++ more) × AreFrom lines rest more

pub none_read : (bytes : List ℕ) → ReadSoFar bytes [] false bytes
none_read bytes = record { forth = λ ts h. h; back = λ ts h. (ts, refl, h) }

-- what the tokens of bytes begin with is next
one_more : (lines : Bool) (bytes : List ℕ) (t : Token) (rest : List ℕ) (more : List Token) → next_at lines bytes ≡ Some (Some (t, rest)) → AreFrom lines bytes more
    → (ts : List Token) × (more ≡ t ∷ ts) × AreFrom (is_before_lines t) rest ts
one_more lines bytes t rest [] next h = absurd (let e : Some None ≡ Some (Some (t, rest)) = sym (end_found lines bytes h) ∙ next in cc)
one_more lines bytes t rest (u ∷ us) next h =
    let found = next_found lines bytes u us h in
    let both : Some (Some (u, found.0)) ≡ Some (Some (t, rest)) = sym found.1 ∙ next in
    let parts = some_pair_parts u t found.0 rest (same_Some _ _ both) in
    (us, ap (λ v. v ∷ us) parts.0, subst (λ (p : Token × List ℕ). AreFrom (is_before_lines p.0) p.1 us) (same_Some _ _ (same_Some _ _ both)) found.2)

pub read_more : (bytes : List ℕ) (tokens : List Token) (lines : Bool) (at : List ℕ) (t : Token) (rest : List ℕ) → ReadSoFar bytes tokens lines at
    → next_at lines at ≡ Some (Some (t, rest)) → ReadSoFar bytes (tokens ++ t ∷ []) (is_before_lines t) rest
read_more bytes tokens lines at t rest so next = record {
  forth = λ ts h. subst (Spelled bytes) (sym (append_assoc tokens (t ∷ []) ts)) (so.forth (t ∷ ts) (next_is lines at t rest next ts h));
  back = λ ts h.
      let b = so.back ts h in
      let m = one_more lines at t rest b.0 next b.2 in
      (m.0, b.1 ∙ ap (λ x. tokens ++ x) m.1 ∙ sym (append_assoc tokens (t ∷ []) m.0), m.2);
}

-- at the end the tokens are those that were read
pub all_read : (bytes : List ℕ) (tokens : List Token) (lines : Bool) (at : List ℕ) → ReadSoFar bytes tokens lines at → next_at lines at ≡ Some None → Spelled bytes tokens
all_read bytes tokens lines at so next = subst (Spelled bytes) (append-nil tokens) (so.forth [] (end_is lines at next))

no_more : (lines : Bool) (at : List ℕ) (more : List Token) → next_at lines at ≡ Some None → AreFrom lines at more → more ≡ []
no_more lines at [] next h = refl
no_more lines at (t ∷ ts) next h = let found = next_found lines at t ts h in let e : ◌≡◌ {A = Option (Option (Token × List ℕ))} (Some (Some (t, found.0))) (Some None) = sym found.1 ∙ next in cc

pub only_read : (bytes : List ℕ) (tokens : List Token) (lines : Bool) (at : List ℕ) → ReadSoFar bytes tokens lines at → next_at lines at ≡ Some None
    → (others : List Token) → Spelled bytes others → others ≡ tokens
only_read bytes tokens lines at so next others h =
    let b = so.back others h in b.1 ∙ ap (λ x. tokens ++ x) (no_more lines at b.0 next b.2) ∙ append-nil tokens

nothing_next : (lines : Bool) (at : List ℕ) (more : List Token) → next_at lines at ≡ None → AreFrom lines at more → ⊥
nothing_next lines at [] next h = let e : ◌≡◌ {A = Option (Option (Token × List ℕ))} (Some None) None = sym (end_found lines at h) ∙ next in cc
nothing_next lines at (t ∷ ts) next h = let found = next_found lines at t ts h in let e : ◌≡◌ {A = Option (Option (Token × List ℕ))} (Some (Some (t, found.0))) None = sym found.1 ∙ next in cc

pub none_so : (bytes : List ℕ) (tokens : List Token) (lines : Bool) (at : List ℕ) → ReadSoFar bytes tokens lines at → next_at lines at ≡ None
    → (others : List Token) → Spelled bytes others → ⊥
none_so bytes tokens lines at so next others h = let b = so.back others h in nothing_next lines at b.0 next b.2

-- ---- a token takes a byte at least

some_name : (name : List ℕ) → IsTrue (is_name name) → 0 < length name
some_name [] h = absurd (both_ways false refl h)
some_name (c ∷ cs) h = omega arith

some_token : (t : Token) → IsTrue (is_token t) → 0 < length (token_text t)
some_token (token.Word w) h = some_word w
some_token (token.Sign s) h = some_sign s
some_token (token.Name name) h = some_name name h
some_token (token.Int n) h = let small : n ≤ 2147483647 = leb-true n MAX_INT h in decimal_some n (omega arith)
some_token (token.Long n) h = omega (arith, length-append (decimal n) (codes "L"))
some_token (token.Text text) h = omega arith

pub shorter : (lines : Bool) (bytes : List ℕ) (t : Token) (rest : List ℕ) → next_at lines bytes ≡ Some (Some (t, rest)) → length rest < length bytes
unfolding next_at
shorter lines bytes t rest h =
    let b = behind_is lines (front class.Blank bytes) (after class.Blank bytes) (t, rest) h in
    let found = token_at_is (after class.Blank bytes) t rest b.0 in
    let some = some_token t found.0.1 in
    let whole = ap length (take-append-drop (prefix_len (is_in class.Blank) bytes) bytes) in
    omega (arith, some, whole, ap length found.0.0, length-append (token_text t) rest, length-append (front class.Blank bytes) (after class.Blank bytes))
