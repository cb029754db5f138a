-- Comments: what the search for their end finds.
use Rattle.std.proofs.Common.{◌≡◌, ℕ, zero, suc, ◌+◌, Bool, true, false, cond, List, [], ◌∷◌, ◌++◌, length, take, drop, codes, refl, sym, ap, ◌∙◌, subst, arith, append_assoc, Option, Some, None}
use Rattle.std.specs.Prelude.{◌||◌, not, nat_eq}
use Rattle.std.proofs.lemmas.Bool.{eqb-true, eqb-false, not-true, not_from_false}
use Rattle.std.proofs.lemmas.Option.{same_Some}
use Rattle.std.proofs.lemmas.List.{take-append-drop, length-append, length-take-le}
use Rattle.scw_text.specs.declared.rule.Rule.TheVariants as rule
use Rattle.scw_lex.specs.declared.comment.Begun.{Begun}
use Rattle.scw_lex.specs.declared.comment.Begun.TheVariants as begun
use Rattle.scw_lex.specs.declared.piece.Piece.TheVariants as piece
use Rattle.scw_lex.specs.Character.{is_of, begins}
use Rattle.scw_lex.specs.Name.{begins_comment}
use Rattle.scw_lex.specs.Comment.{line_len, begun_by, block_len, block_piece, comment_piece}
use Rattle.scw_lex.specs.Stands.{IsPlain, IsInner, IsComment, Stands, is_line_end}
use Rattle.scw_lex.proofs.TextLemmas.{first_is, later_is, run_all, run_ends, run_fits, run_is}

-- ---- one character

pub is_of_one : (d c : ℕ) → is_of (d ∷ []) c ≡ true → d ≡ c
is_of_one d c h = by (nat_eq d c) refl h
  where
    by : (b : Bool) → nat_eq d c ≡ b → (b || false) ≡ true → d ≡ c
    by true e h = eqb-true d c e
    by false e h = absurd cc

pub is_not_of_one : (d c : ℕ) → is_of (d ∷ []) c ≡ false → d ≡ c → ⊥
is_not_of_one d c h = by (nat_eq d c) refl h
  where
    by : (b : Bool) → nat_eq d c ≡ b → (b || false) ≡ false → d ≡ c → ⊥
    by true e h = absurd cc
    by false e h = eqb-false d c e

-- ---- texts without marks

-- no mark stands at the front of the text
NoMark : List ℕ → List ℕ → Type 0
NoMark mark text = (after : List ℕ) → text ≡ mark ++ after → ⊥

-- nor at the front of one that goes on
no_mark_in_front : (mark t u : List ℕ) → NoMark mark (t ++ u) → NoMark mark t
unfolding NoMark
no_mark_in_front mark t u h after e = h (after ++ u) (ap (λ x. x ++ u) e ∙ append_assoc mark after u)

plain_more : (c : ℕ) (t : List ℕ) → IsPlain t → NoMark (codes "*/") (c ∷ t) → NoMark (codes "/*") (c ∷ t) → IsPlain (c ∷ t)
unfolding NoMark
plain_more c t p h k = record { no_end = ends; no_begin = begin_ }
  where
    ends : (before after : List ℕ) → c ∷ t ≡ before ++ (codes "*/" ++ after) → ⊥
    ends [] after e = h after e
    ends (d ∷ ds) after e = p.no_end ds after (later_is e)

    begin_ : (before after : List ℕ) → c ∷ t ≡ before ++ (codes "/*" ++ after) → ⊥
    begin_ [] after e = k after e
    begin_ (d ∷ ds) after e = p.no_begin ds after (later_is e)

plain_later : (c : ℕ) (t : List ℕ) → IsPlain (c ∷ t) → IsPlain t
plain_later c t p = record {
  no_end = λ before after e. p.no_end (c ∷ before) after (ap (λ u. c ∷ u) e);
  no_begin = λ before after e. p.no_begin (c ∷ before) after (ap (λ u. c ∷ u) e);
}

-- two characters that are no mark
no_mark : (a b c : ℕ) (t : List ℕ) → (c ≡ a → ⊥) → NoMark (a ∷ b ∷ []) (c ∷ t)
unfolding NoMark
no_mark a b c t h after e = h (first_is e)

no_second : (a b c d : ℕ) (t : List ℕ) → (d ≡ b → ⊥) → NoMark (a ∷ b ∷ []) (c ∷ d ∷ t)
unfolding NoMark
no_second a b c d t h after e = h (first_is (later_is e))

nothing_is_plain : IsPlain []
nothing_is_plain = record { no_end = no_end; no_begin = no_begin }
  where
    no_end : (before after : List ℕ) → [] ≡ before ++ (codes "*/" ++ after) → ⊥
    no_end [] after e = absurd cc
    no_end (d ∷ ds) after e = absurd cc

    no_begin : (before after : List ℕ) → [] ≡ before ++ (codes "/*" ++ after) → ⊥
    no_begin [] after e = absurd cc
    no_begin (d ∷ ds) after e = absurd cc

no_single : (a b c : ℕ) → NoMark (a ∷ b ∷ []) (c ∷ [])
unfolding NoMark
no_single a b c after e = let n : [] ≡ b ∷ after = later_is e in absurd cc

one_is_plain : (c : ℕ) → IsPlain (c ∷ [])
one_is_plain c = plain_more c [] nothing_is_plain (no_single 42 47 c) (no_single 47 42 c)

-- ---- the insides of comments

inner_more : (c : ℕ) (t : List ℕ) → IsInner t → NoMark (codes "*/") (c ∷ t) → NoMark (codes "/*") (c ∷ t) → IsInner (c ∷ t)
inner_more c t (IsInner.closes plain p) h k =
    let w : (plain ++ codes "*") ++ codes "/" ≡ plain ++ codes "*/" = append_assoc plain (codes "*") (codes "/") in
    IsInner.closes (c ∷ plain) (plain_more c (plain ++ codes "*") p (no_mark_in_front (codes "*/") (c ∷ (plain ++ codes "*")) (codes "/") (subst (λ u. NoMark (codes "*/") (c ∷ u)) (sym w) h))
    (no_mark_in_front (codes "/*") (c ∷ (plain ++ codes "*")) (codes "/") (subst (λ u. NoMark (codes "/*") (c ∷ u)) (sym w) k)))
inner_more c t (IsInner.nests plain {inner} {more} p i m) h k =
    let w : (plain ++ codes "/") ++ (codes "*" ++ (inner ++ more)) ≡ plain ++ (codes "/*" ++ (inner ++ more)) = append_assoc plain (codes "/") (codes "*" ++ (inner ++ more)) in
    IsInner.nests (c ∷ plain)
    (plain_more c (plain ++ codes "/") p (no_mark_in_front (codes "*/") (c ∷ (plain ++ codes "/")) (codes "*" ++ (inner ++ more)) (subst (λ u. NoMark (codes "*/") (c ∷ u)) (sym w) h))
    (no_mark_in_front (codes "/*") (c ∷ (plain ++ codes "/")) (codes "*" ++ (inner ++ more)) (subst (λ u. NoMark (codes "/*") (c ∷ u)) (sym w) k))) i m

-- the insides of one comment more than so many, each up to its end
data Closes : ℕ → List ℕ → Type 0 where
  last : {t : List ℕ} → IsInner t → Closes zero t
  more : {k : ℕ} {t u : List ℕ} → IsInner t → Closes k u → Closes (suc k) (t ++ u)

closes_more : (k c : ℕ) (t : List ℕ) → Closes k t → NoMark (codes "*/") (c ∷ t) → NoMark (codes "/*") (c ∷ t) → Closes k (c ∷ t)
closes_more k c t (Closes.last i) h n = Closes.last (inner_more c t i h n)
closes_more k c t (Closes.more {t = a} {u} i r) h n =
    Closes.more (inner_more c a i (no_mark_in_front (codes "*/") (c ∷ a) u h) (no_mark_in_front (codes "/*") (c ∷ a) u n)) r

closes_nested : (k : ℕ) (a u : List ℕ) → IsInner a → Closes k u → Closes k (codes "/*" ++ (a ++ u))
closes_nested k a u i (Closes.last j) = Closes.last (IsInner.nests [] (one_is_plain 47) i j)
closes_nested k a u i (Closes.more {t = b} {u = v} j r) =
    subst (Closes k) (ap (λ w. codes "/*" ++ w) (append_assoc a b v)) (Closes.more (IsInner.nests [] (one_is_plain 47) i j) r)

closes_nest : (k : ℕ) (t : List ℕ) → Closes (suc k) t → Closes k (codes "/*" ++ t)
closes_nest k t (Closes.more {t = a} {u} i r) = closes_nested k a u i r

abbrev before : Begun → List ℕ
before begun.Nothing = []
before begun.Star = codes "*"
before begun.Slash = codes "/"

closes_by : (k c : ℕ) (t : List ℕ) → Closes k (before (begun_by c) ++ t) → Closes k (c ∷ t)
closes_by k c t r = by (is_of (codes "*") c) refl (is_of (codes "/") c) refl r
  where
    by : (s : Bool) → is_of (codes "*") c ≡ s → (l : Bool) → is_of (codes "/") c ≡ l → Closes k (before (cond s begun.Star (cond l begun.Slash begun.Nothing)) ++ t) → Closes k (c ∷ t)
    by true e l f r = subst (λ d. Closes k (d ∷ t)) (is_of_one 42 c e) r
    by false e true f r = subst (λ d. Closes k (d ∷ t)) (is_of_one 47 c f) r
    by false e false f r = closes_more k c t r (no_mark 42 47 c t (λ q. is_not_of_one 42 c e (sym q))) (no_mark 47 42 c t (λ q. is_not_of_one 47 c f (sym q)))

-- a front of the text closes the comments
record Closed (k : ℕ) (b : Begun) (n : ℕ) (text : List ℕ) (m : ℕ) : Type 0 where
  front : List ℕ
  rest : List ℕ
  whole : text ≡ front ++ rest
  place : m ≡ n + length front
  closes : Closes k (before b ++ front)

closed_later : (k : ℕ) (b d : Begun) (n c : ℕ) (cs : List ℕ) (m j : ℕ) → ((t : List ℕ) → Closes j (before d ++ t) → Closes k (before b ++ (c ∷ t))) → Closed j d (n + 1) cs m → Closed k b n (c ∷ cs) m
closed_later k b d n c cs m j go r = record {
  front = c ∷ r.front;
  rest = r.rest;
  whole = ap (λ t. c ∷ t) r.whole;
  place = let p = r.place in omega (arith, p);
  closes = go r.front r.closes;
}

star_is_plain : IsPlain (codes "*")
star_is_plain = one_is_plain 42

star_goes_on : (k c : ℕ) → (47 ≡ c → ⊥) → (t : List ℕ) → Closes k (before (begun_by c) ++ t) → Closes k (codes "*" ++ (c ∷ t))
star_goes_on k c h t r = closes_more k 42 (c ∷ t) (closes_by k c t r) (no_second 42 47 42 c t (λ q. h (sym q))) (no_mark 47 42 42 (c ∷ t) (λ q. absurd (omega (arith, q))))

slash_goes_on : (k c : ℕ) → (42 ≡ c → ⊥) → (t : List ℕ) → Closes k (before (begun_by c) ++ t) → Closes k (codes "/" ++ (c ∷ t))
slash_goes_on k c h t r = closes_more k 47 (c ∷ t) (closes_by k c t r) (no_mark 42 47 47 (c ∷ t) (λ q. absurd (omega (arith, q)))) (no_second 47 42 47 c t (λ q. h (sym q)))

star_ends : (k c : ℕ) → 47 ≡ c → (t : List ℕ) → Closes k t → Closes (suc k) (codes "*" ++ (c ∷ t))
star_ends k c e t r = subst (λ d. Closes (suc k) (codes "*" ++ (d ∷ t))) e (Closes.more (IsInner.closes [] star_is_plain) r)

slash_begins : (k c : ℕ) → 42 ≡ c → (t : List ℕ) → Closes (k + 1) t → Closes k (codes "/" ++ (c ∷ t))
slash_begins k c e t r =
    let s : k + 1 ≡ suc k = omega arith in
    subst (λ d. Closes k (codes "/" ++ (d ∷ t))) e (closes_nest k t (subst (λ j. Closes j t) s r))

closed : (text : List ℕ) (k : ℕ) (b : Begun) (n m : ℕ) → block_len k b n text ≡ Some m → Closed k b n text m
closed [] k b n m h = absurd cc
closed (c ∷ cs) k begun.Nothing n m h = closed_later k begun.Nothing (begun_by c) n c cs m k (closes_by k c) (closed cs k (begun_by c) (n + 1) m h)
closed (c ∷ cs) zero begun.Star n m h = by (closed cs zero (begun_by c) (n + 1) m) (is_of (codes "/") c) refl h
  where
    by : (block_len zero (begun_by c) (n + 1) cs ≡ Some m → Closed zero (begun_by c) (n + 1) cs m) → (b : Bool) → is_of (codes "/") c ≡ b
        → cond b (Some (n + 1)) (block_len zero (begun_by c) (n + 1) cs) ≡ Some m → Closed zero begun.Star n (c ∷ cs) m
    by later true e h = record {
      front = c ∷ [];
      rest = cs;
      whole = refl;
      place = sym (same_Some (n + 1) m h);
      closes = subst (λ d. Closes zero (codes "*" ++ (d ∷ []))) (is_of_one 47 c e) (Closes.last (IsInner.closes [] star_is_plain));
    }
    by later false e h = closed_later zero begun.Star (begun_by c) n c cs m zero (star_goes_on zero c (is_not_of_one 47 c e)) (later h)
closed (c ∷ cs) (suc k) begun.Star n m h = by (closed cs (suc k) (begun_by c) (n + 1) m) (closed cs k begun.Nothing (n + 1) m) (is_of (codes "/") c) refl h
  where
    by : (block_len (suc k) (begun_by c) (n + 1) cs ≡ Some m → Closed (suc k) (begun_by c) (n + 1) cs m) → (block_len k begun.Nothing (n + 1) cs ≡ Some m → Closed k begun.Nothing (n + 1) cs m)
        → (b : Bool) → is_of (codes "/") c ≡ b → cond b (block_len k begun.Nothing (n + 1) cs) (block_len (suc k) (begun_by c) (n + 1) cs) ≡ Some m → Closed (suc k) begun.Star n (c ∷ cs) m
    by later ended true e h = closed_later (suc k) begun.Star begun.Nothing n c cs m k (star_ends k c (is_of_one 47 c e)) (ended h)
    by later ended false e h = closed_later (suc k) begun.Star (begun_by c) n c cs m (suc k) (star_goes_on (suc k) c (is_not_of_one 47 c e)) (later h)
closed (c ∷ cs) k begun.Slash n m h = by (closed cs k (begun_by c) (n + 1) m) (closed cs (k + 1) begun.Nothing (n + 1) m) (is_of (codes "*") c) refl h
  where
    by : (block_len k (begun_by c) (n + 1) cs ≡ Some m → Closed k (begun_by c) (n + 1) cs m) → (block_len (k + 1) begun.Nothing (n + 1) cs ≡ Some m → Closed (k + 1) begun.Nothing (n + 1) cs m)
        → (b : Bool) → is_of (codes "*") c ≡ b → cond b (block_len (k + 1) begun.Nothing (n + 1) cs) (block_len k (begun_by c) (n + 1) cs) ≡ Some m → Closed k begun.Slash n (c ∷ cs) m
    by later begun_more true e h = closed_later k begun.Slash begun.Nothing n c cs m (k + 1) (slash_begins k c (is_of_one 42 c e)) (begun_more h)
    by later begun_more false e h = closed_later k begun.Slash (begun_by c) n c cs m k (slash_goes_on k c (is_not_of_one 42 c e)) (later h)

inner_from : (t : List ℕ) → Closes zero t → IsInner t
inner_from t (Closes.last i) = i

-- ---- and what it does at the inside of one

-- the search behind a comment that is closed
abbrev behind : ℕ → ℕ → List ℕ → Option ℕ
behind zero n rest = Some n
behind (suc k) n rest = block_len k begun.Nothing n rest

plain_by : (c : ℕ) (t : List ℕ) → IsPlain (c ∷ t) → IsPlain (before (begun_by c) ++ t)
plain_by c t p = by (is_of (codes "*") c) refl (is_of (codes "/") c) refl
  where
    by : (s : Bool) → is_of (codes "*") c ≡ s → (l : Bool) → is_of (codes "/") c ≡ l → IsPlain (before (cond s begun.Star (cond l begun.Slash begun.Nothing)) ++ t)
    by true e l f = subst (λ d. IsPlain (d ∷ t)) (sym (is_of_one 42 c e)) p
    by false e true f = subst (λ d. IsPlain (d ∷ t)) (sym (is_of_one 47 c f)) p
    by false e false f = plain_later c t p

-- a character that ends no mark is passed over
passed : (k : ℕ) (b : Begun) (n c : ℕ) (t rest : List ℕ) → IsPlain (before b ++ (c ∷ t)) → block_len k b n (c ∷ rest) ≡ block_len k (begun_by c) (n + 1) rest
passed k begun.Nothing n c t rest p = refl
passed zero begun.Star n c t rest p = by (is_of (codes "/") c) refl
  where
    by : (b : Bool) → is_of (codes "/") c ≡ b → cond b (Some (n + 1)) (block_len zero (begun_by c) (n + 1) rest) ≡ block_len zero (begun_by c) (n + 1) rest
    by true e = absurd (p.no_end [] t (ap (λ d. 42 ∷ d ∷ t) (sym (is_of_one 47 c e))))
    by false e = refl
passed (suc k) begun.Star n c t rest p = by (is_of (codes "/") c) refl
  where
    by : (b : Bool) → is_of (codes "/") c ≡ b → cond b (block_len k begun.Nothing (n + 1) rest) (block_len (suc k) (begun_by c) (n + 1) rest) ≡ block_len (suc k) (begun_by c) (n + 1) rest
    by true e = absurd (p.no_end [] t (ap (λ d. 42 ∷ d ∷ t) (sym (is_of_one 47 c e))))
    by false e = refl
passed k begun.Slash n c t rest p = by (is_of (codes "*") c) refl
  where
    by : (b : Bool) → is_of (codes "*") c ≡ b → cond b (block_len (k + 1) begun.Nothing (n + 1) rest) (block_len k (begun_by c) (n + 1) rest) ≡ block_len k (begun_by c) (n + 1) rest
    by true e = absurd (p.no_begin [] t (ap (λ d. 47 ∷ d ∷ t) (sym (is_of_one 42 c e))))
    by false e = refl

plain_behind : (b : Begun) (t : List ℕ) → IsPlain (before b ++ t) → IsPlain t
plain_behind begun.Nothing t p = p
plain_behind begun.Star t p = plain_later 42 t p
plain_behind begun.Slash t p = plain_later 47 t p

all_passed : (plain : List ℕ) (k : ℕ) (b : Begun) (n d : ℕ) (rest : List ℕ) → IsPlain (before b ++ (plain ++ d ∷ []))
    → block_len k b n (plain ++ (d ∷ rest)) ≡ block_len k (begun_by d) (n + length plain + 1) rest
all_passed [] k b n d rest p = let z : n + 0 + 1 ≡ n + 1 = omega arith in passed k b n d [] rest p ∙ ap (λ j. block_len k (begun_by d) j rest) (sym z)
all_passed (c ∷ cs) k b n d rest p =
    let z : n + 1 + length cs + 1 ≡ n + suc (length cs) + 1 = omega arith in
    passed k b n c (cs ++ d ∷ []) (cs ++ (d ∷ rest)) p
    ∙ all_passed cs k (begun_by c) (n + 1) d rest (plain_by c (cs ++ d ∷ []) (plain_behind b (c ∷ (cs ++ d ∷ [])) p)) ∙ ap (λ j. block_len k (begun_by d) j rest) z

star_closes : (k n : ℕ) (rest : List ℕ) → block_len k begun.Star n (47 ∷ rest) ≡ behind k (n + 1) rest
star_closes zero n rest = refl
star_closes (suc k) n rest = refl

pub inner_is_passed : (t : List ℕ) → IsInner t → (k n : ℕ) (rest : List ℕ) → block_len k begun.Nothing n (t ++ rest) ≡ behind k (n + length t) rest
inner_is_passed t (IsInner.closes plain p) k n rest =
    let l : length (plain ++ codes "*/") ≡ length plain + 2 = length-append plain (codes "*/") in
    let z : n + length plain + 1 + 1 ≡ n + length (plain ++ codes "*/") = omega (arith, l) in
    ap (block_len k begun.Nothing n) (append_assoc plain (codes "*/") rest) ∙ all_passed plain k begun.Nothing n 42 (47 ∷ rest) p ∙ star_closes k (n + length plain + 1) rest ∙ ap (λ j. behind k j rest) z
inner_is_passed t (IsInner.nests plain {inner} {more} p i m) k n rest =
    let s : k + 1 ≡ suc k = omega arith in
    let l = length-append plain (codes "/*" ++ (inner ++ more)) in
    let l2 = length-append inner more in
    let z : n + length plain + 1 + 1 + length inner + length more ≡ n + length (plain ++ (codes "/*" ++ (inner ++ more))) = omega (arith, l, l2) in
    ap (block_len k begun.Nothing n) (append_assoc plain (codes "/*" ++ (inner ++ more)) rest)
    ∙ all_passed plain k begun.Nothing n 47 (42 ∷ ((inner ++ more) ++ rest)) p
    ∙ ap (λ j. block_len j begun.Nothing (n + length plain + 1 + 1) ((inner ++ more) ++ rest)) s
    ∙ ap (block_len (suc k) begun.Nothing (n + length plain + 1 + 1)) (append_assoc inner more rest)
    ∙ inner_is_passed inner i (suc k) (n + length plain + 1 + 1) (more ++ rest)
    ∙ inner_is_passed more m k (n + length plain + 1 + 1 + length inner) rest
    ∙ ap (λ j. behind k j rest) z

-- ---- comments

line_stands : (ds : List ℕ) → Stands (codes "//" ++ ds) (piece.Skip (line_len (codes "//" ++ ds)))
line_stands ds =
    let n : ℕ = line_len ds in
    let c : IsComment (codes "//" ++ take n ds) (drop n ds) = IsComment.line (run_all (λ c. not (is_line_end c)) ds) (not_from_false (begins (λ c. not (is_line_end c)) (drop n ds)) (run_ends (λ c. not (is_line_end c)) ds)) in
    let l : length (take n ds) ≡ n = length-take-le n ds (run_fits (λ c. not (is_line_end c)) ds) in
    let k : length (codes "//" ++ take n ds) ≡ 1 + (1 + n) = omega (arith, l) in
    subst (λ t. Stands (codes "//" ++ t) (piece.Skip (line_len (codes "//" ++ ds)))) (take-append-drop n ds)
    (subst (λ j. Stands ((codes "//" ++ take n ds) ++ drop n ds) (piece.Skip j)) k (Stands.comment c))

no_comment : (ds : List ℕ) → block_len 0 begun.Nothing 0 ds ≡ None → (front rest : List ℕ) → codes "/*" ++ ds ≡ front ++ rest → IsComment front rest → ⊥
no_comment ds h front rest e (IsComment.line a b) = let n : 42 ≡ 47 = first_is (later_is e) in absurd (omega (arith, n))
no_comment ds h front rest e (IsComment.block {inner} i) =
    let w : ds ≡ inner ++ rest = later_is (later_is e) in
    let k = sym h ∙ ap (block_len 0 begun.Nothing 0) w ∙ inner_is_passed inner i 0 0 rest in
    absurd cc

block_stands : (ds : List ℕ) → Stands (codes "/*" ++ ds) (block_piece (block_len 0 begun.Nothing 0 ds))
block_stands ds = by (block_len 0 begun.Nothing 0 ds) refl
  where
    by : (o : Option ℕ) → block_len 0 begun.Nothing 0 ds ≡ o → Stands (codes "/*" ++ ds) (block_piece o)
    by None e = Stands.open_comment (no_comment ds e)
    by (Some m) e =
        let r = closed ds 0 begun.Nothing 0 m e in
        let c : IsComment (codes "/*" ++ r.front) r.rest = IsComment.block (inner_from r.front r.closes) in
        let p = r.place in
        let k : length (codes "/*" ++ r.front) ≡ m + 2 = omega (arith, p) in
        subst (λ t. Stands (codes "/*" ++ t) (piece.Skip (m + 2))) (sym r.whole) (subst (λ j. Stands ((codes "/*" ++ r.front) ++ r.rest) (piece.Skip j)) k (Stands.comment c))

-- with what a comment begins
begins_comment_with : (d : ℕ) → is_of (codes "/*") d ≡ true → is_of (codes "*") d ≡ false → 47 ≡ d
begins_comment_with d h n = by (nat_eq 47 d) refl (nat_eq 42 d) h n
  where
    by : (s : Bool) → nat_eq 47 d ≡ s → (l : Bool) → (s || (l || false)) ≡ true → (l || false) ≡ false → 47 ≡ d
    by true e l h n = eqb-true 47 d e
    by false e true h n = absurd cc
    by false e false h n = absurd cc

pub comment_stands : (c : ℕ) (cs : List ℕ) → is_of (codes "/") c ≡ true → begins (is_of (codes "/*")) cs ≡ true → Stands (c ∷ cs) (comment_piece (c ∷ cs))
comment_stands c [] h k = absurd cc
comment_stands c (d ∷ ds) h k = by (is_of (codes "*") d) refl
  where
    slash : 47 ≡ c
    slash = is_of_one 47 c h

    by : (b : Bool) → is_of (codes "*") d ≡ b → Stands (c ∷ d ∷ ds) (cond b (block_piece (block_len 0 begun.Nothing 0 ds)) (piece.Skip (line_len (c ∷ d ∷ ds))))
    by true e = subst (λ x. Stands (x ∷ d ∷ ds) (block_piece (block_len 0 begun.Nothing 0 ds))) slash
        (subst (λ y. Stands (47 ∷ y ∷ ds) (block_piece (block_len 0 begun.Nothing 0 ds))) (is_of_one 42 d e) (block_stands ds))
    by false e = subst (λ x. Stands (x ∷ d ∷ ds) (piece.Skip (line_len (x ∷ d ∷ ds)))) slash
        (subst (λ y. Stands (47 ∷ y ∷ ds) (piece.Skip (line_len (47 ∷ y ∷ ds)))) (begins_comment_with d k e) (line_stands ds))

-- ---- what a comment becomes

pub comment_is : (front rest : List ℕ) → IsComment front rest → comment_piece (front ++ rest) ≡ piece.Skip (length front)
comment_is front rest (IsComment.line {text} a b) =
    let n : line_len (text ++ rest) ≡ length text = run_is (λ c. not (is_line_end c)) text rest a (not-true (begins (λ c. not (is_line_end c)) rest) b) in
    ap piece.Skip (omega (arith, n))
comment_is front rest (IsComment.block {inner} i) =
    let n : 0 + length inner + 2 ≡ length (codes "/*" ++ inner) = omega arith in
    ap block_piece (inner_is_passed inner i 0 0 rest) ∙ ap piece.Skip n

pub comment_begins : (front rest : List ℕ) → IsComment front rest → begins_comment (front ++ rest) ≡ true
comment_begins front rest (IsComment.line a b) = refl
comment_begins front rest (IsComment.block i) = refl

pub open_is : (ds : List ℕ) → ((front rest : List ℕ) → codes "/*" ++ ds ≡ front ++ rest → IsComment front rest → ⊥) → comment_piece (codes "/*" ++ ds) ≡ piece.Refused rule.OpenComment 0 2
open_is ds none = by (block_len 0 begun.Nothing 0 ds) refl
  where
    by : (o : Option ℕ) → block_len 0 begun.Nothing 0 ds ≡ o → block_piece o ≡ piece.Refused rule.OpenComment 0 2
    by None e = refl
    by (Some m) e =
        let r = closed ds 0 begun.Nothing 0 m e in
        absurd (none (codes "/*" ++ r.front) r.rest (ap (λ t. codes "/*" ++ t) r.whole) (IsComment.block (inner_from r.front r.closes)))
