-- The longest identifier at the front of a text.
use Rattle.std.proofs.Common.{◌≡◌, ℕ, zero, suc, ◌+◌, ◌-◌, ◌<◌, ◌≤◌, Bool, true, false, cond, List, [], ◌∷◌, ◌++◌, length, take, drop, get_or, codes, refl, sym, ap, ◌∙◌, subst, arith, append_assoc}
use Rattle.std.specs.Prelude.{◌&&◌, not, nat_eq, nat_lt}
use Rattle.std.specs.List.{list_all, prefix_len}
use Rattle.std.proofs.lemmas.Bool.{and_parts, and_from, both_ways, ltb-true, eqb-true, lt-ltb, eq-eqb}
use Rattle.std.proofs.lemmas.List.{take_at, drop_at, take_all, take_more, take-append-drop, length-append, length-take-le, get_or_at, drop-drop}
use Rattle.std.proofs.lemmas.List.Folds.{list_all-append}
use Rattle.scw_lex.specs.declared.character.Class.{Class}
use Rattle.scw_lex.specs.declared.character.Class.TheVariants as class
use Rattle.scw_lex.specs.Character.{begins, is_word, is_letter, is_operator, is_word_class, is_letter_class, is_operator_class, class_of}
use Rattle.scw_lex.specs.Name.{begins_comment, operator_len, is_joining, word_name_len}
use Rattle.scw_lex.specs.Lexical.{IsWord, IsOperator, IsIdentifier}
use Rattle.scw_lex.proofs.TextLemmas.{later_is, begins_front, begins_with, all_begin, take_sum, one_more, run_all, run_fits, run_is, run_is_long}

-- ---- classes

letter_is_word_class : (k : Class) → is_letter_class k ≡ true → is_word_class k ≡ true
letter_is_word_class class.Letter h = refl
letter_is_word_class class.Digit h = absurd cc
letter_is_word_class class.White h = absurd cc
letter_is_word_class class.Separator h = absurd cc
letter_is_word_class class.Quote h = absurd cc
letter_is_word_class class.Operator h = absurd cc
letter_is_word_class class.Other h = absurd cc

operator_is_no_word_class : (k : Class) → is_operator_class k ≡ true → is_word_class k ≡ false
operator_is_no_word_class class.Letter h = absurd cc
operator_is_no_word_class class.Digit h = absurd cc
operator_is_no_word_class class.White h = absurd cc
operator_is_no_word_class class.Separator h = absurd cc
operator_is_no_word_class class.Quote h = absurd cc
operator_is_no_word_class class.Operator h = refl
operator_is_no_word_class class.Other h = absurd cc

operator_begins_no_word : (t : List ℕ) → begins is_operator t ≡ true → begins is_word t ≡ false
operator_begins_no_word [] h = absurd cc
operator_begins_no_word (c ∷ cs) h = operator_is_no_word_class (class_of c) h

operator_begins_no_letter : (t : List ℕ) → begins is_operator t ≡ true → begins is_letter t ≡ true → ⊥
operator_begins_no_letter [] h l = absurd cc
operator_begins_no_letter (c ∷ cs) h l = both_ways (is_word c) (operator_is_no_word_class (class_of c) h) (letter_is_word_class (class_of c) l)

-- ---- operator characters

are_operators : (t : List ℕ) → list_all is_operator (take (operator_len t) t) ≡ true
are_operators [] = refl
are_operators (c ∷ cs) = by (are_operators cs) (is_operator c) refl (begins_comment (c ∷ cs))
  where
    by : list_all is_operator (take (operator_len cs) cs) ≡ true → (b : Bool) → is_operator c ≡ b → (k : Bool)
        → list_all is_operator (take (cond (b && not k) (1 + operator_len cs) 0) (c ∷ cs)) ≡ true
    by later true e false = rw (one_more (operator_len cs)) (rw e later)
    by later true e true = refl
    by later false e k = refl

nothing_in : (before more : List ℕ) → [] ≡ before ++ more → 0 < length more → ⊥
nothing_in before more e l =
    let a : 0 ≡ length before + length more = ap length e ∙ length-append before more in
    omega (arith, a, l)

holds_no_comment : (t before more : List ℕ) → take (operator_len t) t ≡ before ++ more → 0 < length more → begins_comment (more ++ drop (operator_len t) t) ≡ false
holds_no_comment [] before more e l = absurd (nothing_in before more e l)
holds_no_comment (c ∷ cs) before more e l = by (holds_no_comment cs) (is_operator c) (begins_comment (c ∷ cs)) refl e
  where
    here : (before : List ℕ) → ((b m : List ℕ) → take (operator_len cs) cs ≡ b ++ m → 0 < length m → begins_comment (m ++ drop (operator_len cs) cs) ≡ false)
        → begins_comment (c ∷ cs) ≡ false → c ∷ take (operator_len cs) cs ≡ before ++ more → begins_comment (more ++ drop (operator_len cs) cs) ≡ false
    here [] later n e =
        ap (λ m. begins_comment (m ++ drop (operator_len cs) cs)) (sym e) ∙ ap (λ m. begins_comment (c ∷ m)) (take-append-drop (operator_len cs) cs) ∙ n
    here (d ∷ ds) later n e = later ds more (later_is e) l

    by : ((b m : List ℕ) → take (operator_len cs) cs ≡ b ++ m → 0 < length m → begins_comment (m ++ drop (operator_len cs) cs) ≡ false) → (b k : Bool) → begins_comment (c ∷ cs) ≡ k
        → take (cond (b && not k) (1 + operator_len cs) 0) (c ∷ cs) ≡ before ++ more
        → begins_comment (more ++ drop (cond (b && not k) (1 + operator_len cs) 0) (c ∷ cs)) ≡ false
    by later true false n e = rw (one_more (operator_len cs)) (here before later n (rw (one_more (operator_len cs)) at e))
    by later true true n e = absurd (nothing_in before more e l)
    by later false k n e = absurd (nothing_in before more e l)

pub operator_here : (t : List ℕ) → 0 < length (take (operator_len t) t) → IsOperator (take (operator_len t) t) (drop (operator_len t) t)
operator_here t l = record { any = l; operator = are_operators t; no_comment = holds_no_comment t }

operators_are_long : (o r : List ℕ) → list_all is_operator o ≡ true → ((before more : List ℕ) → o ≡ before ++ more → 0 < length more → begins_comment (more ++ r) ≡ false)
    → length o ≤ operator_len (o ++ r)
operators_are_long [] r h n = omega arith
operators_are_long (c ∷ cs) r h n =
    let a = and_parts (is_operator c) (list_all is_operator cs) h in
    let b : begins_comment (c ∷ (cs ++ r)) ≡ false = n [] (c ∷ cs) refl (omega arith) in
    let i : length cs ≤ operator_len (cs ++ r) = operators_are_long cs r a.1 (λ before more e l. n (c ∷ before) more (ap (λ t. c ∷ t) e) l) in
    rw (a.0, b) (omega (arith, i))

pub operator_is_long : (front rest : List ℕ) → IsOperator front rest → length front ≤ operator_len (front ++ rest)
operator_is_long front rest o = operators_are_long front rest o.operator o.no_comment

pub operator_len_fits : (t : List ℕ) → operator_len t ≤ length t
operator_len_fits [] = omega arith
operator_len_fits (c ∷ cs) = by (operator_len_fits cs) (is_operator c && not (begins_comment (c ∷ cs)))
  where
    by : operator_len cs ≤ length cs → (b : Bool) → cond b (1 + operator_len cs) 0 ≤ length (c ∷ cs)
    by later true = omega (arith, later)
    by later false = omega arith

-- ---- words

pub letter_is_word : (c : ℕ) → is_letter c ≡ true → is_word c ≡ true
letter_is_word c h = letter_is_word_class (class_of c) h

letter_begins : (c : ℕ) (cs : List ℕ) → is_letter c ≡ true → begins is_letter (take (prefix_len is_word (c ∷ cs)) (c ∷ cs)) ≡ true
letter_begins c cs h = rw (letter_is_word c h) (rw (one_more (prefix_len is_word cs)) h)

word_here : (c : ℕ) (cs : List ℕ) → is_letter c ≡ true → IsWord (take (prefix_len is_word (c ∷ cs)) (c ∷ cs))
word_here c cs h = record { letter = letter_begins c cs h; word = run_all is_word (c ∷ cs) }

-- a word that operator characters join is a word and `_`
record EndsJoining (word : List ℕ) : Type 0 where
  front : List ℕ
  whole : word ≡ front ++ codes "_"
  any : 0 < length front

ends_joining : (word : List ℕ) → is_joining word ≡ true → EndsJoining word
ends_joining word h =
    let a = and_parts (nat_lt 1 (length word)) (nat_eq (get_or word (length word - 1) 0) 95) h in
    let l : 1 < length word = ltb-true 1 (length word) a.0 in
    let last : get_or word (length word - 1) 0 ≡ 95 = eqb-true (get_or word (length word - 1) 0) 95 a.1 in
    let within : length word - 1 < length word = omega (arith, l) in
    let n : length word - 1 + 1 ≡ length word = omega (arith, l) in
    let le : length word ≤ length word = omega arith in
    let shorter : length word - 1 ≤ length word = omega arith in
    let k = length-take-le (length word - 1) word shorter in
    record {
      front = take (length word - 1) word;
      whole = sym (take_all (length word) word le) ∙ ap (λ m. take m word) (sym n) ∙ take_more word (length word - 1) 0 within ∙ ap (λ d. take (length word - 1) word ++ d ∷ []) last;
      any = omega (arith, k, l);
    }

joins : (front : List ℕ) → 0 < length front → is_joining (front ++ codes "_") ≡ true
joins front l =
    let n : length (front ++ codes "_") ≡ length front + 1 = length-append front (codes "_") in
    let m : length (front ++ codes "_") - 1 ≡ length front = omega (arith, n) in
    and_from (nat_lt 1 (length (front ++ codes "_"))) (nat_eq (get_or (front ++ codes "_") (length (front ++ codes "_") - 1) 0) 95)
    (lt-ltb 1 (length (front ++ codes "_")) (omega (arith, n, l)))
    (eq-eqb (get_or (front ++ codes "_") (length (front ++ codes "_") - 1) 0) 95
    (ap (λ k. get_or (front ++ codes "_") k 0) m ∙ get_or_at front 95 [] 0 (length front) refl))

front_of_word : (front : List ℕ) → 0 < length front → IsWord (front ++ codes "_") → IsWord front
front_of_word front l w = record {
  letter = sym (begins_front is_letter front (codes "_") l) ∙ w.letter;
  word = (and_parts (list_all is_word front) (list_all is_word (codes "_")) (sym (list_all-append is_word front (codes "_")) ∙ w.word)).0;
}

joined_here : (t : List ℕ) (m k : ℕ) → IsWord (take m t) → is_joining (take m t) ≡ true → operator_len (drop m t) ≡ suc k → IsIdentifier (take (m + suc k) t) (drop (m + suc k) t)
joined_here t m k w j e =
    let s = ends_joining (take m t) j in
    let o : List ℕ = take (operator_len (drop m t)) (drop m t) in
    let any : 0 < length o = let l = length-take-le (operator_len (drop m t)) (drop m t) (operator_len_fits (drop m t)) in omega (arith, l, e) in
    let is_operator_text : IsOperator o (drop (operator_len (drop m t)) (drop m t)) = operator_here (drop m t) any in
    let word : IsWord s.front = front_of_word s.front s.any (subst IsWord s.whole w) in
    let front : s.front ++ (codes "_" ++ o) ≡ take (m + operator_len (drop m t)) t =
    sym (append_assoc s.front (codes "_") o) ∙ ap (λ u. u ++ o) (sym s.whole) ∙ sym (take_sum m (operator_len (drop m t)) t) in
    let rest : drop (operator_len (drop m t)) (drop m t) ≡ drop (m + operator_len (drop m t)) t = drop-drop (operator_len (drop m t)) m t in
    let here : IsIdentifier (s.front ++ (codes "_" ++ o)) (drop (operator_len (drop m t)) (drop m t)) = IsIdentifier.joined word is_operator_text in
    subst (λ n. IsIdentifier (take (m + n) t) (drop (m + n) t)) e (subst (λ r. IsIdentifier (take (m + operator_len (drop m t)) t) r) rest
    (subst (λ f. IsIdentifier f (drop (operator_len (drop m t)) (drop m t))) front here))

pub identifier_here : (c : ℕ) (cs : List ℕ) → is_letter c ≡ true → IsIdentifier (take (word_name_len (c ∷ cs)) (c ∷ cs)) (drop (word_name_len (c ∷ cs)) (c ∷ cs))
unfolding word_name_len
identifier_here c cs h = by (prefix_len is_word (c ∷ cs)) (word_here c cs h) (is_joining (take (prefix_len is_word (c ∷ cs)) (c ∷ cs))) refl (operator_len (drop (prefix_len is_word (c ∷ cs)) (c ∷ cs))) refl
  where
    by : (m : ℕ) → IsWord (take m (c ∷ cs)) → (b : Bool) → is_joining (take m (c ∷ cs)) ≡ b → (k : ℕ) → operator_len (drop m (c ∷ cs)) ≡ k
        → IsIdentifier (take (cond b (m + k) m) (c ∷ cs)) (drop (cond b (m + k) m) (c ∷ cs))
    by m w false j k e = IsIdentifier.word w
    by m w true j zero e = let z : m + 0 ≡ m = omega arith in rw z (IsIdentifier.word w)
    by m w true j (suc k) e = joined_here (c ∷ cs) m k w j e

pub word_name_len_fits : (t : List ℕ) → word_name_len t ≤ length t
unfolding word_name_len
word_name_len_fits t = by (is_joining (take (prefix_len is_word t) t))
  where
    by : (b : Bool) → cond b (prefix_len is_word t + operator_len (drop (prefix_len is_word t) t)) (prefix_len is_word t) ≤ length t
    by true =
        let a = length-append (take (prefix_len is_word t) t) (drop (prefix_len is_word t) t) in
        let w = ap length (take-append-drop (prefix_len is_word t) t) in
        let l = length-take-le (prefix_len is_word t) t (run_fits is_word t) in
        let o = operator_len_fits (drop (prefix_len is_word t) t) in
        omega (arith, a, w, l, o)
    by false = run_fits is_word t

at_least : (b : Bool) (n m : ℕ) → n ≤ cond b (n + m) n
at_least true n m = omega arith
at_least false n m = omega arith

word_is_long : (front rest : List ℕ) → IsWord front → length front ≤ word_name_len (front ++ rest)
unfolding word_name_len
word_is_long front rest w =
    let l = run_is_long is_word front rest w.word in
    let a = at_least (is_joining (take (prefix_len is_word (front ++ rest)) (front ++ rest))) (prefix_len is_word (front ++ rest)) (operator_len (drop (prefix_len is_word (front ++ rest)) (front ++ rest))) in
    omega (arith, l, a)

joined_len_is : (u x : List ℕ) → prefix_len is_word (u ++ x) ≡ length u → is_joining u ≡ true → word_name_len (u ++ x) ≡ length u + operator_len x
unfolding word_name_len
joined_len_is u x p j = rw p (rw (take_at u x (length u) refl) (rw (drop_at u x (length u) refl) (rw j refl)))

joined_is_long : (text operator rest : List ℕ) → IsWord text → IsOperator operator rest → length (text ++ (codes "_" ++ operator)) ≤ word_name_len ((text ++ (codes "_" ++ operator)) ++ rest)
joined_is_long text operator rest w o =
    let u : List ℕ = text ++ codes "_" in
    let any : 0 < length text = begins_with is_letter text w.letter in
    let all : list_all is_word u ≡ true = list_all-append is_word text (codes "_") ∙ and_from (list_all is_word text) (list_all is_word (codes "_")) w.word (unfold class_of in refl) in
    let stops : begins is_word (operator ++ rest) ≡ false =
    operator_begins_no_word (operator ++ rest) (begins_front is_operator operator rest o.any ∙ all_begin is_operator operator o.any o.operator) in
    let run : prefix_len is_word (u ++ (operator ++ rest)) ≡ length u = run_is is_word u (operator ++ rest) all stops in
    let n : word_name_len (u ++ (operator ++ rest)) ≡ length u + operator_len (operator ++ rest) = joined_len_is u (operator ++ rest) run (joins text any) in
    let whole : (text ++ (codes "_" ++ operator)) ++ rest ≡ u ++ (operator ++ rest) = ap (λ f. f ++ rest) (sym (append_assoc text (codes "_") operator)) ∙ append_assoc u operator rest in
    let l : length operator ≤ operator_len (operator ++ rest) = operator_is_long operator rest o in
    let k : length (text ++ (codes "_" ++ operator)) ≡ length u + length operator = ap length (sym (append_assoc text (codes "_") operator)) ∙ length-append u operator in
    rw whole (omega (arith, n, l, k))

pub identifier_is_long : (front rest : List ℕ) → IsIdentifier front rest → begins is_letter front ≡ true → length front ≤ word_name_len (front ++ rest)
identifier_is_long front rest (IsIdentifier.word w) h = word_is_long front rest w
identifier_is_long front rest (IsIdentifier.joined {text} {operator} w o) h = joined_is_long text operator rest w o
identifier_is_long front rest (IsIdentifier.operator o) h = absurd (operator_begins_no_letter front (all_begin is_operator front o.any o.operator) h)
