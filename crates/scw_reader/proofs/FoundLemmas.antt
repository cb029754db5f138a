-- A token that bytes begin with is found, if it is the longest.
use Rattle.std.proofs.Common.{◌≡◌, ℕ, ◌<◌, ◌≤◌, ◌^◌, Bool, true, false, cond, List, [], ◌∷◌, ◌++◌, length, take, drop, codes, refl, ap, ◌∙◌, IsTrue, arith, Option, Some, None, append_assoc, max}
use Rattle.std.specs.Prelude.{◌&&◌, nat_eq, nat_le}
use Rattle.std.specs.Char.{is_ascii_digit, is_ascii_lowercase, is_ascii_alphanumeric}
use Rattle.std.specs.List.{list_all}
use Rattle.std.specs.Fmt.{decimal}
use Rattle.std.proofs.Math.Seq.{take-append_seam, drop-append_seam}
use Rattle.std.proofs.lemmas.Bool.{and_parts, and_from, both_ways, leb-true, lt-leb, or_left, or_parts, and_right}
use Rattle.scw_reader.specs.declared.token.Word.{Word}
use Rattle.scw_reader.specs.declared.token.Sign.{Sign}
use Rattle.scw_reader.specs.declared.token.Sign.TheVariants as sign
use Rattle.scw_reader.specs.declared.token.Token.{Token}
use Rattle.scw_reader.specs.declared.token.Token.TheVariants as token
use Rattle.scw_reader.specs.declared.token.TheConstants.{MAX_INT, MAX_LONG}
use Rattle.scw_reader.specs.declared.class.Class.TheVariants as class
use Rattle.scw_reader.specs.Character.{is_of, is_in}
use Rattle.scw_reader.specs.Token.{word_text, sign_text, token_text, begins, is_name, is_token}
use Rattle.scw_reader.specs.Layout.{goes_on, number_goes_on}
use Rattle.scw_reader.specs.Outcome.{◌>>=◌}
use Rattle.scw_reader.specs.Lexing.{after, with_rest, signed, word_of, sign_of, named, word_at, numeral, int_of, suffixed, number_at, closed, text_at, sign_len, sign_at, some_token_at, token_at}
use Rattle.scw_reader.proofs.RunLemmas.{prefix_len-run, take-run, drop-run}
use Rattle.scw_reader.proofs.NumberLemmas.{AllDigit, AllDigit-decimal, decimal_some, numeral-decimal}
use Rattle.scw_reader.proofs.TableLemmas.{word_of-text, word_of-name, begins_word, is_word}

-- `some_token_at`, where it is known whether a digit or a letter stands first
abbrev by_class : Bool → Bool → ℕ → List ℕ → Option (Token × List ℕ)
by_class is_digit is_word c cs = cond is_digit (number_at (c ∷ cs)) (cond is_word (word_at (c ∷ cs)) (cond (is_of (codes "\"") c) (text_at cs) (sign_at (c ∷ cs))))

-- ---- words and names

-- a name begins as a word
small_is_no_digit : (c : ℕ) → is_ascii_lowercase c ≡ true → is_in class.Digit c ≡ false
small_is_no_digit c h =
    let both = and_parts (nat_le 97 c) (nat_le c 122) h in
    let least = leb-true 97 c both.0 in
    and_right (nat_le 48 c) (nat_le c 57) (lt-leb c 57 (omega arith))

plain_is_word : (c : ℕ) → is_ascii_alphanumeric c ≡ true → is_in class.Word c ≡ true
plain_is_word c h = or_left (is_ascii_alphanumeric c) (is_of (codes "$_") c) h

plain_are_words : (xs : List ℕ) → IsTrue (list_all is_ascii_alphanumeric xs) → IsTrue (list_all (is_in class.Word) xs)
plain_are_words [] h = refl
plain_are_words (x ∷ xs) h =
    let both = and_parts (is_ascii_alphanumeric x) (list_all is_ascii_alphanumeric xs) h in
    and_from (is_in class.Word x) (list_all (is_in class.Word) xs) (plain_is_word x both.0) (plain_are_words xs both.1)

word_at-run : (xs rest : List ℕ) → IsTrue (list_all (is_in class.Word) xs) → begins (is_in class.Word) rest ≡ false → word_at (xs ++ rest) ≡ with_rest rest (named xs (word_of xs))
unfolding word_at
word_at-run xs rest all stops =
    ap (λ f. with_rest (after class.Word (xs ++ rest)) (named f (word_of f))) (take-run (is_in class.Word) xs rest all stops) ∙ ap (λ r. with_rest r (named xs (word_of xs))) (drop-run (is_in class.Word) xs rest all stops)

word_found : (w : Word) (rest : List ℕ) → begins (is_in class.Word) rest ≡ false → some_token_at (word_text w ++ rest) ≡ Some (token.Word w, rest)
word_found w rest stops = begins_word w rest ∙ word_at-run (word_text w) rest (is_word w) stops ∙ ap (λ o. with_rest rest (named (word_text w) o)) (word_of-text w)

name_begins : (name rest : List ℕ) → IsTrue (is_name name) → some_token_at (name ++ rest) ≡ word_at (name ++ rest)
name_begins [] rest h = absurd (both_ways false refl h)
name_begins (c ∷ cs) rest h =
    let a = and_parts (is_ascii_lowercase c) _ h in
    let b = and_parts (list_all is_ascii_alphanumeric (c ∷ cs)) _ a.1 in
    let plain = and_parts (is_ascii_alphanumeric c) (list_all is_ascii_alphanumeric cs) b.0 in
    ap (λ b. by_class b (is_in class.Word c) c (cs ++ rest)) (small_is_no_digit c a.0) ∙ ap (λ b. by_class false b c (cs ++ rest)) (plain_is_word c plain.0)

name_found : (name rest : List ℕ) → IsTrue (is_name name) → begins (is_in class.Word) rest ≡ false → some_token_at (name ++ rest) ≡ Some (token.Name name, rest)
name_found name rest h stops =
    let a = and_parts (begins is_ascii_lowercase name) _ h in
    let b = and_parts (list_all is_ascii_alphanumeric name) _ a.1 in
    name_begins name rest h ∙ word_at-run name rest (plain_are_words name b.0) stops ∙ ap (λ o. with_rest rest (named name o)) (word_of-name name h)
    ∙ ap (λ b. with_rest rest (cond b (Some (token.Name name)) None)) h

-- ---- numbers

digits_begin : (ds rest : List ℕ) → 0 < length ds → AllDigit ds → some_token_at (ds ++ rest) ≡ number_at (ds ++ rest)
digits_begin [] rest some all = absurd (omega arith)
digits_begin (d ∷ ds) rest some all =
    let both = and_parts (is_ascii_digit d) (list_all is_ascii_digit ds) all in
    ap (λ b. by_class b (is_in class.Word d) d (ds ++ rest)) both.0

number_at-run : (n : ℕ) (rest : List ℕ) → n < 2 ^ 64 → begins is_ascii_digit rest ≡ false → number_at (decimal n ++ rest) ≡ suffixed n rest
unfolding number_at
number_at-run n rest small stops =
    let all = AllDigit-decimal n small in
    ap (λ f. numeral f >>= λ m. suffixed m (after class.Digit (decimal n ++ rest))) (take-run is_ascii_digit (decimal n) rest all stops)
    ∙ ap (λ o. o >>= λ m. suffixed m (after class.Digit (decimal n ++ rest))) (numeral-decimal n small)
    ∙ ap (suffixed n) (drop-run is_ascii_digit (decimal n) rest all stops)

number_found : (n : ℕ) (rest : List ℕ) → n < 2 ^ 64 → begins is_ascii_digit rest ≡ false → some_token_at (decimal n ++ rest) ≡ suffixed n rest
number_found n rest small stops = digits_begin (decimal n) rest (decimal_some n small) (AllDigit-decimal n small) ∙ number_at-run n rest small stops

no_digit_on : (n : ℕ) (rest : List ℕ) → number_goes_on n rest ≡ false → begins is_ascii_digit rest ≡ false
no_digit_on n [] h = refl
no_digit_on n (c ∷ cs) h = (or_parts (is_ascii_digit c) _ h).0

no_suffix_on : (n : ℕ) (rest : List ℕ) → number_goes_on n rest ≡ false → suffixed n rest ≡ with_rest rest (int_of n)
no_suffix_on n [] h = refl
no_suffix_on n (c ∷ cs) h =
    let a = or_parts (is_ascii_digit c) _ h in
    let b = or_parts (is_of (codes "LlFfDd") c) _ a.1 in
    let d = or_parts (nat_eq 76 c) _ b.0 in
    rw d.0 refl

int_found : (n : ℕ) (rest : List ℕ) → IsTrue (nat_le n MAX_INT) → number_goes_on n rest ≡ false → some_token_at (decimal n ++ rest) ≡ Some (token.Int n, rest)
int_found n rest small stops =
    let bound : n ≤ 2147483647 = leb-true n MAX_INT small in
    number_found n rest (omega arith) (no_digit_on n rest stops) ∙ no_suffix_on n rest stops ∙ ap (λ b. with_rest rest (cond b (Some (token.Int n)) None)) small

long_found : (n : ℕ) (rest : List ℕ) → IsTrue (nat_le n MAX_LONG) → some_token_at ((decimal n ++ codes "L") ++ rest) ≡ Some (token.Long n, rest)
long_found n rest small =
    let bound : n ≤ 9223372036854775807 = leb-true n MAX_LONG small in
    ap some_token_at (append_assoc (decimal n) (codes "L") rest) ∙ number_found n (codes "L" ++ rest) (omega arith) refl ∙ ap (λ b. with_rest rest (cond b (Some (token.Long n)) None)) small

-- ---- texts

text_found : (text rest : List ℕ) → IsTrue (list_all (is_in class.Text) text) → some_token_at (token_text (token.Text text) ++ rest) ≡ Some (token.Text text, rest)
unfolding text_at
text_found text rest all =
    ap (λ x. text_at x) (append_assoc text (codes "\"") rest)
    ∙ ap (λ f. closed f (after class.Text (text ++ (codes "\"" ++ rest)))) (take-run (is_in class.Text) text (codes "\"" ++ rest) all refl)
    ∙ ap (closed text) (drop-run (is_in class.Text) text (codes "\"" ++ rest) all refl)

-- ---- signs

sign_at-run : (x : ℕ) (xs rest : List ℕ) → IsTrue (list_all (is_in class.Operator) (x ∷ xs)) → begins (is_in class.Operator) rest ≡ false
    → sign_at ((x ∷ xs) ++ rest) ≡ with_rest rest (signed (sign_of (x ∷ xs)))
unfolding sign_at
sign_at-run x xs rest all stops =
    let len = prefix_len-run (is_in class.Operator) (x ∷ xs) rest all stops in
    let same : sign_len ((x ∷ xs) ++ rest) ≡ length (x ∷ xs) = ap (max 1) len ∙ omega arith in
    ap (λ n. with_rest (drop n ((x ∷ xs) ++ rest)) (signed (sign_of (take n ((x ∷ xs) ++ rest))))) same
    ∙ ap (λ f. with_rest (drop (length (x ∷ xs)) ((x ∷ xs) ++ rest)) (signed (sign_of f))) (take-append_seam (x ∷ xs) rest)
    ∙ ap (λ r. with_rest r (signed (sign_of (x ∷ xs)))) (drop-append_seam (x ∷ xs) rest)

sign_found : (s : Sign) (rest : List ℕ) → (begins (is_in class.Operator) (sign_text s) && begins (is_in class.Operator) rest) ≡ false → some_token_at (sign_text s ++ rest) ≡ Some (token.Sign s, rest)
unfolding sign_at sign_of
sign_found sign.OpenParen rest stops = refl
sign_found sign.CloseParen rest stops = refl
sign_found sign.OpenBracket rest stops = refl
sign_found sign.CloseBracket rest stops = refl
sign_found sign.OpenBrace rest stops = refl
sign_found sign.CloseBrace rest stops = refl
sign_found sign.Comma rest stops = refl
sign_found sign.Semicolon rest stops = refl
sign_found sign.Colon rest stops = sign_at-run 58 [] rest refl stops
sign_found sign.Assign rest stops = sign_at-run 61 [] rest refl stops
sign_found sign.Plus rest stops = sign_at-run 43 [] rest refl stops
sign_found sign.Times rest stops = sign_at-run 42 [] rest refl stops
sign_found sign.Minus rest stops = sign_at-run 45 [] rest refl stops
sign_found sign.Divide rest stops = sign_at-run 47 [] rest refl stops
sign_found sign.Remainder rest stops = sign_at-run 37 [] rest refl stops
sign_found sign.Less rest stops = sign_at-run 60 [] rest refl stops
sign_found sign.LessOrEqual rest stops = sign_at-run 60 (61 ∷ []) rest refl stops
sign_found sign.Greater rest stops = sign_at-run 62 [] rest refl stops
sign_found sign.GreaterOrEqual rest stops = sign_at-run 62 (61 ∷ []) rest refl stops
sign_found sign.Equal rest stops = sign_at-run 61 (61 ∷ []) rest refl stops
sign_found sign.Unequal rest stops = sign_at-run 33 (61 ∷ []) rest refl stops
sign_found sign.And rest stops = sign_at-run 38 (38 ∷ []) rest refl stops
sign_found sign.Or rest stops = sign_at-run 124 (124 ∷ []) rest refl stops

-- ---- all

some_token_found : (t : Token) (rest : List ℕ) → IsTrue (is_token t) → goes_on t rest ≡ false → some_token_at (token_text t ++ rest) ≡ Some (t, rest)
some_token_found (token.Word w) rest fits stops = word_found w rest stops
some_token_found (token.Sign s) rest fits stops = sign_found s rest stops
some_token_found (token.Name name) rest fits stops = name_found name rest fits stops
some_token_found (token.Int n) rest fits stops = int_found n rest fits stops
some_token_found (token.Long n) rest fits stops = long_found n rest fits
some_token_found (token.Text text) rest fits stops = text_found text rest fits

-- a token that may be one, and that what follows makes no longer, is found
pub token_found : (t : Token) (rest : List ℕ) → IsTrue (is_token t) → goes_on t rest ≡ false → token_at (token_text t ++ rest) ≡ Some (t, rest)
unfolding token_at
token_found t rest fits stops =
    ap (λ o. o >>= λ p. cond (goes_on p.0 p.1) None (Some p)) (some_token_found t rest fits stops) ∙ ap (λ b. cond b None (Some (t, rest))) stops
