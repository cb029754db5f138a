-- The token that is found is the longest that the bytes begin with, and the only one.
use Rattle.std.proofs.Common.{◌≡◌, ℕ, Bool, true, false, cond, List, [], ◌∷◌, ◌++◌, take, drop, codes, refl, sym, ap, subst, ◌∙◌, IsTrue, Option, Some, None, append_assoc, inl, inr}
use Rattle.std.specs.Prelude.{◌||◌, nat_eq, nat_le}
use Rattle.std.specs.Char.{is_ascii_digit}
use Rattle.std.specs.List.{list_all, prefix_len}
use Rattle.std.specs.Fmt.{decimal}
use Rattle.std.proofs.lemmas.List.{take-append-drop}
use Rattle.std.proofs.lemmas.Bool.{both_ways, eqb-true}
use Rattle.std.proofs.lemmas.Option.{same_Some, some_pair_parts}
use Rattle.scw_reader.specs.declared.token.Word.{Word}
use Rattle.scw_reader.specs.declared.token.Sign.{Sign}
use Rattle.scw_reader.specs.declared.token.Token.{Token}
use Rattle.scw_reader.specs.declared.token.Token.TheVariants as token
use Rattle.scw_reader.specs.declared.token.TheConstants.{MAX_INT, MAX_LONG}
use Rattle.scw_reader.specs.declared.class.Class.TheVariants as class
use Rattle.scw_reader.specs.Character.{is_of, is_in}
use Rattle.scw_reader.specs.Token.{token_text, is_name, is_token}
use Rattle.scw_reader.specs.Layout.{goes_on}
use Rattle.scw_reader.specs.Lexing.{front, after, with_rest, signed, word_of, sign_of, named, word_at, numeral, int_of, long_of, suffixed, number_at, closed, text_at, sign_len, sign_at, some_token_at, token_at}
use Rattle.scw_reader.proofs.OutcomeLemmas.{bind_some, chosen, passed, failed}
use Rattle.scw_reader.proofs.RunLemmas.{list_all-run}
use Rattle.scw_reader.proofs.NumberLemmas.{numeral_is}
use Rattle.scw_reader.proofs.TableLemmas.{word_of_is, sign_of_is}

-- ---- what is found is there

-- what was found: the bytes begin with the token's text, and it may be a token
abbrev pub IsFound : List ℕ → Token → List ℕ → Type 0
IsFound bytes t rest = (bytes ≡ token_text t ++ rest) × IsTrue (is_token t)

named_is : (text : List ℕ) (t : Token) → named text (word_of text) ≡ Some t → (text ≡ token_text t) × IsTrue (is_token t)
named_is text t h = by (word_of text) refl h
  where
    by : (o : Option Word) → word_of text ≡ o → named text o ≡ Some t → (text ≡ token_text t) × IsTrue (is_token t)
    by (Some w) e h = let same : token.Word w ≡ t = same_Some _ _ h in
        (word_of_is text w e ∙ ap token_text same, subst (λ u. IsTrue (is_token u)) same refl)
    by None e h =
        let p = passed (is_name text) (Some (token.Name text)) t h in
        let same : token.Name text ≡ t = same_Some _ _ p.1 in
        (ap token_text same, subst (λ u. IsTrue (is_token u)) same p.0)

-- a token with a rest that is given to it
kept : (o : Option Token) (r : List ℕ) (t : Token) (rest : List ℕ) → with_rest r o ≡ Some (t, rest) → (o ≡ Some t) × (r ≡ rest)
kept None r t rest h = absurd cc
kept (Some u) r t rest h = let parts = some_pair_parts u t r rest h in (ap Some parts.0, parts.1)

word_at_is : (bytes : List ℕ) (t : Token) (rest : List ℕ) → word_at bytes ≡ Some (t, rest) → IsFound bytes t rest
unfolding word_at
word_at_is bytes t rest h =
    let k = kept (named (front class.Word bytes) (word_of (front class.Word bytes))) (after class.Word bytes) t rest h in
    let n = named_is (front class.Word bytes) t k.0 in
    (sym (take-append-drop (prefix_len (is_in class.Word) bytes) bytes) ∙ ap (λ x. x ++ after class.Word bytes) n.0 ∙ ap (λ r. token_text t ++ r) k.1, n.1)

int_of_is : (n : ℕ) (t : Token) → int_of n ≡ Some t → (decimal n ≡ token_text t) × IsTrue (is_token t)
int_of_is n t h =
    let p = passed (nat_le n MAX_INT) (Some (token.Int n)) t h in
    let same : token.Int n ≡ t = same_Some _ _ p.1 in
    (ap token_text same, subst (λ u. IsTrue (is_token u)) same p.0)

long_of_is : (n : ℕ) (t : Token) → long_of n ≡ Some t → (decimal n ++ codes "L" ≡ token_text t) × IsTrue (is_token t)
long_of_is n t h =
    let p = passed (nat_le n MAX_LONG) (Some (token.Long n)) t h in
    let same : token.Long n ≡ t = same_Some _ _ p.1 in
    (ap token_text same, subst (λ u. IsTrue (is_token u)) same p.0)

int_is : (n : ℕ) (bytes : List ℕ) (t : Token) (rest : List ℕ) → with_rest bytes (int_of n) ≡ Some (t, rest) → IsFound (decimal n ++ bytes) t rest
int_is n bytes t rest h =
    let k = kept (int_of n) bytes t rest h in
    let i = int_of_is n t k.0 in
    (ap (λ x. x ++ bytes) i.0 ∙ ap (λ r. token_text t ++ r) k.1, i.1)

-- the one character of a text
one_char : (d c : ℕ) → is_of (d ∷ []) c ≡ true → d ≡ c
one_char d c h = by (nat_eq d c) refl h
  where
    by : (b : Bool) → nat_eq d c ≡ b → (b || false) ≡ true → d ≡ c
    by true e h = eqb-true d c e
    by false e h = absurd (both_ways false refl h)

suffixed_is : (n : ℕ) (bytes : List ℕ) (t : Token) (rest : List ℕ) → suffixed n bytes ≡ Some (t, rest) → IsFound (decimal n ++ bytes) t rest
suffixed_is n [] t rest h = int_is n [] t rest h
suffixed_is n (c ∷ cs) t rest h =
    elim (chosen (is_of (codes "L") c) (with_rest cs (long_of n)) (with_rest (c ∷ cs) (int_of n)) (Some (t, rest)) h) [
      | inl w ↦
          let k = kept (long_of n) cs t rest w.1 in
          let l = long_of_is n t k.0 in
          let same : 76 ≡ c = one_char 76 c w.0 in
          (ap (λ d. decimal n ++ (d ∷ cs)) (sym same) ∙ sym (append_assoc (decimal n) (codes "L") cs) ∙ ap (λ x. x ++ cs) l.0 ∙ ap (λ r. token_text t ++ r) k.1, l.1)
      | inr w ↦ int_is n (c ∷ cs) t rest w.1
    ]

number_at_is : (bytes : List ℕ) (t : Token) (rest : List ℕ) → number_at bytes ≡ Some (t, rest) → IsFound bytes t rest
unfolding number_at
number_at_is bytes t rest h =
    let b = bind_some (numeral (front class.Digit bytes)) (λ n. suffixed n (after class.Digit bytes)) (t, rest) h in
    let n = numeral_is (front class.Digit bytes) b.0 (list_all-run is_ascii_digit bytes) b.1 in
    let s = suffixed_is b.0 (after class.Digit bytes) t rest b.2 in
    (sym (take-append-drop (prefix_len is_ascii_digit bytes) bytes) ∙ ap (λ x. x ++ after class.Digit bytes) n.0 ∙ s.0, s.1)

closed_is : (text bytes : List ℕ) (t : Token) (rest : List ℕ) → IsTrue (list_all (is_in class.Text) text) → closed text bytes ≡ Some (t, rest)
    → IsFound (codes "\"" ++ (text ++ bytes)) t rest
closed_is text [] t rest plain h = absurd cc
closed_is text (c ∷ cs) t rest plain h =
    let p = passed (is_of (codes "\"") c) (Some (token.Text text, cs)) (t, rest) h in
    let parts = some_pair_parts (token.Text text) t cs rest p.1 in
    let same : 34 ≡ c = one_char 34 c p.0 in (
      ap (λ d. 34 ∷ (text ++ (d ∷ cs))) (sym same) ∙ ap (λ x. 34 ∷ x) (sym (append_assoc text (codes "\"") cs)) ∙ ap (λ u. token_text u ++ cs) parts.0 ∙ ap (λ r. token_text t ++ r) parts.1,
      subst (λ u. IsTrue (is_token u)) parts.0 plain,
    )

text_at_is : (bytes : List ℕ) (t : Token) (rest : List ℕ) → text_at bytes ≡ Some (t, rest) → IsFound (codes "\"" ++ bytes) t rest
unfolding text_at
text_at_is bytes t rest h =
    let c = closed_is (front class.Text bytes) (after class.Text bytes) t rest (list_all-run (is_in class.Text) bytes) h in
    (ap (λ x. 34 ∷ x) (sym (take-append-drop (prefix_len (is_in class.Text) bytes) bytes)) ∙ c.0, c.1)

signed_is : (text : List ℕ) (t : Token) → signed (sign_of text) ≡ Some t → (text ≡ token_text t) × IsTrue (is_token t)
signed_is text t h = by (sign_of text) refl h
  where
    by : (o : Option Sign) → sign_of text ≡ o → signed o ≡ Some t → (text ≡ token_text t) × IsTrue (is_token t)
    by None e h = absurd cc
    by (Some s) e h = let same : token.Sign s ≡ t = same_Some _ _ h in
        (sign_of_is text s e ∙ ap token_text same, subst (λ u. IsTrue (is_token u)) same refl)

sign_at_is : (bytes : List ℕ) (t : Token) (rest : List ℕ) → sign_at bytes ≡ Some (t, rest) → IsFound bytes t rest
unfolding sign_at
sign_at_is bytes t rest h =
    let k = kept (signed (sign_of (take (sign_len bytes) bytes))) (drop (sign_len bytes) bytes) t rest h in
    let s = signed_is (take (sign_len bytes) bytes) t k.0 in
    (sym (take-append-drop (sign_len bytes) bytes) ∙ ap (λ x. x ++ drop (sign_len bytes) bytes) s.0 ∙ ap (λ r. token_text t ++ r) k.1, s.1)

some_token_at_is : (bytes : List ℕ) (t : Token) (rest : List ℕ) → some_token_at bytes ≡ Some (t, rest) → IsFound bytes t rest
some_token_at_is [] t rest h = absurd cc
some_token_at_is (c ∷ cs) t rest h =
    elim (chosen (is_in class.Digit c) (number_at (c ∷ cs)) _ (Some (t, rest)) h) [
      | inl w ↦ number_at_is (c ∷ cs) t rest w.1
      | inr w ↦ elim (chosen (is_in class.Word c) (word_at (c ∷ cs)) _ (Some (t, rest)) w.1) [
        | inl v ↦ word_at_is (c ∷ cs) t rest v.1
        | inr v ↦ elim (chosen (is_of (codes "\"") c) (text_at cs) (sign_at (c ∷ cs)) (Some (t, rest)) v.1) [
          | inl u ↦ let found = text_at_is cs t rest u.1 in (ap (λ d. d ∷ cs) (sym (one_char 34 c u.0)) ∙ found.0, found.1)
          | inr u ↦ sign_at_is (c ∷ cs) t rest u.1
        ]
      ]
    ]

-- a token that is found stands there, and is the longest
pub token_at_is : (bytes : List ℕ) (t : Token) (rest : List ℕ) → token_at bytes ≡ Some (t, rest) → IsFound bytes t rest × (goes_on t rest ≡ false)
unfolding token_at
token_at_is bytes t rest h =
    let b = bind_some (some_token_at bytes) (λ p. cond (goes_on p.0 p.1) None (Some p)) (t, rest) h in
    let f = failed (goes_on b.0.0 b.0.1) (Some b.0) (t, rest) b.2 in
    let same : b.0 ≡ (t, rest) = same_Some _ _ f.1 in
    (some_token_at_is bytes t rest (b.1 ∙ ap Some same), ap (λ p. goes_on p.0 p.1) (sym same) ∙ f.0)
