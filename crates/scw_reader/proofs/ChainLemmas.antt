-- Parsers that give the tree whose tokens they take, and chains of them.
use Rattle.std.proofs.Common.{◌≡◌, ℕ, zero, suc, ◌≤◌, Bool, true, false, cond, List, [], ◌∷◌, ◌++◌, length, refl, sym, ap, subst, ◌∙◌, arith, Option, Some, ◌⊎◌, inl, inr, append_assoc, append-nil}
use Rattle.std.proofs.lemmas.Option.{same_Some}
use Rattle.scw_reader.specs.declared.token.Sign.{Sign}
use Rattle.scw_reader.specs.declared.token.Token.{Token}
use Rattle.scw_reader.specs.declared.token.Token.TheVariants as token
use Rattle.scw_reader.specs.Grammar.{Tokens, ◌·◌, nothing, sign}
use Rattle.scw_reader.specs.Parser.{Parser, and_then, ◌>>=◌, pure, same_sign, eat_sign, chain_from, chain}
use Rattle.scw_reader.proofs.ParserLemmas.{after_step, Eaten, eat_sign_is}

-- ---- what is said of a parser

-- what the parser gives has the tokens that it took, and is no larger than n
pub record Sound {A : Type 0} (p : Parser A) (put : A → Tokens) (size : A → ℕ) (n : ℕ) : Type 0 where
  pub is : (ts : List Token) (r : A × List Token) → p ts ≡ Some r → (ts ≡ put r.0 r.1) × (size r.0 ≤ n)

-- the parser gives what is no larger than n of its tokens, before a rest that ends it
pub record Complete {A : Type 0} (p : Parser A) (put : A → Tokens) (size : A → ℕ) (n : ℕ) (Ends : List Token → Type 0) : Type 0 where
  pub found : (a : A) (rest : List Token) → size a ≤ n → Ends rest → p (put a rest) ≡ Some (a, rest)

-- the tokens are at least those before which they stand
abbrev pub Grows : {A : Type 0} → (A → Tokens) → Type 0
Grows {A} put = (a : A) (rest : List Token) → length rest ≤ length (put a rest)

-- the sign does not come next
abbrev pub Lacks : Sign → List Token → Type 0
Lacks s rest = eat_sign s rest ≡ Some (false, rest)

-- a choice gave what one side gives
pub turned : {A : Type 0} (b : Bool) (p q : Parser A) (ts : List Token) (r : A × List Token) → (cond b p q) ts ≡ Some r → ((b ≡ true) × (p ts ≡ Some r)) ⊎ ((b ≡ false) × (q ts ≡ Some r))
turned true p q ts r h = inl (refl, h)
turned false p q ts r h = inr (refl, h)

-- ---- chains

-- the items, with the separator before each
abbrev pub chain_tokens : {A : Type 0} → Sign → (A → Tokens) → List A → Tokens
chain_tokens s put [] = nothing
chain_tokens s put (x ∷ xs) = sign s · put x · chain_tokens s put xs

abbrev pub AllWithin : {A : Type 0} → (A → ℕ) → ℕ → List A → Type 0
AllWithin size n [] = Unit {0}
AllWithin size n (x ∷ xs) = (size x ≤ n) × AllWithin size n xs

-- what a chain is: what was there, and further items
pub record Chained {A : Type 0} (s : Sign) (put : A → Tokens) (size : A → ℕ) (n : ℕ) (found : List A) (ts : List Token) (r : List A × List Token) : Type 0 where
  pub more : List A
  pub all : r.0 ≡ found ++ more
  pub tokens : ts ≡ chain_tokens s put more r.1
  pub within : AllWithin size n more

none_chained : {A : Type 0} (s : Sign) (put : A → Tokens) (size : A → ℕ) (n : ℕ) (found : List A) (ts : List Token) (r : List A × List Token) → Some (found, ts) ≡ Some r → Chained s put size n found ts r
none_chained {A} s put size n found ts r h =
    let same : (found, ts) ≡ r = same_Some _ _ h in
    record { more = []; all = sym (ap (λ (p : List A × List Token). p.0) same) ∙ sym (append-nil found); tokens = ap (λ (p : List A × List Token). p.1) same; within = tt }

one_chained : {A : Type 0} (s : Sign) (put : A → Tokens) (size : A → ℕ) (n : ℕ) (found : List A) (ts at : List Token) (q : A × List Token) (r : List A × List Token)
    → ts ≡ token.Sign s ∷ at → (at ≡ put q.0 q.1) × (size q.0 ≤ n) → Chained s put size n (found ++ q.0 ∷ []) q.1 r → Chained s put size n found ts r
one_chained s put size n found ts at q r first item c = record {
  more = q.0 ∷ c.more;
  all = c.all ∙ append_assoc found (q.0 ∷ []) c.more;
  tokens = first ∙ ap (λ x. token.Sign s ∷ x) (item.0 ∙ ap (put q.0) c.tokens);
  within = (item.1, c.within);
}

pub chain_from_is : {A : Type 0} (s : Sign) (item : Parser A) (put : A → Tokens) (size : A → ℕ) (n : ℕ) → Sound item put size n
    → (k : ℕ) (found : List A) (ts : List Token) (r : List A × List Token) → chain_from s item k found ts ≡ Some r → Chained s put size n found ts r
unfolding chain_from
chain_from_is s item put size n sound zero found ts r h = none_chained s put size n found ts r h
chain_from_is s item put size n sound (suc k) found ts r h =
    let a = after_step (eat_sign s ts) _ r h in
    let e = eat_sign_is s ts a.0 a.1 in
    elim (turned a.0.0 (item >>= λ x. chain_from s item k (found ++ x ∷ [])) (pure found) a.0.1 r a.2) [
      | inl w ↦
          let b = after_step (item a.0.1) _ r w.1 in
          one_chained s put size n found ts a.0.1 b.0 r (subst (λ t. Eaten (token.Sign s) ts t a.0.1) w.0 e) (sound.is a.0.1 b.0 b.1)
          (chain_from_is s item put size n sound k (found ++ b.0.0 ∷ []) b.0.1 r b.2)
      | inr w ↦
          let same : ts ≡ a.0.1 = subst (λ t. Eaten (token.Sign s) ts t a.0.1) w.0 e in
          none_chained s put size n found ts r (ap (λ x. Some (found, x)) same ∙ w.1)
    ]

pub chain_is : {A : Type 0} (s : Sign) (item : Parser A) (put : A → Tokens) (size : A → ℕ) (n : ℕ) → Sound item put size n
    → (found : List A) (ts : List Token) (r : List A × List Token) → chain s item found ts ≡ Some r → Chained s put size n found ts r
unfolding chain
chain_is s item put size n sound found ts r h = chain_from_is s item put size n sound (length ts) found ts r h

pub sign_sees : (s : Sign) (rest : List Token) → same_sign s s ≡ true → eat_sign s (token.Sign s ∷ rest) ≡ Some (true, rest)
unfolding eat_sign
sign_sees s rest same = ap (λ b. cond {A = Option (Bool × List Token)} b (Some (true, rest)) (Some (false, token.Sign s ∷ rest))) same

-- what the chain goes on with ends an item
pub ends_item : {A : Type 0} (s : Sign) (put : A → Tokens) (Ends : List Token → Type 0) → ((ts : List Token) → Ends (token.Sign s ∷ ts)) → (more : List A) (rest : List Token) → Ends rest → Ends (chain_tokens s put more rest)
ends_item s put Ends separates [] rest ends = ends
ends_item s put Ends separates (x ∷ xs) rest ends = separates (put x (chain_tokens s put xs rest))

pub chain_from_found : {A : Type 0} (s : Sign) (item : Parser A) (put : A → Tokens) (size : A → ℕ) (n : ℕ) (Ends : List Token → Type 0)
    → Complete item put size n Ends → ((ts : List Token) → Ends (token.Sign s ∷ ts)) → same_sign s s ≡ true
    → (k : ℕ) (more found : List A) (rest : List Token) → AllWithin size n more → Ends rest → Lacks s rest → length more ≤ k
    → chain_from s item k found (chain_tokens s put more rest) ≡ Some (found ++ more, rest)
unfolding chain_from
chain_from_found {A} s item put size n Ends complete separates same zero [] found rest within ends lacks few = ap (λ x. let p : List A × List Token = (x, rest) in Some p) (sym (append-nil found))
chain_from_found s item put size n Ends complete separates same zero (x ∷ xs) found rest within ends lacks few = absurd (omega arith)
chain_from_found {A} s item put size n Ends complete separates same (suc k) [] found rest within ends lacks few =
    ap (λ o. and_then o (λ is_more. cond is_more (item >>= λ x. chain_from s item k (found ++ x ∷ [])) (pure found))) lacks
    ∙ ap (λ x. let p : List A × List Token = (x, rest) in Some p) (sym (append-nil found))
chain_from_found {A} s item put size n Ends complete separates same (suc k) (x ∷ xs) found rest within ends lacks few =
    let tail = chain_tokens s put xs rest in
    ap (λ o. and_then o (λ is_more. cond is_more (item >>= λ x. chain_from s item k (found ++ x ∷ [])) (pure found))) (sign_sees s (put x tail) same)
    ∙ ap (λ o. and_then o (λ x. chain_from s item k (found ++ x ∷ []))) (complete.found x tail within.0 (ends_item s put Ends separates xs rest ends))
    ∙ chain_from_found s item put size n Ends complete separates same k xs (found ++ x ∷ []) rest within.1 ends lacks (omega arith)
    ∙ ap (λ x. let p : List A × List Token = (x, rest) in Some p) (append_assoc found (x ∷ []) xs)

pub few_items : {A : Type 0} (s : Sign) (put : A → Tokens) → Grows put → (more : List A) (rest : List Token) → length more ≤ length (chain_tokens s put more rest)
few_items s put grows [] rest = omega arith
few_items s put grows (x ∷ xs) rest = omega (arith, few_items s put grows xs rest, grows x (chain_tokens s put xs rest))

pub chain_found : {A : Type 0} (s : Sign) (item : Parser A) (put : A → Tokens) (size : A → ℕ) (n : ℕ) (Ends : List Token → Type 0)
    → Complete item put size n Ends → ((ts : List Token) → Ends (token.Sign s ∷ ts)) → same_sign s s ≡ true → Grows put
    → (more found : List A) (rest : List Token) → AllWithin size n more → Ends rest → Lacks s rest
    → chain s item found (chain_tokens s put more rest) ≡ Some (found ++ more, rest)
unfolding chain
chain_found s item put size n Ends complete separates same grows more found rest within ends lacks =
    chain_from_found s item put size n Ends complete separates same (length (chain_tokens s put more rest)) more found rest within ends lacks (few_items s put grows more rest)
