-- Fronts of a text, and the longest run of characters of one kind at its front.
use Rattle.std.proofs.Common.{◌≡◌, ℕ, suc, ◌+◌, ◌<◌, ◌≤◌, Bool, true, false, cond, List, [], ◌∷◌, ◌++◌, length, take, drop, get_or, refl, sym, ap, ◌∙◌, arith}
use Rattle.std.specs.List.{list_all, prefix_len}
use Rattle.std.proofs.lemmas.Bool.{and_parts}
use Rattle.std.proofs.lemmas.List.{take_at, drop_at, take-append-drop, take-take, drop-take}
use Rattle.scw_lex.specs.Character.{begins}

pub same_fronts : (a b c d : List ℕ) → a ++ b ≡ c ++ d → length a ≡ length c → (a ≡ c) × (b ≡ d)
same_fronts a b c d e l = (
  sym (take_at a b (length a) refl) ∙ ap (take (length a)) e ∙ take_at c d (length a) (sym l),
  sym (drop_at a b (length a) refl) ∙ ap (drop (length a)) e ∙ drop_at c d (length a) (sym l),
)

pub first_is : {c d : ℕ} {cs ds : List ℕ} → c ∷ cs ≡ d ∷ ds → c ≡ d
first_is {c = c} e = ap (λ t. get_or t 0 c) e

pub later_is : {c d : ℕ} {cs ds : List ℕ} → c ∷ cs ≡ d ∷ ds → cs ≡ ds
later_is e = ap (λ t. drop 1 t) e

pub begins_front : (p : ℕ → Bool) (a b : List ℕ) → 0 < length a → begins p (a ++ b) ≡ begins p a
begins_front p [] b l = absurd (omega (arith, l))
begins_front p (c ∷ cs) b l = refl

pub begins_with : (p : ℕ → Bool) (t : List ℕ) → begins p t ≡ true → 0 < length t
begins_with p [] h = absurd cc
begins_with p (c ∷ cs) h = omega arith

-- what is true of all characters is true of the first
pub all_begin : (p : ℕ → Bool) (t : List ℕ) → 0 < length t → list_all p t ≡ true → begins p t ≡ true
all_begin p [] l h = absurd (omega (arith, l))
all_begin p (c ∷ cs) l h = (and_parts (p c) (list_all p cs) h).0

pub take_sum : (m k : ℕ) (t : List ℕ) → take (m + k) t ≡ take m t ++ take k (drop m t)
take_sum m k t =
    let l : m ≤ m + k = omega arith in
    sym (take-append-drop m (take (m + k) t)) ∙ ap (λ u. u ++ drop m (take (m + k) t)) (take-take m (m + k) t l) ∙ ap (λ u. take m t ++ u) (drop-take m k t)

pub one_more : (n : ℕ) → 1 + n ≡ suc n
one_more n = omega arith

-- ---- runs

pub run_all : (p : ℕ → Bool) (t : List ℕ) → list_all p (take (prefix_len p t) t) ≡ true
run_all p [] = refl
run_all p (c ∷ cs) = by (run_all p cs) (p c) refl
  where
    by : list_all p (take (prefix_len p cs) cs) ≡ true → (b : Bool) → p c ≡ b → list_all p (take (cond b (1 + prefix_len p cs) 0) (c ∷ cs)) ≡ true
    by later true e = rw (one_more (prefix_len p cs)) (rw e later)
    by later false e = refl

pub run_ends : (p : ℕ → Bool) (t : List ℕ) → begins p (drop (prefix_len p t) t) ≡ false
run_ends p [] = refl
run_ends p (c ∷ cs) = by (run_ends p cs) (p c) refl
  where
    by : begins p (drop (prefix_len p cs) cs) ≡ false → (b : Bool) → p c ≡ b → begins p (drop (cond b (1 + prefix_len p cs) 0) (c ∷ cs)) ≡ false
    by later true e = rw (one_more (prefix_len p cs)) later
    by later false e = e

pub run_fits : (p : ℕ → Bool) (t : List ℕ) → prefix_len p t ≤ length t
run_fits p [] = omega arith
run_fits p (c ∷ cs) = by (run_fits p cs) (p c)
  where
    by : prefix_len p cs ≤ length cs → (b : Bool) → cond b (1 + prefix_len p cs) 0 ≤ length (c ∷ cs)
    by later true = omega (arith, later)
    by later false = omega arith

-- the run of these characters, where the rest doesn't go on with it
pub run_is : (p : ℕ → Bool) (front rest : List ℕ) → list_all p front ≡ true → begins p rest ≡ false → prefix_len p (front ++ rest) ≡ length front
run_is p [] [] h n = refl
run_is p [] (c ∷ cs) h n = rw n refl
run_is p (c ∷ cs) rest h n =
    let a = and_parts (p c) (list_all p cs) h in
    let i : prefix_len p (cs ++ rest) ≡ length cs = run_is p cs rest a.1 n in
    rw (a.0, i) (one_more (length cs))

pub run_is_long : (p : ℕ → Bool) (front rest : List ℕ) → list_all p front ≡ true → length front ≤ prefix_len p (front ++ rest)
run_is_long p [] rest h = omega arith
run_is_long p (c ∷ cs) rest h =
    let a = and_parts (p c) (list_all p cs) h in
    let i : length cs ≤ prefix_len p (cs ++ rest) = run_is_long p cs rest a.1 in
    rw a.0 (omega (arith, i))
