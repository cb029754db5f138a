-- What a run of characters of one class is, and where it ends.
use Rattle.std.proofs.Common.{◌≡◌, ℕ, suc, ◌+◌, Bool, true, false, cond, List, [], ◌∷◌, ◌++◌, length, take, drop, refl, ap, subst, ◌∙◌, IsTrue, arith}
use Rattle.std.specs.List.{list_all, prefix_len}
use Rattle.std.proofs.Math.Seq.{take-append_seam, drop-append_seam}
use Rattle.std.proofs.lemmas.Bool.{and_parts, and_from}
use Rattle.scw_reader.specs.Token.{begins}

-- each character of a run passes the test
one_more : (p : ℕ → Bool) (x : ℕ) (xs : List ℕ) (b : Bool) → p x ≡ b → IsTrue (list_all p (take (prefix_len p xs) xs)) → IsTrue (list_all p (take (cond b (1 + prefix_len p xs) 0) (x ∷ xs)))
one_more p x xs true e h =
    let s : suc (prefix_len p xs) ≡ 1 + prefix_len p xs = omega arith in
    subst (λ k. IsTrue (list_all p (take k (x ∷ xs)))) s (and_from (p x) (list_all p (take (prefix_len p xs) xs)) e h)
one_more p x xs false e h = refl

pub list_all-run : (p : ℕ → Bool) (xs : List ℕ) → IsTrue (list_all p (take (prefix_len p xs) xs))
list_all-run p [] = refl
list_all-run p (x ∷ xs) = one_more p x xs (p x) refl (list_all-run p xs)

-- a run ends where a character that fails the test follows, or nothing
pub prefix_len-run : (p : ℕ → Bool) (xs rest : List ℕ) → IsTrue (list_all p xs) → begins p rest ≡ false → prefix_len p (xs ++ rest) ≡ length xs
prefix_len-run p [] [] all stops = refl
prefix_len-run p [] (r ∷ rs) all stops = rw stops refl
prefix_len-run p (x ∷ xs) rest all stops =
    let both = and_parts (p x) (list_all p xs) all in
    let ih = prefix_len-run p xs rest both.1 stops in
    rw (both.0, ih) (omega arith)

pub take-run : (p : ℕ → Bool) (xs rest : List ℕ) → IsTrue (list_all p xs) → begins p rest ≡ false → take (prefix_len p (xs ++ rest)) (xs ++ rest) ≡ xs
take-run p xs rest all stops = ap (λ n. take n (xs ++ rest)) (prefix_len-run p xs rest all stops) ∙ take-append_seam xs rest

pub drop-run : (p : ℕ → Bool) (xs rest : List ℕ) → IsTrue (list_all p xs) → begins p rest ≡ false → drop (prefix_len p (xs ++ rest)) (xs ++ rest) ≡ rest
drop-run p xs rest all stops = ap (λ n. drop n (xs ++ rest)) (prefix_len-run p xs rest all stops) ∙ drop-append_seam xs rest
