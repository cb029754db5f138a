-- Lines and columns, byte by byte.
use Rattle.std.proofs.Common.{◌≡◌, ℕ, zero, suc, ◌+◌, ◌<◌, ◌≤◌, Bool, true, false, cond, ltb, ◌&&◌, List, length, take, get_or, refl, ap, ◌∙◌, add-one, arith}
use Rattle.std.proofs.lemmas.Bool.{and_left, lt-ltb, le-ltb, cond_both}
use Rattle.std.proofs.lemmas.List.{length-take}
use Rattle.std.proofs.lemmas.List.Sums.{count_by-le-length, count_by_more_no, count_by_more_yes}
use Rattle.scw_text.specs.Place.{is_line_feed, line_of, line_start, ends_char, count_upto, column_of}

-- at the start of the text
pub column_of-zero : (bytes : List ℕ) → column_of bytes 0 ≡ 1
unfolding column_of count_upto
column_of-zero bytes = refl

count_none : (e : ℕ → Bool) (s n : ℕ) → n ≤ s → count_upto (λ k. ltb s k && e k) n ≡ 0
unfolding count_upto
count_none e s zero le = refl
count_none e s (suc n) le =
    let out : (ltb s (suc n) && e (suc n)) ≡ false = and_left (ltb s (suc n)) (e (suc n)) (le-ltb s (suc n) le) in
    rw (count_none e s n (omega arith), out) refl

count_le : (test : ℕ → Bool) (n : ℕ) → count_upto test n ≤ n
unfolding count_upto
count_le test zero = omega arith
count_le test (suc n) = let less = count_le test n in cond_both (test (suc n)) 1 0 (λ k. count_upto test n + k ≤ suc n) (λ _. omega arith) (λ _. omega arith)

line_start-le : (bytes : List ℕ) (n : ℕ) → line_start bytes n ≤ n
unfolding line_start
line_start-le bytes zero = omega arith
line_start-le bytes (suc n) = let less = line_start-le bytes n in cond_both (is_line_feed (get_or bytes n 0)) (suc n) (line_start bytes n) (λ k. k ≤ suc n) (λ _. omega arith) (λ _. omega arith)

-- a line has no more bytes before the place than the text
pub column_of-le : (bytes : List ℕ) (at : ℕ) → column_of bytes at ≤ at + 1
unfolding column_of
column_of-le bytes at = let few = count_le (λ k. ltb (line_start bytes at) k && ends_char bytes k) at in omega arith

-- nor are there more lines than bytes before the place, and one
pub line_of-le : (bytes : List ℕ) (at : ℕ) → line_of bytes at ≤ at + 1
line_of-le bytes at = let few = count_by-le-length is_line_feed (take at bytes) in omega (arith, length-take at bytes)

-- after a line feed
pub line_after_feed : (bytes : List ℕ) (at : ℕ) → at < length bytes → is_line_feed (get_or bytes at 0) ≡ true → line_of bytes (at + 1) ≡ line_of bytes at + 1
line_after_feed bytes at lt e = ap (λ (n : ℕ). 1 + n) (count_by_more_yes is_line_feed bytes at 0 lt e) ∙ (omega arith)

-- after another byte
pub line_after_other : (bytes : List ℕ) (at : ℕ) → at < length bytes → is_line_feed (get_or bytes at 0) ≡ false → line_of bytes (at + 1) ≡ line_of bytes at
line_after_other bytes at lt e = ap (λ (n : ℕ). 1 + n) (count_by_more_no is_line_feed bytes at 0 lt e)

column_suc_feed : (bytes : List ℕ) (at : ℕ) → is_line_feed (get_or bytes at 0) ≡ true → column_of bytes (suc at) ≡ 1
unfolding column_of line_start
column_suc_feed bytes at e = rw e (ap (λ (n : ℕ). 1 + n) (count_none (ends_char bytes) (suc at) (suc at) (omega arith)))

start_after_other : (bytes : List ℕ) (at : ℕ) → is_line_feed (get_or bytes at 0) ≡ false → line_start bytes (suc at) ≡ line_start bytes at
unfolding line_start
start_after_other bytes at e = rw e refl

count_more : (test : ℕ → Bool) (n : ℕ) (b : Bool) → test (suc n) ≡ b → count_upto test (suc n) ≡ count_upto test n + cond b 1 0
unfolding count_upto
count_more test n b e = ap (λ (t : Bool). count_upto test n + cond t 1 0) e

column_suc : (bytes : List ℕ) (at : ℕ) (ends : Bool) → is_line_feed (get_or bytes at 0) ≡ false → ends_char bytes (suc at) ≡ ends → column_of bytes (suc at) ≡ column_of bytes at + cond ends 1 0
unfolding column_of
column_suc bytes at ends e f =
    let start = line_start bytes at in
    let le = line_start-le bytes at in
    let inside : ltb start (suc at) ≡ true = lt-ltb start (suc at) (omega arith) in
    let test : (ltb start (suc at) && ends_char bytes (suc at)) ≡ ends = rw (inside, f) refl in
    let counted = count_more (λ k. ltb start k && ends_char bytes k) at ends test in
    ap (λ (n : ℕ). 1 + count_upto (λ k. ltb n k && ends_char bytes k) (suc at)) (start_after_other bytes at e) ∙ omega arith

-- a line feed begins a line
pub column_after_feed : (bytes : List ℕ) (at : ℕ) → is_line_feed (get_or bytes at 0) ≡ true → column_of bytes (at + 1) ≡ 1
column_after_feed bytes at e = rw add-one (column_suc_feed bytes at e)

-- a character ends
pub column_after_char : (bytes : List ℕ) (at : ℕ) → is_line_feed (get_or bytes at 0) ≡ false → ends_char bytes (at + 1) ≡ true → column_of bytes (at + 1) ≡ column_of bytes at + 1
column_after_char bytes at e f = ap (column_of bytes) (add-one at) ∙ column_suc bytes at true e (rw add-one at f)

-- a character goes on
pub column_inside : (bytes : List ℕ) (at : ℕ) → is_line_feed (get_or bytes at 0) ≡ false → ends_char bytes (at + 1) ≡ false → column_of bytes (at + 1) ≡ column_of bytes at
column_inside bytes at e f = rw add-one (column_suc bytes at false e (rw add-one at f) ∙ omega arith)

-- the place after each kind of byte
pub ruleset place_steps = (column_of-zero, column_of-le, line_of-le, line_after_feed, line_after_other, column_after_feed, column_after_char, column_inside)
