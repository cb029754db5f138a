-- One unit: its bytes are read again, and what is read was written so.
use Rattle.std.proofs.Common.{◌≡◌, ℕ, suc, ◌+◌, ◌-◌, ◌*◌, ◌/◌, ◌%◌, ◌<◌, ◌≤◌, true, false, cond, ltb, leb, eqb, not, ◌&&◌, ◌⊎◌, List, [], ◌∷◌, ◌++◌, length, take, Result, Ok, Err, refl, sym, ap, ◌∙◌, inl, inr, arith}
use Rattle.std.proofs.lemmas.Bool.{cases_lt, cases_Bool, and_parts, and_from, leb-true, lt-ltb, le-ltb, le-leb, ne_eqb, cond-false, cond_both}
use Rattle.std.proofs.lemmas.Bool.Decides.{nat_tests}
use Rattle.scw_text.specs.Modified.{unit_bytes, is_continuation, has_two, second_of_two, third_of_three, second_of_three, unit_at}

-- ---- the bytes of a unit

bytes_one : (u : ℕ) → 0 < u → u < 0x80 → unit_bytes u ≡ u ∷ []
unfolding unit_bytes
bytes_one u pos lt = rw (lt-ltb 0 u pos, lt-ltb u 0x80 lt) refl

bytes_two : (u : ℕ) → has_two u ≡ true → u < 0x800 → unit_bytes u ≡ (0xc0 + u / 64) ∷ (0x80 + u % 64) ∷ []
unfolding unit_bytes
bytes_two u two lt =
    let high : (ltb 0 u && ltb u 0x80) ≡ false = grind (arith, nat_tests) in
    rw (high, lt-ltb u 0x800 lt) refl

bytes_three : (u : ℕ) → 0x800 ≤ u → unit_bytes u ≡ (0xe0 + u / 4096) ∷ (0x80 + u / 64 % 64) ∷ (0x80 + u % 64) ∷ []
unfolding unit_bytes
bytes_three u ge =
    let high : (ltb 0 u && ltb u 0x80) ≡ false = grind (arith, nat_tests) in
    rw (high, le-ltb u 0x800 ge) refl

-- ---- what a first byte leads to

at_one : (b : ℕ) (bs : List ℕ) → 0 < b → b < 0x80 → unit_at (b ∷ bs) ≡ Ok (b, bs)
unfolding unit_at
at_one b bs pos lt = rw (lt-ltb 0 b pos, lt-ltb b 0x80 lt) refl

at_two : (b : ℕ) (bs : List ℕ) → 0xc0 ≤ b → b < 0xe0 → (b ≡ 0xc1 → ⊥) → unit_at (b ∷ bs) ≡ second_of_two (b - 0xc0) bs
unfolding unit_at
at_two b bs ge lt ne =
    let one : (ltb 0 b && ltb b 0x80) ≡ false = grind (arith, nat_tests) in
    let two : (leb 0xc0 b && (ltb b 0xe0 && not (eqb b 0xc1))) ≡ true = grind (arith, nat_tests) in
    rw (one, le-leb 0xc0 b ge, lt-ltb b 0xe0 lt, ne_eqb b 0xc1 ne) refl

at_three : (b : ℕ) (bs : List ℕ) → 0xe0 ≤ b → b < 0xf0 → unit_at (b ∷ bs) ≡ second_of_three (b - 0xe0) bs
unfolding unit_at
at_three b bs ge lt =
    let one : (ltb 0 b && ltb b 0x80) ≡ false = grind (arith, nat_tests) in
    rw (one, le-leb 0xc0 b (omega arith), le-ltb b 0xe0 ge, le-leb 0xe0 b ge, lt-ltb b 0xf0 lt) refl

continues : (b : ℕ) → 0x80 ≤ b → b < 0xc0 → is_continuation b ≡ true
continues b ge lt = and_from (leb 0x80 b) (ltb b 0xc0) (le-leb 0x80 b ge) (lt-ltb b 0xc0 lt)

second_ok : (high b : ℕ) (bs : List ℕ) → is_continuation b ≡ true → has_two (high * 64 + (b - 0x80)) ≡ true → second_of_two high (b ∷ bs) ≡ Ok (high * 64 + (b - 0x80), bs)
second_ok high b bs c t = rw (c, t) refl

third_ok : (high b : ℕ) (bs : List ℕ) → is_continuation b ≡ true → third_of_three high (b ∷ bs) ≡ Ok (high * 64 + (b - 0x80), bs)
third_ok high b bs c = rw c refl

second_three_ok : (high b : ℕ) (bs : List ℕ) → is_continuation b ≡ true → 32 ≤ high * 64 + (b - 0x80) → second_of_three high (b ∷ bs) ≡ third_of_three (high * 64 + (b - 0x80)) bs
second_three_ok high b bs c ge = rw (c, le-leb 32 (high * 64 + (b - 0x80)) ge) refl

-- ---- what is written is read again

again_one : (u : ℕ) (rest : List ℕ) → has_two u ≡ false → unit_at (unit_bytes u ++ rest) ≡ Ok (u, rest)
again_one u rest one =
    let pos : 0 < u = grind (arith, nat_tests) in
    let lt : u < 0x80 = grind (arith, nat_tests) in
    ap (λ (l : List ℕ). unit_at (l ++ rest)) (bytes_one u pos lt) ∙ at_one u rest pos lt

again_two : (u : ℕ) (rest : List ℕ) → has_two u ≡ true → u < 0x800 → unit_at (unit_bytes u ++ rest) ≡ Ok (u, rest)
again_two u rest two lt =
    let b = 0xc0 + u / 64 in
    let c = 0x80 + u % 64 in
    let other : (u < 64) ⊎ (0x80 ≤ u) = grind (arith, nat_tests) in
    let back : (b - 0xc0) * 64 + (c - 0x80) ≡ u = omega arith in
    ap (λ (l : List ℕ). unit_at (l ++ rest)) (bytes_two u two lt)
    ∙ at_two b (c ∷ rest) (omega arith) (omega arith) (omega arith)
    ∙ second_ok (b - 0xc0) c rest (continues c (omega arith) (omega arith)) (ap has_two back ∙ two)
    ∙ ap (λ (n : ℕ). Ok (n, rest)) back

again_three : (u : ℕ) (rest : List ℕ) → 0x800 ≤ u → u < 0x10000 → unit_at (unit_bytes u ++ rest) ≡ Ok (u, rest)
again_three u rest ge lt =
    let b = 0xe0 + u / 4096 in
    let c = 0x80 + u / 64 % 64 in
    let d = 0x80 + u % 64 in
    let high : (b - 0xe0) * 64 + (c - 0x80) ≡ u / 64 = omega arith in
    let back : ((b - 0xe0) * 64 + (c - 0x80)) * 64 + (d - 0x80) ≡ u = omega arith in
    ap (λ (l : List ℕ). unit_at (l ++ rest)) (bytes_three u ge)
    ∙ at_three b (c ∷ d ∷ rest) (omega arith) (omega arith)
    ∙ second_three_ok (b - 0xe0) c (d ∷ rest) (continues c (omega arith) (omega arith)) (omega arith)
    ∙ third_ok ((b - 0xe0) * 64 + (c - 0x80)) d rest (continues d (omega arith) (omega arith))
    ∙ ap (λ (n : ℕ). Ok (n, rest)) back

-- a unit is read again from its bytes, whatever follows
pub unit_at-unit_bytes : (u : ℕ) (rest : List ℕ) → u < 0x10000 → unit_at (unit_bytes u ++ rest) ≡ Ok (u, rest)
unit_at-unit_bytes u rest lt = elim (cases_lt u 0x800) [
  | inl low ↦ elim (cases_Bool (has_two u)) [ inl two ↦ again_two u rest two low | inr one ↦ again_one u rest one ]
  | inr high ↦ again_three u rest high lt
]

-- ---- what is read was written so

two_written : (b c : ℕ) → 0xc0 ≤ b → b < 0xe0 → is_continuation c ≡ true → has_two ((b - 0xc0) * 64 + (c - 0x80)) ≡ true → unit_bytes ((b - 0xc0) * 64 + (c - 0x80)) ≡ b ∷ c ∷ []
two_written b c ge lt t two =
    let low : 0x80 ≤ c = grind (arith, nat_tests) in
    let high : c < 0xc0 = grind (arith, nat_tests) in
    let first : 0xc0 + ((b - 0xc0) * 64 + (c - 0x80)) / 64 ≡ b = omega arith in
    let second : 0x80 + ((b - 0xc0) * 64 + (c - 0x80)) % 64 ≡ c = omega arith in
    bytes_two ((b - 0xc0) * 64 + (c - 0x80)) two (omega arith) ∙ rw (first, second) refl

three_written : (b c d : ℕ) → 0xe0 ≤ b → b < 0xf0 → is_continuation c ≡ true → 32 ≤ (b - 0xe0) * 64 + (c - 0x80) → is_continuation d ≡ true
    → unit_bytes (((b - 0xe0) * 64 + (c - 0x80)) * 64 + (d - 0x80)) ≡ b ∷ c ∷ d ∷ []
three_written b c d ge lt t three s =
    let low : 0x80 ≤ c = grind (arith, nat_tests) in
    let high : c < 0xc0 = grind (arith, nat_tests) in
    let low_d : 0x80 ≤ d = grind (arith, nat_tests) in
    let high_d : d < 0xc0 = grind (arith, nat_tests) in
    let u = ((b - 0xe0) * 64 + (c - 0x80)) * 64 + (d - 0x80) in
    let first : 0xe0 + u / 4096 ≡ b = omega arith in
    let second : 0x80 + u / 64 % 64 ≡ c = omega arith in
    let third : 0x80 + u % 64 ≡ d = omega arith in
    bytes_three u (omega arith) ∙ rw (first, second, third) refl

-- bytes that begin no unit: the fault is inside or at their end, a unit begins with those before it, and the byte at it decides
pub record Stops (bytes : List ℕ) (k : ℕ) : Type 0 where
  pub within : k ≤ length bytes
  pub begun : (v : ℕ) × (more : List ℕ) × (v < 0x10000) × (unit_bytes v ≡ take k bytes ++ more)
  pub decided : k < length bytes → (more : List ℕ) → unit_at (take (suc k) bytes ++ more) ≡ Err k

-- what bytes begin with
abbrev pub Begins : List ℕ → Result (ℕ × List ℕ) ℕ → Type 0
Begins bytes (Ok x) = (bytes ≡ unit_bytes x.0 ++ x.1) × (x.0 < 0x10000)
Begins bytes (Err k) = Stops bytes k

two_begins : (b : ℕ) (bs : List ℕ) → 0xc0 ≤ b → b < 0xe0 → (b ≡ 0xc1 → ⊥) → Begins (b ∷ bs) (second_of_two (b - 0xc0) bs)
two_begins b [] ge lt ne =
    let two : has_two ((b - 0xc0) * 64 + (0x80 - 0x80)) ≡ true = grind (arith, nat_tests) in
    record {
      within = omega arith;
      begun = ((b - 0xc0) * 64 + (0x80 - 0x80), 0x80 ∷ [], omega arith, two_written b 0x80 ge lt refl two);
      decided = λ inside. absurd (omega arith);
    }
two_begins b (c ∷ bs) ge lt ne =
    let u = (b - 0xc0) * 64 + (c - 0x80) in
    let two : has_two ((b - 0xc0) * 64 + (0x80 - 0x80)) ≡ true = grind (arith, nat_tests) in
    cond_both (is_continuation c && has_two u) (Ok (u, bs)) (Err 1) (Begins (b ∷ c ∷ bs))
    (λ t. let p = and_parts (is_continuation c) (has_two u) t in
    let high : c < 0xc0 = grind (arith, nat_tests) in
    (ap (λ (l : List ℕ). l ++ bs) (sym (two_written b c ge lt p.0 p.1)), omega arith))
    (λ f. record {
      within = omega arith;
      begun = ((b - 0xc0) * 64 + (0x80 - 0x80), 0x80 ∷ [], omega arith, two_written b 0x80 ge lt refl two);
      decided = λ inside more. at_two b (c ∷ more) ge lt ne ∙ cond-false (is_continuation c && has_two u) (Ok (u, more)) (Err 1) f;
    })

third_begins : (b c : ℕ) (bs : List ℕ) → 0xe0 ≤ b → b < 0xf0 → is_continuation c ≡ true → 32 ≤ (b - 0xe0) * 64 + (c - 0x80) → Begins (b ∷ c ∷ bs) (third_of_three ((b - 0xe0) * 64 + (c - 0x80)) bs)
third_begins b c [] ge lt t three =
    let high : c < 0xc0 = grind (arith, nat_tests) in
    record {
      within = omega arith;
      begun = (((b - 0xe0) * 64 + (c - 0x80)) * 64 + (0x80 - 0x80), 0x80 ∷ [], omega arith, three_written b c 0x80 ge lt t three refl);
      decided = λ inside. absurd (omega arith);
    }
third_begins b c (d ∷ bs) ge lt t three =
    let high : c < 0xc0 = grind (arith, nat_tests) in
    let u = ((b - 0xe0) * 64 + (c - 0x80)) * 64 + (d - 0x80) in
    cond_both (is_continuation d) (Ok (u, bs)) (Err 2) (Begins (b ∷ c ∷ d ∷ bs))
    (λ s. let high_d : d < 0xc0 = grind (arith, nat_tests) in
    (ap (λ (l : List ℕ). l ++ bs) (sym (three_written b c d ge lt t three s)), omega arith))
    (λ f. record {
      within = omega arith;
      begun = (((b - 0xe0) * 64 + (c - 0x80)) * 64 + (0x80 - 0x80), 0x80 ∷ [], omega arith, three_written b c 0x80 ge lt t three refl);
      decided = λ inside more.
          at_three b (c ∷ d ∷ more) ge lt ∙ second_three_ok (b - 0xe0) c (d ∷ more) t three
          ∙ cond-false (is_continuation d) (Ok (u, more)) (Err 2) f;
    })

three_begins : (b : ℕ) (bs : List ℕ) → 0xe0 ≤ b → b < 0xf0 → Begins (b ∷ bs) (second_of_three (b - 0xe0) bs)
three_begins b [] ge lt =
    record {
      within = omega arith;
      begun = (((b - 0xe0) * 64 + (0xa0 - 0x80)) * 64 + (0x80 - 0x80), 0xa0 ∷ 0x80 ∷ [], omega arith, three_written b 0xa0 0x80 ge lt refl (omega arith) refl);
      decided = λ inside. absurd (omega arith);
    }
three_begins b (c ∷ bs) ge lt =
    let high = (b - 0xe0) * 64 + (c - 0x80) in
    cond_both (is_continuation c && leb 32 high) (third_of_three high bs) (Err 1) (Begins (b ∷ c ∷ bs))
    (λ t. let p = and_parts (is_continuation c) (leb 32 high) t in third_begins b c bs ge lt p.0 (leb-true 32 high p.1))
    (λ f. record {
      within = omega arith;
      begun = (((b - 0xe0) * 64 + (0xa0 - 0x80)) * 64 + (0x80 - 0x80), 0xa0 ∷ 0x80 ∷ [], omega arith, three_written b 0xa0 0x80 ge lt refl (omega arith) refl);
      decided = λ inside more. at_three b (c ∷ more) ge lt ∙ cond-false (is_continuation c && leb 32 high) (third_of_three high more) (Err 1) f;
    })

-- the bytes begin with the unit that is read, or stop to begin one at the fault
pub unit_at_begins : (bytes : List ℕ) → Begins bytes (unit_at bytes)
unfolding unit_at
unit_at_begins [] = record { within = omega arith; begun = (1, 1 ∷ [], omega arith, bytes_one 1 (omega arith) (omega arith)); decided = λ inside. absurd (omega arith) }
unit_at_begins (b ∷ bs) =
    let one = ltb 0 b && ltb b 0x80 in
    let two = leb 0xc0 b && ltb b 0xe0 && not (eqb b 0xc1) in
    let three = leb 0xe0 b && ltb b 0xf0 in
    cond_both one (Ok (b, bs)) (cond two (second_of_two (b - 0xc0) bs) (cond three (second_of_three (b - 0xe0) bs) (Err 0))) (Begins (b ∷ bs))
    (λ t. let pos : 0 < b = grind (arith, nat_tests) in
    let lt : b < 0x80 = grind (arith, nat_tests) in
    (ap (λ (l : List ℕ). l ++ bs) (sym (bytes_one b pos lt)), omega arith))
    (λ f. cond_both two (second_of_two (b - 0xc0) bs) (cond three (second_of_three (b - 0xe0) bs) (Err 0)) (Begins (b ∷ bs))
    (λ t. two_begins b bs (grind (arith, nat_tests)) (grind (arith, nat_tests)) (grind (arith, nat_tests)))
    (λ g. cond_both three (second_of_three (b - 0xe0) bs) (Err 0) (Begins (b ∷ bs))
    (λ t. three_begins b bs (grind (arith, nat_tests)) (grind (arith, nat_tests)))
    (λ h. record {
      within = omega arith;
      begun = (1, 1 ∷ [], omega arith, bytes_one 1 (omega arith) (omega arith));
      decided = λ inside more. rw (f, g, h) refl;
    })))

-- a unit has bytes
pub some_bytes : (u : ℕ) → 0 < length (unit_bytes u)
unfolding unit_bytes
some_bytes u = cond_both (ltb 0 u && ltb u 0x80) _ _ (λ (l : List ℕ). 0 < length l) (λ _. omega arith) (λ _. cond_both (ltb u 0x800) _ _ (λ (l : List ℕ). 0 < length l) (λ _. omega arith) (λ _. omega arith))
