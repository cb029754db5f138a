-- A format is exact: what fits is read again, whatever follows, and what is read fits and has the bytes
-- that it was read from. Each way to join formats keeps this.
use Rattle.std.proofs.Common.{◌≡◌, ℕ, zero, suc, ◌+◌, ◌-◌, ◌^◌, ◌<◌, ◌≤◌, Bool, true, false, ◌&&◌, cond, ltb, eqb, ℤ, pos, negsuc, Option, Some, None, List, [], ◌∷◌, ◌++◌, length, take, drop, replicate, Result, Ok, Err, refl, sym, ap, subst, ◌∙◌, append_assoc, arith, IsTrue, inl, inr}
use Rattle.std.proofs.lemmas.Bool.{and_parts, and_from, ltb-true, ltb-false, lt-ltb, le-ltb, eq-eqb, eqb-true, cond-false, cases_Bool, false≢true}
use Rattle.std.proofs.lemmas.List.{take_at, drop_at, length-append, length-take-le, take-append-drop}
use Rattle.std.proofs.lemmas.List.Concat.{flat_map-cons}
use Rattle.std.proofs.lemmas.Int.{to_z-of_z, of_z-to_z}
use Rattle.std.proofs.lemmas.Nat.{from_be_bytes-to_be_bytes_2, from_be_bytes-to_be_bytes_4, be_bytes_2, be_bytes_4}
use Rattle.std.specs.Int.{Width, w8, w16, w32, byte_len, to_be_bytes, from_be_bytes, cast_unsigned, cast_signed}
use mir.Val.{bits, hbits, sel, SFits}
use Rattle.std.specs.List.{flat_map, list_all}
use Rattle.scw_text.proofs.ByteLemmas.{AreBytes, AreBytes-head, AreBytes-take, AreBytes-right}
use Rattle.scw_code.specs.declared.fault.CodeFault.{CodeFault}
use Rattle.scw_code.specs.declared.site.Site.{Site}
use Rattle.scw_code.specs.Codec.{Codec, ◌>>=◌, cut, bad_switch, byte, number, read_number, is_below, is_around, unsigned, signed, u1, s1, u2, s2, s4, nothing, never, followed, seen_as, checked, read_zeros, padded, pass, read_listed, listed}

pub record IsExact {A : Type 0} (c : Codec A) : Type 0 where
  pub again : (site : Site) (x : A) (rest : List ℕ) → IsTrue (c.fits x) → c.read site (c.spell x ++ rest) ≡ Ok (x, rest)
  pub back : (site : Site) (bytes : List ℕ) (x : A) (rest : List ℕ) → AreBytes bytes → c.read site bytes ≡ Ok (x, rest) → (bytes ≡ c.spell x ++ rest) × IsTrue (c.fits x)

-- a value that two steps give
pub parts : {A B : Type 0} (first : Result A CodeFault) (then : A → Result B CodeFault) (y : B) → (first >>= then) ≡ Ok y → (x : A) × (first ≡ Ok x) × (then x ≡ Ok y)
parts (Ok x) then y h = (x, refl, h)
parts (Err e) then y h = cc

-- the parts of two equal results
pub ok_parts : {A B : Type 0} (a x : A) (b y : B) → ◌≡◌ {A = Result (A × B) CodeFault} (Ok (a, b)) (Ok (x, y)) → (a ≡ x) × (b ≡ y)
ok_parts {A} {B} a x b y h =
    let got : Result (A × B) CodeFault → A × B = λ r. elim r [ Ok p ↦ p | Err e ↦ (a, b) ] in
    let e = ap got h in
    (ap (λ p. p.0) e, ap (λ p. p.1) e)

byte_back : (site : Site) (bytes : List ℕ) (n : ℕ) (rest : List ℕ) → AreBytes bytes → byte.read site bytes ≡ Ok (n, rest) → (bytes ≡ byte.spell n ++ rest) × IsTrue (byte.fits n)
byte_back site [] n rest are h = cc
byte_back site (b ∷ bs) n rest are h =
    let e = ok_parts b n bs rest h in
    (rw (e.0, e.1) refl, lt-ltb n (2 ^ 8) (rw e.0 at (AreBytes-head b bs are)))

pub is_exact_byte : IsExact byte
is_exact_byte = record { again = λ site n rest h. refl; back = byte_back }

-- ---- numbers

number_again : (w : Width) (limit : ℕ) (site : Site) (n : ℕ) (rest : List ℕ) → length (to_be_bytes w n) ≡ byte_len w → from_be_bytes w (to_be_bytes w n) ≡ n → read_number w site (to_be_bytes w n ++ rest) ≡ Ok (n, rest)
number_again w limit site n rest len same =
    let bytes = to_be_bytes w n in
    let enough : ltb (length (bytes ++ rest)) (byte_len w) ≡ false = le-ltb (length (bytes ++ rest)) (byte_len w) (omega (arith, length-append bytes rest)) in
    let t = take_at bytes rest (byte_len w) len in
    let d = drop_at bytes rest (byte_len w) len in
    let got : List ℕ → List ℕ → Result (ℕ × List ℕ) CodeFault = λ a b. Ok (from_be_bytes w a, b) in
    cond-false (ltb (length (bytes ++ rest)) (byte_len w)) (Err (cut site)) (got (take (byte_len w) (bytes ++ rest)) (drop (byte_len w) (bytes ++ rest))) enough
    ∙ (λ i. got (t i) (d i)) ∙ ap (λ (k : ℕ). Ok (k, rest)) same

-- what a read number is, and that its bytes were there
number_parts : (w : Width) (site : Site) (bytes : List ℕ) (n : ℕ) (rest : List ℕ) → read_number w site bytes ≡ Ok (n, rest) → (byte_len w ≤ length bytes) × (from_be_bytes w (take (byte_len w) bytes) ≡ n) × (drop (byte_len w) bytes ≡ rest)
number_parts w site bytes n rest h =
    elim (cases_Bool (ltb (length bytes) (byte_len w))) [
      | inl short ↦ absurd (let e : ◌≡◌ {A = Result (ℕ × List ℕ) CodeFault} (Err (cut site)) (Ok (n, rest)) = rw short at h in cc)
      | inr long ↦
          let e = ok_parts (from_be_bytes w (take (byte_len w) bytes)) n (drop (byte_len w) bytes) rest (rw long at h) in
          (ltb-false (length bytes) (byte_len w) long, e.0, e.1)
    ]

number_back : (w : Width) (limit : ℕ) (site : Site) (bytes : List ℕ) (n : ℕ) (rest : List ℕ) → AreBytes bytes
    → ((front : List ℕ) → length front ≡ byte_len w → AreBytes front → (to_be_bytes w (from_be_bytes w front) ≡ front) × (from_be_bytes w front < limit))
    → read_number w site bytes ≡ Ok (n, rest) → (bytes ≡ to_be_bytes w n ++ rest) × IsTrue (ltb n limit)
number_back w limit site bytes n rest are law h =
    let p = number_parts w site bytes n rest h in
    let front = take (byte_len w) bytes in
    let q = law front (length-take-le (byte_len w) bytes p.0) (AreBytes-take (byte_len w) bytes are) in
    (sym (take-append-drop (byte_len w) bytes) ∙ rw (sym p.1, q.0, p.2) refl, lt-ltb n limit (rw p.1 at q.1))

half_law : (front : List ℕ) → length front ≡ 2 → AreBytes front → (to_be_bytes w16 (from_be_bytes w16 front) ≡ front) × (from_be_bytes w16 front < 2 ^ 16)
half_law front len are =
    (be_bytes_2 front (from_be_bytes w16 front) len are.each refl, let a = are.each 0 in let b = are.each 1 in omega arith)

word_law : (front : List ℕ) → length front ≡ 4 → AreBytes front → (to_be_bytes w32 (from_be_bytes w32 front) ≡ front) × (from_be_bytes w32 front < 2 ^ 32)
word_law front len are =
    (be_bytes_4 front (from_be_bytes w32 front) len are.each refl, let a = are.each 0 in let b = are.each 1 in let c = are.each 2 in let d = are.each 3 in omega arith)

pub is_exact_half : IsExact (number w16 (2 ^ 16))
is_exact_half = record {
  again = λ site n rest h. number_again w16 (2 ^ 16) site n rest refl (from_be_bytes-to_be_bytes_2 n (ltb-true n (2 ^ 16) h));
  back = λ site bytes n rest are h. number_back w16 (2 ^ 16) site bytes n rest are half_law h;
}

pub is_exact_word : IsExact (number w32 (2 ^ 32))
is_exact_word = record {
  again = λ site n rest h. number_again w32 (2 ^ 32) site n rest refl (from_be_bytes-to_be_bytes_4 n (ltb-true n (2 ^ 32) h));
  back = λ site bytes n rest are h. number_back w32 (2 ^ 32) site bytes n rest are word_law h;
}

-- ---- numbers with a sign and without

abbrev seen : (ℕ → ℤ) → ℕ × List ℕ → Result (ℤ × List ℕ) CodeFault
seen up x = Ok (up x.0, x.1)

module _ (w : Width) (a : Codec ℕ) (exact : IsExact a) (is : ℤ → Bool) (up : ℕ → ℤ)
    (down_fits : (z : ℤ) → IsTrue (is z) → IsTrue (a.fits (cast_unsigned w z)) × (up (cast_unsigned w z) ≡ z))
    (up_fits : (n : ℕ) → IsTrue (a.fits n) → IsTrue (is (up n)) × (cast_unsigned w (up n) ≡ n)) where
  seen_again : (site : Site) (z : ℤ) (rest : List ℕ) → IsTrue (is z) → (a.read site (a.spell (cast_unsigned w z) ++ rest) >>= seen up) ≡ Ok (z, rest)
  seen_again site z rest h =
      let p = down_fits z h in
      rw (exact.again site (cast_unsigned w z) rest p.0, p.1) refl

  seen_parts : (bytes : List ℕ) (n : ℕ) (more : List ℕ) (z : ℤ) (rest : List ℕ) → (bytes ≡ a.spell n ++ more) × IsTrue (a.fits n) → (up n ≡ z) × (more ≡ rest) → (bytes ≡ a.spell (cast_unsigned w z) ++ rest) × IsTrue (is z)
  seen_parts bytes n more z rest q e =
      let f = up_fits n q.1 in
      let g : cast_unsigned w z ≡ n = ap (cast_unsigned w) (sym e.0) ∙ f.1 in
      (rw (g, sym e.1) q.0, rw e.0 at f.0)

  seen_back : (site : Site) (bytes : List ℕ) (z : ℤ) (rest : List ℕ) → AreBytes bytes → (a.read site bytes >>= seen up) ≡ Ok (z, rest) → (bytes ≡ a.spell (cast_unsigned w z) ++ rest) × IsTrue (is z)
  seen_back site bytes z rest are h =
      let p = parts (a.read site bytes) (seen up) (z, rest) h in
      let e = ok_parts (up p.0.0) z p.0.1 rest p.2 in
      seen_parts bytes p.0.0 p.0.1 z rest (exact.back site bytes p.0.0 p.0.1 are p.1) e

below_down : (w : Width) (limit : ℕ) (z : ℤ) → IsTrue (is_below limit z) → IsTrue (ltb (cast_unsigned w z) limit) × (pos (cast_unsigned w z) ≡ z)
below_down w limit (pos n) h = (h, refl)
below_down w limit (negsuc n) h = absurd (false≢true h)

below_up : (limit n : ℕ) → IsTrue (ltb n limit) → IsTrue (is_below limit (pos n)) × (n ≡ n)
below_up limit n h = (h, refl)

pub is_exact_u : (w : Width) (limit : ℕ) (a : Codec ℕ) → IsExact a → ((n : ℕ) → a.fits n ≡ ltb n limit) → IsExact (unsigned w limit a)
is_exact_u w limit a exact same =
    let down : (z : ℤ) → IsTrue (is_below limit z) → IsTrue (a.fits (cast_unsigned w z)) × (pos (cast_unsigned w z) ≡ z) = λ z h. let p = below_down w limit z h in (rw (same (cast_unsigned w z)) p.0, p.1) in
    let up : (n : ℕ) → IsTrue (a.fits n) → IsTrue (is_below limit (pos n)) × (n ≡ n) = λ n h. below_up limit n (rw (same n) at h) in
    record { again = seen_again w a exact (is_below limit) pos down up; back = seen_back w a exact (is_below limit) pos down up }

pub is_exact_u1 : IsExact u1
is_exact_u1 = is_exact_u w8 (2 ^ 8) byte is_exact_byte (λ n. refl)

pub is_exact_u2 : IsExact u2
is_exact_u2 = is_exact_u w16 (2 ^ 16) (number w16 (2 ^ 16)) is_exact_half (λ n. refl)

around_fits : (w : Width) (z : ℤ) → IsTrue (is_around (2 ^ hbits w) z) → SFits w z
around_fits w (pos n) h = record { sfits = ltb-true n (2 ^ hbits w) h }
around_fits w (negsuc n) h = record { sfits = ltb-true n (2 ^ hbits w) h }

module _ (w : Width) (half_full : 2 ^ hbits w + 2 ^ hbits w ≡ 2 ^ bits w) where
  around_below : (z : ℤ) → IsTrue (is_around (2 ^ hbits w) z) → cast_unsigned w z < 2 ^ bits w
  around_below (pos n) h = let lt = ltb-true n (2 ^ hbits w) h in omega arith
  around_below (negsuc n) h = let lt = ltb-true n (2 ^ hbits w) h in omega arith

  around_down : (z : ℤ) → IsTrue (is_around (2 ^ hbits w) z) → IsTrue (ltb (cast_unsigned w z) (2 ^ bits w)) × (cast_signed w (cast_unsigned w z) ≡ z)
  around_down z h = (lt-ltb (cast_unsigned w z) (2 ^ bits w) (around_below z h), to_z-of_z w z (around_fits w z h))

  around_cases : (n : ℕ) (b : Bool) → ltb n (2 ^ hbits w) ≡ b → n < 2 ^ bits w → IsTrue (is_around (2 ^ hbits w) (sel b (pos n) (negsuc (2 ^ bits w - suc n))))
  around_cases n true e lt = e
  around_cases n false e lt = let ge = ltb-false n (2 ^ hbits w) e in lt-ltb (2 ^ bits w - suc n) (2 ^ hbits w) (omega arith)

  around_up : (n : ℕ) → IsTrue (ltb n (2 ^ bits w)) → IsTrue (is_around (2 ^ hbits w) (cast_signed w n)) × (cast_unsigned w (cast_signed w n) ≡ n)
  around_up n h = let lt = ltb-true n (2 ^ bits w) h in (around_cases n (ltb n (2 ^ hbits w)) refl lt, of_z-to_z w n lt)

  is_exact_s : (a : Codec ℕ) → IsExact a → ((n : ℕ) → a.fits n ≡ ltb n (2 ^ bits w)) → IsExact (signed w (2 ^ hbits w) a)
  is_exact_s a exact same =
      let down : (z : ℤ) → IsTrue (is_around (2 ^ hbits w) z) → IsTrue (a.fits (cast_unsigned w z)) × (cast_signed w (cast_unsigned w z) ≡ z) = λ z h. let p = around_down z h in (rw (same (cast_unsigned w z)) p.0, p.1) in
      let up : (n : ℕ) → IsTrue (a.fits n) → IsTrue (is_around (2 ^ hbits w) (cast_signed w n)) × (cast_unsigned w (cast_signed w n) ≡ n) = λ n h. around_up n (rw (same n) at h) in
      record { again = seen_again w a exact (is_around (2 ^ hbits w)) (cast_signed w) down up; back = seen_back w a exact (is_around (2 ^ hbits w)) (cast_signed w) down up }

pub is_exact_s1 : IsExact s1
is_exact_s1 = is_exact_s w8 refl byte is_exact_byte (λ n. refl)

pub is_exact_s2 : IsExact s2
is_exact_s2 = is_exact_s w16 refl (number w16 (2 ^ 16)) is_exact_half (λ n. refl)

pub is_exact_s4 : IsExact s4
is_exact_s4 = is_exact_s w32 refl (number w32 (2 ^ 32)) is_exact_word (λ n. refl)

-- ---- ways to join formats

pub is_exact_nothing : {A : Type 0} (x : A) (is : A → Bool) → IsTrue (is x) → ((y : A) → IsTrue (is y) → x ≡ y) → IsExact (nothing x is)
is_exact_nothing {A} x is here same = record {
  again = λ site y rest h. let e : ◌≡◌ {A = Result (A × List ℕ) CodeFault} (Ok (x, rest)) (Ok (y, rest)) = rw (same y h) refl in e;
  back = λ site bytes y rest are h. let e = ok_parts x y bytes rest h in (e.1, rw e.0 at here);
}

pub is_exact_never : {A : Type 0} (fault : Site → CodeFault) → IsExact (never {A = A} fault)
is_exact_never fault = record {
  again = λ site y rest h. absurd (false≢true h);
  back = λ site bytes y rest are h. absurd (let e : ⊥ = cc in e);
}

-- what two formats one after the other read
followed_parts : {A B : Type 0} (a : Codec A) (b : A → Codec B) (site : Site) (bytes : List ℕ) (z : A × B) (rest : List ℕ) → (followed a b).read site bytes ≡ Ok (z, rest)
    → (x : A × List ℕ) × (a.read site bytes ≡ Ok x) × ((b x.0).read site x.1 ≡ Ok (z.1, rest)) × (x.0 ≡ z.0)
followed_parts {A} {B} a b site bytes z rest h =
    let join : A → B × List ℕ → Result ((A × B) × List ℕ) CodeFault = λ x y. Ok ((x, y.0), y.1) in
    let p = parts (a.read site bytes) (λ x. (b x.0).read site x.1 >>= join x.0) (z, rest) h in
    let q = parts ((b p.0.0).read site p.0.1) (join p.0.0) (z, rest) p.2 in
    let e = ok_parts (p.0.0, q.0.0) z q.0.1 rest q.2 in
    let f : q.0.0 ≡ z.1 = ap (λ v. v.1) e.0 in
    let g : ◌≡◌ {A = Result (B × List ℕ) CodeFault} (Ok q.0) (Ok (z.1, rest)) = λ i. Ok (f i, e.1 i) in
    (p.0, p.1, q.1 ∙ g, ap (λ v. v.0) e.0)

-- the bytes of the second stand behind those of the first
followed_joins : {A B : Type 0} (a : Codec A) (b : A → Codec B) (x : A) (more : List ℕ) (bytes : List ℕ) (z : A × B) (rest : List ℕ) → x ≡ z.0
    → (bytes ≡ a.spell x ++ more) × IsTrue (a.fits x) → (more ≡ (b x).spell z.1 ++ rest) × IsTrue ((b x).fits z.1)
    → (bytes ≡ (followed a b).spell z ++ rest) × IsTrue ((followed a b).fits z)
followed_joins a b x more bytes z rest e p q =
    let e' : more ≡ (b z.0).spell z.1 ++ rest = rw e at q.0 in
    (p.0 ∙ rw (e, e') (sym (append_assoc (a.spell z.0) ((b z.0).spell z.1) rest)), and_from (a.fits z.0) ((b z.0).fits z.1) (rw e at p.1) (rw e at q.1))

pub is_exact_followed : {A B : Type 0} (a : Codec A) (b : A → Codec B) → IsExact a → ((x : A) → IsExact (b x)) → IsExact (followed a b)
is_exact_followed a b ea eb = record {
  again = λ site x rest h.
      let p = and_parts (a.fits x.0) ((b x.0).fits x.1) h in
      ap ((followed a b).read site) (append_assoc (a.spell x.0) ((b x.0).spell x.1) rest)
      ∙ rw (ea.again site x.0 ((b x.0).spell x.1 ++ rest) p.0, (eb x.0).again site x.1 rest p.1) refl;
  back = λ site bytes z rest are h.
      let p = followed_parts a b site bytes z rest h in
      let q = ea.back site bytes p.0.0 p.0.1 are p.1 in
      let more = AreBytes-right (a.spell p.0.0) p.0.1 (rw q.0 at are) in
      followed_joins a b p.0.0 p.0.1 bytes z rest p.3 q ((eb p.0.0).back site p.0.1 z.1 rest more p.2);
}

seen_as_joins : {A B : Type 0} (to : A → B) (from : B → A) (is : B → Bool) (a : Codec A) → ((x : A) → IsTrue (a.fits x) → (from (to x) ≡ x) × IsTrue (is (to x)))
    → (bytes : List ℕ) (x : A) (more : List ℕ) (z : B) (rest : List ℕ) → (bytes ≡ a.spell x ++ more) × IsTrue (a.fits x) → (to x ≡ z) × (more ≡ rest)
    → (bytes ≡ a.spell (from z) ++ rest) × IsTrue (is z && a.fits (from z))
seen_as_joins to from is a law bytes x more z rest p e =
    let l = law x p.1 in
    let f : from z ≡ x = ap from (sym e.0) ∙ l.0 in
    (rw (f, sym e.1) p.0, and_from (is z) (a.fits (from z)) (rw e.0 at l.1) (rw f p.1))

pub is_exact_seen_as : {A B : Type 0} (to : A → B) (from : B → A) (is : B → Bool) (a : Codec A) → ((y : B) → IsTrue (is y) → to (from y) ≡ y) → ((x : A) → IsTrue (a.fits x) → (from (to x) ≡ x) × IsTrue (is (to x)))
    → IsExact a → IsExact (seen_as to from is a)
is_exact_seen_as {A} {B} to from is a same law ea = record {
  again = λ site y rest h.
      let p = and_parts (is y) (a.fits (from y)) h in
      rw (ea.again site (from y) rest p.1, same y p.0) refl;
  back = λ site bytes z rest are h.
      let go : A × List ℕ → Result (B × List ℕ) CodeFault = λ x. Ok (to x.0, x.1) in
      let p = parts (a.read site bytes) go (z, rest) h in
      let e = ok_parts (to p.0.0) z p.0.1 rest p.2 in
      seen_as_joins to from is a law bytes p.0.0 p.0.1 z rest (ea.back site bytes p.0.0 p.0.1 are p.1) e;
}

-- a value that passes a test
tested : {A : Type 0} (test : Bool) (x : A) (fault : CodeFault) (y : A) → cond test (Ok x) (Err fault) ≡ Ok y → (test ≡ true) × (x ≡ y)
tested true x fault y h = (refl, cc)
tested false x fault y h = cc

checked_joins : {A : Type 0} (test : A → Bool) (a : Codec A) (bytes : List ℕ) (x : A) (more : List ℕ) (z : A) (rest : List ℕ) → (x ≡ z) × (more ≡ rest)
    → (bytes ≡ a.spell x ++ more) × IsTrue (a.fits x) → test x ≡ true → (bytes ≡ a.spell z ++ rest) × IsTrue (test z && a.fits z)
checked_joins test a bytes x more z rest e q t =
    (rw (sym e.0, sym e.1) q.0, and_from (test z) (a.fits z) (rw e.0 at t) (rw e.0 at q.1))

pub is_exact_checked : {A : Type 0} (test : A → Bool) (fault : Site → CodeFault) (a : Codec A) → IsExact a → IsExact (checked test fault a)
is_exact_checked {A} test fault a ea = record {
  again = λ site x rest h.
      let p = and_parts (test x) (a.fits x) h in
      rw (ea.again site x rest p.1, p.0) refl;
  back = λ site bytes z rest are h.
      let go : A × List ℕ → Result (A × List ℕ) CodeFault = λ x. cond (test x.0) (Ok x) (Err (fault site)) in
      let p = parts (a.read site bytes) go (z, rest) h in
      let t = tested (test p.0.0) p.0 (fault site) (z, rest) p.2 in
      let f : p.0.0 ≡ z = ap (λ v. v.0) t.1 in
      let g : p.0.1 ≡ rest = ap (λ v. v.1) t.1 in
      let q = ea.back site bytes p.0.0 p.0.1 are p.1 in
      checked_joins test a bytes p.0.0 p.0.1 z rest (f, g) q t.0;
}

zeros_again : (site : Site) (n : ℕ) (rest : List ℕ) → read_zeros site n (replicate n 0 ++ rest) ≡ Ok rest
unfolding read_zeros
zeros_again site zero rest = refl
zeros_again site (suc n) rest = zeros_again site n rest

-- a step that goes on where a test passes
tested_step : {A : Type 0} (test : Bool) (next : Result A CodeFault) (fault : CodeFault) (y : A) → cond test next (Err fault) ≡ Ok y → (test ≡ true) × (next ≡ Ok y)
tested_step true next fault y h = (refl, h)
tested_step false next fault y h = cc

zeros_back : (site : Site) (n : ℕ) (bytes rest : List ℕ) → read_zeros site n bytes ≡ Ok rest → bytes ≡ replicate n 0 ++ rest
unfolding read_zeros
zeros_back site zero bytes rest h = cc
zeros_back site (suc n) [] rest h = cc
zeros_back site (suc n) (b ∷ bs) rest h =
    let t = tested_step (eqb b 0) (read_zeros site n bs) (bad_switch site) rest h in
    let e = zeros_back site n bs rest t.1 in
    let f = eqb-true b 0 t.0 in
    rw (f, e) refl

pub is_exact_padded : {A : Type 0} (n : ℕ) (a : Codec A) → IsExact a → IsExact (padded n a)
is_exact_padded {A} n a ea = record {
  again = λ site x rest h.
      ap ((padded n a).read site) (append_assoc (replicate n 0) (a.spell x) rest)
      ∙ rw (zeros_again site n (a.spell x ++ rest)) (ea.again site x rest h);
  back = λ site bytes z rest are h.
      let p = parts (read_zeros site n bytes) (a.read site) (z, rest) h in
      let e = zeros_back site n bytes p.0 p.1 in
      let q = ea.back site p.0 z rest (AreBytes-right (replicate n 0) p.0 (rw e at are)) p.2 in
      (e ∙ ap (λ (l : List ℕ). replicate n 0 ++ l) q.0 ∙ sym (append_assoc (replicate n 0) (a.spell z) rest), q.1);
}

-- ---- lists

module _ {A : Type 0} (test : Option A → A → Bool) (a : Codec A) (ea : IsExact a) where
  listed_again : (site : Site) (before : Option A) (n : ℕ) (xs : List A) (rest : List ℕ) → length xs ≡ n → IsTrue (pass test before xs) → IsTrue (list_all a.fits xs) → read_listed test a before n site (flat_map a.spell xs ++ rest) ≡ Ok (xs, rest)
  unfolding read_listed
  listed_again site before zero [] rest e t h = refl
  listed_again site before (suc n) [] rest e t h = absurd (omega (arith, e))
  listed_again site before zero (x ∷ xs) rest e t h = absurd (omega (arith, e))
  listed_again site before (suc n) (x ∷ xs) rest e t h =
      let p = and_parts (a.fits x) (list_all a.fits xs) h in
      let q = and_parts (test before x) (pass test (Some x) xs) t in
      let regrouped : flat_map a.spell (x ∷ xs) ++ rest ≡ a.spell x ++ (flat_map a.spell xs ++ rest) = ap (λ (l : List ℕ). l ++ rest) (flat_map-cons a.spell x xs) ∙ append_assoc (a.spell x) (flat_map a.spell xs) rest in
      ap (read_listed test a before (suc n) site) regrouped ∙ rw (ea.again site x (flat_map a.spell xs ++ rest) p.0, q.0, listed_again site (Some x) n xs rest (omega (arith, e)) q.1 p.1) refl

  abbrev Lists : Option A → ℕ → List ℕ → List A → List ℕ → Type 0
  Lists before n bytes xs rest = (bytes ≡ flat_map a.spell xs ++ rest) × (length xs ≡ n) × IsTrue (pass test before xs) × IsTrue (list_all a.fits xs)

  -- one value more in front
  listed_joins : (before : Option A) (n : ℕ) (bytes more : List ℕ) (x : A) (xs : List A) (rest : List ℕ) → (bytes ≡ a.spell x ++ more) × IsTrue (a.fits x) → IsTrue (test before x) → Lists (Some x) n more xs rest → Lists before (suc n) bytes (x ∷ xs) rest
  listed_joins before n bytes more x xs rest p t q =
      (p.0 ∙ rw (q.0, flat_map-cons a.spell x xs) (sym (append_assoc (a.spell x) (flat_map a.spell xs) rest)), ap suc q.1, and_from (test before x) (pass test (Some x) xs) t q.2, and_from (a.fits x) (list_all a.fits xs) p.1 q.3)

  listed_back : (site : Site) (before : Option A) (n : ℕ) (bytes : List ℕ) (xs : List A) (rest : List ℕ) → AreBytes bytes → read_listed test a before n site bytes ≡ Ok (xs, rest) → Lists before n bytes xs rest
  unfolding read_listed
  listed_back site before zero bytes xs rest are h =
      let e = ok_parts [] xs bytes rest h in rw (sym e.0, e.1) (refl, refl, refl, refl)
  listed_back site before (suc n) bytes xs rest are h =
      let join : A → List A × List ℕ → Result (List A × List ℕ) CodeFault = λ x ys. Ok (x ∷ ys.0, ys.1) in
      let go : A × List ℕ → Result (List A × List ℕ) CodeFault = λ x. cond (test before x.0) (read_listed test a (Some x.0) n site x.1 >>= join x.0) (Err (bad_switch site)) in
      let p = parts (a.read site bytes) go (xs, rest) h in
      let t = tested_step (test before p.0.0) (read_listed test a (Some p.0.0) n site p.0.1 >>= join p.0.0) (bad_switch site) (xs, rest) p.2 in
      let q = parts (read_listed test a (Some p.0.0) n site p.0.1) (join p.0.0) (xs, rest) t.1 in
      let e = ok_parts (p.0.0 ∷ q.0.0) xs q.0.1 rest q.2 in
      let b = ea.back site bytes p.0.0 p.0.1 are p.1 in
      let l = listed_back site (Some p.0.0) n p.0.1 q.0.0 q.0.1 (AreBytes-right (a.spell p.0.0) p.0.1 (rw b.0 at are)) q.1 in
      let j = listed_joins before n bytes p.0.1 p.0.0 q.0.0 q.0.1 b t.0 l in
      let to : List A → List ℕ → Type 0 = λ ys r. Lists before (suc n) bytes ys r in
      subst (λ (r : List ℕ). to xs r) {x = q.0.1} e.1 (subst (λ (ys : List A). to ys q.0.1) {x = p.0.0 ∷ q.0.0} e.0 j)

  pub is_exact_listed : (n : ℕ) → IsExact (listed test a n)
  is_exact_listed n = record {
    again = λ site xs rest h.
        let p = and_parts (eqb (length xs) n) (pass test None xs && list_all a.fits xs) h in
        let q = and_parts (pass test None xs) (list_all a.fits xs) p.1 in
        listed_again site None n xs rest (eqb-true (length xs) n p.0) q.0 q.1;
    back = λ site bytes xs rest are h.
        let l = listed_back site None n bytes xs rest are h in
        (l.0, and_from (eqb (length xs) n) (pass test None xs && list_all a.fits xs) (eq-eqb (length xs) n l.1) (and_from (pass test None xs) (list_all a.fits xs) l.2 l.3));
  }
