-- The law of a codec, and that each way to build one keeps it: what fits is read again, whatever
-- follows, and what is read fits and is written so.
use Rattle.std.proofs.Common.{◌≡◌, ℕ, ◌^◌, ◌<◌, ◌≤◌, Bool, true, false, ◌&&◌, ltb, List, [], ◌∷◌, ◌++◌, length, take, drop, get_or, Option, Some, None, Result, Ok, Err, cond, refl, sym, ap, ◌∙◌, subst, append_assoc, arith}
use Rattle.std.proofs.lemmas.Bool.{and_parts, ltb-true, ltb-false, le-ltb, lt-ltb, cond-false, false≢true}
use Rattle.std.proofs.lemmas.List.{take_at, drop_at, length-append, length-take, take-append-drop}
use Rattle.std.proofs.lemmas.Nat.{from_be_bytes-to_be_bytes_2, from_be_bytes-to_be_bytes_4, from_be_bytes-to_be_bytes_8, be_bytes_2, be_bytes_4, be_bytes_8}
use Rattle.std.specs.Int.{Width, w16, w32, w64, byte_len, to_be_bytes, from_be_bytes}
use Rattle.scw_text.proofs.ByteLemmas.{AreBytes, AreBytes-head, AreBytes-take, AreBytes-right}
use Rattle.scw_classfile.specs.declared.fault.Fault.{Fault}
use Rattle.scw_classfile.specs.declared.fault.Flaw.{Flaw}
use Rattle.scw_classfile.specs.Codec.{Codec, Fits, ◌>>=◌, cut, read_byte, read_number, u1, u2, u4, u8, followed, seen_if, seen_as, is_none, or_flaw, judged}

-- the bytes begin with those of the value, which fits
pub record Spelled {A : Type 0} (c : Codec A) (bytes : List ℕ) (x : A × List ℕ) : Type 0 where
  pub fits : Fits c x.0
  pub is : bytes ≡ c.spell x.0 ++ x.1

-- what fits is read again, and what is read fits and is written so
pub record Lawful {A : Type 0} (c : Codec A) : Type 0 where
  pub again : (x : A) (rest : List ℕ) → Fits c x → c.read (c.spell x ++ rest) ≡ Ok (x, rest)
  pub back : (bytes : List ℕ) (x : A × List ℕ) → AreBytes bytes → c.read bytes ≡ Ok x → Spelled c bytes x

-- the bytes that are left are bytes
pub left_bytes : {A : Type 0} (c : Codec A) (bytes : List ℕ) (x : A × List ℕ) → AreBytes bytes → Spelled c bytes x → AreBytes x.1
left_bytes c bytes x h s = AreBytes-right (c.spell x.0) x.1 (subst AreBytes s.is h)

-- what comes after a reading that succeeded
pub bind_ok : {A B : Type 0} (r : Result A Fault) (f : A → Result B Fault) (y : B) → r >>= f ≡ Ok y → (x : A) × (r ≡ Ok x) × (f x ≡ Ok y)
bind_ok (Ok x) f y h = (x, refl, h)
bind_ok (Err e) f y h = absurd cc

pub both : (a b : Bool) → a ≡ true → b ≡ true → (a && b) ≡ true
both a b p q = rw (p, q) refl

pub else_ok : {A : Type 0} (t : Bool) (e : Fault) (v x : A) → cond t (Err e) (Ok v) ≡ Ok x → (t ≡ false) × (v ≡ x)
else_ok true e v x h = absurd cc
else_ok false e v x h = (refl, cc)

-- ---- numbers

byte_back : (bytes : List ℕ) (x : ℕ × List ℕ) → AreBytes bytes → read_byte bytes ≡ Ok x → Spelled u1 bytes x
byte_back [] x h e = absurd cc
byte_back (b ∷ rest) x h e =
    let same : (b, rest) ≡ x = cc in
    let P : ℕ × List ℕ → Type 0 = λ y. Spelled u1 (b ∷ rest) y in
    subst P same (record { fits = (lt-ltb b 256 (AreBytes-head b rest h), refl); is = refl })

pub lawful_u1 : Lawful u1
lawful_u1 = record { again = λ n rest h. refl; back = byte_back }

number_again : (w : Width) (n : ℕ) (rest : List ℕ) → length (to_be_bytes w n) ≡ byte_len w → from_be_bytes w (to_be_bytes w n) ≡ n → read_number w (to_be_bytes w n ++ rest) ≡ Ok (n, rest)
number_again w n rest len again =
    let bytes = to_be_bytes w n in
    let enough : ltb (length (bytes ++ rest)) (byte_len w) ≡ false = le-ltb (length (bytes ++ rest)) (byte_len w) (omega (arith, length-append bytes rest)) in
    let t = take_at bytes rest (byte_len w) len in
    let d = drop_at bytes rest (byte_len w) len in
    let got : List ℕ → List ℕ → Result (ℕ × List ℕ) Fault = λ a b. Ok (from_be_bytes w a, b) in
    cond-false (ltb (length (bytes ++ rest)) (byte_len w)) (Err cut) (got (take (byte_len w) (bytes ++ rest)) (drop (byte_len w) (bytes ++ rest))) enough
    ∙ (λ i. got (t i) (d i)) ∙ ap (λ (k : ℕ). Ok (k, rest)) again

number_back : (w : Width) (limit : ℕ) → ((bs : List ℕ) → length bs ≡ byte_len w → AreBytes bs → (to_be_bytes w (from_be_bytes w bs) ≡ bs) × (from_be_bytes w bs < limit))
    → (bytes : List ℕ) (x : ℕ × List ℕ) → AreBytes bytes → read_number w bytes ≡ Ok x → Spelled (record { spell = to_be_bytes w; counts = λ n. ltb n limit; sound = λ _. true; read = read_number w }) bytes x
number_back w limit law bytes x h e =
    let n = byte_len w in
    let k = else_ok (ltb (length bytes) n) cut (from_be_bytes w (take n bytes), drop n bytes) x e in
    let enough : n ≤ length bytes = ltb-false (length bytes) n k.0 in
    let two = law (take n bytes) (omega (arith, length-take n bytes)) (AreBytes-take n bytes h) in
    let c : Codec ℕ = record { spell = to_be_bytes w; counts = λ n. ltb n limit; sound = λ _. true; read = read_number w } in
    let P : ℕ × List ℕ → Type 0 = λ y. Spelled c bytes y in
    subst P k.1 (record { fits = (lt-ltb (from_be_bytes w (take n bytes)) limit two.1, refl); is = rw two.0 (sym (take-append-drop n bytes)) })

-- a list of so many elements, element by element
of_two : (bs : List ℕ) → length bs ≡ 2 → bs ≡ get_or bs 0 0 ∷ get_or bs 1 0 ∷ []
of_two (a ∷ b ∷ []) h = refl
of_two [] h = absurd (omega arith)
of_two (a ∷ []) h = absurd (omega arith)
of_two (a ∷ b ∷ c ∷ more) h = absurd (omega arith)

of_four : (bs : List ℕ) → length bs ≡ 4 → bs ≡ get_or bs 0 0 ∷ get_or bs 1 0 ∷ get_or bs 2 0 ∷ get_or bs 3 0 ∷ []
of_four (a ∷ b ∷ c ∷ d ∷ []) h = refl
of_four [] h = absurd (omega arith)
of_four (a ∷ []) h = absurd (omega arith)
of_four (a ∷ b ∷ []) h = absurd (omega arith)
of_four (a ∷ b ∷ c ∷ []) h = absurd (omega arith)
of_four (a ∷ b ∷ c ∷ d ∷ e ∷ more) h = absurd (omega arith)

two_below : (a b : ℕ) → a < 256 → b < 256 → from_be_bytes w16 (a ∷ b ∷ []) < 2 ^ 16
two_below a b p q = omega arith

four_below : (a b c d : ℕ) → a < 256 → b < 256 → c < 256 → d < 256 → from_be_bytes w32 (a ∷ b ∷ c ∷ d ∷ []) < 2 ^ 32
four_below a b c d p q r s = omega arith

eight_below : (a b c d e f g h : ℕ) → a < 256 → b < 256 → c < 256 → d < 256 → e < 256 → f < 256 → g < 256 → h < 256 → from_be_bytes w64 (a ∷ b ∷ c ∷ d ∷ e ∷ f ∷ g ∷ h ∷ []) < 2 ^ 64
eight_below a b c d e f g h p q r s t u v w = omega arith

of_eight : (bs : List ℕ) → length bs ≡ 8 → bs ≡ get_or bs 0 0 ∷ get_or bs 1 0 ∷ get_or bs 2 0 ∷ get_or bs 3 0 ∷ get_or bs 4 0 ∷ get_or bs 5 0 ∷ get_or bs 6 0 ∷ get_or bs 7 0 ∷ []
of_eight [] h = absurd (omega arith)
of_eight (a ∷ []) h = absurd (omega arith)
of_eight (a ∷ b ∷ []) h = absurd (omega arith)
of_eight (a ∷ b ∷ c ∷ []) h = absurd (omega arith)
of_eight (a ∷ b ∷ c ∷ d ∷ bs) h =
    let four = of_four bs (omega arith) in
    ap (λ (l : List ℕ). a ∷ b ∷ c ∷ d ∷ l) four

two_back : (bs : List ℕ) → length bs ≡ byte_len w16 → AreBytes bs → (to_be_bytes w16 (from_be_bytes w16 bs) ≡ bs) × (from_be_bytes w16 bs < 2 ^ 16)
two_back bs len h =
    let P : List ℕ → Type 0 = λ l. from_be_bytes w16 l < 2 ^ 16 in
    (be_bytes_2 bs (from_be_bytes w16 bs) len h.each refl, subst P (sym (of_two bs len)) (two_below (get_or bs 0 0) (get_or bs 1 0) (h.each 0) (h.each 1)))

four_back : (bs : List ℕ) → length bs ≡ byte_len w32 → AreBytes bs → (to_be_bytes w32 (from_be_bytes w32 bs) ≡ bs) × (from_be_bytes w32 bs < 2 ^ 32)
four_back bs len h =
    let P : List ℕ → Type 0 = λ l. from_be_bytes w32 l < 2 ^ 32 in
    (be_bytes_4 bs (from_be_bytes w32 bs) len h.each refl, subst P (sym (of_four bs len)) (four_below (get_or bs 0 0) (get_or bs 1 0) (get_or bs 2 0) (get_or bs 3 0) (h.each 0) (h.each 1) (h.each 2) (h.each 3)))

eight_back : (bs : List ℕ) → length bs ≡ byte_len w64 → AreBytes bs → (to_be_bytes w64 (from_be_bytes w64 bs) ≡ bs) × (from_be_bytes w64 bs < 2 ^ 64)
eight_back bs len h =
    let P : List ℕ → Type 0 = λ l. from_be_bytes w64 l < 2 ^ 64 in
    (be_bytes_8 bs (from_be_bytes w64 bs) len h.each refl, subst P (sym (of_eight bs len)) (eight_below (get_or bs 0 0) (get_or bs 1 0) (get_or bs 2 0) (get_or bs 3 0) (get_or bs 4 0) (get_or bs 5 0) (get_or bs 6 0) (get_or bs 7 0) (h.each 0) (h.each 1) (h.each 2) (h.each 3) (h.each 4) (h.each 5) (h.each 6) (h.each 7)))

pub lawful_u2 : Lawful u2
lawful_u2 = record {
  again = λ n rest h. number_again w16 n rest refl (from_be_bytes-to_be_bytes_2 n (ltb-true n (2 ^ 16) h.0));
  back = number_back w16 (2 ^ 16) two_back;
}

pub lawful_u4 : Lawful u4
lawful_u4 = record {
  again = λ n rest h. number_again w32 n rest refl (from_be_bytes-to_be_bytes_4 n (ltb-true n (2 ^ 32) h.0));
  back = number_back w32 (2 ^ 32) four_back;
}

pub lawful_u8 : Lawful u8
lawful_u8 = record {
  again = λ n rest h. number_again w64 n rest refl (from_be_bytes-to_be_bytes_8 n (ltb-true n (2 ^ 64) h.0));
  back = number_back w64 (2 ^ 64) eight_back;
}

-- ---- one after another, and the same bytes for another value

pub lawful_followed : {A B : Type 0} (a : Codec A) (b : A → Codec B) → Lawful a → ((x : A) → Lawful (b x)) → Lawful (followed a b)
lawful_followed {A} {B} a b la lb = record {
  again = λ x rest h.
      let p = and_parts (a.counts x.0) ((b x.0).counts x.1) h.0 in
      let q = and_parts (a.sound x.0) ((b x.0).sound x.1) h.1 in
      ap (followed a b).read (append_assoc (a.spell x.0) ((b x.0).spell x.1) rest)
      ∙ rw (la.again x.0 ((b x.0).spell x.1 ++ rest) (p.0, q.0), (lb x.0).again x.1 rest (p.1, q.1)) refl;
  back = λ bytes z h e.
      let one = bind_ok (a.read bytes) (λ x. (b x.0).read x.1 >>= λ y. Ok ((x.0, y.0), y.1)) z e in
      let x = one.0 in
      let two = bind_ok ((b x.0).read x.1) (λ y. Ok ((x.0, y.0), y.1)) z one.2 in
      let y = two.0 in
      let sx = la.back bytes x h one.1 in
      let sy = (lb x.0).back x.1 y (left_bytes a bytes x h sx) two.1 in
      let same : ((x.0, y.0), y.1) ≡ z = let last = two.2 in cc in
      let P : (A × B) × List ℕ → Type 0 = λ v. Spelled (followed a b) bytes v in
      subst P same (record {
        fits = (both (a.counts x.0) ((b x.0).counts y.0) sx.fits.0 sy.fits.0, both (a.sound x.0) ((b x.0).sound y.0) sx.fits.1 sy.fits.1);
        is = sx.is ∙ ap (λ (l : List ℕ). a.spell x.0 ++ l) sy.is ∙ sym (append_assoc (a.spell x.0) ((b x.0).spell y.0) y.1);
      });
}

pub lawful_seen_if : {A B : Type 0} (is : B → Bool) (to : A → B) (from : B → A) (a : Codec A) → ((y : B) → is y ≡ true → to (from y) ≡ y) → ((x : A) → Fits a x → (is (to x) ≡ true) × (from (to x) ≡ x)) → Lawful a → Lawful (seen_if is to from a)
lawful_seen_if {A} {B} is to from a there here la = record {
  again = λ y rest h.
      let p = and_parts (is y) (a.counts (from y)) h.0 in
      rw (la.again (from y) rest (p.1, h.1), there y p.0) refl;
  back = λ bytes z h e.
      let one = bind_ok (a.read bytes) (λ x. Ok (to x.0, x.1)) z e in
      let x = one.0 in
      let sx = la.back bytes x h one.1 in
      let same : (to x.0, x.1) ≡ z = let last = one.2 in cc in
      let P : B × List ℕ → Type 0 = λ v. Spelled (seen_if is to from a) bytes v in
      let Q : A → Type 0 = λ v. Fits a v in
      let fits : Fits a (from (to x.0)) = subst Q (sym (here x.0 sx.fits).1) sx.fits in
      subst P same (record { fits = (both (is (to x.0)) (a.counts (from (to x.0))) (here x.0 sx.fits).0 fits.0, fits.1); is = rw (here x.0 sx.fits).1 sx.is });
}

pub lawful_seen_as : {A B : Type 0} (to : A → B) (from : B → A) (a : Codec A) → ((y : B) → to (from y) ≡ y) → ((x : A) → Fits a x → from (to x) ≡ x) → Lawful a → Lawful (seen_as to from a)
lawful_seen_as {A} {B} to from a there here la = record {
  again = λ y rest h. rw (la.again (from y) rest h, there y) refl;
  back = λ bytes z h e.
      let one = bind_ok (a.read bytes) (λ x. Ok (to x.0, x.1)) z e in
      let x = one.0 in
      let sx = la.back bytes x h one.1 in
      let same : (to x.0, x.1) ≡ z = let last = one.2 in cc in
      let P : B × List ℕ → Type 0 = λ v. Spelled (seen_as to from a) bytes v in
      let Q : A → Type 0 = λ v. Fits a v in
      subst P same (record { fits = subst Q (sym (here x.0 sx.fits)) sx.fits; is = rw (here x.0 sx.fits) sx.is });
}

-- ---- rules on the content

no_flaw : {A : Type 0} (x : A × List ℕ) (left : ℕ) (flaw : Option Flaw) → is_none flaw ≡ true → or_flaw x left flaw ≡ Ok x
no_flaw x left None h = refl
no_flaw x left (Some f) h = absurd (false≢true h)

had_no_flaw : {A : Type 0} (x y : A × List ℕ) (left : ℕ) (flaw : Option Flaw) → or_flaw x left flaw ≡ Ok y → (is_none flaw ≡ true) × (x ≡ y)
had_no_flaw x y left None h = (refl, cc)
had_no_flaw x y left (Some f) h = absurd cc

pub lawful_judged : {A : Type 0} (flaw : A → Option Flaw) (a : Codec A) → Lawful a → Lawful (judged flaw a)
lawful_judged {A} flaw a la = record {
  again = λ x rest h.
      let p = and_parts (a.sound x) (is_none (flaw x)) h.1 in
      rw (la.again x rest (h.0, p.0)) (no_flaw (x, rest) (length (a.spell x ++ rest)) (flaw x) p.1);
  back = λ bytes z h e.
      let one = bind_ok (a.read bytes) (λ x. or_flaw x (length bytes) (flaw x.0)) z e in
      let x = one.0 in
      let sx = la.back bytes x h one.1 in
      let k = had_no_flaw x z (length bytes) (flaw x.0) one.2 in
      let P : A × List ℕ → Type 0 = λ v. Spelled (judged flaw a) bytes v in
      subst P k.1 (record { fits = (sx.fits.0, both (a.sound x.0) (is_none (flaw x.0)) sx.fits.1 k.0); is = sx.is });
}
