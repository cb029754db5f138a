-- Some bits of a word, before and after a change.
use Rattle.std.proofs.Common.{◌≡◌, ℕ, ◌+◌, ◌-◌, ◌*◌, ◌/◌, ◌%◌, ◌^◌, ◌<◌, ◌≤◌, sym, ◌∙◌, ap, subst, refl, arith}
use Rattle.std.proofs.Math.Nat.{add-mul, mul_assoc, mul_comm, mul-add-mod_self_right, zero-div, zero-mod}
use Rattle.std.proofs.lemmas.Nat.{pow_pos, pow-add, shr-shr, shr_split, field_of, shr_high, mod_low, mod_below, mul-add-lt, shr_below}
use Rattle.scw_heap.specs.Layout.{field, with_field}

-- a word, by the bits above, in and below the field
pub split : (w s b : ℕ) → w ≡ (w / 2 ^ s / 2 ^ b * 2 ^ b + field w s b) * 2 ^ s + w % 2 ^ s
split w s b = rw (shr_split (w / 2 ^ s) b) (sym (shr_split w s))

-- the changed word, by the bits above, in and below the field
pub with_field-parts : (w s b v : ℕ) → with_field w s b v ≡ (w / 2 ^ s / 2 ^ b * 2 ^ b + v) * 2 ^ s + w % 2 ^ s
with_field-parts w s b v =
    let h : ℕ = w / 2 ^ s / 2 ^ b * 2 ^ b in
    let e : w ≡ (h + field w s b) * 2 ^ s + w % 2 ^ s = split w s b in
    let p : (h + field w s b) * 2 ^ s ≡ h * 2 ^ s + field w s b * 2 ^ s = add-mul h (field w s b) (2 ^ s) in
    let q : (h + v) * 2 ^ s ≡ h * 2 ^ s + v * 2 ^ s = add-mul h v (2 ^ s) in
    omega arith

-- what stands from the field on in the changed word
pub with_field-shr : (w s b v : ℕ) → with_field w s b v / 2 ^ s ≡ w / 2 ^ s / 2 ^ b * 2 ^ b + v
with_field-shr w s b v =
    rw (with_field-parts w s b v) (shr_high (w / 2 ^ s / 2 ^ b * 2 ^ b + v) s (w % 2 ^ s) (mod_below w (2 ^ s) (pow_pos s)))

-- the changed field is what was put there
pub field-with_field_same : (w s b v : ℕ) → v < 2 ^ b → field (with_field w s b v) s b ≡ v
field-with_field_same w s b v h = rw (with_field-shr w s b v) (mod_low (w / 2 ^ s / 2 ^ b) b v h)

-- what stands above the field stays
pub with_field-above : (w s b v : ℕ) → v < 2 ^ b → with_field w s b v / 2 ^ (s + b) ≡ w / 2 ^ (s + b)
with_field-above w s b v h =
    rw (← shr-shr (with_field w s b v) s b, ← shr-shr w s b, with_field-shr w s b v) (shr_high (w / 2 ^ s / 2 ^ b) b v h)

-- a field above stays
pub field-with_field_above : (w s b v t : ℕ) → v < 2 ^ b → s + b ≤ t → field (with_field w s b v) t b ≡ field w t b
field-with_field_above w s b v t h l =
    let m : ℕ = t - (s + b) in
    let e : t ≡ s + b + m = omega arith in
    let f : (x : ℕ) → x / 2 ^ t ≡ x / 2 ^ (s + b) / 2 ^ m = λ x. ap (λ k. x / 2 ^ k) e ∙ sym (shr-shr x (s + b) m) in
    rw (f (with_field w s b v), f w, with_field-above w s b v h) refl

-- the lower bits stay
pub with_field-below : (w s b v t : ℕ) → t ≤ s → with_field w s b v % 2 ^ t ≡ w % 2 ^ t
with_field-below w s b v t l =
    let m : ℕ = s - t in
    let k : s ≡ m + t = omega arith in
    let e : 2 ^ s ≡ 2 ^ m * 2 ^ t = ap (λ k. 2 ^ k) k ∙ pow-add 2 m t in
    let f : (x : ℕ) → (x * 2 ^ s + w % 2 ^ s) % 2 ^ t ≡ w % 2 ^ s % 2 ^ t =
    λ x. ap (λ y. (x * y + w % 2 ^ s) % 2 ^ t) e ∙
    (ap (λ y. (y + w % 2 ^ s) % 2 ^ t) (sym (mul_assoc x (2 ^ m) (2 ^ t))) ∙ mul-add-mod_self_right (x * 2 ^ m) (2 ^ t) (w % 2 ^ s)) in
    ap (λ x. x % 2 ^ t) (with_field-parts w s b v) ∙
    (f (w / 2 ^ s / 2 ^ b * 2 ^ b + v) ∙
    (sym (f (w / 2 ^ s / 2 ^ b * 2 ^ b + field w s b)) ∙ ap (λ x. x % 2 ^ t) (sym (split w s b))))

-- a field below stays
pub field-with_field_below : (w s b v t : ℕ) → t + b ≤ s → field (with_field w s b v) t b ≡ field w t b
field-with_field_below w s b v t l =
    let e : with_field w s b v % 2 ^ (b + t) ≡ w % 2 ^ (b + t) = with_field-below w s b v (b + t) (omega arith) in
    rw (← field_of (with_field w s b v) b t, ← field_of w b t, e) refl

-- the changed word is no longer than a word
pub with_field-within : (w s b v : ℕ) → w < 2 ^ 64 → s + b ≤ 64 → v < 2 ^ b → with_field w s b v < 2 ^ 64
with_field-within w s b v h l n =
    let m : ℕ = 64 - (s + b) in
    let e : 64 ≡ m + (s + b) = omega arith in
    let P : ℕ → Type 0 = λ k. w < 2 ^ k in
    let q : with_field w s b v / 2 ^ (s + b) < 2 ^ m = rw (with_field-above w s b v n) (shr_below w m (s + b) (subst P e h)) in
    let r : with_field w s b v / 2 ^ (s + b) * 2 ^ (s + b) + with_field w s b v % 2 ^ (s + b) < 2 ^ (s + b) * 2 ^ m =
    mul-add-lt _ _ _ _ q (mod_below _ _ (pow_pos (s + b))) in
    let t : 2 ^ 64 ≡ 2 ^ m * 2 ^ (s + b) = ap (λ k. 2 ^ k) e ∙ pow-add 2 m (s + b) in
    omega (arith, shr_split (with_field w s b v) (s + b), mul_comm (2 ^ m) (2 ^ (s + b)))

-- a field of an empty word
pub field-zero : (s b : ℕ) → field 0 s b ≡ 0
field-zero s b = rw (zero-div (2 ^ s), zero-mod (2 ^ b)) refl

-- a field is narrow
pub field-lt : (w s b : ℕ) → field w s b < 2 ^ b
field-lt w s b = mod_below _ _ (pow_pos b)
