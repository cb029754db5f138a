-- A text is put character after character: what a loop over its units needs, where i is the place that it has come to.
use Rattle.std.proofs.Common.{◌≡◌, ℕ, zero, suc, ◌+◌, ◌<◌, ◌≤◌, true, false, cond, leb, ltb, ◌&&◌, ◌||◌, List, [], ◌∷◌, ◌++◌, length, drop, Option, Some, None, refl, sym, ap, ◌∙◌, subst, arith, append-nil, append_assoc, drop_of_length-le}
use Rattle.std.specs.Prelude.{slice_get, slice_index}
use Rattle.std.proofs.lemmas.List.{drop_more, drop-drop}
use Rattle.std.proofs.lemmas.Option.{slice_get_within}
use lib.Utf8.{encode as encode_utf8}
use Rattle.std.specs.Char.Utf16.{utf16_chars, lone_unit_char, surrogate_pair_char}
use Rattle.std.specs.Option.{unwrap_or}
use Rattle.std.specs.List.{All, flat_map}
use Rattle.std.proofs.lemmas.Bool.{lt-ltb, le-ltb}
use Rattle.std.proofs.lemmas.Bool.Decides.{nat_tests}
use Rattle.scw_value.specs.Text.{is_high, is_low, character, point, four_bytes, alone, pair, bytes_at, units_at, utf8}

-- the bytes of the first character, and those of the others
pub utf8-cons : (u : ℕ) (us : List ℕ) → utf8 (u ∷ us) ≡ bytes_at u (slice_get us 0) ++ utf8 (drop (units_at u (slice_get us 0)) (u ∷ us))
unfolding utf8
utf8-cons u [] = sym (append-nil (alone u))
utf8-cons u (v ∷ us) =
    elim (is_high u && is_low v) as (λ b. cond b (pair u v ++ utf8 us) (alone u ++ utf8 (v ∷ us)) ≡ cond b (pair u v) (alone u) ++ utf8 (drop (cond b 2 1) (u ∷ v ∷ us)))
    [ true ↦ refl | false ↦ refl ]

slice_get-drop : (us : List ℕ) (i : ℕ) → slice_get (drop i us) 0 ≡ slice_get us i
slice_get-drop us zero = refl
slice_get-drop [] (suc i) = refl
slice_get-drop (u ∷ us) (suc i) = slice_get-drop us i

at_place : (us : List ℕ) (i u : ℕ) (rest : List ℕ) → drop i us ≡ u ∷ rest
    → utf8 (drop i us) ≡ bytes_at u (slice_get rest 0) ++ utf8 (drop (i + units_at u (slice_get rest 0)) us)
at_place us i u rest e =
    ap utf8 e ∙ utf8-cons u rest
    ∙ ap (λ t. bytes_at u (slice_get rest 0) ++ utf8 t) (ap (drop (units_at u (slice_get rest 0))) (sym e) ∙ drop-drop (units_at u (slice_get rest 0)) i us)

-- the bytes from the place i on are those of the character there, and those behind it
pub utf8-drop : (us : List ℕ) (i : ℕ) → i < length us
    → utf8 (drop i us)
    ≡ bytes_at (slice_index us i) (slice_get us (i + 1)) ++ utf8 (drop (i + units_at (slice_index us i) (slice_get us (i + 1))) us)
utf8-drop us i within =
    subst (λ next. utf8 (drop i us) ≡ bytes_at (slice_index us i) next ++ utf8 (drop (i + units_at (slice_index us i) next) us))
    (slice_get-drop us (i + 1)) (at_place us i (slice_index us i) (drop (i + 1) us) (drop_more us i 0 within))

within_by : (u i n : ℕ) (next : Option ℕ) → i < n → ((v : ℕ) → next ≡ Some v → i + 1 < n) → i + units_at u next ≤ n
within_by u i n None one two = omega arith
within_by u i n (Some v) one two =
    let more = two v refl in
    elim (is_high u && is_low v) as (λ b. i + cond b 2 1 ≤ n) [ true ↦ omega arith | false ↦ omega arith ]

-- the character at the place i does not pass the end
pub units_at-within : (us : List ℕ) (i : ℕ) → i < length us → i + units_at (slice_index us i) (slice_get us (i + 1)) ≤ length us
units_at-within us i within =
    within_by (slice_index us i) i (length us) (slice_get us (i + 1)) within (λ v e. slice_get_within us (i + 1) v e)

-- a character takes one unit or two
pub units_at-some : (u : ℕ) (next : Option ℕ) → 0 < units_at u next
units_at-some u None = omega arith
units_at-some u (Some v) = elim (is_high u && is_low v) as (λ b. 0 < cond b 2 1) [ true ↦ omega arith | false ↦ omega arith ]

-- no bytes are left at the end
pub utf8-end : (us : List ℕ) (i : ℕ) → length us ≤ i → utf8 (drop i us) ≡ []
unfolding utf8
utf8-end us i past = ap utf8 (drop_of_length-le us past)

-- A loop has put the bytes `done`, and stands at the place i: one character more, and the end.
pub put_more : (us : List ℕ) (i : ℕ) (done bytes whole : List ℕ) (next : Option ℕ) (units : ℕ)
    → i < length us → next ≡ slice_get us (i + 1) → bytes ≡ bytes_at (slice_index us i) next → units ≡ units_at (slice_index us i) next
    → done ++ utf8 (drop i us) ≡ whole → (done ++ bytes) ++ utf8 (drop (i + units) us) ≡ whole
put_more us i done bytes whole next units within behind is takes before =
    let step : utf8 (drop i us) ≡ bytes ++ utf8 (drop (i + units) us) = rw (is, takes, behind) (utf8-drop us i within) in
    append_assoc done bytes (utf8 (drop (i + units) us)) ∙ ap (λ t. done ++ t) (sym step) ∙ before

pub put_all : (us : List ℕ) (i : ℕ) (done whole : List ℕ) → length us ≤ i → done ++ utf8 (drop i us) ≡ whole → done ≡ whole
put_all us i done whole past before = sym (append-nil done) ∙ ap (λ t. done ++ t) (sym (utf8-end us i past)) ∙ before

-- ---- std's words: the bytes are UTF-8 of the characters that the units spell, with `?` for a surrogate in no pair

abbrev pub utf8_of : Option ℕ → List ℕ
utf8_of c = encode_utf8 (unwrap_or c 63)

character-utf8 : (u : ℕ) → u < 0x10000 → character u ≡ encode_utf8 u
unfolding encode_utf8
character-utf8 u small = rw (lt-ltb u 0x10000 small) refl

four-utf8 : (c : ℕ) → 0x10000 ≤ c → four_bytes c ≡ encode_utf8 c
unfolding encode_utf8
four-utf8 c large =
    let one : 0x80 ≤ c = omega arith in
    let two : 0x800 ≤ c = omega arith in
    rw (le-ltb c 0x80 one, le-ltb c 0x800 two, le-ltb c 0x10000 large) refl

either_half : (u : ℕ) → (is_high u || is_low u) ≡ (leb 0xd800 u && ltb u 0xe000)
either_half u = grind (arith, nat_tests)

alone-utf8 : (u : ℕ) → u < 0x10000 → alone u ≡ utf8_of (lone_unit_char u)
unfolding encode_utf8
alone-utf8 u small =
    ap (λ b. cond b (63 ∷ []) (character u)) (either_half u)
    ∙ elim (leb 0xd800 u && ltb u 0xe000) as (λ b. cond b (63 ∷ []) (character u) ≡ utf8_of (cond b None (Some u)))
    [ true ↦ refl | false ↦ character-utf8 u small ]

pub utf8-chars : (us : List ℕ) → All (λ u. u < 0x10000) us → utf8 us ≡ flat_map utf8_of (utf16_chars us)
unfolding utf8 utf16_chars
utf8-chars [] small = refl
utf8-chars (u ∷ []) small = alone-utf8 u (small 0 0 (omega arith)) ∙ sym (append-nil (utf8_of (lone_unit_char u)))
utf8-chars (u ∷ v ∷ us) small =
    elim (is_high u && is_low v)
    as (λ b. cond b (pair u v ++ utf8 us) (alone u ++ utf8 (v ∷ us))
    ≡ flat_map utf8_of (cond b (Some (surrogate_pair_char u v) ∷ utf16_chars us) (lone_unit_char u ∷ utf16_chars (v ∷ us)))) [
      | true ↦ (λ i. four-utf8 (point u v) (omega arith) i ++ utf8-chars us (λ k d h. small (suc (suc k)) d (omega arith)) i)
      | false ↦ (λ i. alone-utf8 u (small 0 0 (omega arith)) i ++ utf8-chars (v ∷ us) (λ k d h. small (suc k) d (omega arith)) i)
    ]
