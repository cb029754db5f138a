-- Lists that are seen element by element.
use Rattle.std.proofs.Common.{◌≡◌, ℕ, suc, ◌+◌, ◌<◌, Bool, List, [], ◌∷◌, ◌++◌, take, get_or, sym, map, length, Some, None, cond, not, ltb, arith, refl, ap, ◌∙◌}
use Rattle.std.specs.List.{flat_map, position, position_or_len, range_with_len}
use Rattle.std.proofs.lemmas.List.FromFn.{map-range_with_len_more}
use Rattle.std.proofs.lemmas.List.{flat_map_more, take_more}

place-map : {A B : Type 0} (p : B → Bool) (f : A → B) (xs : List A) → position_or_len p (map f xs) ≡ position_or_len (λ x. p (f x)) xs
place-map p f [] = refl
place-map p f (x ∷ xs) = ap (λ (n : ℕ). cond (not (p (f x))) (1 + n) 0) (place-map p f xs)

size-map : {A B : Type 0} (f : A → B) (xs : List A) → length (map f xs) ≡ length xs
size-map f [] = refl
size-map f (x ∷ xs) = ap (λ (n : ℕ). suc n) (size-map f xs)

-- the first place in what a list is seen as
pub position-map : {A B : Type 0} (p : B → Bool) (f : A → B) (xs : List A) → position p (map f xs) ≡ position (λ x. p (f x)) xs
position-map p f xs =
    ap (λ (n : ℕ). cond (ltb n (length (map f xs))) (Some n) None) (place-map p f xs)
    ∙ ap (λ (n : ℕ). cond (ltb (position_or_len (λ x. p (f x)) xs) n) (Some (position_or_len (λ x. p (f x)) xs)) None) (size-map f xs)

-- one piece more behind those of the elements before
pub pieces_more : {X A : Type 0} (f : X → List A) (front : List A) (xs : List X) (i : ℕ) (x : X) (old new piece : List A) → i < length xs → x ≡ get_or xs i x
    → old ≡ front ++ flat_map f (take i xs) → piece ≡ f x → new ≡ old ++ piece → new ≡ front ++ flat_map f (take (i + 1) xs)
pieces_more f front xs i x old new piece h is was same more =
    more ∙ (ap (λ l. l ++ piece) was
    ∙ (ap (λ l. (front ++ flat_map f (take i xs)) ++ l) same
    ∙ (flat_map_more f front (take i xs) x
    ∙ ap (λ l. front ++ flat_map f l) (ap (λ y. take i xs ++ (y ∷ [])) is ∙ sym (take_more xs i x h)))))

-- the value of one index more
pub range_more : {X : Type 0} (f : ℕ → X) (i : ℕ) (old new : List X) (x : X) → old ≡ map f (range_with_len 0 i) → x ≡ f i → new ≡ old ++ (x ∷ []) → new ≡ map f (range_with_len 0 (i + 1))
range_more f i old new x was is more =
    more ∙ (ap (λ l. l ++ (x ∷ [])) was ∙ (ap (λ y. map f (range_with_len 0 i) ++ (y ∷ [])) is ∙ sym (map-range_with_len_more f 0 i i (omega arith))))
