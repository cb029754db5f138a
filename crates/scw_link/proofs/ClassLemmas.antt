-- The line of a class and its superclasses, one class more.
use Rattle.std.proofs.Common.{◌≡◌, ℕ, suc, ◌+◌, ◌-◌, ◌<◌, List, [], ◌∷◌, ◌++◌, Option, Some, ap, sym, ◌∙◌, append_assoc, arith}
use Rattle.scw_link.specs.Classes.{above, line, parent_of}

-- the class stands before the line of its superclass
pub line_more : (ps : List (Option ℕ)) (n k c p : ℕ) (front all : List ℕ) → k < n → Some p ≡ parent_of ps c → all ≡ front ++ line ps (n - k) c → all ≡ (front ++ (c ∷ [])) ++ line ps (n - (k + 1)) p
line_more ps n k c p front all h e is =
    let s : n - k ≡ suc (n - (k + 1)) = omega arith in
    is ∙ (ap (λ (m : ℕ). front ++ line ps m c) s ∙ (ap (λ (o : Option ℕ). front ++ (c ∷ above (line ps (n - (k + 1))) o)) (sym e) ∙ sym (append_assoc front (c ∷ []) (line ps (n - (k + 1)) p))))
