-- Depths that are counted up to one more than the limit.
use Rattle.std.proofs.Common.{◌≡◌, ℕ, suc, ◌+◌, ◌<◌, max, List, ◌∷◌, drop, map, length, get_or, sym, ap, ◌∙◌, arith, add-one, drop-cons}
use Rattle.scw_reader.specs.declared.tree.Product.{Product}
use Rattle.scw_reader.specs.declared.tree.Atom.{Atom}
use Rattle.scw_reader.specs.Syntax.{Products, no_products, more_products, Atoms, no_atoms, more_atoms}
use Rattle.scw_reader.specs.View.{product_of, atom_of, products_of, atoms_of}
use Rattle.scw_reader.specs.Limits.{products_depth, product_depth, atoms_depth, atom_depth}
use Rattle.scw_reader.specs.Capped.{capped}

-- what a chain adds doesn't depend on how much is counted past the limit
pub products_depth-capped : (ps : Products) (d : ℕ) → capped (products_depth (capped d) ps) ≡ capped (products_depth d ps)
products_depth-capped no_products d = omega arith
products_depth-capped (more_products p ps) d =
    let a = suc (max (capped d) (product_depth p)) in
    let b = suc (max d (product_depth p)) in
    let same : capped a ≡ capped b = omega arith in
    sym (products_depth-capped ps a) ∙ ap (λ k. capped (products_depth k ps)) same ∙ products_depth-capped ps b

pub atoms_depth-capped : (as' : Atoms) (d : ℕ) → capped (atoms_depth (capped d) as') ≡ capped (atoms_depth d as')
atoms_depth-capped no_atoms d = omega arith
atoms_depth-capped (more_atoms p ps) d =
    let a = suc (max (capped d) (atom_depth p)) in
    let b = suc (max d (atom_depth p)) in
    let same : capped a ≡ capped b = omega arith in
    sym (atoms_depth-capped ps a) ∙ ap (λ k. capped (atoms_depth k ps)) same ∙ atoms_depth-capped ps b

-- one more product of a chain
pub products_step : (xs : List Product) (i d : ℕ) (x : Product) → i < length xs → x ≡ get_or xs i x
    → capped (products_depth (capped (suc (max d (capped (product_depth (product_of x)))))) (products_of (map product_of (drop (i + 1) xs)))) ≡ capped (products_depth d (products_of (map product_of (drop i xs))))
products_step xs i d x lt is =
    let rest = products_of (map product_of (drop (i + 1) xs)) in
    let same : capped (suc (max d (capped (product_depth (product_of x))))) ≡ capped (suc (max d (product_depth (product_of x)))) = omega arith in
    let here : drop i xs ≡ x ∷ drop (i + 1) xs = drop-cons xs i x lt ∙ ap (λ y. y ∷ drop (suc i) xs) (sym is) ∙ ap (λ k. x ∷ drop k xs) (sym (add-one i)) in
    ap (λ k. capped (products_depth k rest)) same ∙ products_depth-capped rest (suc (max d (product_depth (product_of x)))) ∙ ap (λ ys. capped (products_depth d (products_of (map product_of ys)))) (sym here)

pub atoms_step : (xs : List Atom) (i d : ℕ) (x : Atom) → i < length xs → x ≡ get_or xs i x
    → capped (atoms_depth (capped (suc (max d (capped (atom_depth (atom_of x)))))) (atoms_of (map atom_of (drop (i + 1) xs)))) ≡ capped (atoms_depth d (atoms_of (map atom_of (drop i xs))))
atoms_step xs i d x lt is =
    let rest = atoms_of (map atom_of (drop (i + 1) xs)) in
    let same : capped (suc (max d (capped (atom_depth (atom_of x))))) ≡ capped (suc (max d (atom_depth (atom_of x)))) = omega arith in
    let here : drop i xs ≡ x ∷ drop (i + 1) xs = drop-cons xs i x lt ∙ ap (λ y. y ∷ drop (suc i) xs) (sym is) ∙ ap (λ k. x ∷ drop k xs) (sym (add-one i)) in
    ap (λ k. capped (atoms_depth k rest)) same ∙ atoms_depth-capped rest (suc (max d (atom_depth (atom_of x)))) ∙ ap (λ ys. capped (atoms_depth d (atoms_of (map atom_of ys)))) (sym here)
