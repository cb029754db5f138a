-- The names of a map, seen by their bytes.
use Rattle.std.proofs.Common.{◌≡◌, refl, ap, sym, ◌∙◌, ℕ, Bool, List, [], ◌∷◌, ◌++◌, map, cond, Some, None, Vec, Global}
use Rattle.std.proofs.lemmas.List.{map-append}
use Rattle.std.specs.Map.{lookup}
use Rattle.std.specs.HashMap.{HashMap}
use Rattle.indexmap.specs.IndexMap.{insert_entry}
use Rattle.indexmap.proofs.CallerLemmas.{insert_entry-new}
use Rattle.scw_core.specs.Types.{same_text}
use Rattle.scw_small.specs.NameView.{seen_entry}

-- a look-up by the bytes
pub find_seen : {V : Type 0} (x : List ℕ) (es : List (Vec ℕ Global × V)) → lookup (same_text x) (map seen_entry es) ≡ lookup (λ k. same_text x k.items) es
find_seen x [] = refl
find_seen x (e ∷ es) = ap (cond (same_text x e.0.items) (Some e.1)) (find_seen x es)

-- equality of keys
abbrev pub same_key : Vec ℕ Global → Vec ℕ Global → Bool
same_key a b = same_text a.items b.items

-- a key that isn't there stands last
pub add_seen : {V S : Type 0} (m : HashMap (Vec ℕ Global) V S) (k : Vec ℕ Global) (v : V) → lookup (same_text k.items) (map seen_entry m.entries) ≡ None
    → map seen_entry (insert_entry same_key m.entries k v) ≡ map seen_entry m.entries ++ (k.items, v) ∷ []
add_seen m k v none =
    ap (map seen_entry) (insert_entry-new same_key m k v (sym (find_seen k.items m.entries) ∙ none)) ∙ map-append seen_entry m.entries ((k, v) ∷ [])
