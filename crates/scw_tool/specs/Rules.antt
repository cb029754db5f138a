-- The names of the rules that a class file can break.
use Rattle.std.specs.Prelude.{ℕ, List, [], ◌∷◌, slice_get, codes}
use Rattle.std.specs.Option.{unwrap_or}

-- by their numbers, which begin with 1
abbrev pub rule_names : List (List ℕ)
rule_names =
    [] ∷ codes "Cut" ∷ codes "Magic" ∷ codes "Version" ∷ codes "Tag" ∷ codes "Index" ∷ codes "Utf8" ∷ codes "Descriptor" ∷
    codes "AttributeLength" ∷ codes "Code" ∷ codes "Trailing" ∷ codes "Unsupported" ∷ codes "TooLong" ∷ codes "Missing" ∷
    codes "Twice" ∷ codes "Stuck" ∷ []

abbrev pub rule_name : ℕ → List ℕ
rule_name n = unwrap_or (slice_get rule_names n) []
