-- What a store holds, and what a call does to it.
use Rattle.std.specs.Prelude.{◌≡◌, ℕ, Bool, if◌then◌else◌, List, take, Option, Some, None, IsSome, nat_eq}
use Rattle.std.specs.Cmp.Lexicographic.{pointwise}

-- what each name holds
abbrev pub Files : Type 0
Files = List ℕ → Option (List ℕ)

-- the names have the same characters
abbrev pub same_name : List ℕ → List ℕ → Bool
same_name a b = pointwise nat_eq a b

-- one name replaced, and all others as they were
abbrev pub with_file : List ℕ → List ℕ → Files → Files
with_file name bytes files = λ n. if same_name name n then Some bytes else files n

-- these are the first bytes of what a name holds
abbrev pub IsFront : ℕ → Option (List ℕ) → List ℕ → Type 0
IsFront limit None bytes = ⊥
IsFront limit (Some whole) bytes = bytes ≡ take limit whole

-- what a read of a name may give: the first bytes of its content, where that is told
abbrev pub Reads : Option Files → List ℕ → ℕ → List ℕ → Type 0
Reads None name limit bytes = Unit {0}
Reads (Some files) name limit bytes = IsFront limit (files name) bytes

-- the content is told, and has the name
abbrev pub HasName : Option Files → List ℕ → Type 0
HasName None name = ⊥
HasName (Some files) name = IsSome (files name)
