-- The words that are a job: a mode and a file.
use Rattle.std.specs.Prelude.{◌≡◌, ℕ, not, List, [], ◌∷◌, length, Option, Some, None, if◌then◌else◌, codes, nat_eq}
use Rattle.std.specs.Cmp.Lexicographic.{pointwise}
use Rattle.std.specs.Option.{option_map}
use Rattle.std.specs.Str.{chars}
use Rattle.scw_tool.specs.declared.words.Mode.{Mode}
use Rattle.scw_tool.specs.declared.words.Mode.TheVariants as mode

abbrev pub mode_named : List ℕ → Option Mode
mode_named word = if pointwise nat_eq word (codes "run") then Some mode.Run else (if pointwise nat_eq word (codes "dis") then Some mode.Dis else None)

abbrev pub job_with : Option Mode → List ℕ → Option (Mode × List ℕ)
job_with None file = None
job_with (Some m) file = if not (nat_eq (length file) 0) then Some (m, file) else None

-- the words `MODE FILE`, where the file's name isn't empty
abbrev pub job_of : List (List ℕ) → Option (Mode × List ℕ)
job_of (word ∷ file ∷ []) = job_with (mode_named word) file
job_of _ = None

-- its file, as bytes
abbrev pub job_file : List (List ℕ) → Option (List ℕ)
job_file words = option_map (λ j. j.1) (job_of words)

-- the same name as characters
abbrev pub job_name : List (List ℕ) → Option (List ℕ)
job_name words = option_map chars (job_file words)

-- the words are a job of the mode
abbrev pub IsMode : List (List ℕ) → Mode → Type 0
IsMode words m = option_map (λ j. j.0) (job_of words) ≡ Some m
