-- What reading modified UTF-8 answers: JVMS 4.4.7. A place is how many bytes stand before it; one past
-- the largest `u32` is reported as that.
use Rattle.std.specs.Prelude.{◌≡◌, ℕ, ◌+◌, ◌-◌, ◌^◌, ◌<◌, ◌≤◌, List, ◌++◌, length, take, min, Result, Ok, Err, IsTrue, ⊤}
use Rattle.std.specs.List.{list_all}
use Rattle.scw_text.specs.declared.modified.ModifiedFault.{ModifiedFault}
use Rattle.scw_text.specs.declared.modified.ModifiedFault.TheVariants.{Bad, NoMemory}
use Rattle.scw_text.specs.Modified.{modified, is_unit}

abbrev pub AreUnits : List ℕ → Type 0
AreUnits units = IsTrue (list_all is_unit units)

-- the bytes are a text, whole
abbrev pub IsModified : List ℕ → Type 0
IsModified bytes = (units : List ℕ) × AreUnits units × (modified units ≡ bytes)

-- the first n bytes are the beginning of a text
abbrev pub IsBegun : ℕ → List ℕ → Type 0
IsBegun n bytes = (units : List ℕ) × (more : List ℕ) × AreUnits units × (modified units ≡ take n bytes ++ more)

-- the bytes before the place begin a text, and with the byte at it they begin none; at the end, they are none
pub record IsFault (place : ℕ) (bytes : List ℕ) : Type 0 where
  pub within : place ≤ length bytes
  pub begun : IsBegun place bytes
  pub broken : place < length bytes → ¬ IsBegun (place + 1) bytes
  pub cut : place ≡ length bytes → ¬ IsModified bytes

abbrev pub last_place : ℕ
last_place = 2 ^ 32 - 1

abbrev pub reported : Result (List ℕ) ℕ → Result (List ℕ) ℕ
reported (Ok units) = Ok units
reported (Err place) = Err (min place last_place)

-- the answer is what is read, unless memory ran out
abbrev pub Reads : Result (List ℕ) ModifiedFault → Result (List ℕ) ℕ → Type 0
Reads (Ok units) read = read ≡ Ok units
Reads (Err (Bad place)) read = reported read ≡ Err place
Reads (Err NoMemory) read = ⊤

-- the answer is these units, unless memory ran out
abbrev pub IsOkOrNoMemory : Result (List ℕ) ModifiedFault → List ℕ → Type 0
IsOkOrNoMemory (Ok read) units = read ≡ units
IsOkOrNoMemory (Err (Bad place)) units = ⊥
IsOkOrNoMemory (Err NoMemory) units = ⊤

-- the bytes are at fault at the place that is answered
abbrev pub IsFaultIfBad : Result (List ℕ) ModifiedFault → List ℕ → Type 0
IsFaultIfBad (Ok units) bytes = ⊤
IsFaultIfBad (Err (Bad place)) bytes = place < last_place → IsFault place bytes
IsFaultIfBad (Err NoMemory) bytes = ⊤
