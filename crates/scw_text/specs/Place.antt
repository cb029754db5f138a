-- Lines and columns of a text in UTF-8, counted from 1. A place is how many bytes stand before it, and a
-- line feed is on the line that it ends.
use Rattle.std.specs.Prelude.{ℕ, zero, suc, ◌+◌, Bool, ◌&&◌, ◌||◌, not, List, length, take, slice_index, nat_lt, ◌==◌, if◌then◌else◌}
use Rattle.std.specs.List.{count_by}
use Rattle.std.specs.Str.{byte}
use Rattle.scw_text.specs.Modified.{is_continuation}

abbrev pub is_line_feed : ℕ → Bool
is_line_feed b = b == byte "\n"

-- one more than the line feeds before the place
abbrev pub line_of : List ℕ → ℕ → ℕ
line_of bytes at = 1 + count_by is_line_feed (take at bytes)

-- the place after the last of these line feeds, or else the start of the text
unfoldable pub line_start : List ℕ → ℕ → ℕ
line_start bytes zero = 0
line_start bytes (suc n) = if is_line_feed (slice_index bytes n) then suc n else line_start bytes n

-- a character ends at the place, so that none goes on there
abbrev pub ends_char : List ℕ → ℕ → Bool
ends_char bytes at = at == length bytes || not (is_continuation (slice_index bytes at))

-- how many numbers from 1 to this one pass the test
unfoldable pub count_upto : (ℕ → Bool) → ℕ → ℕ
count_upto test zero = 0
count_upto test (suc n) = count_upto test n + (if test (suc n) then 1 else 0)

-- one more than the characters of the line that end at or before the place: inside a character, its own column
unfoldable pub column_of : List ℕ → ℕ → ℕ
column_of bytes at = 1 + count_upto (λ k. nat_lt (line_start bytes at) k && ends_char bytes k) at
