-- Why bytes are no source: they are too many, which is tested first, or they aren't UTF-8.
use Rattle.std.specs.Prelude.{◌≡◌, ℕ, ◌<◌, ◌≤◌, List, length}
use Rattle.std.specs.Str.{IsValidUpTo}
use Rattle.scw_text.specs.declared.source.TheConstants.{MAX_SOURCE_BYTES}
use Rattle.scw_text.specs.declared.source.TextFault.{TextFault}
use Rattle.scw_text.specs.declared.source.TextFault.TheVariants.{BadUtf8, TooLong}

-- the bytes have the fault: before the place stands the longest front that is UTF-8, and more bytes follow
abbrev pub HasFault : TextFault → List ℕ → Type 0
HasFault (BadUtf8 place) bytes = (length bytes ≤ MAX_SOURCE_BYTES) × IsValidUpTo bytes place
HasFault (TooLong len) bytes = (MAX_SOURCE_BYTES < length bytes) × (len ≡ length bytes)
