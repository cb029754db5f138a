-- What an opcode means, by the table: JVMS 6.5 and 7.
use Rattle.std.specs.Prelude.{ℕ, slice_get, unwrap_or}
use Rattle.scw_frame.specs.declared.operation.Operation.TheVariants.{Undefined}
use Rattle.scw_link.specs.declared.meaning.Meaning.{Meaning}
use Rattle.scw_link.specs.declared.meaning.Meaning.TheVariants as meaning
use Rattle.scw_link.specs.declared.meaning.TheConstants.{MEANINGS}

unfoldable pub meaning_of : ℕ → Meaning
meaning_of opcode = unwrap_or (slice_get MEANINGS opcode) (meaning.Alone Undefined)
