-- The opcodes: JVMS 6.5 and 7, by the table.
use Rattle.std.specs.Prelude.{ℕ, Option, slice_get}
use Rattle.scw_code.specs.declared.form.Form.{Form}
use Rattle.scw_code.specs.declared.opcode.TheConstants.{FORMS}

-- the form of the opcode's operands
unfoldable pub form_of : ℕ → Option Form
form_of opcode = slice_get FORMS opcode
