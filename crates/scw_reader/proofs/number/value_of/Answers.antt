use Rattle.scw_reader.proofs.NumberLemmas.{IsAscii-digits, value_of-err}
use Rattle.std.proofs.lemmas.Str.{IsUtf8-from_ascii}
use Rattle.scw_reader.proofs.number.value_of.Goals as goal

pub returns-in_default : goal.returns-in_default
returns-in_default c = absurd (c.in_default.ensures.cases.0 (IsUtf8-from_ascii c.args.digits.now (IsAscii-digits c.args.digits.now c.requires)))

pub returns-in-Err : goal.returns-in-Err
returns-in-Err c = value_of-err c.args.digits.now c.in-Ok.text.now c.parse.result c.in-Err.field-0 c.in-Ok.ensures.cases.0 c.requires c.parse.ensures.value.0 c.in-Err.is
