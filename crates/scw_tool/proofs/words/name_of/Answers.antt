use Rattle.std.proofs.Common.{rules}
use Rattle.std.proofs.lemmas.Str.{chars_from_encodes}
use Rattle.scw_tool.proofs.words.name_of.Goals as goal

pub returns : goal.returns
returns c = rw c.from_vec.ensures (search (rules, chars_from_encodes))
