use Rattle.std.proofs.Common.{IsTrue, sym, subst}
use Rattle.std.specs.Char.{is_ascii_digit}
use Rattle.std.specs.List.{list_all}
use Rattle.scw_reader.proofs.RunLemmas.{list_all-run}
use Rattle.scw_reader.proofs.number.number_at.Goals as goal

pub numeral-requires : goal.numeral-requires
numeral-requires c = subst (λ ds. IsTrue (list_all is_ascii_digit ds)) (sym c.run.ensures.front) (list_all-run is_ascii_digit c.args.bytes.now)
