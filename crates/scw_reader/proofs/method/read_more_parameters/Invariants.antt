use Rattle.std.proofs.Common.{◌≡◌, ◌-◌, [], ◌∷◌}
use Rattle.scw_reader.specs.declared.token.Sign.TheVariants as s
use Rattle.scw_reader.specs.Parser.{chain, chain_from}
use Rattle.scw_reader.specs.ReadingSource.{parameter_at}
use Rattle.scw_reader.proofs.method.read_more_parameters.Given as goal

abbrev pub invariant-loop-turn : goal.invariant-loop-turn
invariant-loop-turn l =
    chain s.Comma parameter_at (l.fn.first ∷ []) l.fn.tokens.rest.now ≡ chain_from s.Comma parameter_at (l._turn-end - l._turn) l.found.items l.tokens.rest.now
