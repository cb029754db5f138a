use Rattle.std.proofs.Common.{◌≡◌, ◌-◌, [], ◌∷◌, map}
use Rattle.scw_reader.specs.declared.token.Sign.TheVariants as s
use Rattle.scw_reader.specs.Parser.{chain, chain_from}
use Rattle.scw_reader.specs.Reading.{expression_at}
use Rattle.scw_reader.specs.View.{expression_of}
use Rattle.scw_reader.proofs.grammar.Grammar.read_more_arguments.Given as goal

abbrev pub invariant-loop-turn : goal.invariant-loop-turn
invariant-loop-turn g l =
    chain s.Comma (expression_at l.self.levels) (expression_of l.fn.first ∷ []) l.fn.tokens.rest.now
    ≡ chain_from s.Comma (expression_at l.self.levels) (l._turn-end - l._turn) (map expression_of l.found.items) l.tokens.rest.now
