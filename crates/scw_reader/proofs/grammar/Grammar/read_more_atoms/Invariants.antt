use Rattle.std.proofs.Common.{◌≡◌, ◌-◌, [], map}
use Rattle.scw_reader.specs.declared.token.Sign.TheVariants as s
use Rattle.scw_reader.specs.Parser.{chain, chain_from}
use Rattle.scw_reader.specs.Reading.{expression_at, atom}
use Rattle.scw_reader.specs.View.{atom_of}
use Rattle.scw_reader.proofs.grammar.Grammar.read_more_atoms.Given as goal

abbrev pub invariant-loop-turn : goal.invariant-loop-turn
invariant-loop-turn g l =
    chain s.Times (atom (expression_at l.self.levels)) [] l.fn.tokens.rest.now
    ≡ chain_from s.Times (atom (expression_at l.self.levels)) (l._turn-end - l._turn) (map atom_of l.found.items) l.tokens.rest.now
