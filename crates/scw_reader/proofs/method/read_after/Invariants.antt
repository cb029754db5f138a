use Rattle.std.proofs.Common.{◌≡◌, ◌-◌, [], map}
use Rattle.scw_reader.specs.declared.token.Sign.TheVariants as s
use Rattle.scw_reader.specs.Parser.{chain, chain_from}
use Rattle.scw_reader.specs.ReadingSource.{def_at}
use Rattle.scw_reader.specs.View.{method_of}
use Rattle.scw_reader.proofs.method.read_after.Given as goal

abbrev pub invariant-loop-turn : goal.invariant-loop-turn
invariant-loop-turn l =
    chain s.Semicolon def_at [] l.fn.tokens.rest.now ≡ chain_from s.Semicolon def_at (l._turn-end - l._turn) (map method_of l.found.items) l.tokens.rest.now
