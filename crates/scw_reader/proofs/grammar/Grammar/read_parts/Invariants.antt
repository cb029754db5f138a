use Rattle.std.proofs.Common.{◌≡◌, ◌-◌, map}
use Rattle.scw_reader.specs.Reading.{expression_at, parts, parts_from}
use Rattle.scw_reader.specs.View.{statement_of}
use Rattle.scw_reader.proofs.grammar.Grammar.read_parts.Given as goal

abbrev pub invariant-loop-turn : goal.invariant-loop-turn
invariant-loop-turn g l =
    parts (expression_at l.self.levels) l.fn.tokens.rest.now
    ≡ parts_from (expression_at l.self.levels) (l._turn-end - l._turn) (map statement_of l.found.items) l.tokens.rest.now
