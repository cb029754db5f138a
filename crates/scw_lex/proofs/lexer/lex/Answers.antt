use Rattle.std.proofs.Common.{◌∙◌}
use Rattle.std.specs.Str.{chars}
use Rattle.scw_lex.proofs.LexesLemmas.{fault_so_far, source_fits}
use Rattle.scw_lex.proofs.LexLemmas.{into_more, into_tokens}
use Rattle.scw_lex.proofs.OneLemmas.{one_answer}
use Rattle.scw_lex.proofs.PlaceLemmas.{taken_has_place, ended_has_place}
use Rattle.scw_lex.proofs.lexer.lex.Goals as goal

pub new-lexer-requires : goal.new-lexer-requires
new-lexer-requires c =
    source_fits c.args.source.now.bytes c.as_slice.result.now c.args.source.now.utf8 c.args.source.now.within (c.as_slice.ensures.value ∙ c.in_ok-text.ensures)

pub push-requires : goal.push-requires
push-requires c =
    let next = rw c.in-Ok-Token.field-0-is at c.in-Ok-Token.ensures.ok in
    taken_has_place c.loop-lexeme.lexer.file c.loop-lexeme.lexer.at c.loop-lexeme.lexer.text.now c.in-Ok-Token.lexeme c.next.new.self.at c.next.new.self.text.now next c.loop-lexeme.lexer.within

pub loop-lexeme-preserved : goal.loop-lexeme-preserved
loop-lexeme-preserved c =
    let next = rw (c.in-Ok-Token.field-0-is, c.loop-lexeme.invariant.0) at c.in-Ok-Token.ensures.ok in (
      c.next.ensures.file ∙ c.loop-lexeme.invariant.0,
      into_more c.args.source.now.file (chars c.args.source.now.bytes) c.loop-lexeme.filter c.push.new.self c.loop-lexeme.lexer.at c.loop-lexeme.lexer.text.now c.in-Ok-Token.lexeme
          c.next.new.self.at c.next.new.self.text.now c.loop-lexeme.invariant.1 next (c.in_ok-push-in-Ok-Token.ensures {u = tt}),
    )

pub push-requires-in-Ok-End : goal.push-requires-in-Ok-End
push-requires-in-Ok-End c =
    let next = rw c.in-Ok-End.field-0-is at c.in-Ok-End.ensures.ok in
    ended_has_place c.loop-lexeme.lexer.file c.loop-lexeme.lexer.at c.loop-lexeme.lexer.text.now c.in-Ok-End.lexeme next c.loop-lexeme.lexer.within

pub returns-in-Ok-End-clause-ok : goal.returns-in-Ok-End-clause-ok
returns-in-Ok-End-clause-ok c =
    let next = rw (c.in-Ok-End.field-0-is, c.loop-lexeme.invariant.0) at c.in-Ok-End.ensures.ok in
    into_tokens c.args.source.now.file (chars c.args.source.now.bytes) c.loop-lexeme.filter c.push-in-Ok-End.new.self c.loop-lexeme.lexer.at c.loop-lexeme.lexer.text.now c.in-Ok-End.lexeme
    c.in_ok-finish-in-Ok-End.field-0 c.loop-lexeme.invariant.1 next (c.in_ok-push-in-Ok-End.ensures {u = tt}) c.in_ok-finish-in-Ok-End.ensures

pub returns-in-Ok-End-clause-only : goal.returns-in-Ok-End-clause-only
returns-in-Ok-End-clause-only c = λ others h.
    one_answer c.args.source.now.file (chars c.args.source.now.bytes) _ others (returns-in-Ok-End-clause-ok c) h

pub returns-in-Err-clause-refused : goal.returns-in-Err-clause-refused
returns-in-Err-clause-refused c =
    let fails = rw c.loop-lexeme.invariant.0 at c.in-Err.ensures.err in
    fault_so_far c.args.source.now.file (chars c.args.source.now.bytes) c.loop-lexeme.invariant.1.lexemes c.loop-lexeme.lexer.at c.loop-lexeme.lexer.text.now c.in-Err.fault
    c.loop-lexeme.invariant.1.lexes fails
