use Rattle.scw_reader.proofs.LayoutLemmas.{read_more, all_read, only_read, none_so, shorter}
use Rattle.scw_reader.proofs.layout.read_tokens.Goals as goal

pub loop-token-smaller : goal.loop-token-smaller
loop-token-smaller c = shorter c.loop-token.lines c.loop-token.rest.now c.in-Ok-Some.token c.in-Ok-Some.after.now (rw c.in-Ok-Some.field-0-is at c.in-Ok-Some.ensures)

pub loop-token-preserved : goal.loop-token-preserved
loop-token-preserved c =
    let so = read_more c.args.bytes.now c.loop-token.tokens c.loop-token.lines c.loop-token.rest.now c.in-Ok-Some.token c.in-Ok-Some.after.now c.loop-token.invariant (rw c.in-Ok-Some.field-0-is at c.in-Ok-Some.ensures) in
    rw (c.in_ok-push-in-Ok-Some.ensures.ok, c.is_before_lines-lines.ensures) so

pub returns-in-Ok-None-clause-ok : goal.returns-in-Ok-None-clause-ok
returns-in-Ok-None-clause-ok c = all_read c.args.bytes.now c.loop-token.tokens c.loop-token.lines c.loop-token.rest.now c.loop-token.invariant (rw c.in-Ok-None.field-0-is at c.in-Ok-None.ensures)

pub returns-in-Ok-None-clause-only : goal.returns-in-Ok-None-clause-only
returns-in-Ok-None-clause-only c = only_read c.args.bytes.now c.loop-token.tokens c.loop-token.lines c.loop-token.rest.now c.loop-token.invariant (rw c.in-Ok-None.field-0-is at c.in-Ok-None.ensures)

pub returns-in-Err-Other-clause-none : goal.returns-in-Err-Other-clause-none
returns-in-Err-Other-clause-none c = none_so c.args.bytes.now c.loop-token.tokens c.loop-token.lines c.loop-token.rest.now c.loop-token.invariant (rw c.in-Err-Other.field-0-is at c.in-Err-Other.ensures)
