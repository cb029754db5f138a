use Rattle.std.proofs.Common.{◌≡◌, ℕ, ◌+◌, ◌-◌, ◌<◌, ◌≤◌, length, sym, ◌∙◌, subst, arith}
use Rattle.std.proofs.lemmas.Str.{length-le-encodes}
use Rattle.scw_lex.proofs.BytesLemmas.{gap_fits}
use Rattle.scw_lex.proofs.NextLemmas.{read_more, token_is_next, refusal_is_next, end_is_next, some_left, none_left}
use Rattle.scw_lex.specs.Lexing.{bytes, Found, Next, IsLexeme}
use Rattle.scw_lex.specs.Front.{piece_at}
use Rattle.scw_lex.specs.declared.piece.Piece.TheVariants as piece
use Rattle.scw_lex.specs.declared.token.Tok.TheVariants as tok
use Rattle.scw_lex.proofs.lexer.Lexer.next.Goals as goal

pub piece_at-requires : goal.piece_at-requires
piece_at-requires c = let l = length-le-encodes c.loop-alloc.self.text.now in omega (arith, l, c.loop-alloc.self.within)

pub loop-alloc-preserved : goal.loop-alloc-preserved
loop-alloc-preserved c =
    let any = some_left c.loop-alloc.self.text.now c.loop-alloc-test.ensures in
    let is : piece_at c.loop-alloc.self.text.now ≡ piece.Skip c.in-Skip.len = sym c.in_ok-len.ensures.value ∙ c.in-Skip.is in (
      c.pass.ensures.file ∙ c.loop-alloc.invariant.0,
      rw (c.pass.ensures.file, c.pass.ensures.at, c.pass.ensures.text)
          (read_more c.loop-alloc.self.file c.args.self.now.at c.args.self.now.text.now c.loop-alloc.self.at c.loop-alloc.self.text.now c.in-Skip.len c.loop-alloc.invariant.1 any is),
    )

pub gap_of-requires : goal.gap_of-requires
gap_of-requires c =
    gap_fits c.args.self.now.at (length c.args.self.now.text.now - length c.loop-alloc.self.text.now) c.args.self.now.text.now c.split_at.result.0.now c.split_at.ensures.front c.args.self.now.within

pub returns-in-Token-clause-ok : goal.returns-in-Token-clause-ok
returns-in-Token-clause-ok c =
    let any = some_left c.loop-alloc.self.text.now c.loop-alloc-test.ensures in
    let is : piece_at c.loop-alloc.self.text.now ≡ piece.Token c.in-Token.kind c.in-Token.len = sym c.in_ok-len.ensures.value ∙ c.in-Token.is in
    rw (sym c.loop-alloc.invariant.0, c.take-lexeme.ensures.at, c.take-lexeme.ensures.text)
    (token_is_next c.loop-alloc.self.file c.args.self.now.at c.args.self.now.text.now c.loop-alloc.self.at c.loop-alloc.self.text.now c.split_at.result.0.now c.in-Token.kind c.in-Token.len
    c.take-lexeme.result c.loop-alloc.invariant.1 any is c.split_at.ensures.front (rw c.gap_of.ensures at c.take-lexeme.ensures.lexeme))

pub returns-in-Refused-clause-err : goal.returns-in-Refused-clause-err
returns-in-Refused-clause-err c =
    let any = some_left c.loop-alloc.self.text.now c.loop-alloc-test.ensures in
    let is : piece_at c.loop-alloc.self.text.now ≡ piece.Refused c.in-Refused.rule c.in-Refused.before c.in-Refused.len = sym c.in_ok-len.ensures.value ∙ c.in-Refused.is in
    rw (sym c.loop-alloc.invariant.0)
    (refusal_is_next c.loop-alloc.self.file c.args.self.now.at c.args.self.now.text.now c.loop-alloc.self.at c.loop-alloc.self.text.now c.in-Refused.rule c.in-Refused.before c.in-Refused.len
    c.refusal.result c.loop-alloc.invariant.1 any is c.refusal.ensures)

pub returns-clause-ok : goal.returns-clause-ok
returns-clause-ok c =
    let none = none_left c.loop-alloc.self.text.now c.loop-alloc-test.ensures in
    rw (sym c.loop-alloc.invariant.0)
    (end_is_next c.loop-alloc.self.file c.args.self.now.at c.args.self.now.text.now c.loop-alloc.self.at c.loop-alloc.self.text.now c.take-end.result c.loop-alloc.invariant.1 none
    (rw c.gap_of-2.ensures at c.take-end.ensures.lexeme))
