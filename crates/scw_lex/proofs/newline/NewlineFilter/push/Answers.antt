use Rattle.std.proofs.Common.{refl, sym}
use Rattle.scw_lex.proofs.NewlineLemmas.{read_first, read_next}
use Rattle.scw_lex.proofs.newline.NewlineFilter.push.Goals as goal

pub returns-in_ok-add : goal.returns-in_ok-add
returns-in_ok-add c =
    read_next c.args.self.now _ c.in-Some.last (record { newline = c.newline_of-newline.result; token = c.args.lexeme.token }) c.args.lexeme
    (sym c.in-Some.ensures.value) c.replace.ensures.after (record { newline = c.newline_of-newline.ensures; token = refl })
    (rw (← c.is_template-is_before_template.ensures) (c.in_ok-add.ensures {u = tt}))

pub returns-in_default : goal.returns-in_default
returns-in_default c =
    read_first c.args.self.now _ (record { newline = c.newline_of-newline.result; token = c.args.lexeme.token }) c.args.lexeme
    (sym c.in_default.ensures.value) c.replace.ensures.after (record { newline = c.newline_of-newline.ensures; token = refl }) refl
