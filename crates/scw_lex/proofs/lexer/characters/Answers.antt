use Rattle.std.proofs.Common.{◌≡◌, ap, ◌∙◌, rules}
use Rattle.std.specs.Str.{chars}
use Rattle.std.proofs.lemmas.Str.{chars_from_encodes, IsUtf8-had}
use Rattle.scw_lex.proofs.lexer.characters.Goals as goal

pub returns-in_ok-collect-in-Ok : goal.returns-in_ok-collect-in-Ok
returns-in_ok-collect-in-Ok c =
    let read : c.in_ok-collect-in-Ok.field-0.items ≡ chars c.bytes.result.now = search (rules, chars_from_encodes) in
    read ∙ ap chars c.bytes.ensures

pub returns-in-Err : goal.returns-in-Err
returns-in-Err c = absurd (c.in-Err.ensures.cases.0 (rw c.bytes.ensures (IsUtf8-had c.args.source.now.bytes c.args.source.now.utf8)))
