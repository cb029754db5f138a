-- What the filter of newlines holds, lexeme by lexeme. No definition of what newline tokens are rests on this file.
use Rattle.std.specs.Prelude.{Bool, ◌&&◌, if◌then◌else◌, List, [], ◌∷◌, ◌++◌, Option, Some, None}
use denote.Enum.Bare.{sameb}
use Rattle.scw_lex.specs.contracts.bracket.Bracket as bracket_type
use Rattle.scw_lex.specs.declared.token.Tok.{Tok}
use Rattle.scw_lex.specs.declared.token.Token.{Token}
use Rattle.scw_lex.specs.declared.bracket.Bracket.{Bracket}
use Rattle.scw_lex.specs.declared.bracket.Mark.{Mark}
use Rattle.scw_lex.specs.declared.bracket.Mark.TheVariants as mark
use Rattle.scw_lex.specs.Newline.{can_begin, is_enabled}

-- ---- brackets

abbrev pub same_bracket : Bracket → Bracket → Bool
same_bracket = sameb bracket_type.the_type

-- the first of the open brackets, which is the innermost
abbrev pub innermost : List Bracket → Option Bracket
innermost [] = None
innermost (b ∷ bs) = Some b

-- the open brackets once the innermost is closed, if it is of this kind
abbrev pub after_close : List Bracket → Bracket → List Bracket
after_close [] c = []
after_close (b ∷ bs) c = if same_bracket b c then bs else b ∷ bs

-- the open brackets behind a mark
abbrev pub after_mark : List Bracket → Mark → List Bracket
after_mark bs (mark.Opens c) = c ∷ bs
after_mark bs (mark.Closes c) = after_close bs c
after_mark bs mark.Neither = bs

-- the brackets that are open behind the marks
abbrev pub after_marks : List Bracket → List Mark → List Bracket
after_marks bs [] = bs
after_marks bs (m ∷ ms) = after_marks (after_mark bs m) ms

-- ---- tokens

-- the newline token before a token of this kind, if it may stand there
abbrev pub kept : Bool → List Bracket → Option Token → Tok → Bool → Option Token
kept is_ended brackets newline kind is_before_template =
    if is_ended && (can_begin kind is_before_template && is_enabled (innermost brackets)) then newline else None

-- the tokens, and the newline token behind them
abbrev pub with_newline : List Token → Option Token → List Token
with_newline tokens None = tokens
with_newline tokens (Some newline) = tokens ++ newline ∷ []
