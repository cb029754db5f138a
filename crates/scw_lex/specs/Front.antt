-- What stands at the front of a text: white space, a comment, a token, or what breaks a rule. No public clause cites this
-- file: it says of the lexer what it finds, and by which first characters it decides.
use Rattle.std.specs.Prelude.{ℕ, List, [], ◌∷◌, codes, Option, Some, None, if◌then◌else◌}
use Rattle.scw_text.specs.declared.rule.Rule.TheVariants as rule
use Rattle.scw_lex.specs.declared.character.Class.{Class}
use Rattle.scw_lex.specs.declared.character.Class.TheVariants as class
use Rattle.scw_lex.specs.declared.piece.Piece.{Piece}
use Rattle.scw_lex.specs.declared.piece.Piece.TheVariants as piece
use Rattle.scw_lex.specs.declared.reserved.Reserved.{Reserved}
use Rattle.scw_lex.specs.Character.{is_of, class_of}
use Rattle.scw_lex.specs.Reserved.{separator, token_of}
use Rattle.scw_lex.specs.Name.{begins_comment, name_piece}
use Rattle.scw_lex.specs.Number.{number_piece, point_piece}
use Rattle.scw_lex.specs.Literal.{back_piece, string_piece, character_piece}
use Rattle.scw_lex.specs.Comment.{comment_piece}

abbrev pub separated : Option Reserved → Piece
separated (Some w) = piece.Token (token_of w) 1
separated None = piece.Refused rule.BadChar 0 1

abbrev pub separator_piece : List ℕ → Piece
separator_piece [] = piece.Refused rule.BadChar 0 0
separator_piece (c ∷ cs) = if is_of (codes ".") c then point_piece (c ∷ cs) else separated (separator c)

abbrev pub quote_piece : List ℕ → Piece
quote_piece [] = piece.Refused rule.BadChar 0 0
quote_piece (c ∷ cs) = if is_of (codes "`") c then back_piece cs else if is_of (codes "\"") c then string_piece cs else character_piece cs

abbrev pub operator_piece : List ℕ → Piece
operator_piece text = if begins_comment text then comment_piece text else name_piece text

abbrev pub by_class : Class → List ℕ → Piece
by_class class.Letter text = name_piece text
by_class class.Digit text = number_piece text
by_class class.White text = piece.Skip 1
by_class class.Separator text = separator_piece text
by_class class.Quote text = quote_piece text
by_class class.Operator text = operator_piece text
by_class class.Other text = piece.Refused rule.BadChar 0 1

unfoldable pub piece_at : List ℕ → Piece
piece_at [] = piece.Refused rule.BadChar 0 0
piece_at (c ∷ cs) = by_class (class_of c) (c ∷ cs)
