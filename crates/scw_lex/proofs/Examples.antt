-- What stands at the front of some texts, by computation.
use Rattle.std.proofs.Common.{◌≡◌, ℕ, List, [], ◌∷◌, codes, refl}
use Rattle.scw_text.specs.declared.rule.Rule.TheVariants as rule
use Rattle.scw_lex.specs.declared.piece.Piece.TheVariants as piece
use Rattle.scw_lex.specs.declared.token.Tok.TheVariants as tok
use Rattle.scw_lex.specs.declared.token.Gap.TheVariants as gap
use Rattle.scw_lex.specs.Gap.{gap_of}
use Rattle.scw_lex.specs.Front.{piece_at}
use Rattle.scw_lex.specs.Character.{class_of}
use Rattle.scw_lex.specs.Reserved.{word_of, separator}
use Rattle.scw_lex.specs.Name.{name_piece, word_name_len}
use Rattle.scw_lex.specs.Number.{number_piece, decimal_piece, hex_number, float_len, value_of}
use Rattle.scw_lex.specs.Literal.{character_piece, line_string, lines_string, back_piece}
use Rattle.std.specs.Char.{encode_utf8}
use Rattle.scw_text.specs.Modified.{unit_bytes}

underscore_and_operator : piece_at (codes "_+") ≡ piece.Token tok.KwUnderscore 1
unfolding piece_at class_of word_of name_piece word_name_len encode_utf8
underscore_and_operator = refl

operator_joined : piece_at (codes "a_+b") ≡ piece.Token (tok.Id (codes "a_+")) 3
unfolding piece_at class_of word_of name_piece word_name_len encode_utf8
operator_joined = refl

operator_before_comment : piece_at (codes "*//*") ≡ piece.Token (tok.Id (codes "*")) 1
unfolding piece_at class_of word_of name_piece word_name_len encode_utf8
operator_before_comment = refl

reserved_sign_is_whole : piece_at (codes "==>") ≡ piece.Token (tok.Id (codes "==>")) 3
unfolding piece_at class_of word_of name_piece word_name_len encode_utf8
reserved_sign_is_whole = refl

escape_behind_operator : piece_at (codes "+\\u") ≡ piece.Refused rule.LeftOutToken 1 2
unfolding piece_at class_of word_of name_piece word_name_len encode_utf8
escape_behind_operator = refl

interpolator : piece_at (codes "s\"x\"") ≡ piece.Refused rule.LeftOutToken 0 1
unfolding piece_at class_of word_of name_piece word_name_len encode_utf8
interpolator = refl

zero_before_x : piece_at (codes "0xg") ≡ piece.Token (tok.Int 0) 1
unfolding piece_at class_of number_piece decimal_piece float_len value_of
zero_before_x = refl

floating_form : piece_at (codes "1def") ≡ piece.Refused rule.BadNumber 0 2
unfolding piece_at class_of number_piece decimal_piece float_len value_of
floating_form = refl

bits : piece_at (codes "0xFFFFFFFF") ≡ piece.Token (tok.Int 4294967295) 10
unfolding piece_at class_of number_piece hex_number value_of
bits = refl

least_int : piece_at (codes "2147483648") ≡ piece.Token tok.MinInt 10
unfolding piece_at class_of number_piece decimal_piece float_len value_of
least_int = refl

symbol : piece_at (codes "'ab'") ≡ piece.Refused rule.LeftOutToken 0 3
unfolding piece_at class_of character_piece word_name_len
symbol = refl

escaped_character : piece_at (codes "'\\u0041'") ≡ piece.Token (tok.Char 65) 8
unfolding piece_at class_of character_piece word_name_len
escaped_character = refl

bad_escape : piece_at (codes "\"a\\q\"") ≡ piece.Refused rule.BadEscape 2 1
unfolding piece_at class_of line_string
bad_escape = refl

quotes_at_the_end : piece_at (codes "\"\"\"a\"\"\"\"") ≡ piece.Token (tok.Str (codes "a\"")) 8
unfolding piece_at class_of lines_string unit_bytes
quotes_at_the_end = refl

open_text : piece_at (codes "\"\"\"\"\"") ≡ piece.Refused rule.OpenText 0 3
unfolding piece_at class_of lines_string unit_bytes
open_text = refl

open_comment : piece_at (codes "/*/") ≡ piece.Refused rule.OpenComment 0 2
unfolding piece_at class_of
open_comment = refl

nested_comment : piece_at (codes "/* /* */ */ a") ≡ piece.Skip 11
unfolding piece_at class_of
nested_comment = refl

blank_line_in_a_comment : gap_of 5 (codes " /*\n\n*/ ") ≡ gap.BlankLine 8
unfolding gap_of encode_utf8
blank_line_in_a_comment = refl

comment_line_is_no_blank_line : gap_of 5 (codes "\n// x\n") ≡ gap.LineEnd 5
unfolding gap_of encode_utf8
comment_line_is_no_blank_line = refl
