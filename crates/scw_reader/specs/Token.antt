-- The tokens and their texts: SLS 1.1 to 1.3.
use Rattle.std.specs.Prelude.{ℕ, Bool, true, false, not, ◌&&◌, nat_le, List, [], ◌∷◌, ◌++◌, length, map, codes}
use Rattle.std.specs.Char.{is_ascii_lowercase, is_ascii_alphanumeric}
use Rattle.std.specs.List.{list_any, list_all}
use Rattle.std.specs.Str.{bytes_eq}
use Rattle.std.specs.Fmt.{decimal}
use Rattle.scw_reader.specs.declared.token.Word.{Word}
use Rattle.scw_reader.specs.declared.token.Word.TheVariants as word
use Rattle.scw_reader.specs.declared.token.Sign.{Sign}
use Rattle.scw_reader.specs.declared.token.Sign.TheVariants as sign
use Rattle.scw_reader.specs.declared.token.Token.{Token}
use Rattle.scw_reader.specs.declared.token.Token.TheVariants as token
use Rattle.scw_reader.specs.declared.token.TheConstants.{NO_NAMES, MAX_NAME, MAX_INT, MAX_LONG}
use Rattle.scw_reader.specs.declared.class.Class.TheVariants as class
use Rattle.scw_reader.specs.Character.{is_in}

abbrev pub word_text : Word → List ℕ
word_text word.Object = codes "object"
word_text word.Def = codes "def"
word_text word.If = codes "if"
word_text word.Else = codes "else"
word_text word.While = codes "while"
word_text word.Val = codes "val"
word_text word.Var = codes "var"
word_text word.True = codes "true"
word_text word.False = codes "false"
word_text word.MainObject = codes "Main"
word_text word.MainMethod = codes "main"
word_text word.Args = codes "args"
word_text word.Array = codes "Array"
word_text word.Println = codes "println"
word_text word.Unit = codes "Unit"
word_text word.Boolean = codes "Boolean"
word_text word.Int = codes "Int"
word_text word.Long = codes "Long"
word_text word.String = codes "String"

abbrev pub sign_text : Sign → List ℕ
sign_text sign.OpenParen = codes "("
sign_text sign.CloseParen = codes ")"
sign_text sign.OpenBracket = codes "["
sign_text sign.CloseBracket = codes "]"
sign_text sign.OpenBrace = codes "{"
sign_text sign.CloseBrace = codes "}"
sign_text sign.Comma = codes ","
sign_text sign.Semicolon = codes ";"
sign_text sign.Colon = codes ":"
sign_text sign.Assign = codes "="
sign_text sign.Plus = codes "+"
sign_text sign.Times = codes "*"
sign_text sign.Minus = codes "-"
sign_text sign.Divide = codes "/"
sign_text sign.Remainder = codes "%"
sign_text sign.Less = codes "<"
sign_text sign.LessOrEqual = codes "<="
sign_text sign.Greater = codes ">"
sign_text sign.GreaterOrEqual = codes ">="
sign_text sign.Equal = codes "=="
sign_text sign.Unequal = codes "!="
sign_text sign.And = codes "&&"
sign_text sign.Or = codes "||"

abbrev pub token_text : Token → List ℕ
token_text (token.Word w) = word_text w
token_text (token.Sign s) = sign_text s
token_text (token.Name name) = name
token_text (token.Int n) = decimal n
token_text (token.Long n) = decimal n ++ codes "L"
token_text (token.Text text) = codes "\"" ++ (text ++ codes "\"")

-- the bytes begin with a character of which the test is true
abbrev pub begins : (ℕ → Bool) → List ℕ → Bool
begins test [] = false
begins test (c ∷ cs) = test c

-- a name: letters and digits, the first a small letter, at most 200, and none of the texts that are no names
abbrev pub is_name : List ℕ → Bool
is_name name =
    begins is_ascii_lowercase name && (list_all is_ascii_alphanumeric name && (nat_le (length name) MAX_NAME
    && not (list_any (λ other. bytes_eq other name) (map (λ other. other.now) NO_NAMES))))

-- what a token may hold
abbrev pub is_token : Token → Bool
is_token (token.Word w) = true
is_token (token.Sign s) = true
is_token (token.Name name) = is_name name
is_token (token.Int n) = nat_le n MAX_INT
is_token (token.Long n) = nat_le n MAX_LONG
is_token (token.Text text) = list_all (is_in class.Text) text
