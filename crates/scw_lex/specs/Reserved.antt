-- The reserved words and signs, by the tables of src/reserved.rt: SLS 1.1.
use Rattle.std.specs.Prelude.{ℕ, List, [], ◌∷◌, map, nat_eq, Option, Some, None, if◌then◌else◌}
use Rattle.std.specs.Str.{bytes_eq}
use Rattle.scw_lex.specs.declared.token.Tok.{Tok}
use Rattle.scw_lex.specs.declared.token.Tok.TheVariants as tok
use Rattle.scw_lex.specs.declared.reserved.Reserved.{Reserved}
use Rattle.scw_lex.specs.declared.reserved.Reserved.TheVariants as word
use Rattle.scw_lex.specs.declared.reserved.TheConstants.{WORDS, ARROWS, SEPARATORS}

abbrev pub token_of : Reserved → Tok
token_of word.Abstract = tok.KwAbstract
token_of word.Case = tok.KwCase
token_of word.Catch = tok.KwCatch
token_of word.Class = tok.KwClass
token_of word.Def = tok.KwDef
token_of word.Do = tok.KwDo
token_of word.Else = tok.KwElse
token_of word.Extends = tok.KwExtends
token_of word.False = tok.KwFalse
token_of word.Final = tok.KwFinal
token_of word.Finally = tok.KwFinally
token_of word.For = tok.KwFor
token_of word.ForSome = tok.KwForSome
token_of word.If = tok.KwIf
token_of word.Implicit = tok.KwImplicit
token_of word.Import = tok.KwImport
token_of word.Lazy = tok.KwLazy
token_of word.Macro = tok.KwMacro
token_of word.Match = tok.KwMatch
token_of word.New = tok.KwNew
token_of word.Null = tok.KwNull
token_of word.Object = tok.KwObject
token_of word.Override = tok.KwOverride
token_of word.Package = tok.KwPackage
token_of word.Private = tok.KwPrivate
token_of word.Protected = tok.KwProtected
token_of word.Return = tok.KwReturn
token_of word.Sealed = tok.KwSealed
token_of word.Super = tok.KwSuper
token_of word.This = tok.KwThis
token_of word.Throw = tok.KwThrow
token_of word.Trait = tok.KwTrait
token_of word.Try = tok.KwTry
token_of word.True = tok.KwTrue
token_of word.Type = tok.KwType
token_of word.Val = tok.KwVal
token_of word.Var = tok.KwVar
token_of word.While = tok.KwWhile
token_of word.With = tok.KwWith
token_of word.Yield = tok.KwYield
token_of word.Underscore = tok.KwUnderscore
token_of word.Colon = tok.KwColon
token_of word.Equals = tok.KwEquals
token_of word.Arrow = tok.KwArrow
token_of word.LeftArrow = tok.KwLeftArrow
token_of word.UpperBound = tok.KwUpperBound
token_of word.ViewBound = tok.KwViewBound
token_of word.LowerBound = tok.KwLowerBound
token_of word.Hash = tok.KwHash
token_of word.At = tok.KwAt
token_of word.OpenParenthesis = tok.KwOpenParenthesis
token_of word.CloseParenthesis = tok.KwCloseParenthesis
token_of word.OpenBracket = tok.KwOpenBracket
token_of word.CloseBracket = tok.KwCloseBracket
token_of word.OpenBrace = tok.KwOpenBrace
token_of word.CloseBrace = tok.KwCloseBrace
token_of word.Dot = tok.KwDot
token_of word.Comma = tok.KwComma
token_of word.Semicolon = tok.KwSemicolon

-- what stands in the table beside the text, or beside the character
abbrev pub word_in : List (List ℕ × Reserved) → List ℕ → Option Reserved
word_in [] text = None
word_in (e ∷ es) text = if bytes_eq e.0 text then Some e.1 else word_in es text

abbrev pub sign_in : List (ℕ × Reserved) → ℕ → Option Reserved
sign_in [] c = None
sign_in (e ∷ es) c = if nat_eq e.0 c then Some e.1 else sign_in es c

-- U+21D2 for `=>`, and U+2190 for `<-`
abbrev pub arrow : List ℕ → Option Reserved
arrow [] = None
arrow (c ∷ []) = sign_in ARROWS c
arrow (c ∷ d ∷ ds) = None

abbrev pub or_arrow : Option Reserved → List ℕ → Option Reserved
or_arrow (Some w) text = Some w
or_arrow None text = arrow text

-- the reserved word or sign that an identifier's text is
unfoldable pub word_of : List ℕ → Option Reserved
word_of text = or_arrow (word_in (map (λ e. (e.0.now, e.1)) WORDS) text) text

-- the bracket or separator that a character is
unfoldable pub separator : ℕ → Option Reserved
separator c = sign_in SEPARATORS c
