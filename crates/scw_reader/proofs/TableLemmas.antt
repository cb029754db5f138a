-- The tables of words and signs say of each text what it stands for, and of no other.
use Rattle.std.proofs.Common.{◌≡◌, ℕ, Bool, true, false, cond, List, [], ◌∷◌, ◌++◌, refl, sym, ap, ◌∙◌, IsTrue, Option, Some, None, map, ◌<◌, length, arith}
use Rattle.std.specs.Str.{bytes_eq}
use Rattle.std.proofs.lemmas.Slice.Eq.{bytes_eq-Decides}
use Rattle.std.specs.List.{list_all}
use Rattle.std.proofs.lemmas.Bool.{both_ways}
use Rattle.scw_reader.specs.declared.token.Word.{Word}
use Rattle.scw_reader.specs.declared.token.Word.TheVariants as word
use Rattle.scw_reader.specs.declared.token.Sign.{Sign}
use Rattle.scw_reader.specs.declared.token.Sign.TheVariants as sign
use Rattle.scw_reader.specs.declared.token.TheConstants.{WORDS, SIGNS}
use Rattle.scw_reader.specs.Token.{word_text, sign_text, is_name}
use Rattle.scw_reader.specs.declared.class.Class.TheVariants as class
use Rattle.scw_reader.specs.Character.{is_in}
use Rattle.scw_reader.specs.Lexing.{lookup, word_of, sign_of, word_at, some_token_at}

-- each entry has the text of what stands beside it
abbrev Agrees : {A : Type 0} → (A → List ℕ) → List (List ℕ × A) → Type 0
Agrees text_of [] = Unit {0}
Agrees text_of (e ∷ es) = (e.0 ≡ text_of e.1) × Agrees text_of es

found : {A : Type 0} (text_of : A → List ℕ) (e : List ℕ × A) (es : List (List ℕ × A)) (xs : List ℕ) (a : A) (b : Bool) → bytes_eq e.0 xs ≡ b
    → e.0 ≡ text_of e.1 → (lookup es xs ≡ Some a → xs ≡ text_of a) → cond b (Some e.1) (lookup es xs) ≡ Some a → xs ≡ text_of a
found text_of e es xs a true t same later h =
    let one : e.0 ≡ xs = (bytes_eq-Decides e.0 xs).0 t in
    let it : e.1 ≡ a = cc in
    sym one ∙ same ∙ ap text_of it
found text_of e es xs a false t same later h = later h

lookup_is : {A : Type 0} (text_of : A → List ℕ) (table : List (List ℕ × A)) → Agrees text_of table → (xs : List ℕ) (a : A) → lookup table xs ≡ Some a → xs ≡ text_of a
lookup_is text_of [] agrees xs a h = absurd cc
lookup_is text_of (e ∷ es) agrees xs a h = found text_of e es xs a (bytes_eq e.0 xs) refl agrees.0 (lookup_is text_of es agrees.1 xs a) h

words_agree : Agrees word_text (map (λ e. (e.0.now, e.1)) WORDS)
words_agree = (refl, (refl, (refl, (refl, (refl, (refl, (refl, (refl, (refl, (refl, (refl, (refl, (refl, (refl, (refl, (refl, (refl, (refl, (refl, tt)))))))))))))))))))

pub word_of_is : (xs : List ℕ) (w : Word) → word_of xs ≡ Some w → xs ≡ word_text w
unfolding word_of
word_of_is = lookup_is word_text (map (λ e. (e.0.now, e.1)) WORDS) words_agree

pub word_of-text : (w : Word) → word_of (word_text w) ≡ Some w
unfolding word_of
word_of-text word.Object = refl
word_of-text word.Def = refl
word_of-text word.If = refl
word_of-text word.Else = refl
word_of-text word.While = refl
word_of-text word.Val = refl
word_of-text word.Var = refl
word_of-text word.True = refl
word_of-text word.False = refl
word_of-text word.MainObject = refl
word_of-text word.MainMethod = refl
word_of-text word.Args = refl
word_of-text word.Array = refl
word_of-text word.Println = refl
word_of-text word.Unit = refl
word_of-text word.Boolean = refl
word_of-text word.Int = refl
word_of-text word.Long = refl
word_of-text word.String = refl

signs_agree : Agrees sign_text (map (λ e. (e.0.now, e.1)) SIGNS)
signs_agree = (refl, (refl, (refl, (refl, (refl, (refl, (refl, (refl, (refl, (refl, (refl, (refl, (refl, (refl, (refl, (refl, (refl, (refl, (refl, (refl, (refl, (refl, (refl, tt)))))))))))))))))))))))

pub sign_of_is : (xs : List ℕ) (s : Sign) → sign_of xs ≡ Some s → xs ≡ sign_text s
unfolding sign_of
sign_of_is = lookup_is sign_text (map (λ e. (e.0.now, e.1)) SIGNS) signs_agree

pub sign_of-text : (s : Sign) → sign_of (sign_text s) ≡ Some s
unfolding sign_of
sign_of-text sign.OpenParen = refl
sign_of-text sign.CloseParen = refl
sign_of-text sign.OpenBracket = refl
sign_of-text sign.CloseBracket = refl
sign_of-text sign.OpenBrace = refl
sign_of-text sign.CloseBrace = refl
sign_of-text sign.Comma = refl
sign_of-text sign.Semicolon = refl
sign_of-text sign.Colon = refl
sign_of-text sign.Assign = refl
sign_of-text sign.Plus = refl
sign_of-text sign.Times = refl
sign_of-text sign.Minus = refl
sign_of-text sign.Divide = refl
sign_of-text sign.Remainder = refl
sign_of-text sign.Less = refl
sign_of-text sign.LessOrEqual = refl
sign_of-text sign.Greater = refl
sign_of-text sign.GreaterOrEqual = refl
sign_of-text sign.Equal = refl
sign_of-text sign.Unequal = refl
sign_of-text sign.And = refl
sign_of-text sign.Or = refl

-- no word with a place of its own is a name
pub is_name-text : (w : Word) → is_name (word_text w) ≡ false
is_name-text word.Object = refl
is_name-text word.Def = refl
is_name-text word.If = refl
is_name-text word.Else = refl
is_name-text word.While = refl
is_name-text word.Val = refl
is_name-text word.Var = refl
is_name-text word.True = refl
is_name-text word.False = refl
is_name-text word.MainObject = refl
is_name-text word.MainMethod = refl
is_name-text word.Args = refl
is_name-text word.Array = refl
is_name-text word.Println = refl
is_name-text word.Unit = refl
is_name-text word.Boolean = refl
is_name-text word.Int = refl
is_name-text word.Long = refl
is_name-text word.String = refl

-- so no name stands in the table
pub word_of-name : (xs : List ℕ) → IsTrue (is_name xs) → word_of xs ≡ None
word_of-name xs name = none (word_of xs) refl
  where
    none : (o : Option Word) → word_of xs ≡ o → o ≡ None
    none None e = refl
    none (Some w) e = absurd (both_ways (is_name xs) (ap is_name (word_of_is xs w e) ∙ is_name-text w) name)

-- words are made of letters
pub begins_word : (w : Word) (rest : List ℕ) → some_token_at (word_text w ++ rest) ≡ word_at (word_text w ++ rest)
begins_word word.Object rest = refl
begins_word word.Def rest = refl
begins_word word.If rest = refl
begins_word word.Else rest = refl
begins_word word.While rest = refl
begins_word word.Val rest = refl
begins_word word.Var rest = refl
begins_word word.True rest = refl
begins_word word.False rest = refl
begins_word word.MainObject rest = refl
begins_word word.MainMethod rest = refl
begins_word word.Args rest = refl
begins_word word.Array rest = refl
begins_word word.Println rest = refl
begins_word word.Unit rest = refl
begins_word word.Boolean rest = refl
begins_word word.Int rest = refl
begins_word word.Long rest = refl
begins_word word.String rest = refl

pub is_word : (w : Word) → IsTrue (list_all (is_in class.Word) (word_text w))
is_word word.Object = refl
is_word word.Def = refl
is_word word.If = refl
is_word word.Else = refl
is_word word.While = refl
is_word word.Val = refl
is_word word.Var = refl
is_word word.True = refl
is_word word.False = refl
is_word word.MainObject = refl
is_word word.MainMethod = refl
is_word word.Args = refl
is_word word.Array = refl
is_word word.Println = refl
is_word word.Unit = refl
is_word word.Boolean = refl
is_word word.Int = refl
is_word word.Long = refl
is_word word.String = refl

-- ---- no text is empty

some_text : (xs : List ℕ) → (xs ≡ [] → ⊥) → 0 < length xs
some_text [] h = absurd (h refl)
some_text (x ∷ xs) h = omega arith

pub some_word : (w : Word) → 0 < length (word_text w)
unfolding word_of
some_word w = some_text (word_text w) (λ e. let f : None ≡ Some w = ap word_of (sym e) ∙ word_of-text w in cc)

pub some_sign : (s : Sign) → 0 < length (sign_text s)
unfolding sign_of
some_sign s = some_text (sign_text s) (λ e. let f : None ≡ Some s = ap sign_of (sym e) ∙ sign_of-text s in cc)
