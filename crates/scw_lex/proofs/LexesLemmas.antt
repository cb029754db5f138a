-- How the tokens of a text follow one another.
use Rattle.std.proofs.Common.{◌≡◌, ℕ, ◌≤◌, length, List, [], ◌∷◌, ◌++◌, refl, sym, ap, subst, append_assoc}
use Rattle.std.specs.Str.{IsUtf8, chars}
use Rattle.std.proofs.lemmas.Str.{encodes-chars, IsUtf8-had}
use Rattle.scw_text.specs.declared.source.TheConstants.{MAX_SOURCE_BYTES}
use Rattle.scw_text.specs.declared.refusal.Refusal.{Refusal}
use Rattle.scw_text.specs.declared.refusal.Fault.{Fault}
use Rattle.scw_text.specs.declared.refusal.Fault.TheVariants as fault
use Rattle.scw_lex.specs.declared.token.Lexeme.{Lexeme}
use Rattle.scw_lex.specs.Lexing.{bytes, Found, Next, Fails, Lexes, Refuses, HasFault}

-- behind these tokens, the tokens or the refusal of the text that is left are those of the whole
pub record LexesSoFar (file : ℕ) (whole : List ℕ) (lexemes : List Lexeme) (at : ℕ) (text : List ℕ) : Type 0 where
  pub lexes : (others : List Lexeme) → Lexes file at text others → Lexes file 0 whole (lexemes ++ others)
  pub refuses : (refusal : Refusal) → Refuses file at text refusal → Refuses file 0 whole refusal

pub lexes_none : (file : ℕ) (whole : List ℕ) → LexesSoFar file whole [] 0 whole
lexes_none file whole = record { lexes = λ others l. l; refuses = λ refusal r. r }

pub lexes_more : (file : ℕ) (whole : List ℕ) (lexemes : List Lexeme) (at : ℕ) (text : List ℕ) (lexeme : Lexeme) (end : ℕ) (rest : List ℕ) → LexesSoFar file whole lexemes at text
    → Next file at [] at text (Found.Taken lexeme end rest) → LexesSoFar file whole (lexemes ++ lexeme ∷ []) end rest
lexes_more file whole lexemes at text lexeme end rest so next = record {
  lexes = λ others l. subst (Lexes file 0 whole) (sym (append_assoc lexemes (lexeme ∷ []) others)) (so.lexes (lexeme ∷ others) (Lexes.more next l));
  refuses = λ refusal r. so.refuses refusal (Refuses.later next r);
}

pub lexes_to_the_end : (file : ℕ) (whole : List ℕ) (lexemes : List Lexeme) (at : ℕ) (text : List ℕ) (lexeme : Lexeme) → LexesSoFar file whole lexemes at text
    → Next file at [] at text (Found.Ended lexeme) → Lexes file 0 whole (lexemes ++ lexeme ∷ [])
lexes_to_the_end file whole lexemes at text lexeme so next = so.lexes (lexeme ∷ []) (Lexes.last next)

pub fault_so_far : (file : ℕ) (whole : List ℕ) (lexemes : List Lexeme) (at : ℕ) (text : List ℕ) (e : Fault) → LexesSoFar file whole lexemes at text → Fails file at text e
    → HasFault file whole e
fault_so_far file whole lexemes at text (fault.Refused refusal) so f = so.refuses refusal (Refuses.first f)
fault_so_far file whole lexemes at text fault.NoMemory so f = tt

-- the characters of a source have its bytes
pub source_fits : (bs text : List ℕ) → ∥ IsUtf8 bs ∥₁ → length bs ≤ MAX_SOURCE_BYTES → text ≡ chars bs → bytes text ≤ MAX_SOURCE_BYTES
source_fits bs text u h e = rw (e, encodes-chars bs (IsUtf8-had bs u)) h
