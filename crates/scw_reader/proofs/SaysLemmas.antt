-- Bytes say the tree that is read of their tokens, and no other.
use Rattle.std.proofs.Common.{◌≡◌, ℕ, ◌≤◌, max, List, [], length, sym, ap, subst, ◌∙◌, Some, None}
use Rattle.std.proofs.lemmas.Option.{same_Some}
use Rattle.scw_reader.specs.declared.token.Token.{Token}
use Rattle.scw_reader.specs.declared.limit.TheConstants.{MAX_BYTES, MAX_DEPTH, MAX_PARAMETERS}
use Rattle.scw_reader.specs.Syntax.{Source}
use Rattle.scw_reader.specs.Layout.{Spelled}
use Rattle.scw_reader.specs.Grammar.{source_tokens}
use Rattle.scw_reader.specs.Limits.{source_depth, most_parameters}
use Rattle.scw_reader.specs.ReadingSource.{source_in}
use Rattle.scw_reader.specs.Source.{Says}
use Rattle.scw_reader.proofs.SourceLemmas.{source_is}
use Rattle.scw_reader.proofs.SourceFoundLemmas.{source_found}

pub says : (bytes : List ℕ) (tokens : List Token) (e : Source) → length bytes ≤ MAX_BYTES → Spelled bytes tokens → source_in tokens ≡ Some e
    → source_depth e ≤ MAX_DEPTH → max (most_parameters e.before) (most_parameters e.after) ≤ MAX_PARAMETERS → Says bytes e
says bytes tokens e few text read flat parameters =
    let is = source_is tokens e read in
    record { few = few; text = subst (Spelled bytes) is.0 text; fits = record { nesting = is.1; depth = flat; parameters = parameters } }

-- what the bytes say is read of their tokens
pub read_of_tokens : (bytes : List ℕ) (tokens : List Token) (other : Source) → ((others : List Token) → Spelled bytes others → others ≡ tokens) → Says bytes other → source_in tokens ≡ Some other
read_of_tokens bytes tokens other only s = ap source_in (sym (only (source_tokens other []) s.text)) ∙ source_found other s.fits.nesting

pub says_only : (bytes : List ℕ) (tokens : List Token) (e other : Source) → ((others : List Token) → Spelled bytes others → others ≡ tokens) → source_in tokens ≡ Some e → Says bytes other → other ≡ e
says_only bytes tokens e other only read s = same_Some other e (sym (read_of_tokens bytes tokens other only s) ∙ read)

pub says_none : (bytes : List ℕ) (tokens : List Token) (other : Source) → ((others : List Token) → Spelled bytes others → others ≡ tokens) → source_in tokens ≡ None → Says bytes other → ⊥
says_none bytes tokens other only read s = let e : None ≡ Some other = sym read ∙ read_of_tokens bytes tokens other only s in cc
