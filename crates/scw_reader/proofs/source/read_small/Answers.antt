use Rattle.std.proofs.Common.{sym, ap, subst, ◌∙◌, []}
use Rattle.std.proofs.lemmas.Bool.{both_ways}
use Rattle.scw_reader.specs.Capped.{IsSmall}
use Rattle.scw_reader.specs.Grammar.{source_tokens}
use Rattle.scw_reader.specs.ReadingSource.{source_in}
use Rattle.scw_reader.specs.View.{source_of}
use Rattle.scw_reader.proofs.SaysLemmas.{says, says_only, says_none}
use Rattle.scw_reader.proofs.source.read_small.Goals as goal

pub returns-in_default-clause-none : goal.returns-in_default-clause-none
returns-in_default-clause-none c = λ other s. (rw c.in_default.is at c.in_ok-tokens.ensures.none) (source_tokens other []) s.text

pub returns-then-is_small-clause-ok : goal.returns-then-is_small-clause-ok
returns-then-is_small-clause-ok c =
    let text = rw c.in-Some.is at c.in_ok-tokens.ensures.ok in
    let read = ap source_in (sym c.as_slice.ensures) ∙ c.in-Ok.ensures in
    let small = c.is_small.ensures.0 c.if-is_small.true in
    says c.args.bytes.now c.in-Some.tokens (source_of c.in-Ok.source) c.if-bytes-gt-MAX_BYTES.false text read small.0 small.1

pub returns-then-is_small-clause-only : goal.returns-then-is_small-clause-only
returns-then-is_small-clause-only c = λ other s.
    let only = rw c.in-Some.is at c.in_ok-tokens.ensures.only in
    let read = ap source_in (sym c.as_slice.ensures) ∙ c.in-Ok.ensures in
    says_only c.args.bytes.now c.in-Some.tokens (source_of c.in-Ok.source) other only read s

pub returns-in-Ok-clause-none : goal.returns-in-Ok-clause-none
returns-in-Ok-clause-none c = λ other s.
    let only = rw c.in-Some.is at c.in_ok-tokens.ensures.only in
    let read = ap source_in (sym c.as_slice.ensures) ∙ c.in-Ok.ensures in
    let same = says_only c.args.bytes.now c.in-Some.tokens (source_of c.in-Ok.source) other only read s in
    absurd (both_ways c.is_small.result c.if-is_small.false (c.is_small.ensures.1 (subst IsSmall same (s.fits.depth, s.fits.parameters))))

pub returns-in-Err-Other-clause-none : goal.returns-in-Err-Other-clause-none
returns-in-Err-Other-clause-none c = λ other s.
    let only = rw c.in-Some.is at c.in_ok-tokens.ensures.only in
    let read = ap source_in (sym c.as_slice.ensures) ∙ (rw c.in-Err-Other.field-0-is at c.in-Err-Other.ensures) in
    says_none c.args.bytes.now c.in-Some.tokens other only read s
