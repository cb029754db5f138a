-- A source within the levels is read from its tokens.
use Rattle.std.proofs.Common.{◌≡◌, ℕ, zero, suc, ◌<◌, ◌≤◌, true, false, List, [], ◌∷◌, ◌++◌, length, refl, sym, ap, subst, ◌∙◌, arith, Some, append_assoc, append-nil}
use Rattle.scw_reader.specs.declared.token.Word.TheVariants as w
use Rattle.scw_reader.specs.declared.token.Sign.TheVariants as s
use Rattle.scw_reader.specs.declared.token.Token.{Token}
use Rattle.scw_reader.specs.declared.token.Token.TheVariants as token
use Rattle.scw_reader.specs.declared.tree.Parameter.{Parameter}
use Rattle.scw_reader.specs.declared.limit.TheConstants.{MAX_NESTING}
use Rattle.scw_reader.specs.Syntax.{Name, Expression, Method, Source}
use Rattle.scw_reader.specs.Grammar.{Tokens, ◌·◌, word, type_word, expression_tokens, parameter_tokens, more_parameters_tokens, parameters_tokens, method_tokens, before_tokens, after_tokens, source_tokens}
use Rattle.scw_reader.specs.Limits.{expression_nesting, methods_nesting, source_nesting}
use Rattle.scw_reader.specs.Parser.{eat_word, eat_sign, chain}
use Rattle.scw_reader.specs.ReadingSource.{body_at, parameter_at, parameters_at, method_at, main_clause, main_at, before_from, before_at, def_at, object_at, at_end, source_in}
use Rattle.scw_reader.proofs.ParserLemmas.{then_step, takes_word, takes_sign, takes_name, expect_type-word}
use Rattle.scw_reader.proofs.ChainLemmas.{Complete, Grows, Lacks, AllWithin, chain_found, sign_sees}
use Rattle.scw_reader.proofs.TreeLemmas.{within-most, expression_grows}
use Rattle.scw_reader.proofs.EndLemmas.{Ends, semicolon_ends, close_brace_ends}
use Rattle.scw_reader.proofs.CompleteLemmas.{expression_complete}
use Rattle.scw_reader.proofs.SourceLemmas.{no_size, closed_parameters_tokens, rest_tokens, method_nesting, clause_tokens, main_rest_tokens, more_parameters_tokens-chain, after_tokens-chain, methods_nesting-most}

body_found : (x : Expression) (rest : List Token) → expression_nesting x ≤ MAX_NESTING → Ends rest → body_at (expression_tokens x rest) ≡ Some (x, rest)
body_found x rest fits ends = (expression_complete MAX_NESTING).found x rest fits ends

-- ---- parameters

parameter_found : (p : Parameter) (rest : List Token) → parameter_at (parameter_tokens p rest) ≡ Some (p, rest)
unfolding parameter_at
parameter_found p rest =
    let kind = token.Word (type_word p.kind) ∷ rest in
    then_step _ _ p.name (token.Sign s.Colon ∷ kind) (p, rest) (takes_name p.name (token.Sign s.Colon ∷ kind))
    (then_step _ _ tt kind (p, rest) (takes_sign s.Colon kind refl) (then_step _ _ p.kind rest (p, rest) (expect_type-word p.kind rest) refl))

-- a parameter ends anywhere
abbrev Anywhere : List Token → Type 0
Anywhere rest = Unit {0}

parameter_complete : Complete parameter_at parameter_tokens no_size 0 Anywhere
parameter_complete = record { found = λ p rest fits ends. parameter_found p rest }

all_no_size : (ps : List Parameter) → AllWithin no_size 0 ps
all_no_size [] = tt
all_no_size (p ∷ ps) = (omega arith, all_no_size ps)

parameter_grows : Grows parameter_tokens
parameter_grows p rest = omega arith

close_paren_lacks_comma : (rest : List Token) → Lacks s.Comma (token.Sign s.CloseParen ∷ rest)
unfolding eat_sign
close_paren_lacks_comma rest = refl

parameter_lacks_close : (p : Parameter) (rest : List Token) → Lacks s.CloseParen (parameter_tokens p rest)
unfolding eat_sign
parameter_lacks_close p rest = refl

parameters_found : (ps : List Parameter) (rest : List Token) → parameters_at (closed_parameters_tokens ps rest) ≡ Some (ps, rest)
unfolding parameters_at
parameters_found [] rest = then_step _ _ true rest ([], rest) (sign_sees s.CloseParen rest refl) refl
parameters_found (p ∷ ps) rest =
    let close = token.Sign s.CloseParen ∷ rest in
    let more = more_parameters_tokens ps close in
    let whole : List Parameter × List Token = (p ∷ ps, rest) in
    then_step _ _ false (parameter_tokens p more) whole (parameter_lacks_close p more)
    (then_step _ _ p more whole (parameter_found p more)
    (then_step _ _ (p ∷ ps) close whole
    (ap (chain s.Comma parameter_at (p ∷ [])) (more_parameters_tokens-chain ps close)
    ∙ chain_found s.Comma parameter_at parameter_tokens no_size 0 Anywhere parameter_complete (λ ts. tt) refl parameter_grows ps (p ∷ []) close (all_no_size ps) tt (close_paren_lacks_comma rest))
    (then_step _ _ tt rest whole (takes_sign s.CloseParen rest refl) refl)))

-- ---- methods

method_found : (m : Method) (rest : List Token) → method_nesting m ≤ MAX_NESTING → Ends rest → method_at (rest_tokens m rest) ≡ Some (m, rest)
unfolding method_at
method_found m rest fits ends =
    let body = expression_tokens m.body rest in
    let assigned = token.Sign s.Assign ∷ body in
    let kind = token.Word (type_word m.result) ∷ assigned in
    let colon = token.Sign s.Colon ∷ kind in
    let clause = closed_parameters_tokens m.parameters colon in
    let whole : Method × List Token = (m, rest) in
    then_step _ _ m.name (token.Sign s.OpenParen ∷ clause) whole (takes_name m.name (token.Sign s.OpenParen ∷ clause))
    (then_step _ _ tt clause whole (takes_sign s.OpenParen clause refl)
    (then_step _ _ m.parameters colon whole (parameters_found m.parameters colon)
    (then_step _ _ tt kind whole (takes_sign s.Colon kind refl)
    (then_step _ _ m.result assigned whole (expect_type-word m.result assigned)
    (then_step _ _ tt body whole (takes_sign s.Assign body refl)
    (then_step _ _ m.body rest whole (body_found m.body rest fits ends) refl))))))

def_found : (m : Method) (rest : List Token) → method_nesting m ≤ MAX_NESTING → Ends rest → def_at (method_tokens m rest) ≡ Some (m, rest)
unfolding def_at
def_found m rest fits ends = then_step _ _ tt (rest_tokens m rest) (m, rest) (takes_word w.Def (rest_tokens m rest) refl) (method_found m rest fits ends)

def_complete : Complete def_at method_tokens method_nesting MAX_NESTING Ends
def_complete = record { found = def_found }

more_parameters_grow : (ps : List Parameter) (rest : List Token) → length rest ≤ length (more_parameters_tokens ps rest)
more_parameters_grow [] rest = omega arith
more_parameters_grow (p ∷ ps) rest = omega (arith, more_parameters_grow ps rest)

parameters_grow : (ps : List Parameter) (rest : List Token) → length rest ≤ length (parameters_tokens ps rest)
parameters_grow [] rest = omega arith
parameters_grow (p ∷ ps) rest = omega (arith, more_parameters_grow ps rest)

method_grows : Grows method_tokens
method_grows m rest =
    let body = expression_tokens m.body rest in
    let result = token.Sign s.CloseParen ∷ token.Sign s.Colon ∷ token.Word (type_word m.result) ∷ token.Sign s.Assign ∷ body in
    omega (arith, expression_grows m.body rest, parameters_grow m.parameters result)

-- ---- `main`

clause_found : (rest : List Token) → main_clause (clause_tokens rest) ≡ Some (tt, rest)
unfolding main_clause
clause_found rest =
    let whole : Unit {0} × List Token = (tt, rest) in
    let closed = token.Sign s.CloseParen ∷ rest in
    let bracket = token.Sign s.CloseBracket ∷ closed in
    let string = token.Word w.String ∷ bracket in
    let opened = token.Sign s.OpenBracket ∷ string in
    let array = token.Word w.Array ∷ opened in
    let colon = token.Sign s.Colon ∷ array in
    let args = token.Word w.Args ∷ colon in
    then_step _ _ tt args whole (takes_sign s.OpenParen args refl) (then_step _ _ tt colon whole (takes_word w.Args colon refl) (then_step _ _ tt array whole (takes_sign s.Colon array refl)
    (then_step _ _ tt opened whole (takes_word w.Array opened refl) (then_step _ _ tt string whole (takes_sign s.OpenBracket string refl) (then_step _ _ tt bracket whole (takes_word w.String bracket refl)
    (then_step _ _ tt closed whole (takes_sign s.CloseBracket closed refl) (takes_sign s.CloseParen rest refl)))))))

main_found : (x : Expression) (rest : List Token) → expression_nesting x ≤ MAX_NESTING → Ends rest → main_at (main_rest_tokens x rest) ≡ Some (x, rest)
unfolding main_at
main_found x rest fits ends =
    let body = expression_tokens x rest in
    let assigned = token.Sign s.Assign ∷ body in
    let unit = token.Word w.Unit ∷ assigned in
    let colon = token.Sign s.Colon ∷ unit in
    let whole : Expression × List Token = (x, rest) in
    then_step _ _ tt colon whole (clause_found colon) (then_step _ _ tt unit whole (takes_sign s.Colon unit refl) (then_step _ _ tt assigned whole (takes_word w.Unit assigned refl)
    (then_step _ _ tt body whole (takes_sign s.Assign body refl) (body_found x rest fits ends))))

-- ---- the methods before `main`

-- `def main`, which ends them
abbrev def_main : Tokens
def_main = word w.Def · word w.MainMethod

takes_main : (rest : List Token) → eat_word w.MainMethod (token.Word w.MainMethod ∷ rest) ≡ Some (true, rest)
unfolding eat_word
takes_main rest = refl

name_is_not_main : (x : Name) (rest : List Token) → eat_word w.MainMethod (token.Name x ∷ rest) ≡ Some (false, token.Name x ∷ rest)
unfolding eat_word
name_is_not_main x rest = refl

before_from_found : (ms found : List Method) (rest : List Token) (k : ℕ) → AllWithin method_nesting MAX_NESTING ms → length ms < k → before_from k found (before_tokens ms (def_main rest)) ≡ Some (found ++ ms, rest)
unfolding before_from
before_from_found [] found rest zero within few = absurd (omega arith)
before_from_found [] found rest (suc k) within few =
    then_step _ _ tt (token.Word w.MainMethod ∷ rest) (found ++ [], rest) (takes_word w.Def (token.Word w.MainMethod ∷ rest) refl)
    (then_step _ _ true rest (found ++ [], rest) (takes_main rest) (ap (λ ms. let p : List Method × List Token = (ms, rest) in Some p) (sym (append-nil found))))
before_from_found (m ∷ ms) found rest zero within few = absurd (omega arith)
before_from_found (m ∷ ms) found rest (suc k) within few =
    let later = before_tokens ms (def_main rest) in
    let end = token.Sign s.Semicolon ∷ later in
    let here = rest_tokens m end in
    let whole : List Method × List Token = (found ++ m ∷ ms, rest) in
    then_step _ _ tt here whole (takes_word w.Def here refl)
    (then_step _ _ false here whole (name_is_not_main m.name _)
    (then_step _ _ m end whole (method_found m end within.0 (semicolon_ends later))
    (then_step _ _ tt later whole (takes_sign s.Semicolon later refl)
    (before_from_found ms (found ++ m ∷ []) rest k within.1 (omega arith) ∙ ap (λ x. let p : List Method × List Token = (x, rest) in Some p) (append_assoc found (m ∷ []) ms)))))

few_before : (ms : List Method) (rest : List Token) → length ms < length (before_tokens ms (def_main rest))
few_before [] rest = omega arith
few_before (m ∷ ms) rest = omega (arith, few_before ms rest, method_grows m (token.Sign s.Semicolon ∷ before_tokens ms (def_main rest)))

before_found : (ms : List Method) (rest : List Token) → AllWithin method_nesting MAX_NESTING ms → before_at (before_tokens ms (def_main rest)) ≡ Some (ms, rest)
unfolding before_at
before_found ms rest within = before_from_found ms [] rest (length (before_tokens ms (def_main rest))) within (few_before ms rest)

-- ---- the object

close_brace_lacks_semicolon : (rest : List Token) → Lacks s.Semicolon (token.Sign s.CloseBrace ∷ rest)
unfolding eat_sign
close_brace_lacks_semicolon rest = refl

after_ends : (ms : List Method) (rest : List Token) → Ends rest → Ends (after_tokens ms rest)
after_ends [] rest ends = ends
after_ends (m ∷ ms) rest ends = semicolon_ends (method_tokens m (after_tokens ms rest))

after_found : (ms : List Method) (rest : List Token) → AllWithin method_nesting MAX_NESTING ms → chain s.Semicolon def_at [] (after_tokens ms (token.Sign s.CloseBrace ∷ rest)) ≡ Some (ms, token.Sign s.CloseBrace ∷ rest)
after_found ms rest within =
    let close = token.Sign s.CloseBrace ∷ rest in
    ap (chain s.Semicolon def_at []) (after_tokens-chain ms close)
    ∙ chain_found s.Semicolon def_at method_tokens method_nesting MAX_NESTING Ends def_complete semicolon_ends refl method_grows ms [] close within (close_brace_ends rest) (close_brace_lacks_semicolon rest)

methods_within : (ms : List Method) → methods_nesting ms ≤ MAX_NESTING → AllWithin method_nesting MAX_NESTING ms
methods_within ms h = within-most method_nesting MAX_NESTING ms (subst (λ k. k ≤ MAX_NESTING) (methods_nesting-most ms) h)

object_found : (e : Source) (rest : List Token) → methods_nesting e.before ≤ MAX_NESTING → expression_nesting e.main ≤ MAX_NESTING → methods_nesting e.after ≤ MAX_NESTING → object_at (source_tokens e rest) ≡ Some (e, rest)
unfolding object_at
object_found e rest before_fits main_fits after_fits =
    let close = token.Sign s.CloseBrace ∷ rest in
    let after = after_tokens e.after close in
    let main = main_rest_tokens e.main after in
    let before = before_tokens e.before (def_main main) in
    let opened = token.Sign s.OpenBrace ∷ before in
    let object = token.Word w.MainObject ∷ opened in
    let whole : Source × List Token = (e, rest) in
    then_step _ _ tt object whole (takes_word w.Object object refl)
    (then_step _ _ tt opened whole (takes_word w.MainObject opened refl)
    (then_step _ _ tt before whole (takes_sign s.OpenBrace before refl)
    (then_step _ _ e.before main whole (before_found e.before main (methods_within e.before before_fits))
    (then_step _ _ e.main after whole (main_found e.main after main_fits (after_ends e.after close (close_brace_ends rest)))
    (then_step _ _ e.after close whole (after_found e.after rest (methods_within e.after after_fits))
    (then_step _ _ tt rest whole (takes_sign s.CloseBrace rest refl) refl))))))

-- a source within the levels is read from its tokens
pub source_found : (e : Source) → source_nesting e ≤ MAX_NESTING → source_in (source_tokens e []) ≡ Some e
unfolding source_in
source_found e fits =
    let before : methods_nesting e.before ≤ MAX_NESTING = omega arith in
    let main : expression_nesting e.main ≤ MAX_NESTING = omega arith in
    let after : methods_nesting e.after ≤ MAX_NESTING = omega arith in
    ap at_end (object_found e [] before main after)
