-- A text has one list of tokens, or one refusal, and not both.
use Rattle.std.proofs.Common.{◌≡◌, ℕ, ◌+◌, List, ◌∷◌, ◌++◌, take, drop, refl, sym, ap, ◌∙◌}
use Rattle.scw_text.specs.declared.rule.Rule.{Rule}
use Rattle.scw_text.specs.declared.span.Span.{Span}
use Rattle.scw_text.specs.declared.refusal.Refusal.{Refusal}
use Rattle.scw_lex.specs.declared.piece.Piece.{Piece}
use Rattle.scw_lex.specs.declared.piece.Piece.TheVariants as piece
use Rattle.scw_lex.specs.declared.token.Gap.{Gap}
use Rattle.scw_lex.specs.declared.token.Tok.{Tok}
use Rattle.scw_lex.specs.declared.token.Tok.TheVariants as tok
use Rattle.scw_lex.specs.declared.token.Token.{Token}
use Rattle.scw_lex.specs.declared.token.Lexeme.{Lexeme}
use Rattle.scw_lex.specs.Gap.{IsGap}
use Rattle.scw_lex.specs.Lexing.{bytes, IsLexeme, IsRefusal, Found, Next, ends, passes, takes, fails, Lexes, last, more, Refuses, first, later}
use Rattle.scw_lex.specs.Tokens.{HasTokens}
use Rattle.scw_lex.proofs.AloneLemmas.{same_parts, same_token, one_list}
use Rattle.scw_lex.proofs.GapLemmas.{gap_only}
use Rattle.scw_lex.proofs.StandsLemmas.{one_piece}

-- ---- equal parts

same_gap : (at : ℕ) (text : List ℕ) (g h : Gap) → IsGap at text g → IsGap at text h → g ≡ h
same_gap at text g h is so = gap_only at text g is ∙ sym (gap_only at text h so)

same_span : (file start end : ℕ) (a b : Span) → a.file ≡ file → a.start ≡ start → a.end ≡ end → b.file ≡ file → b.start ≡ start → b.end ≡ end → a ≡ b
same_span file start end a b f s e g t u = same_parts a.file b.file a.start b.start a.end b.end (f ∙ sym g) (s ∙ sym t) (e ∙ sym u) a.ordered b.ordered

same_lexeme : (file start end : ℕ) (gap : Gap) (kind : Tok) (a b : Lexeme) → IsLexeme file start end gap kind a → IsLexeme file start end gap kind b → a ≡ b
same_lexeme file start end gap kind a b is so =
    let span = same_span file start end a.token.span b.token.span is.file_is is.start_is is.end_is so.file_is so.start_is so.end_is in
    let token = same_token a.token b.token (is.kind_is ∙ sym so.kind_is) span in
    let first : ◌≡◌ {A = Lexeme} (record { gap = a.gap; token = a.token }) (record { gap = b.gap; token = a.token })
    = ap (λ g. record { gap = g; token = a.token }) (is.gap_is ∙ sym so.gap_is) in
    first ∙ ap (λ t. record { gap = b.gap; token = t }) token

same_refusal : (file start end : ℕ) (rule : Rule) (a b : Refusal) → IsRefusal file start end rule a → IsRefusal file start end rule b → a ≡ b
same_refusal file start end rule a b is so =
    let span = same_span file start end a.span b.span is.file_is is.start_is is.end_is so.file_is so.start_is so.end_is in
    let first : ◌≡◌ {A = Refusal} (record { rule = a.rule; span = a.span; words = a.words }) (record { rule = b.rule; span = a.span; words = a.words })
    = ap (λ r. record { rule = r; span = a.span; words = a.words }) (is.rule_is ∙ sym so.rule_is) in
    let second : ◌≡◌ {A = Refusal} (record { rule = b.rule; span = a.span; words = a.words }) (record { rule = b.rule; span = b.span; words = a.words })
    = ap (λ s. record { rule = b.rule; span = s; words = a.words }) span in
    first ∙ second ∙ ap (λ w. record { rule = b.rule; span = b.span; words = w }) (is.words_are ∙ sym so.words_are)

-- ---- what is read next

abbrev len_of : Piece → ℕ
len_of (piece.Skip n) = n
len_of (piece.Token kind n) = n
len_of (piece.Refused rule before n) = n

same_taken : (file since : ℕ) (between : List ℕ) (at : ℕ) (text : List ℕ) (n m : ℕ) (g h : Gap) (kind other : Tok) (a b : Lexeme) → piece.Token kind n ≡ piece.Token other m
    → IsGap since between g → IsGap since between h → IsLexeme file at (at + bytes (take n text)) g kind a → IsLexeme file at (at + bytes (take m text)) h other b
    → Found.Taken a (at + bytes (take n text)) (drop n text) ≡ Found.Taken b (at + bytes (take m text)) (drop m text)
same_taken file since between at text n m g h kind other a b e is so x y =
    let len : n ≡ m = ap len_of e in
    let kinds : kind ≡ other = cc in
    let gaps = same_gap since between g h is so in
    let there : IsLexeme file at (at + bytes (take n text)) g kind b = rw (len, kinds, gaps) y in
    let lexemes = same_lexeme file at (at + bytes (take n text)) g kind a b x there in
    rw (len, lexemes) refl

same_failed : (file at : ℕ) (text : List ℕ) (before n ahead m : ℕ) (rule other : Rule) (a b : Refusal) → piece.Refused rule before n ≡ piece.Refused other ahead m
    → IsRefusal file (at + bytes (take before text)) (at + bytes (take before text) + bytes (take n (drop before text))) rule a
    → IsRefusal file (at + bytes (take ahead text)) (at + bytes (take ahead text) + bytes (take m (drop ahead text))) other b → Found.Failed a ≡ Found.Failed b
same_failed file at text before n ahead m rule other a b e x y =
    let len : n ≡ m = ap len_of e in
    let rules : rule ≡ other = cc in
    let place : before ≡ ahead = cc in
    let there : IsRefusal file (at + bytes (take before text)) (at + bytes (take before text) + bytes (take n (drop before text))) rule b = rw (len, rules, place) y in
    ap Found.Failed (same_refusal file (at + bytes (take before text)) (at + bytes (take before text) + bytes (take n (drop before text))) rule a b x there)

one_next : (file : ℕ) {since : ℕ} {between : List ℕ} {at : ℕ} {text : List ℕ} {f g : Found} → Next file since between at text f → Next file since between at text g → f ≡ g
one_next file (ends {since} {between} {at} {gap} {lexeme} is x) (ends {gap = other} {lexeme = b} so y) =
    let there : IsLexeme file at at gap tok.Eof b = rw (same_gap since between gap other is so) y in
    ap Found.Ended (same_lexeme file at at gap tok.Eof lexeme b x there)
one_next file (passes {since} {between} {at} {c} {cs} {n} e f) (passes {n = m} {found = other} so g) =
    let len : n ≡ m = ap len_of (one_piece (c ∷ cs) (piece.Skip n) (piece.Skip m) e so) in
    let there : Next file since (between ++ take n (c ∷ cs)) (at + bytes (take n (c ∷ cs))) (drop n (c ∷ cs)) other = rw len g in
    one_next file f there
one_next file (passes {c} {cs} {n} e f) (takes {n = m} {kind} so h y) = let no = one_piece (c ∷ cs) (piece.Skip n) (piece.Token kind m) e so in absurd cc
one_next file (passes {c} {cs} {n} e f) (fails {rule} {before} {n = m} so y) = let no = one_piece (c ∷ cs) (piece.Skip n) (piece.Refused rule before m) e so in absurd cc
one_next file (takes {c} {cs} {n = m} {kind} e h y) (passes {n} so f) = let no = one_piece (c ∷ cs) (piece.Token kind m) (piece.Skip n) e so in absurd cc
one_next file (takes {since} {between} {at} {c} {cs} {n} {gap} {kind} {lexeme} e is x) (takes {n = m} {gap = h} {kind = other} {lexeme = b} so it y) =
    same_taken file since between at (c ∷ cs) n m gap h kind other lexeme b (one_piece (c ∷ cs) (piece.Token kind n) (piece.Token other m) e so) is it x y
one_next file (takes {c} {cs} {n} {kind} e is x) (fails {rule} {before} {n = m} so y) = let no = one_piece (c ∷ cs) (piece.Token kind n) (piece.Refused rule before m) e so in absurd cc
one_next file (fails {c} {cs} {rule} {before} {n} e x) (passes {n = m} so f) = let no = one_piece (c ∷ cs) (piece.Refused rule before n) (piece.Skip m) e so in absurd cc
one_next file (fails {c} {cs} {rule} {before} {n} e x) (takes {n = m} {kind} so is y) = let no = one_piece (c ∷ cs) (piece.Refused rule before n) (piece.Token kind m) e so in absurd cc
one_next file (fails {at} {c} {cs} {rule} {before} {n} {refusal} e x) (fails {rule = other} {before = ahead} {n = m} {refusal = b} so y) =
    same_failed file at (c ∷ cs) before n ahead m rule other refusal b (one_piece (c ∷ cs) (piece.Refused rule before n) (piece.Refused other ahead m) e so) x y

-- ---- the whole text

one_text : (file : ℕ) {at : ℕ} {text : List ℕ} {xs ys : List Lexeme} → Lexes file at text xs → Lexes file at text ys → xs ≡ ys
one_text file (last {lexeme} a) (last {lexeme = b} c) = let e : Found.Ended lexeme ≡ Found.Ended b = one_next file a c in cc
one_text file (last {lexeme} a) (more {lexeme = b} {end} {rest} c l) = let e : Found.Ended lexeme ≡ Found.Taken b end rest = one_next file a c in absurd cc
one_text file (more {lexeme = b} {end} {rest} c l) (last {lexeme} a) = let e : Found.Taken b end rest ≡ Found.Ended lexeme = one_next file c a in absurd cc
one_text file (more {lexeme} {end} {rest} {lexemes} a l) (more {lexeme = b} {end = stop} {rest = left} {lexemes = others} c m) =
    let e : Found.Taken lexeme end rest ≡ Found.Taken b stop left = one_next file a c in
    let x : lexeme ≡ b = cc in
    let y : end ≡ stop = cc in
    let z : rest ≡ left = cc in
    let there : Lexes file end rest others = rw (y, z) m in
    rw x (ap (λ t. b ∷ t) (one_text file l there))

pub one_answer : (file : ℕ) (text : List ℕ) (tokens others : List Token) → HasTokens file text tokens → HasTokens file text others → others ≡ tokens
one_answer file text tokens others h k = one_list h.lexemes others tokens (rw (one_text file h.lexes k.lexes) k.filled) h.filled

not_both : (file : ℕ) {at : ℕ} {text : List ℕ} {xs : List Lexeme} {refusal : Refusal} → Lexes file at text xs → Refuses file at text refusal → ⊥
not_both file (last {lexeme} a) (first {refusal} b) = let e : Found.Ended lexeme ≡ Found.Failed refusal = one_next file a b in cc
not_both file (last {lexeme} a) (later {lexeme = b} {end} {rest} c l) = let e : Found.Ended lexeme ≡ Found.Taken b end rest = one_next file a c in cc
not_both file (more {lexeme = b} {end} {rest} c l) (first {refusal} a) = let e : Found.Taken b end rest ≡ Found.Failed refusal = one_next file c a in cc
not_both file (more {lexeme} {end} {rest} a l) (later {lexeme = b} {end = stop} {rest = left} {refusal} c r) =
    let e : Found.Taken lexeme end rest ≡ Found.Taken b stop left = one_next file a c in
    let y : end ≡ stop = cc in
    let z : rest ≡ left = cc in
    let there : Refuses file end rest refusal = rw (y, z) r in
    not_both file l there

refusal_alone : (file : ℕ) {at : ℕ} {text : List ℕ} {a b : Refusal} → Refuses file at text a → Refuses file at text b → a ≡ b
refusal_alone file (first {refusal = a} f) (first {refusal = b} g) = let e : Found.Failed a ≡ Found.Failed b = one_next file f g in cc
refusal_alone file (first {refusal = a} f) (later {lexeme} {end} {rest} g r) = let e : Found.Failed a ≡ Found.Taken lexeme end rest = one_next file f g in absurd cc
refusal_alone file (later {lexeme} {end} {rest} g r) (first {refusal = a} f) = let e : Found.Taken lexeme end rest ≡ Found.Failed a = one_next file g f in absurd cc
refusal_alone file (later {lexeme} {end} {rest} f r) (later {lexeme = b} {end = stop} {rest = left} {refusal} g s) =
    let e : Found.Taken lexeme end rest ≡ Found.Taken b stop left = one_next file f g in
    let y : end ≡ stop = cc in
    let z : rest ≡ left = cc in
    let there : Refuses file end rest refusal = rw (y, z) s in
    refusal_alone file r there

pub one_refusal : (file : ℕ) (text : List ℕ) (refusal other : Refusal) → Refuses file 0 text refusal → Refuses file 0 text other → other ≡ refusal
one_refusal file text refusal other h k = refusal_alone file k h

pub no_tokens : (file : ℕ) (text : List ℕ) (tokens : List Token) (refusal : Refusal) → HasTokens file text tokens → Refuses file 0 text refusal → ⊥
no_tokens file text tokens refusal h k = not_both file h.lexes k
