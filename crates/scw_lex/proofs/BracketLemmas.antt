-- The brackets that marks leave open are a stack, and its top is the innermost of the definition.
use Rattle.std.proofs.Common.{◌≡◌, Bool, true, false, cond, List, [], ◌∷◌, ◌++◌, Option, Some, None, refl, sym, ap, subst, ◌∙◌, append_assoc, append-nil, inl, inr, rules}
use Rattle.std.proofs.lemmas.Bool.{cases_Bool}
use denote.Enum.Bare.{same_true, same_false, true_same}
use Rattle.scw_lex.specs.contracts.bracket.Bracket as bracket_type
use Rattle.scw_lex.specs.declared.bracket.Bracket.{Bracket}
use Rattle.scw_lex.specs.declared.bracket.Mark.{Mark}
use Rattle.scw_lex.specs.declared.bracket.Mark.TheVariants as mark
use Rattle.scw_lex.specs.Newline.{IsIdle, Balanced, nothing, idle, pair, Innermost, none, some}
use Rattle.scw_lex.specs.Filter.{same_bracket, innermost, after_close, after_mark, after_marks}

same_bracket_is : (b c : Bracket) → same_bracket b c ≡ true → b ≡ c
same_bracket_is b c h = same_true bracket_type.the_type (search rules) b c h

-- ---- what the stack says is so

-- balanced marks behind balanced marks are balanced
pub balanced-append : {b : Option Bracket} {xs ys : List Mark} → Balanced b xs → Balanced b ys → Balanced b (xs ++ ys)
balanced-append nothing h = h
balanced-append (idle i r) h = idle i (balanced-append r h)
balanced-append (pair inner r) h = rw append_assoc (pair inner (balanced-append r h))

-- the marks leave these brackets open, the innermost first
data Leaves : List Bracket → List Mark → Type 0 where
  outside : {ms : List Mark} → Balanced None ms → Leaves [] ms
  within : {b : Bracket} {bs : List Bracket} {inside : List Mark} (before : List Mark) → Leaves bs before → Balanced (Some b) inside
      → Leaves (b ∷ bs) (before ++ mark.Opens b ∷ inside)

leaves-append : {bs : List Bracket} {ms xs : List Mark} → Leaves bs ms → Balanced (innermost bs) xs → Leaves bs (ms ++ xs)
leaves-append (outside r) h = outside (balanced-append r h)
leaves-append (within before o r) h = rw append_assoc (within before o (balanced-append r h))

-- the innermost closes
leaves-closed : {b : Bracket} {bs : List Bracket} {ms : List Mark} → Leaves (b ∷ bs) ms → Leaves bs (ms ++ mark.Closes b ∷ [])
leaves-closed (within before o r) = rw append_assoc (leaves-append o (pair r nothing))

leaves-close : (b c : Bracket) (bs : List Bracket) (ms : List Mark) (same : Bool) → same_bracket b c ≡ same → Leaves (b ∷ bs) ms
    → Leaves (cond same bs (b ∷ bs)) (ms ++ mark.Closes c ∷ [])
leaves-close b c bs ms true e o =
    let is : b ≡ c = same_bracket_is b c e in
    subst (λ d. Leaves bs (ms ++ mark.Closes d ∷ [])) is (leaves-closed o)
leaves-close b c bs ms false e o = leaves-append o (idle (λ is. same_false bracket_type.the_type b c e (let f : Some b ≡ Some c = is in cc)) nothing)

leaves-mark : (bs : List Bracket) (ms : List Mark) (m : Mark) → Leaves bs ms → Leaves (after_mark bs m) (ms ++ m ∷ [])
leaves-mark bs ms (mark.Opens c) o = within ms o nothing
leaves-mark bs ms mark.Neither o = leaves-append o (idle tt nothing)
leaves-mark [] ms (mark.Closes c) o = leaves-append o (idle (λ e. let f : ◌≡◌ {A = Option Bracket} None (Some c) = e in cc) nothing)
leaves-mark (b ∷ bs) ms (mark.Closes c) o = leaves-close b c bs ms (same_bracket b c) refl o

leaves-marks : (bs : List Bracket) (done ms : List Mark) → Leaves bs done → Leaves (after_marks bs ms) (done ++ ms)
leaves-marks bs done [] o = rw append-nil o
leaves-marks bs done (m ∷ ms) o =
    let later = leaves-marks (after_mark bs m) (done ++ m ∷ []) ms (leaves-mark bs done m o) in
    rw append_assoc at later

innermost_left : {bs : List Bracket} {ms : List Mark} → Leaves bs ms → Innermost ms (innermost bs)
innermost_left (outside r) = none r
innermost_left (within before o r) = some before r

-- the top of the stack is innermost
pub innermost_found : (ms : List Mark) → Innermost ms (innermost (after_marks [] ms))
innermost_found ms = innermost_left (leaves-marks [] [] ms (outside nothing))

-- ---- what is so the stack says

after_mark-idle : (bs : List Bracket) (m : Mark) → IsIdle (innermost bs) m → after_mark bs m ≡ bs
after_mark-idle bs (mark.Opens c) i = absurd i
after_mark-idle bs mark.Neither i = refl
after_mark-idle [] (mark.Closes c) i = refl
after_mark-idle (b ∷ bs) (mark.Closes c) i = elim (cases_Bool (same_bracket b c)) [
  | inl e ↦ absurd (i (ap Some (same_bracket_is b c e)))
  | inr e ↦ rw e refl
]

pub after_marks-append : (bs : List Bracket) (xs ys : List Mark) → after_marks bs (xs ++ ys) ≡ after_marks (after_marks bs xs) ys
after_marks-append bs [] ys = refl
after_marks-append bs (x ∷ xs) ys = after_marks-append (after_mark bs x) xs ys

after_close-same : (bs : List Bracket) (c : Bracket) → after_close (c ∷ bs) c ≡ bs
after_close-same bs c = rw (true_same bracket_type.the_type c c refl) refl

after_marks-balanced : {b : Option Bracket} {ms : List Mark} (bs : List Bracket) → innermost bs ≡ b → Balanced b ms → after_marks bs ms ≡ bs
after_marks-balanced bs e nothing = refl
after_marks-balanced bs e (idle {m} {ms} i r) =
    let same : after_mark bs m ≡ bs = after_mark-idle bs m (subst (λ b. IsIdle b m) (sym e) i) in
    ap (λ cs. after_marks cs ms) same ∙ after_marks-balanced bs e r
after_marks-balanced bs e (pair {c} {inside} {ms} inner r) =
    let first : after_marks (c ∷ bs) inside ≡ c ∷ bs = after_marks-balanced (c ∷ bs) refl inner in
    after_marks-append (c ∷ bs) inside (mark.Closes c ∷ ms)
    ∙ ap (λ cs. after_marks cs (mark.Closes c ∷ ms)) first
    ∙ ap (λ cs. after_marks cs ms) (after_close-same bs c)
    ∙ after_marks-balanced bs e r

-- the innermost is the top of the stack
pub innermost_is : {b : Option Bracket} {ms : List Mark} → Innermost ms b → innermost (after_marks [] ms) ≡ b
innermost_is (none r) = ap innermost (after_marks-balanced [] refl r)
innermost_is (some {c} {inside} before r) =
    ap innermost (after_marks-append [] before (mark.Opens c ∷ inside) ∙ after_marks-balanced (c ∷ after_marks [] before) refl r)

-- no two brackets are innermost behind the same marks
pub innermost_alone : {b c : Option Bracket} {ms : List Mark} → Innermost ms b → Innermost ms c → b ≡ c
innermost_alone h k = sym (innermost_is h) ∙ innermost_is k
