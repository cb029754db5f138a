-- How the frames are left until one catches.
use Rattle.std.proofs.Common.{◌≡◌, ℕ, List, [], ◌∷◌, Option, Some, None, ap, refl, subst}
use Rattle.scw_frame.specs.declared.program.Program.{Program}
use Rattle.scw_frame.specs.Frame.{Frame, Calls}
use Rattle.scw_step.specs.CallStep.{left}
use Rattle.scw_step.specs.UnwindStep.{handler, unwound, by_handler}

-- the frame catches
pub unwound-caught : (p : Program) (class : ℕ) (f : Frame) (fs : List Frame) (at : ℕ) → handler p class f ≡ Some at → unwound p class f fs ≡ (Some at, (f, fs))
unfolding unwound
unwound-caught p class f [] at e = ap (λ h. by_handler h f [] (λ none. (None, (f, [])))) e
unwound-caught p class f (g ∷ more) at e = ap (λ h. by_handler h f (g ∷ more) (λ all. unwound p class g more)) e

-- it doesn't, and has a caller
pub unwound-passed : (p : Program) (class : ℕ) (f g : Frame) (more : List Frame) → handler p class f ≡ None → unwound p class f (g ∷ more) ≡ unwound p class g more
unfolding unwound
unwound-passed p class f g more e = ap (λ h. by_handler h f (g ∷ more) (λ all. unwound p class g more)) e

-- or none
pub unwound-first : (p : Program) (class : ℕ) (f : Frame) → handler p class f ≡ None → unwound p class f [] ≡ (None, (f, []))
unfolding unwound
unwound-first p class f e = ap (λ h. by_handler h f [] (λ none. (None, (f, [])))) e

-- the caller acts
pub record Left (old new : Calls) : Type 0 where
  pub callers : old.callers ≡ new.current ∷ new.callers
  pub frames : old.most_frames ≡ new.most_frames
  pub words : old.most_words ≡ new.most_words

abbrev next : Frame → List Frame → Calls → Calls
next f fs c = record c { current = f; callers = fs }

or_else : Calls → Option Calls → Calls
or_else d None = d
or_else d (Some c) = c

pub Left-from : (fs : List Frame) (old new : Calls) → old.callers ≡ fs → left old ≡ Some new → Left old new
unfolding left or_else
Left-from [] old new e h =
    let none : Option Calls = None in
    let no : none ≡ Some new = rw e at h in
    absurd (cc)
Left-from (f ∷ fs) old new e h =
    let is : Some (next f fs old) ≡ Some new = rw e at h in
    let same : next f fs old ≡ new = ap (or_else old) is in
    subst (λ (c : Calls). Left old c) same (record { callers = e; frames = refl; words = refl })

pub none-left : (fs : List Frame) (old : Calls) → old.callers ≡ fs → left old ≡ None → fs ≡ []
unfolding left
none-left [] old e h = refl
none-left (f ∷ fs) old e h =
    let no : Some (next f fs old) ≡ None = rw e at h in
    absurd (cc)
