-- What follows of a state follows of the same state without limits.
use Rattle.std.proofs.Common.{ℕ, ◌+◌, Bool, true, false, cond, List, length, Option, Result, Ok, Err}
use Rattle.scw_heap.specs.declared.kind.Kind.{Kind}
use Rattle.scw_heap.specs.declared.kind.Kind.TheVariants.{Text}
use Rattle.scw_heap.specs.Heap.{used}
use Rattle.scw_frame.specs.declared.value.Value.{Value}
use Rattle.scw_frame.specs.declared.value.ValueKind.{ValueKind}
use Rattle.scw_frame.specs.Frame.{Calls}
use Rattle.scw_step.specs.declared.state.State.{State}
use Rattle.scw_step.specs.declared.stop.Stop.{Stop}
use Rattle.scw_step.specs.declared.stop.Stop.TheVariants.{Undefined, HeapFull, TooManyFrames}
use Rattle.scw_step.specs.StateStep.{and_next, or_undefined, framed, giving, int_taken, making, provided, reference_taken, taken_with, value_taken, with_frames, with_object}
use Rattle.scw_step.specs.TextStep.{beginning, making_text, with_text}
use Rattle.scw_step.specs.Unlimited.{unlimited, unlimited_frames}
use Rattle.scw_step.proofs.PlainLemmas.{IsFree, Plain, reads, fails, plain-option}
use Rattle.scw_step.proofs.FrameFollowLemmas.{Mirrors, none, some, beside_frames, taken_int-mirrors, taken_of-mirrors, taken_reference-mirrors, pushing-mirrors}

-- the result of a state without limits
pub data Free {A : Type 0} (g : A → A) : Result A Stop → Type 0 where
  goes : (x : A) → Free g (Ok (g x))
  ends : (e : Stop) → IsFree e → Free g (Err e)

-- two results, of a state and of the same state without limits: a limit may stop the first one alone
pub data Follows {A : Type 0} (g : A → A) : Result A Stop → Result A Stop → Type 0 where
  done : (x : A) → Follows g (Ok x) (Ok (g x))
  stops : (e : Stop) → IsFree e → Follows g (Err e) (Err e)
  full : (n : ℕ) (r : Result A Stop) → Free g r → Follows g (Err (HeapFull n)) r
  crowded : (r : Result A Stop) → Free g r → Follows g (Err TooManyFrames) r

pub free-of : {A : Type 0} {g : A → A} {r q : Result A Stop} → Follows g r q → Free g q
free-of (done x) = goes x
free-of (stops e h) = ends e h
free-of (full n q h) = h
free-of (crowded q h) = h

free-next : {A B : Type 0} {g : A → A} {h : B → B} (r : Result A Stop) (k : A → Result B Stop) → Free g r → ((x : A) → Free h (k (g x))) → Free h (and_next r k)
free-next r k (goes x) f = f x
free-next r k (ends e h) f = ends e h

pub follows-next : {A B : Type 0} {g : A → A} {h : B → B} (r r' : Result A Stop) (k k' : A → Result B Stop) → Follows g r r' → ((x : A) → Follows h (k x) (k' (g x))) → Follows h (and_next r k) (and_next r' k')
follows-next r r' k k' (done x) f = f x
follows-next r r' k k' (stops e h) f = stops e h
follows-next r r' k k' (full n q h) f = full n (and_next q k') (free-next q k' h (λ x. free-of (f x)))
follows-next r r' k k' (crowded q h) f = crowded (and_next q k') (free-next q k' h (λ x. free-of (f x)))

-- what no limit touches
pub follows-same : {A : Type 0} {r : Result A Stop} → Plain r → Follows (λ x. x) r r
follows-same (reads x) = done x
follows-same (fails e h) = stops e h

pub follows-option : {A : Type 0} (o : Option A) → Follows (λ x. x) (or_undefined o) (or_undefined o)
follows-option o = follows-same (plain-option o)

pub follows-provided : {A : Type 0} {g : A → A} (b : Bool) (e : Stop) (r r' : Result A Stop) → IsFree e → Follows g r r' → Follows g (provided b e r) (provided b e r')
follows-provided true e r r' h f = f
follows-provided false e r r' h f = stops e h

pub follows-cond : {A : Type 0} {g : A → A} (b : Bool) (r r' q q' : Result A Stop) → Follows g r r' → Follows g q q' → Follows g (cond b r q) (cond b r' q')
follows-cond true r r' q q' f h = f
follows-cond false r r' q q' f h = h

-- the limits
pub follows-full : {A : Type 0} {g : A → A} (b : Bool) (n : ℕ) (r r' : Result A Stop) → Follows g r r' → Follows g (provided b (HeapFull n) r) r'
follows-full true n r r' f = f
follows-full false n r r' f = full n r' (free-of f)

pub follows-crowded : {A : Type 0} {g : A → A} (b : Bool) (r r' : Result A Stop) → Follows g r r' → Follows g (provided b TooManyFrames r) r'
follows-crowded true r r' f = f
follows-crowded false r r' f = crowded r' (free-of f)

-- an answer, and the state without limits
abbrev pub beside : {A : Type 0} → A × State → A × State
beside x = (x.0, unlimited x.1)

-- ---- the frame that acts

pub framed-follows : (s : State) (o o' : Option Calls) → Mirrors unlimited_frames o o' → Follows unlimited (framed s o) (framed (unlimited s) o')
framed-follows s o o' none = stops Undefined tt
framed-follows s o o' (some c) = done (with_frames s c)

taken_with-follows : {A : Type 0} (s : State) (o o' : Option (A × Calls)) → Mirrors beside_frames o o' → Follows beside (taken_with s o) (taken_with (unlimited s) o')
taken_with-follows s o o' none = stops Undefined tt
taken_with-follows s o o' (some x) = done (x.0, with_frames s x.1)

pub int_taken-follows : (s : State) → Follows beside (int_taken s) (int_taken (unlimited s))
unfolding int_taken
int_taken-follows s = taken_with-follows s _ _ (taken_int-mirrors s.frames)

pub reference_taken-follows : (s : State) → Follows beside (reference_taken s) (reference_taken (unlimited s))
unfolding reference_taken
reference_taken-follows s = taken_with-follows s _ _ (taken_reference-mirrors s.frames)

pub value_taken-follows : (k : ValueKind) (s : State) → Follows beside (value_taken k s) (value_taken k (unlimited s))
unfolding value_taken
value_taken-follows k s = taken_with-follows s _ _ (taken_of-mirrors k s.frames)

pub giving-follows : (v : Value) (s : State) → Follows unlimited (giving v s) (giving v (unlimited s))
unfolding giving
giving-follows v s = framed-follows s _ _ (pushing-mirrors v s.frames)

-- ---- new objects

pub making-follows : (k : Kind) (n : ℕ) (s : State) → Follows beside (making k n s) (making k n (unlimited s))
unfolding making
making-follows k n s = follows-full _ _ _ _ (done (1 + used s.heap.objects, with_object k n s))

beginning-follows : (n : ℕ) (s : State) → Follows beside (beginning n s) (beginning n (unlimited s))
unfolding beginning
beginning-follows n s = follows-full _ _ _ _ (making-follows Text n s)

pub making_text-follows : (text : List ℕ) (s : State) → Follows beside (making_text text s) (making_text text (unlimited s))
unfolding making_text
making_text-follows text s = follows-next _ _ _ _ (beginning-follows (length text) s) (λ x. done (x.0, with_text text s))
