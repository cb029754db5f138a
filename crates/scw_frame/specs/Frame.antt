-- Frames: JVMS 2.6. Each has its local variables and its operand stack, of which a Long takes two places.
use Rattle.std.specs.Prelude.{◌≡◌, ℕ, ◌+◌, Bool, ◌&&◌, true, false, List, [], ◌∷◌, ◌++◌, Option, Some, None, length, take, drop, reverse, replicate, nat_le, ◌-◌}
use Rattle.scw_frame.specs.declared.value.Value.{Value}
use Rattle.scw_frame.specs.declared.value.Value.TheVariants.{Unset, Int, Long, Reference}
use Rattle.scw_frame.specs.declared.value.ValueKind.{ValueKind}
use Rattle.scw_frame.specs.declared.value.ValueKind.TheVariants as kind
use Rattle.scw_frame.specs.declared.program.MethodNumber.{MethodNumber}

pub record Frame : Type 0 where
  pub method : MethodNumber
  -- the place of the instruction that acts; that of its call in a frame that waits
  pub place : ℕ
  -- how many places the operand stack has
  pub room : ℕ
  pub locals : List Value
  -- the top first
  pub stack : List Value

-- the frame that acts, the frames that wait, the innermost first, and how many frames and words of frames there may be;
-- None sets no limit
pub record Calls : Type 0 where
  pub current : Frame
  pub callers : List Frame
  pub most_frames : Option ℕ
  pub most_words : Option ℕ

-- so many are within a limit, if there is one
abbrev pub within : Option ℕ → ℕ → Bool
within None n = true
within (Some most) n = nat_le n most

-- how many places a value takes
abbrev pub places_of : Value → ℕ
places_of Unset = 1
places_of (Int n) = 1
places_of (Long n) = 2
places_of (Reference r) = 1

abbrev pub places : List Value → ℕ
places [] = 0
places (v ∷ vs) = places_of v + places vs

-- the words of a frame: one, and those of its stack and its local variables
abbrev pub words_of : Frame → ℕ
words_of f = 1 + f.room + length f.locals

abbrev pub words_in : List Frame → ℕ
words_in [] = 0
words_in (f ∷ fs) = words_of f + words_in fs

abbrev pub words : Calls → ℕ
words c = words_of c.current + words_in c.callers

-- ---- what changes in the frame that acts

abbrev pub with_current : Frame → Calls → Calls
with_current f c = record c { current = f }

abbrev pub with_stack : List Value → Calls → Calls
with_stack vs c = record c { current = record c.current { stack = vs } }

abbrev pub pushed : Value → Calls → Calls
pushed v c = with_stack (v ∷ c.current.stack) c

-- the stack has room for one more value
abbrev pub has_room : Value → Calls → Bool
has_room v c = nat_le (places (v ∷ c.current.stack)) c.current.room

abbrev pub placed : ℕ → Calls → Calls
placed place c = record c { current = record c.current { place = place } }

abbrev pub with_locals : List Value → Calls → Calls
with_locals vs c = record c { current = record c.current { locals = vs } }

-- ---- calls and returns

abbrev pub is_of : ValueKind → Value → Bool
is_of kind.Int (Int n) = true
is_of kind.Int Unset = false
is_of kind.Int (Long n) = false
is_of kind.Int (Reference r) = false
is_of kind.Long (Long n) = true
is_of kind.Long Unset = false
is_of kind.Long (Int n) = false
is_of kind.Long (Reference r) = false
is_of kind.Reference (Reference r) = true
is_of kind.Reference Unset = false
is_of kind.Reference (Int n) = false
is_of kind.Reference (Long n) = false

-- the values are of these kinds, one each
abbrev pub are_of : List ValueKind → List Value → Bool
are_of [] [] = true
are_of [] (v ∷ vs) = false
are_of (k ∷ ks) [] = false
are_of (k ∷ ks) (v ∷ vs) = is_of k v && are_of ks vs

-- the local variables that a value fills: the second one of a Long holds nothing
abbrev pub spread_one : Value → List Value
spread_one Unset = Unset ∷ []
spread_one (Int n) = Int n ∷ []
spread_one (Long n) = Long n ∷ Unset ∷ []
spread_one (Reference r) = Reference r ∷ []

abbrev pub spread : List Value → List Value
spread [] = []
spread (v ∷ vs) = spread_one v ++ spread vs

-- so many local variables, the first of which the arguments fill
abbrev pub locals_of : ℕ → List Value → List Value
locals_of count arguments = spread arguments ++ replicate (count - length (spread arguments)) Unset

-- the arguments of a call, the first of which lies deepest on the stack
abbrev pub arguments : ℕ → Calls → List Value
arguments count c = reverse (take count c.current.stack)

-- there are arguments of these kinds
abbrev pub are_arguments : List ValueKind → Calls → Bool
are_arguments kinds c = nat_le (length kinds) (length c.current.stack) && are_of kinds (arguments (length kinds) c)

-- the limits leave room for one frame beside those there are, with so many places on its stack and local variables
abbrev pub can_enter : ℕ → ℕ → Calls → Bool
can_enter room locals c = within c.most_frames (length c.callers + 2) && within c.most_words (words c + 1 + room + locals)

abbrev pub frame_for : MethodNumber → ℕ → List Value → Frame
frame_for method room locals = record { method = method; place = 0; room = room; locals = locals; stack = [] }

-- the frame waits, without the arguments on its stack, and a new one acts
abbrev pub entered : MethodNumber → ℕ → ℕ → ℕ → Calls → Calls
entered method room locals count c = record c {
  current = frame_for method room (locals_of locals (arguments count c));
  callers = record c.current { stack = drop count c.current.stack } ∷ c.callers;
}

-- the caller acts again, if there is one
abbrev pub HasLeft : Bool → Calls → Calls → Type 0
HasLeft true old new = old ≡ record new { current = old.current; callers = new.current ∷ new.callers }
HasLeft false old new = (old.callers ≡ []) × (new ≡ old)
