-- How frames lie in memory: the operands of all frames in one list and their local variables in another, those of the
-- frame that acts last; and for each frame how many it has of both.
use Rattle.std.specs.Prelude.{◌≡◌, ℕ, ◌+◌, ◌-◌, ◌≤◌, Some, List, [], ◌∷◌, length, take, drop, reverse}
use Rattle.scw_frame.specs.declared.value.Value.{Value}
use Rattle.scw_frame.specs.declared.frames.Activation.{Activation}
use Rattle.scw_frame.specs.Frame.{Frame, Calls, places}

-- the frame, whose operands are the first of a list that has the top first, and whose local variables end another
abbrev pub frame_of : Activation → List Value → List Value → Frame
frame_of a operands locals = record {
  method = a.method;
  place = a.place;
  room = a.room;
  locals = drop (length locals - a.locals) locals;
  stack = take a.operands operands;
}

abbrev pub operands_below : Activation → List Value → List Value
operands_below a operands = drop a.operands operands

abbrev pub locals_below : Activation → List Value → List Value
locals_below a locals = take (length locals - a.locals) locals

abbrev pub frames_of : List Activation → List Value → List Value → List Frame
frames_of [] operands locals = []
frames_of (a ∷ more) operands locals =
    frame_of a operands locals ∷ frames_of more (operands_below a operands) (locals_below a locals)

-- all of it, with the limits
abbrev pub calls_of : Activation → List Activation → List Value → List Value → ℕ → ℕ → Calls
calls_of current callers operands locals most_frames most_words = record {
  current = frame_of current operands locals;
  callers = frames_of callers (operands_below current operands) (locals_below current locals);
  most_frames = Some most_frames;
  most_words = Some most_words;
}

-- the words that the frame takes
abbrev pub words_for : Activation → ℕ
words_for a = 1 + a.room + a.locals

abbrev pub words_for_all : List Activation → ℕ
words_for_all [] = 0
words_for_all (a ∷ more) = words_for a + words_for_all more

-- what holds of one frame
pub record Fits (a : Activation) (operands locals : List Value) : Type 0 where
  pub operands_there : a.operands ≤ length operands
  pub locals_there : a.locals ≤ length locals
  pub depth : places (take a.operands operands) ≡ a.depth
  pub within : a.depth ≤ a.room

-- and of all
abbrev pub AllFit : List Activation → List Value → List Value → Type 0
AllFit [] operands locals = (operands ≡ []) × (locals ≡ [])
AllFit (a ∷ more) operands locals =
    Fits a operands locals × AllFit more (operands_below a operands) (locals_below a locals)

-- what always holds of the memory of frames
pub record IsSound (current : Activation) (callers : List Activation) (operands locals : List Value) (in_use most_frames most_words room_operands room_locals room_callers : ℕ) : Type 0 where
  pub fit : AllFit (current ∷ reverse callers) (reverse operands) locals
  pub in_use_is : in_use ≡ words_for_all (current ∷ reverse callers)
  pub words_within : in_use ≤ most_words
  pub frames_within : length callers + 1 ≤ most_frames
  pub operands_reserved : most_words ≤ room_operands
  pub locals_reserved : most_words ≤ room_locals
  pub callers_reserved : most_frames ≤ room_callers + 1
