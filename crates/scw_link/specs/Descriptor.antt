-- The kinds of values that descriptors say: JVMS 4.3.2 and 4.3.3.
use Rattle.std.specs.Prelude.{ℕ, Bool, false, ◌||◌, List, [], ◌∷◌, ◌++◌, drop, Option, Some, None, ◌==◌, if◌then◌else◌}
use Rattle.scw_frame.specs.declared.value.ValueKind.{ValueKind}
use Rattle.scw_frame.specs.declared.value.ValueKind.TheVariants as kind
use Rattle.scw_link.specs.declared.descriptor.Part.{Part}
use Rattle.scw_link.specs.declared.descriptor.Part.TheVariants as part
use Rattle.scw_link.specs.declared.descriptor.TheConstants.{ARRAY, CLASS, CLOSE, DOUBLE, FLOAT, LONG, NAME_END}

-- the kind of the values of a type that begins with this character; a float is taken as its bits
abbrev pub value_kind : ℕ → ValueKind
value_kind c =
    if c == LONG || c == DOUBLE then kind.Long
    else if c == CLASS || c == ARRAY then kind.Reference
    else kind.Int

-- the kind of the values of a type
abbrev pub kind_of : List ℕ → ValueKind
kind_of [] = kind.Int
kind_of (c ∷ cs) = value_kind c

-- the kind of a field that instructions may read and write, which is no float
abbrev pub field_kind : List ℕ → Option ValueKind
field_kind [] = None
field_kind (c ∷ cs) = if c == FLOAT || c == DOUBLE then None else Some (value_kind c)

-- where the unit after the first one of a type stands
abbrev pub after_first : ℕ → Part
after_first c = if c == ARRAY then part.Component else if c == CLASS then part.Name else part.Start

-- where the unit after this one stands
abbrev pub after_unit : Part → ℕ → Part
after_unit part.Start c = after_first c
after_unit part.Component c = after_first c
after_unit part.Name c = if c == NAME_END then part.Start else part.Name

abbrev pub ends : Part → ℕ → Bool
ends part.Start c = c == CLOSE
ends part.Component c = false
ends part.Name c = false

-- the kind of the parameter that begins with this unit
abbrev pub begins : Part → ℕ → List ValueKind
begins part.Start c = value_kind c ∷ []
begins part.Component c = []
begins part.Name c = []

-- the kinds of the parameters that begin in the units, the first of which stands so
abbrev pub kinds_from : Part → List ℕ → List ValueKind
kinds_from p [] = []
kinds_from p (c ∷ cs) = if ends p c then [] else begins p c ++ kinds_from (after_unit p c) cs

-- the kinds of the parameters of a method, behind its `(`
abbrev pub parameter_kinds : List ℕ → List ValueKind
parameter_kinds d = kinds_from part.Start (drop 1 d)
