-- The methods of `java/lang/Object`, but for `equals`.
use Rattle.std.specs.Prelude.{ℕ, ◌+◌, ◌%◌, ◌^◌, cond, List, [], ◌∷◌, map, Option, Some, None, Result, Ok, slice_get, ◌==◌, codes}
use Rattle.std.specs.Int.{w32, w64, cast_signed}
use Rattle.scw_heap.specs.declared.kind.Kind.{Kind}
use Rattle.scw_heap.specs.declared.kind.Kind.TheVariants as made
use Rattle.scw_value.specs.Text.{number_text}
use Rattle.scw_step.specs.declared.object.Shape.{Shape}
use Rattle.scw_frame.specs.declared.operation.Primitive.{Primitive}
use Rattle.scw_frame.specs.declared.operation.Primitive.TheVariants as primitive
use Rattle.scw_frame.specs.declared.program.Base.{Base}
use Rattle.scw_frame.specs.declared.program.Base.TheVariants as base
use Rattle.scw_frame.specs.declared.program.Program.{Program}
use Rattle.scw_step.specs.declared.state.State.{State}
use Rattle.scw_step.specs.declared.stop.Stop.{Stop}
use Rattle.scw_step.specs.BoxStep.{first_word}
use Rattle.scw_step.specs.StateStep.{and_next, or_undefined, reference_taken, shape_at}
use Rattle.scw_step.specs.StringStep.{giving_made}
use Rattle.scw_step.specs.TextStep.{array_letter, array_name, dotted, making_text}

-- <init>
abbrev pub starting_object : State → Result State Stop
starting_object s = and_next (reference_taken s) (λ r. and_next (shape_at r.0 r.1.heap) (λ x. Ok r.1))

-- ---- toString

-- the primitive type whose boxes are instances of the class
abbrev pub box_of : ℕ → Option Primitive
box_of c = cond (c == 2) (Some primitive.Int) (cond (c == 3) (Some primitive.Long) (cond (c == 4) (Some primitive.Char) (cond (c == 5) (Some primitive.Boolean) None)))

-- the text of a box with the word
abbrev pub box_text : Primitive → ℕ → List ℕ
box_text primitive.Boolean w = cond (w == 0) (codes "false") (codes "true")
box_text primitive.Char w = w % 2 ^ 16 ∷ []
box_text primitive.Int w = number_text (cast_signed w32 (w % 2 ^ 32))
box_text primitive.Long w = number_text (cast_signed w64 w)

unfoldable pub making_box_text : Primitive → ℕ → State → Result (ℕ × State) Stop
making_box_text p w s = making_text (box_text p w) s

-- the name of the class; that of the value of Unit is `()`
unfoldable pub making_class_text : Program → ℕ → State → Result (ℕ × State) Stop
making_class_text p c s =
    cond (c == 6) (making_text (codes "()") s)
    (and_next (or_undefined (slice_get p.classes c)) (λ class. making_text (map dotted class.name) s))

abbrev pub boxed_text : Option Primitive → Program → ℕ → ℕ → Shape → State → Result (ℕ × State) Stop
boxed_text None p c r x s = making_class_text p c s
boxed_text (Some q) p c r x s = and_next (first_word r x s.heap) (λ w. making_box_text q w s)

unfoldable pub making_instance_text : Program → ℕ → ℕ → Shape → State → Result (ℕ × State) Stop
making_instance_text p c r x s = boxed_text (box_of c) p c r x s

-- the character of a primitive type in descriptors (JVMS 4.3.2)
abbrev pub letter_of : Primitive → ℕ
letter_of primitive.Boolean = 0x5a
letter_of primitive.Char = 0x43
letter_of primitive.Int = 0x49
letter_of primitive.Long = 0x4a

-- the descriptor of an array of so many dimensions
unfoldable pub making_base_text : Program → ℕ → Base → State → Result (ℕ × State) Stop
making_base_text p d (base.Class c) s = and_next (or_undefined (slice_get p.classes c.0)) (λ class. making_text (array_name d class.name) s)
making_base_text p d (base.Primitive q) s = making_text (array_letter d (letter_of q)) s
making_base_text p d (base.Other c) s = making_text (array_letter d c) s

unfoldable pub making_array_text : Program → ℕ → State → Result (ℕ × State) Stop
making_array_text p t s = and_next (or_undefined (slice_get p.types t)) (λ t. making_base_text p (t.dimensions + 1) t.base s)

-- a string is its own text
unfoldable pub making_text_by : Program → Kind → ℕ → Shape → State → Result (ℕ × State) Stop
making_text_by p (made.Object c) r x s = making_instance_text p c r x s
making_text_by p made.Text r x s = Ok (r, s)
making_text_by p made.Booleans r x s = making_base_text p 1 (base.Primitive primitive.Boolean) s
making_text_by p made.Chars r x s = making_base_text p 1 (base.Primitive primitive.Char) s
making_text_by p made.Ints r x s = making_base_text p 1 (base.Primitive primitive.Int) s
making_text_by p made.Longs r x s = making_base_text p 1 (base.Primitive primitive.Long) s
making_text_by p (made.Refs t) r x s = making_array_text p t s

unfoldable pub making_text_of : Program → ℕ → State → Result (ℕ × State) Stop
making_text_of p r s = and_next (shape_at r s.heap) (λ x. making_text_by p x.kind r x s)

abbrev pub giving_text : Program → State → Result State Stop
giving_text p s = and_next (reference_taken s) (λ r. giving_made (making_text_of p r.0) r.1)
