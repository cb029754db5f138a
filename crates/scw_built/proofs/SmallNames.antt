-- Types and symbols of the typing, which its crate keeps to itself: here they are named by what its definitions take and give.
use Rattle.std.proofs.Common.{[], Option}
use Rattle.scw_text.specs.declared.number.SymId.{SymId}
use Rattle.scw_text.specs.declared.number.TypeId.{TypeId}
use Rattle.scw_small.specs.Rule.{arithmetic}
use Rattle.scw_small.specs.Step.{show_name}
use Rattle.scw_small.specs.Whole.{main_class, member, signature}

abbrev pub Taken : {A B : Type 0} → (A → B) → Type 0
Taken {A} {B} f = A

abbrev pub TakenSecond : {A B C : Type 0} → (A → B → C) → Type 0
TakenSecond {A} {B} {C} f = B

abbrev pub Returned : {A B C : Type 0} → (A → B → C) → Type 0
Returned {A} {B} {C} f = C

abbrev pub Held : {A B C : Type 0} → (A → B → Option C) → Type 0
Held {A} {B} {C} f = C

-- what can be called
abbrev pub Signature : Type 0
Signature = Returned signature

-- what a visible name stands for
abbrev pub Variable : Type 0
Variable = TakenSecond show_name

-- the operator of a node, and the type of its value
abbrev pub Rule : Type 0
Rule = Held arithmetic

-- what is known of a method before its body
abbrev pub Outline : Type 0
Outline = Taken member

-- the `this` of the object
abbrev pub this_symbol : SymId
this_symbol = (main_class []).this

-- the type of the parameter of `main`
abbrev pub strings_id : TypeId
strings_id = record { 0 = 5 }
