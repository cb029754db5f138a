-- What a function ensures that makes a part of a class: what a definition gives, unless memory ran out.
use Rattle.std.specs.Prelude.{◌≡◌, Option, Some, None, Result, Ok, Err}
use Rattle.scw_gen.specs.declared.failure.Failure.{Failure}
use Rattle.scw_gen.specs.declared.failure.Failure.TheVariants as failure

abbrev pub Fails : {Y : Type 0} → Failure → Option Y → Type 0
Fails failure.Other made = made ≡ None
Fails failure.NoMemory made = Unit {0}

-- what was returned, seen by view, is what the definition gives
abbrev pub Gives : {X Y : Type 0} → (X → Y) → Result X Failure → Option Y → Type 0
Gives view (Ok x) made = made ≡ Some (view x)
Gives view (Err e) made = Fails e made

infixl 10 ◌>>=◌
abbrev pub ◌>>=◌ : {A B : Type 0} → Option A → (A → Option B) → Option B
None >>= f = None
(Some x) >>= f = f x
