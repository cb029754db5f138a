-- What a reader of a part answers: the definition's value or fault, unless memory runs out.
use Rattle.std.specs.Prelude.{◌≡◌, Result, Ok, Err}
use Rattle.scw_code.specs.declared.fault.CodeFault.{CodeFault}
use Rattle.scw_code.specs.declared.fault.ReadFault.{ReadFault}
use Rattle.scw_code.specs.declared.fault.ReadFault.TheVariants.{Broken, NoMemory}

-- the fault is the definition's, unless memory ran out
abbrev pub Fails : {Y : Type 0} → ReadFault → Result Y CodeFault → Type 0
Fails (Broken f) read = read ≡ Err f
Fails NoMemory read = Unit {0}

abbrev pub Gives : {X Y : Type 0} → (X → Y) → Result X ReadFault → Result Y CodeFault → Type 0
Gives view (Ok x) read = read ≡ Ok (view x)
Gives view (Err e) read = Fails e read
