-- The machine's own classes, by their table.
use Rattle.std.specs.Prelude.{ℕ, List, [], Option, slice_get, position}
use Rattle.std.specs.Option.{option_map_or}
use Rattle.scw_link.specs.declared.built_in_class.TheConstants.{CLASSES}
use Rattle.scw_link.specs.Names.{same}
use Rattle.scw_link.specs.ClassNames.{text_of}

-- the number of the machine's own class of this name
unfoldable pub built_in_number : List ℕ → Option ℕ
built_in_number name = position (λ c. same name (text_of c.name)) CLASSES

-- how many fields this class of the machine's own adds to those of its parent
unfoldable pub built_in_fields : ℕ → ℕ
built_in_fields c = option_map_or (λ k. k.fields) (slice_get CLASSES c) 0

-- the name of this class of the machine's own
unfoldable pub built_in_name : ℕ → List ℕ
built_in_name c = option_map_or (λ k. text_of k.name) (slice_get CLASSES c) []
