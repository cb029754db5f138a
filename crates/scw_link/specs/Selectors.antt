-- The names and descriptors that virtual calls select by: JVMS 6.5, `invokevirtual` and `invokeinterface`.
use Rattle.std.specs.Prelude.{List, [], ◌∷◌, ◌++◌, map, fold, filter_map, Option, Some, codes, is_some, if◌then◌else◌}
use Rattle.std.specs.List.{flat_map}
use Rattle.std.specs.Option.{option_map}
use Rattle.scw_classfile.specs.declared.class_file.ClassFile.{ClassFile}
use Rattle.scw_classfile.specs.declared.pool_entry.PoolEntry.{PoolEntry}
use Rattle.scw_frame.specs.declared.value.ValueKind.{ValueKind}
use Rattle.scw_frame.specs.declared.value.ValueKind.TheVariants as kind
use Rattle.scw_link.specs.Descriptor.{parameter_kinds}
use Rattle.scw_link.specs.Names.{Named, method_ref}
use Rattle.scw_link.specs.Resolve.{selector_number}
use Rattle.scw_link.specs.Site.{Selector}

-- the method that runs a program
abbrev pub main_selector : Selector
main_selector = record { name = codes "main"; descriptor = codes "([Ljava/lang/String;)V" }

abbrev pub selector_of : Named → Selector
selector_of n = record { name = n.name; descriptor = n.descriptor }

abbrev pub called_by : List PoolEntry → PoolEntry → Option Selector
called_by p e = option_map selector_of (method_ref p (Some e))

-- what the methods that a pool names are selected by, in order
abbrev pub called_in : List PoolEntry → List Selector
called_in p = filter_map (called_by p) p

-- a list with one more at its end, unless it is among them
abbrev pub with_selector : List Selector → Selector → List Selector
with_selector ss s = if is_some (selector_number ss s.name s.descriptor) then ss else ss ++ s ∷ []

-- a first selector, and those of the files in the order in which each occurs first
abbrev pub selectors_from : Selector → List ClassFile → List Selector
selectors_from s files = fold with_selector (s ∷ []) (flat_map (λ c. called_in c.pool) files)

-- the selector of the method that runs a program comes first
abbrev pub selectors_of : List ClassFile → List Selector
selectors_of files = selectors_from main_selector files

-- the kinds of the arguments of each selector: the object's, and those of the parameters
abbrev pub selector_kinds : List Selector → List (List ValueKind)
selector_kinds ss = map (λ s. kind.Reference ∷ parameter_kinds s.descriptor) ss
