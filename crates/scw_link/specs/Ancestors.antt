-- Which classes extend or implement which: JVMS 4.10.1.2, and 6.5, `instanceof`.
use Rattle.std.specs.Prelude.{ℕ, zero, suc, Bool, ◌||◌, List, [], map, ◌++◌, length, filter_map, slice_index_or, ◌==◌}
use Rattle.std.specs.List.{list_any, range_with_len}
use Rattle.std.specs.Option.{option_to_list}
use Rattle.scw_classfile.specs.declared.class_file.ClassFile.{ClassFile}
use Rattle.scw_link.specs.declared.built_in_class.TheConstants.{CLASSES}
use Rattle.scw_link.specs.Classes.{named_class}

-- the direct superclass and the direct superinterfaces of a file's class, those that are found
abbrev pub supers_in : List ClassFile → ClassFile → List ℕ
supers_in files c = option_to_list (named_class files c c.parent) ++ filter_map (named_class files c) c.interfaces

-- those of each class
unfoldable pub supers_of : List ClassFile → List (List ℕ)
supers_of files = map (λ c. option_to_list c.parent) CLASSES ++ map (supers_in files) files

-- the first class is the second, or extends or implements it by a line of at most so many steps
abbrev pub reaches : List (List ℕ) → ℕ → ℕ → ℕ → Bool
reaches supers zero c d = c == d
reaches supers (suc n) c d = c == d || list_any (λ s. reaches supers n s d) (slice_index_or supers c [])

-- for each class of as many whether the class reaches it
abbrev pub reached : List (List ℕ) → ℕ → ℕ → List Bool
reached supers n c = map (reaches supers n c) (range_with_len 0 (length supers))

-- what each class reaches
abbrev pub all_reached : List (List ℕ) → ℕ → List (List Bool)
all_reached supers n = map (reached supers n) (range_with_len 0 (length supers))

-- for each class all classes that it is, extends or implements; a line has no more steps than there are classes
abbrev pub ancestors_of : List (List ℕ) → List (List Bool)
ancestors_of supers = all_reached supers (length supers)
