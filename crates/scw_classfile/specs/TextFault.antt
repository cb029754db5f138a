-- The fault of a text inside a file, from its place in the text.
use Rattle.std.specs.Prelude.{ℕ, ◌-◌}
use Rattle.scw_text.specs.declared.modified.ModifiedFault.{ModifiedFault}
use Rattle.scw_text.specs.declared.modified.ModifiedFault.TheVariants as modified_fault
use Rattle.scw_classfile.specs.declared.class_rule.ClassRule.TheVariants as class_rule
use Rattle.scw_classfile.specs.declared.fault.ReadFault.{ReadFault}
use Rattle.scw_classfile.specs.declared.fault.ReadFault.TheVariants.{Broken, NoMemory}

abbrev pub text_fault : ℕ → ModifiedFault → ReadFault
text_fault left (modified_fault.Bad place) = Broken (record { rule = class_rule.Utf8; left = left - place })
text_fault left modified_fault.NoMemory = NoMemory
