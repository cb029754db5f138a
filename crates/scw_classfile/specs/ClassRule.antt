-- The numbers of the rules of class files, as messages show them.
use Rattle.std.specs.Prelude.{ℕ}
use Rattle.scw_classfile.specs.declared.class_rule.ClassRule.{ClassRule}
use Rattle.scw_classfile.specs.declared.class_rule.ClassRule.TheVariants.{Cut, Magic, Version, Tag, Index, Utf8, Descriptor, AttributeLength, Code, Trailing, Unsupported, TooLong, Missing, Twice, Stuck}

abbrev pub number_of : ClassRule → ℕ
number_of Cut = 1
number_of Magic = 2
number_of Version = 3
number_of Tag = 4
number_of Index = 5
number_of Utf8 = 6
number_of Descriptor = 7
number_of AttributeLength = 8
number_of Code = 9
number_of Trailing = 10
number_of Unsupported = 11
number_of TooLong = 12
number_of Missing = 13
number_of Twice = 14
number_of Stuck = 15
