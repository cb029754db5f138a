use Rattle.std.proofs.Common.{rules}
use Rattle.scw_classfile.specs.Descriptor.{is_field}
use Rattle.scw_classfile.proofs.DescriptorGrammarLemmas.{is_field-grammar}
use Rattle.scw_classfile.proofs.descriptor.is_field.Goals as goal

pub returns-in-Some-empty-clause-grammar : goal.returns-in-Some-empty-clause-grammar
unfolding is_field
returns-in-Some-empty-clause-grammar c = is_field-grammar _ c.args.units.now (search rules)

pub returns-in-Some-len1-up-clause-grammar : goal.returns-in-Some-len1-up-clause-grammar
unfolding is_field
returns-in-Some-len1-up-clause-grammar c = is_field-grammar _ c.args.units.now (search rules)

pub returns-in-Some-len1-up-2-clause-grammar : goal.returns-in-Some-len1-up-2-clause-grammar
unfolding is_field
returns-in-Some-len1-up-2-clause-grammar c = is_field-grammar _ c.args.units.now (search rules)
