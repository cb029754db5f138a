use Rattle.std.proofs.Common.{arith}
use Rattle.std.proofs.lemmas.Grind.{common_steps}
use Rattle.scw_classfile.specs.Descriptor.{is_method}
use Rattle.scw_classfile.proofs.DescriptorGrammarLemmas.{is_method-grammar}
use Rattle.scw_classfile.proofs.descriptor.is_method.Goals as goal

pub returns-in-Some-clause-grammar : goal.returns-in-Some-clause-grammar
unfolding is_method
returns-in-Some-clause-grammar c = is_method-grammar _ c.args.units.now (grind (arith, common_steps))

pub returns-in-None-clause-grammar : goal.returns-in-None-clause-grammar
unfolding is_method
returns-in-None-clause-grammar c = is_method-grammar _ c.args.units.now (grind (arith, common_steps))
