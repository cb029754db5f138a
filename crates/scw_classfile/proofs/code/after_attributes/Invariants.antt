use Rattle.std.proofs.Common.{◌≡◌, ◌-◌}
use Rattle.scw_classfile.specs.Code.{after_attributes}
use Rattle.scw_classfile.proofs.code.after_attributes.Given as goal

abbrev pub invariant-loop : goal.invariant-loop
invariant-loop l = after_attributes (l.count - l.counter) l.rest ≡ after_attributes l.count l.bytes
