use Rattle.std.proofs.Common.{◌≡◌, ◌++◌, drop}
use Rattle.scw_link.specs.Methods.{statics_in}
use Rattle.scw_link.proofs.methods.push_statics.Given as goal

abbrev pub invariant-loop-field : goal.invariant-loop-field
invariant-loop-field l = l.fn.statics ++ statics_in l.pool l.fields ≡ l.statics ++ statics_in l.pool (drop l.field-index l.fields)
