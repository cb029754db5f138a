use Rattle.std.proofs.Common.{◌≡◌, take}
use Rattle.std.specs.List.{flat_map}
use Rattle.scw_link.specs.Methods.{statics_in}
use Rattle.scw_link.proofs.methods.statics_of.Given as goal

abbrev pub invariant-loop-file : goal.invariant-loop-file
invariant-loop-file l = l.statics ≡ flat_map (λ c. statics_in c.pool c.fields) (take l.file-index l.files)
