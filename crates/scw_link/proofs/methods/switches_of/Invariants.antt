use Rattle.std.proofs.Common.{◌≡◌, take}
use Rattle.std.specs.List.{flat_map}
use Rattle.scw_link.specs.Methods.{switches_of_file}
use Rattle.scw_link.proofs.methods.switches_of.Given as goal

abbrev pub invariant-loop-file : goal.invariant-loop-file
invariant-loop-file l = l.switches ≡ flat_map switches_of_file (take l.file-index l.files)
