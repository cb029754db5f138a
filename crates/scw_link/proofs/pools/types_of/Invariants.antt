use Rattle.std.proofs.Common.{◌≡◌, ◌∷◌, take}
use Rattle.std.specs.List.{flat_map}
use Rattle.scw_link.specs.Types.{class_type, pool_types}
use Rattle.scw_link.proofs.pools.types_of.Given as goal

abbrev pub invariant-loop-file : goal.invariant-loop-file
invariant-loop-file l = l.types ≡ class_type 0 1 ∷ flat_map (pool_types l.files) (take l.file-index l.files)
