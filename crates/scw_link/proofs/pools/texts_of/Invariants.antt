use Rattle.std.proofs.Common.{◌≡◌, ◌∷◌, [], take}
use Rattle.std.specs.List.{flat_map}
use Rattle.scw_link.specs.Types.{pool_texts}
use Rattle.scw_link.proofs.pools.texts_of.Given as goal

abbrev pub invariant-loop-file : goal.invariant-loop-file
invariant-loop-file l = l.texts ≡ [] ∷ flat_map pool_texts (take l.file-index l.files)
