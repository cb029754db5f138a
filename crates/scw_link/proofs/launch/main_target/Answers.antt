use Rattle.std.proofs.Common.{[]}
use Rattle.scw_link.proofs.LinkLemmas.{target_named}
use Rattle.std.proofs.Common.{false}
use Rattle.scw_link.specs.Linked.{outside}
use Rattle.scw_link.proofs.launch.main_target.Goals as goal

pub returns : goal.returns
returns c = target_named (outside c.args.files.now c.args.parents.now []) false c.in_ok-class.class c.in_ok-name.name c.in_ok-descriptor.descriptor _ _ _ c.target.result c.in_ok-class.ensures c.in_ok-name.ensures c.in_ok-descriptor.ensures c.target.ensures
