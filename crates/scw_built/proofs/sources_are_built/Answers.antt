use Rattle.scw_built.proofs.SourcesBuilt.{source-built}
use Rattle.scw_built.proofs.sources_are_built.Goals as goal

pub returns : goal.returns
returns c bytes p says = source-built bytes p says
