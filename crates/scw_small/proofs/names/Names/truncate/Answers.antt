use Rattle.std.proofs.Common.{map, sym, ap, ◌∙◌}
use Rattle.std.proofs.lemmas.List.{take-map}
use Rattle.scw_small.specs.NameView.{seen_entry}
use Rattle.scw_small.proofs.names.Names.truncate.Goals as goal

pub returns : goal.returns
returns g c = ap (map seen_entry) c.truncate.ensures.entries ∙ sym (take-map seen_entry c.args.len c.args.self.now.entries.entries)
