use Rattle.std.proofs.Common.{map, sym, ap, ◌∙◌, Some}
use Rattle.scw_small.specs.NameView.{seen_entry}
use Rattle.scw_small.proofs.NameLemmas.{add_seen}
use Rattle.scw_small.proofs.names.Names.insert.Goals as goal

pub returns : goal.returns
returns g c = ap Some (sym (ap (map seen_entry) c.in_ok-insert.ensures.entries ∙ add_seen c.args.self.now.entries c.args.key c.args.value c.requires))
