use Rattle.std.proofs.Common.{◌≡◌, ◌++◌, drop}
use Rattle.scw_link.specs.Methods.{methods_from}
use Rattle.scw_link.specs.SiteView.{site_view}
use Rattle.scw_link.proofs.methods.push_methods.Given as goal

abbrev pub invariant-loop-member : goal.invariant-loop-member
invariant-loop-member l = l.fn.methods ++ methods_from (site_view l.site) l.file 0 l.start l.first l.members ≡ l.methods ++ methods_from (site_view l.site) l.file l.method l.place l.number (drop l.member-index l.members)
