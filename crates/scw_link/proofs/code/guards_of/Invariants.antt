use Rattle.std.proofs.Common.{◌≡◌, take, map}
use Rattle.scw_link.specs.Code.{guard_of}
use Rattle.scw_link.specs.SiteView.{site_view}
use Rattle.scw_link.proofs.code.guards_of.Given as goal

abbrev pub invariant-loop-handler : goal.invariant-loop-handler
invariant-loop-handler l = l.guards ≡ map (guard_of (site_view l.site)) (take l.handler-index l.handlers)
