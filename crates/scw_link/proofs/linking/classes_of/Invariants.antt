use Rattle.std.proofs.Common.{◌≡◌, map}
use Rattle.std.specs.List.{range_with_len}
use Rattle.scw_link.specs.Linked.{class_at}
use Rattle.scw_link.specs.SiteView.{selector_view}
use Rattle.scw_link.proofs.linking.classes_of.Given as goal

abbrev pub invariant-loop-class : goal.invariant-loop-class
invariant-loop-class l = l.classes ≡ map (class_at l.files l.parents (map selector_view l.selectors) l.rows) (range_with_len 0 l.class)
