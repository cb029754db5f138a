use Rattle.std.proofs.Common.{◌≡◌, ◌++◌, drop, map}
use Rattle.scw_link.specs.Methods.{file_methods}
use Rattle.scw_link.specs.SiteView.{selector_view}
use Rattle.scw_link.proofs.methods.push_file_methods.Given as goal

abbrev pub invariant-loop-file : goal.invariant-loop-file
invariant-loop-file l = l.fn.methods ++ file_methods l.files l.parents (map selector_view l.selectors) 0 0 0 l.files ≡ l.methods ++ file_methods l.files l.parents (map selector_view l.selectors) l.place l.before l.number (drop l.file-index l.files)
