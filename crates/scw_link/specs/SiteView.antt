-- Selectors and sites, as the definitions see them.
use Rattle.std.specs.Prelude.{map}
use Rattle.scw_link.specs.declared.site.Selector as code_selector
use Rattle.scw_link.specs.declared.site.Site as code_site
use Rattle.scw_link.specs.Site.{Selector, Site}

abbrev pub selector_view : code_selector.Selector → Selector
selector_view s = record { name = s.name.now; descriptor = s.descriptor.now }

abbrev pub site_view : code_site.Site → Site
site_view s = record { files = s.files.now; parents = s.parents.now; selectors = map selector_view s.selectors.now; pool = s.pool.now; before = s.before }
