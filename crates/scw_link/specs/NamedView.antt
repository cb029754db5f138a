-- A member's names, as the definitions see them.
use Rattle.scw_link.specs.declared.names.Named as code
use Rattle.scw_link.specs.Names.{Named}

abbrev pub named_view : code.Named → Named
named_view n = record { class = n.class.now; name = n.name.now; descriptor = n.descriptor.now }
