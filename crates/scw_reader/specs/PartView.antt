-- What the parts of a block stand for.
use Rattle.scw_reader.specs.Syntax as syntax
use Rattle.scw_reader.specs.View.{expression_of, statement_of}
use Rattle.scw_reader.specs.Reading as reading
use Rattle.scw_reader.specs.declared.tree.TypeName.{TypeName}
use Rattle.scw_reader.specs.declared.block.Part.{Part}
use Rattle.scw_reader.specs.declared.block.Part.TheVariants as part
use Rattle.scw_reader.specs.declared.block.Definition.{Definition}

abbrev pub part_of : Part → reading.Part
part_of (part.Statement t) = reading.statement_part (statement_of t)
part_of (part.Last e) = reading.last_part (expression_of e)

abbrev pub definition_of : Definition → syntax.Name × TypeName × syntax.Expression
definition_of d = (d.name, d.kind, expression_of d.value)
