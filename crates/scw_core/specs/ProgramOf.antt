-- The program that a value of the type `Program` stands for.
use Rattle.std.specs.Prelude.{map}
use Rattle.scw_text.specs.declared.number.SymId.{SymId}
use Rattle.scw_core.specs.declared.program.Body.{Body}
use Rattle.scw_core.specs.declared.program.EntryTree.{EntryTree}
use Rattle.scw_core.specs.declared.program.Prefix.{Prefix}
use Rattle.scw_core.specs.declared.program.Program.{Program}
use Rattle.scw_core.specs.declared.program.Table.{Table}
use Rattle.scw_core.specs.declared.program.Template.{Template}
use Rattle.scw_core.specs.Program as core
use Rattle.scw_core.specs.Tree.{Tree}
use Rattle.scw_core.specs.TreeOf.{tree_of, trees_view}
use Rattle.scw_core.specs.TypesOf.{core_type_of}

abbrev pub table_of : Table → core.Table
table_of t = record { classes = t.classes; heads = t.heads; types = map core_type_of t.types; texts = t.texts; prelude = t.prelude }

abbrev pub prefix_of : Prefix → SymId × Tree
prefix_of q = (q.class, tree_of q.tree)

abbrev pub template_of : Template → SymId × core.Template
template_of t = (t.class, record { prefixes = map prefix_of t.prefixes; arguments = trees_view t.arguments; statements = trees_view t.statements })

abbrev pub body_of : Body → SymId × Tree
body_of b = (b.member, tree_of b.tree)

abbrev pub entry_of : EntryTree → SymId × Tree
entry_of e = (e.class, tree_of e.tree)

abbrev pub program_of : Program → core.Program
program_of p = record {
  table = table_of p.table;
  bodies = map body_of p.bodies;
  templates = map template_of p.templates;
  entries = map entry_of p.entries;
}
