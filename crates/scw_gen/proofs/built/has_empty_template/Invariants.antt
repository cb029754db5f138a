use Rattle.std.proofs.Common.{◌≡◌, drop, map}
use Rattle.scw_core.specs.Program.{look}
use Rattle.scw_core.specs.ProgramOf.{template_of}
use Rattle.scw_gen.proofs.built.has_empty_template.Given as goal

abbrev pub invariant-loop-template : goal.invariant-loop-template
invariant-loop-template l = look (map template_of (drop l.template-index l.templates)) l.c ≡ look (map template_of l.templates) l.c
