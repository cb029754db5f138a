use Rattle.std.proofs.Common.{◌≡◌, drop, map}
use Rattle.scw_core.specs.Program.{look}
use Rattle.scw_core.specs.ProgramOf.{template_of}
use Rattle.scw_back.proofs.begin.has_template.Given as goal

abbrev pub invariant-loop-template : goal.invariant-loop-template
invariant-loop-template l = look (map template_of (drop l.template-index l.templates)) l.s ≡ look (map template_of l.templates) l.s
