use Rattle.std.proofs.Common.{◌≡◌, ◌++◌, drop, length}
use Rattle.scw_link.specs.Code.{code_from}
use Rattle.scw_link.specs.SiteView.{site_view}
use Rattle.scw_link.proofs.code.instructions_of.Given as goal

abbrev pub invariant-loop-instr : goal.invariant-loop-instr
invariant-loop-instr l = code_from (site_view l.site) 0 l.first l.instrs ≡ l.code ++ code_from (site_view l.site) (length l.code) l.number (drop l.instr-index l.instrs)
