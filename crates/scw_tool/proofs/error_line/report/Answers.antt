use Rattle.std.proofs.Common.{◌∙◌, ap, sym}
use Rattle.scw_tool.specs.Status.{line_of, read_fault_line, shown_name}
use Rattle.scw_tool.proofs.PutLemmas.{put_same}
use Rattle.scw_tool.proofs.error_line.report.Goals as goal

pub returns-in-ReadFault-clause-done : goal.returns-in-ReadFault-clause-done
returns-in-ReadFault-clause-done g c = λ words h.
    put_same c.put_read_fault.result _ _ _ _ (ap read_fault_line (c.shown.ensures ∙ ap shown_name h) ∙ sym (ap (line_of words) c.in-ReadFault.is)) c.put_read_fault.ensures.done
