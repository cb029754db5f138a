use Rattle.scw_tool.proofs.error_line.put_read_fault.Goals as goal

pub returns-clause-done : goal.returns-clause-done
returns-clause-done g c = rw c.as_bytes.ensures.value at c.put_three.ensures.done
