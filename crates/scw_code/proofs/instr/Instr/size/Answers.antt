use Rattle.scw_code.proofs.JumpLemmas.{size_none, size_plain, size_table, size_lookup, size_wide}
use Rattle.scw_code.proofs.instr.Instr.size.Goals as goal

pub returns-in-None : goal.returns-in-None
returns-in-None c = size_none c.args.at c.args.self.now c.in-None.ensures

pub returns-in-Some-Plain : goal.returns-in-Some-Plain
returns-in-Some-Plain c = size_plain c.args.at c.args.self.now c.in-Some-Plain.layout c.size.result (rw c.in-Some-Plain.field-0-is at c.in-Some-Plain.ensures) c.size.ensures

pub returns-in-Some-Table : goal.returns-in-Some-Table
returns-in-Some-Table c = size_table c.args.at c.args.self.now c.padding.result c.jump_count.result (rw c.in-Some-Table.field-0-is at c.in-Some-Table.ensures) c.padding.ensures c.jump_count.ensures.value

pub returns-in-Some-Lookup : goal.returns-in-Some-Lookup
returns-in-Some-Lookup c = size_lookup c.args.at c.args.self.now c.padding-in-Some-Lookup.result c.pair_count.result (rw c.in-Some-Lookup.field-0-is at c.in-Some-Lookup.ensures) c.padding-in-Some-Lookup.ensures c.pair_count.ensures.value

pub returns-in-Some-Wide : goal.returns-in-Some-Wide
returns-in-Some-Wide c = size_wide c.args.at c.args.self.now c.further_size.result (rw c.in-Some-Wide.field-0-is at c.in-Some-Wide.ensures) (rw c.further.ensures at c.further_size.ensures)
