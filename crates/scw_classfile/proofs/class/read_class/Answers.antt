use Rattle.std.proofs.Common.{◌∙◌, ap}
use Rattle.scw_classfile.specs.ReadClass.{read_class}
use Rattle.scw_classfile.proofs.FormatLemmas.{ok_from_reads, class_again, class_from_reads, place_within}
use Rattle.scw_classfile.proofs.class.read_class.Goals as goal

pub returns-clause-again : goal.returns-clause-again
returns-clause-again c = λ k h. ok_from_reads c.reported_class.result (read_class c.args.bytes.now) k c.reported_class.ensures (ap read_class h.1 ∙ class_again k h.0)

pub returns-clause-ok : goal.returns-clause-ok
returns-clause-ok c = class_from_reads c.reported_class.result c.args.bytes.now (record { each = λ i. (c.type_inv.bytes i).fits }) c.reported_class.ensures

pub returns-clause-within : goal.returns-clause-within
returns-clause-within c = place_within c.reported_class.result c.args.bytes.now c.reported_class.ensures
