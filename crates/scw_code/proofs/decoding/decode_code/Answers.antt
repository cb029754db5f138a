use Rattle.std.proofs.Common.{ap}
use Rattle.scw_code.specs.declared.decoding.Decoded.{Decoded}
use Rattle.scw_code.proofs.CodeLemmas.{AreBytes-from_fits, is_code_from, all_from, no_fault}
use Rattle.scw_code.proofs.decoding.decode_code.Goals as goal

pub returns-in-None-clause-ok : goal.returns-in-None-clause-ok
returns-in-None-clause-ok c = is_code_from c.args.bytes.now c.in-Ok.decoded (AreBytes-from_fits c.args.bytes.now c.type_inv.bytes) c.in-Ok.ensures c.in-None.is

pub returns-in-None-clause-whole : goal.returns-in-None-clause-whole
returns-in-None-clause-whole c = λ is code. ap (λ (d : Decoded). d.instrs) (all_from c.args.bytes.now c.in-Ok.decoded is c.in-Ok.ensures code)

pub returns-in-Some-clause-whole : goal.returns-in-Some-clause-whole
returns-in-Some-clause-whole c = λ is code. absurd (no_fault c.args.bytes.now c.in-Ok.decoded is c.in-Some.fault c.in-Ok.ensures c.in-Some.is code)
