use Rattle.std.proofs.Common.{arith}
use Rattle.scw_classfile.proofs.PoolLemmas.{length-read_bytes}
use Rattle.scw_classfile.proofs.pool.text_of.Goals as goal

pub units_in-requires : goal.units_in-requires
units_in-requires c = omega (arith, length-read_bytes c.args.count c.args.bytes.now (c.in_ok-front.front.now, c.in_ok-front.rest.now) c.in_ok-front.ensures)
