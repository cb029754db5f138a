use Rattle.std.proofs.Common.{◌-◌, length, rules, arith}
use Rattle.std.proofs.lemmas.Grind.{common_steps}
use Rattle.scw_gen.specs.Around.{around_of}
use Rattle.scw_gen.proofs.RoomLemmas.{stack_split}
use Rattle.scw_gen.proofs.room.+stack.Goals as goal

pub stack_of_statements-returns-in-len1-up : goal.stack_of_statements-returns-in-len1-up
stack_of_statements-returns-in-len1-up t c =
    let e = stack_split (around_of c.args.g.now) c.args.mode c.last-item.result c.args.statements.now (length c.args.statements.now - 1) (omega (arith, c.in-len1-up.len_at_least)) in
    rw e (first_of (search rules, grind (arith, common_steps)))
