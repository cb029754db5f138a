use Rattle.std.proofs.Common.{◌≡◌, ◌++◌, take}
use Rattle.std.specs.List.{flat_map}
use Rattle.scw_dis.specs.Code.{handler_line}
use Rattle.scw_dis.proofs.code.write_handlers.Given as goal

abbrev pub invariant-loop-handler : goal.invariant-loop-handler
invariant-loop-handler l = l.out.items ≡ l.fn.out.items ++ flat_map (handler_line l.pool) (take l.handler-index l.handlers)
