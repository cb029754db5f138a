use Rattle.scw_lex.proofs.NewlineLemmas.{ended_none, ended_last}
use Rattle.scw_lex.proofs.newline.NewlineFilter.finish.Goals as goal
use Rattle.scw_lex.proofs.newline.NewlineFilter.finish.Goals.{in-Some+in_ok-add, in_default}

pub returns : goal.returns
returns c = elim c.match-pending.branch [
  | in-Some+in_ok-add w ↦ rw w.settled-is (ended_last c.args.self w.in-Some.last w.add.new.self w.in-Some.is (w.in_ok-add.ensures {u = tt}))
  | in_default w ↦ rw w.settled-is (ended_none c.args.self w.in_default.is)
]
