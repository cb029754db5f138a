use Rattle.std.proofs.Common.{ℕ, List, [], ◌++◌, map, take, arith}
use Rattle.std.proofs.lemmas.List.{length-map}
use Rattle.scw_step.specs.TextStep.{dotted}
use Rattle.scw_value.specs.Text.{utf8}
use Rattle.scw_value.proofs.EncodedLemmas.{put_all}
use Rattle.scw_machine.proofs.OutputLemmas.{done-more, text-more, text-part, text-room, on_err, room-never}
use Rattle.scw_machine.proofs.RunLemmas.{parted-all}
use Rattle.scw_machine.proofs.tell.put_name.Goals as goal

pub returns-in_err-put_all-clause-part : goal.returns-in_err-put_all-clause-part
returns-in_err-put_all-clause-part g c =
    let added = c.loop-i.invariant.added in
    let whole = done-more added.0 _ _ _ _ c.character_of-character.ensures.bytes added.2 in
    on_err c.from_residual.result (text-part _ _ _ _ _ [] added.0 _ _ _ [] added.1 whole c.in_err-put_all.ensures.part)

pub returns-in_err-put_all-clause-sure : goal.returns-in_err-put_all-clause-sure
returns-in_err-put_all-clause-sure g c =
    let added = c.loop-i.invariant.added in
    let whole = done-more added.0 _ _ _ _ c.character_of-character.ensures.bytes added.2 in
    room-never _ _ _ (text-room _ _ _ _ _ [] added.0 _ _ _ [] added.1 whole c.in_err-put_all.ensures.sure)

pub loop-i-preserved : goal.loop-i-preserved
loop-i-preserved g c =
    let added = c.loop-i.invariant.added in
    record {
      within = c.character_of-character.ensures.end;
      later = omega (arith, c.loop-i.invariant.later, c.in_ok-put_all.ensures.cause.later);
      added = (
        added.0 ++ take c.character_of-character.result.length c.character_of-character.result.bytes,
        text-more _ _ _ _ _ _ [] added.0 _ [] _ added.1 (parted-all _ _ _ _ _ c.in_ok-put_all.ensures.done c.in_ok-put_all.ensures.left),
        done-more added.0 _ _ _ _ c.character_of-character.ensures.bytes added.2,
      );
    }

pub returns-clause-parted : goal.returns-clause-parted
returns-clause-parted g c =
    let us : List ℕ = map dotted c.args.name.now in
    let added = c.loop-i.invariant.added in
    let done = put_all us c.loop-i.i added.0 (utf8 us) (omega (arith, length-map c.args.name.now dotted)) added.2 in
    rw (← done) added.1
