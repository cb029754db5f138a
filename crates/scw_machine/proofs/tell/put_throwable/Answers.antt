use Rattle.std.proofs.Common.{[], ◌++◌, map, refl, ◌∙◌}
use Rattle.std.specs.Prelude.{codes}
use Rattle.scw_step.specs.TextStep.{dotted}
use Rattle.scw_value.specs.Text.{utf8}
use Rattle.scw_machine.specs.Tell.{message_at, message_told}
use Rattle.scw_machine.proofs.OutputLemmas.{parted-more, text-part, text-room, on_err, room-never}
use Rattle.scw_machine.proofs.RunLemmas.{parted-all}
use Rattle.scw_machine.proofs.TellLemmas.{told-parts, told-first, told-first-room, two_parts, three_parts, last-parted, last-part, last-room, put-parted}
use Rattle.scw_machine.proofs.tell.put_throwable.Goals as goal

pub returns-in_err-put_all-clause-part : goal.returns-in_err-put_all-clause-part
returns-in_err-put_all-clause-part g c = on_err c.from_residual.result (told-first _ _ _ _ _ c.in_err-put_all.ensures.part)

pub returns-in_err-put_all-clause-sure : goal.returns-in_err-put_all-clause-sure
returns-in_err-put_all-clause-sure g c = room-never _ _ _ (told-first-room _ _ c.args.program.now c.args.heap.now.objects c.args.r.0 c.in_err-put_all.ensures.sure)

pub returns-in_err-put_name-clause-part : goal.returns-in_err-put_name-clause-part
returns-in_err-put_name-clause-part g c =
    let one = parted-all _ _ _ _ (codes "exception ") c.in_ok-put_all.ensures.done c.in_ok-put_all.ensures.left in
    let whole = told-parts c.args.program.now c.args.heap.now.objects c.args.r.0 c.name_of.result.now (message_at c.args.heap.now.objects c.args.r.0) c.name_of.ensures refl in
    on_err c.from_residual-in_err-put_name.result (text-part _ _ _ _ _ [] (codes "exception ") (utf8 (map dotted c.name_of.result.now)) _ _ [] one (two_parts (codes "exception ") (utf8 (map dotted c.name_of.result.now)) (message_told c.args.heap.now.objects (message_at c.args.heap.now.objects c.args.r.0)) (codes "\n") ∙ whole) c.in_err-put_name.ensures.part)

pub returns-in_err-put_name-clause-sure : goal.returns-in_err-put_name-clause-sure
returns-in_err-put_name-clause-sure g c =
    let one = parted-all _ _ _ _ (codes "exception ") c.in_ok-put_all.ensures.done c.in_ok-put_all.ensures.left in
    let whole = told-parts c.args.program.now c.args.heap.now.objects c.args.r.0 c.name_of.result.now (message_at c.args.heap.now.objects c.args.r.0) c.name_of.ensures refl in
    room-never _ _ _ (text-room _ _ _ _ _ [] (codes "exception ") (utf8 (map dotted c.name_of.result.now)) _ _ [] one (two_parts (codes "exception ") (utf8 (map dotted c.name_of.result.now)) (message_told c.args.heap.now.objects (message_at c.args.heap.now.objects c.args.r.0)) (codes "\n") ∙ whole) c.in_err-put_name.ensures.sure)

pub returns-in_err-put_message-clause-part : goal.returns-in_err-put_message-clause-part
returns-in_err-put_message-clause-part g c =
    let one = parted-all _ _ _ _ (codes "exception ") c.in_ok-put_all.ensures.done c.in_ok-put_all.ensures.left in
    let two = parted-more _ _ _ _ _ _ (codes "exception ") [] (utf8 (map dotted c.name_of.result.now)) [] one c.in_ok-put_name.ensures.parted in
    let whole = told-parts c.args.program.now c.args.heap.now.objects c.args.r.0 c.name_of.result.now c.message_of.result c.name_of.ensures c.message_of.ensures in
    on_err c.from_residual-in_err-put_message.result (text-part _ _ _ _ _ [] (codes "exception " ++ utf8 (map dotted c.name_of.result.now)) (message_told c.args.heap.now.objects c.message_of.result) (codes "\n") _ [] two (three_parts (codes "exception ") (utf8 (map dotted c.name_of.result.now)) (message_told c.args.heap.now.objects c.message_of.result) (codes "\n") ∙ whole) c.in_err-put_message.ensures.part)

pub returns-in_err-put_message-clause-sure : goal.returns-in_err-put_message-clause-sure
returns-in_err-put_message-clause-sure g c =
    let one = parted-all _ _ _ _ (codes "exception ") c.in_ok-put_all.ensures.done c.in_ok-put_all.ensures.left in
    let two = parted-more _ _ _ _ _ _ (codes "exception ") [] (utf8 (map dotted c.name_of.result.now)) [] one c.in_ok-put_name.ensures.parted in
    let whole = told-parts c.args.program.now c.args.heap.now.objects c.args.r.0 c.name_of.result.now c.message_of.result c.name_of.ensures c.message_of.ensures in
    room-never _ _ _ (text-room _ _ _ _ _ [] (codes "exception " ++ utf8 (map dotted c.name_of.result.now)) (message_told c.args.heap.now.objects c.message_of.result) (codes "\n") _ [] two (three_parts (codes "exception ") (utf8 (map dotted c.name_of.result.now)) (message_told c.args.heap.now.objects c.message_of.result) (codes "\n") ∙ whole) c.in_err-put_message.ensures.sure)

pub returns-clause-parted : goal.returns-clause-parted
returns-clause-parted g c =
    let one = parted-all _ _ _ _ (codes "exception ") c.in_ok-put_all.ensures.done c.in_ok-put_all.ensures.left in
    let two = parted-more _ _ _ _ _ _ (codes "exception ") [] (utf8 (map dotted c.name_of.result.now)) [] one c.in_ok-put_name.ensures.parted in
    let three = parted-more _ _ _ _ _ _ (codes "exception " ++ utf8 (map dotted c.name_of.result.now)) [] (message_told c.args.heap.now.objects c.message_of.result) [] two c.in_ok-put_message.ensures.parted in
    let whole = told-parts c.args.program.now c.args.heap.now.objects c.args.r.0 c.name_of.result.now c.message_of.result c.name_of.ensures c.message_of.ensures in
    last-parted c.put_all-2.result _ _ _ _ _ _ ((codes "exception " ++ utf8 (map dotted c.name_of.result.now)) ++ message_told c.args.heap.now.objects c.message_of.result) (codes "\n") _ three (three_parts (codes "exception ") (utf8 (map dotted c.name_of.result.now)) (message_told c.args.heap.now.objects c.message_of.result) (codes "\n") ∙ whole)
    (put-parted c.put_all-2.result _ _ _ _ (codes "\n") c.put_all-2.ensures.done c.put_all-2.ensures.left)

pub returns-clause-part : goal.returns-clause-part
returns-clause-part g c =
    let one = parted-all _ _ _ _ (codes "exception ") c.in_ok-put_all.ensures.done c.in_ok-put_all.ensures.left in
    let two = parted-more _ _ _ _ _ _ (codes "exception ") [] (utf8 (map dotted c.name_of.result.now)) [] one c.in_ok-put_name.ensures.parted in
    let three = parted-more _ _ _ _ _ _ (codes "exception " ++ utf8 (map dotted c.name_of.result.now)) [] (message_told c.args.heap.now.objects c.message_of.result) [] two c.in_ok-put_message.ensures.parted in
    let whole = told-parts c.args.program.now c.args.heap.now.objects c.args.r.0 c.name_of.result.now c.message_of.result c.name_of.ensures c.message_of.ensures in
    last-part c.put_all-2.result _ _ _ _ _ ((codes "exception " ++ utf8 (map dotted c.name_of.result.now)) ++ message_told c.args.heap.now.objects c.message_of.result) (codes "\n") _ three (three_parts (codes "exception ") (utf8 (map dotted c.name_of.result.now)) (message_told c.args.heap.now.objects c.message_of.result) (codes "\n") ∙ whole) c.put_all-2.ensures.part

pub returns-clause-sure : goal.returns-clause-sure
returns-clause-sure g c =
    let one = parted-all _ _ _ _ (codes "exception ") c.in_ok-put_all.ensures.done c.in_ok-put_all.ensures.left in
    let two = parted-more _ _ _ _ _ _ (codes "exception ") [] (utf8 (map dotted c.name_of.result.now)) [] one c.in_ok-put_name.ensures.parted in
    let three = parted-more _ _ _ _ _ _ (codes "exception " ++ utf8 (map dotted c.name_of.result.now)) [] (message_told c.args.heap.now.objects c.message_of.result) [] two c.in_ok-put_message.ensures.parted in
    let whole = told-parts c.args.program.now c.args.heap.now.objects c.args.r.0 c.name_of.result.now c.message_of.result c.name_of.ensures c.message_of.ensures in
    last-room _ _ _ _ _ ((codes "exception " ++ utf8 (map dotted c.name_of.result.now)) ++ message_told c.args.heap.now.objects c.message_of.result) (codes "\n") _ three (three_parts (codes "exception ") (utf8 (map dotted c.name_of.result.now)) (message_told c.args.heap.now.objects c.message_of.result) (codes "\n") ∙ whole) c.put_all-2.ensures.sure
