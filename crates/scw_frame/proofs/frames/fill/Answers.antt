use Rattle.std.proofs.Common.{◌≡◌, ◌+◌, length, ◌∙◌, ap, arith}
use Rattle.std.proofs.lemmas.List.{length-append}
use Rattle.scw_frame.specs.Frame.{places, spread}
use Rattle.scw_frame.proofs.FrameLemmas.{length-spread}
use Rattle.scw_frame.proofs.frames.fill.Goals as goal

pub overflow_sub-count : goal.overflow_sub-count
overflow_sub-count c =
    let size : length c.spread.new.locals.items ≡ length c.args.locals.now.items + places c.args.arguments.now =
    ap length c.spread.ensures.items ∙ length-append c.args.locals.now.items (spread c.args.arguments.now) ∙ ap (λ n. length c.args.locals.now.items + n) (length-spread c.args.arguments.now) in
    omega arith

pub overflow_cast-result : goal.overflow_cast-result
overflow_cast-result c =
    let size : length c.spread.new.locals.items ≡ length c.args.locals.now.items + places c.args.arguments.now =
    ap length c.spread.ensures.items ∙ length-append c.args.locals.now.items (spread c.args.arguments.now) ∙ ap (λ n. length c.args.locals.now.items + n) (length-spread c.args.arguments.now) in
    omega arith

pub returns-clause-value : goal.returns-clause-value
returns-clause-value c =
    let size : length c.spread.new.locals.items ≡ length c.args.locals.now.items + places c.args.arguments.now =
    ap length c.spread.ensures.items ∙ length-append c.args.locals.now.items (spread c.args.arguments.now) ∙ ap (λ n. length c.args.locals.now.items + n) (length-spread c.args.arguments.now) in
    omega arith
