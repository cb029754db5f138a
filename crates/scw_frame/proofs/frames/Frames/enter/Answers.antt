use Rattle.std.proofs.Common.{◌≡◌, ◌-◌, [], ◌∷◌, ◌++◌, List, reverse, take, drop, length, ◌∙◌, ap, arith}
use Rattle.std.proofs.lemmas.List.{length-reverse, length-append, reverse-append}
use Rattle.scw_frame.specs.declared.value.Value.{Value}
use Rattle.scw_frame.specs.declared.frames.Activation.{Activation}
use Rattle.scw_frame.specs.Frame.{places, locals_of}
use Rattle.scw_frame.proofs.FrameLemmas.{Enters, Enters-seen, AllFit-entered, arguments-last, places-reverse, locals-le-words, reverse-below, waiting, calls_of-entered}
use Rattle.scw_frame.proofs.frames.Frames.enter.Goals as goal

pub last-requires : goal.last-requires
last-requires c =
    let a : Activation = c.self.inside.current in
    let xs : List Value = c.self.inside.operands.items in
    let asked : Enters a c.self.inside.callers.items xs c.self.inside.in_use c.self.inside.most_frames c.self.inside.most_words c.args.room c.args.locals c.args.count =
    Enters-seen a c.self.inside.callers.items xs c.self.inside.locals.items c.self.inside.in_use c.self.inside.most_frames c.self.inside.most_words c.args.room c.args.locals c.args.count
    c.args.self.now c.self.view_is c.self.invariant.fit c.self.invariant.in_use_is c.requires.taken c.requires.fit c.requires.limits in
    omega (arith, asked.taken, c.self.invariant.fit.0.operands_there, length-reverse xs, ap length c.as_slice.ensures.value)

pub fill-places-requires : goal.fill-places-requires
fill-places-requires c =
    let a : Activation = c.self.inside.current in
    let xs : List Value = c.self.inside.operands.items in
    let asked : Enters a c.self.inside.callers.items xs c.self.inside.in_use c.self.inside.most_frames c.self.inside.most_words c.args.room c.args.locals c.args.count =
    Enters-seen a c.self.inside.callers.items xs c.self.inside.locals.items c.self.inside.in_use c.self.inside.most_frames c.self.inside.most_words c.args.room c.args.locals c.args.count
    c.args.self.now c.self.view_is c.self.invariant.fit c.self.invariant.in_use_is c.requires.taken c.requires.fit c.requires.limits in
    let given : c.last.result.now ≡ reverse (take c.args.count (reverse xs)) =
    c.last.ensures ∙ ap (λ vs. drop (length vs - c.args.count) vs) c.as_slice.ensures.value
    ∙ arguments-last a c.args.count xs c.self.inside.locals.items asked.taken c.self.invariant.fit.0 in
    let size : places c.last.result.now ≡ places (take c.args.count (reverse xs)) =
    ap places given ∙ places-reverse (take c.args.count (reverse xs)) in
    record {
      fit = omega (arith, asked.fit);
      room = omega (arith, asked.words, c.self.invariant.in_use_is, c.self.invariant.locals_reserved, locals-le-words (a ∷ reverse c.self.inside.callers.items) (reverse xs) c.self.inside.locals.items c.self.invariant.fit);
    }

pub overflow_sub-self : goal.overflow_sub-self
overflow_sub-self c =
    let a : Activation = c.self.inside.current in
    let xs : List Value = c.self.inside.operands.items in
    let asked : Enters a c.self.inside.callers.items xs c.self.inside.in_use c.self.inside.most_frames c.self.inside.most_words c.args.room c.args.locals c.args.count =
    Enters-seen a c.self.inside.callers.items xs c.self.inside.locals.items c.self.inside.in_use c.self.inside.most_frames c.self.inside.most_words c.args.room c.args.locals c.args.count
    c.args.self.now c.self.view_is c.self.invariant.fit c.self.invariant.in_use_is c.requires.taken c.requires.fit c.requires.limits in
    let given : c.last.result.now ≡ reverse (take c.args.count (reverse xs)) =
    c.last.ensures ∙ ap (λ vs. drop (length vs - c.args.count) vs) c.as_slice.ensures.value
    ∙ arguments-last a c.args.count xs c.self.inside.locals.items asked.taken c.self.invariant.fit.0 in
    let size : places c.last.result.now ≡ places (take c.args.count (reverse xs)) =
    ap places given ∙ places-reverse (take c.args.count (reverse xs)) in
    omega (arith, asked.depth, c.fill-places.ensures.value)

pub keep-requires : goal.keep-requires
keep-requires c =
    let a : Activation = c.self.inside.current in
    let xs : List Value = c.self.inside.operands.items in
    let asked : Enters a c.self.inside.callers.items xs c.self.inside.in_use c.self.inside.most_frames c.self.inside.most_words c.args.room c.args.locals c.args.count =
    Enters-seen a c.self.inside.callers.items xs c.self.inside.locals.items c.self.inside.in_use c.self.inside.most_frames c.self.inside.most_words c.args.room c.args.locals c.args.count
    c.args.self.now c.self.view_is c.self.invariant.fit c.self.invariant.in_use_is c.requires.taken c.requires.fit c.requires.limits in
    omega (arith, asked.frames, c.self.invariant.callers_reserved)

pub invariant_of-self : goal.invariant_of-self
invariant_of-self c =
    let a : Activation = c.self.inside.current in
    let xs : List Value = c.self.inside.operands.items in
    let asked : Enters a c.self.inside.callers.items xs c.self.inside.in_use c.self.inside.most_frames c.self.inside.most_words c.args.room c.args.locals c.args.count =
    Enters-seen a c.self.inside.callers.items xs c.self.inside.locals.items c.self.inside.in_use c.self.inside.most_frames c.self.inside.most_words c.args.room c.args.locals c.args.count
    c.args.self.now c.self.view_is c.self.invariant.fit c.self.invariant.in_use_is c.requires.taken c.requires.fit c.requires.limits in
    let given : c.last.result.now ≡ reverse (take c.args.count (reverse xs)) =
    c.last.ensures ∙ ap (λ vs. drop (length vs - c.args.count) vs) c.as_slice.ensures.value
    ∙ arguments-last a c.args.count xs c.self.inside.locals.items asked.taken c.self.invariant.fit.0 in
    let size : places c.last.result.now ≡ places (take c.args.count (reverse xs)) =
    ap places given ∙ places-reverse (take c.args.count (reverse xs)) in
    let left : reverse c.truncate.new.self.items ≡ drop c.args.count (reverse xs) =
    reverse-below c.args.count xs c.truncate.new.self.items (omega (arith, asked.taken, c.self.invariant.fit.0.operands_there)) (c.truncate.ensures.items ∙ ap (λ k. take (k - c.args.count) xs) (omega arith)) in
    let filled : c.fill-places.new.locals.items ≡ c.self.inside.locals.items ++ locals_of c.args.locals (reverse (take c.args.count (reverse xs))) =
    c.fill-places.ensures.items ∙ ap (λ vs. c.self.inside.locals.items ++ locals_of c.args.locals vs) given in
    let kept : reverse c.keep.new.callers.items ≡ waiting a c.args.count (a.depth - c.fill-places.result) ∷ reverse c.self.inside.callers.items =
    ap reverse c.keep.ensures.items ∙ reverse-append c.self.inside.callers.items (waiting a c.args.count (a.depth - c.fill-places.result) ∷ []) in
    let depth : c.fill-places.result ≡ places (take c.args.count (reverse xs)) = c.fill-places.ensures.value ∙ size in
    let fit = AllFit-entered a (reverse c.self.inside.callers.items) (reverse xs) c.self.inside.locals.items c.args.method c.args.room c.args.locals c.args.count asked.taken asked.fit c.self.invariant.fit in
    record {
      fit = rw (left, filled, kept, depth) fit;
      in_use_is = rw kept (omega (arith, c.self.invariant.in_use_is));
      words_within = omega (arith, asked.words);
      frames_within = omega (arith, asked.frames, ap length c.keep.ensures.items, length-append c.self.inside.callers.items (waiting a c.args.count (a.depth - c.fill-places.result) ∷ []));
      operands_reserved = omega (arith, c.self.invariant.operands_reserved, c.truncate.ensures.capacity);
      locals_reserved = omega (arith, c.self.invariant.locals_reserved, c.fill-places.ensures.capacity);
      callers_reserved = omega (arith, c.self.invariant.callers_reserved, c.keep.ensures.capacity);
    }

pub returns : goal.returns
returns c =
    let a : Activation = c.self.inside.current in
    let xs : List Value = c.self.inside.operands.items in
    let asked : Enters a c.self.inside.callers.items xs c.self.inside.in_use c.self.inside.most_frames c.self.inside.most_words c.args.room c.args.locals c.args.count =
    Enters-seen a c.self.inside.callers.items xs c.self.inside.locals.items c.self.inside.in_use c.self.inside.most_frames c.self.inside.most_words c.args.room c.args.locals c.args.count
    c.args.self.now c.self.view_is c.self.invariant.fit c.self.invariant.in_use_is c.requires.taken c.requires.fit c.requires.limits in
    let given : c.last.result.now ≡ reverse (take c.args.count (reverse xs)) =
    c.last.ensures ∙ ap (λ vs. drop (length vs - c.args.count) vs) c.as_slice.ensures.value
    ∙ arguments-last a c.args.count xs c.self.inside.locals.items asked.taken c.self.invariant.fit.0 in
    let size : places c.last.result.now ≡ places (take c.args.count (reverse xs)) =
    ap places given ∙ places-reverse (take c.args.count (reverse xs)) in
    let left : reverse c.truncate.new.self.items ≡ drop c.args.count (reverse xs) =
    reverse-below c.args.count xs c.truncate.new.self.items (omega (arith, asked.taken, c.self.invariant.fit.0.operands_there)) (c.truncate.ensures.items ∙ ap (λ k. take (k - c.args.count) xs) (omega arith)) in
    let filled : c.fill-places.new.locals.items ≡ c.self.inside.locals.items ++ locals_of c.args.locals (reverse (take c.args.count (reverse xs))) =
    c.fill-places.ensures.items ∙ ap (λ vs. c.self.inside.locals.items ++ locals_of c.args.locals vs) given in
    let kept : reverse c.keep.new.callers.items ≡ waiting a c.args.count (a.depth - c.fill-places.result) ∷ reverse c.self.inside.callers.items =
    ap reverse c.keep.ensures.items ∙ reverse-append c.self.inside.callers.items (waiting a c.args.count (a.depth - c.fill-places.result) ∷ []) in
    rw (← c.self.view_is, left, filled, kept)
    (calls_of-entered a (reverse c.self.inside.callers.items) (reverse xs) c.self.inside.locals.items c.self.inside.most_frames c.self.inside.most_words c.args.method c.args.room c.args.locals c.args.count (a.depth - c.fill-places.result) asked.taken asked.fit)
