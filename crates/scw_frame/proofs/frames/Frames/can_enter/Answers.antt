use Rattle.std.proofs.Common.{◌≡◌, ◌+◌, ◌∷◌, ◌&&◌, List, Bool, true, false, nat_le, reverse, length, sym, ◌∙◌, ap, arith}
use Rattle.std.proofs.lemmas.List.{length-reverse}
use Rattle.std.proofs.lemmas.Bool.{le-leb, lt-leb, le-ltb}
use Rattle.scw_frame.specs.declared.frames.Activation.{Activation}
use Rattle.scw_frame.specs.Frame.{can_enter}
use Rattle.scw_frame.specs.FrameLayout.{words_for_all}
use Rattle.scw_frame.proofs.FrameLemmas.{can_enter-calls_of}
use Rattle.scw_frame.proofs.frames.Frames.can_enter.Goals as goal

pub returns-then-len-self : goal.returns-then-len-self
returns-then-len-self c =
    let all : List Activation = c.self.inside.current ∷ reverse c.self.inside.callers.items in
    let enough : Bool = nat_le (words_for_all all + 1 + c.args.room + c.args.locals) c.self.inside.most_words in
    let frames : nat_le (length (reverse c.self.inside.callers.items) + 2) c.self.inside.most_frames ≡ true =
    le-leb _ _ (omega (arith, length-reverse c.self.inside.callers.items)) in
    ap (λ k. nat_le (k + 1 + c.args.room + c.args.locals) c.self.inside.most_words) c.self.invariant.in_use_is
    ∙ sym (ap (λ b. b && enough) frames)
    ∙ sym (can_enter-calls_of _ _ _ _ _ _ c.args.room c.args.locals c.self.invariant.fit)
    ∙ ap (λ s. can_enter c.args.room c.args.locals s) c.self.view_is

pub returns-else-len-self : goal.returns-else-len-self
returns-else-len-self c =
    let all : List Activation = c.self.inside.current ∷ reverse c.self.inside.callers.items in
    let enough : Bool = nat_le (words_for_all all + 1 + c.args.room + c.args.locals) c.self.inside.most_words in
    let frames : nat_le (length (reverse c.self.inside.callers.items) + 2) c.self.inside.most_frames ≡ false =
    lt-leb _ _ (omega (arith, length-reverse c.self.inside.callers.items)) in
    le-ltb _ _ c.if-len-self.false
    ∙ sym (ap (λ b. b && enough) frames)
    ∙ sym (can_enter-calls_of _ _ _ _ _ _ c.args.room c.args.locals c.self.invariant.fit)
    ∙ ap (λ s. can_enter c.args.room c.args.locals s) c.self.view_is
