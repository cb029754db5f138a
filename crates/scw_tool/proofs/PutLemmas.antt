-- Texts put one after the other.
use Rattle.std.proofs.Common.{◌≡◌, ℕ, List, ◌++◌, Option, Result, Ok, Err, subst, ◌∙◌}
use Rattle.std.specs.Prelude.{OnErr, OnOk}
use Rattle.std.specs.Io.KnownBytes.{append_known}
use Rattle.scw_outside.proofs.PutsLemmas.{append_known-append}
use Rattle.scw_outside.specs.declared.sink.SinkFailed.{SinkFailed}

-- three texts in a row
pub three_put : (old one two new : Option (List ℕ)) (r : Result (Unit {0}) SinkFailed) (a b c : List ℕ) → one ≡ append_known old a → two ≡ append_known one b → OnOk r (new ≡ append_known two c) → OnOk r (new ≡ append_known old (a ++ (b ++ c)))
three_put old one two new (Err f) a b c h k p = tt
three_put old one two new (Ok u) a b c h k p =
    let all : new ≡ append_known (append_known (append_known old a) b) c = rw (k, h) at p in
    all ∙ append_known-append (append_known old a) b c ∙ append_known-append old a (b ++ c)

-- two texts in a row
pub two_put : (old one new : Option (List ℕ)) (r : Result (Unit {0}) SinkFailed) (a b : List ℕ) → one ≡ append_known old a → OnOk r (new ≡ append_known one b) → OnOk r (new ≡ append_known old (a ++ b))
two_put old one new (Err f) a b h p = tt
two_put old one new (Ok u) a b h p =
    let both : new ≡ append_known (append_known old a) b = rw h at p in
    both ∙ append_known-append old a b

-- the same text under another name
pub put_same : (r : Result (Unit {0}) SinkFailed) (old new : Option (List ℕ)) (a b : List ℕ) → a ≡ b → OnOk r (new ≡ append_known old a) → OnOk r (new ≡ append_known old b)
put_same r old new a b e p = subst (λ (l : List ℕ). OnOk r (new ≡ append_known old l)) e p

-- where the sink didn't fail, what was promised of its success holds
pub taken_whole : {A R : Type 0} (r : Result (Unit {0}) SinkFailed) → OnOk r A → OnErr r R → (R → ⊥) → A
taken_whole (Ok u) a f n = a
taken_whole (Err e) a f n = absurd (n f)
