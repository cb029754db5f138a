use Rattle.std.proofs.Common.{◌≡◌, ◌∙◌, ◌++◌, List, ℕ, [], sym, ap, append_assoc}
use Rattle.scw_classfile.specs.Format.{body, body_of, start}
use Rattle.scw_classfile.specs.Pool.{entries}
use Rattle.scw_classfile.proofs.FormatLemmas.{class_bytes, class_counts}
use Rattle.scw_classfile.proofs.class.write_class.Goals as goal

-- what was written part by part
joined : (none one two out a b d : List ℕ) → none ≡ [] → one ≡ none ++ a → two ≡ one ++ b → out ≡ two ++ d → out ≡ a ++ (b ++ d)
joined none one two out a b d e0 e1 e2 e3 = e3 ∙ ap (λ (l : List ℕ). l ++ d) (e2 ∙ ap (λ (l : List ℕ). l ++ b) (e1 ∙ ap (λ (l : List ℕ). l ++ a) e0)) ∙ append_assoc a b d

pub write_pool-requires : goal.write_pool-requires
write_pool-requires c = rw c.as_slice.ensures (class_counts c.args.c.now c.requires).0

pub write_body-requires : goal.write_body-requires
write_body-requires c = (class_counts c.args.c.now c.requires).1

pub returns : goal.returns
returns c =
    let k = c.args.c.now in
    let pool = rw c.as_slice.ensures at c.in_ok-write_pool.ensures in
    c.from_vec.ensures
    ∙ joined c.new-out.result.items c.write_start.new.out.items c.write_pool.new.out.items c.write_body.new.out.items (start.spell (k.minor, k.major)) (entries.spell k.pool) ((body 0 []).spell (body_of k)) c.new-out.ensures.items c.in_ok-write_start.ensures pool c.in_ok-write_body.ensures
    ∙ sym (class_bytes k)
