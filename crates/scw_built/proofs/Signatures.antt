-- What can be called: each method stands under its name, which no other has, with a symbol that rises.
use Rattle.std.proofs.Common.{◌≡◌, refl, ap, sym, subst, ◌∙◌, ℕ, ◌+◌, suc, ◌≤◌, ◌⊎◌, List, [], ◌∷◌, ◌++◌, Some, None, le_refl, inl, inr, add-one, arith}
use Rattle.scw_text.specs.declared.number.SymId.{SymId}
use Rattle.scw_reader.specs.Syntax.{Name, Method}
use Rattle.scw_small.specs.Step.{Named, State, fresh, add_name, find_name}
use Rattle.scw_small.specs.Whole.{signature, add_signature, add_signatures}
use Rattle.scw_built.proofs.Setting.{Setting, Answers}
use Rattle.scw_built.proofs.Steps.{both-gave, pure-gave, given-gave, add-gave, fresh-gave, find-here, find-more, find-either}
use Rattle.scw_built.proofs.Units.{same-text-self}
use Rattle.scw_built.proofs.Methods.{Entered}
use Rattle.scw_built.proofs.SmallNames.{Signature}

-- what is found in the first is found in the second
abbrev pub Kept : Named Signature → Named Signature → Type 0
Kept g g' = (x : Name) (a : Signature) → find_name x g ≡ Some a → find_name x g' ≡ Some a

-- the signature is one of these methods
abbrev pub Listed : ℕ → List Method → Signature → Type 0
Listed n [] a = ⊥
Listed n (m ∷ ms) a = (signature (record { 0 = n }) m ≡ a) ⊎ Listed (suc n) ms a

pub record Signed (g : Named Signature) (ms : List Method) (s : State) (g' : Named Signature) (t : State) : Type 0 where
  pub types : t.types ≡ s.types
  pub texts : t.texts ≡ s.texts
  pub later : s.next ≤ t.next
  pub kept : Kept g g'
  pub entered : (all : Named Signature) → Kept g' all → Entered all s.next ms t.next
  pub listed : (x : Name) (a : Signature) → find_name x g' ≡ Some a → (find_name x g ≡ Some a) ⊎ Listed s.next ms a

signed-none : (g : Named Signature) (s : State) → Signed g [] s g s
signed-none g s = record { types = refl; texts = refl; later = le_refl s.next; kept = λ x a h. h; entered = λ all k. refl; listed = λ x a h. inl h }

-- one method more
pub record One (g : Named Signature) (m : Method) (s : State) (g' : Named Signature) (t : State) : Type 0 where
  pub state : record s { next = s.next + 1 } ≡ t
  pub new : find_name m.name g ≡ None
  pub table : g ++ (m.name, signature (record { 0 = s.next }) m) ∷ [] ≡ g'

one-signed : (g : Named Signature) (m : Method) (s : State) (g' : Named Signature) (t : State) → add_signature g m s ≡ Some (g', t) → One g m s g' t
unfolding add_signature
one-signed g m s g' t h =
    let one = both-gave (fresh s) _ g' t h in
    let f = fresh-gave one.0 s one.1 one.2 in
    let o = given-gave (add_name m.name (signature one.0 m) g) g' one.1 t one.3 in
    let a = add-gave m.name (signature one.0 m) g g' o.0 in
    record { state = f.1 ∙ o.1; new = a.0; table = ap (λ (n : SymId). g ++ (m.name, signature n m) ∷ []) f.0 ∙ a.1 }

pub signed : (ms : List Method) (g : Named Signature) (s : State) (g' : Named Signature) (t : State) → add_signatures g ms s ≡ Some (g', t) → Signed g ms s g' t
signed [] g s g' t h = let p = pure-gave g g' s t h in subst (λ (q : State). Signed g [] s g' q) p.1 (subst (λ (q : Named Signature). Signed g [] s q s) p.0 (signed-none g s))
signed (m ∷ ms) g s g' t h =
    let two = both-gave (add_signature g m s) _ g' t h in
    let o = one-signed g m s two.0 two.1 two.2 in
    let rest = signed ms two.0 two.1 g' t two.3 in
    let a : Signature = signature (record { 0 = s.next }) m in
    let next : suc s.next ≡ two.1.next = sym (add-one s.next) ∙ ap (λ (q : State). q.next) o.state in
    let here : find_name m.name two.0 ≡ Some a = subst (λ (q : Named Signature). find_name m.name q ≡ Some a) o.table (find-here m.name a g (same-text-self m.name) o.new) in
    let more : Kept g two.0 = λ x b k. subst (λ (q : Named Signature). find_name x q ≡ Some b) o.table (find-more x m.name b a g k) in
    let later = rest.later in
    record {
      types = rest.types ∙ ap (λ (q : State). q.types) (sym o.state);
      texts = rest.texts ∙ ap (λ (q : State). q.texts) (sym o.state);
      later = omega arith;
      kept = λ x b k. rest.kept x b (more x b k);
      entered = λ all k. (k m.name a (rest.kept m.name a here), subst (λ (n : ℕ). Entered all n ms t.next) (sym next) (rest.entered all k));
      listed = λ x b k. elim (rest.listed x b k) [
        | inl f ↦ elim (find-either x m.name b a g (subst (λ (q : Named Signature). find_name x q ≡ Some b) (sym o.table) f)) [
          | inl i ↦ inl i
          | inr i ↦ inr (inl i)
        ]
        | inr f ↦ inr (inr (subst (λ (n : ℕ). Listed n ms b) (sym next) f))
      ];
    }

-- ---- all of them answer

abbrev pub Each : Setting → ℕ → List Method → Type 0
Each c n [] = Unit {0}
Each c n (m ∷ ms) = Answers c (signature (record { 0 = n }) m) × Each c (suc n) ms

pub each-answers : (c : Setting) (n : ℕ) (ms : List Method) (a : Signature) → Each c n ms → Listed n ms a → Answers c a
each-answers c n [] a e l = absurd l
each-answers c n (m ∷ ms) a e (inl i) = subst (λ (q : Signature). Answers c q) i e.0
each-answers c n (m ∷ ms) a e (inr l) = each-answers c (suc n) ms a e.1 l
