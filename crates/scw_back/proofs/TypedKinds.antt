-- What is known of the parts of a tree that has a kind.
use Rattle.std.proofs.Common.{◌≡◌, ℕ, Bool, true, false, cond, ◌&&◌, List, [], ◌∷◌, Option, Some, None, refl, sym, ap, ap₂, ◌∙◌, nat_eq, eqb-true}
use Rattle.scw_text.specs.declared.number.TypeId.{TypeId}
use Rattle.scw_core.specs.Tree.{Tree, Trees, info_of, strict, block, and_also, or_else, if_else, while_do, function, thunk, match_on, try_in, label, switch, none, more}
use Rattle.scw_core.specs.declared.operator.Op.{Op}
use Rattle.scw_core.specs.declared.tree.Local.{Local}
use Rattle.scw_gen.specs.declared.kind.Kind.{Kind}
use Rattle.scw_gen.specs.declared.kind.Kind.TheVariants as kind
use Rattle.scw_gen.specs.Around.{Around, kind_in}
use Rattle.scw_gen.specs.Outcome.{◌>>=◌}
use Rattle.scw_gen.specs.Typed.{Known, as_told, behind, exactly, has_text, kind_at_end, kind_of_call, kind_of_call_by, kind_of_choice, kind_of_joined, kind_of_leaf, kind_of_literal, kind_of_op, kind_of_primitive, kind_of_read, kind_of_set, kind_of_statements, kind_of_tree, kinds_of_parameters, kinds_of_trees, known, rank, same_kind, same_kinds, taking}
use Rattle.scw_gen.specs.Typed as typed
use Rattle.scw_gen.proofs.Steps.{bound}

-- ---- kinds that are the same

kind_at_rank : ℕ → Kind
kind_at_rank n = cond (nat_eq n 0) kind.Unit (cond (nat_eq n 1) kind.Boolean (cond (nat_eq n 2) kind.Int (cond (nat_eq n 3) kind.Long (cond (nat_eq n 4) kind.String (cond (nat_eq n 5) kind.Strings kind.This)))))

ranked : (k : Kind) → kind_at_rank (rank k) ≡ k
unfolding kind_at_rank
ranked kind.Unit = refl
ranked kind.Boolean = refl
ranked kind.Int = refl
ranked kind.Long = refl
ranked kind.String = refl
ranked kind.Strings = refl
ranked kind.This = refl

pub same_kind-is : (a b : Kind) → same_kind a b ≡ true → a ≡ b
same_kind-is a b h = sym (ranked a) ∙ ap kind_at_rank (eqb-true (rank a) (rank b) h) ∙ ranked b

both : (x y : Bool) → (x && y) ≡ true → (x ≡ true) × (y ≡ true)
both true y h = (refl, h)
both false y h = absurd (cc)

same_kinds-is : (a b : List Kind) → same_kinds a b ≡ true → a ≡ b
same_kinds-is [] [] h = refl
same_kinds-is [] (l ∷ ls) h = absurd (cc)
same_kinds-is (k ∷ ks) [] h = absurd (cc)
same_kinds-is (k ∷ ks) (l ∷ ls) h = let b = both (same_kind k l) (same_kinds ks ls) h in ap₂ (λ (x : Kind) (xs : List Kind). x ∷ xs) (same_kind-is k l b.0) (same_kinds-is ks ls b.1)

pub some-is : {A : Type 0} (a b : A) → Some a ≡ Some b → a ≡ b
some-is a b h = cc

-- operands are of the kinds that are wanted
pub taking-is : (wanted ks : List Kind) (k l : Kind) → taking wanted ks k ≡ Some l → (wanted ≡ ks) × (k ≡ l)
taking-is wanted ks k l h = by (same_kinds wanted ks) refl h
  where
    by : (b : Bool) → same_kinds wanted ks ≡ b → cond b (Some k) None ≡ Some l → (wanted ≡ ks) × (k ≡ l)
    by true e h = (same_kinds-is wanted ks e, some-is k l h)
    by false e h = absurd (cc)

pub exactly-is : (k : Kind) (o : Option Kind) (l : Kind) → exactly k o ≡ Some l → (o ≡ Some k) × (k ≡ l)
exactly-is k None l h = absurd (cc)
exactly-is k (Some n) l h = by (same_kind k n) refl h
  where
    by : (b : Bool) → same_kind k n ≡ b → cond b (Some k) None ≡ Some l → (Some n ≡ Some k) × (k ≡ l)
    by true e h = (ap Some (sym (same_kind-is k n e)), some-is k l h)
    by false e h = absurd (cc)

module _ (g : Around) where
  pub told-is : (t : TypeId) (k l : Kind) → as_told g t k ≡ Some l → (kind_in g t ≡ Some l) × (k ≡ l)
  told-is t k l h = let e = exactly-is k (kind_in g t) l h in (e.0 ∙ ap Some e.1, e.1)

  -- ---- nodes

  pub record StrictKind (ys : List Known) (o : Op) (ts : Trees) (t : TypeId) (k : Kind) : Type 0 where
    pub kinds : List Kind
    pub operands : kinds_of_trees g ys ts ≡ Some kinds
    pub op_kind : kind_of_op g ys o kinds ≡ Some k
    pub told : kind_in g t ≡ Some k

  pub record BlockKind (ys : List Known) (xs : List Local) (ts : Trees) (t : TypeId) (k : Kind) : Type 0 where
    pub inner : List Known
    pub bound_is : typed.bound g xs ys ≡ Some inner
    pub last : kind_of_statements g inner ts ≡ Some k
    pub told : kind_in g t ≡ Some k

  pub record ChoiceKind (ys : List Known) (a b c : Tree) (t : TypeId) (k : Kind) : Type 0 where
    pub test : kind_of_tree g ys a ≡ Some kind.Boolean
    pub first : kind_of_tree g ys b ≡ Some k
    pub second : kind_of_tree g ys c ≡ Some k
    pub told : kind_in g t ≡ Some k

  pub record LoopKind (ys : List Known) (a b : Tree) (t : TypeId) (k : Kind) : Type 0 where
    pub body_kind : Kind
    pub test : kind_of_tree g ys a ≡ Some kind.Boolean
    pub body : kind_of_tree g ys b ≡ Some body_kind
    pub told : kind_in g t ≡ Some k
    pub unit : kind.Unit ≡ k

  module _ (ys : List Known) where
    pub strict-kind : (o : Op) (ts : Trees) (t : TypeId) (k : Kind) → (kinds_of_trees g ys ts >>= λ ks. kind_of_op g ys o ks >>= as_told g t) ≡ Some k → StrictKind ys o ts t k
    strict-kind o ts t k h =
        let a = bound (kinds_of_trees g ys ts) (λ ks. kind_of_op g ys o ks >>= as_told g t) k h in
        let b = bound (kind_of_op g ys o a.0) (as_told g t) k a.2 in
        let c = told-is t b.0 k b.2 in
        record { kinds = a.0; operands = a.1; op_kind = b.1 ∙ ap Some c.1; told = c.0 }

    pub block-kind : (xs : List Local) (ts : Trees) (t : TypeId) (k : Kind) → (typed.bound g xs ys >>= λ inner. kind_of_statements g inner ts >>= as_told g t) ≡ Some k → BlockKind ys xs ts t k
    block-kind xs ts t k h =
        let a = bound (typed.bound g xs ys) (λ inner. kind_of_statements g inner ts >>= as_told g t) k h in
        let b = bound (kind_of_statements g a.0 ts) (as_told g t) k a.2 in
        let c = told-is t b.0 k b.2 in
        record { inner = a.0; bound_is = a.1; last = b.1 ∙ ap Some c.1; told = c.0 }

    choice-parts : (a b c : Option Kind) (k : Kind) → kind_of_choice a b c ≡ Some k → (a ≡ Some kind.Boolean) × (b ≡ Some k) × (c ≡ Some k)
    choice-parts a b c k h =
        let x = bound (exactly kind.Boolean a) (λ _. c >>= λ l. exactly l b) k h in
        let y = bound c (λ l. exactly l b) k x.2 in
        let z = exactly-is y.0 b k y.2 in
        ((exactly-is kind.Boolean a x.0 x.1).0, z.0 ∙ ap Some z.1, y.1 ∙ ap Some z.1)

    pub choice-kind : (a b c : Tree) (t : TypeId) (k : Kind) → (kind_of_choice (kind_of_tree g ys a) (kind_of_tree g ys b) (kind_of_tree g ys c) >>= as_told g t) ≡ Some k → ChoiceKind ys a b c t k
    choice-kind a b c t k h =
        let x = bound (kind_of_choice (kind_of_tree g ys a) (kind_of_tree g ys b) (kind_of_tree g ys c)) (as_told g t) k h in
        let y = told-is t x.0 k x.2 in
        let z = choice-parts (kind_of_tree g ys a) (kind_of_tree g ys b) (kind_of_tree g ys c) k (x.1 ∙ ap Some y.1) in
        record { test = z.0; first = z.1; second = z.2; told = y.0 }

    pub loop-kind : (a b : Tree) (t : TypeId) (k : Kind) → (exactly kind.Boolean (kind_of_tree g ys a) >>= λ _. kind_of_tree g ys b >>= λ _. as_told g t kind.Unit) ≡ Some k → LoopKind ys a b t k
    loop-kind a b t k h =
        let x = bound (exactly kind.Boolean (kind_of_tree g ys a)) (λ _. kind_of_tree g ys b >>= λ _. as_told g t kind.Unit) k h in
        let y = bound (kind_of_tree g ys b) (λ _. as_told g t kind.Unit) k x.2 in
        let z = told-is t kind.Unit k y.2 in
        record { body_kind = y.0; test = (exactly-is kind.Boolean (kind_of_tree g ys a) x.0 x.1).0; body = y.1; told = z.0; unit = z.1 }

    -- the kind of a tree is that of the type that its node tells
    pub told-kind : (t : Tree) (k : Kind) → kind_of_tree g ys t ≡ Some k → kind_in g (info_of t).type_id ≡ Some k
    unfolding kind_of_tree
    told-kind (strict i o ts) k h = (strict-kind o ts i.type_id k h).told
    told-kind (block i xs ts) k h = (block-kind xs ts i.type_id k h).told
    told-kind (and_also i a b) k h = absurd (cc)
    told-kind (or_else i a b) k h = absurd (cc)
    told-kind (if_else i a b c) k h = (choice-kind a b c i.type_id k h).told
    told-kind (while_do i a b) k h = (loop-kind a b i.type_id k h).told
    told-kind (function i name xs a) k h = absurd (cc)
    told-kind (thunk i a) k h = absurd (cc)
    told-kind (match_on i a cs) k h = absurd (cc)
    told-kind (try_in i a cs fin) k h = absurd (cc)
    told-kind (label i l a) k h = absurd (cc)
    told-kind (switch i a ls ts d) k h = absurd (cc)

    -- the kinds of one operand more
    pub more-kinds : (t : Tree) (ts : Trees) (ks : List Kind) → kinds_of_trees g ys (more t ts) ≡ Some ks → (k : Kind) × (ls : List Kind) × (kind_of_tree g ys t ≡ Some k) × (kinds_of_trees g ys ts ≡ Some ls) × (k ∷ ls ≡ ks)
    unfolding kinds_of_trees
    more-kinds t ts ks h =
        let a = bound (kind_of_tree g ys t) (λ k. kinds_of_trees g ys ts >>= λ ls. Some (k ∷ ls)) ks h in
        let b = bound (kinds_of_trees g ys ts) (λ ls. Some (a.0 ∷ ls)) ks a.2 in
        (a.0, b.0, a.1, b.1, some-is (a.0 ∷ b.0) ks b.2)

    -- without operands there are no kinds
    pub no-kinds : (ts : Trees) → kinds_of_trees g ys ts ≡ Some [] → ts ≡ none
    no-kinds none h = refl
    no-kinds (more t ts) h = let m = more-kinds t ts [] h in let e = m.4 in absurd (cc)

    pub leaf-kind : (ks : List Kind) (o : Option Kind) (k : Kind) → kind_of_leaf ks o ≡ Some k → (ks ≡ []) × (o ≡ Some k)
    leaf-kind [] o k h = (refl, h)
    leaf-kind (l ∷ ls) o k h = absurd (cc)
