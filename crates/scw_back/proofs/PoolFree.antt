-- Types don't depend on the pool.
use Rattle.std.proofs.Common.{◌≡◌, refl, sym, ap, ◌∙◌, false, cond, List, [], ◌∷◌, Option, Some, None}
use Rattle.scw_text.specs.declared.number.SymId.{SymId}
use Rattle.scw_classfile.specs.declared.pool_entry.PoolEntry.{PoolEntry}
use Rattle.scw_core.specs.Program as core
use Rattle.scw_core.specs.Program.{in_members, look}
use Rattle.scw_core.specs.Tree.{Tree, Trees, strict, block, and_also, or_else, if_else, while_do, function, thunk, match_on, try_in, label, switch, none, more}
use Rattle.scw_core.specs.declared.class.CoreClass.{CoreClass}
use Rattle.scw_core.specs.declared.class.Member.{Member}
use Rattle.scw_core.specs.declared.class.Parameter.{Parameter}
use Rattle.scw_core.specs.declared.operator.Op.{Op}
use Rattle.scw_core.specs.declared.operator.Op.TheVariants as op
use Rattle.scw_core.specs.declared.tree.Local.{Local}
use Rattle.scw_gen.specs.declared.kind.Kind.{Kind}
use Rattle.scw_gen.specs.declared.kind.Kind.TheVariants as kind
use Rattle.scw_gen.specs.Around.{Around, kind_in}
use Rattle.scw_gen.specs.Method.{is_method}
use Rattle.scw_gen.specs.Outcome.{◌>>=◌}
use Rattle.scw_gen.specs.Typed.{Known, all_set, as_told, behind, bound, exactly, is_body_typed, is_bound, is_typed, is_typed_by, kind_at_end, kind_of_call, kind_of_choice, kind_of_op, kind_of_statements, kind_of_tree, kinds_of_parameters, kinds_of_trees, known, locals_of, taking, this_known, told}
use Rattle.scw_back.proofs.Loaded.{around_by}
use Rattle.scw_back.proofs.Meanings.{kinds-anywhere}

-- two ways on that agree
same-after : {A B : Type 0} (o : Option A) (f g : A → Option B) → ((a : A) → f a ≡ g a) → (o >>= f) ≡ (o >>= g)
same-after None f g h = refl
same-after (Some a) f g h = h a

module _ (p : core.Program) (K : CoreClass) (pool : List PoolEntry) where
  abbrev with_pool : Around
  with_pool = around_by p K pool false

  abbrev without : Around
  without = around_by p K [] false

  pub kinds-free : (xs : List Parameter) → kinds_of_parameters with_pool xs ≡ kinds_of_parameters without xs
  kinds-free xs = kinds-anywhere with_pool xs ∙ sym (kinds-anywhere without xs)

  pub bound-free : (xs : List Local) (ys : List Known) → bound with_pool xs ys ≡ bound without xs ys
  unfolding bound
  bound-free [] ys = refl
  bound-free (x ∷ xs) ys =
      ap (cond (is_bound (known ys x.symbol)) None)
      (same-after (kind_in with_pool x.type_id) (λ k. bound with_pool xs (record { symbol = x.symbol; kind = k; is_set = false } ∷ ys)) (λ k. bound without xs (record { symbol = x.symbol; kind = k; is_set = false } ∷ ys)) (λ k. bound-free xs (record { symbol = x.symbol; kind = k; is_set = false } ∷ ys)))

  call-free : (ks : List Kind) (m : Option Member) → kind_of_call with_pool ks m ≡ kind_of_call without ks m
  call-free ks None = refl
  call-free ks (Some m) = ap (λ (o : Option (List Kind)). cond (is_method m) (o >>= λ ps. kind_in with_pool m.result >>= taking (kind.This ∷ ps) ks) None) (kinds-free m.parameters)

  op-free : (ys : List Known) (o : Op) (ks : List Kind) → kind_of_op with_pool ys o ks ≡ kind_of_op without ys o ks
  op-free ys (op.Call x) ks = call-free ks (in_members K.members x)
  op-free ys (op.Literal l) ks = refl
  op-free ys (op.Local x) ks = refl
  op-free ys (op.SetLocal x) ks = refl
  op-free ys (op.Primitive o) ks = refl
  op-free ys (op.Run r) ks = refl
  op-free ys _ ks = refl

  mutual
    unfolding kind_of_tree kinds_of_trees kind_of_statements

    pub tree-free : (ys : List Known) (t : Tree) → kind_of_tree with_pool ys t ≡ kind_of_tree without ys t
    tree-free ys (strict i o ts) =
        ap (λ (l : Option (List Kind)). l >>= λ ks. kind_of_op with_pool ys o ks >>= as_told with_pool i.type_id) (trees-free ys ts)
        ∙ same-after (kinds_of_trees without ys ts) (λ ks. kind_of_op with_pool ys o ks >>= as_told with_pool i.type_id) (λ ks. kind_of_op without ys o ks >>= as_told without i.type_id) (λ ks. ap (λ (k : Option Kind). k >>= as_told with_pool i.type_id) (op-free ys o ks))
    tree-free ys (block i xs ts) =
        ap (λ (l : Option (List Known)). l >>= λ inner. kind_of_statements with_pool inner ts >>= as_told with_pool i.type_id) (bound-free xs ys)
        ∙ same-after (bound without xs ys) (λ inner. kind_of_statements with_pool inner ts >>= as_told with_pool i.type_id) (λ inner. kind_of_statements without inner ts >>= as_told without i.type_id) (λ inner. ap (λ (k : Option Kind). k >>= as_told with_pool i.type_id) (statements-free inner ts))
    tree-free ys (and_also i a b) = refl
    tree-free ys (or_else i a b) = refl
    tree-free ys (if_else i a b c) =
        ap (λ x. kind_of_choice x (kind_of_tree with_pool ys b) (kind_of_tree with_pool ys c) >>= as_told with_pool i.type_id) (tree-free ys a)
        ∙ ap (λ x. kind_of_choice (kind_of_tree without ys a) x (kind_of_tree with_pool ys c) >>= as_told with_pool i.type_id) (tree-free ys b)
        ∙ ap (λ x. kind_of_choice (kind_of_tree without ys a) (kind_of_tree without ys b) x >>= as_told with_pool i.type_id) (tree-free ys c)
    tree-free ys (while_do i a b) =
        ap (λ (x : Option Kind). exactly kind.Boolean x >>= λ _. kind_of_tree with_pool ys b >>= λ _. as_told with_pool i.type_id kind.Unit) (tree-free ys a)
        ∙ ap (λ (x : Option Kind). exactly kind.Boolean (kind_of_tree without ys a) >>= λ _. x >>= λ _. as_told with_pool i.type_id kind.Unit) (tree-free ys b)
    tree-free ys (function i name xs a) = refl
    tree-free ys (thunk i a) = refl
    tree-free ys (match_on i a cs) = refl
    tree-free ys (try_in i a cs fin) = refl
    tree-free ys (label i k a) = refl
    tree-free ys (switch i a ks ts d) = refl

    trees-free : (ys : List Known) (ts : Trees) → kinds_of_trees with_pool ys ts ≡ kinds_of_trees without ys ts
    trees-free ys none = refl
    trees-free ys (more t ts) =
        ap (λ (x : Option Kind). x >>= λ k. kinds_of_trees with_pool ys ts >>= λ ks. Some (k ∷ ks)) (tree-free ys t)
        ∙ ap (λ (x : Option (List Kind)). kind_of_tree without ys t >>= λ k. x >>= λ ks. Some (k ∷ ks)) (trees-free ys ts)

    statements-free : (ys : List Known) (ts : Trees) → kind_of_statements with_pool ys ts ≡ kind_of_statements without ys ts
    statements-free ys none = refl
    statements-free ys (more t ts) =
        ap (λ (x : Option Kind). x >>= kind_at_end ts (kind_of_statements with_pool (behind t ys) ts)) (tree-free ys t)
        ∙ ap (λ (x : Option Kind). kind_of_tree without ys t >>= kind_at_end ts x) (statements-free (behind t ys) ts)

  pub body-free : (m : Member) (t : Tree) → is_body_typed with_pool m t ≡ is_body_typed without m t
  body-free m t =
      ap (λ (l : Option (List Known)). told ((l >>= λ ys. Some (all_set ys)) >>= λ ys. kind_of_tree with_pool ys t) (kind_in with_pool m.result)) (bound-free (locals_of m.parameters) (this_known with_pool ∷ []))
      ∙ ap (λ k. told k (kind_in with_pool m.result)) (same-after (bound without (locals_of m.parameters) (this_known without ∷ []) >>= λ ys. Some (all_set ys)) (λ ys. kind_of_tree with_pool ys t) (λ ys. kind_of_tree without ys t) (λ ys. tree-free ys t))

  by-body : (m : Member) (t : Option Tree) → is_typed_by with_pool m t ≡ is_typed_by without m t
  by-body m None = refl
  by-body m (Some t) = body-free m t

  pub typed-free : (bodies : List (SymId × Tree)) (m : Member) → is_typed with_pool bodies m ≡ is_typed without bodies m
  typed-free bodies m = by-body m (look bodies m.symbol)
