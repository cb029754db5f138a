-- What steps do to the list of types: expressions leave it as it is.
use Rattle.std.proofs.Common.{◌≡◌, refl, sym, ap, ◌∙◌, ℕ, Bool, true, false, cond, List, length, Option, Some, None}
use Rattle.scw_reader.specs.Syntax as syntax
use Rattle.scw_reader.specs.Syntax.{no_products, more_products, no_atoms, more_atoms, no_expressions, more_expressions, no_statements, more_statements}
use Rattle.scw_reader.specs.declared.tree.TypeName.{TypeName}
use Rattle.scw_small.specs.declared.scope.Signature.{Signature}
use Rattle.scw_small.specs.declared.scope.Variable.{Variable}
use Rattle.scw_small.specs.Rule.{plus, times}
use Rattle.scw_small.specs.Step.{Named, State, Step, and_then, ◌>>=◌, pure, given, given_in, only_if, literal_text, define, enter, fresh, leave, name_symbol, show_name, with_names, with_scope, add_name, visible, find_name}
use Rattle.scw_small.specs.Typed.{Typed, Body, same_kind, set}
use Rattle.scw_small.specs.Typing.{Operands, used, assigned, defined, left, one_more, no_arguments, empty_body, expression, products, product, atoms, atom, arguments, statements, statement}
use Rattle.scw_text.specs.declared.number.SymId.{SymId}

-- the types are the same after the step
unfoldable pub Stays : {A : Type 0} → Step A → Type 0
Stays {A} p = (s : State) (a : A) (t : State) → p s ≡ Some (a, t) → t.types ≡ s.types

some_is : {A : Type 0} (x y : A) → Some x ≡ Some y → x ≡ y
some_is x y h = cc

test_passed : {A : Type 0} (b : Bool) (x y : A) → cond b (Some x) None ≡ Some y → x ≡ y
test_passed true x y h = some_is x y h
test_passed false x y h = absurd (cc)

pub stays_pure : {A : Type 0} (x : A) → Stays (pure x)
unfolding Stays
stays_pure x s a t h = let e = some_is _ _ h in ap (λ q. q.1.types) (sym e)

-- a step that looks at the state first
stays_within : {A : Type 0} (p : ℕ → Step A) → ((n : ℕ) → Stays (p n)) → Stays (λ s. p (length s.scope) s)
unfolding Stays
stays_within p all s a t h = all (length s.scope) s a t h

pub stays_given : {A : Type 0} (o : Option A) → Stays (given o)
unfolding Stays
stays_given None s a t h = absurd (cc)
stays_given (Some x) s a t h = stays_pure x s a t h

pub stays_only_if : (b : Bool) → Stays (only_if b)
unfolding Stays
stays_only_if true s a t h = stays_pure tt s a t h
stays_only_if false s a t h = absurd (cc)

pub stays_bind : {A B : Type 0} (p : Step A) (f : A → Step B) → Stays p → ((a : A) → Stays (f a)) → Stays (p >>= f)
unfolding Stays
stays_bind {A} {B} p f one two s b t h = by (p s) refl h
  where
    by : (r : Option (A × State)) → p s ≡ r → and_then r f ≡ Some (b, t) → t.types ≡ s.types
    by None e k = absurd (cc)
    by (Some q) e k = two q.0 q.1 b t k ∙ one s q.0 q.1 e

-- ---- what changes the state

pub stays_fresh : Stays fresh
unfolding Stays fresh
stays_fresh s a t h = let e = test_passed _ _ _ h in ap (λ q. q.1.types) (sym e)

stays_text : (characters : List ℕ) → Stays (literal_text characters)
unfolding Stays literal_text
stays_text characters s a t h = let e = some_is _ _ h in ap (λ q. q.1.types) (sym e)

pub stays_enter : Stays enter
unfolding Stays enter
stays_enter s a t h = let e = some_is _ _ h in ap (λ q. q.1.types) (sym e)

stays_leave : (n : ℕ) → Stays (leave n)
unfolding Stays leave
stays_leave n s a t h = let e = some_is _ _ h in ap (λ q. q.1.types) (sym e)

stays_name : (x : List ℕ) (n : SymId) → Stays (name_symbol x n)
unfolding Stays name_symbol
stays_name x n s a t h = by (add_name x n s.names) h
  where
    by : (o : Option (Named SymId)) → with_names s o ≡ Some (a, t) → t.types ≡ s.types
    by None k = absurd (cc)
    by (Some names) k = let e = some_is _ _ k in ap (λ q. q.1.types) (sym e)

stays_show : (x : List ℕ) (v : Variable) → Stays (show_name x v)
unfolding Stays show_name
stays_show x v s a t h = by (add_name x v s.scope) h
  where
    by : (o : Option (Named Variable)) → with_scope s o ≡ Some (a, t) → t.types ≡ s.types
    by None k = absurd (cc)
    by (Some scope) k = let e = some_is _ _ k in ap (λ q. q.1.types) (sym e)

stays_visible : (x : List ℕ) → Stays (visible x)
unfolding Stays
stays_visible x s a t h = by (find_name x s.scope) h
  where
    by : (o : Option Variable) → given_in o s ≡ Some (a, t) → t.types ≡ s.types
    by None k = absurd (cc)
    by (Some v) k = stays_pure v s a t k

module _ (g : Named Signature) where
  pub stays_define : (x : List ℕ) (k : TypeName) (b : Bool) → Stays (define g x k b)
  unfolding define
  stays_define x k b = stays_bind _ _ (stays_only_if _) (λ u. stays_bind _ _ stays_fresh (λ n. stays_bind _ _ (stays_name x n) (λ u. stays_bind _ _ (stays_show x _) (λ u. stays_pure n))))

  stays_defined : (b : Body) (x : List ℕ) (k : TypeName) (m : Bool) (value : Typed) → Stays (defined g b x k m value)
  unfolding defined
  stays_defined b x k m value = stays_bind _ _ (stays_only_if _) (λ u. stays_bind _ _ (stays_define x k m) (λ n. stays_pure _))

  stays_left : (n : ℕ) (b : Body) (value : Typed) → Stays (left n b value)
  unfolding left
  stays_left n b value = stays_bind _ _ (stays_leave n) (λ u. stays_pure _)

  stays_used : (x : List ℕ) → Stays (used x)
  unfolding used
  stays_used x = stays_bind _ _ (stays_visible x) (λ v. stays_pure _)

  stays_assigned : (x : List ℕ) (value : Typed) → Stays (assigned x value)
  unfolding assigned
  stays_assigned x value =
      stays_bind _ _ (stays_visible x) (λ v. stays_bind _ _ (stays_only_if v.is_assignable) (λ u. stays_bind _ _ (stays_only_if (same_kind value.kind v.kind)) (λ u. stays_pure (set v.symbol value.tree))))

  mutual
    pub stays_expression : (e : syntax.Expression) → Stays (expression g e)
    stays_expression (syntax.sum p ps) = stays_bind _ _ (stays_product p) (λ t. stays_products ps t)
    stays_expression (syntax.operation o a b) = stays_bind _ _ (stays_atom a) (λ t. stays_bind _ _ (stays_atom b) (λ u. stays_given _))
    stays_expression (syntax.if_else a b c) = stays_bind _ _ (stays_expression a) (λ t. stays_bind _ _ (stays_expression b) (λ u. stays_bind _ _ (stays_expression c) (λ v. stays_given _)))
    stays_expression (syntax.while_do a b) = stays_bind _ _ (stays_expression a) (λ t. stays_bind _ _ (stays_expression b) (λ u. stays_given _))
    stays_expression (syntax.block ss e) = stays_within _ (λ n. stays_bind _ _ (stays_statements ss empty_body) (λ b. stays_bind _ _ (stays_expression e) (λ t. stays_left n b t)))
    stays_expression (syntax.assign x e) = stays_bind _ _ (stays_expression e) (λ t. stays_assigned x t)

    stays_products : (ps : syntax.Products) (t : Typed) → Stays (products g t ps)
    stays_products no_products t = stays_pure t
    stays_products (more_products p ps) t = stays_bind _ _ (stays_product p) (λ u. stays_bind _ _ (stays_given (plus t u)) (λ v. stays_products ps v))

    stays_product : (p : syntax.Product) → Stays (product g p)
    stays_product (syntax.product a as') = stays_bind _ _ (stays_atom a) (λ t. stays_atoms as' t)

    stays_atoms : (as' : syntax.Atoms) (t : Typed) → Stays (atoms g t as')
    stays_atoms no_atoms t = stays_pure t
    stays_atoms (more_atoms a as') t = stays_bind _ _ (stays_atom a) (λ u. stays_bind _ _ (stays_given (times t u)) (λ v. stays_atoms as' v))

    stays_atom : (a : syntax.Atom) → Stays (atom g a)
    stays_atom (syntax.int n) = stays_pure _
    stays_atom (syntax.long n) = stays_pure _
    stays_atom (syntax.truth b) = stays_pure _
    stays_atom (syntax.text characters) = stays_text characters
    stays_atom (syntax.name x) = stays_used x
    stays_atom (syntax.call m es) = stays_bind _ _ (stays_arguments es no_arguments) (λ o. stays_given _)
    stays_atom (syntax.print e) = stays_bind _ _ (stays_expression e) (λ t. stays_pure _)
    stays_atom (syntax.paren e) = stays_expression e

    stays_arguments : (es : syntax.Expressions) (o : Operands) → Stays (arguments g o es)
    stays_arguments no_expressions o = stays_pure o
    stays_arguments (more_expressions e es) o = stays_bind _ _ (stays_expression e) (λ t. stays_arguments es (one_more o t))

    stays_statements : (ss : syntax.Statements) (b : Body) → Stays (statements g b ss)
    stays_statements no_statements b = stays_pure b
    stays_statements (more_statements t ts) b = stays_bind _ _ (stays_statement t b) (λ c. stays_statements ts c)

    stays_statement : (t : syntax.Statement) (b : Body) → Stays (statement g b t)
    stays_statement (syntax.val_def x k e) b = stays_bind _ _ (stays_expression e) (λ u. stays_defined b x k false u)
    stays_statement (syntax.var_def x k e) b = stays_bind _ _ (stays_expression e) (λ u. stays_defined b x k true u)
    stays_statement (syntax.plain e) b = stays_bind _ _ (stays_expression e) (λ u. stays_pure _)
