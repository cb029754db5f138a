-- The types of expressions, and the core trees that they mean: one equation for each form (SLS 6). Each expression has one
-- type, and where a place needs a type it is exactly that.
use Rattle.std.specs.Prelude.{ℕ, Bool, true, false, cond, List, [], ◌∷◌, ◌++◌, length, Option, Some, None}
use Rattle.std.specs.Cmp.Lexicographic.{pointwise}
use Rattle.scw_text.specs.declared.number.SymId.{SymId}
use Rattle.scw_core.specs.declared.operator.Literal.TheVariants as literal
use Rattle.scw_core.specs.declared.operator.Op.TheVariants as op
use Rattle.scw_core.specs.Tree.{Tree}
use Rattle.scw_reader.specs.declared.tree.TypeName.{TypeName}
use Rattle.scw_reader.specs.declared.tree.TypeName.TheVariants as type
use Rattle.scw_reader.specs.Syntax as syntax
use Rattle.scw_reader.specs.Syntax.{Name, no_products, more_products, no_atoms, more_atoms, no_expressions, more_expressions, no_statements, more_statements}
use Rattle.scw_small.specs.declared.scope.Signature.{Signature}
use Rattle.scw_small.specs.Symbol.{kind_id}
use Rattle.scw_small.specs.Typed.{Typed, Body, same_kind, leaf, set, printed, blocked, call, this}
use Rattle.scw_small.specs.Typed as node
use Rattle.scw_small.specs.Rule.{plus, times, operated, chosen, repeated}
use Rattle.scw_small.specs.Step.{Named, Step, ◌>>=◌, ◌>>◌, pure, given, only_if, find_name, literal_text, define, leave, visible}

-- ---- names

-- `x` (SLS 6.4)
unfoldable pub used : Name → Step Typed
used x = do
  v ← visible x
  pure (leaf v.kind (op.Local v.symbol))

-- `x = e`: a `var`, and a value of its type (SLS 6.15)
unfoldable pub assigned : Name → Typed → Step Typed
assigned x t = do
  v ← visible x
  only_if v.is_assignable
  only_if (same_kind t.kind v.kind)
  pure (set v.symbol t.tree)

-- the operands of a call so far: the types of the arguments, and behind the receiver their trees
pub record Operands : Type 0 where
  pub kinds : List TypeName
  pub trees : List Tree

abbrev pub no_arguments : Operands
no_arguments = record { kinds = []; trees = this ∷ [] }

abbrev pub one_more : Operands → Typed → Operands
one_more o t = record { kinds = o.kinds ++ t.kind ∷ []; trees = o.trees ++ t.tree ∷ [] }

abbrev pub called_by : Operands → Option Signature → Option Typed
called_by o None = None
called_by o (Some m) = cond (pointwise same_kind o.kinds m.kinds) (Some (call m.symbol m.answer o.trees)) None

-- `m(e, ..)`: a method with parameters of these types (SLS 6.6)
unfoldable pub called : Named Signature → Name → Operands → Option Typed
called methods m o = called_by o (find_name m methods)

-- ---- statements

abbrev pub with_local : Body → SymId → TypeName → Typed → Body
with_local b n t value = record { locals = b.locals ++ record { symbol = n; type_id = kind_id t } ∷ []; trees = b.trees ++ (set n value.tree).tree ∷ [] }

-- `val x: T = e` or `var x: T = e`: the name is visible behind it (SLS 4.1, 4.2, 6.11)
unfoldable pub defined : Named Signature → Body → Name → TypeName → Bool → Typed → Step Body
defined methods b x t is_assignable value = do
  only_if (same_kind value.kind t)
  n ← define methods x t is_assignable
  pure (with_local b n t value)

-- a statement whose value is dropped
abbrev pub dropped : Body → Typed → Body
dropped b t = record { locals = b.locals; trees = b.trees ++ t.tree ∷ [] }

abbrev pub empty_body : Body
empty_body = record { locals = []; trees = [] }

-- the end of a block, at whose beginning so many names were visible: those that it defines are visible no longer
unfoldable pub left : ℕ → Body → Typed → Step Typed
left n b t = leave n >> pure (blocked b t)

-- ---- expressions

module _ (methods : Named Signature) where
  abbrev mutual
    pub expression : syntax.Expression → Step Typed
    expression (syntax.sum p ps) = product p >>= (λ t. products t ps)
    expression (syntax.operation o a b) = atom a >>= (λ t. atom b >>= (λ u. given (operated o t u)))
    expression (syntax.if_else a b c) = expression a >>= (λ t. expression b >>= (λ u. expression c >>= (λ v. given (chosen t u v))))
    expression (syntax.while_do a b) = expression a >>= (λ t. expression b >>= (λ u. given (repeated t u)))
    expression (syntax.block ss e) = λ s. (statements empty_body ss >>= (λ b. expression e >>= (λ t. left (length s.scope) b t))) s
    expression (syntax.assign x e) = expression e >>= (λ t. assigned x t)

    -- further terms of a sum
    pub products : Typed → syntax.Products → Step Typed
    products t no_products = pure t
    products t (more_products p ps) = product p >>= (λ u. given (plus t u) >>= (λ v. products v ps))

    pub product : syntax.Product → Step Typed
    product (syntax.product a as') = atom a >>= (λ t. atoms t as')

    -- further factors of a product
    pub atoms : Typed → syntax.Atoms → Step Typed
    atoms t no_atoms = pure t
    atoms t (more_atoms a as') = atom a >>= (λ u. given (times t u) >>= (λ v. atoms v as'))

    pub atom : syntax.Atom → Step Typed
    atom (syntax.int n) = pure (leaf type.Int (op.Literal (literal.Int n)))
    atom (syntax.long n) = pure (leaf type.Long (op.Literal (literal.Long n)))
    atom (syntax.truth b) = pure (node.truth b)
    atom (syntax.text characters) = literal_text characters
    atom (syntax.name x) = used x
    atom (syntax.call m es) = arguments no_arguments es >>= (λ o. given (called methods m o))
    atom (syntax.print e) = expression e >>= (λ t. pure (printed t))
    atom (syntax.paren e) = expression e

    -- further arguments of a call
    pub arguments : Operands → syntax.Expressions → Step Operands
    arguments o no_expressions = pure o
    arguments o (more_expressions e es) = expression e >>= (λ t. arguments (one_more o t) es)

    -- further statements of a block
    pub statements : Body → syntax.Statements → Step Body
    statements b no_statements = pure b
    statements b (more_statements t ts) = statement b t >>= (λ c. statements c ts)

    pub statement : Body → syntax.Statement → Step Body
    statement b (syntax.val_def x t e) = expression e >>= (λ u. defined methods b x t false u)
    statement b (syntax.var_def x t e) = expression e >>= (λ u. defined methods b x t true u)
    statement b (syntax.plain e) = expression e >>= (λ u. pure (dropped b u))
