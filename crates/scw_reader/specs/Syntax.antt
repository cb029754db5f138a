-- The syntax trees, as data.
use Rattle.std.specs.Prelude.{ℕ, List, Bool}
use Rattle.scw_reader.specs.declared.tree.TypeName.{TypeName}
use Rattle.scw_reader.specs.declared.tree.Operator.{Operator}
use Rattle.scw_reader.specs.declared.tree.Parameter.{Parameter}

-- the characters of a name
abbrev pub Name : Type 0
Name = List ℕ

mutual
  -- an expression: SLS 6
  pub data Expression : Type 0 where
    -- `p + q + ..`, or one product alone
    sum : Product → Products → Expression
    -- `a op b`
    operation : Operator → Atom → Atom → Expression
    -- `if (c) a else b`
    if_else : Expression → Expression → Expression → Expression
    -- `while (c) a`
    while_do : Expression → Expression → Expression
    -- `{ s; t; .. e }`
    block : Statements → Expression → Expression
    -- `x = e`
    assign : Name → Expression → Expression

  -- `a * b * ..`, or one atom alone
  pub data Product : Type 0 where
    product : Atom → Atoms → Product

  -- an expression that can be an operand: SLS 6.3 to 6.6
  pub data Atom : Type 0 where
    -- `7`
    int : ℕ → Atom
    -- `7L`
    long : ℕ → Atom
    -- `true` or `false`
    truth : Bool → Atom
    -- `"text"`
    text : List ℕ → Atom
    -- `x`
    name : Name → Atom
    -- `m(e, f, ..)`
    call : Name → Expressions → Atom
    -- `println(e)`
    print : Expression → Atom
    -- `(e)`
    paren : Expression → Atom

  -- what stands in a block before its last expression: SLS 6.11
  pub data Statement : Type 0 where
    -- `val x: T = e`
    val_def : Name → TypeName → Expression → Statement
    -- `var x: T = e`
    var_def : Name → TypeName → Expression → Statement
    -- `e`
    plain : Expression → Statement

  pub data Products : Type 0 where
    no_products : Products
    more_products : Product → Products → Products

  pub data Atoms : Type 0 where
    no_atoms : Atoms
    more_atoms : Atom → Atoms → Atoms

  pub data Expressions : Type 0 where
    no_expressions : Expressions
    more_expressions : Expression → Expressions → Expressions

  pub data Statements : Type 0 where
    no_statements : Statements
    more_statements : Statement → Statements → Statements

-- `def m(x: T, ..): U = e`: SLS 4.6
pub record Method : Type 0 where
  pub name : Name
  pub parameters : List Parameter
  pub result : TypeName
  pub body : Expression

-- `object Main { .. }`: the methods before `main`, the body of `main`, and the methods behind it
pub record Source : Type 0 where
  pub before : List Method
  pub main : Expression
  pub after : List Method
