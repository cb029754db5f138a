-- Typing in steps: what is known so far, and the steps that change it.
use Rattle.std.specs.Prelude.{◌≡◌, ℕ, ◌+◌, Bool, not, cond, nat_lt, is_some, List, [], ◌∷◌, ◌++◌, length, take, Option, Some, None, Result, Ok, Err}
use Rattle.std.specs.Map.{lookup}
use Rattle.scw_text.specs.declared.number.SymId.{SymId}
use Rattle.scw_text.specs.declared.number.TypeId.{TypeId}
use Rattle.scw_core.specs.Types.{CoreType, same_text}
use Rattle.scw_reader.specs.Syntax.{Name}
use Rattle.scw_reader.specs.declared.failure.Failure.{Failure}
use Rattle.scw_reader.specs.Outcome.{Fails}
use Rattle.scw_reader.specs.declared.tree.TypeName.{TypeName}
use Rattle.scw_small.specs.declared.scope.Signature.{Signature}
use Rattle.scw_small.specs.declared.scope.Variable.{Variable}
use Rattle.scw_small.specs.Typed.{Typed, text}

-- ---- names, each with what it stands for

abbrev pub Named : Type 0 → Type 0
Named A = List (Name × A)

-- what the name stands for
abbrev pub find_name : {A : Type 0} → Name → Named A → Option A
find_name x names = lookup (same_text x) names

-- one more name, which isn't there yet
abbrev pub add_name : {A : Type 0} → Name → A → Named A → Option (Named A)
add_name x a names = cond (is_some (find_name x names)) None (Some (names ++ (x, a) ∷ []))

-- ---- the state

pub record State : Type 0 where
  -- the next symbol that is free
  pub next : ℕ
  -- the types and the texts of the program, so far
  pub types : List CoreType
  pub texts : List (List ℕ)
  -- the parameters and locals of the method, so far
  pub names : Named SymId
  -- those of them that are visible, each from behind its definition to the end of its block (SLS 2)
  pub scope : Named Variable

-- ---- steps

abbrev pub Step : Type 0 → Type 0
Step A = State → Option (A × State)

abbrev pub and_then : {A B : Type 0} → Option (A × State) → (A → Step B) → Option (B × State)
and_then None f = None
and_then (Some p) f = f p.0 p.1

infixl 10 ◌>>=◌
abbrev pub ◌>>=◌ : {A B : Type 0} → Step A → (A → Step B) → Step B
p >>= f = λ s. and_then (p s) f

infixl 10 ◌>>◌
abbrev pub ◌>>◌ : {A B : Type 0} → Step A → Step B → Step B
p >> q = p >>= (λ _. q)

abbrev pub pure : {A : Type 0} → A → Step A
pure a = λ s. Some (a, s)

abbrev pub refuse : {A : Type 0} → Step A
refuse = λ s. None

-- what is there, or nothing
abbrev pub given_in : {A : Type 0} → Option A → State → Option (A × State)
given_in None s = None
given_in (Some a) s = Some (a, s)

abbrev pub given : {A : Type 0} → Option A → Step A
given o = λ s. given_in o s

abbrev pub only_if : Bool → Step (Unit {0})
only_if b = λ s. cond b (Some (tt, s)) None

-- what a function ensures: what the step gives, seen by view, unless memory ran out
abbrev pub Steps : {X Y : Type 0} → (X → Y) → Option (Y × State) → Result X Failure → State → Type 0
Steps view read (Ok x) new = read ≡ Some (view x, new)
Steps view read (Err e) new = Fails e read

-- ---- what changes the state

-- a symbol that is free, of which there are as many as numbers of 64 bits
unfoldable pub fresh : Step SymId
fresh = λ s. cond (nat_lt s.next 18446744073709551615) (Some (record { 0 = s.next }, record s { next = s.next + 1 })) None

-- one more type
unfoldable pub add_type : CoreType → Step TypeId
add_type t = λ s. Some (record { 0 = length s.types }, record s { types = s.types ++ t ∷ [] })

-- one more text, as a literal
unfoldable pub literal_text : List ℕ → Step Typed
literal_text characters = λ s. Some (text (length s.texts), record s { texts = s.texts ++ characters ∷ [] })

-- a method has no names at its beginning
unfoldable pub enter : Step (Unit {0})
enter = λ s. Some (tt, record s { names = []; scope = [] })

-- only the first so many names are visible
unfoldable pub leave : ℕ → Step (Unit {0})
leave n = λ s. Some (tt, record s { scope = take n s.scope })

abbrev pub with_names : State → Option (Named SymId) → Option (Unit {0} × State)
with_names s None = None
with_names s (Some names) = Some (tt, record s { names = names })

-- a name of the method, which has no other such name
unfoldable pub name_symbol : Name → SymId → Step (Unit {0})
name_symbol x n = λ s. with_names s (add_name x n s.names)

abbrev pub with_scope : State → Option (Named Variable) → Option (Unit {0} × State)
with_scope s None = None
with_scope s (Some scope) = Some (tt, record s { scope = scope })

unfoldable pub show_name : Name → Variable → Step (Unit {0})
show_name x v = λ s. with_scope s (add_name x v s.scope)

-- a parameter or local, whose name is that of no method
unfoldable pub define : Named Signature → Name → TypeName → Bool → Step SymId
define methods x t is_assignable = do
  only_if (not (is_some (find_name x methods)))
  n ← fresh
  name_symbol x n
  show_name x (record { symbol = n; kind = t; is_assignable = is_assignable })
  pure n

-- the parameter or local that is visible under the name
abbrev pub visible : Name → Step Variable
visible x = λ s. given_in (find_name x s.scope) s
