-- The methods of a class, with their code: JVMS 4.6, and 2.6.1 for where their parameters stand.
use Rattle.std.specs.Prelude.{ℕ, List, [], ◌∷◌, ◌++◌, Bool, true, false, not, cond, ◌&&◌, map, is_none, nat_le, Option, Some, None}
use Rattle.scw_text.specs.declared.number.SymId.{SymId}
use Rattle.scw_core.specs.Dispatch.{is_concrete}
use Rattle.scw_core.specs.Entry.{is_def, none_of}
use Rattle.scw_core.specs.Program.{look}
use Rattle.scw_core.specs.Tree.{Tree}
use Rattle.scw_core.specs.declared.class.Member.{Member}
use Rattle.scw_core.specs.declared.class.Parameter.{Parameter}
use Rattle.scw_core.specs.declared.tree.Local.{Local}
use Rattle.scw_gen.specs.Outcome.{◌>>=◌}
use Rattle.scw_gen.specs.Around.{Around, kind_in}
use Rattle.scw_gen.specs.Code.{code, joined}
use Rattle.scw_gen.specs.Instr.{bytes_of}
use Rattle.scw_gen.specs.Kind.{word_of}
use Rattle.scw_gen.specs.Mode.{one}
use Rattle.scw_gen.specs.Name.{get_name, method_name, this_init}
use Rattle.scw_gen.specs.Room.{locals_of, slot_behind, stack_of}
use Rattle.scw_gen.specs.Scope.{Scope, from, inside, placed, scope_of}
use Rattle.scw_gen.specs.declared.instr.Instr.{Instr}
use Rattle.scw_gen.specs.declared.instr.Instr.TheVariants as instr
use Rattle.scw_gen.specs.declared.kind.Kind.{Kind}
use Rattle.scw_gen.specs.declared.kind.Kind.TheVariants as kind
use Rattle.scw_gen.specs.declared.kind.Word.TheVariants as word
use Rattle.scw_gen.specs.declared.method.Method as rust
use Rattle.scw_gen.specs.declared.method.Start as rust_start
use Rattle.scw_gen.specs.declared.method.TheConstants.{MAX_NEAR}
use Rattle.scw_gen.specs.declared.mode.Mode.{Mode}
use Rattle.scw_gen.specs.declared.mode.Mode.TheVariants.{Effect, Return}
use Rattle.scw_gen.specs.declared.pool.MethodName.{MethodName}

-- a method of a class file, before its constants have their indices
pub record Method : Type 0 where
  -- the access flags
  pub flags : ℕ
  pub name : List ℕ
  pub descriptor : List ℕ
  pub instrs : List Instr
  -- how deep the operand stack gets, how many local variables there are, and how many of them the object and the arguments take
  pub stack : ℕ
  pub locals : ℕ
  pub arguments : ℕ

abbrev pub method_of_rust : rust.Method → Method
method_of_rust m = record { flags = m.flags; name = m.name; descriptor = m.descriptor; instrs = m.instrs.items; stack = m.stack; locals = m.locals; arguments = m.arguments }

-- ---- members

-- a method with a body, of the object, without type parameters
abbrev pub is_method : Member → Bool
is_method m = is_def m.kind && is_concrete m.body && not m.is_static && is_none m.block && none_of m.type_parameters

-- ---- bodies

-- what the code of a body begins with: its scope, what becomes of its value, what stands behind it, and the first slot behind
-- the parameters
pub record Start : Type 0 where
  pub scope : Scope
  pub mode : Mode
  pub end : Option Instr
  pub next : ℕ

abbrev pub start_of_rust : rust_start.Start → Start
start_of_rust s = record { scope = scope_of s.scope; mode = s.mode; end = s.end; next = s.next }

abbrev pub local_of : Parameter → Local
local_of x = record { symbol = x.symbol; type_id = x.type_id }

-- `this` alone
abbrev pub outermost : Around → Scope
outermost g = record { slots = record { symbol = g.class.this; place = 0; kind = kind.This } ∷ []; next = 1 }

abbrev pub mode_of_body : Kind → Mode
mode_of_body kind.Unit = Effect
mode_of_body kind.Boolean = Return (word_of kind.Boolean)
mode_of_body kind.Int = Return (word_of kind.Int)
mode_of_body kind.Long = Return (word_of kind.Long)
mode_of_body kind.String = Return (word_of kind.String)
mode_of_body kind.Strings = Return (word_of kind.Strings)
mode_of_body kind.This = Return (word_of kind.This)

-- a result of `Unit` is none
abbrev pub end_of_body : Kind → Option Instr
end_of_body kind.Unit = Some instr.ReturnNothing
end_of_body kind.Boolean = None
end_of_body kind.Int = None
end_of_body kind.Long = None
end_of_body kind.String = None
end_of_body kind.Strings = None
end_of_body kind.This = None

abbrev pub started : Around → List Local → Scope → Option Kind → Option Start
started g xs s None = None
started g xs s (Some k) = Some (record { scope = inside s (outermost g); mode = mode_of_body k; end = end_of_body k; next = slot_behind g 1 xs })

abbrev pub start_with : Around → Member → List Local → Option Start
start_with g m xs = placed g.table g.class.symbol (from 1) xs >>= λ s. started g xs s (kind_in g m.result)

-- the parameters stand behind `this`, in order
abbrev pub start_of : Around → Member → Option Start
start_of g m = start_with g m (map local_of m.parameters)

abbrev pub near : Around → Around
near g = record g { is_far = false }

abbrev pub far : Around → Around
far g = record g { is_far = true }

abbrev pub body_code : Around → Start → Tree → Option (List Instr)
body_code g s t = joined (code g s.scope s.mode t) (Some (one s.end))

-- with jumps of 16 bits where they reach
abbrev pub code_of_body : Around → Start → Tree → Option (List Instr)
code_of_body g s t = body_code (near g) s t >>= λ is. cond (nat_le (bytes_of is) MAX_NEAR) (Some is) (body_code (far g) s t)

-- ---- methods

abbrev pub method_with : Around → Start → Tree → List Instr → MethodName → Method
method_with g s t is n = record {
  flags = 1;
  name = n.name;
  descriptor = n.descriptor;
  instrs = is;
  stack = stack_of g s.mode t;
  locals = locals_of g s.next t;
  arguments = s.next;
}

abbrev pub method_by : Around → Member → Tree → Option Method
method_by g m t = start_of g m >>= λ s. code_of_body g s t >>= λ is. method_name g m >>= λ n. Some (method_with g s t is n)

abbrev pub method_in : Around → Member → Option Tree → Option Method
method_in g m None = None
method_in g m (Some t) = method_by g m t

-- the method that a member is
abbrev pub method_of : Around → List (SymId × Tree) → Member → Option Method
method_of g bodies m = cond (is_method m) (method_in g m (look bodies m.symbol)) None

-- `aload_0`, the constructor of `java/lang/Object`, `return`
abbrev pub constructor : Around → Method
constructor g = record {
  flags = 1;
  name = (this_init g).name;
  descriptor = (this_init g).descriptor;
  instrs = instr.Load word.Reference 0 ∷ instr.InitObject ∷ instr.ReturnNothing ∷ [];
  stack = 1;
  locals = 1;
  arguments = 1;
}

-- `new`, `dup`, the constructor, `areturn`
abbrev pub getter : Around → Method
getter g = record {
  flags = 9;
  name = (get_name g).name;
  descriptor = (get_name g).descriptor;
  instrs = instr.New ∷ instr.Dup ∷ instr.InitThis ∷ instr.Return word.Reference ∷ [];
  stack = 2;
  locals = 0;
  arguments = 0;
}

-- methods, and behind them those that members are
unfoldable pub methods_from : Around → List (SymId × Tree) → List Method → List Member → Option (List Method)
methods_from g bodies found [] = Some found
methods_from g bodies found (m ∷ ms) = method_of g bodies m >>= λ x. methods_from g bodies (found ++ x ∷ []) ms

abbrev pub methods_of : Around → List (SymId × Tree) → Option (List Method)
methods_of g bodies = methods_from g bodies (constructor g ∷ getter g ∷ []) g.class.members
