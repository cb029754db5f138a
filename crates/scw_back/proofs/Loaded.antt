-- What is known of the program to which the file of a class is linked: its methods, with their code, and its classes.
use Rattle.std.specs.Prelude.{◌≡◌, ℕ, ◌≤◌, Bool, true, false, List, [], ◌∷◌, map, Some, codes, slice_get}
use Rattle.scw_text.specs.declared.number.SymId.{SymId}
use Rattle.scw_classfile.specs.declared.pool_entry.PoolEntry.{PoolEntry}
use Rattle.scw_core.specs.Program as core
use Rattle.scw_core.specs.Program.{in_members, look}
use Rattle.scw_core.specs.Tree.{Tree}
use Rattle.scw_core.specs.declared.class.CoreClass.{CoreClass}
use Rattle.scw_core.specs.declared.class.Member.{Member}
use Rattle.scw_gen.specs.declared.instr.Instr.{Instr}
use Rattle.scw_gen.specs.declared.kind.Kind.{Kind}
use Rattle.scw_gen.specs.declared.pool.MethodName.{MethodName}
use Rattle.scw_gen.specs.Around.{Around}
use Rattle.scw_gen.specs.Instr.{bytes_of}
use Rattle.scw_gen.specs.Method as gen
use Rattle.scw_gen.specs.Method.{Start, body_code, is_method, start_of}
use Rattle.scw_gen.specs.Name.{method_name}
use Rattle.scw_gen.specs.Room.{locals_of, stack_of}
use Rattle.scw_gen.specs.Typed.{kinds_of_parameters}
use Rattle.scw_frame.specs.declared.program.Class.{Class}
use Rattle.scw_frame.specs.declared.program.Method.{Method}
use Rattle.scw_frame.specs.declared.program.Program.{Program}
use Rattle.scw_frame.specs.declared.program.Target.TheVariants as target
use Rattle.scw_frame.specs.declared.value.ValueKind.{ValueKind}
use Rattle.scw_frame.specs.declared.value.ValueKind.TheVariants as value
use Rattle.scw_link.specs.Linked.{launch_code}
use Rattle.scw_step.specs.CallStep.{target_of}
use Rattle.scw_back.proofs.Placed.{Stood, number_of, value_of_kind}

-- what the code of the class's trees depends on, with near or far jumps
abbrev pub around_by : core.Program → CoreClass → List PoolEntry → Bool → Around
around_by p K pool far = record { table = p.table; class = K; pool = pool; is_far = far }

module _ (p : core.Program) (K : CoreClass) (pool : List PoolEntry) (L : Program) where
  abbrev G : Bool → Around
  G far = around_by p K pool far

  -- a method of the linked program, without handlers, in whose code these instructions stand
  pub record IsMethod (number : ℕ) (arguments : List ValueKind) (stack locals : ℕ) (instrs : List Instr) : Type 0 where
    pub method : Method
    pub there : slice_get L.methods number ≡ Some method
    pub arguments_are : method.arguments ≡ arguments
    pub stack_is : method.stack ≡ stack
    pub locals_is : method.locals ≡ locals
    pub guards_are : method.guards ≡ []
    pub stood : Stood p.table K L method 0 instrs

  -- the method that a member is
  pub record Generated (x : SymId) (number : ℕ) : Type 0 where
    pub member : Member
    pub member_there : in_members K.members x ≡ Some member
    pub method_form : is_method member ≡ true
    pub body : Tree
    pub body_there : look p.bodies x ≡ Some body
    pub kinds : List Kind
    pub kinds_are : kinds_of_parameters (G false) member.parameters ≡ Some kinds
    pub far : Bool
    pub start : Start
    pub starts : start_of (G far) member ≡ Some start
    pub instrs : List Instr
    pub made : body_code (G far) start body ≡ Some instrs
    pub is : IsMethod number (value.Reference ∷ map value_of_kind kinds) (stack_of (G far) start.mode body) (locals_of (G far) start.next body) instrs
    -- nothing passes its limit
    pub short : bytes_of instrs ≤ 65535
    pub few : start.next ≤ 255
    pub shallow : stack_of (G far) start.mode body ≤ 65535
    pub narrow : locals_of (G far) start.next body ≤ 65535

  -- a class of the linked program without fields of its own
  pub record IsClass (number : ℕ) (name : List ℕ) (fields : ℕ) : Type 0 where
    pub class : Class
    pub there : slice_get L.classes number ≡ Some class
    pub name_is : class.name ≡ name
    pub fields_are : class.fields ≡ fields

  -- the linked program is that of the class's file
  pub record Loaded (own : List ℕ) : Type 0 where
    pub own_class : IsClass 24 own 0
    pub arithmetic_class : IsClass 11 (codes "java/lang/ArithmeticException") 1
    pub launcher : Method
    pub launcher_there : slice_get L.methods 0 ≡ Some launcher
    pub launcher_code : launcher.code ≡ launch_code (Some (target.Code (record { 0 = 2 })))
    pub launcher_guards : launcher.guards ≡ []
    pub launcher_stack : launcher.stack ≡ 2
    pub constructor : IsMethod 1 (value.Reference ∷ []) 1 1 (gen.constructor (G false)).instrs
    pub getter : IsMethod 2 [] 2 0 (gen.getter (G false)).instrs
    pub members : (x : SymId) (number : ℕ) → number_of K x ≡ Some number → Generated x number
    pub main_kinds : slice_get L.selectors 0 ≡ Some (value.Reference ∷ value.Reference ∷ [])
    pub main_target : (x : SymId) (number : ℕ) (m : Member) (name : MethodName) → number_of K x ≡ Some number → in_members K.members x ≡ Some m → method_name (G false) m ≡ Some name
        → name.name ≡ codes "main" → name.descriptor ≡ codes "([Ljava/lang/String;)V" → target_of L 24 0 ≡ Some (target.Code (record { 0 = number }))
