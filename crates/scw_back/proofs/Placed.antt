-- What the instructions of a generated file are to the machine, and where they stand in a method's code (JVMS 6.5).
use Rattle.std.specs.Prelude.{◌≡◌, ℕ, zero, suc, ◌+◌, ◌-◌, ◌≤◌, ℤ, Bool, true, false, List, [], ◌∷◌, map, Option, Some, None, slice_get, position}
use Rattle.std.specs.Int.{w32, cast_unsigned}
use Rattle.std.specs.List.{list_all}
use Rattle.std.specs.Option.{option_map}
use Rattle.scw_text.specs.declared.number.SymId.{SymId}
use Rattle.scw_value.specs.declared.arithmetic.Arithmetic.{Arithmetic}
use Rattle.scw_value.specs.declared.comparison.Comparison.{Comparison}
use Rattle.scw_value.specs.declared.division.Division.{Division}
use Rattle.scw_text.specs.Modified.{is_unit}
use Rattle.scw_core.specs.Program.{Table, in_members, text_at}
use Rattle.scw_core.specs.Types.{same_symbol}
use Rattle.scw_core.specs.declared.class.CoreClass.{CoreClass}
use Rattle.scw_core.specs.declared.class.Member.{Member}
use Rattle.scw_core.specs.declared.operator.TextId.{TextId}
use Rattle.scw_core.specs.declared.operator.Width.{Width}
use Rattle.scw_core.specs.declared.operator.Width.TheVariants as width
use Rattle.scw_gen.specs.declared.instr.BuiltIn.{BuiltIn}
use Rattle.scw_gen.specs.declared.instr.BuiltIn.TheVariants as built
use Rattle.scw_gen.specs.declared.instr.Compared.{Compared}
use Rattle.scw_gen.specs.declared.instr.Compared.TheVariants as compared
use Rattle.scw_gen.specs.declared.instr.Constant.TheVariants as constant
use Rattle.scw_gen.specs.declared.instr.Instr.{Instr}
use Rattle.scw_gen.specs.declared.instr.Instr.TheVariants as instr
use Rattle.scw_gen.specs.declared.kind.Kind.{Kind}
use Rattle.scw_gen.specs.declared.kind.Word.{Word}
use Rattle.scw_gen.specs.declared.kind.Word.TheVariants as word
use Rattle.scw_gen.specs.Around.{Around}
use Rattle.scw_gen.specs.Instr.{size_of}
use Rattle.scw_gen.specs.Kind.{word_of}
use Rattle.scw_gen.specs.Mode.{bit}
use Rattle.scw_gen.specs.Typed.{kinds_of_parameters}
use Rattle.scw_frame.specs.declared.operation.BuiltIn.TheVariants as machine
use Rattle.scw_frame.specs.declared.operation.Operation.{Operation}
use Rattle.scw_frame.specs.declared.operation.Operation.TheVariants as op
use Rattle.scw_frame.specs.declared.operation.Primitive.TheVariants as primitive
use Rattle.scw_frame.specs.declared.operation.StackOperation.TheVariants as stack
use Rattle.scw_frame.specs.declared.program.Method.{Method}
use Rattle.scw_frame.specs.declared.program.Program.{Program}
use Rattle.scw_frame.specs.declared.program.Target.TheVariants as target
use Rattle.scw_frame.specs.declared.value.Value.TheVariants.{Int, Long}
use Rattle.scw_frame.specs.declared.value.ValueKind.{ValueKind}
use Rattle.scw_frame.specs.declared.value.ValueKind.TheVariants as value
use Rattle.scw_step.specs.CallStep.{target_of}

-- ---- kinds and operators of the machine

abbrev pub value_of_word : Word → ValueKind
value_of_word word.Int = value.Int
value_of_word word.Long = value.Long
value_of_word word.Reference = value.Reference

abbrev pub value_of_kind : Kind → ValueKind
value_of_kind k = value_of_word (word_of k)

abbrev pub arithmetic_of : Width → Arithmetic → Operation
arithmetic_of width.Int o = op.IntArithmetic o
arithmetic_of width.Long o = op.LongArithmetic o

abbrev pub division_of : Width → Division → Operation
division_of width.Int o = op.IntDivision o
division_of width.Long o = op.LongDivision o

-- a jump to a place where a comparison holds
abbrev pub jump_when : Compared → Comparison → ℕ → Operation
jump_when compared.Zero c to = op.JumpIfZero c to
jump_when compared.Two c to = op.JumpIfInts c to

-- ---- methods

-- the number of the method that a member of the class is: before the members' stand the launcher, the constructor and the
-- accessor of the object
abbrev pub number_of : CoreClass → SymId → Option ℕ
number_of K x = option_map (λ j. 3 + j) (position (λ (m : Member). same_symbol m.symbol x) K.members)

-- the classes of the machine's own whose objects generated code asks for their texts: String, the boxes and Unit
abbrev pub has_machine_text : ℕ → Bool
has_machine_text (suc zero) = true
has_machine_text (suc (suc zero)) = true
has_machine_text (suc (suc (suc zero))) = true
has_machine_text (suc (suc (suc (suc (suc zero))))) = true
has_machine_text (suc (suc (suc (suc (suc (suc zero)))))) = true
has_machine_text _ = false

-- what the kinds of a class's types depend on
abbrev pub plain_around : Table → CoreClass → Around
plain_around T K = record { table = T; class = K; pool = []; is_far = false }

-- ---- instructions

-- a method of the machine's own that is static
abbrev pub static_built_in : BuiltIn → Option Operation
static_built_in built.Print = Some (op.CallStatic (target.BuiltIn machine.Print))
static_built_in built.Concat = Some (op.CallStatic (target.BuiltIn machine.Concat))
static_built_in built.Unit = Some (op.CallStatic (target.BuiltIn machine.Unit))
static_built_in built.BoxBoolean = Some (op.CallStatic (target.BuiltIn (machine.Box primitive.Boolean)))
static_built_in built.BoxInt = Some (op.CallStatic (target.BuiltIn (machine.Box primitive.Int)))
static_built_in built.BoxLong = Some (op.CallStatic (target.BuiltIn (machine.Box primitive.Long)))
static_built_in built.ToString = None

module _ (T : Table) (K : CoreClass) (L : Program) where
  -- the selector, whose calls have arguments of these kinds, leads to the method of a member of the class
  pub record Selects (x : SymId) (selector : ℕ) : Type 0 where
    pub kinds : List ValueKind
    pub number : ℕ
    pub kinds_are : slice_get L.selectors selector ≡ Some kinds
    pub number_is : number_of K x ≡ Some number
    pub target_is : target_of L 24 selector ≡ Some (target.Code (record { 0 = number }))
    -- the kinds are those of the object and of the member's parameters
    pub arguments_are : (m : Member) (ks : List Kind) → in_members K.members x ≡ Some m → kinds_of_parameters (plain_around T K) m.parameters ≡ Some ks → kinds ≡ value.Reference ∷ map value_of_kind ks

  -- the selector leads to the text of an object of each class of the machine's own that has one
  pub record SelectsText (selector : ℕ) : Type 0 where
    pub kinds_are : slice_get L.selectors selector ≡ Some (value.Reference ∷ [])
    pub target_is : (c : ℕ) → has_machine_text c ≡ true → target_of L c selector ≡ Some (target.BuiltIn machine.ToString)

  -- the text with the number is that of a constant of the program
  pub record LoadsText (t : TextId) (number : ℕ) : Type 0 where
    pub text : List ℕ
    pub text_is : text_at T t ≡ Some text
    pub there : slice_get L.texts number ≡ Some text
    pub units : list_all is_unit text ≡ true

  -- an instruction at a place, as the machine knows it
  pub data Means : ℕ → Instr → Operation → Type 0 where
    m_number : {pc : ℕ} (n : ℤ) → Means pc (instr.Number n) (op.Push (Int (cast_unsigned w32 n)))
    m_int : {pc : ℕ} (n : ℕ) → Means pc (instr.Constant (constant.Int n)) (op.Push (Int n))
    m_wide_int : {pc : ℕ} (n : ℕ) → Means pc (instr.WideConstant (constant.Int n)) (op.Push (Int n))
    m_text : {pc : ℕ} {t : TextId} (x : ℕ) → LoadsText t x → Means pc (instr.Constant (constant.Text t)) (op.PushText (record { 0 = x }))
    m_wide_text : {pc : ℕ} {t : TextId} (x : ℕ) → LoadsText t x → Means pc (instr.WideConstant (constant.Text t)) (op.PushText (record { 0 = x }))
    m_long_bit : {pc : ℕ} (b : Bool) → Means pc (instr.LongBit b) (op.Push (Long (bit b)))
    m_long : {pc : ℕ} (n : ℕ) → Means pc (instr.LongConstant n) (op.Push (Long n))
    m_load : {pc : ℕ} (w : Word) (n : ℕ) → Means pc (instr.Load w n) (op.Load (value_of_word w) n)
    m_store : {pc : ℕ} (w : Word) (n : ℕ) → Means pc (instr.Store w n) (op.Store (value_of_word w) n)
    m_arithmetic : {pc : ℕ} (w : Width) (o : Arithmetic) → Means pc (instr.Arithmetic w o) (arithmetic_of w o)
    m_division : {pc : ℕ} (w : Width) (o : Division) → Means pc (instr.Division w o) (division_of w o)
    m_compare : {pc : ℕ} → Means pc instr.CompareLongs op.CompareLongs
    m_pop : {pc : ℕ} → Means pc instr.Pop (op.Stack stack.Pop)
    m_pop_two : {pc : ℕ} → Means pc instr.PopTwo (op.Stack stack.PopTwo)
    m_dup : {pc : ℕ} → Means pc instr.Dup (op.Stack stack.Duplicate)
    m_branch : {pc : ℕ} (k : Compared) (c : Comparison) (way : ℕ) → Means pc (instr.Branch k c way) (jump_when k c (pc + way))
    m_goto : {pc : ℕ} (way : ℕ) → Means pc (instr.Goto way) (op.Jump (pc + way))
    m_far_goto : {pc : ℕ} (way : ℕ) → Means pc (instr.FarGoto way) (op.Jump (pc + way))
    m_back : {pc : ℕ} (way : ℕ) → way ≤ pc → Means pc (instr.Back way) (op.Jump (pc - way))
    m_far_back : {pc : ℕ} (way : ℕ) → way ≤ pc → Means pc (instr.FarBack way) (op.Jump (pc - way))
    m_return : {pc : ℕ} (w : Word) → Means pc (instr.Return w) (op.ReturnValue (value_of_word w))
    m_return_nothing : {pc : ℕ} → Means pc instr.ReturnNothing op.Return
    m_call : {pc : ℕ} {x : SymId} (selector : ℕ) → Selects x selector → Means pc (instr.Call x) (op.CallVirtual (record { 0 = selector }))
    m_static : {pc : ℕ} (b : BuiltIn) (o : Operation) → static_built_in b ≡ Some o → Means pc (instr.CallBuiltIn b) o
    m_to_string : {pc : ℕ} (selector : ℕ) → SelectsText selector → Means pc (instr.CallBuiltIn built.ToString) (op.CallVirtual (record { 0 = selector }))
    m_init_object : {pc : ℕ} → Means pc instr.InitObject (op.CallSpecial (target.BuiltIn machine.ObjectInit))
    m_init_this : {pc : ℕ} → Means pc instr.InitThis (op.CallSpecial (target.Code (record { 0 = 1 })))
    m_new : {pc : ℕ} → Means pc instr.New (op.New (record { 0 = 24 }))

  -- the instruction that begins at a place of a method, and the place behind it
  abbrev pub At : Method → ℕ → Operation → ℕ → Type 0
  At m pc o next = slice_get m.code pc ≡ Some (record { operation = o; next = next })

  pub record StandsAt (m : Method) (pc : ℕ) (i : Instr) : Type 0 where
    pub operation : Operation
    pub means : Means pc i operation
    pub there : At m pc operation (pc + size_of i)

  -- these instructions stand in the method's code from the place on
  abbrev pub Stood : Method → ℕ → List Instr → Type 0
  Stood m pc [] = Unit {0}
  Stood m pc (i ∷ is) = StandsAt m pc i × Stood m (pc + size_of i) is
