-- Small programs with classes, traits, lazy values and exceptions compute.
use Rattle.std.proofs.Common.{◌≡◌, refl, ℕ, List, [], ◌∷◌, ◌++◌, None, codes, decimal}
use Rattle.scw_value.specs.declared.arithmetic.Arithmetic.TheVariants.{Add}
use Rattle.scw_value.specs.declared.comparison.Comparison.TheVariants.{Equal}
use Rattle.scw_core.specs.declared.symbol.TheConstants.{ANY, ANY_REF, GET_MESSAGE, RUNTIME_EXCEPTION}
use Rattle.scw_core.specs.declared.class.BodyKind.TheVariants.{Deferred, Written}
use Rattle.scw_core.specs.declared.class.ClassKind.TheVariants as kind
use Rattle.scw_core.specs.declared.class.CoreClass.{CoreClass}
use Rattle.scw_core.specs.declared.class.Member.{Member}
use Rattle.scw_core.specs.declared.class.MemberKind.TheVariants.{Val, Var, LazyVal, Def}
use Rattle.scw_core.specs.declared.class.OverridePair.{OverridePair}
use Rattle.scw_core.specs.declared.operator.Literal.TheVariants as literal
use Rattle.scw_core.specs.declared.operator.Op.TheVariants as op
use Rattle.scw_core.specs.declared.operator.Primitive.TheVariants as prim
use Rattle.scw_core.specs.declared.operator.Width.TheVariants.{Int}
use Rattle.scw_core.specs.Tree.{Tree, Trees, none, more, block, if_else, match_on, try_in, bind, of_type, equal, no_cases, more_cases}
use Rattle.scw_text.specs.declared.number.SymId.{SymId}
use Rattle.scw_core.specs.Program as core
use Rattle.scw_core.specs.Program.{Program, Template, look, head_of, type_at, text_at, in_classes}
use Rattle.scw_core.specs.Types.{same_erased}
use Rattle.scw_core.specs.BuiltIn.{built_in_line, built_in_name, class_erased, built_in_member}
use Rattle.scw_core.specs.Erasure.{line_of, derives, is_trait, dominator, upper_erased, erased_along, erased, parameter_erased, signature, signature_of, within}
use Rattle.scw_core.specs.Dispatch.{best, dispatch_in, dispatch, after, super_dispatch, superclass_of, mixins_of}
use Rattle.scw_core.specs.State as state
use Rattle.scw_core.specs.State.{put, module_at, static_at, values_of, read_slot, write_slot, bind_all}
use Rattle.scw_core.specs.Number.{difference}
use Rattle.scw_core.specs.Frame.{under, with_given}
use Rattle.scw_core.specs.Object.{fields_along, object_units, make, throw_new, at_reference, in_range, array_new}
use Rattle.scw_core.specs.TypeTest.{value_is, coerced, coerce_all}
use Rattle.scw_core.specs.Text.{binary_name, descriptor, message_in}
use Rattle.scw_core.specs.Call.{enter, run_body, get_lazy, run_member, run_found, call_built_in, call_member, apply_function, call_on, direct_on, super_on, static_on}
use Rattle.scw_core.specs.Create.{inner_bound, create, new_inner, get_module}
use Rattle.scw_core.specs.Act.{equal_act, text_act, concat_second, concat_act, substring, primitive_act, act}
use Rattle.scw_core.specs.Begin.{begin_tree, go_types, begin_pattern, chosen}
use Rattle.scw_core.specs.Template.{after_super, with_prefix, begin_template, begin_mixin}
use Rattle.scw_core.specs.React.{begin, give_back, give_to, react}
use Rattle.scw_core.specs.Run.{land_act, land, resume, step, steps}
use Rattle.scw_value.specs.Text.{utf8}
use Rattle.scw_core.specs.Seen.{End, normal, thrown, written_by, seen}
use Rattle.scw_core.specs.Entry.{main_of, member_entered, start, source_run}
use Rattle.scw_core.proofs.Small.{sym, here, member, method, parameter, class_of, main_class, int_type, void_type, strings_type, string_type, object_type, exception_type, empty_template, node, one, two, number, text, local, apply, concat, print_line, program_of}

abbrev main_method : Member
main_method = method 42 (codes "main") (parameter 43 strings_type ∷ []) void_type

abbrev pair : ℕ → ℕ → OverridePair
pair m n = record { overriding = sym m; overridden = sym n }

abbrev template : Trees → Template
template ts = record { prefixes = []; arguments = none; statements = ts }

abbrev empty_for : ℕ → SymId × Template
empty_for c = (sym c, empty_template)

-- ---- mixins: `abstract class W { def w(s: String): Unit }`, `class P extends W { def w(s: String): Unit = println(s) }`,
-- `trait A extends W { abstract override def w(s: String): Unit = super.w("a" + s) }`, the same for B with `"b"`; a `main` of
-- `(new P with A with B).w("x")`

abbrev w_of : ℕ → ℕ → Member
w_of m x = method m (codes "w") (parameter x string_type ∷ []) void_type

abbrev w_class : CoreClass
w_class = class_of 50 (codes "W") kind.Class (sym 50 ∷ ANY_REF ∷ ANY ∷ []) [] [] (member 80 (codes "w") Def (parameter 81 string_type ∷ []) void_type Deferred ∷ [])

abbrev p_class : CoreClass
p_class = class_of 52 (codes "P") kind.Class (sym 52 ∷ sym 50 ∷ ANY_REF ∷ ANY ∷ []) (pair 82 80 ∷ []) [] (w_of 82 83 ∷ [])

abbrev a_class : CoreClass
a_class = class_of 54 (codes "A") kind.Trait (sym 54 ∷ sym 50 ∷ ANY_REF ∷ ANY ∷ []) (pair 84 80 ∷ []) [] (w_of 84 85 ∷ [])

abbrev b_class : CoreClass
b_class = class_of 56 (codes "B") kind.Trait (sym 56 ∷ sym 50 ∷ ANY_REF ∷ ANY ∷ []) (pair 86 80 ∷ []) [] (w_of 86 87 ∷ [])

abbrev x_class : CoreClass
x_class =
    class_of 58 (codes "Main$$anon$1") kind.Class (sym 58 ∷ sym 56 ∷ sym 54 ∷ sym 52 ∷ sym 50 ∷ ANY_REF ∷ ANY ∷ [])
    (pair 82 80 ∷ pair 84 82 ∷ pair 84 80 ∷ pair 86 84 ∷ pair 86 82 ∷ pair 86 80 ∷ []) [] []

abbrev super_w : ℕ → ℕ → ℕ → Tree
super_w c t x = node (op.Super (sym c) (sym 80)) (one (concat (text t) (local x)))

abbrev mixing : Program
mixing =
    program_of (main_class (main_method ∷ []) ∷ w_class ∷ p_class ∷ a_class ∷ b_class ∷ x_class ∷ [])
    ((sym 82, print_line (local 83)) ∷ (sym 84, super_w 54 3 85) ∷ (sym 86, super_w 56 4 87) ∷ (sym 42, node (op.Call (sym 80)) (two (node (op.New (sym 58)) none) (text 5))) ∷ [])
    (empty_for 40 ∷ empty_for 50 ∷ empty_for 52 ∷ empty_for 54 ∷ empty_for 56 ∷ empty_for 58 ∷ [])

-- ---- initialisation: `trait T[A] { def mk: A; def early: Unit; early; val v: A = mk }`,
-- `class C extends T[Int] { def mk = 5; def early: Unit = println(v + 0); println(v) }`, and a `main` of `new C`

abbrev t_class : CoreClass
t_class =
    class_of 50 (codes "T") kind.Trait (sym 50 ∷ ANY_REF ∷ ANY ∷ []) [] []
    (member 60 (codes "mk") Def [] object_type Deferred ∷ member 61 (codes "early") Def [] void_type Deferred ∷ member 62 (codes "v") Val [] object_type Written ∷ [])

abbrev c_class : CoreClass
c_class =
    class_of 52 (codes "C") kind.Class (sym 52 ∷ sym 50 ∷ ANY_REF ∷ ANY ∷ []) (pair 63 60 ∷ pair 64 61 ∷ []) []
    (method 63 (codes "mk") [] int_type ∷ method 64 (codes "early") [] void_type ∷ [])

abbrev send : ℕ → ℕ → Tree
send m this = node (op.Call (sym m)) (one (local this))

abbrev v_of : ℕ → Tree
v_of this = node (op.Coerce int_type) (one (send 62 this))

abbrev initialising : Program
initialising =
    program_of (main_class (main_method ∷ []) ∷ t_class ∷ c_class ∷ [])
    ((sym 62, node (op.Get (sym 62)) (one (local 51))) ∷ (sym 63, number 5) ∷ (sym 64, print_line (apply (prim.Arithmetic Int Add) (v_of 53) (number 0))) ∷ (sym 42, node (op.New (sym 52)) none) ∷ [])
    (empty_for 40
    ∷ (sym 50, template (two (send 61 51) (node (op.Set (sym 62)) (two (local 51) (send 60 51)))))
    ∷ (sym 52, template (one (print_line (v_of 53)))) ∷ [])

-- ---- a lazy value: in Main `var n = 0; lazy val z: Int = { n = n + 1; if (n == 1) throw new RuntimeException("once"); n }`, and
-- a `main` of `try println(z) catch { case e: RuntimeException => println(e.getMessage) }` and `println(z)`

abbrev n_value : Tree
n_value = node (op.Get (sym 60)) (one (local 41))

abbrev z_body : Tree
z_body =
    block here []
    (more (node (op.Set (sym 60)) (two (local 41) (apply (prim.Arithmetic Int Add) n_value (number 1))))
    (two (if_else here (apply (prim.Comparison Int Equal) n_value (number 1)) (node op.Throw (one (node (op.New RUNTIME_EXCEPTION) (one (text 6))))) (node (op.Literal literal.Unit) none))
    n_value))

abbrev print_z : Tree
print_z = print_line (node (op.LazyGet (sym 61)) (one (local 41)))

abbrev catching : Tree
catching =
    try_in here print_z
    (more_cases (record { symbol = sym 70; type_id = exception_type } ∷ []) (bind here (sym 70) (of_type here (exception_type ∷ []))) none
    (print_line (node (op.Call GET_MESSAGE) (one (local 70)))) no_cases) none

abbrev delaying : Program
delaying =
    program_of (main_class (main_method ∷ member 60 (codes "n") Var [] int_type Written ∷ member 61 (codes "z") LazyVal [] int_type Written ∷ []) ∷ [])
    ((sym 61, z_body) ∷ (sym 42, block here [] (two catching print_z)) ∷ [])
    ((sym 40, template (one (node (op.Set (sym 60)) (two (local 41) (number 0))))) ∷ [])

-- ---- `finally`: `try { 3 match { case 1 => println("one") } } finally println("f")`

abbrev failing : Program
failing =
    program_of (main_class (main_method ∷ []) ∷ [])
    ((sym 42, try_in here (match_on here (number 3) (more_cases [] (equal here (number 1)) none (print_line (text 7)) no_cases)) no_cases (one (print_line (text 2)))) ∷ [])
    (empty_for 40 ∷ [])

-- ---- parameters: `class A { println(m); def m: Int = 0 }`, `class B(val x: Int) extends A { override def m = x }`, and a `main`
-- of `new B(7)`

abbrev above_class : CoreClass
above_class = class_of 50 (codes "A") kind.Class (sym 50 ∷ ANY_REF ∷ ANY ∷ []) [] [] (method 60 (codes "m") [] int_type ∷ [])

abbrev below_class : CoreClass
below_class =
    class_of 52 (codes "B") kind.Class (sym 52 ∷ sym 50 ∷ ANY_REF ∷ ANY ∷ []) (pair 62 60 ∷ []) (parameter 61 int_type ∷ [])
    (member 61 (codes "x") Val [] int_type Written ∷ method 62 (codes "m") [] int_type ∷ [])

abbrev passing : Program
passing =
    program_of (main_class (main_method ∷ []) ∷ above_class ∷ below_class ∷ [])
    ((sym 60, number 0) ∷ (sym 61, node (op.Get (sym 61)) (one (local 53))) ∷ (sym 62, send 61 53) ∷ (sym 42, node (op.New (sym 52)) (one (number 7))) ∷ [])
    (empty_for 40 ∷ (sym 50, template (one (print_line (send 60 51)))) ∷ empty_for 52 ∷ [])

-- ---- what they show

abbrev Shows : Program → ℕ → List ℕ → End → Type 0
Shows p n bytes end = source_run p (main_of (sym 40)) n ≡ record { out = bytes; end = end }

-- the line of a text
abbrev line : List ℕ → List ℕ
line us = utf8 (([] ++ us) ++ codes "\n")

shown :
    Shows mixing 60 (line (codes "abx") ++ []) normal
    × Shows initialising 80 (line (decimal 0) ++ (line (decimal 5) ++ [])) normal
    × Shows delaying 80 (line (codes "once") ++ (line (decimal 2) ++ [])) normal
    × Shows failing 40 (line (codes "f") ++ []) (thrown (codes "scala/MatchError") None)
    × Shows passing 40 (line (decimal 7) ++ []) normal
unfolding look core.class_of head_of type_at text_at in_classes built_in_line built_in_name class_erased built_in_member line_of derives is_trait dominator upper_erased erased_along erased parameter_erased signature signature_of within best dispatch_in dispatch after super_dispatch superclass_of mixins_of put module_at static_at values_of read_slot write_slot state.bind bind_all difference under with_given fields_along object_units make throw_new at_reference in_range array_new value_is coerced coerce_all binary_name descriptor message_in enter run_body get_lazy run_member run_found call_built_in call_member apply_function call_on direct_on super_on static_on inner_bound create new_inner get_module equal_act text_act concat_second concat_act substring primitive_act act begin_tree go_types begin_pattern chosen after_super with_prefix begin_template begin_mixin begin give_back give_to react land_act land resume step steps written_by seen member_entered start source_run same_erased utf8
shown = (refl, refl, refl, refl, refl)
