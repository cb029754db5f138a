-- Whole syntax trees: their programs, and what these print.
use Rattle.std.proofs.Common.{◌≡◌, refl, ap, ◌∙◌, ℕ, List, [], ◌∷◌, ◌++◌, Option, Some, option_map, codes, lit<, decimal}
use Rattle.std.proofs.lemmas.Fmt.{decimal_digit}
use Rattle.scw_reader.specs.Syntax.{Source, Expression, Product, Atom, Method, sum, operation, if_else, product, int, name, call, print, no_products, more_products, no_atoms, more_atoms, no_expressions, more_expressions, block, while_do, assign, var_def, plain, no_statements, more_statements, text}
use Rattle.scw_reader.specs.declared.tree.Operator.TheVariants.{Less, Subtract}
use Rattle.scw_reader.specs.declared.tree.TypeName.TheVariants as type
use Rattle.scw_core.specs.Types.{same_erased}
use Rattle.scw_core.specs.BuiltIn.{built_in_line, built_in_name, class_erased, built_in_member}
use Rattle.scw_core.specs.Erasure.{line_of, derives, is_trait, dominator, upper_erased, erased_along, erased, parameter_erased, signature, signature_of, within}
use Rattle.scw_core.specs.Dispatch.{best, dispatch_in, dispatch, after, super_dispatch, superclass_of, mixins_of}
use Rattle.scw_core.specs.State.{put, module_at, static_at, values_of, read_slot, write_slot, bind, bind_all}
use Rattle.scw_core.specs.Number.{difference}
use Rattle.scw_core.specs.Frame.{under, with_given}
use Rattle.scw_core.specs.Object.{fields_along, object_units, make, throw_new, at_reference, in_range, array_new}
use Rattle.scw_core.specs.TypeTest.{value_is, coerced, coerce_all}
use Rattle.scw_core.specs.Text.{binary_name, descriptor, message_in}
use Rattle.scw_core.specs.Call.{enter as enter_body, run_body, get_lazy, run_member, run_found, call_built_in, call_member, apply_function, call_on, direct_on, super_on, static_on}
use Rattle.scw_core.specs.Create.{inner_bound, create, new_inner, get_module}
use Rattle.scw_core.specs.Act.{equal_act, text_act, concat_second, concat_act, substring, primitive_act, act}
use Rattle.scw_core.specs.Begin.{begin_tree, go_types, begin_pattern, chosen as chosen_case}
use Rattle.scw_core.specs.Template.{after_super, with_prefix, begin_template, begin_mixin}
use Rattle.scw_core.specs.React.{begin, give_back, give_to, react}
use Rattle.scw_core.specs.Run.{land_act, land, resume, step, steps}
use Rattle.scw_core.specs.Seen.{Seen, normal, written_by, seen}
use Rattle.scw_core.specs.Entry.{main_of, member_entered, start, source_run}
use Rattle.scw_value.specs.Text.{utf8}
use Rattle.scw_core.specs.Program.{look, class_of, head_of, type_at, text_at, in_classes}
use Rattle.scw_small.specs.declared.symbol.TheConstants.{MAIN_OBJECT}
use Rattle.scw_small.specs.Rule.{times, plus, and_also, or_else, operated, chosen, repeated}
use Rattle.scw_small.specs.Step.{fresh, add_type, literal_text, enter, leave, name_symbol, show_name, define}
use Rattle.scw_small.specs.Typing.{used, assigned, called, defined, left}
use Rattle.scw_small.specs.Whole.{add_signature, clause, bound, method_with, method, main_method, members, object, typed}

-- an atom as an expression
abbrev alone : Atom → Expression
alone a = sum (product a no_atoms) no_products

-- what the source's `main` has put after so many nodes, and how it stands
abbrev shown : Source → ℕ → Option Seen
shown e n = option_map (λ p. source_run p (main_of MAIN_OBJECT) n) (typed e)

-- `object Main { def main(args: Array[String]): Unit = println(1 + 2 * 3) }`
abbrev seven : Source
seven = record {
  before = [];
  main = alone (print (sum (product (int 1) no_atoms) (more_products (product (int 2) (more_atoms (int 3) no_atoms)) no_products)));
  after = [];
}

prints_seven : shown seven 20 ≡ Some (record { out = codes "7\n"; end = normal })
unfolding look class_of head_of type_at text_at in_classes built_in_line built_in_name class_erased built_in_member line_of derives is_trait dominator upper_erased within erased_along erased parameter_erased signature signature_of best dispatch_in dispatch after super_dispatch superclass_of mixins_of put module_at static_at values_of read_slot write_slot bind bind_all difference under with_given fields_along object_units make throw_new at_reference in_range array_new value_is coerced coerce_all binary_name descriptor message_in enter_body run_body get_lazy run_member run_found call_built_in call_member apply_function call_on direct_on super_on static_on inner_bound create new_inner get_module equal_act text_act concat_second concat_act substring primitive_act act begin_tree go_types begin_pattern chosen_case after_super with_prefix begin_template begin_mixin begin give_back give_to react land_act land resume step steps written_by seen member_entered start source_run same_erased utf8 used assigned called defined left times plus and_also or_else operated chosen repeated fresh add_type literal_text enter leave name_symbol show_name define add_signature clause bound method_with method main_method members object typed
prints_seven = computed ∙ ap (λ ds. Some (record { out = utf8 (([] ++ ds) ++ codes "\n") ++ []; end = normal })) (decimal_digit 7 (lit< tt))
  where
    computed : shown seven 20 ≡ Some (record { out = utf8 (([] ++ decimal 7) ++ codes "\n") ++ []; end = normal })
    computed = refl

-- ---- `def f(n: Int): Int = if (n < 2) 1 else f(n - 1) + f(n - 2)`, and a `main` of
-- `{ var i: Int = 0; while (i < 5) { println("f" + f(i)); i = i + 1 } }`

abbrev n_minus : ℕ → Expression
n_minus k = operation Subtract (name (codes "n")) (int k)

abbrev f_of : Expression → Product
f_of e = product (call (codes "f") (more_expressions e no_expressions)) no_atoms

abbrev f_method : Method
f_method = record {
  name = codes "f";
  parameters = record { name = codes "n"; kind = type.Int } ∷ [];
  result = type.Int;
  body = if_else (operation Less (name (codes "n")) (int 2)) (alone (int 1)) (sum (f_of (n_minus 1)) (more_products (f_of (n_minus 2)) no_products));
}

abbrev i_name : Product
i_name = product (name (codes "i")) no_atoms

abbrev loop_body : Expression
loop_body =
    block (more_statements (plain (alone (print (sum (product (text (codes "f")) no_atoms) (more_products (f_of (sum i_name no_products)) no_products))))) no_statements)
    (assign (codes "i") (sum i_name (more_products (product (int 1) no_atoms) no_products)))

abbrev numbers : Source
numbers = record {
  before = f_method ∷ [];
  main = block (more_statements (var_def (codes "i") type.Int (alone (int 0))) no_statements) (while_do (operation Less (name (codes "i")) (int 5)) loop_body);
  after = [];
}

-- the line of a number with these digits
abbrev f_line : List ℕ → List ℕ
f_line ds = utf8 (([] ++ (codes "f" ++ ds)) ++ codes "\n")

abbrev five_lines : List ℕ → List ℕ → List ℕ → List ℕ → Option Seen
five_lines a b c d = Some (record { out = f_line a ++ (f_line a ++ (f_line b ++ (f_line c ++ (f_line d ++ [])))); end = normal })

prints_numbers : shown numbers 700 ≡ Some (record { out = codes "f1\nf1\nf2\nf3\nf5\n"; end = normal })
unfolding look class_of head_of type_at text_at in_classes built_in_line built_in_name class_erased built_in_member line_of derives is_trait dominator upper_erased within erased_along erased parameter_erased signature signature_of best dispatch_in dispatch after super_dispatch superclass_of mixins_of put module_at static_at values_of read_slot write_slot bind bind_all difference under with_given fields_along object_units make throw_new at_reference in_range array_new value_is coerced coerce_all binary_name descriptor message_in enter_body run_body get_lazy run_member run_found call_built_in call_member apply_function call_on direct_on super_on static_on inner_bound create new_inner get_module equal_act text_act concat_second concat_act substring primitive_act act begin_tree go_types begin_pattern chosen_case after_super with_prefix begin_template begin_mixin begin give_back give_to react land_act land resume step steps written_by seen member_entered start source_run same_erased utf8 used assigned called defined left times plus and_also or_else operated chosen repeated fresh add_type literal_text enter leave name_symbol show_name define add_signature clause bound method_with method main_method members object typed
prints_numbers =
    computed ∙ ap (λ a. five_lines a (decimal 2) (decimal 3) (decimal 5)) (decimal_digit 1 (lit< tt))
    ∙ ap (λ b. five_lines (codes "1") b (decimal 3) (decimal 5)) (decimal_digit 2 (lit< tt))
    ∙ ap (λ c. five_lines (codes "1") (codes "2") c (decimal 5)) (decimal_digit 3 (lit< tt))
    ∙ ap (λ d. five_lines (codes "1") (codes "2") (codes "3") d) (decimal_digit 5 (lit< tt))
  where
    computed : shown numbers 700 ≡ five_lines (decimal 1) (decimal 2) (decimal 3) (decimal 5)
    computed = refl
