-- What the definition of a class file asks of members beside their types: each is a method, and no parameter is by name.
use Rattle.std.specs.Prelude.{◌≡◌, Bool, true, not}
use Rattle.std.specs.List.{list_all}
use Rattle.scw_core.specs.declared.class.CoreClass.{CoreClass}
use Rattle.scw_core.specs.declared.class.Member.{Member}
use Rattle.scw_core.specs.declared.class.Parameter.{Parameter}
use Rattle.scw_gen.specs.Method.{is_method}

abbrev pub is_by_value : Parameter → Bool
is_by_value x = not x.is_by_name

abbrev pub takes_values : Member → Bool
takes_values m = list_all is_by_value m.parameters

pub record AllMethods (k : CoreClass) : Type 0 where
  pub methods : list_all is_method k.members ≡ true
  pub values : list_all takes_values k.members ≡ true
