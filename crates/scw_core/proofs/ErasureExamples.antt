-- Erasure of small types, where A is the trait 50 and B the class 52, and the type parameter 60 has the bound that is given.
use Rattle.std.proofs.Common.{◌≡◌, refl, [], ◌∷◌, None, codes}
use Rattle.scw_text.specs.declared.number.SymId.{SymId}
use Rattle.scw_core.specs.declared.symbol.TheConstants.{ANY, ANY_REF, ARRAY, INT, NOTHING, UNIT}
use Rattle.scw_core.specs.declared.class.ClassKind.TheVariants as kind
use Rattle.scw_core.specs.declared.program.SymKind.TheVariants as symbol
use Rattle.scw_core.specs.Types.{Plain, cls, par, with_all, no_plains, more_plains, no_prefix, Erased, int, unit_ref, ref, arr, source_type}
use Rattle.scw_core.specs.BuiltIn.{built_in_line, class_erased}
use Rattle.scw_core.specs.Program.{Table, look, class_of, head_of, type_at}
use Rattle.scw_core.specs.Erasure.{line_of, derives, is_trait, dominator, upper_erased, within, erased_along, erased}
use Rattle.scw_core.proofs.Small as small
use Rattle.scw_core.proofs.Small.{sym, type, prelude}

abbrev class_type : SymId → Plain
class_type c = cls no_prefix c no_plains

abbrev applied : SymId → Plain → Plain
applied c t = cls no_prefix c (more_plains t no_plains)

abbrev a : Plain
a = class_type (sym 50)

abbrev b : Plain
b = class_type (sym 52)

abbrev parameter : Plain
parameter = par (sym 60)

abbrev compound : Plain → Plain → Plain
compound t u = with_all (more_plains t (more_plains u no_plains))

-- the type 0 is the one that is erased, and the type 1 the bound
abbrev table : Plain → Plain → Table
table t bound = record {
  classes = small.class_of 50 (codes "A") kind.Trait (sym 50 ∷ ANY_REF ∷ ANY ∷ []) [] [] [] ∷ small.class_of 52 (codes "B") kind.Class (sym 52 ∷ ANY_REF ∷ ANY ∷ []) [] [] [] ∷ [];
  heads = record { symbol = sym 60; name = codes "T"; kind = symbol.TypeParam; owner = None; upper = type 1 } ∷ [];
  types = source_type t ∷ source_type bound ∷ [];
  texts = [];
  prelude = prelude;
}

abbrev Erases : Plain → Plain → Erased → Type 0
Erases t bound e = erased (table t bound) (type 0) ≡ e

shown :
    Erases (applied ARRAY (applied ARRAY (class_type INT))) a (arr (arr int))
    × Erases (class_type UNIT) a unit_ref
    × Erases (class_type NOTHING) a (ref ANY_REF)
    × Erases parameter (applied (sym 52) parameter) (ref (sym 52))
    × Erases (applied ARRAY parameter) a (arr (ref (sym 50)))
    × Erases (compound a b) a (ref (sym 52))
    × Erases (compound (class_type ANY_REF) a) a (ref (sym 50))
    × Erases (compound a a) a (ref (sym 50))
unfolding built_in_line class_erased look class_of head_of type_at line_of derives is_trait dominator upper_erased within erased_along erased
shown = (refl, refl, refl, refl, refl, refl, refl, refl)
