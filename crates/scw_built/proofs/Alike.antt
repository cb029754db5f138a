-- What instructions name, in order, and two codes that name the same.
use Rattle.std.proofs.Common.{◌≡◌, ◌^◌, Bool, true, false, List, [], ◌∷◌, ◌++◌, Option, Some, refl}
use Rattle.std.specs.Prelude.{nat_lt}
use Rattle.scw_gen.specs.declared.instr.Instr.{Instr}
use Rattle.scw_gen.specs.declared.named.Named as gen
use Rattle.scw_gen.specs.declared.named.Named.TheVariants.{Nothing, Integer, Long, Text, Class, Method}
use Rattle.scw_gen.specs.declared.pool.MethodName.{MethodName}
use Rattle.scw_gen.specs.Around.{Around}
use Rattle.scw_gen.specs.Code.{joined}
use Rattle.scw_gen.specs.Named.{named_by}
use Rattle.scw_gen.specs.Outcome.{◌>>=◌}
use Rattle.scw_built.proofs.Sound.{are_units}

-- ---- what fits its entries

abbrev pub MethodFits : MethodName → Type 0
MethodFits m = (are_units m.class ≡ true) × (are_units m.name ≡ true) × (are_units m.descriptor ≡ true)

abbrev pub Fits : gen.Named → Type 0
Fits Nothing = Unit {0}
Fits (Integer n) = nat_lt n (2 ^ 32) ≡ true
Fits (Long n) = nat_lt n (2 ^ 64) ≡ true
Fits (Text us) = are_units us ≡ true
Fits (Class name) = are_units name ≡ true
Fits (Method m) = MethodFits m

-- ---- instructions, and what they name

pub data Names (g : Around) : List Instr → List gen.Named → Type 0 where
  no_more : Names g [] []
  quiet : (i : Instr) (is : List Instr) (ns : List gen.Named) → named_by g i ≡ Some Nothing → Names g is ns → Names g (i ∷ is) ns
  named : (i : Instr) (n : gen.Named) (is : List Instr) (ns : List gen.Named) → named_by g i ≡ Some n → Fits n → Names g is ns → Names g (i ∷ is) (n ∷ ns)

pub names-append : (g : Around) (a b : List Instr) (xs ys : List gen.Named) → Names g a xs → Names g b ys → Names g (a ++ b) (xs ++ ys)
names-append g a b xs ys no_more k = k
names-append g a b xs ys (quiet i is ns e h) k = quiet i (is ++ b) (ns ++ ys) e (names-append g is b ns ys h k)
names-append g a b xs ys (named i n is ns e f h) k = named i n (is ++ b) (ns ++ ys) e f (names-append g is b ns ys h k)

-- ---- two codes

abbrev pub is_empty : List Instr → Bool
is_empty [] = true
is_empty (i ∷ is) = false

empty-append : (a b c d : List Instr) → is_empty a ≡ is_empty c → is_empty b ≡ is_empty d → is_empty (a ++ b) ≡ is_empty (c ++ d)
empty-append [] b [] d e f = f
empty-append [] b (j ∷ c) d e f = absurd (cc)
empty-append (i ∷ a) b [] d e f = absurd (cc)
empty-append (i ∷ a) b (j ∷ c) d e f = refl

-- both name the same, and either both are empty or none is
pub record Alike (g : Around) (a b : List Instr) : Type 0 where
  pub names : List gen.Named
  pub first : Names g a names
  pub second : Names g b names
  pub empty : is_empty a ≡ is_empty b

-- two codes that are both there
pub data Both (g : Around) : Option (List Instr) → Option (List Instr) → Type 0 where
  both : (a b : List Instr) → Alike g a b → Both g (Some a) (Some b)

module _ (g : Around) where
  pub alike-none : Alike g [] []
  alike-none = record { names = []; first = no_more; second = no_more; empty = refl }

  pub alike-silent : (a b : List Instr) → Names g a [] → Names g b [] → is_empty a ≡ is_empty b → Alike g a b
  alike-silent a b h k e = record { names = []; first = h; second = k; empty = e }

  -- one instruction, which names nothing
  pub silent-one : (i : Instr) → named_by g i ≡ Some Nothing → Names g (i ∷ []) []
  silent-one i h = quiet i [] [] h no_more

  pub alike-quiet : (i j : Instr) → named_by g i ≡ Some Nothing → named_by g j ≡ Some Nothing → Alike g (i ∷ []) (j ∷ [])
  alike-quiet i j h k = alike-silent (i ∷ []) (j ∷ []) (silent-one i h) (silent-one j k) refl

  -- one instruction, which names something
  pub alike-one : (i j : Instr) (n : gen.Named) → named_by g i ≡ Some n → named_by g j ≡ Some n → Fits n → Alike g (i ∷ []) (j ∷ [])
  alike-one i j n h k f = record { names = n ∷ []; first = named i n [] [] h f no_more; second = named j n [] [] k f no_more; empty = refl }

  pub alike-append : (a b c d : List Instr) → Alike g a b → Alike g c d → Alike g (a ++ c) (b ++ d)
  alike-append a b c d h k = record {
    names = h.names ++ k.names;
    first = names-append g a c h.names k.names h.first k.first;
    second = names-append g b d h.names k.names h.second k.second;
    empty = empty-append a c b d h.empty k.empty;
  }

  pub joined-both : (a b c d : Option (List Instr)) → Both g a b → Both g c d → Both g (joined a c) (joined b d)
  joined-both a b c d (both x y h) k = second c d k
    where
      second : (c d : Option (List Instr)) → Both g c d → Both g (joined (Some x) c) (joined (Some y) d)
      second c d (both z w k) = both (x ++ z) (y ++ w) (alike-append x y z w h k)

  -- what is made of two codes
  pub both-then : {A : Type 0} (R : Option A → Option A → Type 0) (e f : List Instr → Option A) (a b : Option (List Instr)) → Both g a b → ((x y : List Instr) → Alike g x y → R (e x) (f y)) → R (a >>= e) (b >>= f)
  both-then R e f a b (both x y h) k = k x y h
