-- In two modes that differ in ways alone, what stands behind values names the same, with jumps near or far.
use Rattle.std.proofs.Common.{◌≡◌, ℕ, ◌<◌, pos, Bool, true, false, cond, List, [], ◌∷◌, ◌++◌, Some, None, refl, sym, ◌∙◌}
use Rattle.scw_core.specs.declared.operator.Width.{Width}
use Rattle.scw_core.specs.declared.operator.Width.TheVariants as width
use Rattle.scw_value.specs.declared.comparison.Comparison.{Comparison}
use Rattle.scw_value.specs.declared.comparison.Comparison.TheVariants.{NotEqual}
use Rattle.scw_gen.specs.Around.{Around}
use Rattle.scw_gen.specs.Instr.{plus}
use Rattle.scw_gen.specs.Mode.{agree, bit, branch, compared_by, compared_value, comparison, drop_instr, ended, given, jump, jump_back, jump_size, negated, one, sensed, test, truth, unit}
use Rattle.scw_gen.specs.Name.{built_in_name}
use Rattle.scw_gen.specs.Named.{named_by}
use Rattle.scw_gen.specs.declared.instr.BuiltIn.TheVariants as built
use Rattle.scw_gen.specs.declared.instr.Compared.{Compared}
use Rattle.scw_gen.specs.declared.instr.Compared.TheVariants.{Zero}
use Rattle.scw_gen.specs.declared.instr.Instr.{Instr}
use Rattle.scw_gen.specs.declared.instr.Instr.TheVariants as instr
use Rattle.scw_gen.specs.declared.kind.Kind.{Kind}
use Rattle.scw_gen.specs.declared.kind.Kind.TheVariants as kind
use Rattle.scw_gen.specs.declared.kind.Word.{Word}
use Rattle.scw_gen.specs.declared.mode.Mode.{Mode}
use Rattle.scw_gen.specs.declared.mode.Mode.TheVariants.{Value, Effect, Test, Return}
use Rattle.scw_gen.specs.declared.named.Named.TheVariants.{Nothing, Method}
use Rattle.scw_built.proofs.Alike.{Alike, Names, alike-append, alike-none, alike-one, alike-quiet, alike-silent, is_empty, names-append, quiet, silent-one}

-- modes that differ in ways alone, which lead somewhere
pub data Modes : Mode → Mode → Type 0 where
  m_value : Modes Value Value
  m_effect : Modes Effect Effect
  m_test : (sense : Bool) (v w : ℕ) → 0 < v → 0 < w → Modes (Test sense v) (Test sense w)
  m_return : (w : Word) → Modes (Return w) (Return w)

module _ (g : Around) where
  abbrev Silent : List Instr → Type 0
  Silent is = Names g is []

  pub jump-quiet : (far : Bool) (way : ℕ) → named_by g (jump far way) ≡ Some Nothing
  jump-quiet true way = refl
  jump-quiet false way = refl

  pub back-quiet : (far : Bool) (way : ℕ) → named_by g (jump_back far way) ≡ Some Nothing
  back-quiet true way = refl
  back-quiet false way = refl

  drop-quiet : (k : Kind) → named_by g (drop_instr k) ≡ Some Nothing
  drop-quiet kind.Unit = refl
  drop-quiet kind.Boolean = refl
  drop-quiet kind.Int = refl
  drop-quiet kind.Long = refl
  drop-quiet kind.String = refl
  drop-quiet kind.Strings = refl
  drop-quiet kind.This = refl

  branch-silent : (far : Bool) (k : Compared) (c : Comparison) (way : ℕ) → Silent (branch far k c way)
  branch-silent true k c way = quiet _ _ [] refl (silent-one g (jump true way) refl)
  branch-silent false k c way = silent-one g (instr.Branch k c (plus 3 way)) refl

  branch-some : (far : Bool) (k : Compared) (c : Comparison) (way : ℕ) → is_empty (branch far k c way) ≡ false
  branch-some true k c way = refl
  branch-some false k c way = refl

  silent-append : (a b : List Instr) → Silent a → Silent b → Silent (a ++ b)
  silent-append a b h k = names-append g a b [] [] h k

  test-silent : (far : Bool) (w : Width) (c : Comparison) (way : ℕ) → Silent (test far w c way)
  test-silent far width.Int c way = branch-silent far (compared_by width.Int) c way
  test-silent far width.Long c way = quiet instr.CompareLongs (branch far Zero c way) [] refl (branch-silent far Zero c way)

  test-some : (far : Bool) (w : Width) (c : Comparison) (way : ℕ) → is_empty (test far w c way) ≡ false
  test-some far width.Int c way = branch-some far (compared_by width.Int) c way
  test-some far width.Long c way = refl

  compared-silent : (far : Bool) (w : Width) (c : Comparison) → Silent (compared_value far w c)
  compared-silent far w c =
      silent-append (test far w (negated c) (plus 1 (jump_size far))) (instr.Number (pos 1) ∷ jump far 1 ∷ instr.Number (pos 0) ∷ [])
      (test-silent far w (negated c) (plus 1 (jump_size far)))
      (quiet _ _ [] refl (quiet _ _ [] (jump-quiet far 1) (silent-one g (instr.Number (pos 0)) refl)))

  -- behind some instructions there are some
  some-append : (a b : List Instr) → is_empty a ≡ false → is_empty (a ++ b) ≡ false
  some-append [] b h = absurd (cc)
  some-append (i ∷ a) b h = refl

  compared-some : (far : Bool) (w : Width) (c : Comparison) → is_empty (compared_value far w c) ≡ false
  compared-some far w c =
      some-append (test far w (negated c) (plus 1 (jump_size far))) (instr.Number (pos 1) ∷ jump far 1 ∷ instr.Number (pos 0) ∷ []) (test-some far w (negated c) (plus 1 (jump_size far)))

  module _ (d e : Bool) where
    branch-alike : (k : Compared) (c : Comparison) (v w : ℕ) → Alike g (branch d k c v) (branch e k c w)
    branch-alike k c v w = alike-silent g (branch d k c v) (branch e k c w) (branch-silent d k c v) (branch-silent e k c w) (branch-some d k c v ∙ sym (branch-some e k c w))

    pub ended-alike : (m n : Mode) (k : Kind) → Modes m n → Alike g (ended d m k) (ended e n k)
    ended-alike m n k m_value = alike-none g
    ended-alike m n k m_effect = alike-quiet g (drop_instr k) (drop_instr k) (drop-quiet k) (drop-quiet k)
    ended-alike m n k (m_test sense v w a b) = branch-alike Zero (sensed sense NotEqual) v w
    ended-alike m n k (m_return w) = alike-quiet g (instr.Return w) (instr.Return w) refl refl

    pub given-alike : (m n : Mode) (k : Kind) (a b : List Instr) → Modes m n → Alike g a b → Alike g (given d m k a) (given e n k b)
    given-alike m n k a b m_value h = alike-append g a b [] [] h (alike-none g)
    given-alike m n k a b m_effect h = alike-none g
    given-alike m n k a b (m_test sense v w x y) h = alike-append g a b (ended d (Test sense v) k) (ended e (Test sense w) k) h (branch-alike Zero (sensed sense NotEqual) v w)
    given-alike m n k a b (m_return w) h = alike-append g a b (instr.Return w ∷ []) (instr.Return w ∷ []) h (alike-quiet g (instr.Return w) (instr.Return w) refl refl)

    pub unit-alike : (m n : Mode) → Modes m n → Alike g (unit d m) (unit e n)
    unit-alike m n h =
        given-alike m n kind.Unit (instr.CallBuiltIn built.Unit ∷ []) (instr.CallBuiltIn built.Unit ∷ []) h
        (alike-one g (instr.CallBuiltIn built.Unit) (instr.CallBuiltIn built.Unit) (Method (built_in_name built.Unit)) refl refl (refl, refl, refl))

    jumped : (b : Bool) (v w : ℕ) → Alike g (one (cond b (Some (jump d v)) None)) (one (cond b (Some (jump e w)) None))
    jumped true v w = alike-quiet g (jump d v) (jump e w) (jump-quiet d v) (jump-quiet e w)
    jumped false v w = alike-none g

    number-alike : (b : Bool) → Alike g (instr.Number (pos (bit b)) ∷ []) (instr.Number (pos (bit b)) ∷ [])
    number-alike b = alike-quiet g (instr.Number (pos (bit b))) (instr.Number (pos (bit b))) refl refl

    pub truth-alike : (m n : Mode) (b : Bool) → Modes m n → Alike g (truth d m b) (truth e n b)
    truth-alike m n b m_value = given-alike Value Value kind.Boolean _ _ m_value (number-alike b)
    truth-alike m n b m_effect = alike-none g
    truth-alike m n b (m_test sense v w x y) = jumped (agree b sense) v w
    truth-alike m n b (m_return w) = given-alike (Return w) (Return w) kind.Boolean _ _ (m_return w) (number-alike b)

    compared-alike : (w : Width) (c : Comparison) → Alike g (compared_value d w c) (compared_value e w c)
    compared-alike w c = alike-silent g (compared_value d w c) (compared_value e w c) (compared-silent d w c) (compared-silent e w c) (compared-some d w c ∙ sym (compared-some e w c))

    pub comparison-alike : (m n : Mode) (w : Width) (c : Comparison) → Modes m n → Alike g (comparison d m w c) (comparison e n w c)
    comparison-alike m n w c m_value = given-alike Value Value kind.Boolean _ _ m_value (compared-alike w c)
    comparison-alike m n w c m_effect = alike-none g
    comparison-alike m n w c (m_test sense u v x y) = alike-silent g _ _ (test-silent d w (sensed sense c) u) (test-silent e w (sensed sense c) v) (test-some d w (sensed sense c) u ∙ sym (test-some e w (sensed sense c) v))
    comparison-alike m n w c (m_return r) = given-alike (Return r) (Return r) kind.Boolean _ _ (m_return r) (compared-alike w c)
