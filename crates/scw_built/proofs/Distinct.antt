-- The methods of a class whose members have names of their own are distinct.
use Rattle.std.proofs.Common.{◌≡◌, true, false, not, ◌&&◌, List, ◌∷◌, refl, sym, ◌∙◌, subst, codes}
use Rattle.std.specs.Prelude.{nat_eq}
use Rattle.std.specs.Cmp.Lexicographic.{pointwise, same_text}
use Rattle.std.proofs.lemmas.Bool.{and_from, and_parts, false_from_ne_true, not_from_false, or_from}
use Rattle.scw_core.specs.declared.class.Member.{Member}
use Rattle.scw_gen.specs.Around.{Around}
use Rattle.scw_gen.specs.Generate.{are_distinct, is_among, is_same}
use Rattle.scw_gen.specs.Method.{Method, constructor, getter}
use Rattle.scw_built.proofs.Sound.{Apart, IsNew}
use Rattle.scw_built.proofs.Twins.{Beside, member_more, no_members}

-- methods of two names are not the same
other : (x y : Method) → (y.name ≡ x.name → ⊥) → is_same x y ≡ false
other x y h =
    false_from_ne_true (is_same x y) (λ e. h (sym (same_text x.name y.name (sym (and_parts (pointwise nat_eq x.name y.name) (pointwise nat_eq x.descriptor y.descriptor) e).0))))

-- a method of a name that no member has
not-among : (g : Around) (x : Method) (ms : List Member) (xs ys : List Method) → Beside g ms xs ys → IsNew x.name ms → is_among x ys ≡ false
unfolding is_among
not-among g x ms xs ys no_members n = refl
not-among g x ms xs ys (member_more m y z ns us vs t e b) n =
    or_from (is_same x z) (is_among x vs) (other x z (λ k. n.0 (sym e ∙ k))) (not-among g x ns us vs b n.1)

members-distinct : (g : Around) (ms : List Member) (xs ys : List Method) → Beside g ms xs ys → Apart ms → are_distinct ys ≡ true
unfolding are_distinct
members-distinct g ms xs ys no_members a = refl
members-distinct g ms xs ys (member_more m y z ns us vs t e b) a =
    and_from (not (is_among z vs)) (are_distinct vs) (not_from_false (is_among z vs) (not-among g z ns us vs b (subst (λ l. IsNew l ns) (sym e) a.0))) (members-distinct g ns us vs b a.1)

constructor-new : (g h : Around) (ms : List Member) (xs ys : List Method) → Beside g ms xs ys → IsNew (codes "<init>") ms → is_among (constructor h) (getter h ∷ ys) ≡ false
unfolding is_among
constructor-new g h ms xs ys b n = not-among g (constructor h) ms xs ys b n

pub all-distinct : (g h : Around) (ms : List Member) (xs ys : List Method) → Beside g ms xs ys → IsNew (codes "<init>") ms → IsNew (codes "$get") ms → Apart ms → are_distinct (constructor h ∷ getter h ∷ ys) ≡ true
unfolding are_distinct
all-distinct g h ms xs ys b init get apart =
    and_from (not (is_among (constructor h) (getter h ∷ ys))) (not (is_among (getter h) ys) && are_distinct ys) (not_from_false _ (constructor-new g h ms xs ys b init))
    (and_from (not (is_among (getter h) ys)) (are_distinct ys) (not_from_false _ (not-among g (getter h) ms xs ys b get)) (members-distinct g ms xs ys b apart))
