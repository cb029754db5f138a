-- Every program of the small language passes the conditions of the generator, a run of it can begin, and its names, texts and
-- members are as a class file needs them.
use Rattle.std.proofs.Common.{◌≡◌, refl, ap, sym, subst, ◌∙◌, ℕ, suc, true, List, [], ◌∷◌, ◌++◌, length, map, Option, Some, None, append_assoc, le_refl, inl, inr, codes, arith}
use Rattle.std.proofs.lemmas.List.{map-append}
use Rattle.std.specs.List.{list_all}
use Rattle.scw_classfile.specs.Descriptor.{is_method as is_descriptor, is_field, is_return, after_parameters}
use Rattle.scw_core.specs.Program.{Program, head_of, look}
use Rattle.scw_core.specs.Tree.{Tree}
use Rattle.scw_core.specs.Types.{CoreType}
use Rattle.scw_core.specs.declared.class.CoreClass.{CoreClass}
use Rattle.scw_core.specs.declared.class.Member.{Member}
use Rattle.scw_text.specs.declared.number.SymId.{SymId}
use Rattle.scw_reader.specs.Syntax.{Source}
use Rattle.scw_gen.specs.Generate.{is_built}
use Rattle.scw_gen.specs.Method.{is_method}
use Rattle.scw_gen.specs.Typed.{is_well_typed}
use Rattle.scw_back.specs.Back.{can_begin}
use Rattle.scw_small.specs.Says.{SaysProgram}
use Rattle.scw_small.specs.Step.{State}
use Rattle.scw_small.specs.Symbol.{first_types}
use Rattle.scw_small.specs.Whole.{Made, main_class, table, templates, entries, program, beginning, object, program_in, typed}
use Rattle.scw_built.proofs.AllMethods.{AllMethods, takes_values}
use Rattle.scw_built.proofs.Sound.{Sound, IsNew, Apart, have_units}
use Rattle.scw_built.proofs.Setting.{Setting, AllAnswer, around}
use Rattle.scw_built.proofs.Fine.{FineSource, fine-spelled}
use Rattle.scw_built.proofs.Marks.{some-is}
use Rattle.scw_built.proofs.Units.{main-plain, Plain}
use Rattle.scw_built.proofs.Methods.{Work, Works, member_in, body_in}
use Rattle.scw_built.proofs.Signatures.{Each, each-answers}
use Rattle.scw_built.proofs.Line.{owner, Placed, Line, Looks, Finds, AllOf, all-front, all-back, line-then, works-line, looks-all, finds-all, well-typed, units-all, no-init, no-get, all-apart, methods-all, values-all, each-of}
use Rattle.scw_built.proofs.WholeSteps.{Steps, Parts, steps-of, entered-before, entered-after, next-is, parts, longer, types-are, two-texts, texts-units, setting}

-- all conditions but those on the methods hold of any program
pub shaped : (c : Setting) (bodies : List (SymId × Tree)) → is_well_typed (around c) bodies c.members ≡ true
    → is_built (record { table = table c.members (first_types ++ c.types) c.texts; bodies = bodies; templates = templates; entries = entries }) (main_class c.members) ≡ true
unfolding head_of look is_descriptor is_return after_parameters is_field
shaped c bodies h = rw h refl

module _ (e : Source) (made : Made) (t : State) (fine : FineSource e) (s : Steps e made t) where
  abbrev c : Setting
  c = setting e made t fine s

  given : Parts e made t fine s c
  given = parts e made t fine s made.members (longer e made t fine s).more t.texts (two-texts e made t fine s)

  works-before : Works c 33 e.before given.one.works
  works-before = let a = given.two.longer.texts in let b = given.three.longer.texts in given.one.worked (omega arith)

  works-after : Works c (suc s.s1.next) e.after given.three.works
  works-after = given.three.worked (le_refl (length t.texts))

  main-placed : Placed c s.main s.s1.next given.two.work
  main-placed = record {
    symbol = given.two.symbol ∙ sym s.main_is;
    typed = given.two.typed given.three.longer.texts;
    plain = subst Plain (sym given.two.name) main-plain;
    own = ap (owner s.methods s.main) given.two.name ∙ ap (λ (n : SymId). Some n) (sym s.main_is);
    values = given.two.values;
  }

  abbrev all : List Work
  all = given.one.works ++ given.two.work ∷ given.three.works

  line : Line c s.main 33 all s.s3.next
  line = line-then c s.main 33 s.s1.next s.s3.next given.one.works (given.two.work ∷ given.three.works)
      (works-line c s.main 33 s.s1.next e.before given.one.works fine.before (entered-before e made t fine s) works-before)
      (main-placed, works-line c s.main (suc s.s1.next) s.s3.next e.after given.three.works fine.after (entered-after e made t fine s) works-after)

  members-are : made.members ≡ map member_in all
  members-are =
      given.three.members_are ∙ ap (λ (q : Made). q.members ++ map member_in given.three.works) given.two.made_is
      ∙ ap (λ (l : List Member). (l ++ member_in given.two.work ∷ []) ++ map member_in given.three.works) given.one.members_are
      ∙ append_assoc (map member_in given.one.works) (member_in given.two.work ∷ []) (map member_in given.three.works)
      ∙ sym (map-append member_in given.one.works (given.two.work ∷ given.three.works))

  bodies-are : made.bodies ≡ map body_in all
  bodies-are =
      given.three.bodies_are ∙ ap (λ (q : Made). q.bodies ++ map body_in given.three.works) given.two.made_is
      ∙ ap (λ (l : List (SymId × Tree)). (l ++ body_in given.two.work ∷ []) ++ map body_in given.three.works) given.one.bodies_are
      ∙ append_assoc (map body_in given.one.works) (body_in given.two.work ∷ []) (map body_in given.three.works)
      ∙ sym (map-append body_in given.one.works (given.two.work ∷ given.three.works))

  finds : AllOf (Finds made.members) all
  finds = subst (λ (l : List Member). AllOf (Finds l) all) (sym members-are) (finds-all c s.main 33 s.s3.next all line)

  looks : AllOf (Looks made.bodies) all
  looks = subst (λ (l : List (SymId × Tree)). AllOf (Looks l) all) (sym bodies-are) (looks-all c s.main 33 s.s3.next all line)

  each-before : Each c 33 e.before
  each-before = each-of c s.main 33 e.before given.one.works works-before (all-front (Finds made.members) given.one.works (given.two.work ∷ given.three.works) finds)

  each-after : Each c s.s2.next e.after
  each-after = subst (λ (n : ℕ). Each c n e.after) (next-is e made t fine s) (each-of c s.main (suc s.s1.next) e.after given.three.works works-after (all-back (Finds made.members) given.one.works (given.two.work ∷ given.three.works) finds).1)

  answer : AllAnswer c
  answer x a k = elim (s.second.listed x a k) [
    | inl f ↦ elim (s.first.listed x a f) [
      | inl g ↦ absurd (cc)
      | inr l ↦ each-answers c 33 e.before a each-before l
    ]
    | inr l ↦ each-answers c s.s2.next e.after a each-after l
  ]

  typed-well : is_well_typed (around c) made.bodies made.members ≡ true
  typed-well = subst (λ (l : List Member). is_well_typed (around c) made.bodies l ≡ true) (sym members-are) (well-typed c s.main made.bodies 33 s.s3.next all answer line looks)

  pub built : is_built (program made t) (main_class made.members) ≡ true
  built = subst (λ (types : List CoreType). is_built (record { table = table made.members types t.texts; bodies = made.bodies; templates = templates; entries = entries }) (main_class made.members) ≡ true) (sym (types-are e made t fine s)) (shaped c made.bodies typed-well)

  pub sound : Sound (program made t) (main_class made.members)
  sound = record {
    texts = texts-units e made t fine s;
    own = refl;
    names = subst (λ (l : List Member). have_units l ≡ true) (sym members-are) (units-all c s.main 33 s.s3.next all line);
    init = subst (λ (l : List Member). IsNew (codes "<init>") l) (sym members-are) (no-init c s.main 33 s.s3.next all line);
    get = subst (λ (l : List Member). IsNew (codes "$get") l) (sym members-are) (no-get c s.main 33 s.s3.next all line);
    apart = subst (λ (l : List Member). Apart l) (sym members-are) (all-apart c s.main 33 s.s3.next all line);
  }

  pub methods : AllMethods (main_class made.members)
  methods = record {
    methods = subst (λ (l : List Member). list_all is_method l ≡ true) (sym members-are) (methods-all all);
    values = subst (λ (l : List Member). list_all takes_values l ≡ true) (sym members-are) (values-all c s.main 33 s.s3.next all line);
  }

-- what the class file of a program asks of it
pub record Built (p : Program) : Type 0 where
  pub class : CoreClass
  pub only : p.table.classes ≡ class ∷ []
  pub begins : can_begin p class ≡ true
  pub built : is_built p class ≡ true
  pub sound : Sound p class
  pub methods : AllMethods class

-- the object is reached by its own tree
begins : (made : Made) (t : State) → can_begin (program made t) (main_class made.members) ≡ true
unfolding look
begins made t = refl

pub small_is_built : (bytes : List ℕ) (p : Program) → SaysProgram bytes p → Built p
unfolding typed
small_is_built bytes p w = by (object w.source beginning) refl w.means
  where
    fine : FineSource w.source
    fine = fine-spelled bytes w.source w.says.text

    by : (r : Option (Made × State)) → object w.source beginning ≡ r → program_in r ≡ Some p → Built p
    by None o q = absurd (cc)
    by (Some x) o q =
        let s = steps-of w.source x.0 x.1 o in
        subst Built (some-is (program x.0 x.1) p q)
        (record {
          class = main_class x.0.members;
          only = refl;
          begins = begins x.0 x.1;
          built = built w.source x.0 x.1 fine s;
          sound = sound w.source x.0 x.1 fine s;
          methods = methods w.source x.0 x.1 fine s;
        })
