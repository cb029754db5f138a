-- The steps that make a program of a source, and what each gives.
use Rattle.std.proofs.Common.{◌≡◌, ap, sym, subst, ◌∙◌, ℕ, ◌+◌, suc, ◌<◌, ◌≤◌, true, List, [], ◌++◌, length, Some, add-one, arith}
use Rattle.std.specs.List.{list_all}
use Rattle.scw_core.specs.Types.{CoreType}
use Rattle.scw_core.specs.declared.class.Member.{Member}
use Rattle.scw_text.specs.declared.number.SymId.{SymId}
use Rattle.scw_reader.specs.Syntax.{Source}
use Rattle.scw_small.specs.Step.{Named, State, fresh}
use Rattle.scw_small.specs.Symbol.{first_types}
use Rattle.scw_small.specs.Whole.{Made, nothing_made, add_signatures, all_methods, main_method, members, beginning, first_texts, object}
use Rattle.scw_built.proofs.Sound.{are_units}
use Rattle.scw_built.proofs.Setting.{Setting}
use Rattle.scw_built.proofs.Fine.{FineSource}
use Rattle.scw_built.proofs.Steps.{both-gave, fresh-gave}
use Rattle.scw_built.proofs.Methods.{AllGiven, MainGiven, Longer, longer-then, all-given, main-given, Entered}
use Rattle.scw_built.proofs.Signatures.{Signed, signed}
use Rattle.scw_built.proofs.SmallNames.{Signature, this_symbol}

-- the steps that make a program
pub record Steps (e : Source) (made : Made) (t : State) : Type 0 where
  pub before : Named Signature
  pub s1 : State
  pub main : SymId
  pub s2 : State
  pub methods : Named Signature
  pub s3 : State
  pub made4 : Made
  pub s4 : State
  pub made5 : Made
  pub s5 : State
  pub first : Signed [] e.before beginning before s1
  pub main_is : record { 0 = s1.next } ≡ main
  pub state_is : record s1 { next = s1.next + 1 } ≡ s2
  pub second : Signed before e.after s2 methods s3
  pub go4 : all_methods methods nothing_made e.before s3 ≡ Some (made4, s4)
  pub go5 : main_method methods made4 e.main main s4 ≡ Some (made5, s5)
  pub go6 : all_methods methods made5 e.after s5 ≡ Some (made, t)

pub steps-of : (e : Source) (made : Made) (t : State) → object e beginning ≡ Some (made, t) → Steps e made t
unfolding object members
steps-of e made t h =
    let one = both-gave (add_signatures [] e.before beginning) _ made t h in
    let two = both-gave (fresh one.1) _ made t one.3 in
    let f = fresh-gave two.0 one.1 two.1 two.2 in
    let three = both-gave (add_signatures one.0 e.after two.1) _ made t two.3 in
    let four = both-gave (all_methods three.0 nothing_made e.before three.1) _ made t three.3 in
    let five = both-gave (main_method three.0 four.0 e.main two.0 four.1) _ made t four.3 in
    record {
      before = one.0;
      s1 = one.1;
      main = two.0;
      s2 = two.1;
      methods = three.0;
      s3 = three.1;
      made4 = four.0;
      s4 = four.1;
      made5 = five.0;
      s5 = five.1;
      first = signed e.before [] beginning one.0 one.1 one.2;
      main_is = f.0;
      state_is = f.1;
      second = signed e.after one.0 two.1 three.0 three.1 three.2;
      go4 = four.2;
      go5 = five.2;
      go6 = five.3;
    }

module _ (e : Source) (made : Made) (t : State) (fine : FineSource e) (s : Steps e made t) where
  first-next : 33 ≤ s.s1.next
  first-next = s.first.later

  pub entered-before : Entered s.methods 33 e.before s.s1.next
  entered-before = s.first.entered s.methods s.second.kept

  pub next-is : suc s.s1.next ≡ s.s2.next
  next-is = sym (add-one s.s1.next) ∙ ap (λ (q : State). q.next) s.state_is

  pub entered-after : Entered s.methods (suc s.s1.next) e.after s.s3.next
  entered-after = subst (λ (n : ℕ). Entered s.methods n e.after s.s3.next) (sym next-is) (s.second.entered s.methods (λ x a k. k))

  below-3 : this_symbol.0 < s.s3.next
  below-3 = let a = first-next in let b = next-is in let d = s.second.later in omega arith

  -- what the steps give, in any setting with these methods
  pub record Parts (c : Setting) : Type 0 where
    pub one : AllGiven c 33 e.before nothing_made s.s3 s.made4 s.s4
    pub two : MainGiven c s.main s.made4 s.s4 s.made5 s.s5
    pub three : AllGiven c (suc s.s1.next) e.after s.made5 s.s5 made t

  pub parts : (ms : List Member) (types : List CoreType) (texts : List (List ℕ)) (two : 2 ≤ length texts) → Parts (record { members = ms; types = types; texts = texts; methods = s.methods; two = two })
  parts ms types texts two =
      let c : Setting = record { members = ms; types = types; texts = texts; methods = s.methods; two = two } in
      let a = below-3 in
      let x = all-given c e.before 33 s.s1.next nothing_made s.made4 s.s3 s.s4 fine.before a entered-before s.go4 in
      let b = x.longer.later in
      let y = main-given c e.main s.main s.made4 s.made5 s.s4 s.s5 fine.main (omega arith) s.go5 in
      let d = y.longer.later in
      let z = all-given c e.after (suc s.s1.next) s.s3.next s.made5 made s.s5 t fine.after (omega arith) entered-after s.go6 in
      record { one = x; two = y; three = z }

  -- what is added to the first types
  pub longer : Longer s.s3 t
  longer = let p = parts [] [] first_texts (omega arith) in longer-then s.s3 s.s5 t (longer-then s.s3 s.s4 s.s5 p.one.longer p.two.longer) p.three.longer

  types-then : s.s3.types ≡ first_types
  types-then = s.second.types ∙ ap (λ (q : State). q.types) (sym s.state_is) ∙ s.first.types

  texts-then : s.s3.texts ≡ first_texts
  texts-then = s.second.texts ∙ ap (λ (q : State). q.texts) (sym s.state_is) ∙ s.first.texts

  pub types-are : t.types ≡ first_types ++ longer.more
  types-are = longer.types ∙ ap (λ (l : List CoreType). l ++ longer.more) types-then

  pub two-texts : 2 ≤ length t.texts
  two-texts = let a = longer.texts in let b : length s.s3.texts ≡ 2 = ap (λ (l : List (List ℕ)). length l) texts-then in omega arith

  pub texts-units : list_all are_units t.texts ≡ true
  texts-units = longer.units (ap (list_all are_units) texts-then)

  abbrev pub setting : Setting
  setting = record { members = made.members; types = longer.more; texts = t.texts; methods = s.methods; two = two-texts }
