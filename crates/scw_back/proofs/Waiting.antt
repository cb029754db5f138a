-- What waits goes on waiting while the heap grows, and how operands come one behind another.
use Rattle.std.proofs.Common.{◌≡◌, refl, ℕ, ◌+◌, ◌≤◌, arith, true, List, [], ◌∷◌, ◌++◌, Some}
use Rattle.scw_classfile.specs.declared.pool_entry.PoolEntry.{PoolEntry}
use Rattle.scw_core.specs.Frame.{Frames}
use Rattle.scw_core.specs.Number.{plain_text}
use Rattle.scw_text.specs.Modified.{is_unit}
use Rattle.scw_text.specs.declared.number.SymId.{SymId}
use Rattle.std.specs.List.{list_all}
use Rattle.scw_core.specs.Tree.{Trees}
use Rattle.scw_core.specs.Program as core
use Rattle.scw_core.specs.State.{Env, Slots, Thing, Value}
use Rattle.scw_core.specs.declared.class.CoreClass.{CoreClass}
use Rattle.scw_gen.specs.declared.kind.Kind.{Kind}
use Rattle.scw_gen.specs.declared.operator.Form.{Form}
use Rattle.scw_gen.specs.declared.operator.Form.TheVariants.{Values, Effects, Texts}
use Rattle.scw_gen.specs.Scope.{Scope}
use Rattle.scw_gen.specs.Typed.{Known}
use Rattle.scw_heap.specs.Heap.{Entity}
use Rattle.scw_frame.specs.declared.program.Method.{Method}
use Rattle.scw_frame.specs.declared.program.Program.{Program}
use Rattle.scw_frame.specs.declared.value.Value.TheVariants.{Reference}
use Rattle.scw_frame.specs.Frame.{Frame, places}
use Rattle.scw_back.proofs.Goals.{ArgsAt, Goal, a_effect, a_none, a_text, a_value}
use Rattle.scw_back.proofs.Grown.{held-grown, kept-grown}
use Rattle.scw_back.proofs.Locals.{alike-places}
use Rattle.scw_back.proofs.Stands.{Alike, Awaits, Callers, Grows, Holds, IsOf, Kept, Word, e_effect, e_none, e_text, e_value, left_by, onto, s_launch, s_more, text_object, w_block, w_body, w_if, w_if_same, w_join, w_operand, w_return, w_return_unit, w_test, w_within}

pub onto-behind : (ws : List Word) (w : Word) (st : List Word) → onto (ws ++ w ∷ []) st ≡ w ∷ onto ws st
onto-behind [] w st = refl
onto-behind (a ∷ ws) w st = onto-behind ws w (a ∷ st)

pub onto-all : (as' bs : List Word) (st : List Word) → onto (as' ++ bs) st ≡ onto bs (onto as' st)
onto-all [] bs st = refl
onto-all (a ∷ as') bs st = onto-all as' bs (a ∷ st)

pub left-behind : (f : Form) (ks ls : List Kind) → left_by f (ks ++ ls) ≡ left_by f ks + left_by f ls
left-behind f [] ls = omega arith
left-behind Values (k ∷ ks) ls = let r = left-behind Values ks ls in omega (arith, r)
left-behind Effects (k ∷ ks) ls = left-behind Effects ks ls
left-behind Texts (k ∷ ks) ls = let r = left-behind Texts ks ls in omega (arith, r)

module _ (h : List Entity) (store : List Thing) (own : SymId) where
  -- an operand more
  pub kept-value : (ks : List Kind) (vs : List Value) (ws : List Word) (k : Kind) (v : Value) (w : Word) → Kept h store own Values ks vs ws → Alike h store own k v w → Kept h store own Values (ks ++ k ∷ []) (vs ++ v ∷ []) (ws ++ w ∷ [])
  kept-value ks vs ws k v w e_none a = e_value a e_none
  kept-value ks vs ws k v w (e_value b rest) a = e_value b (kept-value _ _ _ k v w rest a)

  pub kept-effect : (ks : List Kind) (vs : List Value) (ws : List Word) (k : Kind) (v : Value) → Kept h store own Effects ks vs ws → IsOf store own k v → Kept h store own Effects (ks ++ k ∷ []) (vs ++ v ∷ []) ws
  kept-effect ks vs ws k v e_none i = e_effect i e_none
  kept-effect ks vs ws k v (e_effect j rest) i = e_effect j (kept-effect _ _ _ k v rest i)

  pub kept-text : (ks : List Kind) (vs : List Value) (ws : List Word) (k : Kind) (v : Value) (us : List ℕ) (r : ℕ) → Kept h store own Texts ks vs ws → plain_text v ≡ Some us → list_all is_unit us ≡ true → Holds h r (text_object us)
      → Kept h store own Texts (ks ++ k ∷ []) (vs ++ v ∷ []) (ws ++ Reference r ∷ [])
  kept-text ks vs ws k v us r e_none p u x = e_text p u x e_none
  kept-text ks vs ws k v us r (e_text q t y rest) p u x = e_text q t y (kept-text _ _ _ k v us r rest p u x)

  -- the words of operands take so many places
  pub kept-places : (f : Form) (ks : List Kind) (vs : List Value) (ws st : List Word) → Kept h store own f ks vs ws → places (onto ws st) ≡ left_by f ks + places st
  kept-places f ks vs ws st e_none = omega arith
  kept-places f ks vs ws st (e_value {k = k} {v = v} {w = w} {ws = ws'} a rest) =
      let r = kept-places Values _ _ ws' (w ∷ st) rest in
      let p = alike-places h store own k v w a in
      omega (arith, r, p)
  kept-places f ks vs ws st (e_effect i rest) = kept-places Effects _ _ ws st rest
  kept-places f ks vs ws st (e_text {ws = ws'} {r = n} p u x rest) = let r = kept-places Texts _ _ ws' (Reference n ∷ st) rest in omega (arith, r)

module _ (p : core.Program) (K : CoreClass) (pool : List PoolEntry) (L : Program) where
  pub awaits-grown : (m : Method) (h h' : List Entity) (store : List Thing) (result : Kind) (ys : List Known) (s : Scope) (env : Env) (t : Kind) (goal : Goal) (k : Frames) (st : List Word) (cr : ℕ) (k' : Frames) → Grows h h'
      → Awaits p K pool L m h store result ys s env t goal k st cr k' → Awaits p K pool L m h' store result ys s env t goal k st cr k'
  awaits-grown m h h' store result ys s env t goal k st cr k' g (w_return some) = w_return some
  awaits-grown m h h' store result ys s env t goal k st cr k' g (w_return_unit e a le) = w_return_unit e a le
  awaits-grown m h h' store result ys s env t goal k st cr k' g (w_join j aw le) = w_join j (awaits-grown m h h' store result _ _ _ _ _ _ _ _ _ g aw) le
  awaits-grown m h h' store result ys s env t goal k st cr k' g (w_within w aw) = w_within w (awaits-grown m h h' store result _ _ _ _ _ _ _ _ _ g aw)
  awaits-grown m h h' store result ys s env t goal k st cr k' g (w_operand r kept prepared args op is room fits aw le) =
      w_operand r (kept-grown h h' store K.symbol _ _ _ _ g kept) prepared args op is room fits (awaits-grown m h h' store result _ _ _ _ _ _ _ _ _ g aw) le
  awaits-grown m h h' store result ys s env t goal k st cr k' g (w_block c room aw le) = w_block c room (awaits-grown m h h' store result _ _ _ _ _ _ _ _ _ g aw) le
  awaits-grown m h h' store result ys s env t goal k st cr k' g (w_if b j c l room aw le) = w_if b j c l room (awaits-grown m h h' store result _ _ _ _ _ _ _ _ _ g aw) le
  awaits-grown m h h' store result ys s env t goal k st cr k' g (w_if_same b c room aw le) = w_if_same b c room (awaits-grown m h h' store result _ _ _ _ _ _ _ _ _ g aw) le
  awaits-grown m h h' store result ys s env t goal k st cr k' g (w_test a b j u room aw le) = w_test a b j u room (awaits-grown m h h' store result _ _ _ _ _ _ _ _ _ g aw) le
  awaits-grown m h h' store result ys s env t goal k st cr k' g (w_body a b j u room aw le) = w_body a b j u room (awaits-grown m h h' store result _ _ _ _ _ _ _ _ _ g aw) le

  pub callers-grown : (h h' : List Entity) (store : List Thing) (t : Kind) (k : Frames) (fs : List Frame) (slots : Slots) (cr : ℕ) → Grows h h' → Callers p K pool L h store t k fs slots cr → Callers p K pool L h' store t k fs slots cr
  callers-grown h h' store t k fs slots cr g (s_launch runs a b le) = s_launch runs a b le
  callers-grown h h' store t k fs slots cr g (s_more runs a b aw room held ex wide narrow callers le) =
      s_more runs a b (awaits-grown _ h h' store _ _ _ _ _ _ _ _ _ _ g aw) room (held-grown h h' store K.symbol _ _ _ _ _ _ g held) ex wide narrow (callers-grown h h' store _ _ _ _ _ g callers) le

  -- how many words operands put at most
  pub args-fit : (m : Method) (ys : List Known) (s : Scope) (f : Form) (d pc : ℕ) (ts : Trees) (ks : List Kind) (q : ℕ) → ArgsAt p K pool L m ys s f d pc ts ks q → left_by f ks ≤ d
  args-fit m ys s f d pc ts ks q a_none = omega arith
  args-fit m ys s f d pc ts ks q (a_value c le rest) = let r = args-fit m ys s Values _ _ _ _ _ rest in omega (arith, r, le)
  args-fit m ys s f d pc ts ks q (a_effect c rest) = args-fit m ys s Effects _ _ _ _ _ rest
  args-fit m ys s f d pc ts ks q (a_text c wide t le rest) = let r = args-fit m ys s Texts _ _ _ _ _ rest in omega (arith, r, le)
