-- Choices and loops land, where their parts do.
use Rattle.std.proofs.Common.{◌≡◌, ℕ, ◌+◌, ◌-◌, ◌≤◌, Bool, true, false, cond, List, [], ◌∷◌, ◌++◌, Option, Some, None, refl, sym, ap, ◌∙◌, subst, arith, append_assoc}
use Rattle.std.specs.Prelude.{nat_eq}
use Rattle.std.proofs.lemmas.Bool.{cond_both}
use Rattle.scw_classfile.specs.declared.pool_entry.PoolEntry.{PoolEntry}
use Rattle.scw_core.specs.Program.{Table}
use Rattle.scw_gen.specs.declared.instr.Instr.{Instr}
use Rattle.scw_gen.specs.declared.kind.Word.{Word}
use Rattle.scw_gen.specs.declared.mode.Mode.{Mode}
use Rattle.scw_gen.specs.declared.mode.Mode.TheVariants.{Value, Effect, Test, Return}
use Rattle.scw_gen.specs.Outcome.{◌>>=◌}
use Rattle.scw_gen.specs.Instr.{bytes_of, plus, room_of, size_of}
use Rattle.scw_gen.specs.Mode.{Tail, agree, alone, both, branches, decided, either, farther, jump, jump_back, jump_size, mode_of_test}
use Rattle.scw_gen.specs.Code.{choice, choice_code, joined, loop, repeated, test_choice, value_choice}
use Rattle.scw_gen.proofs.Steps.{bound, joined-is}
use Rattle.scw_gen.proofs.Landing.{Right, Exits, Begun, Lands, Tails, limit, limit-le, bytes-append, bytes-one, room-is, room-le, ok-at, goes-append, starts-front, starts-back, start-ok, begun-back, lands-both, lands-test, lands-apart, effect-value, value-effect}
use Rattle.scw_gen.proofs.ModeLands.{jump-lands, size-jump}

-- code in this mode may go on at its end
abbrev Falls : Mode → Type 0
Falls m = (ok : ℕ → Bool) (e : ℕ) → Exits ok m e → ok e ≡ true

module _ (T : Table) (P : List PoolEntry) (far : Bool) where
  -- ---- two branches, of which the first goes on behind the second

  -- a jump over code, and the code
  over-lands : (m : Mode) (b : List Instr) → Falls m → Lands T P far m b → Lands T P far m (jump far (room_of b) ∷ b)
  over-lands m b falls l = record {
    goes = λ ok o e at few h x.
        let j = jump far (room_of b) in
        let s = size-jump T P far (room_of b) in
        let z = bytes-append (j ∷ []) b in
        let k = bytes-one j in
        let r = room-is b (let u = limit-le far in omega (arith, few, z, k, u)) in
        let mid = o + size_of j in
        let end : e ≡ mid + bytes_of b = omega (arith, at, z, k) in
        let first = start-ok ok m mid e b end h.1 x l.some in
        let out = ok-at ok e (mid + room_of b) (omega (arith, end, r)) (falls ok e x) in
        let jumps = (jump-lands T P far true (room_of b)).goes ok o mid (omega (arith, k)) (omega (arith, few, z, k, r)) (h.0, tt) (first, out) in
        (jumps.0, l.goes ok mid e end (omega (arith, few, z, k)) h.1 x);
    some = begun-back m (jump far (room_of b) ∷ []) b l.some;
  }

  -- both branches
  abbrev joint : List Instr → List Instr → List Instr
  joint a b = (a ++ jump far (room_of b) ∷ []) ++ b

  joint-is : (a b : List Instr) → a ++ jump far (room_of b) ∷ b ≡ joint a b
  joint-is a b = sym (append_assoc a (jump far (room_of b) ∷ []) b)

  joint-size : (a b : List Instr) → bytes_of (joint a b) ≡ bytes_of a + jump_size far + bytes_of b
  joint-size a b =
      let x = bytes-append (a ++ jump far (room_of b) ∷ []) b in
      let y = bytes-append a (jump far (room_of b) ∷ []) in
      let z = bytes-one (jump far (room_of b)) in
      let s = size-jump T P far (room_of b) in omega (arith, x, y, z, s)

  -- a test that jumps to the second
  joint-tail : (m : Mode) (a b : List Instr) → Begun m b → Lands T P far m (joint a b) → Tails T P far m (plus (room_of a) (jump_size far)) (joint a b)
  joint-tail m a b some l = record {
    lands = l;
    within = (let z = joint-size a b in let r = room-le a in omega (arith, z, r));
    to = λ ok o e at few h x.
        let front = a ++ jump far (room_of b) ∷ [] in
        let z = joint-size a b in
        let u = limit-le far in
        let r = room-is a (omega (arith, few, z, u)) in
        let y = bytes-append front b in
        let size : bytes_of front ≡ bytes_of a + jump_size far = omega (arith, z, y) in
        let mid = o + bytes_of front in
        let first = start-ok ok m mid e b (omega (arith, at, y)) (starts-back ok o front b h) x some in
        ok-at ok mid (o + plus (room_of a) (jump_size far)) (omega (arith, size, r, few, z, u)) first;
  }

  both-value : (a b : List Instr) → Lands T P far Value a → Lands T P far Value b → Tails T P far Value (plus (room_of a) (jump_size far)) (joint a b)
  both-value a b la lb =
      let l = lands-both T P far Value a (jump far (room_of b) ∷ b) la (over-lands Value b (λ ok e x. x) lb) in
      joint-tail Value a b tt (subst (Lands T P far Value) (joint-is a b) l)

  -- how far the first branch of a test jumps
  abbrev past : ℕ → List Instr → ℕ
  past way b = plus (plus (room_of b) (jump_size far)) way

  no-bytes : bytes_of [] ≡ 0
  unfolding bytes_of
  no-bytes = refl

  -- the first branch of a test jumps over the second, and as far as the test does
  over-tail : (sense : Bool) (way : ℕ) (b : List Instr) → Lands T P far (Test sense way) b → Tails T P far (Test sense way) (past way b) (jump far (room_of b) ∷ b)
  over-tail sense way b lb = record {
    lands = over-lands (Test sense way) b (λ ok e x. x.0) lb;
    within = (let z = joint-size [] b in let r = room-le b in let n = no-bytes in omega (arith, z, r, n));
    to = λ ok o e at few h x.
        let z = joint-size [] b in
        let n = no-bytes in
        let u = limit-le far in
        let r = room-is b (omega (arith, few, z, u)) in
        ok-at ok (e + way) (o + past way b) (omega (arith, at, z, n, r, few, u)) x.1;
  }

  both-test : (sense : Bool) (way : ℕ) (a b : List Instr) → Lands T P far (Test sense (past way b)) a → Lands T P far (Test sense way) b → Tails T P far (Test sense way) (plus (room_of a) (jump_size far)) (joint a b)
  both-test sense way a b la lb =
      let l = lands-test T P far sense (past way b) (Test sense way) a (jump far (room_of b) ∷ b) la (over-tail sense way b lb) in
      joint-tail (Test sense way) a b tt (subst (Lands T P far (Test sense way)) (joint-is a b) l)

  -- ---- other branches

  -- the first doesn't go on
  apart-tail : (w : Word) (a b : List Instr) → Lands T P far (Return w) a → Lands T P far (Return w) b → Tails T P far (Return w) (room_of a) (a ++ b)
  apart-tail w a b la lb = record {
    lands = lands-apart T P far w a b la lb;
    within = (let z = bytes-append a b in let r = room-le a in omega (arith, z, r));
    to = λ ok o e at few h x.
        let z = bytes-append a b in
        let u = limit-le far in
        let r = room-is a (omega (arith, few, z, u)) in
        let mid = o + bytes_of a in
        ok-at ok mid (o + room_of a) (omega (arith, r)) (start-ok ok (Return w) mid e b (omega (arith, at, z)) (starts-back ok o a b h) x lb.some);
  }

  -- one branch, over which the test jumps
  alone-tail : (m : Mode) (a : List Instr) → Falls m → Lands T P far m a → Tails T P far m (room_of a) a
  alone-tail m a falls l = record {
    lands = l;
    within = (let r = room-le a in omega (arith, r));
    to = λ ok o e at few h x.
        let u = limit-le far in
        let r = room-is a (omega (arith, few, u)) in
        ok-at ok e (o + room_of a) (omega (arith, at, r)) (falls ok e x);
  }

  -- or as far as it
  far-tail : (sense : Bool) (way : ℕ) (a : List Instr) → Lands T P far (Test sense way) a → Tails T P far (Test sense way) (plus (room_of a) way) a
  far-tail sense way a l = record {
    lands = l;
    within = (let r = room-le a in omega (arith, r));
    to = λ ok o e at few h x.
        let u = limit-le far in
        let r = room-is a (omega (arith, few, u)) in
        ok-at ok (e + way) (o + plus (room_of a) way) (omega (arith, at, r, few, u)) x.1;
  }

  -- what stands behind a test lands
  abbrev TailLands : Mode → Tail → Type 0
  TailLands m t = Tails T P far m t.way t.instrs

  either-tail : (a b : List Instr) → Lands T P far Effect a → Lands T P far Effect b → TailLands Effect (either far a b)
  either-tail a [] la lb = alone-tail Effect a (λ ok e x. x) la
  either-tail [] (i ∷ is) la lb = alone-tail Effect (i ∷ is) (λ ok e x. x) lb
  either-tail (j ∷ js) (i ∷ is) la lb = effect-tail _ _ (both-value (j ∷ js) (i ∷ is) (effect-value T P far (j ∷ js) la) (effect-value T P far (i ∷ is) lb))
    where
      effect-tail : (way : ℕ) (c : List Instr) → Tails T P far Value way c → Tails T P far Effect way c
      effect-tail way c t = record { lands = value-effect T P far c t.lands; within = t.within; to = λ ok o e at few h x. t.to ok o e at few h x }

  decided-tail : (sense : Bool) (way : ℕ) (constant from : Bool) (a : List Instr) → Lands T P far (Test sense way) a → TailLands (Test sense way) (decided sense way constant (alone from a))
  decided-tail sense way constant from a l = by (agree constant sense)
    where
      by : (b : Bool) → TailLands (Test sense way) (cond b (farther way (alone from a)) (alone from a))
      by true = far-tail sense way a l
      by false = alone-tail (Test sense way) a (λ ok e x. x.0) l

  -- ---- choices

  -- what a part gives lands, in each mode
  abbrev pub Good : (Mode → Option (List Instr)) → Type 0
  Good made = (m : Mode) (is : List Instr) → made m ≡ Some is → Lands T P far m is

  -- a tail that was made
  tail-same : (m : Mode) (s t : Tail) → Some s ≡ Some t → TailLands m s → TailLands m t
  tail-same m s t h k = let e : s ≡ t = cc in subst (TailLands m) e k

  module _ (one two : Mode → Option (List Instr)) (good1 : Good one) (good2 : Good two) where
    test_choice-tail : (sense : Bool) (way : ℕ) (b c : Option Bool) (t : Tail) → test_choice far sense way b c one two ≡ Some t → TailLands (Test sense way) t
    test_choice-tail sense way b (Some c) t h =
        let o = bound (one (Test sense way)) (λ is. Some (decided sense way c (alone false is))) t h in
        tail-same (Test sense way) _ t o.2 (decided-tail sense way c false o.0 (good1 (Test sense way) o.0 o.1))
    test_choice-tail sense way (Some b) None t h =
        let o = bound (two (Test sense way)) (λ is. Some (decided sense way b (alone true is))) t h in
        tail-same (Test sense way) _ t o.2 (decided-tail sense way b true o.0 (good2 (Test sense way) o.0 o.1))
    test_choice-tail sense way None None t h =
        let o = bound (two (Test sense way)) (λ second. one (Test sense (past way second)) >>= λ first. Some (both far first second)) t h in
        let p = bound (one (Test sense (past way o.0))) (λ first. Some (both far first o.0)) t o.2 in
        tail-same (Test sense way) _ t p.2 (both-test sense way p.0 o.0 (good1 _ p.0 p.1) (good2 (Test sense way) o.0 o.1))

    value_choice-tail : (m : Mode) (t : Tail) → ((a b : List Instr) → Lands T P far m a → Lands T P far m b → TailLands m (branches far m a b)) → value_choice far m one two ≡ Some t → TailLands m t
    value_choice-tail m t tails h =
        let o = bound (one m) (λ first. two m >>= λ second. Some (branches far m first second)) t h in
        let p = bound (two m) (λ second. Some (branches far m o.0 second)) t o.2 in
        tail-same m _ t p.2 (tails o.0 p.0 (good1 m o.0 o.1) (good2 m p.0 p.1))

    choice-tail : (m : Mode) (b c : Option Bool) (t : Tail) → choice far m b c one two ≡ Some t → TailLands m t
    choice-tail Value b c t h = value_choice-tail Value t both-value h
    choice-tail Effect b c t h = value_choice-tail Effect t either-tail h
    choice-tail (Test sense way) b c t h = test_choice-tail sense way b c t h
    choice-tail (Return w) b c t h = value_choice-tail (Return w) t (apart-tail w) h

  -- a test, and behind it what it chooses from
  behind-test : (sense : Bool) (way : ℕ) (m : Mode) (a b : List Instr) → Lands T P far (mode_of_test sense way) a → Tails T P far m way b → Lands T P far m (a ++ b)
  behind-test sense way m a b la tb =
      let none = λ (e : nat_eq way 0 ≡ true) (l : Lands T P far Effect a). lands-both T P far m a b (effect-value T P far a l) tb.lands in
      let some = λ (e : nat_eq way 0 ≡ false) (l : Lands T P far (Test sense way) a). lands-test T P far sense way m a b l tb in
      cond_both (nat_eq way 0) Effect (Test sense way) (λ n. Lands T P far n a → Lands T P far m (a ++ b)) none some la

  -- choices land
  pub choice-lands : (test one two : Mode → Option (List Instr)) → Good test → Good one → Good two → (m : Mode) (b c : Option Bool) (is : List Instr)
      → choice_code test (choice far m b c one two) ≡ Some is → Lands T P far m is
  choice-lands test one two good good1 good2 m b c is h =
      let o = bound (choice far m b c one two) (λ t. joined (test (mode_of_test t.sense t.way)) (Some t.instrs)) is h in
      let t = o.0 in
      let tail = choice-tail one two good1 good2 m b c t o.1 in
      let j = joined-is (test (mode_of_test t.sense t.way)) (Some t.instrs) is o.2 in
      let l = behind-test t.sense t.way m j.first t.instrs (good (mode_of_test t.sense t.way) j.first j.a-is) tail in
      let same : t.instrs ≡ j.second = (let e = j.b-is in cc) in
      subst (Lands T P far m) (ap (λ (s : List Instr). j.first ++ s) same ∙ j.is) l

  -- ---- loops

  -- a jump back
  back-right : (ok : ℕ → Bool) (o way : ℕ) → ok (o - way) ≡ true → way ≤ o → way ≤ limit far → Right T P ok o (jump_back far way)
  back-right ok o way h le few = by far few
    where
      by : (f : Bool) → way ≤ limit f → Right T P ok o (jump_back f way)
      by true l = (h, le, l)
      by false l = (h, le, l)

  size-back : (way : ℕ) → size_of (jump_back far way) ≡ jump_size far
  size-back way = by far
    where
      by : (f : Bool) → size_of (jump_back f way) ≡ jump_size f
      by true = refl
      by false = refl

  loop-lands : (a b : List Instr) → Lands T P far (Test false (plus (room_of b) (jump_size far))) a → Lands T P far Effect b → Lands T P far Value (loop far a b)
  loop-lands a b la lb = record {
    goes = λ ok o e at few h x.
        let way = plus (room_of a) (room_of b) in
        let j = jump_back far way in
        let s = size-back way in
        let y = bytes-append (a ++ b) (j ∷ []) in
        let z = bytes-append a b in
        let k = bytes-one j in
        let u = limit-le far in
        let ra = room-is a (omega (arith, few, y, z, k, u)) in
        let rb = room-is b (omega (arith, few, y, z, k, u)) in
        let front = starts-front ok o (a ++ b) (j ∷ []) h in
        let back = starts-back ok o (a ++ b) (j ∷ []) h in
        let mid = o + bytes_of a in
        let last = o + bytes_of (a ++ b) in
        let body = starts-back ok o a b front in
        let second = start-ok ok Effect mid last b (omega (arith, z)) body back.0 lb.some in
        let out = ok-at ok e (mid + plus (room_of b) (jump_size far)) (omega (arith, at, y, z, k, s, rb, few, u)) x in
        let first = start-ok ok (Test false (plus (room_of b) (jump_size far))) o mid a refl (starts-front ok o a b front) (second, out) la.some in
        let start = ok-at ok o (last - way) (omega (arith, z, ra, rb, few, y, k, u)) first in
        let one = la.goes ok o mid refl (omega (arith, few, y, z, k, s, rb, u)) (starts-front ok o a b front) (second, out) in
        let two = lb.goes ok mid last (omega (arith, z)) (omega (arith, few, y, z, k)) body back.0 in
        let three = back-right ok last way start (omega (arith, z, ra, rb)) (omega (arith, few, y, z, k, ra, rb)) in
        goes-append T P ok o (a ++ b) (j ∷ []) (goes-append T P ok o a b one two) (three, tt);
    some = tt;
  }

  pub repeated-lands : (test body : Mode → Option (List Instr)) → Good test → Good body → (is : List Instr) → repeated far test body ≡ Some is → Lands T P far Value is
  repeated-lands test body good good1 is h =
      let mode = λ (b : List Instr). Test false (plus (room_of b) (jump_size far)) in
      let o = bound (body Effect) (λ b. test (mode b) >>= λ ts. Some (loop far ts b)) is h in
      let p = bound (test (mode o.0)) (λ ts. Some (loop far ts o.0)) is o.2 in
      let l = loop-lands p.0 o.0 (good (mode o.0) p.0 p.1) (good1 Effect o.0 o.1) in
      let same : loop far p.0 o.0 ≡ is = (let e = p.2 in cc) in
      subst (Lands T P far Value) same l
