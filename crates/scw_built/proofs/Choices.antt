-- Choices and loops whose parts have codes that name the same, in modes that differ in ways alone, are such.
use Rattle.std.proofs.Common.{◌≡◌, ℕ, ◌<◌, pos, negsuc, Bool, true, false, cond, List, [], ◌∷◌, ◌++◌, Option, Some, None, refl, subst, arith}
use Rattle.std.specs.Prelude.{nat_eq, nat_le}
use Rattle.std.proofs.lemmas.Bool.{ne_eqb}
use Rattle.scw_gen.specs.Around.{Around}
use Rattle.scw_gen.specs.Code.{choice, choice_code, loop, repeated, test_choice, value_choice}
use Rattle.scw_gen.specs.Instr.{bytes_of, is_between, plus, room_of, size_of}
use Rattle.scw_gen.specs.Mode.{Tail, agree, alone, both, branches, decided, either, farther, jump, jump_back, jump_size, mode_of_test}
use Rattle.scw_gen.specs.Outcome.{◌>>=◌}
use Rattle.scw_gen.specs.declared.instr.Instr.{Instr}
use Rattle.scw_gen.specs.declared.instr.Instr.TheVariants as instr
use Rattle.scw_gen.specs.declared.mode.Mode.{Mode}
use Rattle.scw_gen.specs.declared.mode.Mode.TheVariants.{Value, Effect, Test, Return}
use Rattle.scw_built.proofs.Alike as alike
use Rattle.scw_built.proofs.Alike.{Alike, Both, alike-append, alike-quiet, both-then, is_empty, joined-both}
use Rattle.scw_built.proofs.Modes.{Modes, back-quiet, jump-quiet, m_effect, m_return, m_test, m_value}

-- ---- ways

-- both lead nowhere, or both somewhere
pub data Ways : ℕ → ℕ → Type 0 where
  nowhere : Ways 0 0
  somewhere : (v w : ℕ) → 0 < v → 0 < w → Ways v w

plus-some : (a b : ℕ) → 0 < b → 0 < plus a b
plus-some a b h = omega (arith, h)

jump-some : (far : Bool) → 0 < jump_size far
jump-some true = omega arith
jump-some false = omega arith

one_of_three : (b c : Bool) → 0 < cond b 1 (cond c 2 3)
one_of_three true c = omega arith
one_of_three false true = omega arith
one_of_three false false = omega arith

one_or_four : (b c : Bool) → 0 < cond b 1 (cond c 2 4)
one_or_four true c = omega arith
one_or_four false true = omega arith
one_or_four false false = omega arith

size-some : (i : Instr) → 0 < size_of i
size-some (instr.Number n) = one_of_three (is_between (negsuc 0) (pos 5) n) (is_between (negsuc 127) (pos 127) n)
size-some (instr.Load w n) = one_or_four (nat_le n 3) (nat_le n 255)
size-some (instr.Store w n) = one_or_four (nat_le n 3) (nat_le n 255)
size-some _ = omega arith

room-some : (i : Instr) (is : List Instr) → 0 < room_of (i ∷ is)
unfolding room_of bytes_of
room-some i is = let h = size-some i in omega (arith, h)

room-none : room_of [] ≡ 0
unfolding room_of bytes_of
room-none = refl

room-ways : (a b : List Instr) → is_empty a ≡ is_empty b → Ways (room_of a) (room_of b)
unfolding room_of bytes_of
room-ways [] [] h = nowhere
room-ways [] (j ∷ js) h = absurd (cc)
room-ways (i ∷ is) [] h = absurd (cc)
room-ways (i ∷ is) (j ∷ js) h = somewhere _ _ (room-some i is) (room-some j js)

test-modes : (sense : Bool) (v w : ℕ) → Ways v w → Modes (mode_of_test sense v) (mode_of_test sense w)
test-modes sense v w nowhere = m_effect
test-modes sense v w (somewhere a b h k) = go (nat_eq a 0) (nat_eq b 0) (ne_eqb a 0 (λ z. omega (arith, z, h))) (ne_eqb b 0 (λ z. omega (arith, z, k)))
  where
    go : (c d : Bool) → c ≡ false → d ≡ false → Modes (cond c Effect (Test sense a)) (cond d Effect (Test sense b))
    go true d x y = absurd (cc)
    go false true x y = absurd (cc)
    go false false x y = m_test sense a b h k

-- as far as behind a code and the jump before it
abbrev far_way : Bool → ℕ → List Instr → ℕ
far_way far way is = plus (plus (room_of is) (jump_size far)) way

-- ---- tails

pub record Tails (g : Around) (s t : Tail) : Type 0 where
  pub sense : s.sense ≡ t.sense
  pub way : Ways s.way t.way
  pub instrs : Alike g s.instrs t.instrs

-- two tails that are both there
pub data TailsThere (g : Around) : Option Tail → Option Tail → Type 0 where
  there : (s t : Tail) → Tails g s t → TailsThere g (Some s) (Some t)

module _ (g : Around) (d e : Bool) where
  jumps-alike : (v w : ℕ) → Alike g (jump d v ∷ []) (jump e w ∷ [])
  jumps-alike v w = alike-quiet g (jump d v) (jump e w) (jump-quiet g d v) (jump-quiet g e w)

  both-tails : (a b x y : List Instr) → Alike g a b → Alike g x y → Tails g (both d a x) (both e b y)
  both-tails a b x y h k = record {
    sense = refl;
    way = somewhere _ _ (plus-some (room_of a) (jump_size d) (jump-some d)) (plus-some (room_of b) (jump_size e) (jump-some e));
    instrs = alike-append g (a ++ jump d (room_of x) ∷ []) (b ++ jump e (room_of y) ∷ []) x y (alike-append g a b (jump d (room_of x) ∷ []) (jump e (room_of y) ∷ []) h (jumps-alike (room_of x) (room_of y))) k;
  }

  alone-tails : (sense : Bool) (a b : List Instr) → Alike g a b → Tails g (alone sense a) (alone sense b)
  alone-tails sense a b h = record { sense = refl; way = room-ways a b h.empty; instrs = h }

  either-tails : (a b x y : List Instr) → Alike g a b → Alike g x y → Tails g (either d a x) (either e b y)
  either-tails a b x y h k = go a b x y h k h.empty k.empty
    where
      go : (a b x y : List Instr) → Alike g a b → Alike g x y → is_empty a ≡ is_empty b → is_empty x ≡ is_empty y → Tails g (either d a x) (either e b y)
      go a b [] [] h k s t = alone-tails false a b h
      go a b [] (j ∷ y) h k s t = absurd (cc)
      go a b (i ∷ x) [] h k s t = absurd (cc)
      go [] [] (i ∷ x) (j ∷ y) h k s t = alone-tails true (i ∷ x) (j ∷ y) k
      go [] (j ∷ b) (i ∷ x) (l ∷ y) h k s t = absurd (cc)
      go (i ∷ a) [] (l ∷ x) (j ∷ y) h k s t = absurd (cc)
      go (u ∷ a) (v ∷ b) (i ∷ x) (j ∷ y) h k s t = both-tails (u ∷ a) (v ∷ b) (i ∷ x) (j ∷ y) h k

  branches-tails : (m n : Mode) (a b x y : List Instr) → Modes m n → Alike g a b → Alike g x y → Tails g (branches d m a x) (branches e n b y)
  branches-tails m n a b x y m_value h k = both-tails a b x y h k
  branches-tails m n a b x y m_effect h k = either-tails a b x y h k
  branches-tails m n a b x y (m_test sense v w p q) h k = both-tails a b x y h k
  branches-tails m n a b x y (m_return w) h k = record { sense = refl; way = room-ways a b h.empty; instrs = alike-append g a b x y h k }

  decided-tails : (sense c : Bool) (v w : ℕ) (s t : Tail) → 0 < v → 0 < w → Tails g s t → Tails g (decided sense v c s) (decided sense w c t)
  decided-tails sense c v w s t h k l = go (agree c sense)
    where
      go : (b : Bool) → Tails g (cond b (farther v s) s) (cond b (farther w t) t)
      go true = record { sense = l.sense; way = somewhere _ _ (plus-some s.way v h) (plus-some t.way w k); instrs = l.instrs }
      go false = l

  -- what is both there in modes that differ in ways alone
  abbrev Good : (Mode → Option (List Instr)) → (Mode → Option (List Instr)) → Type 0
  Good one two = (m n : Mode) → Modes m n → Both g (one m) (two n)

  module _ (a b x y : Mode → Option (List Instr)) (h : Good a b) (k : Good x y) where
    value_choice-there : (m n : Mode) → Modes m n → TailsThere g (value_choice d m a x) (value_choice e n b y)
    value_choice-there m n same =
        both-then g (TailsThere g) (λ is. x m >>= λ js. Some (branches d m is js)) (λ is. y n >>= λ js. Some (branches e n is js)) (a m) (b n) (h m n same) (λ is js s.
        both-then g (TailsThere g) (λ ks. Some (branches d m is ks)) (λ ks. Some (branches e n js ks)) (x m) (y n) (k m n same) (λ ks ls t. there _ _ (branches-tails m n is js ks ls same s t)))

    test_choice-there : (sense : Bool) (v w : ℕ) (one two : Option Bool) → 0 < v → 0 < w → TailsThere g (test_choice d sense v one two a x) (test_choice e sense w one two b y)
    test_choice-there sense v w one (Some c) p q =
        both-then g (TailsThere g) (λ is. Some (decided sense v c (alone false is))) (λ is. Some (decided sense w c (alone false is))) (a (Test sense v)) (b (Test sense w)) (h _ _ (m_test sense v w p q))
        (λ is js s. there _ _ (decided-tails sense c v w (alone false is) (alone false js) p q (alone-tails false is js s)))
    test_choice-there sense v w (Some c) None p q =
        both-then g (TailsThere g) (λ is. Some (decided sense v c (alone true is))) (λ is. Some (decided sense w c (alone true is))) (x (Test sense v)) (y (Test sense w)) (k _ _ (m_test sense v w p q))
        (λ is js s. there _ _ (decided-tails sense c v w (alone true is) (alone true js) p q (alone-tails true is js s)))
    test_choice-there sense v w None None p q =
        both-then g (TailsThere g) (λ is. a (Test sense (far_way d v is)) >>= λ js. Some (both d js is)) (λ is. b (Test sense (far_way e w is)) >>= λ js. Some (both e js is)) (x (Test sense v)) (y (Test sense w)) (k _ _ (m_test sense v w p q)) (λ is js s.
        both-then g (TailsThere g) (λ ks. Some (both d ks is)) (λ ks. Some (both e ks js)) (a (Test sense (far_way d v is))) (b (Test sense (far_way e w js)))
        (h _ _ (m_test sense _ _ (plus-some (plus (room_of is) (jump_size d)) v p) (plus-some (plus (room_of js) (jump_size e)) w q))) (λ ks ls t. there _ _ (both-tails ks ls is js t s)))

    pub choice-there : (m n : Mode) (one two : Option Bool) → Modes m n → TailsThere g (choice d m one two a x) (choice e n one two b y)
    choice-there m n one two m_value = value_choice-there Value Value m_value
    choice-there m n one two m_effect = value_choice-there Effect Effect m_effect
    choice-there m n one two (m_test sense v w p q) = test_choice-there sense v w one two p q
    choice-there m n one two (m_return w) = value_choice-there (Return w) (Return w) (m_return w)

  pub choice_code-both : (a b : Mode → Option (List Instr)) (s t : Option Tail) → Good a b → TailsThere g s t → Both g (choice_code a s) (choice_code b t)
  choice_code-both a b s t h (there u v k) =
      joined-both g (a (mode_of_test u.sense u.way)) (b (mode_of_test v.sense v.way)) (Some u.instrs) (Some v.instrs)
      (h _ _ (subst (λ c. Modes (mode_of_test u.sense u.way) (mode_of_test c v.way)) k.sense (test-modes u.sense u.way v.way k.way))) (alike.both _ _ k.instrs)

  loop-alike : (a b x y : List Instr) → Alike g a b → Alike g x y → Alike g (loop d a x) (loop e b y)
  loop-alike a b x y h k =
      alike-append g (a ++ x) (b ++ y) (jump_back d _ ∷ []) (jump_back e _ ∷ []) (alike-append g a b x y h k) (alike-quiet g _ _ (back-quiet g d _) (back-quiet g e _))

  pub repeated-both : (a b x y : Mode → Option (List Instr)) → Good a b → Good x y → Both g (repeated d a x) (repeated e b y)
  repeated-both a b x y h k =
      both-then g (Both g) (λ is. a (Test false (plus (room_of is) (jump_size d))) >>= λ ts. Some (loop d ts is)) (λ is. b (Test false (plus (room_of is) (jump_size e))) >>= λ ts. Some (loop e ts is)) (x Effect) (y Effect) (k Effect Effect m_effect) (λ is js s.
      both-then g (Both g) (λ ts. Some (loop d ts is)) (λ ts. Some (loop e ts js)) (a (Test false (plus (room_of is) (jump_size d)))) (b (Test false (plus (room_of js) (jump_size e))))
      (h _ _ (m_test false _ _ (plus-some (room_of is) (jump_size d) (jump-some d)) (plus-some (room_of js) (jump_size e) (jump-some e)))) (λ ts us t. alike.both _ _ (loop-alike ts us is js t s)))
