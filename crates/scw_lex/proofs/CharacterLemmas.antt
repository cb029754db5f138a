-- The table of the ASCII characters has the class of each.
use Rattle.std.proofs.Common.{◌≡◌, ℕ, zero, suc, ◌+◌, ◌<◌, ◌≤◌, Bool, true, false, cond, List, [], ◌∷◌, length, get_or, refl, sym, ap, ◌∙◌, arith, IsTrue}
use Rattle.std.specs.Prelude.{◌&&◌, nat_eq, nat_lt}
use Rattle.std.proofs.lemmas.Bool.{eqb-true, lt-ltb, le-ltb}
use Rattle.ucd_category.specs.GeneralCategory.{general_category}
use Rattle.scw_lex.specs.declared.character.Class.{Class}
use Rattle.scw_lex.specs.declared.character.Class.TheVariants as class
use Rattle.scw_lex.specs.declared.character.TheConstants.{ASCII}
use Rattle.scw_lex.specs.Character.{ascii_class, category_class, class_of}

number : Class → ℕ
number class.Letter = 0
number class.Digit = 1
number class.White = 2
number class.Separator = 3
number class.Quote = 4
number class.Operator = 5
number class.Other = 6

numbered : ℕ → Class
numbered n = cond (nat_eq n 0) class.Letter (cond (nat_eq n 1) class.Digit (cond (nat_eq n 2) class.White (cond (nat_eq n 3) class.Separator
    (cond (nat_eq n 4) class.Quote (cond (nat_eq n 5) class.Operator class.Other)))))

numbered-number : (k : Class) → numbered (number k) ≡ k
unfolding number numbered
numbered-number class.Letter = refl
numbered-number class.Digit = refl
numbered-number class.White = refl
numbered-number class.Separator = refl
numbered-number class.Quote = refl
numbered-number class.Operator = refl
numbered-number class.Other = refl

-- the table has the classes of the characters from this one on
agrees : ℕ → List Class → Bool
agrees n [] = true
agrees n (k ∷ ks) = cond (nat_eq (number k) (number (ascii_class n))) (agrees (1 + n) ks) false

table_agrees : agrees 0 ASCII ≡ true
unfolding agrees number
table_agrees = refl

same : (j k : Class) → nat_eq (number j) (number k) ≡ true → j ≡ k
same j k h = sym (numbered-number j) ∙ ap numbered (eqb-true (number j) (number k) h) ∙ numbered-number k

-- what the table has at a place, where its first entry is the class of its first character, and the rest agrees
step : (k : Class) (ks : List Class) (n i : ℕ) → k ≡ ascii_class n → ((j : ℕ) → j < length ks → get_or ks j class.Other ≡ ascii_class ((1 + n) + j))
    → i < length (k ∷ ks) → get_or (k ∷ ks) i class.Other ≡ ascii_class (n + i)
step k ks n zero e later l = let z : n + 0 ≡ n = omega arith in rw z e
step k ks n (suc i) e later l = let z : n + suc i ≡ (1 + n) + i = omega arith in rw z (later i (omega (arith, l)))

at_place : (table : List Class) (n : ℕ) → agrees n table ≡ true → (i : ℕ) → i < length table → get_or table i class.Other ≡ ascii_class (n + i)
unfolding agrees
at_place [] n h i l = absurd (omega (arith, l))
at_place (k ∷ ks) n h i l = by (at_place ks (1 + n)) (nat_eq (number k) (number (ascii_class n))) refl h
  where
    by : (agrees (1 + n) ks ≡ true → (j : ℕ) → j < length ks → get_or ks j class.Other ≡ ascii_class ((1 + n) + j)) → (b : Bool)
        → nat_eq (number k) (number (ascii_class n)) ≡ b → cond b (agrees (1 + n) ks) false ≡ true → get_or (k ∷ ks) i class.Other ≡ ascii_class (n + i)
    by later false e a = absurd cc
    by later true e a = step k ks n i (same k (ascii_class n) e) (later a) l

pub ascii_classes : (c : ℕ) → c < 128 → get_or ASCII c class.Other ≡ class_of c
unfolding class_of
ascii_classes c h = let z : 0 + c ≡ c = omega arith in rw (lt-ltb c 128 h) (at_place ASCII 0 table_agrees c h ∙ ap ascii_class z)

pub wide_class : (c : ℕ) → 128 ≤ c → category_class (general_category c) ≡ class_of c
unfolding class_of
wide_class c h = rw (le-ltb c 128 h) refl
