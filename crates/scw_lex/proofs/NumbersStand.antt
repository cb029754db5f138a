-- Numbers stand where they are found.
use Rattle.std.proofs.Common.{◌≡◌, ℕ, zero, suc, ◌+◌, ◌<◌, ◌≤◌, Bool, true, false, cond, List, [], ◌∷◌, ◌++◌, length, take, drop, codes, refl, sym, ap, ◌∙◌, subst, arith, append_assoc}
use Rattle.std.specs.Prelude.{◌&&◌, nat_eq, nat_lt}
use Rattle.std.specs.List.{list_all, prefix_len}
use Rattle.std.specs.Char.{is_ascii_digit, is_ascii_hexdigit}
use Rattle.std.proofs.lemmas.Bool.{and_parts, both_ways, ltb-true, ltb-false}
use Rattle.std.proofs.lemmas.List.{take-append-drop, length-append, length-take-le}
use Rattle.scw_text.specs.declared.rule.Rule.TheVariants as rule
use Rattle.scw_lex.specs.declared.character.Class.TheVariants as class
use Rattle.scw_lex.specs.declared.piece.Piece.{Piece}
use Rattle.scw_lex.specs.declared.piece.Piece.TheVariants as piece
use Rattle.scw_lex.specs.declared.reserved.Reserved.TheVariants as word
use Rattle.scw_lex.specs.declared.token.Tok.TheVariants as tok
use Rattle.scw_lex.specs.Character.{is_of, begins, class_of}
use Rattle.scw_lex.specs.Reserved.{separator}
use Rattle.scw_lex.specs.Number.{value_of, begins_long, hex_int, hex_long, hex_of, hex_number, decimal_number, fraction_len, float_len, decimal_of, decimal_piece, number_piece, point_piece}
use Rattle.scw_lex.specs.Lexical.{AreDigits, IsOneOf, IsFloating, Lexical}
use Rattle.scw_lex.proofs.TextLemmas.{same_fronts, later_is, begins_front, all_begin, run_all, run_ends, run_fits, run_is, run_is_long}
use Rattle.scw_lex.proofs.CommentLemmas.{is_of_one}
use Rattle.scw_lex.proofs.FloatingLemmas.{each_of, none_of, fraction_is_in_float, float_is, float_here}
use Rattle.scw_lex.proofs.NameLemmas.{digit_is_ascii}
use Rattle.scw_lex.proofs.HeadLemmas.{Head, View, head_at, head_by}
use Rattle.scw_lex.proofs.BestLemmas.{Rival, Best, best_is, shorter}

-- ---- what digits before a text that doesn't go on with them say of others

-- digits at the front are no more than all
few_digits : (d r other more : List ℕ) → list_all is_ascii_digit d ≡ true → begins is_ascii_digit r ≡ false → d ++ r ≡ other ++ more → list_all is_ascii_digit other ≡ true → length other ≤ length d
few_digits d r other more a h e o =
    let k = run_is is_ascii_digit d r a h in
    let l = run_is_long is_ascii_digit other more o in
    let w = ap (prefix_len is_ascii_digit) e in
    omega (arith, k, l, w)

-- and all, where something else comes behind them
all_digits : (p : ℕ → Bool) (d r other more : List ℕ) → list_all p d ≡ true → begins p r ≡ false → d ++ r ≡ other ++ more → list_all p other ≡ true → begins p more ≡ false
    → (other ≡ d) × (more ≡ r)
all_digits p d r other more a h e o m =
    let k = run_is p d r a h in
    let l = run_is p other more o m in
    let w = ap (prefix_len p) e in
    let n : length d ≡ length other = omega (arith, k, l, w) in
    let s = same_fronts d r other more e n in
    (sym s.0, sym s.1)

float_behind : (d r other more : List ℕ) (f : IsFloating other) → list_all is_ascii_digit d ≡ true → begins is_ascii_digit r ≡ false → d ++ r ≡ other ++ more
    → (0 < float_len r) × (length other ≤ length d + float_len r)
float_behind d r other more f a h e =
    let g = float_is other more f in
    let k = run_is is_ascii_digit d r a h in
    let w = ap (prefix_len is_ascii_digit) e in
    let q = g.run in
    let n : length d ≡ length f.digits = omega (arith, k, w, q) in
    let s = same_fronts d r f.digits g.behind (e ∙ g.whole) n in
    let b : float_len r ≡ float_len g.behind = ap float_len s.1 in
    let x = g.any in
    let y = g.long in
    (omega (arith, b, x), omega (arith, b, n, y))

-- where nothing of a floating form begins
no_float : (l : ℕ) (t : List ℕ) → IsOneOf (codes "lLxX") l → float_len (l ∷ t) ≡ 0
unfolding float_len
no_float l t o = rw (none_of (is_of (codes ".")) (codes "lLxX") l refl o) (rw (none_of (is_of (codes "eE")) (codes "lLxX") l refl o) (rw (none_of (is_of (codes "fFdD")) (codes "lLxX") l refl o) (omega arith)))

long_is_one : (l : ℕ) → IsOneOf (codes "lL") l → IsOneOf (codes "lLxX") l
long_is_one l o = each_of (is_of (codes "lLxX")) (codes "lL") l refl o

hex_is_one : (l : ℕ) → IsOneOf (codes "xX") l → IsOneOf (codes "lLxX") l
hex_is_one l o = each_of (is_of (codes "lLxX")) (codes "xX") l refl o

long_is_no_digit : (l : ℕ) (more : List ℕ) → IsOneOf (codes "lL") l → begins is_ascii_digit (l ∷ more) ≡ false
long_is_no_digit l more o = none_of is_ascii_digit (codes "lL") l refl o

long_is_no_hex : (l : ℕ) (more : List ℕ) → IsOneOf (codes "lL") l → begins is_ascii_hexdigit (l ∷ more) ≡ false
long_is_no_hex l more o = none_of is_ascii_hexdigit (codes "lL") l refl o

-- ---- decimal numbers and floating forms

-- a hexadecimal number begins the text
abbrev is_hex : List ℕ → Bool
is_hex [] = false
is_hex (c ∷ []) = false
is_hex (c ∷ d ∷ ds) = is_of (codes "0") c && (is_of (codes "xX") d && begins is_ascii_hexdigit ds)

hex_begins : (x : ℕ) (digits more t : List ℕ) → IsOneOf (codes "xX") x → AreDigits is_ascii_hexdigit digits → t ≡ 48 ∷ x ∷ (digits ++ more) → is_hex t ≡ true
hex_begins x digits more t o a e =
    let h : begins is_ascii_hexdigit (digits ++ more) ≡ true = begins_front is_ascii_hexdigit digits more a.0 ∙ all_begin is_ascii_hexdigit digits a.0 a.1 in
    ap is_hex e ∙ rw o h

module _ (d r : List ℕ) (a : list_all is_ascii_digit d ≡ true) (any : 0 < length d) (h : begins is_ascii_digit r ≡ false) (n : is_hex (d ++ r) ≡ false) where
  float_rival : (l : length (d ++ take (float_len r) r) ≡ length d + float_len r) → 0 < float_len r → (other more : List ℕ) (q : Piece) → d ++ r ≡ other ++ more → View Head.Digit other more q
      → Rival (d ++ take (float_len r) r) (piece.Refused rule.BadNumber 0 (length d + float_len r)) other q
  float_rival l p other more q e (View.decimal b) =
      let k = few_digits d r other more a h e b.1 in
      shorter (d ++ take (float_len r) r) other (piece.Refused rule.BadNumber 0 (length d + float_len r)) q (omega (arith, l, p, k))
  float_rival l p other more q e (View.decimal_long digits c b o) =
      let s = all_digits is_ascii_digit d r digits (c ∷ more) a h (e ∙ append_assoc digits (c ∷ []) more) b.1 (long_is_no_digit c more o) in
      let z : float_len r ≡ 0 = ap float_len (sym s.1) ∙ no_float c more (long_is_one c o) in
      absurd (omega (arith, p, z))
  float_rival l p other more q e (View.hexadecimal {x} {digits} o b) = absurd (both_ways (is_hex (d ++ r)) n (hex_begins x digits more (d ++ r) o b e))
  float_rival l p other more q e (View.hexadecimal_long digits x c o b w) =
      absurd (both_ways (is_hex (d ++ r)) n (hex_begins x digits (c ∷ more) (d ++ r) o b (e ∙ ap (λ t. 48 ∷ x ∷ t) (append_assoc digits (c ∷ []) more))))
  float_rival l p other more q e (View.floating f b) =
      let k = (float_behind d r other more f a h e).1 in
      record { shorter = omega (arith, l, k); same = λ j. ap (piece.Refused rule.BadNumber 0) (j ∙ l) }

  float_best : (c : ℕ) (cs : List ℕ) → head_at c ≡ Head.Digit → c ∷ cs ≡ d ++ r → 0 < float_len r → Best (c ∷ cs) (piece.Refused rule.BadNumber 0 (length d + float_len r))
  float_best c cs k e p =
      let f = float_here d r a (omega (arith, any)) p in
      let l : length (d ++ take (float_len r) r) ≡ length d + float_len r = length-append d (take (float_len r) r) ∙ ap (λ m. length d + m) (length-take-le (float_len r) r f.fits) in
      let w : d ++ r ≡ (d ++ take (float_len r) r) ++ drop (float_len r) r = ap (λ t. d ++ t) (sym (take-append-drop (float_len r) r)) ∙ sym (append_assoc d (take (float_len r) r) (drop (float_len r) r)) in
      best_is Head.Digit c cs (d ++ take (float_len r) r) (drop (float_len r) r) (piece.Refused rule.BadNumber 0 (length d + float_len r)) k (e ∙ w)
      (subst (λ m. Lexical (d ++ take (float_len r) r) (drop (float_len r) r) (piece.Refused rule.BadNumber 0 m)) l (Lexical.floating f.is))
      (λ other more q u v. float_rival l p other more q (sym e ∙ u) v)

  long_rival : (c : ℕ) (cs : List ℕ) → r ≡ c ∷ cs → IsOneOf (codes "lL") c → (other more : List ℕ) (q : Piece) → d ++ r ≡ other ++ more → View Head.Digit other more q
      → Rival (d ++ c ∷ []) (decimal_number d true) other q
  long_rival c cs w o other more q e (View.decimal b) =
      let k = few_digits d r other more a h e b.1 in
      let l = length-append d (c ∷ []) in
      shorter (d ++ c ∷ []) other (decimal_number d true) q (omega (arith, l, k))
  long_rival c cs w o other more q e (View.decimal_long digits j b u) =
      let s = all_digits is_ascii_digit d r digits (j ∷ more) a h (e ∙ append_assoc digits (j ∷ []) more) b.1 (long_is_no_digit j more u) in
      let k : length digits ≡ length d = ap length s.0 in
      let l = length-append d (c ∷ []) in
      let m = length-append digits (j ∷ []) in
      record { shorter = omega (arith, k, l, m); same = λ v. ap (λ x. decimal_number x true) s.0 }
  long_rival c cs w o other more q e (View.hexadecimal {x} {digits} u b) = absurd (both_ways (is_hex (d ++ r)) n (hex_begins x digits more (d ++ r) u b e))
  long_rival c cs w o other more q e (View.hexadecimal_long digits x j u b v) =
      absurd (both_ways (is_hex (d ++ r)) n (hex_begins x digits (j ∷ more) (d ++ r) u b (e ∙ ap (λ t. 48 ∷ x ∷ t) (append_assoc digits (j ∷ []) more))))
  long_rival c cs w o other more q e (View.floating f b) =
      let k = (float_behind d r other more f a h e).0 in
      let z : float_len r ≡ 0 = ap float_len w ∙ no_float c cs (long_is_one c o) in
      absurd (omega (arith, k, z))

  int_rival : float_len r ≡ 0 → begins_long r ≡ false → (other more : List ℕ) (q : Piece) → d ++ r ≡ other ++ more → View Head.Digit other more q → Rival d (decimal_number d false) other q
  int_rival z w other more q e (View.decimal b) =
      record { shorter = few_digits d r other more a h e b.1; same = λ l. ap (λ x. decimal_number x false) (same_fronts other more d r (sym e) l).0 }
  int_rival z w other more q e (View.decimal_long digits j b u) =
      let s = all_digits is_ascii_digit d r digits (j ∷ more) a h (e ∙ append_assoc digits (j ∷ []) more) b.1 (long_is_no_digit j more u) in
      absurd (both_ways (begins_long r) w (ap begins_long (sym s.1) ∙ u))
  int_rival z w other more q e (View.hexadecimal {x} {digits} u b) = absurd (both_ways (is_hex (d ++ r)) n (hex_begins x digits more (d ++ r) u b e))
  int_rival z w other more q e (View.hexadecimal_long digits x j u b v) =
      absurd (both_ways (is_hex (d ++ r)) n (hex_begins x digits (j ∷ more) (d ++ r) u b (e ∙ ap (λ t. 48 ∷ x ∷ t) (append_assoc digits (j ∷ []) more))))
  int_rival z w other more q e (View.floating f b) = let k = (float_behind d r other more f a h e).0 in absurd (omega (arith, k, z))

  decimal_best : (c : ℕ) (cs : List ℕ) → head_at c ≡ Head.Digit → c ∷ cs ≡ d ++ r → float_len r ≡ 0 → Best (c ∷ cs) (decimal_number d (begins_long r))
  decimal_best c cs k e z = by r refl
    where
      is_long : (x : ℕ) (xs : List ℕ) → r ≡ x ∷ xs → (b : Bool) → is_of (codes "lL") x ≡ b → Best (c ∷ cs) (decimal_number d b)
      is_long x xs w true o =
          best_is Head.Digit c cs (d ++ x ∷ []) xs (decimal_number d true) k (e ∙ ap (λ t. d ++ t) w ∙ sym (append_assoc d (x ∷ []) xs)) (Lexical.decimal_long d x (any, a) o)
          (λ other more q u v. long_rival x xs w o other more q (sym e ∙ u) v)
      is_long x xs w false o =
          best_is Head.Digit c cs d r (decimal_number d false) k e (Lexical.decimal (any, a)) (λ other more q u v. int_rival z (ap begins_long w ∙ o) other more q (sym e ∙ u) v)

      by : (t : List ℕ) → r ≡ t → Best (c ∷ cs) (decimal_number d (begins_long t))
      by [] w = best_is Head.Digit c cs d r (decimal_number d false) k e (Lexical.decimal (any, a)) (λ other more q u v. int_rival z (ap begins_long w) other more q (sym e ∙ u) v)
      by (x ∷ xs) w = is_long x xs w (is_of (codes "lL") x) refl

  decimals_best : (c : ℕ) (cs : List ℕ) → head_at c ≡ Head.Digit → c ∷ cs ≡ d ++ r → Best (c ∷ cs) (decimal_of d r)
  decimals_best c cs k e = by (nat_lt 0 (float_len r)) refl
    where
      by : (b : Bool) → nat_lt 0 (float_len r) ≡ b → Best (c ∷ cs) (cond b (piece.Refused rule.BadNumber 0 (length d + float_len r)) (decimal_number d (begins_long r)))
      by true w = float_best c cs k e (ltb-true 0 (float_len r) w)
      by false w = let z = ltb-false 0 (float_len r) w in decimal_best c cs k e (omega (arith, z))

decimal_piece_best : (c : ℕ) (cs : List ℕ) → class_of c ≡ class.Digit → is_hex (c ∷ cs) ≡ false → Best (c ∷ cs) (decimal_piece (c ∷ cs))
unfolding decimal_piece
decimal_piece_best c cs h n =
    let m : ℕ = prefix_len is_ascii_digit (c ∷ cs) in
    let d : is_ascii_digit c ≡ true = digit_is_ascii c h in
    let one : 0 < m = rw d (omega arith) in
    let l : length (take m (c ∷ cs)) ≡ m = length-take-le m (c ∷ cs) (run_fits is_ascii_digit (c ∷ cs)) in
    decimals_best (take m (c ∷ cs)) (drop m (c ∷ cs)) (run_all is_ascii_digit (c ∷ cs)) (omega (arith, l, one)) (run_ends is_ascii_digit (c ∷ cs))
    (ap is_hex (take-append-drop m (c ∷ cs)) ∙ n) c cs (ap (λ k. head_by k c) h) (sym (take-append-drop m (c ∷ cs)))

-- ---- hexadecimal numbers

hex_few : (x : ℕ) (ds other more : List ℕ) → IsOneOf (codes "xX") x → 48 ∷ x ∷ ds ≡ other ++ more → list_all is_ascii_digit other ≡ true → length other ≤ 1
hex_few x ds other more o e a = few_digits (48 ∷ []) (x ∷ ds) other more refl (none_of is_ascii_digit (codes "xX") x refl o) e a

hex_no_float : (x : ℕ) (ds other more : List ℕ) → IsOneOf (codes "xX") x → 48 ∷ x ∷ ds ≡ other ++ more → IsFloating other → ⊥
hex_no_float x ds other more o e f =
    let k = (float_behind (48 ∷ []) (x ∷ ds) other more f refl (none_of is_ascii_digit (codes "xX") x refl o) e).0 in
    let z = no_float x ds (hex_is_one x o) in
    omega (arith, k, z)

module _ (x : ℕ) (ds d r : List ℕ) (o : IsOneOf (codes "xX") x) (w : ds ≡ d ++ r) (a : list_all is_ascii_hexdigit d ≡ true) (any : 0 < length d) (h : begins is_ascii_hexdigit r ≡ false) where
  hex_long_rival : (c : ℕ) (cs : List ℕ) → r ≡ c ∷ cs → IsOneOf (codes "lL") c → (other more : List ℕ) (q : Piece) → 48 ∷ x ∷ ds ≡ other ++ more → View Head.Digit other more q
      → Rival (48 ∷ x ∷ (d ++ c ∷ [])) (hex_long (value_of 16 d) (length d + 3)) other q
  hex_long_rival c cs u l other more q e (View.decimal b) =
      let k = hex_few x ds other more o e b.1 in
      shorter (48 ∷ x ∷ (d ++ c ∷ [])) other (hex_long (value_of 16 d) (length d + 3)) q (let m = length-append d (c ∷ []) in omega (arith, k, m))
  hex_long_rival c cs u l other more q e (View.decimal_long digits j b v) =
      let k = hex_few x ds digits (j ∷ more) o (e ∙ append_assoc digits (j ∷ []) more) b.1 in
      let n = length-append digits (j ∷ []) in
      let m = length-append d (c ∷ []) in
      shorter (48 ∷ x ∷ (d ++ c ∷ [])) other (hex_long (value_of 16 d) (length d + 3)) q (omega (arith, k, n, m, any))
  hex_long_rival c cs u l other more q e (View.hexadecimal {x = y} {digits} v b) =
      let k = run_is_long is_ascii_hexdigit digits more b.1 in
      let n = run_is is_ascii_hexdigit d r a h in
      let t : d ++ r ≡ digits ++ more = sym w ∙ later_is (later_is e) in
      let s = ap (prefix_len is_ascii_hexdigit) t in
      let m = length-append d (c ∷ []) in
      shorter (48 ∷ x ∷ (d ++ c ∷ [])) other (hex_long (value_of 16 d) (length d + 3)) q (omega (arith, k, n, s, m))
  hex_long_rival c cs u l other more q e (View.hexadecimal_long digits y j v b k) =
      let t : d ++ r ≡ digits ++ (j ∷ more) = sym w ∙ later_is (later_is e) ∙ append_assoc digits (j ∷ []) more in
      let s = all_digits is_ascii_hexdigit d r digits (j ∷ more) a h t b.1 (long_is_no_hex j more k) in
      let n : length digits ≡ length d = ap length s.0 in
      let m = length-append d (c ∷ []) in
      let z = length-append digits (j ∷ []) in
      record { shorter = omega (arith, n, m, z); same = λ i. ap (λ g. hex_long (value_of 16 g) (length g + 3)) s.0 }
  hex_long_rival c cs u l other more q e (View.floating f b) = absurd (hex_no_float x ds other more o e f)

  hex_int_rival : begins_long r ≡ false → (other more : List ℕ) (q : Piece) → 48 ∷ x ∷ ds ≡ other ++ more → View Head.Digit other more q
      → Rival (48 ∷ x ∷ d) (hex_int (value_of 16 d) (length d + 2)) other q
  hex_int_rival z other more q e (View.decimal b) =
      let k = hex_few x ds other more o e b.1 in
      shorter (48 ∷ x ∷ d) other (hex_int (value_of 16 d) (length d + 2)) q (omega (arith, k))
  hex_int_rival z other more q e (View.decimal_long digits j b v) =
      let k = hex_few x ds digits (j ∷ more) o (e ∙ append_assoc digits (j ∷ []) more) b.1 in
      let n = length-append digits (j ∷ []) in
      shorter (48 ∷ x ∷ d) other (hex_int (value_of 16 d) (length d + 2)) q (omega (arith, k, n, any))
  hex_int_rival z other more q e (View.hexadecimal {x = y} {digits} v b) =
      let k = run_is_long is_ascii_hexdigit digits more b.1 in
      let n = run_is is_ascii_hexdigit d r a h in
      let t : d ++ r ≡ digits ++ more = sym w ∙ later_is (later_is e) in
      let s = ap (prefix_len is_ascii_hexdigit) t in
      record {
        shorter = omega (arith, k, n, s);
        same = λ l. ap (λ g. hex_int (value_of 16 g) (length g + 2)) (same_fronts digits more d r (sym t) (omega (arith, l))).0;
      }
  hex_int_rival z other more q e (View.hexadecimal_long digits y j v b k) =
      let t : d ++ r ≡ digits ++ (j ∷ more) = sym w ∙ later_is (later_is e) ∙ append_assoc digits (j ∷ []) more in
      let s = all_digits is_ascii_hexdigit d r digits (j ∷ more) a h t b.1 (long_is_no_hex j more k) in
      absurd (both_ways (begins_long r) z (ap begins_long (sym s.1) ∙ k))
  hex_int_rival z other more q e (View.floating f b) = absurd (hex_no_float x ds other more o e f)

  hex_best : head_at 48 ≡ Head.Digit → Best (48 ∷ x ∷ ds) (hex_of d r)
  hex_best k = by r refl
    where
      is_long : (c : ℕ) (cs : List ℕ) → r ≡ c ∷ cs → (b : Bool) → is_of (codes "lL") c ≡ b → Best (48 ∷ x ∷ ds) (cond b (hex_long (value_of 16 d) (length d + 3)) (hex_int (value_of 16 d) (length d + 2)))
      is_long c cs u true l =
          best_is Head.Digit 48 (x ∷ ds) (48 ∷ x ∷ (d ++ c ∷ [])) cs (hex_long (value_of 16 d) (length d + 3)) k
          (ap (λ t. 48 ∷ x ∷ t) (w ∙ ap (λ t. d ++ t) u ∙ sym (append_assoc d (c ∷ []) cs))) (Lexical.hexadecimal_long d x c o (any, a) l) (hex_long_rival c cs u l)
      is_long c cs u false l =
          best_is Head.Digit 48 (x ∷ ds) (48 ∷ x ∷ d) r (hex_int (value_of 16 d) (length d + 2)) k (ap (λ t. 48 ∷ x ∷ t) w) (Lexical.hexadecimal o (any, a)) (hex_int_rival (ap begins_long u ∙ l))

      by : (t : List ℕ) → r ≡ t → Best (48 ∷ x ∷ ds) (hex_of d t)
      by [] u = best_is Head.Digit 48 (x ∷ ds) (48 ∷ x ∷ d) r (hex_int (value_of 16 d) (length d + 2)) k (ap (λ t. 48 ∷ x ∷ t) w) (Lexical.hexadecimal o (any, a)) (hex_int_rival (ap begins_long u))
      by (c ∷ cs) u = is_long c cs u (is_of (codes "lL") c) refl

hex_number_best : (x : ℕ) (ds : List ℕ) → IsOneOf (codes "xX") x → begins is_ascii_hexdigit ds ≡ true → Best (48 ∷ x ∷ ds) (hex_number ds)
unfolding hex_number class_of
hex_number_best x [] o b = absurd cc
hex_number_best x (c ∷ cs) o b =
    let m : ℕ = prefix_len is_ascii_hexdigit (c ∷ cs) in
    let one : 0 < m = rw b (omega arith) in
    let l : length (take m (c ∷ cs)) ≡ m = length-take-le m (c ∷ cs) (run_fits is_ascii_hexdigit (c ∷ cs)) in
    hex_best x (c ∷ cs) (take m (c ∷ cs)) (drop m (c ∷ cs)) o (sym (take-append-drop m (c ∷ cs))) (run_all is_ascii_hexdigit (c ∷ cs)) (omega (arith, l, one)) (run_ends is_ascii_hexdigit (c ∷ cs)) refl

pub digit_best : (c : ℕ) (cs : List ℕ) → class_of c ≡ class.Digit → Best (c ∷ cs) (number_piece (c ∷ cs))
unfolding number_piece
digit_best c [] h = decimal_piece_best c [] h refl
digit_best c (d ∷ ds) h = by (is_hex (c ∷ d ∷ ds)) refl
  where
    by : (b : Bool) → is_hex (c ∷ d ∷ ds) ≡ b → Best (c ∷ d ∷ ds) (cond b (hex_number ds) (decimal_piece (c ∷ d ∷ ds)))
    by true e =
        let a = and_parts (is_of (codes "0") c) (is_of (codes "xX") d && begins is_ascii_hexdigit ds) e in
        let b = and_parts (is_of (codes "xX") d) (begins is_ascii_hexdigit ds) a.1 in
        subst (λ z. Best (z ∷ d ∷ ds) (hex_number ds)) (is_of_one 48 c a.0) (hex_number_best d ds b.0 b.1)
    by false e = decimal_piece_best c (d ∷ ds) h e

-- ---- a point

point_float_rival : (cs : List ℕ) → 0 < fraction_len (46 ∷ cs) → length (take (float_len (46 ∷ cs)) (46 ∷ cs)) ≡ float_len (46 ∷ cs) → 1 < float_len (46 ∷ cs)
    → (other more : List ℕ) (q : Piece) → 46 ∷ cs ≡ other ++ more → View Head.Point other more q
    → Rival (take (float_len (46 ∷ cs)) (46 ∷ cs)) (piece.Refused rule.BadNumber 0 (float_len (46 ∷ cs))) other q
point_float_rival cs p l two other more q e View.point =
    shorter (take (float_len (46 ∷ cs)) (46 ∷ cs)) (codes ".") (piece.Refused rule.BadNumber 0 (float_len (46 ∷ cs))) (piece.Token tok.KwDot 1) (omega (arith, l, two))
point_float_rival cs p l two other more q e (View.pointed f d) =
    let k = (float_behind [] (46 ∷ cs) other more f refl refl e).1 in
    record { shorter = omega (arith, l, k); same = λ j. ap (piece.Refused rule.BadNumber 0) (j ∙ l) }

point_rival : (cs : List ℕ) → fraction_len (46 ∷ cs) ≡ 0 → (other more : List ℕ) (q : Piece) → 46 ∷ cs ≡ other ++ more → View Head.Point other more q
    → Rival (codes ".") (piece.Token tok.KwDot 1) other q
point_rival cs z other more q e View.point = record { shorter = omega arith; same = λ l. refl }
point_rival cs z other more q e (View.pointed f d) =
    let g = float_is other more f in
    let w : 46 ∷ cs ≡ g.behind = e ∙ g.whole ∙ ap (λ t. t ++ g.behind) d in
    let n : length f.digits ≡ 0 = ap length d in
    let k = g.point in
    let m : fraction_len g.behind ≡ 0 = ap fraction_len (sym w) ∙ z in
    absurd (omega (arith, n, k, m))

two_long : (cs : List ℕ) → 0 < fraction_len (46 ∷ cs) → 1 < fraction_len (46 ∷ cs)
two_long cs l = by (prefix_len is_ascii_digit cs) (nat_eq (prefix_len is_ascii_digit cs) 0) refl l
  where
    by : (n : ℕ) (b : Bool) → nat_eq n 0 ≡ b → 0 < cond b 0 (1 + n) → 1 < cond b 0 (1 + n)
    by n true e l = absurd (omega (arith, l))
    by zero false e l = absurd cc
    by (suc n) false e l = omega arith

point_at : (cs : List ℕ) → Best (46 ∷ cs) (point_piece (46 ∷ cs))
unfolding class_of separator
point_at cs = by (nat_lt 0 (fraction_len (46 ∷ cs))) refl
  where
    by : (b : Bool) → nat_lt 0 (fraction_len (46 ∷ cs)) ≡ b → Best (46 ∷ cs) (cond b (piece.Refused rule.BadNumber 0 (float_len (46 ∷ cs))) (piece.Token tok.KwDot 1))
    by true e =
        let t : List ℕ = 46 ∷ cs in
        let p : 0 < fraction_len t = ltb-true 0 (fraction_len t) e in
        let k : 1 < fraction_len t = two_long cs p in
        let m = fraction_is_in_float t in
        let any : 0 < float_len t = omega (arith, k, m) in
        let f = float_here [] t refl (omega (arith, p)) any in
        let l : length (take (float_len t) t) ≡ float_len t = length-take-le (float_len t) t f.fits in
        best_is Head.Point 46 cs (take (float_len t) t) (drop (float_len t) t) (piece.Refused rule.BadNumber 0 (float_len t)) refl (sym (take-append-drop (float_len t) t))
        (subst (λ m. Lexical (take (float_len t) t) (drop (float_len t) t) (piece.Refused rule.BadNumber 0 m)) l (Lexical.floating f.is))
        (point_float_rival cs p l (omega (arith, k, m)))
    by false e =
        let z = ltb-false 0 (fraction_len (46 ∷ cs)) e in
        let n : fraction_len (46 ∷ cs) ≡ 0 = omega (arith, z) in
        best_is Head.Point 46 cs (codes ".") cs (piece.Token tok.KwDot 1) refl refl (Lexical.sign {c = 46} {w = word.Dot} refl) (point_rival cs n)

pub point_best : (c : ℕ) (cs : List ℕ) → is_of (codes ".") c ≡ true → Best (c ∷ cs) (point_piece (c ∷ cs))
point_best c cs h = subst (λ d. Best (d ∷ cs) (point_piece (d ∷ cs))) (is_of_one 46 c h) (point_at cs)
