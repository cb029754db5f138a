-- The longest floating form behind digits.
use Rattle.std.proofs.Common.{◌≡◌, ℕ, zero, suc, ◌+◌, ◌-◌, ◌<◌, ◌≤◌, Bool, true, false, cond, List, [], ◌∷◌, ◌++◌, length, take, drop, codes, refl, sym, ap, ◌∙◌, subst, arith, append_assoc}
use Rattle.std.specs.Prelude.{◌||◌, not, nat_eq}
use Rattle.std.specs.List.{list_all, prefix_len}
use Rattle.std.specs.Char.{is_ascii_digit}
use Rattle.std.proofs.lemmas.Bool.{and_parts, both_ways, eqb-true, ne_eqb, not-true}
use Rattle.std.proofs.lemmas.List.{length-append, length-take-le, drop_at, length-drop}
use Rattle.scw_lex.specs.Character.{is_of, begins}
use Rattle.scw_lex.specs.Number.{with_digits, fraction_len, signed_len, exponent_len, suffix_len, float_len}
use Rattle.scw_lex.specs.Lexical.{AreDigits, IsFraction, IsExponent, IsFloatType, IsOptional, IsFloating}
use Rattle.scw_lex.proofs.TextLemmas.{take_sum, one_more, run_all, run_fits, run_is, run_is_long}
use Rattle.scw_lex.proofs.CommentLemmas.{is_of_one}

-- ---- characters of a list

pub each_of : (p : ℕ → Bool) (text : List ℕ) (c : ℕ) → list_all p text ≡ true → is_of text c ≡ true → p c ≡ true
each_of p [] c a h = absurd cc
each_of p (d ∷ ds) c a h = by (each_of p ds c (and_parts (p d) (list_all p ds) a).1) (nat_eq d c) refl h
  where
    by : (is_of ds c ≡ true → p c ≡ true) → (b : Bool) → nat_eq d c ≡ b → (b || is_of ds c) ≡ true → p c ≡ true
    by later true e h = ap p (sym (eqb-true d c e)) ∙ (and_parts (p d) (list_all p ds) a).0
    by later false e h = later h

-- characters of a list fail a test that all of it fails
pub none_of : (p : ℕ → Bool) (text : List ℕ) (c : ℕ) → list_all (λ c. not (p c)) text ≡ true → is_of text c ≡ true → p c ≡ false
none_of p text c a h = not-true (p c) (each_of (λ c. not (p c)) text c a h)

pub not_of : (p : ℕ → Bool) (text : List ℕ) (c : ℕ) → list_all (λ c. not (p c)) text ≡ true → p c ≡ true → is_of text c ≡ false
not_of p text c a h = by (is_of text c) refl
  where
    by : (b : Bool) → is_of text c ≡ b → b ≡ false
    by true e = absurd (both_ways (p c) (none_of p text c a e) h)
    by false e = refl

-- ---- with digits

with_some : (n : ℕ) → 0 < n → with_digits n ≡ 1 + n
with_some n l = rw (ne_eqb n 0 (λ e. omega (arith, l, e))) refl

digits_begin_no_sign : (digits more : List ℕ) → AreDigits is_ascii_digit digits → signed_len (digits ++ more) ≡ prefix_len is_ascii_digit (digits ++ more)
digits_begin_no_sign [] more a = absurd (let l = a.0 in omega (arith, l))
digits_begin_no_sign (d ∷ ds) more a = rw (not_of is_ascii_digit (codes "+-") d refl (and_parts (is_ascii_digit d) (list_all is_ascii_digit ds) a.1).0) refl

-- ---- a form at the front of a text

-- so many characters and then digits are the form, and it is found as far as the digits go on
record Runs (len : List ℕ → ℕ) (text : List ℕ) : Type 0 where
  front : List ℕ
  digits : List ℕ
  whole : text ≡ front ++ digits
  are : AreDigits is_ascii_digit digits
  run : (more : List ℕ) → len (text ++ more) ≡ length front + prefix_len is_ascii_digit (digits ++ more)

digits_run : (digits more : List ℕ) → AreDigits is_ascii_digit digits → 0 < prefix_len is_ascii_digit (digits ++ more)
digits_run digits more a = let l = a.0 in let k = run_is_long is_ascii_digit digits more a.1 in omega (arith, l, k)

fraction_runs : (text : List ℕ) → IsFraction text → Runs fraction_len text
fraction_runs text (IsFraction.fraction {digits} a) = record {
  front = codes ".";
  digits = digits;
  whole = refl;
  are = a;
  run = λ more. with_some (prefix_len is_ascii_digit (digits ++ more)) (digits_run digits more a);
}

exponent_runs : (text : List ℕ) → IsExponent text → Runs exponent_len text
exponent_runs text (IsExponent.plain {e} {digits} o a) = record {
  front = e ∷ [];
  digits = digits;
  whole = refl;
  are = a;
  run = λ more. rw o (rw (digits_begin_no_sign digits more a) (with_some (prefix_len is_ascii_digit (digits ++ more)) (digits_run digits more a)));
}
exponent_runs text (IsExponent.signed {e} {sign} {digits} o s a) = record {
  front = e ∷ sign ∷ [];
  digits = digits;
  whole = refl;
  are = a;
  run = λ more.
      let l : 0 < prefix_len is_ascii_digit (digits ++ more) = digits_run digits more a in
      let k : with_digits (prefix_len is_ascii_digit (digits ++ more)) ≡ 1 + prefix_len is_ascii_digit (digits ++ more) = with_some (prefix_len is_ascii_digit (digits ++ more)) l in
      let m : 1 + (1 + prefix_len is_ascii_digit (digits ++ more)) ≡ 2 + prefix_len is_ascii_digit (digits ++ more) = omega arith in
      rw o (rw s (rw k (with_some (1 + prefix_len is_ascii_digit (digits ++ more)) (omega arith) ∙ m)));
}

runs_long : (len : List ℕ → ℕ) (text more : List ℕ) → Runs len text → length text ≤ len (text ++ more)
runs_long len text more r =
    let a = r.are in
    let k = run_is_long is_ascii_digit r.digits more a.1 in
    let n : length text ≡ length r.front + length r.digits = ap length r.whole ∙ length-append r.front r.digits in
    let m = r.run more in
    omega (arith, k, n, m)

runs_out : (len : List ℕ → ℕ) (text more : List ℕ) → Runs len text → begins is_ascii_digit more ≡ false → len (text ++ more) ≡ length text
runs_out len text more r h =
    let a = r.are in
    let k = run_is is_ascii_digit r.digits more a.1 h in
    let n : length text ≡ length r.front + length r.digits = ap length r.whole ∙ length-append r.front r.digits in
    let m = r.run more in
    omega (arith, k, n, m)

-- ---- exponent and type

-- no digit and no point begins the text
abbrev Ends : List ℕ → Type 0
Ends t = (begins is_ascii_digit t ≡ false) × (begins (is_of (codes ".")) t ≡ false)

exponent_begins : (text more : List ℕ) → IsExponent text → Ends (text ++ more)
exponent_begins text more (IsExponent.plain {e} {digits} o a) = (none_of is_ascii_digit (codes "eE") e refl o, none_of (is_of (codes ".")) (codes "eE") e refl o)
exponent_begins text more (IsExponent.signed {e} {sign} {digits} o s a) = (none_of is_ascii_digit (codes "eE") e refl o, none_of (is_of (codes ".")) (codes "eE") e refl o)

type_begins : (text more : List ℕ) → IsFloatType text → Ends (text ++ more)
type_begins text more (IsFloatType.suffix {c} o) = (none_of is_ascii_digit (codes "fFdD") c refl o, none_of (is_of (codes ".")) (codes "fFdD") c refl o)

type_len : (text more : List ℕ) → IsFloatType text → suffix_len (text ++ more) ≡ length text
type_len text more (IsFloatType.suffix {c} o) = rw o refl

type_is_no_exponent : (text more : List ℕ) → IsFloatType text → exponent_len (text ++ more) ≡ 0
type_is_no_exponent text more (IsFloatType.suffix {c} o) = rw (none_of (is_of (codes "eE")) (codes "fFdD") c refl o) refl

-- how many characters an exponent and a type have at the front
abbrev tail_len : List ℕ → ℕ
tail_len t = exponent_len t + suffix_len (drop (exponent_len t) t)

record TailIs (exponent suffix more : List ℕ) : Type 0 where
  ends : Ends (exponent ++ (suffix ++ more))
  long : length exponent + length suffix ≤ tail_len (exponent ++ (suffix ++ more))

tail_is : (exponent suffix more : List ℕ) → IsOptional IsExponent exponent → IsOptional IsFloatType suffix → 0 < length exponent + length suffix → TailIs exponent suffix more
tail_is [] [] more e s l = absurd (omega (arith, l))
tail_is [] (c ∷ cs) more e s l =
    let n = type_is_no_exponent (c ∷ cs) more s in
    let t = type_len (c ∷ cs) more s in
    let d : suffix_len (drop (exponent_len ((c ∷ cs) ++ more)) ((c ∷ cs) ++ more)) ≡ length (c ∷ cs) = ap (λ k. suffix_len (drop k ((c ∷ cs) ++ more))) n ∙ t in
    record { ends = type_begins (c ∷ cs) more s; long = omega (arith, d) }
tail_is (c ∷ cs) [] more e s l =
    let r = runs_long exponent_len (c ∷ cs) more (exponent_runs (c ∷ cs) e) in
    record { ends = exponent_begins (c ∷ cs) more e; long = omega (arith, r) }
tail_is (c ∷ cs) (d ∷ ds) more e s l =
    let o = type_begins (d ∷ ds) more s in
    let r : exponent_len ((c ∷ cs) ++ ((d ∷ ds) ++ more)) ≡ length (c ∷ cs) = runs_out exponent_len (c ∷ cs) ((d ∷ ds) ++ more) (exponent_runs (c ∷ cs) e) o.0 in
    let t = type_len (d ∷ ds) more s in
    let k : suffix_len (drop (exponent_len ((c ∷ cs) ++ ((d ∷ ds) ++ more))) ((c ∷ cs) ++ ((d ∷ ds) ++ more))) ≡ length (d ∷ ds) =
    ap (λ k. suffix_len (drop k ((c ∷ cs) ++ ((d ∷ ds) ++ more)))) r ∙ ap suffix_len (drop_at (c ∷ cs) ((d ∷ ds) ++ more) (length (c ∷ cs)) refl) ∙ t in
    record { ends = exponent_begins (c ∷ cs) ((d ∷ ds) ++ more) e; long = omega (arith, r, k) }

-- ---- the whole form

no_point : (t : List ℕ) → begins (is_of (codes ".")) t ≡ false → fraction_len t ≡ 0
no_point [] h = refl
no_point (c ∷ cs) h = rw h refl

float_from : (t : List ℕ) (n : ℕ) → fraction_len t ≡ n → float_len t ≡ n + tail_len (drop n t)
unfolding float_len
float_from t n e =
    let w : exponent_len (drop n t) + suffix_len (drop (exponent_len (drop n t)) (drop n t)) ≡ tail_len (drop n t) = refl in
    rw e (omega arith)

pub fraction_is_in_float : (t : List ℕ) → fraction_len t ≤ float_len t
fraction_is_in_float t = let f = float_from t (fraction_len t) refl in omega (arith, f)

record FormIs (fraction exponent suffix more : List ℕ) : Type 0 where
  begin_ : begins is_ascii_digit (fraction ++ (exponent ++ (suffix ++ more))) ≡ false
  long : length fraction + (length exponent + length suffix) ≤ float_len (fraction ++ (exponent ++ (suffix ++ more)))
  longer : length fraction ≤ fraction_len (fraction ++ (exponent ++ (suffix ++ more)))

fraction_begins_no_digit : (text more : List ℕ) → IsFraction text → begins is_ascii_digit (text ++ more) ≡ false
fraction_begins_no_digit text more (IsFraction.fraction a) = refl

form_is : (fraction exponent suffix more : List ℕ) → IsOptional IsFraction fraction → IsOptional IsExponent exponent → IsOptional IsFloatType suffix
    → 0 < length fraction + (length exponent + length suffix) → FormIs fraction exponent suffix more
form_is [] exponent suffix more f e s l =
    let t = tail_is exponent suffix more e s (omega (arith, l)) in
    let o = t.ends in
    let k = t.long in
    let z = no_point (exponent ++ (suffix ++ more)) o.1 in
    let w = float_from (exponent ++ (suffix ++ more)) 0 z in
    record { begin_ = o.0; long = omega (arith, k, w); longer = omega arith }
form_is (c ∷ cs) [] [] more f e s l =
    let r = runs_long fraction_len (c ∷ cs) more (fraction_runs (c ∷ cs) f) in
    let w = fraction_is_in_float ((c ∷ cs) ++ more) in
    record { begin_ = fraction_begins_no_digit (c ∷ cs) more f; long = omega (arith, r, w); longer = r }
form_is (c ∷ cs) [] (d ∷ ds) more f e s l = form_with (c ∷ cs) [] (d ∷ ds) more f e s (omega arith)
  where
    form_with : (fraction exponent suffix more : List ℕ) → IsFraction fraction → IsOptional IsExponent exponent → IsOptional IsFloatType suffix
        → 0 < length exponent + length suffix → FormIs fraction exponent suffix more
    form_with fraction exponent suffix more f e s l =
        let v : List ℕ = exponent ++ (suffix ++ more) in
        let t = tail_is exponent suffix more e s l in
        let o = t.ends in
        let k = t.long in
        let r : fraction_len (fraction ++ v) ≡ length fraction = runs_out fraction_len fraction v (fraction_runs fraction f) o.0 in
        let w = float_from (fraction ++ v) (length fraction) r in
        let d : tail_len (drop (length fraction) (fraction ++ v)) ≡ tail_len v = ap tail_len (drop_at fraction v (length fraction) refl) in
        record { begin_ = fraction_begins_no_digit fraction v f; long = omega (arith, k, w, d); longer = omega (arith, r) }
form_is (c ∷ cs) (d ∷ ds) suffix more f e s l = form_with (c ∷ cs) (d ∷ ds) suffix more f e s (omega arith)
  where
    form_with : (fraction exponent suffix more : List ℕ) → IsFraction fraction → IsOptional IsExponent exponent → IsOptional IsFloatType suffix
        → 0 < length exponent + length suffix → FormIs fraction exponent suffix more
    form_with fraction exponent suffix more f e s l =
        let v : List ℕ = exponent ++ (suffix ++ more) in
        let t = tail_is exponent suffix more e s l in
        let o = t.ends in
        let k = t.long in
        let r : fraction_len (fraction ++ v) ≡ length fraction = runs_out fraction_len fraction v (fraction_runs fraction f) o.0 in
        let w = float_from (fraction ++ v) (length fraction) r in
        let d : tail_len (drop (length fraction) (fraction ++ v)) ≡ tail_len v = ap tail_len (drop_at fraction v (length fraction) refl) in
        record { begin_ = fraction_begins_no_digit fraction v f; long = omega (arith, k, w, d); longer = omega (arith, r) }

-- a floating form at the front of a text
pub record FloatIs (text more : List ℕ) (digits : List ℕ) : Type 0 where
  pub behind : List ℕ
  pub whole : text ++ more ≡ digits ++ behind
  pub run : prefix_len is_ascii_digit (text ++ more) ≡ length digits
  pub any : 0 < float_len behind
  pub long : length text ≤ length digits + float_len behind
  pub point : 0 < length digits + fraction_len behind

pub float_is : (text more : List ℕ) (f : IsFloating text) → FloatIs text more f.digits
float_is text more f =
    let g = form_is f.fraction f.exponent f.suffix more f.fraction_is f.exponent_is f.suffix_is f.any in
    let v : List ℕ = f.fraction ++ (f.exponent ++ (f.suffix ++ more)) in
    let w : text ++ more ≡ f.digits ++ v =
    ap (λ t. t ++ more) f.whole ∙ append_assoc f.digits (f.fraction ++ (f.exponent ++ f.suffix)) more
    ∙ ap (λ t. f.digits ++ t) (append_assoc f.fraction (f.exponent ++ f.suffix) more ∙ ap (λ t. f.fraction ++ t) (append_assoc f.exponent f.suffix more)) in
    let n : length text ≡ length f.digits + (length f.fraction + (length f.exponent + length f.suffix)) =
    ap length f.whole ∙ length-append f.digits (f.fraction ++ (f.exponent ++ f.suffix))
    ∙ ap (λ k. length f.digits + k) (length-append f.fraction (f.exponent ++ f.suffix) ∙ ap (λ k. length f.fraction + k) (length-append f.exponent f.suffix)) in
    let k = g.long in
    let j = g.longer in
    let a = f.any in
    let b = f.begun in
    record {
      behind = v;
      whole = w;
      run = ap (prefix_len is_ascii_digit) w ∙ run_is is_ascii_digit f.digits v f.digits_are g.begin_;
      any = omega (arith, k, a);
      long = omega (arith, n, k);
      point = omega (arith, b, j);
    }

-- ---- and one that is found

record Part (Is : List ℕ → Type 0) (len : ℕ) (t : List ℕ) : Type 0 where
  is : IsOptional Is (take len t)
  fits : len ≤ length t

fraction_part : (t : List ℕ) → Part IsFraction (fraction_len t) t
fraction_part [] = record { is = tt; fits = omega arith }
fraction_part (c ∷ cs) = by (is_of (codes ".") c) refl (prefix_len is_ascii_digit cs) refl
  where
    by : (b : Bool) → is_of (codes ".") c ≡ b → (n : ℕ) → prefix_len is_ascii_digit cs ≡ n → Part IsFraction (cond b (with_digits n) 0) (c ∷ cs)
    by false e n k = record { is = tt; fits = omega arith }
    by true e zero k = record { is = tt; fits = omega arith }
    by true e (suc n) k =
        let f = run_fits is_ascii_digit cs in
        let g : suc n ≤ length cs = omega (arith, f, k) in
        let l : length (take (suc n) cs) ≡ suc n = length-take-le (suc n) cs g in
        let a : list_all is_ascii_digit (take (suc n) cs) ≡ true = ap (λ m. list_all is_ascii_digit (take m cs)) (sym k) ∙ run_all is_ascii_digit cs in
        let i : IsFraction (codes "." ++ take (suc n) cs) = IsFraction.fraction (omega (arith, l), a) in
        rw (with_some (suc n) (omega arith)) (rw (one_more (suc n)) (record { is = subst (λ d. IsFraction (d ∷ take (suc n) cs)) (is_of_one 46 c e) i; fits = omega (arith, g) }))

exponent_part : (t : List ℕ) → Part IsExponent (exponent_len t) t
exponent_part [] = record { is = tt; fits = omega arith }
exponent_part (c ∷ []) = by (is_of (codes "eE") c)
  where
    by : (b : Bool) → Part IsExponent (cond b (with_digits 0) 0) (c ∷ [])
    by true = record { is = tt; fits = omega arith }
    by false = record { is = tt; fits = omega arith }
exponent_part (c ∷ d ∷ ds) = by (is_of (codes "eE") c) refl (is_of (codes "+-") d) refl (prefix_len is_ascii_digit ds) refl (prefix_len is_ascii_digit (d ∷ ds)) refl
  where
    are : (t : List ℕ) (n : ℕ) → prefix_len is_ascii_digit t ≡ suc n → AreDigits is_ascii_digit (take (suc n) t) × (suc n ≤ length t)
    are t n k =
        let f = run_fits is_ascii_digit t in
        let g : suc n ≤ length t = omega (arith, f, k) in
        let l : length (take (suc n) t) ≡ suc n = length-take-le (suc n) t g in
        ((omega (arith, l), ap (λ m. list_all is_ascii_digit (take m t)) (sym k) ∙ run_all is_ascii_digit t), g)

    by : (b : Bool) → is_of (codes "eE") c ≡ b → (s : Bool) → is_of (codes "+-") d ≡ s → (n : ℕ) → prefix_len is_ascii_digit ds ≡ n → (m : ℕ) → prefix_len is_ascii_digit (d ∷ ds) ≡ m
        → Part IsExponent (cond b (with_digits (cond s (with_digits n) m)) 0) (c ∷ d ∷ ds)
    by false e s f n k m j = record { is = tt; fits = omega arith }
    by true e true f zero k m j = record { is = tt; fits = omega arith }
    by true e true f (suc n) k m j =
        let a = are ds n k in
        let g = a.1 in
        let i : IsExponent (c ∷ d ∷ take (suc n) ds) = IsExponent.signed e f a.0 in
        rw (with_some (suc n) (omega arith)) (rw (one_more (suc n)) (rw (with_some (suc (suc n)) (omega arith)) (rw (one_more (suc (suc n))) (record { is = i; fits = omega (arith, g) }))))
    by true e false f n k zero j = record { is = tt; fits = omega arith }
    by true e false f n k (suc m) j =
        let a = are (d ∷ ds) m j in
        let g = a.1 in
        let i : IsExponent (c ∷ take (suc m) (d ∷ ds)) = IsExponent.plain e a.0 in
        rw (with_some (suc m) (omega arith)) (rw (one_more (suc m)) (record { is = i; fits = omega (arith, g) }))

suffix_part : (t : List ℕ) → Part IsFloatType (suffix_len t) t
suffix_part [] = record { is = tt; fits = omega arith }
suffix_part (c ∷ cs) = by (is_of (codes "fFdD") c) refl
  where
    by : (b : Bool) → is_of (codes "fFdD") c ≡ b → Part IsFloatType (cond b 1 0) (c ∷ cs)
    by true e = record { is = IsFloatType.suffix e; fits = omega arith }
    by false e = record { is = tt; fits = omega arith }

pub record FloatHere (digits t : List ℕ) : Type 0 where
  pub is : IsFloating (digits ++ take (float_len t) t)
  pub digits_are : is.digits ≡ digits
  pub fits : float_len t ≤ length t

pub float_here : (digits t : List ℕ) → list_all is_ascii_digit digits ≡ true → 0 < length digits + fraction_len t → 0 < float_len t → FloatHere digits t
float_here digits t a b l =
    let x : ℕ = fraction_len t in
    let r1 : List ℕ = drop x t in
    let y : ℕ = exponent_len r1 in
    let r2 : List ℕ = drop y r1 in
    let z : ℕ = suffix_len r2 in
    let p = fraction_part t in
    let q = exponent_part r1 in
    let r = suffix_part r2 in
    let pf = p.fits in
    let qf = q.fits in
    let rf = r.fits in
    let n : float_len t ≡ x + (y + z) = float_from t x refl in
    let lx : length (take x t) ≡ x = length-take-le x t pf in
    let ly : length (take y r1) ≡ y = length-take-le y r1 qf in
    let lz : length (take z r2) ≡ z = length-take-le z r2 rf in
    let d1 : length r1 ≡ length t - x = length-drop x t in
    let d2 : length r2 ≡ length r1 - y = length-drop y r1 in
    let w : take (float_len t) t ≡ take x t ++ (take y r1 ++ take z r2) =
    ap (λ m. take m t) n ∙ take_sum x (y + z) t ∙ ap (λ u. take x t ++ u) (take_sum y z r1) in
    record {
      is = record {
        digits = digits;
        fraction = take x t;
        exponent = take y r1;
        suffix = take z r2;
        whole = ap (λ u. digits ++ u) w;
        digits_are = a;
        fraction_is = p.is;
        exponent_is = q.is;
        suffix_is = r.is;
        begun = omega (arith, lx, b);
        any = omega (arith, lx, ly, lz, n, l);
      };
      digits_are = refl;
      fits = omega (arith, n, pf, qf, rf, d1, d2);
    }
