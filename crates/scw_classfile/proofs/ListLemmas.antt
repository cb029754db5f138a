-- The law of a codec for lists, for parts with a length, and for a whole file.
use Rattle.std.proofs.Common.{◌≡◌, ℕ, zero, suc, ◌+◌, ◌-◌, ◌≤◌, Bool, true, false, ltb, eqb, List, [], ◌∷◌, ◌++◌, length, take, drop, Option, Some, None, Result, Ok, Err, cond, refl, sym, ap, ◌∙◌, subst, inl, inr, append_assoc, arith}
use Rattle.std.proofs.lemmas.Bool.{and_parts, le-ltb, eq-eqb, eqb-true, ltb-false, ne_eqb, cond-false, cases_Bool}
use Rattle.std.proofs.lemmas.List.{take_at, drop_at, length-append, length-take, append-nil, take-append-drop}
use Rattle.std.proofs.lemmas.List.Concat.{flat_map-cons}
use Rattle.std.specs.List.{flat_map, list_all}
use Rattle.scw_text.proofs.ByteLemmas.{AreBytes, AreBytes-take}
use Rattle.scw_classfile.specs.declared.class_rule.ClassRule.TheVariants as class_rule
use Rattle.scw_classfile.specs.declared.fault.Fault.{Fault}
use Rattle.scw_classfile.specs.declared.fault.Flaw.{Flaw}
use Rattle.scw_classfile.specs.Codec.{Codec, Fits, ◌>>=◌, here, cut, u2, u4, read_all, counted, read_flagged, sound_flagged, flagged, read_bytes, Filling, parsed, filled, stated, sized, whole}
use Rattle.scw_classfile.proofs.CodecLemmas.{Lawful, left_bytes, bind_ok, both, else_ok, lawful_u2, lawful_u4}

-- ---- a list of so many values

all_again : {A : Type 0} (c : Codec A) → Lawful c → (xs : List A) (rest : List ℕ) → list_all c.counts xs ≡ true → list_all c.sound xs ≡ true → read_all c.read (length xs) (flat_map c.spell xs ++ rest) ≡ Ok (xs, rest)
unfolding read_all
all_again c lc [] rest p q = refl
all_again c lc (x ∷ xs) rest p q =
    let p' = and_parts (c.counts x) (list_all c.counts xs) p in
    let q' = and_parts (c.sound x) (list_all c.sound xs) q in
    let regrouped : flat_map c.spell (x ∷ xs) ++ rest ≡ c.spell x ++ (flat_map c.spell xs ++ rest) = ap (λ (l : List ℕ). l ++ rest) (flat_map-cons c.spell x xs) ∙ append_assoc (c.spell x) (flat_map c.spell xs) rest in
    ap (read_all c.read (suc (length xs))) regrouped ∙ rw (lc.again x (flat_map c.spell xs ++ rest) (p'.0, q'.0), all_again c lc xs rest p'.1 q'.1) refl

record AllSpelled {A : Type 0} (c : Codec A) (n : ℕ) (bytes : List ℕ) (x : List A × List ℕ) : Type 0 where
  many : length x.0 ≡ n
  counts : list_all c.counts x.0 ≡ true
  sound : list_all c.sound x.0 ≡ true
  is : bytes ≡ flat_map c.spell x.0 ++ x.1

all_back : {A : Type 0} (c : Codec A) → Lawful c → (n : ℕ) (bytes : List ℕ) (z : List A × List ℕ) → AreBytes bytes → read_all c.read n bytes ≡ Ok z → AllSpelled c n bytes z
unfolding read_all
all_back {A} c lc zero bytes z h e =
    let same : ([], bytes) ≡ z = cc in
    let P : List A × List ℕ → Type 0 = λ v. AllSpelled c 0 bytes v in
    subst P same (record { many = refl; counts = refl; sound = refl; is = refl })
all_back {A} c lc (suc n) bytes z h e =
    let one = bind_ok (c.read bytes) (λ x. read_all c.read n x.1 >>= λ xs. Ok (x.0 ∷ xs.0, xs.1)) z e in
    let x = one.0 in
    let sx = lc.back bytes x h one.1 in
    let two = bind_ok (read_all c.read n x.1) (λ xs. Ok (x.0 ∷ xs.0, xs.1)) z one.2 in
    let xs = two.0 in
    let sxs = all_back c lc n x.1 xs (left_bytes c bytes x h sx) two.1 in
    let same : (x.0 ∷ xs.0, xs.1) ≡ z = let last = two.2 in cc in
    let P : List A × List ℕ → Type 0 = λ v. AllSpelled c (suc n) bytes v in
    subst P same (record {
      many = ap suc sxs.many;
      counts = both (c.counts x.0) (list_all c.counts xs.0) sx.fits.0 sxs.counts;
      sound = both (c.sound x.0) (list_all c.sound xs.0) sx.fits.1 sxs.sound;
      is = sx.is ∙ ap (λ (l : List ℕ). c.spell x.0 ++ l) sxs.is ∙ sym (append_assoc (c.spell x.0) (flat_map c.spell xs.0) xs.1) ∙ ap (λ (l : List ℕ). l ++ xs.1) (sym (flat_map-cons c.spell x.0 xs.0));
    })

pub lawful_counted : {A : Type 0} (c : Codec A) → Lawful c → Lawful (counted c)
lawful_counted {A} c lc = record {
  again = λ xs rest h.
      let p = and_parts (u2.counts (length xs)) (list_all c.counts xs) h.0 in
      ap (counted c).read (append_assoc (u2.spell (length xs)) (flat_map c.spell xs) rest)
      ∙ rw (lawful_u2.again (length xs) (flat_map c.spell xs ++ rest) (p.0, refl), all_again c lc xs rest p.1 h.1) refl;
  back = λ bytes z h e.
      let one = bind_ok (u2.read bytes) (λ n. read_all c.read n.0 n.1) z e in
      let n = one.0 in
      let sn = lawful_u2.back bytes n h one.1 in
      let sz = all_back c lc n.0 n.1 z (left_bytes u2 bytes n h sn) one.2 in
      record {
        fits = (both (u2.counts (length z.0)) (list_all c.counts z.0) (rw sz.many sn.fits.0) sz.counts, sz.sound);
        is = sn.is ∙ ap (λ (l : List ℕ). u2.spell n.0 ++ l) sz.is ∙ sym (append_assoc (u2.spell n.0) (flat_map c.spell z.0) z.1) ∙ ap (λ (k : ℕ). (u2.spell k ++ flat_map c.spell z.0) ++ z.1) (sym sz.many);
      };
}

-- ---- a list whose items depend on those before

-- the bytes of one item and of those after it
joined : (bytes one one' left tail rest whole : List ℕ) → bytes ≡ one ++ left → one ≡ one' → left ≡ tail ++ rest → whole ≡ one' ++ tail → bytes ≡ whole ++ rest
joined bytes one one' left tail rest whole e same f g = e ∙ (λ i. same i ++ f i) ∙ sym (append_assoc one' tail rest) ∙ ap (λ (l : List ℕ). l ++ rest) (sym g)

module _ {A : Type 0} (item : Bool → ℕ → Codec A) (next : Bool → A → Bool) (law : (flag : Bool) (n : ℕ) → Lawful (item flag n)) (bytes_of : A → List ℕ) (counts_of : A → Bool)
    (same_bytes : (flag : Bool) (n : ℕ) (x : A) → (item flag n).spell x ≡ bytes_of x) (same_counts : (flag : Bool) (n : ℕ) (x : A) → (item flag n).counts x ≡ counts_of x) where
  flagged_again : (flag : Bool) (xs : List A) (rest : List ℕ) → list_all counts_of xs ≡ true → sound_flagged item next flag xs ≡ true → read_flagged item next flag (length xs) (flat_map bytes_of xs ++ rest) ≡ Ok (xs, rest)
  unfolding read_flagged sound_flagged
  flagged_again flag [] rest p q = refl
  flagged_again flag (x ∷ xs) rest p q =
      let c = item flag (length xs) in
      let p' = and_parts (counts_of x) (list_all counts_of xs) p in
      let q' = and_parts (c.sound x) (sound_flagged item next (next flag x) xs) q in
      let more = flat_map bytes_of xs ++ rest in
      let regrouped : flat_map bytes_of (x ∷ xs) ++ rest ≡ c.spell x ++ more = ap (λ (l : List ℕ). l ++ rest) (flat_map-cons bytes_of x xs) ∙ append_assoc (bytes_of x) (flat_map bytes_of xs) rest ∙ ap (λ (l : List ℕ). l ++ more) (sym (same_bytes flag (length xs) x)) in
      ap (read_flagged item next flag (suc (length xs))) regrouped
      ∙ rw ((law flag (length xs)).again x more (same_counts flag (length xs) x ∙ p'.0, q'.0), flagged_again (next flag x) xs rest p'.1 q'.1) refl

  record FlaggedSpelled (flag : Bool) (n : ℕ) (bytes : List ℕ) (x : List A × List ℕ) : Type 0 where
    many : length x.0 ≡ n
    counts : list_all counts_of x.0 ≡ true
    sound : sound_flagged item next flag x.0 ≡ true
    is : bytes ≡ flat_map bytes_of x.0 ++ x.1

  flagged_back : (flag : Bool) (n : ℕ) (bytes : List ℕ) (z : List A × List ℕ) → AreBytes bytes → read_flagged item next flag n bytes ≡ Ok z → FlaggedSpelled flag n bytes z
  unfolding read_flagged sound_flagged
  flagged_back flag zero bytes z h e =
      let same : ([], bytes) ≡ z = cc in
      let P : List A × List ℕ → Type 0 = λ v. FlaggedSpelled flag 0 bytes v in
      subst P same (record { many = refl; counts = refl; sound = refl; is = refl })
  flagged_back flag (suc n) bytes z h e =
      let c = item flag n in
      let one = bind_ok (c.read bytes) (λ x. read_flagged item next (next flag x.0) n x.1 >>= λ xs. Ok (x.0 ∷ xs.0, xs.1)) z e in
      let x = one.0 in
      let sx = (law flag n).back bytes x h one.1 in
      let two = bind_ok (read_flagged item next (next flag x.0) n x.1) (λ xs. Ok (x.0 ∷ xs.0, xs.1)) z one.2 in
      let xs = two.0 in
      let sxs = flagged_back (next flag x.0) n x.1 xs (left_bytes c bytes x h sx) two.1 in
      let same : (x.0 ∷ xs.0, xs.1) ≡ z = let last = two.2 in cc in
      let P : List A × List ℕ → Type 0 = λ v. FlaggedSpelled flag (suc n) bytes v in
      let S : ℕ → Type 0 = λ k. (item flag k).sound x.0 ≡ true in
      subst P same (record {
        many = ap suc sxs.many;
        counts = both (counts_of x.0) (list_all counts_of xs.0) (sym (same_counts flag n x.0) ∙ sx.fits.0) sxs.counts;
        sound = both ((item flag (length xs.0)).sound x.0) (sound_flagged item next (next flag x.0) xs.0) (subst S (sym sxs.many) sx.fits.1) sxs.sound;
        is = joined bytes (c.spell x.0) (bytes_of x.0) x.1 (flat_map bytes_of xs.0) xs.1 (flat_map bytes_of (x.0 ∷ xs.0)) sx.is (same_bytes flag n x.0) sxs.is (flat_map-cons bytes_of x.0 xs.0);
      })

  pub lawful_flagged : (count : Codec ℕ) → Lawful count → Lawful (flagged item next bytes_of counts_of count)
  lawful_flagged count ln = record {
    again = λ xs rest h.
        let p = and_parts (count.counts (length xs)) (list_all counts_of xs) h.0 in
        let q = and_parts (count.sound (length xs)) (sound_flagged item next false xs) h.1 in
        ap (flagged item next bytes_of counts_of count).read (append_assoc (count.spell (length xs)) (flat_map bytes_of xs) rest)
        ∙ rw (ln.again (length xs) (flat_map bytes_of xs ++ rest) (p.0, q.0), flagged_again false xs rest p.1 q.1) refl;
    back = λ bytes z h e.
        let one = bind_ok (count.read bytes) (λ n. read_flagged item next false n.0 n.1) z e in
        let n = one.0 in
        let sn = ln.back bytes n h one.1 in
        let sz = flagged_back false n.0 n.1 z (left_bytes count bytes n h sn) one.2 in
        let F : ℕ → Type 0 = λ k. Fits count k in
        let fits : Fits count (length z.0) = subst F (sym sz.many) sn.fits in
        record {
          fits = (both (count.counts (length z.0)) (list_all counts_of z.0) fits.0 sz.counts, both (count.sound (length z.0)) (sound_flagged item next false z.0) fits.1 sz.sound);
          is = sn.is ∙ ap (λ (l : List ℕ). count.spell n.0 ++ l) sz.is ∙ sym (append_assoc (count.spell n.0) (flat_map bytes_of z.0) z.1) ∙ ap (λ (k : ℕ). (count.spell k ++ flat_map bytes_of z.0) ++ z.1) (sym sz.many);
        };
  }

-- ---- parts with a length

bytes_again : (bytes rest : List ℕ) → read_bytes (length bytes) (bytes ++ rest) ≡ Ok (bytes, rest)
bytes_again bytes rest =
    let enough : ltb (length (bytes ++ rest)) (length bytes) ≡ false = le-ltb (length (bytes ++ rest)) (length bytes) (omega (arith, length-append bytes rest)) in
    let t = take_at bytes rest (length bytes) refl in
    let d = drop_at bytes rest (length bytes) refl in
    let got : List ℕ → List ℕ → Result (List ℕ × List ℕ) Fault = λ a b. Ok (a, b) in
    cond-false (ltb (length (bytes ++ rest)) (length bytes)) (Err cut) (got (take (length bytes) (bytes ++ rest)) (drop (length bytes) (bytes ++ rest))) enough
    ∙ (λ i. got (t i) (d i))

-- what fills a part: its bytes are parsed to it, and what is parsed has these bytes
pub record LawfulFilling {A : Type 0} (f : Filling A) : Type 0 where
  pub again : (x : A) → f.filling_counts x ≡ true → f.filling_sound x ≡ true → f.parse (f.bytes_of x) ≡ Ok x
  pub back : (bytes : List ℕ) (x : A) → AreBytes bytes → f.parse bytes ≡ Ok x → (f.filling_counts x ≡ true) × (f.filling_sound x ≡ true) × (bytes ≡ f.bytes_of x)

parsed_ok : {A : Type 0} (left : ℕ) (rest : List ℕ) (r : Result A Flaw) (z : A × List ℕ) → parsed left rest r ≡ Ok z → (r ≡ Ok z.0) × (rest ≡ z.1)
parsed_ok left rest (Ok x) z h = (cc, cc)
parsed_ok left rest (Err f) z h = absurd cc

pub lawful_filled : {A : Type 0} (count : Codec ℕ) (f : Filling A) → Lawful count → LawfulFilling f → Lawful (filled count f)
lawful_filled {A} count f ln lf = record {
  again = λ x rest h.
      let bs = f.bytes_of x in
      let p = and_parts (count.counts (length bs)) (f.filling_counts x) h.0 in
      let q = and_parts (count.sound (length bs)) (f.filling_sound x) h.1 in
      ap (filled count f).read (append_assoc (count.spell (length bs)) bs rest)
      ∙ rw (ln.again (length bs) (bs ++ rest) (p.0, q.0), bytes_again bs rest, lf.again x p.1 q.1) refl;
  back = λ bytes z h e.
      let one = bind_ok (count.read bytes) (λ n. read_bytes n.0 n.1 >>= λ x. parsed (length n.1) x.1 (f.parse x.0)) z e in
      let n = one.0 in
      let sn = ln.back bytes n h one.1 in
      let bn = left_bytes count bytes n h sn in
      let two = bind_ok (read_bytes n.0 n.1) (λ x. parsed (length n.1) x.1 (f.parse x.0)) z one.2 in
      let part = two.0 in
      let cut_off = else_ok (ltb (length n.1) n.0) cut (take n.0 n.1, drop n.0 n.1) part two.1 in
      let enough : n.0 ≤ length n.1 = ltb-false (length n.1) n.0 cut_off.0 in
      let three = parsed_ok (length n.1) part.1 (f.parse part.0) z two.2 in
      let front : take n.0 n.1 ≡ part.0 = ap (λ (v : List ℕ × List ℕ). v.0) cut_off.1 in
      let rest : drop n.0 n.1 ≡ part.1 = ap (λ (v : List ℕ × List ℕ). v.1) cut_off.1 in
      let small : AreBytes part.0 = subst AreBytes front (AreBytes-take n.0 n.1 bn) in
      let inner = lf.back part.0 z.0 small three.0 in
      let many : length (f.bytes_of z.0) ≡ n.0 = omega (arith, ap length inner.2, ap length front, length-take n.0 n.1) in
      let F : ℕ → Type 0 = λ k. Fits count k in
      let fits : Fits count (length (f.bytes_of z.0)) = subst F (sym many) sn.fits in
      record {
        fits = (both (count.counts (length (f.bytes_of z.0))) (f.filling_counts z.0) fits.0 inner.0, both (count.sound (length (f.bytes_of z.0))) (f.filling_sound z.0) fits.1 inner.1);
        is = sn.is
            ∙ ap (λ (l : List ℕ). count.spell n.0 ++ l) (sym (take-append-drop n.0 n.1) ∙ (λ i. front i ++ rest i) ∙ (λ i. inner.2 i ++ three.1 i))
            ∙ sym (append_assoc (count.spell n.0) (f.bytes_of z.0) z.1)
            ∙ ap (λ (k : ℕ). (count.spell k ++ f.bytes_of z.0) ++ z.1) (sym many);
      };
}

stated_ok : {A : Type 0} (size : ℕ) (bytes rest : List ℕ) (contents : Result A Fault) (x : A) → stated size bytes (Some rest) contents ≡ Ok x → (length bytes - length rest ≡ size) × (contents ≡ Ok x)
stated_ok size bytes rest contents x h = elim (cases_Bool (eqb (length bytes - length rest) size)) [
  | inl t ↦ (eqb-true (length bytes - length rest) size t, rw t at h)
  | inr t ↦ absurd (let wrong : Err (record { rule = class_rule.AttributeLength; left = length bytes + 4 }) ≡ Ok x = rw t at h in cc)
]

contents_ok : {A : Type 0} (size : ℕ) (bytes : List ℕ) (end : Option (List ℕ)) (contents : Result A Fault) (x : A) → stated size bytes end contents ≡ Ok x → contents ≡ Ok x
contents_ok size bytes None contents x h = h
contents_ok size bytes (Some rest) contents x h = (stated_ok size bytes rest contents x h).1

-- the end of the form is where the bytes of a value end
abbrev pub EndsForm : {A : Type 0} → (List ℕ → Option (List ℕ)) → Codec A → Type 0
EndsForm {A} form_end c = (x : A) (rest : List ℕ) → Fits c x → form_end (c.spell x ++ rest) ≡ Some rest

pub lawful_sized : {A : Type 0} (form_end : List ℕ → Option (List ℕ)) (a : Codec A) → EndsForm form_end a → Lawful a → Lawful (sized form_end a)
lawful_sized {A} form_end a ends la = record {
  again = λ x rest h.
      let bs = a.spell x in
      let p = and_parts (u4.counts (length bs)) (a.counts x) h.0 in
      let taken : eqb (length (bs ++ rest) - length rest) (length bs) ≡ true = eq-eqb (length (bs ++ rest) - length rest) (length bs) (omega (arith, length-append bs rest)) in
      ap (sized form_end a).read (append_assoc (u4.spell (length bs)) bs rest)
      ∙ rw (lawful_u4.again (length bs) (bs ++ rest) (p.0, refl), ends x rest (p.1, h.1), taken) (la.again x rest (p.1, h.1));
  back = λ bytes z h e.
      let one = bind_ok (u4.read bytes) (λ n. stated n.0 n.1 (form_end n.1) (a.read n.1)) z e in
      let n = one.0 in
      let sn = lawful_u4.back bytes n h one.1 in
      let sz = la.back n.1 z (left_bytes u4 bytes n h sn) (contents_ok n.0 n.1 (form_end n.1) (a.read n.1) z one.2) in
      let at_end : form_end n.1 ≡ Some z.1 = ap form_end sz.is ∙ ends z.0 z.1 sz.fits in
      let S : Option (List ℕ) → Type 0 = λ o. stated n.0 n.1 o (a.read n.1) ≡ Ok z in
      let k = stated_ok n.0 n.1 z.1 (a.read n.1) z (subst S at_end one.2) in
      let many : length (a.spell z.0) ≡ n.0 = omega (arith, k.0, ap length sz.is, length-append (a.spell z.0) z.1) in
      record {
        fits = (both (u4.counts (length (a.spell z.0))) (a.counts z.0) (rw many sn.fits.0) sz.fits.0, sz.fits.1);
        is = sn.is ∙ ap (λ (l : List ℕ). u4.spell n.0 ++ l) sz.is ∙ sym (append_assoc (u4.spell n.0) (a.spell z.0) z.1) ∙ ap (λ (k : ℕ). (u4.spell k ++ a.spell z.0) ++ z.1) (sym many);
      };
}

-- ---- a whole file

-- a value is read again from its bytes alone
pub whole_again : {A : Type 0} (c : Codec A) → Lawful c → (x : A) → Fits c x → whole c.read (c.spell x) ≡ Ok x
whole_again c lc x h =
    let one : c.read (c.spell x) ≡ Ok (x, []) = ap c.read (sym (append-nil (c.spell x))) ∙ lc.again x [] h in
    rw one refl

at_end_ok : {A : Type 0} (y : A × List ℕ) (x : A) → cond (eqb (length y.1) 0) (Ok y.0) (Err (here class_rule.Trailing y.1)) ≡ Ok x → (y.0 ≡ x) × (y.1 ≡ [])
at_end_ok (y, []) x h = (cc, refl)
at_end_ok (y, b ∷ bs) x h = absurd (let wrong : Err (here class_rule.Trailing (b ∷ bs)) ≡ Ok x = rw (ne_eqb (length (b ∷ bs)) 0 (omega arith)) at h in cc)

-- what is read from bytes to their end fits, and has these bytes
pub whole_back : {A : Type 0} (c : Codec A) → Lawful c → (bytes : List ℕ) (x : A) → AreBytes bytes → whole c.read bytes ≡ Ok x → Fits c x × (bytes ≡ c.spell x)
whole_back {A} c lc bytes x h e =
    let one = bind_ok (c.read bytes) (λ y. cond (eqb (length y.1) 0) (Ok y.0) (Err (here class_rule.Trailing y.1))) x e in
    let y = one.0 in
    let sy = lc.back bytes y h one.1 in
    let k = at_end_ok y x one.2 in
    let F : A → Type 0 = λ v. Fits c v in
    (subst F k.0 sy.fits, sy.is ∙ (λ i. c.spell (k.0 i) ++ k.1 i) ∙ append-nil (c.spell x))

-- two values that fit have unlike bytes, and those of neither begin those of the other
pub spelled_alike : {A : Type 0} (c : Codec A) → Lawful c → (x y : A) (rest : List ℕ) → Fits c x → Fits c y → c.spell y ≡ c.spell x ++ rest → (x ≡ y) × (rest ≡ [])
spelled_alike {A} c lc x y rest hx hy e =
    let from_x : c.read (c.spell y) ≡ Ok (x, rest) = ap c.read e ∙ lc.again x rest hx in
    let from_y : c.read (c.spell y) ≡ Ok (y, []) = ap c.read (sym (append-nil (c.spell y))) ∙ lc.again y [] hy in
    let same = sym from_x ∙ from_y in
    let pair : (x, rest) ≡ (y, []) = cc in
    (ap (λ (v : A × List ℕ). v.0) pair, ap (λ (v : A × List ℕ). v.1) pair)
