-- The law of each structure of a class file.
use Rattle.std.proofs.Common.{◌≡◌, ℕ, suc, ◌-◌, ◌*◌, ◌^◌, min, ◌≤◌, Bool, true, false, ◌&&◌, ltb, eqb, inl, inr, List, [], ◌∷◌, ◌++◌, length, drop, Option, Some, None, Result, Ok, Err, IfOk, refl, sym, ap, ◌∙◌, subst, append_assoc, arith, IsTrue}
use Rattle.std.proofs.lemmas.Bool.{and_parts, false≢true, le-ltb, cond-false, cases_Bool, eqb-true}
use Rattle.std.proofs.lemmas.List.{append-nil, drop_at, length-append}
use Rattle.std.proofs.lemmas.List.Concat.{flat_map-cons}
use Rattle.std.specs.List.{flat_map, list_all}
use Rattle.scw_text.proofs.ByteLemmas.{AreBytes}
use Rattle.scw_code.specs.declared.decoding.Decoded.{Decoded}
use Rattle.scw_code.specs.declared.fault.CodeFault.{CodeFault}
use Rattle.scw_code.specs.declared.instr.Instr.{Instr}
use Rattle.scw_code.specs.Code.{code_bytes, code_fits, decoded}
use Rattle.scw_code.specs.Jump.{starts}
use Rattle.scw_code.proofs.CodeLemmas.{decoded-code_bytes, code_bytes-decoded}
use Rattle.scw_classfile.specs.declared.class_file.Attribute.{Attribute}
use Rattle.scw_classfile.specs.declared.class_file.AttrBody.{AttrBody}
use Rattle.scw_classfile.specs.declared.class_file.AttrBody.TheVariants as attr_body
use Rattle.scw_classfile.specs.declared.class_file.ClassFile.{ClassFile}
use Rattle.scw_classfile.specs.declared.class_file.Code.{roll-out-Code, out-roll-Code}
use Rattle.scw_classfile.specs.declared.class_file.Handler.{Handler}
use Rattle.scw_classfile.specs.declared.class_rule.ClassRule.TheVariants as class_rule
use Rattle.scw_classfile.specs.declared.fault.Fault.{Fault}
use Rattle.scw_classfile.specs.declared.fault.Flaw.{Flaw}
use Rattle.scw_classfile.specs.declared.index.Expected.{Expected}
use Rattle.scw_classfile.specs.declared.index.Expected.TheVariants as expected
use Rattle.scw_classfile.specs.declared.pool_entry.EntryKind.{EntryKind}
use Rattle.scw_classfile.specs.declared.pool_entry.TextKind.{TextKind}
use Rattle.scw_classfile.specs.Codec.{Codec, Fits, u2, u4, followed, is_none, unless, counted, whole}
use Rattle.scw_classfile.specs.Kinds.{index_flaw, is_field_text, is_method_text, kinds_of}
use Rattle.scw_classfile.specs.Pool.{pool, entries}
use Rattle.scw_classfile.specs.Code.{code_flaw, starts_in, code_or_fault, code_or_flaw, parse_code, instrs, code_length, code_array, handler_flaw, handler, passed, after_measured, after_attribute, after_attributes, after_attribute_list, after_handlers, code_end}
use Rattle.scw_classfile.specs.Format.{index, raw, info_of, is_other, other, parts_of, code, sized_code, body_bytes, body_counts, body_sound, read_body, own_body, names_code, own_name, own, own_item, own_seen, own_bytes, own_counts, own_list, flags, descriptor, member, field, method, magic, start, parent, Tail, tail, tail_of, body as class_body, body_of, from_parts, to_parts, class}
use Rattle.scw_classfile.specs.declared.fault.ClassFault.{ClassFault}
use Rattle.scw_classfile.specs.declared.fault.ClassFault.TheVariants.{Bad, NoMemory}
use Rattle.scw_classfile.specs.declared.fault.ClassRefusal.{ClassRefusal}
use Rattle.scw_classfile.specs.ReadClass.{read_class, refusal_of, reported, ClassBytes, IfBad, IsOkOrNoMemory, IsWritable, Reads}
use Rattle.scw_classfile.proofs.CodecLemmas.{Spelled, Lawful, bind_ok, lawful_u2, lawful_u4, lawful_followed, lawful_seen_if, lawful_seen_as, lawful_judged}
use Rattle.scw_classfile.proofs.ListLemmas.{LawfulFilling, lawful_filled, lawful_counted, lawful_flagged, EndsForm, lawful_sized, whole_again, whole_back}
use Rattle.scw_classfile.proofs.PoolLemmas.{lawful_pool}

-- ---- code

flawless : (is : List Instr) (d : Decoded) (flaw : Option Flaw) → d ≡ record { instrs = is; fault = None } → is_none flaw ≡ true → code_or_flaw d flaw ≡ Ok is
flawless is d None e h = rw e refl
flawless is d (Some flaw) e h = absurd (false≢true h)

was_flawless : (is : List Instr) (d : Decoded) (flaw : Option Flaw) → code_or_flaw d flaw ≡ Ok is → (is_none flaw ≡ true) × (d.fault ≡ None) × (d.instrs ≡ is)
was_flawless is d None e = was_whole is d.instrs d.fault e
  where
    was_whole : (is js : List Instr) (fault : Option CodeFault) → code_or_fault js fault ≡ Ok is → (true ≡ true) × (fault ≡ None) × (js ≡ is)
    was_whole is js None e = (refl, refl, cc)
    was_whole is js (Some f) e = absurd cc
was_flawless is d (Some flaw) e = absurd cc

-- all instructions were read: the marks are theirs
starts_whole : (size : ℕ) (d : Decoded) (is : List Instr) → d.fault ≡ None → d.instrs ≡ is → starts_in size d ≡ starts is
starts_whole size d is e f = rw (e, f) (append-nil (starts is))

flaw_whole : (major : ℕ) (kinds : List EntryKind) (size : ℕ) (d : Decoded) (is : List Instr) → d.fault ≡ None → d.instrs ≡ is → code_flaw major kinds (starts_in size d) d.instrs ≡ code_flaw major kinds (starts is) is
flaw_whole major kinds size d is e f = (λ i. code_flaw major kinds (starts_whole size d is e f i) (f i))

lawful_instrs : (major : ℕ) (kinds : List EntryKind) → LawfulFilling (instrs major kinds)
unfolding parse_code
lawful_instrs major kinds = record {
  again = λ is p q.
      let bytes = code_bytes is in
      let d = decoded-code_bytes is p in
      let same : code_flaw major kinds (starts_in (length bytes) (decoded bytes)) (decoded bytes).instrs ≡ code_flaw major kinds (starts is) is = flaw_whole major kinds (length bytes) (decoded bytes) is (ap (λ (v : Decoded). v.fault) d) (ap (λ (v : Decoded). v.instrs) d) in
      flawless is (decoded bytes) (code_flaw major kinds (starts_in (length bytes) (decoded bytes)) (decoded bytes).instrs) d (rw same q);
  back = λ bytes is h e.
      let k = was_flawless is (decoded bytes) (code_flaw major kinds (starts_in (length bytes) (decoded bytes)) (decoded bytes).instrs) e in
      let b = code_bytes-decoded bytes h k.1 in
      let C : List Instr → Type 0 = λ v. IsTrue (code_fits v) in
      let same = flaw_whole major kinds (length bytes) (decoded bytes) is k.1 k.2 in
      (subst C k.2 b.1, rw same at k.0, b.0 ∙ ap code_bytes k.2);
}

lawful_code_length : Lawful code_length
lawful_code_length = lawful_judged _ u4 lawful_u4

lawful_code_array : (major : ℕ) (kinds : List EntryKind) → Lawful (code_array major kinds)
lawful_code_array major kinds = lawful_filled code_length (instrs major kinds) lawful_code_length (lawful_instrs major kinds)

lawful_handler : (major : ℕ) (kinds : List EntryKind) (marks : List Bool) → Lawful (handler major kinds marks)
lawful_handler major kinds marks = lawful_judged (handler_flaw major kinds marks) _ (lawful_seen_as _ _ _ (λ h. refl) (λ x _. refl)
    (lawful_followed u2 _ lawful_u2 (λ _. lawful_followed u2 _ lawful_u2 (λ _. lawful_followed u2 _ lawful_u2 (λ _. lawful_u2)))))

-- ---- attributes

bytes_filling : LawfulFilling (record { bytes_of = λ bs. bs; filling_counts = λ _. true; filling_sound = λ _. true; parse = λ bs. Ok bs })
bytes_filling = record { again = λ bs p q. refl; back = λ bytes bs h e. (refl, refl, cc) }

lawful_raw : Lawful raw
lawful_raw = lawful_filled u4 _ lawful_u4 bytes_filling

lawful_index : (major : ℕ) (kinds : List EntryKind) (e : Expected) → Lawful (index major kinds e)
lawful_index major kinds e = lawful_judged (λ n. index_flaw major kinds e n 0) u2 lawful_u2

as_other : ℕ → AttrBody → Attribute
as_other n b = record { name = n; body = attr_body.Other (info_of b) }

other_again : (n : ℕ) (b : AttrBody) → is_other b ≡ true → as_other n b ≡ (record { name = n; body = b })
unfolding as_other
other_again n (attr_body.Code c) h = absurd (false≢true h)
other_again n (attr_body.Other bs) h = refl

lawful_other : (major : ℕ) (kinds : List EntryKind) → Lawful (other major kinds)
unfolding as_other
lawful_other major kinds = lawful_seen_if (λ a. is_other a.body) _ _ _ (λ a h. other_again a.name a.body h) (λ x _. (refl, refl))
    (lawful_followed (index major kinds expected.Text) (λ _. raw) (lawful_index major kinds expected.Text) (λ _. lawful_raw))

lawful_code : (major : ℕ) (kinds : List EntryKind) → Lawful (code major kinds)
unfolding code
lawful_code major kinds = lawful_seen_as _ parts_of _ (λ c. roll-out-Code c) (λ x _. rw (out-roll-Code (record { stack = x.0; locals = x.1.0; code = x.1.1.0; handlers = x.1.1.1.0; attributes = x.1.1.1.1 })) refl)
    (lawful_followed u2 _ lawful_u2 (λ _. lawful_followed u2 _ lawful_u2 (λ _.
    lawful_followed (code_array major kinds) _ (lawful_code_array major kinds) (λ is.
    lawful_followed (counted (handler major kinds (starts is))) _ (lawful_counted (handler major kinds (starts is)) (lawful_handler major kinds (starts is))) (λ _. lawful_counted (other major kinds) (lawful_other major kinds))))))

-- ---- where the form of Code ends

passed_all : (bytes rest : List ℕ) → passed (length bytes) (bytes ++ rest) ≡ Some rest
passed_all bytes rest =
    let got : List ℕ → Option (List ℕ) = λ l. Some l in
    cond-false (ltb (length (bytes ++ rest)) (length bytes)) None (got (drop (length bytes) (bytes ++ rest))) (le-ltb (length (bytes ++ rest)) (length bytes) (omega (arith, length-append bytes rest)))
    ∙ ap got (drop_at bytes rest (length bytes) refl)

passed_many : (n : ℕ) (bytes rest : List ℕ) → length bytes ≡ n → passed n (bytes ++ rest) ≡ Some rest
passed_many n bytes rest h = ap (λ (k : ℕ). passed k (bytes ++ rest)) (sym h) ∙ passed_all bytes rest

measured_passed : (bytes rest : List ℕ) → ltb (length bytes) (0x100000000) ≡ true → after_measured (u4.spell (length bytes) ++ (bytes ++ rest)) ≡ Some rest
measured_passed bytes rest h = rw (lawful_u4.again (length bytes) (bytes ++ rest) (h, refl)) (passed_all bytes rest)

attribute_passed : (major : ℕ) (kinds : List EntryKind) (a : Attribute) (rest : List ℕ) → Fits (other major kinds) a → after_attribute ((other major kinds).spell a ++ rest) ≡ Some rest
attribute_passed major kinds a rest h =
    let bs = info_of a.body in
    let p = and_parts (is_other a.body) (u2.counts a.name && raw.counts bs) h.0 in
    let q = and_parts (u2.counts a.name) (raw.counts bs) p.1 in
    let r = and_parts (u4.counts (length bs)) true q.1 in
    let front : passed 2 ((u2.spell a.name ++ raw.spell bs) ++ rest) ≡ Some (raw.spell bs ++ rest) =
    ap (passed 2) (append_assoc (u2.spell a.name) (raw.spell bs) rest) ∙ passed_many 2 (u2.spell a.name) (raw.spell bs ++ rest) refl in
    rw front (ap after_measured (append_assoc (u4.spell (length bs)) bs rest) ∙ measured_passed bs rest r.0)

attributes_passed : (major : ℕ) (kinds : List EntryKind) (attrs : List Attribute) (rest : List ℕ) → list_all (other major kinds).counts attrs ≡ true → list_all (other major kinds).sound attrs ≡ true → after_attributes (length attrs) (flat_map (other major kinds).spell attrs ++ rest) ≡ Some rest
unfolding after_attributes
attributes_passed major kinds [] rest p q = refl
attributes_passed major kinds (a ∷ attrs) rest p q =
    let c = other major kinds in
    let p' = and_parts (c.counts a) (list_all c.counts attrs) p in
    let q' = and_parts (c.sound a) (list_all c.sound attrs) q in
    let more = flat_map c.spell attrs ++ rest in
    let regrouped : flat_map c.spell (a ∷ attrs) ++ rest ≡ c.spell a ++ more = ap (λ (l : List ℕ). l ++ rest) (flat_map-cons c.spell a attrs) ∙ append_assoc (c.spell a) (flat_map c.spell attrs) rest in
    ap (after_attributes (suc (length attrs))) regrouped ∙ rw (attribute_passed major kinds a more (p'.0, q'.0)) (attributes_passed major kinds attrs rest p'.1 q'.1)

attribute_list_passed : (major : ℕ) (kinds : List EntryKind) (attrs : List Attribute) (rest : List ℕ) → Fits (counted (other major kinds)) attrs → after_attribute_list ((counted (other major kinds)).spell attrs ++ rest) ≡ Some rest
attribute_list_passed major kinds attrs rest h =
    let c = other major kinds in
    let p = and_parts (u2.counts (length attrs)) (list_all c.counts attrs) h.0 in
    ap after_attribute_list (append_assoc (u2.spell (length attrs)) (flat_map c.spell attrs) rest)
    ∙ rw (lawful_u2.again (length attrs) (flat_map c.spell attrs ++ rest) (p.0, refl)) (attributes_passed major kinds attrs rest p.1 h.1)

handlers_length : (major : ℕ) (kinds : List EntryKind) (marks : List Bool) (hs : List Handler) → length (flat_map (handler major kinds marks).spell hs) ≡ 8 * length hs
handlers_length major kinds marks [] = refl
handlers_length major kinds marks (h ∷ hs) =
    let c = handler major kinds marks in
    omega (arith, ap length (flat_map-cons c.spell h hs), length-append (c.spell h) (flat_map c.spell hs), handlers_length major kinds marks hs)

handlers_passed : (major : ℕ) (kinds : List EntryKind) (marks : List Bool) (hs : List Handler) (rest : List ℕ) → Fits (counted (handler major kinds marks)) hs → after_handlers ((counted (handler major kinds marks)).spell hs ++ rest) ≡ Some rest
handlers_passed major kinds marks hs rest h =
    let c = handler major kinds marks in
    let p = and_parts (u2.counts (length hs)) (list_all c.counts hs) h.0 in
    ap after_handlers (append_assoc (u2.spell (length hs)) (flat_map c.spell hs) rest)
    ∙ rw (lawful_u2.again (length hs) (flat_map c.spell hs ++ rest) (p.0, refl)) (passed_many (8 * length hs) (flat_map c.spell hs) rest (handlers_length major kinds marks hs))

code_array_passed : (major : ℕ) (kinds : List EntryKind) (is : List Instr) (rest : List ℕ) → Fits (code_array major kinds) is → after_measured ((code_array major kinds).spell is ++ rest) ≡ Some rest
code_array_passed major kinds is rest h =
    let bs = code_bytes is in
    let p = and_parts (u4.counts (length bs)) (code_fits is) h.0 in
    ap after_measured (append_assoc (u4.spell (length bs)) bs rest) ∙ measured_passed bs rest p.0

-- the parts of a code that fits, one after another
module _ (major : ℕ) (kinds : List EntryKind) where
  code_ends : (x : ℕ × (ℕ × (List Instr × (List Handler × List Attribute)))) (rest : List ℕ)
      → let c = followed u2 (λ _. followed u2 (λ _. followed (code_array major kinds) (λ is. followed (counted (handler major kinds (starts is))) (λ _. counted (other major kinds))))) in Fits c x → code_end (c.spell x ++ rest) ≡ Some rest
  unfolding code_end
  code_ends x rest h =
      let is = x.1.1.0 in
      let hs = x.1.1.1.0 in
      let attrs = x.1.1.1.1 in
      let a = code_array major kinds in
      let b = counted (handler major kinds (starts is)) in
      let d = counted (other major kinds) in
      let p = and_parts (u2.counts x.0) (u2.counts x.1.0 && (a.counts is && (b.counts hs && d.counts attrs))) h.0 in
      let p2 = and_parts (u2.counts x.1.0) (a.counts is && (b.counts hs && d.counts attrs)) p.1 in
      let p3 = and_parts (a.counts is) (b.counts hs && d.counts attrs) p2.1 in
      let p4 = and_parts (b.counts hs) (d.counts attrs) p3.1 in
      let q3 = and_parts (a.sound is) (b.sound hs && d.sound attrs) h.1 in
      let q4 = and_parts (b.sound hs) (d.sound attrs) q3.1 in
      let more = b.spell hs ++ d.spell attrs in
      let front : passed 4 ((u2.spell x.0 ++ (u2.spell x.1.0 ++ (a.spell is ++ more))) ++ rest) ≡ Some ((a.spell is ++ more) ++ rest) = passed_many 4 (u2.spell x.0 ++ u2.spell x.1.0) ((a.spell is ++ more) ++ rest) refl in
      let code : after_measured ((a.spell is ++ more) ++ rest) ≡ Some (more ++ rest) = ap after_measured (append_assoc (a.spell is) more rest) ∙ code_array_passed major kinds is (more ++ rest) (p3.0, q3.0) in
      let table : after_handlers (more ++ rest) ≡ Some (d.spell attrs ++ rest) = ap after_handlers (append_assoc (b.spell hs) (d.spell attrs) rest) ∙ handlers_passed major kinds (starts is) hs (d.spell attrs ++ rest) (p4.0, q4.0) in
      rw (front, code, table) (attribute_list_passed major kinds attrs rest (p4.1, q4.1))

  ends_code : EndsForm code_end (code major kinds)
  unfolding code
  ends_code c rest h = code_ends (parts_of c) rest h

  pub lawful_sized_code : Lawful (sized_code major kinds)
  lawful_sized_code = lawful_sized code_end (code major kinds) ends_code (lawful_code major kinds)

-- ---- a method's own attributes

module _ (major : ℕ) (kinds : List EntryKind) where
  body_again : (named : Bool) (b : AttrBody) (rest : List ℕ) → body_counts b ≡ true → body_sound major kinds named b ≡ true → read_body major kinds named (body_bytes b ++ rest) ≡ Ok (b, rest)
  unfolding code
  body_again true (attr_body.Code c) rest p q = rw ((lawful_sized_code major kinds).again c rest (p, q)) refl
  body_again true (attr_body.Other bs) rest p q = absurd (false≢true q)
  body_again false (attr_body.Code c) rest p q = absurd (false≢true q)
  body_again false (attr_body.Other bs) rest p q = rw (lawful_raw.again bs rest (p, refl)) refl

  body_back : (named : Bool) (bytes : List ℕ) (x : AttrBody × List ℕ) → AreBytes bytes → read_body major kinds named bytes ≡ Ok x → Spelled (own_body major kinds named) bytes x
  unfolding code
  body_back true bytes x h e =
      let one = bind_ok ((sized_code major kinds).read bytes) (λ y. Ok (attr_body.Code y.0, y.1)) x e in
      let y = one.0 in
      let sy = (lawful_sized_code major kinds).back bytes y h one.1 in
      let same : (attr_body.Code y.0, y.1) ≡ x = let last = one.2 in cc in
      let P : AttrBody × List ℕ → Type 0 = λ v. Spelled (own_body major kinds true) bytes v in
      subst P same (record { fits = sy.fits; is = sy.is })
  body_back false bytes x h e =
      let one = bind_ok (raw.read bytes) (λ y. Ok (attr_body.Other y.0, y.1)) x e in
      let y = one.0 in
      let sy = lawful_raw.back bytes y h one.1 in
      let same : (attr_body.Other y.0, y.1) ≡ x = let last = one.2 in cc in
      let P : AttrBody × List ℕ → Type 0 = λ v. Spelled (own_body major kinds false) bytes v in
      subst P same (record { fits = (sy.fits.0, refl); is = sy.is })

  lawful_own_body : (named : Bool) → Lawful (own_body major kinds named)
  lawful_own_body named = record { again = λ b rest h. body_again named b rest h.0 h.1; back = body_back named }

  lawful_own : (seen : Bool) → Lawful (own major kinds seen)
  lawful_own seen = lawful_seen_as _ _ _ (λ a. refl) (λ x _. refl)
      (lawful_followed (own_name major kinds seen) _ (lawful_judged _ u2 lawful_u2) (λ n. lawful_own_body (names_code kinds n)))

  lawful_own_list : Lawful (own_list major kinds)
  lawful_own_list = lawful_flagged (own_item major kinds) (own_seen kinds) (λ seen _. lawful_own seen) own_bytes own_counts (λ seen n a. refl) (λ seen n a. refl) u2 lawful_u2

  -- ---- members and classes

  lawful_flags : Lawful flags
  lawful_flags = lawful_seen_as _ _ u2 (λ f. refl) (λ n _. refl) lawful_u2

  lawful_member : (test : TextKind → Bool) (attributes : Codec (List Attribute)) → Lawful attributes → Lawful (member major kinds test attributes)
  lawful_member test attributes la = lawful_seen_as _ _ _ (λ m. refl) (λ x _. refl)
      (lawful_followed flags _ lawful_flags (λ _. lawful_followed (index major kinds expected.Text) _ (lawful_index major kinds expected.Text) (λ _. lawful_followed (descriptor major kinds test) _ (lawful_judged _ u2 lawful_u2) (λ _. la))))

  lawful_tail : Lawful (tail major kinds)
  unfolding tail
  lawful_tail = lawful_followed (counted (index major kinds expected.Class)) _ (lawful_counted (index major kinds expected.Class) (lawful_index major kinds expected.Class)) (λ _.
      lawful_followed (counted (field major kinds)) _ (lawful_counted (field major kinds) (lawful_member is_field_text (counted (other major kinds)) (lawful_counted (other major kinds) (lawful_other major kinds)))) (λ _.
      lawful_followed (counted (method major kinds)) _ (lawful_counted (method major kinds) (lawful_member is_method_text (own_list major kinds) lawful_own_list)) (λ _.
      lawful_counted (other major kinds) (lawful_other major kinds))))

is_magic : (n : ℕ) → is_none (unless (eqb n 0xcafebabe) class_rule.Magic 0) ≡ true → n ≡ 0xcafebabe
is_magic n h = elim (cases_Bool (eqb n 0xcafebabe)) [
  | inl same_number ↦ eqb-true n 0xcafebabe same_number
  | inr other_number ↦ absurd (let wrong : false ≡ true = rw other_number at h in false≢true wrong)
]

lawful_start : Lawful start
lawful_start = lawful_seen_as (λ x. x.1) (λ v. (0xcafebabe, v)) _ (λ v. refl) (λ x fits. let m = is_magic x.0 (and_parts (is_none (unless (eqb x.0 0xcafebabe) class_rule.Magic 0)) _ fits.1).0 in ap (λ (n : ℕ). (n, x.1)) (sym m))
    (lawful_followed magic _ (lawful_judged _ u4 lawful_u4) (λ _. lawful_followed u2 _ lawful_u2 (λ _. lawful_judged _ u2 lawful_u2)))

pub lawful_class : Lawful class
unfolding class
lawful_class = lawful_seen_as from_parts to_parts _ (λ c. refl) (λ x _. refl)
    (lawful_followed start _ lawful_start (λ v. lawful_followed (pool v.1) _ (lawful_pool v.1) (λ p. lawful_followed flags _ (lawful_flags v.1 (kinds_of p)) (λ _.
    lawful_followed (index v.1 (kinds_of p) expected.Class) _ (lawful_index v.1 (kinds_of p) expected.Class) (λ this.
    lawful_followed (parent v.1 (kinds_of p) this) _ (lawful_judged _ u2 lawful_u2) (λ _. lawful_tail v.1 (kinds_of p)))))))

-- ---- a whole class file

-- a class is read again from its bytes
pub class_again : (c : ClassFile) → IsWritable c → read_class (class.spell c) ≡ Ok c
unfolding read_class
class_again c h = ap (reported (length (class.spell c))) (whole_again class lawful_class c h)

was_read : (size : ℕ) (r : Result ClassFile Fault) (c : ClassFile) → reported size r ≡ Ok c → r ≡ Ok c
was_read size (Ok d) c h = cc
was_read size (Err f) c h = absurd cc

-- what is read is a class whose bytes these are
pub class_back : (bytes : List ℕ) (c : ClassFile) → AreBytes bytes → read_class bytes ≡ Ok c → ClassBytes c bytes
unfolding read_class
class_back bytes c h e = whole_back class lawful_class bytes c h (was_read (length bytes) (whole class.read bytes) c e)

-- an answer that is what is read is the class, where a class is read
pub ok_from_reads : (answer : Result ClassFile ClassFault) (read : Result ClassFile ClassRefusal) (c : ClassFile) → Reads answer read → read ≡ Ok c → IsOkOrNoMemory answer c
ok_from_reads (Ok d) read c h e = cc
ok_from_reads (Err (Bad r)) read c h e = cc
ok_from_reads (Err NoMemory) read c h e = tt

-- an answer that is what is read is a class whose bytes these are, if it is one
pub class_from_reads : (answer : Result ClassFile ClassFault) (bytes : List ℕ) → AreBytes bytes → Reads answer (read_class bytes) → IfOk answer (λ c. ClassBytes c bytes)
class_from_reads (Ok c) bytes h e = class_back bytes c h e
class_from_reads (Err f) bytes h e = tt

-- what stands behind the pool is written alike in each version and with each pool
body_counts_alike : (major : ℕ) (kinds : List EntryKind) (x : Tail) → (tail major kinds).counts x ≡ (tail 0 []).counts x
unfolding tail
body_counts_alike major kinds x = refl

pub class_bytes : (c : ClassFile) → class.spell c ≡ start.spell (c.minor, c.major) ++ (entries.spell c.pool ++ (class_body 0 []).spell (body_of c))
unfolding class tail
class_bytes c = refl

-- a class that is written: its pool and what stands behind it can be written
pub class_counts : (c : ClassFile) → IsWritable c → (entries.counts c.pool ≡ true) × ((tail 0 []).counts (tail_of c) ≡ true)
unfolding class
class_counts c h =
    let k = kinds_of c.pool in
    let b = (class_body c.major k).counts (body_of c) in
    let p = and_parts (start.counts (c.minor, c.major)) (entries.counts c.pool && b) h.0 in
    let q = and_parts (entries.counts c.pool) b p.1 in
    let r = and_parts (flags.counts c.flags) (u2.counts c.this && (u2.counts c.parent && (tail c.major k).counts (tail_of c))) q.1 in
    let s = and_parts (u2.counts c.this) (u2.counts c.parent && (tail c.major k).counts (tail_of c)) r.1 in
    let t = and_parts (u2.counts c.parent) ((tail c.major k).counts (tail_of c)) s.1 in
    (q.0, sym (body_counts_alike c.major k (tail_of c)) ∙ t.1)

bad_place : (size : ℕ) (r : Result ClassFile Fault) (refused : ClassRefusal) → reported size r ≡ Err refused → refused.place ≤ size
bad_place size (Ok c) refused h = absurd cc
bad_place size (Err f) refused h =
    let at : min (size - f.left) (2 ^ 32 - 1) ≡ refused.place = let same : refusal_of size f ≡ refused = cc in ap (λ (x : ClassRefusal). x.place) same in
    omega arith

-- a refusal names a place in the bytes, or their end
pub place_within : (answer : Result ClassFile ClassFault) (bytes : List ℕ) → Reads answer (read_class bytes) → IfBad answer (λ r. r.place ≤ length bytes)
unfolding read_class
place_within (Ok c) bytes e = tt
place_within (Err (Bad r)) bytes e = bad_place (length bytes) (whole class.read bytes) r e
place_within (Err NoMemory) bytes e = tt
