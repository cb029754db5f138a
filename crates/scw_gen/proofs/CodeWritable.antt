-- The code of a method has bytes and breaks no rule.
use Rattle.std.proofs.Common.{◌≡◌, ℕ, ◌+◌, ◌-◌, ◌<◌, ◌≤◌, ◌^◌, Bool, true, false, List, [], ◌∷◌, ◌++◌, length, refl, sym, ap, ◌∙◌, subst, arith, length-append, append_assoc}
use Rattle.std.specs.Prelude.{slice_index_or, nat_lt, replicate}
use Rattle.std.specs.List.{list_all}
use Rattle.std.proofs.Math.Seq.{get_or-append_seam}
use Rattle.std.proofs.lemmas.Bool.{and_from, lt-ltb}
use Rattle.std.proofs.lemmas.List.{length-replicate}
use Rattle.scw_code.specs.declared.instr.Instr as any
use Rattle.scw_code.specs.Instr.{instr_bytes, instr_fits}
use Rattle.scw_code.specs.Code.{code_bytes, code_bytes_from, code_fits, size_at}
use Rattle.scw_code.specs.Jump.{jumps_of, marks, starts, starts_from, target_is}
use Rattle.scw_code.specs.Opcode.{form_of}
use Rattle.scw_code.proofs.JumpLemmas.{size_has_bytes}
use Rattle.scw_classfile.specs.declared.class_rule.ClassRule.TheVariants as class_rule
use Rattle.scw_classfile.specs.declared.class_file.Code.{Code, roll-Code, out-roll-Code}
use Rattle.scw_classfile.specs.declared.pool_entry.EntryKind.{EntryKind}
use Rattle.scw_classfile.specs.Codec.{is_none, moved, u2, unless}
use Rattle.scw_classfile.specs.Kinds.{kinds_of}
use Rattle.scw_classfile.specs.Code.{code_flaw, index_by, instr_flaw, instrs_flaw, operand_flaw}
use Rattle.scw_classfile.specs.Format.{code as code_codec, sized_code}
use Rattle.scw_gen.specs.declared.instr.Instr.{Instr}
use Rattle.scw_gen.specs.Around.{Around}
use Rattle.scw_gen.specs.Encode.{encoded}
use Rattle.scw_gen.specs.Generate.{short}
use Rattle.scw_gen.specs.Instr.{bytes_of, size_of}
use Rattle.scw_gen.proofs.NoFlaw.{no_first, none_moved}
use Rattle.scw_gen.proofs.Landing.{Goes, Starts}
use Rattle.scw_gen.proofs.EncodedFine.{Fine, target-back, target-forward}
use Rattle.scw_gen.proofs.EncodedAll.{Encodes, encoded-fine, ended, one}

-- code that is whole: no jump leads out of it, and it has an instruction
pub record Closed (g : Around) (is : List Instr) : Type 0 where
  pub goes : (ok : ℕ → Bool) → bytes_of is ≤ 65535 → Starts ok 0 is → Goes g.table g.pool ok 0 is
  pub some : 0 < length is

-- any place may be jumped to
all_start : (o : ℕ) (is : List Instr) → Starts (λ n. true) o is
all_start o [] = tt
all_start o (i ∷ is) = (refl, all_start (o + size_of i) is)

module _ (g : Around) (few : length g.pool ≤ 65534) where
  abbrev K : List EntryKind
  K = kinds_of g.pool

  -- instructions that are fine wherever they jump to
  abbrev GoesOn : ℕ → List Instr → Type 0
  GoesOn o is = Goes g.table g.pool (λ n. true) o is

  -- ---- sizes

  -- the bytes are as many as was counted
  sizes : (o : ℕ) (is : List Instr) (code : List any.Instr) → Encodes g is code → GoesOn o is → length (code_bytes_from o code) ≡ bytes_of is
  unfolding bytes_of
  sizes o is code ended h = refl
  sizes o is code (one i n index rest more a b e) h =
      let f = encoded-fine g few (λ z. true) o (λ n. true) (λ way k. refl) (λ way le k. refl) i n index a b h.0 in
      let x = encoded i index in
      let size = f.size in
      let later = sizes (o + size_of i) rest more e h.1 in
      let same : o + size_at o x ≡ o + size_of i = omega (arith, size) in
      let moved = ap (λ (k : ℕ). length (code_bytes_from k more)) same in
      omega (arith, length-append (instr_bytes o x) (code_bytes_from (o + size_at o x) more), size, later, moved)

  -- operands fit their opcodes
  fit : (o : ℕ) (is : List Instr) (code : List any.Instr) → Encodes g is code → GoesOn o is → code_fits code ≡ true
  fit o is code ended h = refl
  fit o is code (one i n index rest more a b e) h =
      let f = encoded-fine g few (λ z. true) o (λ n. true) (λ way k. refl) (λ way le k. refl) i n index a b h.0 in
      and_from (instr_fits (encoded i index)) (code_fits more) f.fits (fit (o + size_of i) rest more e h.1)

  -- ---- opcodes are marked where instructions begin

  -- marks of one instruction are as many as its bytes
  length-marks : (n : ℕ) → 0 < n → length (marks n) ≡ n
  length-marks n some = omega (arith, length-replicate (n - 1) false)

  -- behind marks of other code
  marked : (front : List Bool) (o : ℕ) (is : List Instr) (code : List any.Instr) → length front ≡ o → Encodes g is code → GoesOn o is
      → Starts (λ n. slice_index_or (front ++ starts_from o code) n false) o is
  marked front o is code at ended h = tt
  marked front o is code at (one i n index rest more a b e) h =
      let f = encoded-fine g few (λ z. true) o (λ n. true) (λ way k. refl) (λ way le k. refl) i n index a b h.0 in
      let x = encoded i index in
      let size = f.size in
      let some = size_has_bytes o x in
      let m = marks (size_at o x) in
      let behind = starts_from (o + size_at o x) more in
      let len : length (front ++ m) ≡ o + size_of i = omega (arith, length-append front m, length-marks (size_at o x) some, at, size) in
      let same : o + size_of i ≡ o + size_at o x = omega (arith, size) in
      let later = marked (front ++ m) (o + size_of i) rest more len e h.1 in
      let whole : (front ++ m) ++ starts_from (o + size_of i) more ≡ front ++ (m ++ behind) =
      ap (λ (k : ℕ). (front ++ m) ++ starts_from k more) same ∙ append_assoc front m behind in
      let here : slice_index_or (front ++ (m ++ behind)) o false ≡ true =
      ap (λ (k : ℕ). slice_index_or (front ++ (m ++ behind)) k false) (sym at) ∙ get_or-append_seam front true (replicate (size_at o x - 1) false ++ behind) false in
      (here, subst (λ (l : List Bool). Starts (λ n. slice_index_or l n false) (o + size_of i) rest) whole later)

  -- ---- no flaw

  -- an instruction that is fine has no flaw
  fine_flawless : (starts : List Bool) (o n : ℕ) (x : any.Instr) → Fine K (target_is starts o) o x n → is_none (instr_flaw 52 K starts o x) ≡ true
  unfolding instr_flaw
  fine_flawless starts o n x f =
      no_first (unless (list_all (target_is starts o) (jumps_of x)) class_rule.Code 0) (operand_flaw 52 K x.args (index_by (form_of x.op)))
      (ap (λ (b : Bool). is_none (unless b class_rule.Code 0)) f.targets) f.named

  flawless : (starts : List Bool) (o : ℕ) (is : List Instr) (code : List any.Instr) → Encodes g is code → Goes g.table g.pool (λ n. slice_index_or starts n false) o is → is_none (instrs_flaw 52 K starts o code) ≡ true
  unfolding instrs_flaw
  flawless starts o is code ended h = refl
  flawless starts o is code (one i n index rest more a b e) h =
      let f = encoded-fine g few (target_is starts o) o (λ n. slice_index_or starts n false) (λ way k. target-forward starts o way k) (λ way le k. target-back starts o way le k) i n index a b h.0 in
      let x = encoded i index in
      let same : o + size_of i ≡ o + size_at o x = (let size = f.size in omega (arith, size)) in
      no_first (moved o (instr_flaw 52 K starts o x)) (instrs_flaw 52 K starts (o + size_at o x) more) (none_moved o (instr_flaw 52 K starts o x) (fine_flawless starts o (size_of i) x f))
      (subst (λ (k : ℕ). is_none (instrs_flaw 52 K starts k more) ≡ true) same (flawless starts (o + size_of i) rest more e h.1))

  -- ---- the attribute `Code`

  module _ (is : List Instr) (code : List any.Instr) (e : Encodes g is code) (closed : Closed g is) (small : bytes_of is ≤ 65535) where
    -- its jumps aside, all instructions are right
    on : GoesOn 0 is
    on = closed.goes (λ n. true) small (all_start 0 is)

    size : length (code_bytes code) ≡ bytes_of is
    size = sizes 0 is code e on

    some_bytes : 0 < length (code_bytes code)
    some_bytes = begun e closed.some
      where
        begun : {js : List Instr} {more : List any.Instr} → Encodes g js more → 0 < length js → 0 < length (code_bytes_from 0 more)
        begun ended some = absurd (omega arith)
        begun (one i n index rest more a b e) some =
            let x = encoded i index in
            let h = size_has_bytes 0 x in omega (arith, h, length-append (instr_bytes 0 x) (code_bytes_from (0 + size_at 0 x) more))

    code_flawless : is_none (code_flaw 52 K (starts code) code) ≡ true
    unfolding code_flaw starts
    code_flawless = flawless (starts_from 0 code) 0 is code e (closed.goes (λ n. slice_index_or (starts_from 0 code) n false) small (marked [] 0 is code refl e on))

    abbrev pub code_with : ℕ → ℕ → Code
    code_with stack locals = roll-Code (record { stack = short stack; locals = short locals; code = code; handlers = []; attributes = [] })

    short_fits : (n : ℕ) → u2.counts (short n) ≡ true
    short_fits n = lt-ltb (short n) (2 ^ 16) (omega arith)

    pub code_counts : (stack locals : ℕ) → (sized_code 0 []).counts (code_with stack locals) ≡ true
    unfolding code_codec
    code_counts stack locals =
        let bs = code_bytes code in
        let len = size in
        let c = code_with stack locals in
        let s = short_fits stack in
        let l = short_fits locals in
        let a : nat_lt (length bs) (2 ^ 32) ≡ true = lt-ltb (length bs) (2 ^ 32) (omega (arith, len, small)) in
        let d : length ((code_codec 0 []).spell c) ≡ 12 + length bs = rw out-roll-Code (omega (arith, length-append bs (0 ∷ 0 ∷ 0 ∷ 0 ∷ []))) in
        let f : nat_lt (length ((code_codec 0 []).spell c)) (2 ^ 32) ≡ true = lt-ltb (length ((code_codec 0 []).spell c)) (2 ^ 32) (omega (arith, d, len, small)) in
        let g' = fit 0 is code e on in
        and_from (nat_lt (length ((code_codec 0 []).spell c)) (2 ^ 32)) ((code_codec 0 []).counts c) f (rw (out-roll-Code, s, l, a, g') refl)

    pub code_sound : (stack locals : ℕ) → (sized_code 52 K).sound (code_with stack locals) ≡ true
    unfolding code_codec
    code_sound stack locals =
        let n = length (code_bytes code) in
        let len = size in
        let a : nat_lt 0 n ≡ true = lt-ltb 0 n some_bytes in
        let b : nat_lt n 65536 ≡ true = lt-ltb n 65536 (omega (arith, len, small)) in
        let f = code_flawless in
        rw (out-roll-Code, a, b, f) refl
