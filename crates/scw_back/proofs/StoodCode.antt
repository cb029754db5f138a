-- The code of a linked method, place by place.
use Rattle.std.proofs.Common.{◌≡◌, ℕ, ◌+◌, ◌-◌, ◌≤◌, Bool, true, false, cond, ltb, List, [], ◌∷◌, ◌++◌, length, Some, slice_get, replicate, refl, sym, ap, ◌∙◌, arith, append_assoc, length-append}
use Rattle.std.specs.List.{list_all}
use Rattle.std.proofs.lemmas.Bool.{ltb-false, lt-ltb}
use Rattle.std.proofs.lemmas.List.{length-replicate}
use Rattle.scw_classfile.specs.declared.class_file.MemberInfo.{MemberInfo}
use Rattle.scw_classfile.specs.Kinds.{kinds_of}
use Rattle.scw_code.specs.declared.instr.Instr as any
use Rattle.scw_code.specs.Code.{size_at}
use Rattle.scw_code.proofs.JumpLemmas.{size_has_bytes}
use Rattle.scw_frame.specs.declared.operation.Instruction.{Instruction}
use Rattle.scw_frame.specs.declared.program.Method.{Method}
use Rattle.scw_frame.specs.declared.program.Program.{Program}
use Rattle.scw_gen.specs.declared.instr.Instr.{Instr}
use Rattle.scw_gen.specs.Around.{Around}
use Rattle.scw_gen.specs.Encode.{encoded}
use Rattle.scw_gen.specs.Instr as gen
use Rattle.scw_gen.specs.Instr.{size_of}
use Rattle.scw_gen.specs.Pool.{fits}
use Rattle.scw_gen.proofs.CodeWritable.{Closed}
use Rattle.scw_gen.proofs.EncodedAll.{Encodes, encoded-fine, ended, one}
use Rattle.scw_gen.proofs.Landing.{Goes, Starts}
use Rattle.scw_gen.proofs.PoolLaid.{Laid}
use Rattle.scw_link.specs.Code.{bytes_of, code_from, instruction, no_instruction, place_or_last, switches_of}
use Rattle.scw_link.specs.Resolve.{operation}
use Rattle.scw_link.specs.Site.{Site}
use Rattle.scw_back.proofs.LinkedClasses as linked
use Rattle.scw_back.proofs.Meanings.{Calls, is_place, means}
use Rattle.scw_back.proofs.Placed.{Stood}

get_seam : (a b : List Instruction) (x : Instruction) → slice_get (a ++ x ∷ b) (length a) ≡ Some x
get_seam [] b x = refl
get_seam (y ∷ a) b x = get_seam a b x

-- a place of code that isn't too long
place-is : (n : ℕ) → n ≤ 65535 → place_or_last n ≡ n
place-is n le = by (ltb n 65535) refl
  where
    by : (b : Bool) → ltb n 65535 ≡ b → cond b n 65535 ≡ n
    by true e = refl
    by false e = let h = ltb-false n 65535 e in omega (arith, h)

-- each instruction of short code begins at a place of two bytes
starts : (o : ℕ) (is : List Instr) → o + gen.bytes_of is ≤ 65535 → Starts is_place o is
unfolding gen.bytes_of
starts o [] le = tt
starts o (i ∷ is) le = (lt-ltb o 65536 (omega arith), starts (o + size_of i) is (omega arith))

module _ (g : Around) (few : length g.pool ≤ 65534) (laid : Laid (kinds_of g.pool) g.pool) (fit : list_all fits g.pool ≡ true) (infos : List MemberInfo) (this above : ℕ) (calls : Calls g infos this above) (main : List ℕ) where
  abbrev S : Site
  S = linked.S g.pool infos this above

  abbrev L : Program
  L = linked.P g.pool infos this above main

  -- code that stands behind other code
  stood : (m : Method) (before : List Instruction) (pc first : ℕ) (is : List Instr) (code : List any.Instr) → Encodes g is code → Goes g.table g.pool is_place pc is
      → length before ≡ pc → pc + gen.bytes_of is ≤ 65535 → m.code ≡ before ++ code_from S pc first code → Stood g.table g.class L m pc is
  unfolding gen.bytes_of
  stood m before pc first is code ended goes at le e = tt
  stood m before pc first is code (one i n index rest more a b encodes) goes at le e =
      let x = encoded i index in
      let fine = encoded-fine g few (λ z. true) pc is_place (λ way k. refl) (λ way l k. refl) i n index a b goes.0 in
      let size = fine.size in
      let some = size_has_bytes pc x in
      let o = operation S pc first x in
      let bytes = bytes_of S pc first x in
      let tail = replicate (size_at pc x - 1) no_instruction in
      let long : length bytes ≡ size_of i = omega (arith, some, size, length-replicate (size_at pc x - 1) no_instruction) in
      let next : pc + length bytes ≡ pc + size_of i = omega (arith, long) in
      let behind = first + switches_of x.args in
      let fits_in : pc + size_at pc x ≤ 65535 = omega (arith, size, le) in
      let follows : place_or_last (pc + size_at pc x) ≡ pc + size_of i = place-is (pc + size_at pc x) fits_in ∙ omega (arith, size) in
      let is_it : instruction S pc first x ≡ record { operation = o; next = pc + size_of i } = ap (λ k. record { operation = o; next = k }) follows in
      let there : slice_get m.code pc ≡ Some (instruction S pc first x) =
      ap (λ (l : List Instruction). slice_get l pc) e
      ∙ ap (slice_get (before ++ (bytes ++ code_from S (pc + length bytes) behind more))) (sym at)
      ∙ get_seam before (tail ++ code_from S (pc + length bytes) behind more) (instruction S pc first x) in
      let later : m.code ≡ (before ++ bytes) ++ code_from S (pc + size_of i) behind more =
      e ∙ ap (λ k. before ++ (bytes ++ code_from S k behind more)) next ∙ sym (append_assoc before bytes (code_from S (pc + size_of i) behind more)) in (
        record { operation = o; means = means g few laid fit infos this above calls main pc first i n index a b goes.0; there = there ∙ ap (λ (y : Instruction). Some y) is_it },
        stood m (before ++ bytes) (pc + size_of i) behind rest more encodes goes.1 (omega (arith, length-append before bytes, at, long)) (omega (arith, le)) later,
      )

  -- the code of a method from its beginning
  pub stood_all : (m : Method) (first : ℕ) (is : List Instr) (code : List any.Instr) → Encodes g is code → Closed g is → gen.bytes_of is ≤ 65535 → m.code ≡ code_from S 0 first code → Stood g.table g.class L m 0 is
  stood_all m first is code encodes closed le e =
      let small : 0 + gen.bytes_of is ≤ 65535 = omega (arith, le) in
      stood m [] 0 first is code encodes (closed.goes is_place le (starts 0 is small)) refl small e
