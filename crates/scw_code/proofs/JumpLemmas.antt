-- Sizes, marks and targets.
use Rattle.std.proofs.Common.{◌≡◌, ℕ, ◌+◌, ◌-◌, ◌*◌, ◌<◌, ◌≤◌, Bool, true, false, ◌&&◌, ℤ, Option, Some, None, List, [], ◌∷◌, ◌++◌, length, take, map, replicate, get_or, refl, sym, ap, ◌∙◌, append_assoc, arith}
use Rattle.std.proofs.lemmas.List.{append-nil, length-append, length-replicate, take_more, take_all}
use Rattle.std.specs.List.{flat_map, list_all}
use Rattle.scw_code.specs.declared.instr.Instr.{Instr}
use Rattle.scw_code.specs.declared.instr.InstrArgs.{InstrArgs}
use Rattle.scw_code.specs.declared.instr.InstrArgs.TheVariants as args
use Rattle.scw_code.specs.declared.instr.LookupSwitch.{LookupSwitch}
use Rattle.scw_code.specs.declared.instr.Numbers.{Numbers}
use Rattle.scw_code.specs.declared.layout.Layout.{Layout}
use Rattle.scw_code.specs.declared.layout.Layout.TheVariants.{Nothing, U1, S1, U2, S2, S4, U1S1, U2S2, U2U1, U2U1U1}
use Rattle.scw_code.specs.declared.layout.Shape.{Shape}
use Rattle.scw_code.specs.declared.layout.Shape.TheVariants as shape
use Rattle.scw_code.specs.Codec.{s4}
use Rattle.scw_code.specs.Layout.{numbers, shape_at, wide_layout_at}
use Rattle.scw_code.specs.Opcode.{form_of}
use Rattle.scw_code.specs.Instr.{padding, table, lookup, pair, widened, table_of, lookup_of, wide_of, numbers_of, args_of, instr_bytes}
use Rattle.scw_code.specs.Code.{size_at}
use Rattle.scw_code.specs.Jump.{layout_size, further_size, marks, starts_from, jumps_by, distances, jumps_of, target_is, starts}
use Rattle.scw_code.proofs.InstrLemmas.{instr_has_bytes}

-- ---- sizes

pub length-numbers : (l : Layout) (ns : Numbers) → length ((numbers l).spell ns) ≡ layout_size l
length-numbers Nothing ns = refl
length-numbers U1 ns = refl
length-numbers S1 ns = refl
length-numbers U2 ns = refl
length-numbers S2 ns = refl
length-numbers S4 ns = refl
length-numbers U1S1 ns = refl
length-numbers U2S2 ns = refl
length-numbers U2U1 ns = refl
length-numbers U2U1U1 ns = refl

length-jumps : (ds : List ℤ) → length (flat_map s4.spell ds) ≡ 4 * length ds
length-jumps [] = refl
length-jumps (d ∷ ds) = omega (arith, length-jumps ds)

length-pairs : (ps : List (ℤ × ℤ)) → length (flat_map pair.spell ps) ≡ 8 * length ps
length-pairs [] = refl
length-pairs (p ∷ ps) = omega (arith, length-pairs ps)

length-widened : (op : ℕ) (l : Option Layout) (ns : Numbers) → length ((widened op l).spell ns) ≡ further_size l
length-widened op None ns = refl
length-widened op (Some l) ns = length-numbers l ns

-- the size of what stands behind the opcode, by its shape
args_size : ℕ → Option Shape → InstrArgs → ℕ
args_size at None a = 0
args_size at (Some (shape.Plain l)) a = layout_size l
args_size at (Some shape.Table) a = padding at + (12 + 4 * length (table_of a).jumps)
args_size at (Some shape.Lookup) a = padding at + (8 + 8 * length (lookup_of a).pairs)
args_size at (Some shape.Wide) a = 1 + further_size (wide_layout_at (wide_of a).0)

length-padded : (n : ℕ) (bytes : List ℕ) → length (replicate n 0 ++ bytes) ≡ n + length bytes
length-padded n bytes = omega (arith, length-append (replicate n 0) bytes, length-replicate {A = ℕ} n 0)

length-args : (at op : ℕ) (s : Option Shape) (a : InstrArgs) → length ((args_of at op s).spell a) ≡ args_size at s a
unfolding args_size
length-args at op None a = refl
length-args at op (Some (shape.Plain l)) a = length-numbers l (numbers_of a)
length-args at op (Some shape.Table) a = omega (arith, length-padded (padding at) (table.spell (table_of a)), length-jumps (table_of a).jumps)
length-args at op (Some shape.Lookup) a = omega (arith, length-padded (padding at) (lookup.spell (lookup_of a)), length-pairs (lookup_of a).pairs)
length-args at op (Some shape.Wide) a = omega (arith, length-widened (wide_of a).0 (wide_layout_at (wide_of a).0) (wide_of a).1)

size_by : (at : ℕ) (i : Instr) (s : Option Shape) → s ≡ shape_at i.op → size_at at i ≡ 1 + args_size at s i.args
unfolding instr_bytes
size_by at i s e = rw e (omega (arith, length-args at i.op (shape_at i.op) i.args))

-- the size of an instruction, by the shape of its opcode
pub size_none : (at : ℕ) (i : Instr) → None ≡ shape_at i.op → 1 ≡ size_at at i
unfolding args_size
size_none at i e = sym (size_by at i None e)

pub size_plain : (at : ℕ) (i : Instr) (l : Layout) (n : ℕ) → Some (shape.Plain l) ≡ shape_at i.op → n ≡ layout_size l → 1 + n ≡ size_at at i
unfolding args_size
size_plain at i l n e size = omega (arith, size_by at i (Some (shape.Plain l)) e)

pub size_table : (at : ℕ) (i : Instr) (pad n : ℕ) → Some shape.Table ≡ shape_at i.op → pad ≡ padding at → n ≡ length (table_of i.args).jumps → 13 + pad + 4 * n ≡ size_at at i
unfolding args_size
size_table at i pad n e p size = omega (arith, size_by at i (Some shape.Table) e)

pub size_lookup : (at : ℕ) (i : Instr) (pad n : ℕ) → Some shape.Lookup ≡ shape_at i.op → pad ≡ padding at → n ≡ length (lookup_of i.args).pairs → 9 + pad + 8 * n ≡ size_at at i
unfolding args_size
size_lookup at i pad n e p size = omega (arith, size_by at i (Some shape.Lookup) e)

pub size_wide : (at : ℕ) (i : Instr) (n : ℕ) → Some shape.Wide ≡ shape_at i.op → n ≡ further_size (wide_layout_at (wide_of i.args).0) → 2 + n ≡ size_at at i
unfolding args_size
size_wide at i n e size = omega (arith, size_by at i (Some shape.Wide) e)

-- ---- marks

pub size_has_bytes : (at : ℕ) (i : Instr) → 0 < size_at at i
size_has_bytes at i = instr_has_bytes at i

length-marks : (n : ℕ) → 0 < n → length (marks n) ≡ n
length-marks n some = omega (arith, length-replicate (n - 1) false)

-- the marks of one instruction more
starts_push : (at : ℕ) (is : List Instr) (i : Instr) → starts_from at (is ++ i ∷ []) ≡ starts_from at is ++ marks (size_at (at + length (starts_from at is)) i)
starts_push at [] i =
    let e : at + 0 ≡ at = omega arith in
    append-nil (marks (size_at at i)) ∙ ap (λ (k : ℕ). marks (size_at k i)) (sym e)
starts_push at (x ∷ is) i =
    let size = size_at at x in
    let next = at + size in
    let more = starts_from next is in
    let some = size_has_bytes at x in
    let e : next + length more ≡ at + length (marks size ++ more) = omega (arith, length-append (marks size) more, length-marks size some) in
    ap (λ (l : List Bool). marks size ++ l) (starts_push next is i ∙ ap (λ (k : ℕ). more ++ marks (size_at k i)) e) ∙ sym (append_assoc (marks size) more (marks (size_at (at + length (marks size ++ more)) i)))

pub starts_more : (is : List Instr) (k : ℕ) (i : Instr) (front : List Bool) → k < length is → i ≡ get_or is k i → front ≡ starts_from 0 (take k is)
    → starts_from 0 (take (k + 1) is) ≡ front ++ marks (size_at (length front) i)
starts_more is k i front lt e same =
    let one : take (k + 1) is ≡ take k is ++ i ∷ [] = take_more is k i lt ∙ ap (λ (x : Instr). take k is ++ x ∷ []) (sym e) in
    let here : 0 + length (starts_from 0 (take k is)) ≡ length front = omega (arith, ap length same) in
    ap (starts_from 0) one ∙ starts_push 0 (take k is) i ∙ ap (λ (n : ℕ). starts_from 0 (take k is) ++ marks (size_at n i)) here ∙ ap (λ (l : List Bool). l ++ marks (size_at (length front) i)) (sym same)

pub marks_pushed : (front : List Bool) (size n : ℕ) → n ≡ size - 1 → (front ++ true ∷ []) ++ replicate n false ≡ front ++ marks size
marks_pushed front size n e = append_assoc front (true ∷ []) (replicate n false) ∙ ap (λ (k : ℕ). front ++ true ∷ replicate k false) e

pub starts_whole : (is : List Instr) (k : ℕ) (front : List Bool) → length is ≤ k → front ≡ starts_from 0 (take k is) → front ≡ starts is
unfolding starts
starts_whole is k front le e = e ∙ ap (starts_from 0) (take_all k is le)

-- ---- targets

pub list_all-map : {A B : Type 0} (test : B → Bool) (f : A → B) (xs : List A) → list_all test (map f xs) ≡ list_all (λ x. test (f x)) xs
list_all-map test f [] = refl
list_all-map test f (x ∷ xs) = ap (λ (b : Bool). test (f x) && b) (list_all-map test f xs)

pub lookup_targets : (starts : List Bool) (at : ℕ) (i : Instr) (t : LookupSwitch) (r : Bool) → i.args ≡ args.Lookup t → true ≡ target_is starts at t.default → r ≡ list_all (λ p. target_is starts at p.1) t.pairs → r ≡ list_all (target_is starts at) (jumps_of i)
lookup_targets starts at i t r e first rest =
    let all : true && list_all (λ p. target_is starts at p.1) t.pairs ≡ target_is starts at t.default && list_all (target_is starts at) (map (λ p. p.1) t.pairs) =
    ap (λ (b : Bool). true && b) (sym (list_all-map (target_is starts at) (λ p. p.1) t.pairs)) ∙ ap (λ (b : Bool). b && list_all (target_is starts at) (map (λ p. p.1) t.pairs)) first in
    rest ∙ all ∙ ap (λ (a : InstrArgs). list_all (target_is starts at) (distances (jumps_by (form_of i.op)) a)) (sym e)
