-- The bytes of an instruction by the variant of its operands, and of instructions one after another.
use Rattle.std.proofs.Common.{◌≡◌, ℕ, ◌+◌, ◌<◌, ◌&&◌, Option, Some, None, List, [], ◌∷◌, ◌++◌, length, take, replicate, get_or, refl, sym, ap, ◌∙◌, append_assoc, arith, IsTrue}
use Rattle.std.proofs.lemmas.Bool.{and_parts, false≢true}
use Rattle.std.proofs.lemmas.List.{append-nil, length-append, take_more}
use Rattle.scw_code.specs.declared.instr.Instr.{Instr}
use Rattle.scw_code.specs.declared.instr.InstrArgs.TheVariants as args
use Rattle.scw_code.specs.declared.instr.TableSwitch.{TableSwitch}
use Rattle.scw_code.specs.declared.layout.Shape.{Shape}
use Rattle.scw_code.specs.declared.layout.Shape.TheVariants as shape
use Rattle.scw_code.specs.Codec.{byte}
use Rattle.scw_code.specs.Layout.{shape_at}
use Rattle.scw_code.specs.Instr.{padding, table, args_of, instr_bytes, instr_fits}
use Rattle.scw_code.specs.Code.{size_at, code_bytes_from, code_bytes}
use Rattle.scw_code.proofs.InstrLemmas.{fits_anywhere}

-- a table that fits stands behind the opcode of a table
pub table_bytes : (at op : ℕ) (s : Option Shape) (t : TableSwitch) → IsTrue ((args_of at op s).fits (args.Table t)) → replicate (padding at) 0 ++ table.spell t ≡ (args_of at op s).spell (args.Table t)
table_bytes at op None t h = absurd (false≢true h)
table_bytes at op (Some (shape.Plain l)) t h = absurd (false≢true h)
table_bytes at op (Some shape.Table) t h = refl
table_bytes at op (Some shape.Lookup) t h = absurd (false≢true h)
table_bytes at op (Some shape.Wide) t h = absurd (false≢true h)

-- the operands of an instruction that fits are those of its opcode
pub args_fit : (at : ℕ) (i : Instr) → IsTrue (instr_fits i) → IsTrue ((args_of at i.op (shape_at i.op)).fits i.args)
args_fit at i h =
    let e : IsTrue (byte.fits i.op && (args_of at i.op (shape_at i.op)).fits i.args) = fits_anywhere at i ∙ h in
    (and_parts (byte.fits i.op) ((args_of at i.op (shape_at i.op)).fits i.args) e).1

-- the opcode, and what stands behind it
pub opcode_first : (at : ℕ) (i : Instr) → i.op ∷ (args_of at i.op (shape_at i.op)).spell i.args ≡ instr_bytes at i
unfolding instr_bytes
opcode_first at i = refl

-- one instruction more at the end
code_bytes_push : (at : ℕ) (is : List Instr) (i : Instr) → code_bytes_from at (is ++ i ∷ []) ≡ code_bytes_from at is ++ instr_bytes (at + length (code_bytes_from at is)) i
code_bytes_push at [] i =
    let e : at + 0 ≡ at = omega arith in
    append-nil (instr_bytes at i) ∙ ap (λ (k : ℕ). instr_bytes k i) (sym e)
code_bytes_push at (x ∷ is) i =
    let next = at + size_at at x in
    let more = code_bytes_from next is in
    let e : next + length more ≡ at + length (instr_bytes at x ++ more) = omega (arith, length-append (instr_bytes at x) more) in
    ap (λ (l : List ℕ). instr_bytes at x ++ l) (code_bytes_push next is i ∙ ap (λ (k : ℕ). more ++ instr_bytes k i) e) ∙ sym (append_assoc (instr_bytes at x) more (instr_bytes (at + length (instr_bytes at x ++ more)) i))

pub code_bytes_more : (is : List Instr) (k : ℕ) (i : Instr) (at : ℕ) → k < length is → i ≡ get_or is k i → at ≡ length (code_bytes (take k is)) → code_bytes (take (k + 1) is) ≡ code_bytes (take k is) ++ instr_bytes at i
code_bytes_more is k i at lt e place =
    let one : take (k + 1) is ≡ take k is ++ i ∷ [] = take_more is k i lt ∙ ap (λ (x : Instr). take k is ++ x ∷ []) (sym e) in
    let here : 0 + length (code_bytes (take k is)) ≡ at = omega (arith, place) in
    ap code_bytes one ∙ code_bytes_push 0 (take k is) i ∙ ap (λ (n : ℕ). code_bytes (take k is) ++ instr_bytes n i) here
