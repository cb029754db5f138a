-- The format of an instruction is exact.
use Rattle.std.proofs.Common.{◌≡◌, ℕ, ◌+◌, ◌-◌, ◌<◌, Bool, ◌&&◌, eqb, ℤ, pos, negsuc, Option, Some, None, List, ◌∷◌, ◌++◌, length, Result, Ok, refl, ap, ◌∙◌, arith, IsTrue, int_le, unsigned_abs}
use Rattle.std.proofs.lemmas.Bool.{and_parts, eqb-true, false≢true}
use Rattle.scw_text.proofs.ByteLemmas.{AreBytes}
use Rattle.scw_code.specs.declared.fault.CodeFault.{CodeFault}
use Rattle.scw_code.specs.declared.instr.Instr.{Instr}
use Rattle.scw_code.specs.declared.instr.InstrArgs.{InstrArgs}
use Rattle.scw_code.specs.declared.instr.InstrArgs.TheVariants as args
use Rattle.scw_code.specs.declared.instr.Numbers.{Numbers}
use Rattle.scw_code.specs.declared.instr.Numbers.TheVariants.{Zero, One, Two, Three}
use Rattle.scw_code.specs.declared.layout.Layout.{Layout}
use Rattle.scw_code.specs.declared.layout.Layout.TheVariants.{Nothing, U1, S1, U2, S2, S4, U1S1, U2S2, U2U1, U2U1U1}
use Rattle.scw_code.specs.declared.layout.Shape.{Shape}
use Rattle.scw_code.specs.declared.layout.Shape.TheVariants as shape
use Rattle.scw_code.specs.Codec.{Codec, byte, u1, s1, u2, s2, s4, bad_opcode, bad_switch, bad_widened, followed, listed}
use Rattle.scw_code.specs.Layout.{count, first, second, third, one, two, three, numbers, shape_at, wide_layout_at}
use Rattle.scw_code.specs.Instr.{always, padding, high_above, span, ranged, table, pair, rises, pair_count, pairs, lookup, widened, wide, instr_bytes, instr_fits, read_instr, is_plain, numbers_of, is_table, table_of, is_lookup, lookup_of, is_wide, wide_of, args_of, instr}
use Rattle.scw_code.proofs.CodecLemmas.{IsExact, is_exact_byte, is_exact_u1, is_exact_s1, is_exact_u2, is_exact_s2, is_exact_s4, is_exact_nothing, is_exact_never, is_exact_followed, is_exact_seen_as, is_exact_checked, is_exact_padded, is_exact_listed}

-- ---- numbers

none_is : (ns : Numbers) → IsTrue (eqb (count ns) 0) → Zero ≡ ns
none_is Zero h = refl
none_is (One a) h = absurd (false≢true h)
none_is (Two a b) h = absurd (false≢true h)
none_is (Three a b c) h = absurd (false≢true h)

one_is : (ns : Numbers) → IsTrue (eqb (count ns) 1) → One (first ns) ≡ ns
one_is Zero h = absurd (false≢true h)
one_is (One a) h = refl
one_is (Two a b) h = absurd (false≢true h)
one_is (Three a b c) h = absurd (false≢true h)

two_is : (ns : Numbers) → IsTrue (eqb (count ns) 2) → Two (first ns) (second ns) ≡ ns
two_is Zero h = absurd (false≢true h)
two_is (One a) h = absurd (false≢true h)
two_is (Two a b) h = refl
two_is (Three a b c) h = absurd (false≢true h)

three_is : (ns : Numbers) → IsTrue (eqb (count ns) 3) → Three (first ns) (second ns) (third ns) ≡ ns
three_is Zero h = absurd (false≢true h)
three_is (One a) h = absurd (false≢true h)
three_is (Two a b) h = absurd (false≢true h)
three_is (Three a b c) h = refl

is_exact_one : (a : Codec ℤ) → IsExact a → IsExact (one a)
is_exact_one a ea = is_exact_seen_as _ _ _ a one_is (λ x h. (refl, refl)) ea

is_exact_two : (a b : Codec ℤ) → IsExact a → IsExact b → IsExact (two a b)
is_exact_two a b ea eb = is_exact_seen_as _ _ _ _ two_is (λ x h. (refl, refl)) (is_exact_followed a (λ _. b) ea (λ _. eb))

is_exact_three : (a b c : Codec ℤ) → IsExact a → IsExact b → IsExact c → IsExact (three a b c)
is_exact_three a b c ea eb ec = is_exact_seen_as _ _ _ _ three_is (λ x h. (refl, refl)) (is_exact_followed a (λ _. followed b (λ _. c)) ea (λ _. is_exact_followed b (λ _. c) eb (λ _. ec)))

is_exact_numbers : (l : Layout) → IsExact (numbers l)
is_exact_numbers Nothing = is_exact_nothing Zero _ refl none_is
is_exact_numbers U1 = is_exact_one u1 is_exact_u1
is_exact_numbers S1 = is_exact_one s1 is_exact_s1
is_exact_numbers U2 = is_exact_one u2 is_exact_u2
is_exact_numbers S2 = is_exact_one s2 is_exact_s2
is_exact_numbers S4 = is_exact_one s4 is_exact_s4
is_exact_numbers U1S1 = is_exact_two u1 s1 is_exact_u1 is_exact_s1
is_exact_numbers U2S2 = is_exact_two u2 s2 is_exact_u2 is_exact_s2
is_exact_numbers U2U1 = is_exact_two u2 u1 is_exact_u2 is_exact_u1
is_exact_numbers U2U1U1 = is_exact_three u2 u1 u1 is_exact_u2 is_exact_u1 is_exact_u1

-- ---- switches

is_exact_ranged : IsExact ranged
is_exact_ranged = is_exact_followed s4 _ is_exact_s4 (λ low. is_exact_followed (high_above low) _ (is_exact_checked _ bad_switch s4 is_exact_s4) (λ high. is_exact_listed _ s4 is_exact_s4 (span low high)))

is_exact_table : IsExact table
is_exact_table = is_exact_seen_as _ _ always _ (λ t h. refl) (λ x h. (refl, refl)) (is_exact_followed s4 (λ _. ranged) is_exact_s4 (λ _. is_exact_ranged))

is_exact_pair : IsExact pair
is_exact_pair = is_exact_followed s4 (λ _. s4) is_exact_s4 (λ _. is_exact_s4)

pos_abs : (z : ℤ) → IsTrue (int_le (pos 0) z) → pos (unsigned_abs z) ≡ z
pos_abs (pos n) h = refl
pos_abs (negsuc n) h = absurd (false≢true h)

pairs_law : (x : ℤ × List (ℤ × ℤ)) → IsTrue ((followed pair_count (λ n. listed rises pair (unsigned_abs n))).fits x) → ((pos (length x.1), x.1) ≡ x) × IsTrue (always x.1)
pairs_law x h =
    let p = and_parts (pair_count.fits x.0) ((listed rises pair (unsigned_abs x.0)).fits x.1) h in
    let q = and_parts (int_le (pos 0) x.0) (s4.fits x.0) p.0 in
    let r = and_parts (eqb (length x.1) (unsigned_abs x.0)) _ p.1 in
    let e : pos (length x.1) ≡ x.0 = ap pos (eqb-true (length x.1) (unsigned_abs x.0) r.0) ∙ pos_abs x.0 q.0 in
    (λ i. (e i, x.1), refl)

is_exact_pairs : IsExact pairs
is_exact_pairs = is_exact_seen_as _ _ always _ (λ ps h. refl) pairs_law
    (is_exact_followed pair_count _ (is_exact_checked _ bad_switch s4 is_exact_s4) (λ n. is_exact_listed rises pair is_exact_pair (unsigned_abs n)))

is_exact_lookup : IsExact lookup
is_exact_lookup = is_exact_seen_as _ _ always _ (λ t h. refl) (λ x h. (refl, refl)) (is_exact_followed s4 (λ _. pairs) is_exact_s4 (λ _. is_exact_pairs))

-- ---- instructions

is_exact_widened : (opcode : ℕ) (l : Option Layout) → IsExact (widened opcode l)
is_exact_widened opcode None = is_exact_never (bad_widened opcode)
is_exact_widened opcode (Some l) = is_exact_numbers l

is_exact_wide : IsExact wide
is_exact_wide = is_exact_followed byte _ is_exact_byte (λ opcode. is_exact_widened opcode (wide_layout_at opcode))

plain_is : (a : InstrArgs) → IsTrue (is_plain a) → args.Plain (numbers_of a) ≡ a
plain_is (args.Plain ns) h = refl
plain_is (args.Table t) h = absurd (false≢true h)
plain_is (args.Lookup t) h = absurd (false≢true h)
plain_is (args.Wide op ns) h = absurd (false≢true h)

table_is : (a : InstrArgs) → IsTrue (is_table a) → args.Table (table_of a) ≡ a
table_is (args.Plain ns) h = absurd (false≢true h)
table_is (args.Table t) h = refl
table_is (args.Lookup t) h = absurd (false≢true h)
table_is (args.Wide op ns) h = absurd (false≢true h)

lookup_is : (a : InstrArgs) → IsTrue (is_lookup a) → args.Lookup (lookup_of a) ≡ a
lookup_is (args.Plain ns) h = absurd (false≢true h)
lookup_is (args.Table t) h = absurd (false≢true h)
lookup_is (args.Lookup t) h = refl
lookup_is (args.Wide op ns) h = absurd (false≢true h)

wide_is : (a : InstrArgs) → IsTrue (is_wide a) → args.Wide (wide_of a).0 (wide_of a).1 ≡ a
wide_is (args.Plain ns) h = absurd (false≢true h)
wide_is (args.Table t) h = absurd (false≢true h)
wide_is (args.Lookup t) h = absurd (false≢true h)
wide_is (args.Wide op ns) h = refl

is_exact_args : (at opcode : ℕ) (s : Option Shape) → IsExact (args_of at opcode s)
is_exact_args at opcode None = is_exact_never (bad_opcode opcode)
is_exact_args at opcode (Some (shape.Plain l)) = is_exact_seen_as _ _ _ (numbers l) plain_is (λ x h. (refl, refl)) (is_exact_numbers l)
is_exact_args at opcode (Some shape.Table) = is_exact_seen_as _ _ _ _ table_is (λ x h. (refl, refl)) (is_exact_padded (padding at) table is_exact_table)
is_exact_args at opcode (Some shape.Lookup) = is_exact_seen_as _ _ _ _ lookup_is (λ x h. (refl, refl)) (is_exact_padded (padding at) lookup is_exact_lookup)
is_exact_args at opcode (Some shape.Wide) = is_exact_seen_as _ _ _ wide wide_is (λ x h. (refl, refl)) is_exact_wide

pub is_exact_instr : (at : ℕ) → IsExact (instr at)
is_exact_instr at = is_exact_seen_as _ _ always _ (λ i h. refl) (λ x h. (refl, refl)) (is_exact_followed byte _ is_exact_byte (λ opcode. is_exact_args at opcode (shape_at opcode)))

-- whether operands fit doesn't depend on the place
args_fit_anywhere : (at here opcode : ℕ) (s : Option Shape) (a : InstrArgs) → (args_of at opcode s).fits a ≡ (args_of here opcode s).fits a
args_fit_anywhere at here opcode None a = refl
args_fit_anywhere at here opcode (Some (shape.Plain l)) a = refl
args_fit_anywhere at here opcode (Some shape.Table) a = refl
args_fit_anywhere at here opcode (Some shape.Lookup) a = refl
args_fit_anywhere at here opcode (Some shape.Wide) a = refl

pub fits_anywhere : (at : ℕ) (i : Instr) → (instr at).fits i ≡ instr_fits i
unfolding instr_fits
fits_anywhere at i = ap (λ (b : Bool). byte.fits i.op && b) (args_fit_anywhere at 0 i.op (shape_at i.op) i.args)

-- an instruction that fits is read again
pub instr_again : (end at : ℕ) (i : Instr) (rest : List ℕ) → IsTrue (instr_fits i) → at + length (instr_bytes at i ++ rest) ≡ end → read_instr end (instr_bytes at i ++ rest) ≡ Ok (i, rest)
unfolding instr_bytes read_instr
instr_again end at i rest h e =
    let here : end - length ((instr at).spell i ++ rest) ≡ at = omega (arith, e) in
    let read : ℕ → Result (Instr × List ℕ) CodeFault = λ k. (instr k).read (record { at = k; end = end }) ((instr at).spell i ++ rest) in
    ap read here ∙ (is_exact_instr at).again (record { at = at; end = end }) i rest (rw (fits_anywhere at i) h)

-- an instruction that is read fits, and its bytes were there
pub instr_back : (end : ℕ) (bytes : List ℕ) (i : Instr) (rest : List ℕ) → AreBytes bytes → read_instr end bytes ≡ Ok (i, rest) → (bytes ≡ instr_bytes (end - length bytes) i ++ rest) × IsTrue (instr_fits i)
unfolding instr_bytes read_instr
instr_back end bytes i rest are h =
    let at = end - length bytes in
    let p = (is_exact_instr at).back (record { at = at; end = end }) bytes i rest are h in
    (p.0, rw (fits_anywhere at i) at p.1)

-- an instruction begins with its opcode
pub instr_bytes_are : (at : ℕ) (i : Instr) → (more : List ℕ) × (instr_bytes at i ≡ i.op ∷ more)
unfolding instr_bytes
instr_bytes_are at i = ((args_of at i.op (shape_at i.op)).spell i.args, refl)

pub instr_has_bytes : (at : ℕ) (i : Instr) → 0 < length (instr_bytes at i)
instr_has_bytes at i = let p = instr_bytes_are at i in omega (arith, ap length p.1)
