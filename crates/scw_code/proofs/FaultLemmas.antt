-- Reading tells a fault of the bytes, and never that memory ran out.
use Rattle.std.proofs.Common.{◌≡◌, ℕ, zero, suc, ◌^◌, Bool, true, false, cond, eqb, ltb, ℤ, pos, Option, Some, None, List, [], ◌∷◌, length, take, drop, Result, Ok, Err, unsigned_abs, subst}
use Rattle.std.specs.Int.{Width, w8, w16, w32, byte_len, from_be_bytes}
use Rattle.scw_code.specs.declared.decoding.Decoded.{Decoded}
use Rattle.scw_code.specs.declared.fault.CodeFault.{CodeFault}
use Rattle.scw_code.specs.declared.fault.CodeFault.TheVariants.{BadOpcode, BadSwitch, Cut, NoMemory}
use Rattle.scw_code.specs.declared.instr.Instr.{Instr}
use Rattle.scw_code.specs.declared.instr.InstrArgs.TheVariants as args
use Rattle.scw_code.specs.declared.instr.Numbers.TheVariants.{One, Two, Three}
use Rattle.scw_code.specs.declared.layout.Layout.{Layout}
use Rattle.scw_code.specs.declared.layout.Layout.TheVariants.{Nothing, U1, S1, U2, S2, S4, U1S1, U2S2, U2U1, U2U1U1}
use Rattle.scw_code.specs.declared.layout.Shape.{Shape}
use Rattle.scw_code.specs.declared.layout.Shape.TheVariants as shape
use Rattle.scw_code.specs.declared.site.Site.{Site}
use Rattle.scw_code.specs.Codec.{Codec, ◌>>=◌, cut, bad_switch, byte, number, unsigned, signed, u1, s1, u2, s2, s4, followed, seen_as, checked, read_zeros, padded, read_listed, listed}
use Rattle.scw_code.specs.Layout.{count, first, second, third, one, two, three, numbers, shape_at, wide_layout_at}
use Rattle.scw_code.specs.Instr.{always, padding, high_above, span, ranged, table, pair, rises, pair_count, pairs, lookup, widened, wide, is_plain, numbers_of, is_table, table_of, is_lookup, lookup_of, is_wide, wide_of, args_of, instr, read_instr}
use Rattle.scw_code.specs.Code.{after_instr, decoded_from, decoded}

-- a value, or a fault of the bytes
abbrev Tells : {A : Type 0} → Result A CodeFault → Type 0
Tells (Ok x) = Unit {0}
Tells (Err (BadOpcode at b)) = Unit {0}
Tells (Err (BadSwitch at)) = Unit {0}
Tells (Err (Cut at)) = Unit {0}
Tells (Err NoMemory) = ⊥

tells_next : {A B : Type 0} (r : Result A CodeFault) (next : A → Result B CodeFault) → Tells r → ((x : A) → Tells (next x)) → Tells (r >>= next)
tells_next (Ok x) next h each = each x
tells_next (Err (BadOpcode at b)) next h each = tt
tells_next (Err (BadSwitch at)) next h each = tt
tells_next (Err (Cut at)) next h each = tt
tells_next (Err NoMemory) next h each = h

tells_choice : {A : Type 0} (b : Bool) (x y : Result A CodeFault) → Tells x → Tells y → Tells (cond b x y)
tells_choice true x y p q = p
tells_choice false x y p q = q

-- each reading of a format gives a value or a fault of the bytes
record Telling {A : Type 0} (c : Codec A) : Type 0 where
  tells : (site : Site) (bytes : List ℕ) → Tells (c.read site bytes)

tells_byte : (site : Site) (bytes : List ℕ) → Tells (byte.read site bytes)
tells_byte site [] = tt
tells_byte site (b ∷ bs) = tt

telling_byte : Telling byte
telling_byte = record { tells = tells_byte }

telling_number : (w : Width) (limit : ℕ) → Telling (number w limit)
telling_number w limit = record { tells = λ site bytes. tells_choice (ltb (length bytes) (byte_len w)) (Err (cut site)) (Ok (from_be_bytes w (take (byte_len w) bytes), drop (byte_len w) bytes)) tt tt }

telling_unsigned : (w : Width) (limit : ℕ) (a : Codec ℕ) → Telling a → Telling (unsigned w limit a)
telling_unsigned w limit a ta = record { tells = λ site bytes. tells_next (a.read site bytes) _ (ta.tells site bytes) (λ x. tt) }

telling_signed : (w : Width) (limit : ℕ) (a : Codec ℕ) → Telling a → Telling (signed w limit a)
telling_signed w limit a ta = record { tells = λ site bytes. tells_next (a.read site bytes) _ (ta.tells site bytes) (λ x. tt) }

telling_followed : {A B : Type 0} (a : Codec A) (b : A → Codec B) → Telling a → ((x : A) → Telling (b x)) → Telling (followed a b)
telling_followed a b ta tb = record { tells = λ site bytes. tells_next (a.read site bytes) _ (ta.tells site bytes) (λ x. tells_next ((b x.0).read site x.1) _ ((tb x.0).tells site x.1) (λ y. tt)) }

telling_seen_as : {A B : Type 0} (to : A → B) (from : B → A) (is : B → Bool) (a : Codec A) → Telling a → Telling (seen_as to from is a)
telling_seen_as to from is a ta = record { tells = λ site bytes. tells_next (a.read site bytes) _ (ta.tells site bytes) (λ x. tt) }

telling_checked : {A : Type 0} (test : A → Bool) (a : Codec A) → Telling a → Telling (checked test bad_switch a)
telling_checked test a ta = record { tells = λ site bytes. tells_next (a.read site bytes) _ (ta.tells site bytes) (λ x. tells_choice (test x.0) (Ok x) (Err (bad_switch site)) tt tt) }

tells_zeros : (site : Site) (n : ℕ) (bytes : List ℕ) → Tells (read_zeros site n bytes)
unfolding read_zeros
tells_zeros site zero bytes = tt
tells_zeros site (suc n) [] = tt
tells_zeros site (suc n) (b ∷ bs) = tells_choice (eqb b 0) (read_zeros site n bs) (Err (bad_switch site)) (tells_zeros site n bs) tt

telling_padded : {A : Type 0} (n : ℕ) (a : Codec A) → Telling a → Telling (padded n a)
telling_padded n a ta = record { tells = λ site bytes. tells_next (read_zeros site n bytes) (a.read site) (tells_zeros site n bytes) (λ rest. ta.tells site rest) }

tells_listed : {A : Type 0} (test : Option A → A → Bool) (a : Codec A) (ta : Telling a) (before : Option A) (n : ℕ) (site : Site) (bytes : List ℕ) → Tells (read_listed test a before n site bytes)
unfolding read_listed
tells_listed test a ta before zero site bytes = tt
tells_listed test a ta before (suc n) site bytes =
    tells_next (a.read site bytes) _ (ta.tells site bytes) (λ x. tells_choice (test before x.0) _ (Err (bad_switch site)) (tells_next (read_listed test a (Some x.0) n site x.1) _ (tells_listed test a ta (Some x.0) n site x.1) (λ y. tt)) tt)

telling_listed : {A : Type 0} (test : Option A → A → Bool) (a : Codec A) (n : ℕ) → Telling a → Telling (listed test a n)
telling_listed test a n ta = record { tells = tells_listed test a ta None n }

-- ---- the formats

telling_u1 : Telling u1
telling_u1 = telling_unsigned w8 (2 ^ 8) byte telling_byte

telling_s1 : Telling s1
telling_s1 = telling_signed w8 (2 ^ 7) byte telling_byte

telling_u2 : Telling u2
telling_u2 = telling_unsigned w16 (2 ^ 16) (number w16 (2 ^ 16)) (telling_number w16 (2 ^ 16))

telling_s2 : Telling s2
telling_s2 = telling_signed w16 (2 ^ 15) (number w16 (2 ^ 16)) (telling_number w16 (2 ^ 16))

telling_s4 : Telling s4
telling_s4 = telling_signed w32 (2 ^ 31) (number w32 (2 ^ 32)) (telling_number w32 (2 ^ 32))

telling_one : (a : Codec ℤ) → Telling a → Telling (one a)
telling_one a ta = telling_seen_as One first (λ ns. eqb (count ns) 1) a ta

telling_two : (a b : Codec ℤ) → Telling a → Telling b → Telling (two a b)
telling_two a b ta tb = telling_seen_as (λ x. Two x.0 x.1) (λ ns. (first ns, second ns)) (λ ns. eqb (count ns) 2) _ (telling_followed a (λ _. b) ta (λ _. tb))

telling_three : (a b c : Codec ℤ) → Telling a → Telling b → Telling c → Telling (three a b c)
telling_three a b c ta tb tc = telling_seen_as (λ x. Three x.0 x.1.0 x.1.1) (λ ns. (first ns, (second ns, third ns))) (λ ns. eqb (count ns) 3) _ (telling_followed a (λ _. followed b (λ _. c)) ta (λ _. telling_followed b (λ _. c) tb (λ _. tc)))

telling_numbers : (l : Layout) → Telling (numbers l)
telling_numbers Nothing = record { tells = λ site bytes. tt }
telling_numbers U1 = telling_one u1 telling_u1
telling_numbers S1 = telling_one s1 telling_s1
telling_numbers U2 = telling_one u2 telling_u2
telling_numbers S2 = telling_one s2 telling_s2
telling_numbers S4 = telling_one s4 telling_s4
telling_numbers U1S1 = telling_two u1 s1 telling_u1 telling_s1
telling_numbers U2S2 = telling_two u2 s2 telling_u2 telling_s2
telling_numbers U2U1 = telling_two u2 u1 telling_u2 telling_u1
telling_numbers U2U1U1 = telling_three u2 u1 u1 telling_u2 telling_u1 telling_u1

telling_ranged : Telling ranged
telling_ranged = telling_followed s4 _ telling_s4 (λ low. telling_followed (high_above low) _ (telling_checked _ s4 telling_s4) (λ high. telling_listed _ s4 (span low high) telling_s4))

telling_table : Telling table
telling_table = telling_seen_as _ (λ t. (t.default, (t.low, (t.high, t.jumps)))) always _ (telling_followed s4 (λ _. ranged) telling_s4 (λ _. telling_ranged))

telling_pair : Telling pair
telling_pair = telling_followed s4 (λ _. s4) telling_s4 (λ _. telling_s4)

telling_pairs : Telling pairs
telling_pairs = telling_seen_as _ (λ ps. (pos (length ps), ps)) always _ (telling_followed pair_count _ (telling_checked _ s4 telling_s4) (λ n. telling_listed rises pair (unsigned_abs n) telling_pair))

telling_lookup : Telling lookup
telling_lookup = telling_seen_as _ (λ t. (t.default, t.pairs)) always _ (telling_followed s4 (λ _. pairs) telling_s4 (λ _. telling_pairs))

telling_widened : (opcode : ℕ) (l : Option Layout) → Telling (widened opcode l)
telling_widened opcode None = record { tells = λ site bytes. tt }
telling_widened opcode (Some l) = telling_numbers l

telling_wide : Telling wide
telling_wide = telling_followed byte _ telling_byte (λ opcode. telling_widened opcode (wide_layout_at opcode))

telling_args : (at opcode : ℕ) (s : Option Shape) → Telling (args_of at opcode s)
telling_args at opcode None = record { tells = λ site bytes. tt }
telling_args at opcode (Some (shape.Plain l)) = telling_seen_as args.Plain numbers_of is_plain (numbers l) (telling_numbers l)
telling_args at opcode (Some shape.Table) = telling_seen_as args.Table table_of is_table _ (telling_padded (padding at) table telling_table)
telling_args at opcode (Some shape.Lookup) = telling_seen_as args.Lookup lookup_of is_lookup _ (telling_padded (padding at) lookup telling_lookup)
telling_args at opcode (Some shape.Wide) = telling_seen_as (λ x. args.Wide x.0 x.1) wide_of is_wide wide telling_wide

telling_instr : (at : ℕ) → Telling (instr at)
telling_instr at = telling_seen_as _ (λ i. (i.op, i.args)) always _ (telling_followed byte _ telling_byte (λ opcode. telling_args at opcode (shape_at opcode)))

tells_read : (end : ℕ) (bytes : List ℕ) → Tells (read_instr end bytes)
unfolding read_instr
tells_read end bytes = (telling_instr _).tells _ bytes

-- ---- code

-- no fault, or a fault of the bytes
abbrev IsTold : Option CodeFault → Type 0
IsTold None = Unit {0}
IsTold (Some fault) = Tells {A = ℕ} (Err fault)

told_after : (go : List ℕ → Decoded) (r : Result (Instr × List ℕ) CodeFault) → Tells r → ((more : List ℕ) → IsTold (go more).fault) → IsTold (after_instr go r).fault
told_after go (Ok x) h each = each x.1
told_after go (Err (BadOpcode at b)) h each = tt
told_after go (Err (BadSwitch at)) h each = tt
told_after go (Err (Cut at)) h each = tt
told_after go (Err NoMemory) h each = h

told_from : (n end : ℕ) (bytes : List ℕ) → IsTold (decoded_from n end bytes).fault
unfolding decoded_from
told_from zero end bytes = tt
told_from (suc n) end [] = tt
told_from (suc n) end (b ∷ bs) = told_after (decoded_from n end) (read_instr end (b ∷ bs)) (tells_read end (b ∷ bs)) (λ more. told_from n end more)

-- a fault that is decoded is one of the bytes
pub fault_is_told : (bytes : List ℕ) → (decoded bytes).fault ≡ Some NoMemory → ⊥
unfolding decoded
fault_is_told bytes e = subst IsTold e (told_from (length bytes) (length bytes) bytes)
