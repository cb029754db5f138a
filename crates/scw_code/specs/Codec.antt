-- How a value is written as bytes, and how it is read from the front of bytes: the numbers of JVMS 6.5,
-- which are big-endian, and the ways to join them.
use Rattle.std.specs.Prelude.{ℕ, zero, suc, ◌+◌, ◌-◌, ◌^◌, min, Bool, true, false, ◌&&◌, ℤ, pos, negsuc, Option, Some, None, List, [], ◌∷◌, ◌++◌, length, take, drop, replicate, Result, Ok, Err, nat_lt, ◌==◌, if◌then◌else◌}
use Rattle.std.specs.Int.{Width, w8, w16, w32, byte_len, to_be_bytes, from_be_bytes, cast_unsigned, cast_signed}
use Rattle.std.specs.List.{flat_map, list_all}
use Rattle.scw_code.specs.declared.fault.CodeFault.{CodeFault}
use Rattle.scw_code.specs.declared.fault.CodeFault.TheVariants.{BadOpcode, BadSwitch, Cut}
use Rattle.scw_code.specs.declared.site.Site.{Site}

-- ---- faults, by the instruction in which they are seen

-- a number of bytes, as a fault names it
abbrev pub place : ℕ → ℕ
place n = min n (2 ^ 32 - 1)

-- the code ends inside the instruction
abbrev pub cut : Site → CodeFault
cut site = Cut (place site.end)

-- the instruction is a switch that breaks a rule
abbrev pub bad_switch : Site → CodeFault
bad_switch site = BadSwitch (place site.at)

-- no instruction begins with the byte
abbrev pub bad_opcode : ℕ → Site → CodeFault
bad_opcode byte site = BadOpcode (place site.at) byte

-- `wide` doesn't go on with the byte
abbrev pub bad_widened : ℕ → Site → CodeFault
bad_widened byte site = BadOpcode (place (site.at + 1)) byte

-- ---- formats

-- reading gives a value and the bytes after it
abbrev pub Read : Type 0 → Type 0
Read A = Site → List ℕ → Result (A × List ℕ) CodeFault

infixl 10 ◌>>=◌
abbrev pub ◌>>=◌ : {A B : Type 0} → Result A CodeFault → (A → Result B CodeFault) → Result B CodeFault
(Ok x) >>= f = f x
(Err e) >>= f = Err e

-- a format: the bytes of each value, which values have bytes, and the reading
pub record Codec (A : Type 0) : Type 0 where
  pub spell : A → List ℕ
  pub fits : A → Bool
  pub read : Read A

-- ---- numbers

abbrev pub read_byte : Read ℕ
read_byte site [] = Err (cut site)
read_byte site (b ∷ rest) = Ok (b, rest)

-- one byte
abbrev pub byte : Codec ℕ
byte = record { spell = λ n. n ∷ []; fits = λ n. nat_lt n (2 ^ 8); read = read_byte }

-- a number of some bytes, the first one the highest
abbrev pub read_number : Width → Read ℕ
read_number w site bytes = if nat_lt (length bytes) (byte_len w) then Err (cut site) else Ok (from_be_bytes w (take (byte_len w) bytes), drop (byte_len w) bytes)

abbrev pub number : Width → ℕ → Codec ℕ
number w limit = record { spell = to_be_bytes w; fits = λ n. nat_lt n limit; read = read_number w }

-- from 0 and below the limit
abbrev pub is_below : ℕ → ℤ → Bool
is_below limit (pos n) = nat_lt n limit
is_below limit (negsuc n) = false

-- from minus the limit and below the limit
abbrev pub is_around : ℕ → ℤ → Bool
is_around limit (pos n) = nat_lt n limit
is_around limit (negsuc n) = nat_lt n limit

-- the bytes as a number that isn't negative
abbrev pub unsigned : Width → ℕ → Codec ℕ → Codec ℤ
unsigned w limit a = record {
  spell = λ z. a.spell (cast_unsigned w z);
  fits = is_below limit;
  read = λ site bytes. a.read site bytes >>= λ x. Ok (pos x.0, x.1);
}

-- the bytes in two's complement
abbrev pub signed : Width → ℕ → Codec ℕ → Codec ℤ
signed w limit a = record {
  spell = λ z. a.spell (cast_unsigned w z);
  fits = is_around limit;
  read = λ site bytes. a.read site bytes >>= λ x. Ok (cast_signed w x.0, x.1);
}

abbrev pub u1 : Codec ℤ
u1 = unsigned w8 (2 ^ 8) byte

abbrev pub s1 : Codec ℤ
s1 = signed w8 (2 ^ 7) byte

abbrev pub u2 : Codec ℤ
u2 = unsigned w16 (2 ^ 16) (number w16 (2 ^ 16))

abbrev pub s2 : Codec ℤ
s2 = signed w16 (2 ^ 15) (number w16 (2 ^ 16))

abbrev pub s4 : Codec ℤ
s4 = signed w32 (2 ^ 31) (number w32 (2 ^ 32))

-- ---- ways to join formats

-- a value without bytes
abbrev pub nothing : {A : Type 0} → A → (A → Bool) → Codec A
nothing x is = record { spell = λ _. []; fits = is; read = λ site bytes. Ok (x, bytes) }

-- no value
abbrev pub never : {A : Type 0} → (Site → CodeFault) → Codec A
never fault = record { spell = λ _. []; fits = λ _. false; read = λ site bytes. Err (fault site) }

-- one after the other, where the second may depend on the first
abbrev pub followed : {A B : Type 0} → Codec A → (A → Codec B) → Codec (A × B)
followed a b = record {
  spell = λ x. a.spell x.0 ++ (b x.0).spell x.1;
  fits = λ x. a.fits x.0 && (b x.0).fits x.1;
  read = λ site bytes. a.read site bytes >>= λ x. (b x.0).read site x.1 >>= λ y. Ok ((x.0, y.0), y.1);
}

-- the same bytes for another value, of which only some have bytes
abbrev pub seen_as : {A B : Type 0} → (A → B) → (B → A) → (B → Bool) → Codec A → Codec B
seen_as to from is a = record {
  spell = λ x. a.spell (from x);
  fits = λ x. is x && a.fits (from x);
  read = λ site bytes. a.read site bytes >>= λ x. Ok (to x.0, x.1);
}

-- only values that pass the test
abbrev pub checked : {A : Type 0} → (A → Bool) → (Site → CodeFault) → Codec A → Codec A
checked test fault a = record {
  spell = a.spell;
  fits = λ x. test x && a.fits x;
  read = λ site bytes. a.read site bytes >>= λ x. if test x.0 then Ok x else Err (fault site);
}

-- the bytes after n zeros
unfoldable pub read_zeros : Site → ℕ → List ℕ → Result (List ℕ) CodeFault
read_zeros site zero bytes = Ok bytes
read_zeros site (suc n) [] = Err (cut site)
read_zeros site (suc n) (b ∷ bs) = if b == 0 then read_zeros site n bs else Err (bad_switch site)

-- n zeros before the value
abbrev pub padded : {A : Type 0} → ℕ → Codec A → Codec A
padded n a = record {
  spell = λ x. replicate n 0 ++ a.spell x;
  fits = a.fits;
  read = λ site bytes. read_zeros site n bytes >>= λ rest. a.read site rest;
}

-- each value passes the test, which knows the value before it
abbrev pub pass : {A : Type 0} → (Option A → A → Bool) → Option A → List A → Bool
pass test before [] = true
pass test before (x ∷ xs) = test before x && pass test (Some x) xs

-- n values that pass the test
unfoldable pub read_listed : {A : Type 0} → (Option A → A → Bool) → Codec A → Option A → ℕ → Read (List A)
read_listed test a before zero site bytes = Ok ([], bytes)
read_listed test a before (suc n) site bytes = a.read site bytes >>= λ x.
    if test before x.0 then (read_listed test a (Some x.0) n site x.1 >>= λ xs. Ok (x.0 ∷ xs.0, xs.1)) else Err (bad_switch site)

abbrev pub listed : {A : Type 0} → (Option A → A → Bool) → Codec A → ℕ → Codec (List A)
listed test a n = record {
  spell = flat_map a.spell;
  fits = λ xs. length xs == n && (pass test None xs && list_all a.fits xs);
  read = read_listed test a None n;
}
