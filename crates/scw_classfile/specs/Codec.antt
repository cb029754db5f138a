-- How a value is written as bytes, and how it is read from the front of bytes: big-endian numbers,
-- tables with a count and items with a length, as JVMS 4 introduces them.
use Rattle.std.specs.Prelude.{◌≡◌, ℕ, zero, suc, ◌+◌, ◌-◌, ◌^◌, Bool, true, false, ◌&&◌, List, [], ◌∷◌, ◌++◌, length, take, drop, Option, Some, None, Result, Ok, Err, nat_lt, ◌==◌, if◌then◌else◌}
use Rattle.std.specs.Int.{Width, w16, w32, w64, byte_len, to_be_bytes, from_be_bytes}
use Rattle.std.specs.List.{flat_map, list_all}
use Rattle.scw_classfile.specs.declared.class_rule.ClassRule.{ClassRule}
use Rattle.scw_classfile.specs.declared.class_rule.ClassRule.TheVariants as class_rule
use Rattle.scw_classfile.specs.declared.fault.Fault.{Fault}
use Rattle.scw_classfile.specs.declared.fault.Flaw.{Flaw}

-- the rule is broken where these bytes begin
abbrev pub here : ClassRule → List ℕ → Fault
here rule bytes = record { rule = rule; left = length bytes }

-- the bytes end too early
abbrev pub cut : Fault
cut = record { rule = class_rule.Cut; left = 0 }

-- the flaw of a part that begins with so many bytes left
abbrev pub fault_in : ℕ → Flaw → Fault
fault_in left flaw = record { rule = flaw.rule; left = left - flaw.after }

-- reading gives a value and the bytes after it
abbrev pub Read : Type 0 → Type 0
Read A = List ℕ → Result (A × List ℕ) Fault

infixl 10 ◌>>=◌
abbrev pub ◌>>=◌ : {A B : Type 0} → Result A Fault → (A → Result B Fault) → Result B Fault
(Ok x) >>= f = f x
(Err e) >>= f = Err e

-- a format: the bytes of each value, whether its numbers and counts fit their fields, whether its
-- content breaks no rule, and the reading
pub record Codec (A : Type 0) : Type 0 where
  pub spell : A → List ℕ
  pub counts : A → Bool
  pub sound : A → Bool
  pub read : Read A

-- the values that have bytes
abbrev pub Fits : {A : Type 0} → Codec A → A → Type 0
Fits c x = (c.counts x ≡ true) × (c.sound x ≡ true)

-- one byte
abbrev pub read_byte : Read ℕ
read_byte [] = Err cut
read_byte (b ∷ rest) = Ok (b, rest)

abbrev pub u1 : Codec ℕ
u1 = record { spell = λ n. n ∷ []; counts = λ n. nat_lt n 256; sound = λ _. true; read = read_byte }

-- a number of some bytes, the first one the highest
abbrev pub read_number : Width → Read ℕ
read_number w bytes = if nat_lt (length bytes) (byte_len w) then Err cut else Ok (from_be_bytes w (take (byte_len w) bytes), drop (byte_len w) bytes)

abbrev pub number : Width → ℕ → Codec ℕ
number w limit = record { spell = to_be_bytes w; counts = λ n. nat_lt n limit; sound = λ _. true; read = read_number w }

abbrev pub u2 : Codec ℕ
u2 = number w16 (2 ^ 16)

abbrev pub u4 : Codec ℕ
u4 = number w32 (2 ^ 32)

abbrev pub u8 : Codec ℕ
u8 = number w64 (2 ^ 64)

-- one after the other, where the second may depend on the first
abbrev pub followed : {A B : Type 0} → Codec A → (A → Codec B) → Codec (A × B)
followed a b = record {
  spell = λ x. a.spell x.0 ++ (b x.0).spell x.1;
  counts = λ x. a.counts x.0 && (b x.0).counts x.1;
  sound = λ x. a.sound x.0 && (b x.0).sound x.1;
  read = λ bytes. a.read bytes >>= λ x. (b x.0).read x.1 >>= λ y. Ok ((x.0, y.0), y.1);
}

-- the same bytes for another value, of which only some have bytes
abbrev pub seen_if : {A B : Type 0} → (B → Bool) → (A → B) → (B → A) → Codec A → Codec B
seen_if is to from a = record {
  spell = λ x. a.spell (from x);
  counts = λ x. is x && a.counts (from x);
  sound = λ x. a.sound (from x);
  read = λ bytes. a.read bytes >>= λ x. Ok (to x.0, x.1);
}

-- the same bytes for another value
abbrev pub seen_as : {A B : Type 0} → (A → B) → (B → A) → Codec A → Codec B
seen_as to from a = record {
  spell = λ x. a.spell (from x);
  counts = λ x. a.counts (from x);
  sound = λ x. a.sound (from x);
  read = λ bytes. a.read bytes >>= λ x. Ok (to x.0, x.1);
}

-- ---- rules on the content of a part, which is judged once it is whole

abbrev pub is_none : {A : Type 0} → Option A → Bool
is_none None = true
is_none (Some x) = false

-- the first of two flaws, in the order of their places
abbrev pub first_of_two : Option Flaw → Option Flaw → Option Flaw
first_of_two (Some flaw) later = Some flaw
first_of_two None later = later

-- where the test fails, the rule is broken so many bytes after the beginning
abbrev pub unless : Bool → ClassRule → ℕ → Option Flaw
unless true rule after = None
unless false rule after = Some (record { rule = rule; after = after })

-- the flaw, further back by so many bytes
abbrev pub moved : ℕ → Option Flaw → Option Flaw
moved by None = None
moved by (Some flaw) = Some (record { rule = flaw.rule; after = by + flaw.after })

abbrev pub or_flaw : {A : Type 0} → A × List ℕ → ℕ → Option Flaw → Result (A × List ℕ) Fault
or_flaw x left None = Ok x
or_flaw x left (Some flaw) = Err (fault_in left flaw)

abbrev pub judged : {A : Type 0} → (A → Option Flaw) → Codec A → Codec A
judged flaw a = record {
  spell = a.spell;
  counts = a.counts;
  sound = λ x. a.sound x && is_none (flaw x);
  read = λ bytes. a.read bytes >>= λ x. or_flaw x (length bytes) (flaw x.0);
}

-- ---- lists

-- n values one after another
unfoldable pub read_all : {A : Type 0} → Read A → ℕ → Read (List A)
read_all r zero bytes = Ok ([], bytes)
read_all r (suc n) bytes = r bytes >>= λ x. read_all r n x.1 >>= λ xs. Ok (x.0 ∷ xs.0, xs.1)

-- what was read before, and what is still read
abbrev pub with_front : {A : Type 0} → List A → Result (List A × List ℕ) Fault → Result (List A × List ℕ) Fault
with_front front read = read >>= λ x. Ok (front ++ x.0, x.1)

-- a count of two bytes, and that many values
abbrev pub counted : {A : Type 0} → Codec A → Codec (List A)
counted a = record {
  spell = λ xs. u2.spell (length xs) ++ flat_map a.spell xs;
  counts = λ xs. u2.counts (length xs) && list_all a.counts xs;
  sound = λ xs. list_all a.sound xs;
  read = λ bytes. u2.read bytes >>= λ n. read_all a.read n.0 n.1;
}

-- n values one after another, where what an item may be depends on those before it, told by a flag,
-- and on how many follow
module _ {A : Type 0} (item : Bool → ℕ → Codec A) (next : Bool → A → Bool) where
  unfoldable pub read_flagged : Bool → ℕ → Read (List A)
  read_flagged flag zero bytes = Ok ([], bytes)
  read_flagged flag (suc n) bytes = (item flag n).read bytes >>= λ x. read_flagged (next flag x.0) n x.1 >>= λ xs. Ok (x.0 ∷ xs.0, xs.1)

  unfoldable pub sound_flagged : Bool → List A → Bool
  sound_flagged flag [] = true
  sound_flagged flag (x ∷ xs) = (item flag (length xs)).sound x && sound_flagged (next flag x) xs

  -- a count, and that many values, whose bytes and numbers are the same whatever stands before them
  abbrev pub flagged : (A → List ℕ) → (A → Bool) → Codec ℕ → Codec (List A)
  flagged bytes_of counts_of count = record {
    spell = λ xs. count.spell (length xs) ++ flat_map bytes_of xs;
    counts = λ xs. count.counts (length xs) && list_all counts_of xs;
    sound = λ xs. count.sound (length xs) && sound_flagged false xs;
    read = λ bytes. count.read bytes >>= λ n. read_flagged false n.0 n.1;
  }

-- ---- parts with a length

-- the first n bytes, and those after them
abbrev pub read_bytes : ℕ → Read (List ℕ)
read_bytes n bytes = if nat_lt (length bytes) n then Err cut else Ok (take n bytes, drop n bytes)

-- what fills a part: its bytes, and what so many bytes are or the flaw in them
pub record Filling (A : Type 0) : Type 0 where
  pub bytes_of : A → List ℕ
  pub filling_counts : A → Bool
  pub filling_sound : A → Bool
  pub parse : List ℕ → Result A Flaw

abbrev pub parsed : {A : Type 0} → ℕ → List ℕ → Result A Flaw → Result (A × List ℕ) Fault
parsed left rest (Ok x) = Ok (x, rest)
parsed left rest (Err flaw) = Err (fault_in left flaw)

-- a length, and a value that fills so many bytes
abbrev pub filled : {A : Type 0} → Codec ℕ → Filling A → Codec A
filled count f = record {
  spell = λ x. count.spell (length (f.bytes_of x)) ++ f.bytes_of x;
  counts = λ x. count.counts (length (f.bytes_of x)) && f.filling_counts x;
  sound = λ x. count.sound (length (f.bytes_of x)) && f.filling_sound x;
  read = λ bytes. count.read bytes >>= λ n. read_bytes n.0 n.1 >>= λ x. parsed (length n.1) x.1 (f.parse x.0);
}

-- a length, and that many bytes
abbrev pub measured : Codec ℕ → Codec (List ℕ)
measured count = filled count (record { bytes_of = λ bs. bs; filling_counts = λ _. true; filling_sound = λ _. true; parse = λ bs. Ok bs })

-- the length that is stated is that of the form, where the file has all of it
abbrev pub stated : {A : Type 0} → ℕ → List ℕ → Option (List ℕ) → Result A Fault → Result A Fault
stated size bytes None contents = contents
stated size bytes (Some rest) contents = if length bytes - length rest == size then contents else Err (record { rule = class_rule.AttributeLength; left = length bytes + 4 })

-- a length of four bytes, and a value of a form whose end its own counts tell
abbrev pub sized : {A : Type 0} → (List ℕ → Option (List ℕ)) → Codec A → Codec A
sized form_end a = record {
  spell = λ x. u4.spell (length (a.spell x)) ++ a.spell x;
  counts = λ x. u4.counts (length (a.spell x)) && a.counts x;
  sound = a.sound;
  read = λ bytes. u4.read bytes >>= λ n. stated n.0 n.1 (form_end n.1) (a.read n.1);
}

-- nothing is left
abbrev pub whole : {A : Type 0} → Read A → List ℕ → Result A Fault
whole r bytes = r bytes >>= λ x. if length x.1 == 0 then Ok x.0 else Err (here class_rule.Trailing x.1)
