-- Lists of entries that a pool may have: each names what it must, and a number of 64 bits has a second place.
use Rattle.std.proofs.Common.{◌≡◌, ℕ, suc, ◌+◌, ◌≤◌, ◌^◌, Bool, true, false, not, ◌&&◌, ◌||◌, cond, eqb, List, [], ◌∷◌, ◌++◌, length, Option, Some, None, refl, arith}
use Rattle.std.specs.Prelude.{nat_le, nat_lt}
use Rattle.std.specs.List.{list_all}
use Rattle.std.proofs.lemmas.Bool.{and_parts, and_from, leb-true, lt-ltb, ne_eqb, not-true}
use Rattle.scw_text.specs.Modified.{modified, is_unit}
use Rattle.scw_classfile.specs.declared.pool_entry.EntryKind.{EntryKind}
use Rattle.scw_classfile.specs.declared.pool_entry.PoolEntry.{PoolEntry}
use Rattle.scw_classfile.specs.declared.pool_entry.PoolEntry.TheVariants.{Utf8, Integer, Float, Long, Double, Class, Str, MethodType, Fieldref, Methodref, InterfaceMethodref, NameAndType, InvokeDynamic, MethodHandle, Second}
use Rattle.scw_classfile.specs.Codec.{is_none, moved, sound_flagged}
use Rattle.scw_classfile.specs.Kinds.{kinds_of}
use Rattle.scw_classfile.specs.Pool.{entry_bytes, entry_counts, entry_flaw, entries_flaw, is_wide_entry, is_second, place_counts, place, takes_two, entries, pool}
use Rattle.scw_gen.proofs.NoFlaw.{no_first, none_moved}
use Rattle.scw_gen.specs.Excess.{or_else, above, entry_excess, text_excess}
use Rattle.scw_gen.specs.Pool.{fits}
use Rattle.scw_gen.specs.declared.excess.Excess.{Excess}
use Rattle.scw_gen.specs.declared.excess.TheConstants.{MAX_SHORT}
use Rattle.scw_gen.specs.declared.fault.LargeKind.{LargeKind}
use Rattle.scw_gen.specs.declared.fault.LargeKind.TheVariants as large

-- ---- limits

-- no excess: the number is within its limit
pub within : (kind : LargeKind) (limit number : ℕ) → above kind limit number ≡ None → number ≤ limit
within kind limit number h = by (nat_le number limit) refl h
  where
    by : (b : Bool) → nat_le number limit ≡ b → cond {A = Option Excess} b None (Some (record { kind = kind; number = number })) ≡ None → number ≤ limit
    by true t e = leb-true number limit t
    by false t e = absurd (cc)

pub neither : (a b : Option Excess) → or_else a b ≡ None → (a ≡ None) × (b ≡ None)
neither None b h = (refl, h)
neither (Some x) b h = absurd (cc)

-- ---- lists of entries

-- the entry has one place
abbrev pub is_single : PoolEntry → Bool
is_single e = not (is_second e) && not (is_wide_entry e)

-- how large its numbers are is judged otherwise: a text, or a number of 32 bits
abbrev pub is_judged : PoolEntry → Bool
is_judged (Utf8 us) = true
is_judged (Integer n) = true
is_judged _ = false

-- its indices name what they must, and have 16 bits
pub record Whole (kinds : List EntryKind) (e : PoolEntry) : Type 0 where
  pub single : is_single e ≡ true
  pub flawless : is_none (entry_flaw 52 kinds e) ≡ true
  pub counts : (is_judged e || entry_counts e) ≡ true

pub data Laid (kinds : List EntryKind) : List PoolEntry → Type 0 where
  nothing : Laid kinds []
  single : (e : PoolEntry) (es : List PoolEntry) → Whole kinds e → Laid kinds es → Laid kinds (e ∷ es)
  double : (n : ℕ) (es : List PoolEntry) → Laid kinds es → Laid kinds (Long n ∷ Second ∷ es)

pub laid-append : (kinds : List EntryKind) (a b : List PoolEntry) → Laid kinds a → Laid kinds b → Laid kinds (a ++ b)
laid-append kinds a b nothing k = k
laid-append kinds a b (single e es w h) k = single e (es ++ b) w (laid-append kinds es b h k)
laid-append kinds a b (double n es h) k = double n (es ++ b) (laid-append kinds es b h k)

-- ---- what the format asks of them

places_sound : (kinds : List EntryKind) (es : List PoolEntry) → Laid kinds es → sound_flagged place takes_two false es ≡ true
unfolding sound_flagged
places_sound kinds es nothing = refl
places_sound kinds es (single e rest w h) =
    let b = and_parts (not (is_second e)) (not (is_wide_entry e)) w.single in
    let one = not-true (is_second e) b.0 in
    let two = not-true (is_wide_entry e) b.1 in
    rw (one, two) (places_sound kinds rest h)
places_sound kinds es (double n rest h) =
    let ne : eqb (suc (length rest)) 0 ≡ false = ne_eqb (suc (length rest)) 0 (λ z. omega (arith, z)) in
    rw ne (places_sound kinds rest h)

no_flaw : (kinds : List EntryKind) (after : ℕ) (es : List PoolEntry) → Laid kinds es → is_none (entries_flaw 52 kinds after es) ≡ true
unfolding entries_flaw
no_flaw kinds after es nothing = refl
no_flaw kinds after es (single e rest w h) = no_first (moved after (entry_flaw 52 kinds e)) _ (none_moved after (entry_flaw 52 kinds e) w.flawless) (no_flaw kinds (after + length (entry_bytes e)) rest h)
no_flaw kinds after es (double n rest h) = no_flaw kinds (after + length (entry_bytes (Long n)) + length (entry_bytes Second)) rest h

place_fits : (e : PoolEntry) → (is_judged e || entry_counts e) ≡ true → fits e ≡ true → entry_excess e ≡ None → place_counts e ≡ true
place_fits (Utf8 us) w f x =
    let le = within large.Descriptor MAX_SHORT (length (modified us)) x in
    and_from (nat_lt (length (modified us)) (2 ^ 16)) (list_all is_unit us) (lt-ltb (length (modified us)) (2 ^ 16) (omega (arith, le))) f
place_fits (Integer n) w f x = f
place_fits (Float n) w f x = w
place_fits (Long n) w f x = w
place_fits (Double n) w f x = w
place_fits (Class n) w f x = w
place_fits (Str n) w f x = w
place_fits (MethodType n) w f x = w
place_fits (Fieldref c n) w f x = w
place_fits (Methodref c n) w f x = w
place_fits (InterfaceMethodref c n) w f x = w
place_fits (NameAndType n d) w f x = w
place_fits (InvokeDynamic b n) w f x = w
place_fits (MethodHandle k n) w f x = w
place_fits Second w f x = refl

places_count : (kinds : List EntryKind) (es : List PoolEntry) → Laid kinds es → list_all fits es ≡ true → text_excess es ≡ None → list_all place_counts es ≡ true
places_count kinds es nothing f x = refl
places_count kinds es (single e rest w h) f x =
    let a = and_parts (fits e) (list_all fits rest) f in
    let b = neither (entry_excess e) (text_excess rest) x in
    and_from (place_counts e) (list_all place_counts rest) (place_fits e w.counts a.0 b.0) (places_count kinds rest h a.1 b.1)
places_count kinds es (double n rest h) f x =
    let a = and_parts (fits (Long n)) (list_all fits (Second ∷ rest)) f in
    and_from (nat_lt n (2 ^ 64)) (list_all place_counts rest) a.0 (places_count kinds rest h a.1 x)

-- ---- the pool

count_fits : (n : ℕ) → n ≤ 65534 → (eqb (n + 1) 0 ≡ false) × (nat_lt (n + 1) (2 ^ 16) ≡ true)
count_fits n few = (ne_eqb (n + 1) 0 (λ z. omega (arith, z)), lt-ltb (n + 1) (2 ^ 16) (omega (arith, few)))

pub pool_counts : (p : List PoolEntry) → Laid (kinds_of p) p → length p ≤ 65534 → list_all fits p ≡ true → text_excess p ≡ None → (pool 52).counts p ≡ true
pool_counts p laid few f x =
    let c = count_fits (length p) few in
    and_from (nat_lt (length p + 1) (2 ^ 16)) (list_all place_counts p) c.1 (places_count (kinds_of p) p laid f x)

pub pool_sound : (p : List PoolEntry) → Laid (kinds_of p) p → length p ≤ 65534 → (pool 52).sound p ≡ true
pool_sound p laid few =
    let c = count_fits (length p) few in
    let places : entries.sound p ≡ true = (let a = c.0 in let b = places_sound (kinds_of p) p laid in rw (a, b) refl) in
    and_from (entries.sound p) (is_none (entries_flaw 52 (kinds_of p) 2 p)) places (no_flaw (kinds_of p) 2 p laid)
