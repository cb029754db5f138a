-- The first flaw of a pool's entries, entry by entry.
use Rattle.std.proofs.Common.{◌≡◌, ℕ, ◌+◌, ◌-◌, ◌<◌, ◌≤◌, List, [], ◌∷◌, ◌++◌, length, take, drop, get_or, Some, None, refl, sym, ap, ◌∙◌, length-append, append-nil, arith}
use Rattle.std.proofs.Math.ListN.{drop_of_length-le}
use Rattle.std.proofs.lemmas.List.{drop_more, take_more}
use Rattle.std.proofs.lemmas.List.Concat.{flat_map-append}
use Rattle.std.specs.List.{flat_map}
use Rattle.std.specs.Option.{option_map}
use Rattle.scw_classfile.specs.declared.fault.Flaw.{Flaw}
use Rattle.scw_classfile.specs.declared.pool_entry.EntryKind.{EntryKind}
use Rattle.scw_classfile.specs.declared.pool_entry.PoolEntry.{PoolEntry}
use Rattle.scw_classfile.specs.Codec.{fault_in}
use Rattle.scw_classfile.specs.Pool.{entry_bytes, entry_flaw, entries_flaw}

-- the entries before one more take its bytes more
size_more : (xs : List PoolEntry) (i : ℕ) (e : PoolEntry) → i < length xs → e ≡ get_or xs i e → length (flat_map entry_bytes (take (i + 1) xs)) ≡ length (flat_map entry_bytes (take i xs)) + length (entry_bytes e)
size_more xs i e lt is =
    let more : take (i + 1) xs ≡ take i xs ++ e ∷ [] = take_more xs i e lt ∙ ap (λ (x : PoolEntry). take i xs ++ x ∷ []) (sym is) in
    ap (λ (l : List PoolEntry). length (flat_map entry_bytes l)) more ∙ ap length (flat_map-append entry_bytes (take i xs) (e ∷ [])) ∙ length-append (flat_map entry_bytes (take i xs)) (entry_bytes e ++ []) ∙ ap (λ (l : List ℕ). length (flat_map entry_bytes (take i xs)) + length l) (append-nil (entry_bytes e))

module _ (major : ℕ) (kinds : List EntryKind) (xs : List PoolEntry) (i : ℕ) (e : PoolEntry) (lt : i < length xs) (is : e ≡ get_or xs i e) where
  next : drop i xs ≡ e ∷ drop (i + 1) xs
  next = drop_more xs i e lt ∙ ap (λ (x : PoolEntry). x ∷ drop (i + 1) xs) (sym is)

  -- an entry with a flaw
  pub flaw_here : (after left : ℕ) (flaw : Flaw) → entry_flaw major kinds e ≡ Some flaw → option_map (fault_in left) (entries_flaw major kinds after (drop i xs)) ≡ Some (fault_in (left - after) flaw)
  unfolding entries_flaw
  flaw_here after left flaw h =
      let one : entries_flaw major kinds after (drop i xs) ≡ Some (record { rule = flaw.rule; after = after + flaw.after }) = ap (entries_flaw major kinds after) next ∙ rw h refl in
      let place : left - (after + flaw.after) ≡ left - after - flaw.after = omega arith in
      rw one (ap (λ (n : ℕ). Some (record { rule = flaw.rule; left = n })) place)

  -- an entry without a flaw
  pub no_flaw_here : (after : ℕ) → entry_flaw major kinds e ≡ None → entries_flaw major kinds after (drop i xs) ≡ entries_flaw major kinds (after + length (entry_bytes e)) (drop (i + 1) xs)
  unfolding entries_flaw
  no_flaw_here after h = ap (entries_flaw major kinds after) next ∙ rw h refl

  -- the flaw is that of the entries after it, which stand after its bytes
  pub goes_past : entry_flaw major kinds e ≡ None → entries_flaw major kinds (2 + length (flat_map entry_bytes (take i xs))) (drop i xs) ≡ entries_flaw major kinds (2 + length (flat_map entry_bytes (take (i + 1) xs))) (drop (i + 1) xs)
  goes_past h =
      let at : 2 + length (flat_map entry_bytes (take i xs)) + length (entry_bytes e) ≡ 2 + length (flat_map entry_bytes (take (i + 1) xs)) = omega (arith, size_more xs i e lt is) in
      no_flaw_here (2 + length (flat_map entry_bytes (take i xs))) h ∙ ap (λ (n : ℕ). entries_flaw major kinds n (drop (i + 1) xs)) at

-- no entry is left
pub no_flaw_left : (major : ℕ) (kinds : List EntryKind) (after i : ℕ) (xs : List PoolEntry) → length xs ≤ i → entries_flaw major kinds after (drop i xs) ≡ None
unfolding entries_flaw
no_flaw_left major kinds after i xs le = ap (entries_flaw major kinds after) (drop_of_length-le xs le)
