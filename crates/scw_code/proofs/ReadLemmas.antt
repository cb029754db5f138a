-- Reading values one after another, as a loop does.
use Rattle.std.proofs.Common.{◌≡◌, ℕ, zero, suc, ◌+◌, ◌-◌, ◌<◌, ◌≤◌, Bool, true, false, cond, Option, Some, List, [], ◌∷◌, ◌++◌, Result, Ok, Err, refl, sym, ap, ◌∙◌, append_assoc, arith}
use Rattle.std.proofs.lemmas.List.{append-nil}
use Rattle.std.proofs.lemmas.Bool.{eq-eqb, ne_eqb}
use Rattle.scw_code.specs.declared.fault.CodeFault.{CodeFault}
use Rattle.scw_code.specs.declared.fault.ReadFault.{ReadFault}
use Rattle.scw_code.specs.declared.fault.ReadFault.TheVariants.{Broken, NoMemory}
use Rattle.scw_code.specs.declared.site.Site.{Site}
use Rattle.scw_code.specs.Codec.{Codec, ◌>>=◌, cut, bad_switch, read_byte, read_zeros, read_listed}
use Rattle.scw_code.specs.Gives.{Fails}
use Rattle.scw_code.proofs.CodecLemmas.{ok_parts}

-- what was read before, and what is still read
abbrev pub joined : {A : Type 0} → List A → Result (List A × List ℕ) CodeFault → Result (List A × List ℕ) CodeFault
joined front read = read >>= λ x. Ok (front ++ x.0, x.1)

regroup : {A : Type 0} (front : List A) (x : A) (read : Result (List A × List ℕ) CodeFault) → joined front (read >>= λ y. Ok (x ∷ y.0, y.1)) ≡ joined (front ++ x ∷ []) read
regroup {A} front x (Ok y) = ap (λ (xs : List A). Ok (xs, y.1)) (simp append_assoc)
regroup front x (Err f) = refl

-- a fault of one value is the fault of all
all_fails : {A : Type 0} (e : ReadFault) (front : List A) (rest : A × List ℕ → Result (List A × List ℕ) CodeFault) (one : Result (A × List ℕ) CodeFault) → Fails e one → Fails e (joined front (one >>= rest))
all_fails (Broken f) front rest one h = rw h refl
all_fails NoMemory front rest one h = tt

module _ {A : Type 0} (test : Option A → A → Bool) (a : Codec A) (site : Site) (front : List A) (before : Option A) (count i : ℕ) (bytes : List ℕ) (total : Result (List A × List ℕ) CodeFault) where
  -- one value more of so many
  pub goes_on : (x : A) (more : List ℕ) → i < count → a.read site bytes ≡ Ok (x, more) → test before x ≡ true
      → joined front (read_listed test a before (count - i) site bytes) ≡ total → joined (front ++ x ∷ []) (read_listed test a (Some x) (count - (i + 1)) site more) ≡ total
  unfolding read_listed
  goes_on x more lt h t so_far =
      let k : count - i ≡ suc (count - (i + 1)) = omega arith in
      let one : joined front (read_listed test a before (count - i) site bytes) ≡ joined (front ++ x ∷ []) (read_listed test a (Some x) (count - (i + 1)) site more) = rw (k, h, t) (regroup front x (read_listed test a (Some x) (count - (i + 1)) site more)) in
      sym one ∙ so_far

  -- a value that isn't read
  pub ends : (e : ReadFault) → i < count → Fails e (a.read site bytes) → joined front (read_listed test a before (count - i) site bytes) ≡ total → Fails e total
  unfolding read_listed
  ends e lt h so_far =
      let k : count - i ≡ suc (count - (i + 1)) = omega arith in
      rw (sym so_far, k) (all_fails e front (λ x. cond (test before x.0) (read_listed test a (Some x.0) (count - (i + 1)) site x.1 >>= λ xs. Ok (x.0 ∷ xs.0, xs.1)) (Err (bad_switch site))) (a.read site bytes) h)

  -- a value that doesn't pass the test
  pub refused : (x : A) (more : List ℕ) → i < count → a.read site bytes ≡ Ok (x, more) → test before x ≡ false → joined front (read_listed test a before (count - i) site bytes) ≡ total → total ≡ Err (bad_switch site)
  unfolding read_listed
  refused x more lt h t so_far =
      let k : count - i ≡ suc (count - (i + 1)) = omega arith in
      let one : joined front (read_listed test a before (count - i) site bytes) ≡ Err (bad_switch site) = rw (k, h, t) refl in
      sym so_far ∙ one

  -- so many values are read
  pub is_done : count ≤ i → joined front (read_listed test a before (count - i) site bytes) ≡ total → total ≡ Ok (front, bytes)
  unfolding read_listed
  is_done le so_far =
      let k : count - i ≡ 0 = omega arith in
      let one : joined front (read_listed test a before (count - i) site bytes) ≡ Ok (front, bytes) = rw k (ap (λ (xs : List A). Ok (xs, bytes)) (append-nil front)) in
      sym so_far ∙ one

-- a test that each value passes doesn't look at the value before
pub before_any : {A : Type 0} (a : Codec A) (site : Site) (before other : Option A) (n : ℕ) (bytes : List ℕ) → read_listed (λ _ _. true) a before n site bytes ≡ read_listed (λ _ _. true) a other n site bytes
unfolding read_listed
before_any a site before other zero bytes = refl
before_any a site before other (suc n) bytes = refl

-- a fault doesn't depend on what would be read
fails_alike : (A B : Type 0) (e : ReadFault) (f : CodeFault) → Fails {Y = A} e (Err f) → Fails {Y = B} e (Err f)
fails_alike A B (Broken g) f h =
    let of : Result A CodeFault → CodeFault = λ r. elim r [ Ok x ↦ f | Err k ↦ k ] in
    ap (λ (k : CodeFault). Err k) (ap of h)
fails_alike A B NoMemory f h = tt

-- a byte that is read is the first one
first_byte : (site : Site) (bytes : List ℕ) (b : ℕ) (more : List ℕ) → read_byte site bytes ≡ Ok (b, more) → bytes ≡ b ∷ more
first_byte site [] b more h = cc
first_byte site (c ∷ cs) b more h = let e = ok_parts c b cs more h in rw (e.0, e.1) refl

no_byte : (site : Site) (bytes : List ℕ) (e : ReadFault) (n : ℕ) → Fails e (read_byte site bytes) → Fails e (read_zeros site (suc n) bytes)
unfolding read_zeros
no_byte site [] e n h = fails_alike _ _ e (cut site) h
no_byte site (c ∷ cs) (Broken f) n h = cc
no_byte site (c ∷ cs) NoMemory n h = tt

module _ (site : Site) (count i : ℕ) (bytes : List ℕ) (total : Result (List ℕ) CodeFault) (so_far : read_zeros site (count - i) bytes ≡ total) where
  -- one zero more
  pub zero_more : (b : ℕ) (more : List ℕ) → i < count → read_byte site bytes ≡ Ok (b, more) → b ≡ 0 → read_zeros site (count - (i + 1)) more ≡ total
  unfolding read_zeros
  zero_more b more lt h e =
      let k : count - i ≡ suc (count - (i + 1)) = omega arith in
      let one : read_zeros site (count - i) bytes ≡ read_zeros site (count - (i + 1)) more = rw (k, first_byte site bytes b more h, eq-eqb b 0 e) refl in
      sym one ∙ so_far

  -- a byte that isn't zero
  pub not_zero : (b : ℕ) (more : List ℕ) → i < count → read_byte site bytes ≡ Ok (b, more) → (b ≡ 0 → ⊥) → total ≡ Err (bad_switch site)
  unfolding read_zeros
  not_zero b more lt h e =
      let k : count - i ≡ suc (count - (i + 1)) = omega arith in
      let one : read_zeros site (count - i) bytes ≡ Err (bad_switch site) = rw (k, first_byte site bytes b more h, ne_eqb b 0 e) refl in
      sym so_far ∙ one

  -- no byte is left
  pub no_zero : (e : ReadFault) → i < count → Fails e (read_byte site bytes) → Fails e total
  no_zero e lt h =
      let k : count - i ≡ suc (count - (i + 1)) = omega arith in
      rw (sym so_far, k) (no_byte site bytes e (count - (i + 1)) h)

  pub zeros_done : count ≤ i → total ≡ Ok bytes
  unfolding read_zeros
  zeros_done le =
      let k : count - i ≡ 0 = omega arith in
      let one : read_zeros site (count - i) bytes ≡ Ok bytes = rw k refl in
      sym so_far ∙ one
