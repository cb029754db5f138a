-- The locals of a block: their symbols rise, all are bound before its statements, and each is set by its definition.
use Rattle.std.proofs.Common.{◌≡◌, refl, ◌∙◌, ℕ, suc, ◌<◌, ◌≤◌, false, List, [], ◌∷◌, ◌++◌, map, Some, None, arith}
use Rattle.std.proofs.lemmas.Bool.{ne_eqb}
use Rattle.scw_core.specs.Types.{same_symbol}
use Rattle.scw_core.specs.declared.tree.Local.{Local}
use Rattle.scw_text.specs.declared.number.SymId.{SymId}
use Rattle.scw_reader.specs.declared.tree.TypeName.{TypeName}
use Rattle.scw_gen.specs.Typed.{Known, bound, known}
use Rattle.scw_small.specs.Symbol.{kind_id}
use Rattle.scw_built.proofs.Setting.{Setting, around, kind_for, told, same-symbol}
use Rattle.scw_built.proofs.Marks.{BoundAs, Free, Marks, free-part}

-- a local that is defined
pub record Def : Type 0 where
  pub symbol : SymId
  pub kind : TypeName

abbrev pub local_for : Def → Local
local_for d = record { symbol = d.symbol; type_id = kind_id d.kind }

abbrev pub unset : Def → Known
unset d = record { symbol = d.symbol; kind = kind_for d.kind; is_set = false }

-- symbols of the range, each above the one before it
abbrev pub Rising : ℕ → ℕ → List Def → Type 0
Rising low high [] = low ≤ high
Rising low high (d ∷ ds) = (low ≤ d.symbol.0) × Rising (suc d.symbol.0) high ds

pub rising-le : (l h : ℕ) (ds : List Def) → Rising l h ds → l ≤ h
rising-le l h [] r = r
rising-le l h (d ∷ ds) r = let a = rising-le (suc d.symbol.0) h ds r.1 in let b = r.0 in omega arith

pub rising-weaker : (l l' h : ℕ) (ds : List Def) → l ≤ l' → Rising l' h ds → Rising l h ds
rising-weaker l l' h [] p r = let b : l' ≤ h = r in omega arith
rising-weaker l l' h (d ∷ ds) p r = let b = r.0 in (omega arith, r.1)

pub rising-then : (l m h : ℕ) (ds es : List Def) → Rising l m ds → Rising m h es → Rising l h (ds ++ es)
rising-then l m h [] es r q = rising-weaker l m h es r q
rising-then l m h (d ∷ ds) es r q = (r.0, rising-then (suc d.symbol.0) m h ds es r.1 q)

-- ---- the locals of the range that are bound are these

abbrev pub Awaits : ℕ → ℕ → List Def → List Known → Type 0
Awaits low high [] ys = Free low high ys
Awaits low high (d ∷ ds) ys = Free low d.symbol.0 ys × BoundAs ys d.symbol (kind_for d.kind) × Awaits (suc d.symbol.0) high ds ys

pub awaits-split : (l m h : ℕ) (ds es : List Def) (ys : List Known) → Rising l m ds → Rising m h es → Awaits l h (ds ++ es) ys → Awaits l m ds ys × Awaits m h es ys
awaits-split l m h [] [] ys r q a =
    let p : l ≤ m = r in let n : m ≤ h = q in (free-part l h l m ys a (omega arith) (omega arith), free-part l h m h ys a (omega arith) (omega arith))
awaits-split l m h [] (e ∷ es) ys r q a =
    let p : l ≤ m = r in let n : m ≤ e.symbol.0 = q.0 in
    (free-part l e.symbol.0 l m ys a.0 (omega arith) (omega arith), (free-part l e.symbol.0 m e.symbol.0 ys a.0 (omega arith) (omega arith), a.1, a.2))
awaits-split l m h (d ∷ ds) es ys r q a = let t = awaits-split (suc d.symbol.0) m h ds es ys r.1 q a.2 in ((a.0, a.1, t.0), t.1)

pub awaits-marked : (l h : ℕ) (ds : List Def) (ys zs : List Known) → Marks ys zs → Awaits l h ds ys → Awaits l h ds zs
awaits-marked l h [] ys zs m a = record { free = λ x p q. m.none x (a.free x p q) }
awaits-marked l h (d ∷ ds) ys zs m a =
    let f : Free l d.symbol.0 ys = a.0 in
    (record { free = λ x p q. m.none x (f.free x p q) }, m.bound d.symbol (kind_for d.kind) a.1, awaits-marked (suc d.symbol.0) h ds ys zs m a.2)

-- ---- locals that a block binds

-- the last one first
abbrev pub onto : List Def → List Known → List Known
onto [] ys = ys
onto (d ∷ ds) ys = onto ds (unset d ∷ ys)

-- another symbol isn't that of the first
skip : (d : Def) (ys : List Known) (x : SymId) → (d.symbol.0 ≡ x.0 → ⊥) → known (unset d ∷ ys) x ≡ known ys x
unfolding known
skip d ys x n = let e : same_symbol d.symbol x ≡ false = ne_eqb d.symbol.0 x.0 n in rw e refl

own : (d : Def) (ys : List Known) → known (unset d ∷ ys) d.symbol ≡ Some (unset d)
unfolding known
own d ys = rw (same-symbol d.symbol) refl

-- a symbol outside of the range stands for what it did
pub onto-other : (l h : ℕ) (ds : List Def) (ys : List Known) (x : SymId) → Rising l h ds → ((m : ℕ) → l ≤ m → m < h → m ≡ x.0 → ⊥) → known (onto ds ys) x ≡ known ys x
onto-other l h [] ys x r n = refl
onto-other l h (d ∷ ds) ys x r n =
    let p : l ≤ d.symbol.0 = r.0 in let q = rising-le (suc d.symbol.0) h ds r.1 in
    onto-other (suc d.symbol.0) h ds (unset d ∷ ys) x r.1 (λ m a b. n m (omega arith) b) ∙ skip d ys x (n d.symbol.0 p q)

pub onto-keeps : (l h : ℕ) (ds : List Def) (ys : List Known) (x : SymId) (y : Known) → Rising l h ds → Free l h ys → known ys x ≡ Some y → known (onto ds ys) x ≡ Some y
onto-keeps l h ds ys x y r f k = onto-other l h ds ys x r (λ m a b e. let n : known ys x ≡ None = f.free x (omega arith) (omega arith) in cc) ∙ k

after-free : (l h : ℕ) (d : Def) (ys : List Known) → l ≤ d.symbol.0 → Free l h ys → Free (suc d.symbol.0) h (unset d ∷ ys)
after-free l h d ys p f = record { free = λ x a b. skip d ys x (λ e. omega arith) ∙ f.free x (omega arith) b }

pub onto-awaits : (l h : ℕ) (ds : List Def) (ys : List Known) → Rising l h ds → Free l h ys → Awaits l h ds (onto ds ys)
onto-awaits l h [] ys r f = f
onto-awaits l h (d ∷ ds) ys r f =
    let p : l ≤ d.symbol.0 = r.0 in let q = rising-le (suc d.symbol.0) h ds r.1 in
    let zs : List Known = unset d ∷ ys in (
      record { free = λ x a b. onto-other (suc d.symbol.0) h ds zs x r.1 (λ m s t e. omega arith) ∙ (skip d ys x (λ e. omega arith) ∙ f.free x a (omega arith)) },
      record { local = unset d; there = onto-other (suc d.symbol.0) h ds zs d.symbol r.1 (λ m s t e. omega arith) ∙ own d ys; kind_is = refl },
      onto-awaits (suc d.symbol.0) h ds zs r.1 (after-free l h d ys p f),
    )

-- they are bound in a block
pub onto-bound : (c : Setting) (l h : ℕ) (ds : List Def) (ys : List Known) → Rising l h ds → Free l h ys → bound (around c) (map local_for ds) ys ≡ Some (onto ds ys)
unfolding bound
onto-bound c l h [] ys r f = refl
onto-bound c l h (d ∷ ds) ys r f =
    let p : l ≤ d.symbol.0 = r.0 in let q = rising-le (suc d.symbol.0) h ds r.1 in
    let n : known ys d.symbol ≡ None = f.free d.symbol p (omega arith) in
    rw (n, told c d.kind) (onto-bound c (suc d.symbol.0) h ds (unset d ∷ ys) r.1 (after-free l h d ys p f))
