-- Where parts have no flaw, the whole has none.
use Rattle.std.proofs.Common.{◌≡◌, ℕ, true, Option, Some, None, refl}
use Rattle.std.proofs.lemmas.Bool.{false≢true}
use Rattle.scw_classfile.specs.declared.fault.Flaw.{Flaw}
use Rattle.scw_classfile.specs.Codec.{first_of_two, is_none, moved}

pub no_first : (a b : Option Flaw) → is_none a ≡ true → is_none b ≡ true → is_none (first_of_two a b) ≡ true
no_first None b h k = k
no_first (Some f) b h k = absurd (false≢true h)

pub none_moved : (n : ℕ) (a : Option Flaw) → is_none a ≡ true → is_none (moved n a) ≡ true
none_moved n None h = refl
none_moved n (Some f) h = absurd (false≢true h)
