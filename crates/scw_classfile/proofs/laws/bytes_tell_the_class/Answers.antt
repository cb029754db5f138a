use Rattle.std.proofs.Common.{◌∙◌, ◌++◌, [], refl, sym, ap}
use Rattle.std.proofs.lemmas.List.{append-nil}
use Rattle.scw_classfile.specs.Format.{class}
use Rattle.scw_classfile.proofs.FormatLemmas.{lawful_class}
use Rattle.scw_classfile.proofs.ListLemmas.{spelled_alike}
use Rattle.scw_classfile.proofs.laws.bytes_tell_the_class.Goals as goal

pub returns-clause-some : goal.returns-clause-some
returns-clause-some c = λ k h. (h, refl)

pub returns-clause-alone : goal.returns-clause-alone
returns-clause-alone c = λ k d bytes hk hd. (spelled_alike class lawful_class k d [] hk.0 hd.0 (sym hd.1 ∙ hk.1 ∙ sym (append-nil (class.spell k)))).0

pub returns-clause-whole : goal.returns-clause-whole
returns-clause-whole c = λ k d bytes rest hk hd. (spelled_alike class lawful_class k d rest hk.0 hd.0 (sym hd.1 ∙ ap (λ l. l ++ rest) hk.1)).1
