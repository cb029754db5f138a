use Rattle.scw_lex.proofs.OneLemmas.{one_answer, one_refusal, no_tokens}
use Rattle.scw_lex.proofs.laws.sources_are_decided.Goals as goal

pub returns-clause-one_list : goal.returns-clause-one_list
returns-clause-one_list c = one_answer

pub returns-clause-one_refusal : goal.returns-clause-one_refusal
returns-clause-one_refusal c = one_refusal

pub returns-clause-not_both : goal.returns-clause-not_both
returns-clause-not_both c = no_tokens
