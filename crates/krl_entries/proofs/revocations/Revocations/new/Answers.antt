use Rattle.krl_entries.proofs.Common.{[], Means, Revocations, rules, subst, sym}
use Rattle.krl_entries.proofs.SameMeaning.{nothing_meant}
use Rattle.krl_entries.proofs.revocations.Revocations.new.Goals as goal

pub returns-clause-nothing : goal.returns-clause-nothing
returns-clause-nothing g c = search rules

pub returns-clause-means : goal.returns-clause-means
returns-clause-means g c = subst (λ (r : Revocations). Means r []) (sym (returns-clause-nothing g c)) nothing_meant
