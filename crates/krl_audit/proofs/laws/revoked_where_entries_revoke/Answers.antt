-- There is a reason exactly if the entries revoke the key.
use Rattle.krl_audit.proofs.RevokedKeys.{found_fine, found_revoked}
use Rattle.krl_audit.proofs.laws.revoked_where_entries_revoke.Goals as goal

pub returns-clause-revoked : goal.returns-clause-revoked
returns-clause-revoked c = found_revoked

pub returns-clause-fine : goal.returns-clause-fine
returns-clause-fine c = found_fine
