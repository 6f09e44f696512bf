-- A marked key counts as a key, and never as revoked.
use Rattle.list_conditions.proofs.Marked.{canary, distrusted, keep}
use Rattle.list_conditions.proofs.laws.marked_keys_count_as_keys.Goals as goal

pub returns : goal.returns
returns c = record { kind = distrusted; keep = keep; canary = canary }
