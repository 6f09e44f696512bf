-- Fewer numbers are left.
use Rattle.audit_run.proofs.files.Files.+free_from.Given as goal

abbrev pub decreases-free_from : goal.decreases-free_from
decreases-free_from l = l.left
