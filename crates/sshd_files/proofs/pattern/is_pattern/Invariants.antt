-- The tokens so far are known.
use Rattle.std.proofs.Common.{◌≡◌, false, length}
use Rattle.sshd_files.specs.Pattern.{is_pattern}
use Rattle.sshd_files.proofs.pattern.is_pattern.Given as goal

abbrev pub invariant-bytes : goal.invariant-bytes
invariant-bytes l = is_pattern false l.word ≡ is_pattern l.behind l.rest

abbrev pub decreases-bytes : goal.decreases-bytes
decreases-bytes l = length l.rest
