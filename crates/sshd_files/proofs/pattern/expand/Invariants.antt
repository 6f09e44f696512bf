-- The text so far is that of the bytes so far.
use Rattle.std.proofs.Common.{◌≡◌, ◌++◌, false, length}
use Rattle.sshd_files.specs.Pattern.{expansion}
use Rattle.sshd_files.specs.Users.{account_of}
use Rattle.sshd_files.proofs.pattern.expand.Given as goal

abbrev pub invariant-bytes : goal.invariant-bytes
invariant-bytes l =
    expansion (account_of l.user) false l.word ≡ l.text.items ++ expansion (account_of l.user) l.behind l.rest

abbrev pub decreases-bytes : goal.decreases-bytes
decreases-bytes l = length l.rest
