use Rattle.std.proofs.Common.{◌≡◌, ◌≤◌, true, length}
use Rattle.login_lines.specs.Messages.{tagged_at}
use Rattle.login_lines.proofs.message.after_first_tag.Given as goal

-- no tag so far
abbrev pub invariant-bytes : goal.invariant-bytes
invariant-bytes l = record {
  none : tagged_at true l.line ≡ tagged_at l.starts l.rest;
  within : length l.rest ≤ length l.line;
}

abbrev pub decreases-bytes : goal.decreases-bytes
decreases-bytes l = length l.rest
