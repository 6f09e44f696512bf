use Rattle.std.proofs.Common.{◌≡◌, ◌+◌, ◌≤◌, length}
use Rattle.login_lines.specs.Words.{span_len}
use Rattle.login_lines.proofs.words.span_len.Given as goal

-- the bytes so far are of the class
abbrev pub invariant-bytes : goal.invariant-bytes
invariant-bytes l = record {
  span : span_len l.class l.text + length l.rest ≡ length l.text + span_len l.class l.rest;
  within : length l.rest ≤ length l.text;
}

abbrev pub decreases-bytes : goal.decreases-bytes
decreases-bytes l = length l.rest
