-- No last day begins before the rest.
use Rattle.std.proofs.Common.{◌≡◌, length}
use Rattle.text_entries.specs.Day.{says_until}
use Rattle.text_entries.proofs.day.says_until.Given as goal

abbrev pub invariant-words : goal.invariant-words
invariant-words l = says_until l.rest ≡ says_until l.fn.text

abbrev pub decreases-words : goal.decreases-words
decreases-words l = length l.rest
