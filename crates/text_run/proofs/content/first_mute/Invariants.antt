-- None of the texts so far lacks an entry.
use Rattle.std.proofs.Common.{◌≡◌, drop}
use Rattle.std.specs.List.{find}
use Rattle.text_run.specs.Content.{is_mute}
use Rattle.text_run.proofs.content.first_mute.Given as goal

abbrev pub invariant-loop-text : goal.invariant-loop-text
invariant-loop-text l = find is_mute l.texts ≡ find is_mute (drop l.text-index l.texts)
