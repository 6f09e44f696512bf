-- The texts so far were read, and the others are left.
use Rattle.std.proofs.Common.{drop}
use Rattle.text_run.proofs.TextsAdded.{IsAt}
use Rattle.text_run.proofs.adding.add_texts.Given as goal

abbrev pub invariant-loop-text : goal.invariant-loop-text
invariant-loop-text g l = IsAt l.today l.texts (drop l.text-index l.texts) l.standing l.initial.revocations l.revocations
