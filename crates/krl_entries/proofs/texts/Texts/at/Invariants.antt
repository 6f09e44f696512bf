use Rattle.std.proofs.Common.{◌≡◌, ◌<◌, length, slice_get}
use Rattle.krl_entries.proofs.texts.Texts.at.Given as goal

abbrev pub invariant-loop-text : goal.invariant-loop-text
invariant-loop-text l = record {
  inside : l.left < length l.text-iterator;
  same : slice_get l.text-iterator l.left ≡ slice_get l.fn.self l.index;
}
