use Rattle.std.proofs.Common.{◌≡◌, false, drop}
use Rattle.key_text.specs.LineReading.{after_options}
use Rattle.key_text.proofs.line.options.after_options.Given as goal

-- the rest of the text gives the result
abbrev pub invariant-loop-i : goal.invariant-loop-i
invariant-loop-i l = after_options l.quoted l.escaped (drop l.i l.text) ≡ after_options false false l.text
