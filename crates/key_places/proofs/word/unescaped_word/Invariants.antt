use Rattle.std.proofs.Common.{◌≡◌, ◌++◌, false, drop}
use Rattle.key_places.specs.Word.{word_at}
use Rattle.key_places.proofs.word.unescaped_word.Given as goal

-- the word of the rest follows the bytes so far
abbrev pub invariant-bytes : goal.invariant-bytes
invariant-bytes l = l.word.items ++ word_at l.escaped (drop l.byte-index l.text) ≡ word_at false l.text
