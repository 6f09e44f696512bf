-- Held byte strings, and those that an iterator over them has not returned yet.
use Rattle.std.specs.Prelude.{ℕ, List, map}
use Rattle.std.specs.Global.{Vec}
use Rattle.krl_entries.specs.declared.texts.Origin.{Origin}
use Rattle.krl_entries.specs.declared.texts.Origin.TheVariants.{Few, Many, Sha1s, Sha256s}

abbrev pub bytes_of : Vec ℕ → List ℕ
bytes_of text = text.items

abbrev pub texts_of : List (Vec ℕ) → List (List ℕ)
texts_of texts = map bytes_of texts

abbrev pub texts_left : Origin → List (List ℕ)
texts_left (Few texts) = texts_of texts.now
texts_left (Many iter) = texts_of iter
texts_left (Sha1s iter) = iter
texts_left (Sha256s iter) = iter
