-- The blob that a base64 word spells, or the start of one.
use Rattle.std.specs.Prelude.{◌≡◌, ◌≢◌, ℕ, Bool, false, ◌+◌, ◌*◌, ◌/◌, List, ◌++◌, length, take}
use Rattle.std.specs.Prelude.{Option, Some, None, Result, Ok, Err}
use Rattle.std.specs.Result.{result_ok}
use Rattle.ssh_wire.specs.Wire.{BeginsWith, IsBytes}
use Rattle.key_text.specs.KeyLine.{base64}
use Rattle.key_text.specs.LineReading.{decoded, has_word}
use Rattle.key_text.specs.declared.line_fault.LineFault.{LineFault}

-- The word begins with the base64 of bytes that begin with the string of the name.
pub record StartsBlob (word name : List ℕ) : Type 0 where
  pub start : List ℕ
  pub bytes : IsBytes start
  pub begins : BeginsWith start name
  pub rest : List ℕ
  pub spelled : word ≡ base64 start ++ rest

-- the bytes whose base64 is the word, or none if it is the base64 of no bytes
abbrev pub IsBlobOf : List ℕ → Option (List ℕ) → Type 0
IsBlobOf word None = (blob : List ℕ) → IsBytes blob → base64 blob ≢ word
IsBlobOf word (Some blob) = (base64 blob ≡ word) × IsBytes blob

-- how many symbols have the string of a name: four for each three bytes
abbrev pub start_size : List ℕ → ℕ
start_size name = 4 * ((length name + 6) / 3)

abbrev pub begins_as : List ℕ → Result (List ℕ) LineFault → Bool
begins_as name (Err fault) = false
begins_as name (Ok bytes) = has_word name bytes

-- whether the start of a word has the string of a name
unfoldable pub starts_blob : List ℕ → List ℕ → Bool
starts_blob name word = begins_as name (decoded (take (start_size name) word))

-- the bytes of a word
unfoldable pub blob_of : List ℕ → Option (List ℕ)
blob_of word = result_ok (decoded word)
