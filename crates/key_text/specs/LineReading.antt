-- Reading a key line from left to right, and its first fault.
use Rattle.std.specs.Prelude.{◌≡◌, ◌≢◌, ℕ, Bool, false, not, ◌==◌, ◌&&◌, List, [], ◌∷◌, drop}
use Rattle.std.specs.Prelude.{Option, Some, None, Result, Ok, Err, if◌then◌else◌}
use Rattle.std.specs.List.{prefix_len}
use Rattle.std.specs.Str.{bytes_eq}
use Rattle.base64.specs.Engines.{standard}
use Rattle.base64.specs.GeneralPurpose.{decode_of}
use Rattle.base64.specs.declared.decode.DecodeError.{DecodeError}
use Rattle.ssh_wire.specs.Ascii.{backslash, quote}
use Rattle.ssh_wire.specs.Reading.{in_fault, string_at}
use Rattle.ssh_wire.specs.declared.fault.WireFault.{WireFault}
use Rattle.key_text.specs.declared.line.Line.{Line}
use Rattle.key_text.specs.declared.line_fault.LineFault.{LineFault}
use Rattle.key_text.specs.declared.line_fault.LineFault.TheVariants.{NoKey, Base64, WordDiffers}
use Rattle.key_text.specs.declared.line_fault.LineFault.TheVariants.{NoMemory}
use Rattle.key_text.specs.TypeName.{is_type_name}
use Rattle.key_text.specs.Blanks.{is_blank, after_blanks, first_word, trimmed}

-- the contents of a line
pub record KeyLine : Type 0 where
  pub word : List ℕ
  pub blob : List ℕ
  pub comment : List ℕ

abbrev pub content : List ℕ → List ℕ → List ℕ → KeyLine
content word blob comment = record { word = word; blob = blob; comment = comment }

abbrev pub content_of : Line → KeyLine
content_of line = content line.word.now line.blob line.comment.now

-- A fault is the one that reading gives, or `NoMemory`. If there is no key, nothing was allocated.
abbrev pub ReportsFault : {Y : Type 0} → LineFault → Result Y LineFault → Type 0
ReportsFault NoMemory read = read ≢ Err NoKey
ReportsFault NoKey read = read ≡ Err NoKey
ReportsFault Base64 read = read ≡ Err Base64
ReportsFault WordDiffers read = read ≡ Err WordDiffers

-- the rest after the first word
unfoldable pub after_word : List ℕ → List ℕ
after_word text = drop (prefix_len (λ byte. not (is_blank byte)) text) text

-- whether the position after a byte is between quotes: a quote after a backslash changes nothing
abbrev pub quoted_after : Bool → Bool → ℕ → Bool
quoted_after quoted escaped byte = if (byte == quote) && not escaped then not quoted else quoted

-- The rest after an options field. The position is between quotes or not, and after a backslash or
-- not.
unfoldable pub after_options : Bool → Bool → List ℕ → Option (List ℕ)
after_options quoted escaped [] = if quoted then None else Some []
after_options quoted escaped (byte ∷ rest) =
    if is_blank byte && not quoted then Some (byte ∷ rest)
    else after_options (quoted_after quoted escaped byte) (byte == backslash) rest

-- the line, if a type name is its first word
unfoldable pub typed : List ℕ → Option (List ℕ)
typed line = if is_type_name (first_word line) then Some line else None

abbrev pub part_after : Option (List ℕ) → Option (List ℕ)
part_after None = None
part_after (Some rest) = typed (after_blanks rest)

-- the line from its type word on
unfoldable pub key_part : List ℕ → Option (List ℕ)
key_part line =
    if is_type_name (first_word line) then Some line
    else part_after (after_options false false line)

-- the same after host names, which end at the first blank, also between quotes
unfoldable pub host_part : List ℕ → Option (List ℕ)
host_part line =
    if is_type_name (first_word line) then Some line else typed (after_blanks (after_word line))

abbrev pub no_base64 : DecodeError → LineFault
no_base64 error = Base64

unfoldable pub decoded : List ℕ → Result (List ℕ) LineFault
decoded text = in_fault no_base64 (decode_of standard text)

-- the first string of the key is the word
abbrev pub is_string : List ℕ → Result (List ℕ × List ℕ) WireFault → Bool
is_string word (Err fault) = false
is_string word (Ok (first, rest)) = bytes_eq word first

unfoldable pub has_word : List ℕ → List ℕ → Bool
has_word word blob = is_string word (string_at blob)

abbrev pub checked : List ℕ → Result (List ℕ) LineFault → List ℕ → Result KeyLine LineFault
checked word (Err fault) comment = Err fault
checked word (Ok blob) comment =
    if has_word word blob then Ok (content word blob comment) else Err WordDiffers

-- the base64 word and the comment, after the type word
unfoldable pub blob_at : List ℕ → List ℕ → Result KeyLine LineFault
blob_at word [] = Err NoKey
blob_at word (byte ∷ bytes) =
    checked word (decoded (first_word (byte ∷ bytes))) (after_blanks (after_word (byte ∷ bytes)))

abbrev pub content_at : Option (List ℕ) → Result KeyLine LineFault
content_at None = Err NoKey
content_at (Some part) = blob_at (first_word part) (after_blanks (after_word part))

unfoldable pub line_at : List ℕ → Result KeyLine LineFault
line_at text = content_at (key_part (trimmed text))

-- the same of a line of known hosts
unfoldable pub host_line_at : List ℕ → Result KeyLine LineFault
host_line_at text = content_at (host_part (trimmed text))
