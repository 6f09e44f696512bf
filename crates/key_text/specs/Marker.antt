-- The marker at the front of a known hosts line (sshd(8), SSH_KNOWN_HOSTS FILE FORMAT).
use Rattle.std.specs.Prelude.{◌≡◌, ℕ, List, ◌++◌, Option, Some, None, Result, if◌then◌else◌}
use Rattle.std.specs.Prelude.{codes, is_some}
use Rattle.std.specs.Str.{bytes_eq}
use Rattle.key_text.specs.declared.line_fault.LineFault.{LineFault}
use Rattle.key_text.specs.declared.marker.Marker.{Marker}
use Rattle.key_text.specs.declared.marker.Marker.TheVariants as markers
use Rattle.key_text.specs.Blanks.{AreBlanks, BeginsWithNoBlank, first_word, trimmed}
use Rattle.key_text.specs.KeyLine.{IsHostLine}
use Rattle.key_text.specs.LineReading.{KeyLine, after_word, host_line_at}

abbrev pub marker_in : (word : List ℕ) → Option Marker
marker_in word =
    if bytes_eq word (codes "@cert-authority") then Some markers.Authority
    else if bytes_eq word (codes "@revoked") then Some markers.Revoked else None

-- the marker of a line
unfoldable pub marker_of : List ℕ → Option Marker
marker_of text = marker_in (first_word (trimmed text))

-- the line without its marker
unfoldable pub unmarked : List ℕ → List ℕ
unmarked text = if is_some (marker_of text) then after_word (trimmed text) else text

-- the result of reading a line that has a marker, and so is of known hosts
abbrev pub marked_line_at : List ℕ → Result KeyLine LineFault
marked_line_at text = host_line_at (unmarked text)

abbrev pub marker_word : Marker → List ℕ
marker_word markers.Authority = codes "@cert-authority"
marker_word markers.Revoked = codes "@revoked"

-- A line with a marker: the marker's word, blanks and a line of known hosts.
pub record IsMarkedLine (text : List ℕ) (marker : Marker) (word blob comment : List ℕ)
    : Type 0 where
  pub blanks : List ℕ
  pub are_blanks : AreBlanks blanks
  pub part : List ℕ
  pub bare : BeginsWithNoBlank part
  pub is_line : IsHostLine part word blob comment
  pub spelled : trimmed text ≡ marker_word marker ++ (blanks ++ part)
