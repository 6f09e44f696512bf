-- Text that a line gives as a key ID (krl(1), THE TEXT OF A LIST).
use Rattle.std.specs.Prelude.{ℕ, Bool, false, ◌-◌, ◌==◌, ◌&&◌, ◌||◌, not, nat_eq, nat_lt, List}
use Rattle.std.specs.Prelude.{[], ◌∷◌, length, slice_index, codes, Option, Some, None, take}
use Rattle.std.specs.Prelude.{if◌then◌else◌}
use Rattle.std.specs.List.{ends_with, list_any, position_or_len, starts_with}
use Rattle.ssh_wire.specs.Ascii.{comma, delete, space}
use Rattle.key_text.specs.Blanks.{is_blank}
use Rattle.krl_spec.specs.Blanks.{is_hash}
use Rattle.text_entries.specs.Day.{says_until}
use Rattle.text_entries.specs.Values.{begins_with_key, has_blank}
use Rattle.text_entries.specs.declared.text_cause.TextCause.{TextCause}
use Rattle.text_entries.specs.declared.text_cause.TextCause.TheVariants as causes

-- A `#` in the line, and no blank before it: what is before it would be taken for the whole key ID.
unfoldable pub is_cut : List ℕ → Bool
is_cut line =
    nat_lt (position_or_len is_hash line) (length line)
    && not (nat_lt 0 (position_or_len is_hash line)
    && is_blank (slice_index line (position_or_len is_hash line - 1)))

-- The text begins as a key line does: with the type name of a key and a blank. Each type name has
-- fewer than 64 bytes.
abbrev pub looks_like_key : List ℕ → Bool
looks_like_key text = has_blank (take 64 text) && begins_with_key text

-- the control characters of ASCII
abbrev pub is_control : ℕ → Bool
is_control byte = nat_lt byte space || byte == delete

abbrev pub has_control : List ℕ → Bool
has_control text = list_any is_control text

abbrev pub is_between : (mark : List ℕ) → List ℕ → Bool
is_between mark id =
    nat_lt 1 (length id) && (starts_with nat_eq id mark && ends_with nat_eq id mark)

-- It begins and ends with the same quote.
abbrev pub is_quoted : List ℕ → Bool
is_quoted id = is_between (codes "\"") id || is_between (codes "'") id

-- A comma and a blank look as if two key IDs were meant.
unfoldable pub looks_like_several : List ℕ → Bool
looks_like_several [] = false
looks_like_several (byte ∷ bytes) =
    byte == comma && starts_with nat_eq bytes (codes " ") || looks_like_several bytes

-- why text is not taken for a key ID: it looks like something else
abbrev pub no_id : List ℕ → Option TextCause
no_id text =
    if looks_like_key text then Some causes.KeyAsId
    else if is_quoted text then Some causes.QuotedId
    else if looks_like_several text then Some causes.SeveralIds
    else if says_until text then Some causes.DateInId
    else None
