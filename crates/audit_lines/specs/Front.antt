-- The field before the key of a line: host names, an options field, or nothing.
use Rattle.std.specs.Prelude.{ℕ, ◌-◌, ◌==◌, ◌||◌, Bool, true, false, not, List, codes, drop}
use Rattle.std.specs.Prelude.{length, nat_eq, take}
use Rattle.std.specs.List.{ends_with, suffix_len}
use Rattle.std.specs.Str.{bytes_eq}
use Rattle.ssh_wire.specs.Ascii.{slash}
use Rattle.key_text.specs.Blanks.{is_blank}
use Rattle.audit_lines.specs.declared.front.Fronts.{Fronts}
use Rattle.audit_lines.specs.declared.front.Fronts.TheVariants as fronts

-- ---- the field

-- without the blanks at its end
unfoldable pub before_blanks : List ℕ → List ℕ
before_blanks text = take (length text - suffix_len is_blank text) text

-- The field of a line before its part from the type name on, without the blanks between them. A
-- carriage return is a byte of the field.
unfoldable pub front_before : List ℕ → List ℕ → List ℕ
front_before line part = before_blanks (take (length line - length part) line)

-- ---- names of files

abbrev pub is_slash : ℕ → Bool
is_slash byte = byte == slash

abbrev pub is_no_slash : ℕ → Bool
is_no_slash byte = not (byte == slash)

-- up to its last slash
unfoldable pub to_slash : List ℕ → List ℕ
to_slash path = take (length path - suffix_len is_no_slash path) path

-- behind its last slash
unfoldable pub last_part : List ℕ → List ℕ
last_part path = drop (length path - suffix_len is_no_slash path) path

-- without the slashes at its end
unfoldable pub before_slashes : List ℕ → List ℕ
before_slashes path = take (length path - suffix_len is_slash path) path

-- Each file of a directory with this path is read, whatever its name.
unfoldable pub reads_every : List ℕ → Bool
reads_every path = bytes_eq (last_part (before_slashes path)) (codes "authorized_keys.d")

-- whether the lines of a file with this name are of known hosts
unfoldable pub is_known_hosts : List ℕ → Bool
is_known_hosts name =
    ends_with nat_eq name (codes "known_hosts")
    || (ends_with nat_eq name (codes "known_hosts2")
    || ends_with nat_eq name (codes "known_hosts.old"))

-- whether the lines of a file with this name are of authorized keys
unfoldable pub is_authorized_keys : List ℕ → Bool
is_authorized_keys name =
    bytes_eq (last_part name) (codes "authorized_keys")
    || (bytes_eq (last_part name) (codes "authorized_keys2")
    || reads_every (to_slash name))

-- whether ssh or sshd reads each line of a file with this name, whatever its first line is
unfoldable pub is_read_by_lines : List ℕ → Bool
is_read_by_lines name = is_known_hosts name || is_authorized_keys name

-- a name that tells both, or neither, leaves open what the field is
abbrev pub fronts_by : (hosts options : Bool) → Fronts
fronts_by true true = fronts.Either
fronts_by true false = fronts.Hosts
fronts_by false true = fronts.Options
fronts_by false false = fronts.Either

-- what the field before a key is, by the name of the file
unfoldable pub fronts_of : List ℕ → Fronts
fronts_of name = fronts_by (is_known_hosts name) (is_authorized_keys name)
