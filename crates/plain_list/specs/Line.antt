-- The part of a line of a plain list that counts.
use Rattle.std.specs.Prelude.{ℕ, ◌==◌, Bool, true, false, not, List, [], ◌∷◌, length, Option, Some}
use Rattle.std.specs.Prelude.{None}
use Rattle.std.specs.List.{take_while}
use Rattle.ssh_wire.specs.Ascii.{number_sign}
use Rattle.key_text.specs.Blanks.{after_blanks, trimmed}
use Rattle.key_text.specs.LineReading.{key_part}

-- up to its first zero byte
unfoldable pub before_zero : List ℕ → List ℕ
before_zero line = take_while (λ byte. not (byte == 0)) line

-- and without the blanks at its start
abbrev pub content_of : List ℕ → List ℕ
content_of line = after_blanks (before_zero line)

-- The content is empty or a comment.
abbrev pub is_remark : List ℕ → Bool
is_remark [] = true
is_remark (byte ∷ bytes) = byte == number_sign

-- the part of a line from its type name on is the whole line
abbrev pub is_whole : List ℕ → Option (List ℕ) → Bool
is_whole line None = false
is_whole line (Some part) = length part == length line

-- Neither an options field nor a marker nor host names are before the key.
abbrev pub begins_with_key : List ℕ → Bool
begins_with_key content = is_whole (trimmed content) (key_part (trimmed content))
