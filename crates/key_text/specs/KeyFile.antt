-- The lines of a key file that have a key.
use Rattle.std.specs.Prelude.{ℕ, ◌==◌, Bool, false, not, List, [], ◌∷◌}
use Rattle.ssh_wire.specs.Ascii.{number_sign}
use Rattle.key_text.specs.Blanks.{trimmed}

-- neither empty nor begun with #
abbrev pub is_no_comment : List ℕ → Bool
is_no_comment [] = false
is_no_comment (byte ∷ bytes) = not (byte == number_sign)

-- A line has a key if, without blanks at both ends and carriage returns at its end, it is
-- neither empty nor a comment.
unfoldable pub has_key : List ℕ → Bool
has_key line = is_no_comment (trimmed line)
