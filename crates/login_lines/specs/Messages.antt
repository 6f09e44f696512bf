-- Where the message of a line begins.
use Rattle.std.specs.Prelude.{ℕ, Bool, true, ◌-◌, ◌==◌, List, [], ◌∷◌, length, take, codes}
use Rattle.std.specs.Prelude.{Option, Some, None, is_some, unwrap_or, if◌then◌else◌}
use Rattle.std.specs.Option.{option_or}
use Rattle.login_lines.specs.declared.words.Class.TheVariants.{Digit}
use Rattle.login_lines.specs.Openings.{opening_at}
use Rattle.login_lines.specs.Words.{after, span_at, ◌>>=◌}

-- the text after a tag: the name of sshd's program, its number and a colon
unfoldable pub after_tag : List ℕ → Option (List ℕ)
after_tag text =
    option_or (after (codes "sshd[") text) (after (codes "sshd-session[") text) >>= λ numbered.
    (span_at Digit (codes "]: ") numbered >>= λ p. Some p.1)

abbrev pub tag_here : Bool → List ℕ → Option (List ℕ)
tag_here starts text = if starts then after_tag text else None

-- The text after the first tag that begins a word. The first byte begins one if `starts` is true.
unfoldable pub tagged_at : Bool → List ℕ → Option (List ℕ)
tagged_at starts [] = None
tagged_at starts (byte ∷ rest) =
    option_or (tag_here starts (byte ∷ rest)) (tagged_at (byte == 32) rest)

-- A line that begins as a login has no tag. Otherwise the message is behind the first tag, if there
-- is one.
unfoldable pub message_of : List ℕ → List ℕ
message_of line =
    if is_some (opening_at line) then line else unwrap_or (tagged_at true line) line

-- the text before the message
unfoldable pub prefix_of : List ℕ → List ℕ
prefix_of line = take (length line - length (message_of line)) line
