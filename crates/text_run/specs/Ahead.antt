-- A reader of which the first byte was looked at.
use Rattle.std.specs.Prelude.{ℕ, List, [], Option, Some, None}

-- the bytes in its buffer: none while a byte is ahead of them
abbrev pub buffered_after : (first : Option ℕ) → (buffered : List ℕ) → List ℕ
buffered_after None buffered = buffered
buffered_after (Some byte) buffered = []
