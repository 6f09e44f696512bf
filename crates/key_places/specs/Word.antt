-- Base64 words in a line: the longest runs of symbols, also as JSON spells them.
use Rattle.std.specs.Prelude.{◌≡◌, ◌≢◌, ℕ, Bool, false, true, not, ◌==◌, ◌&&◌, ◌||◌, List, [], ◌∷◌}
use Rattle.std.specs.Prelude.{if◌then◌else◌}
use Rattle.std.specs.Char.{is_ascii_alphanumeric}
use Rattle.ssh_wire.specs.Ascii.{backslash, equals_sign, slash}

-- a symbol of base64 (RFC 4648 section 4), or its padding
abbrev pub is_symbol : ℕ → Bool
is_symbol byte =
    is_ascii_alphanumeric byte || ((byte == 43) || ((byte == slash) || (byte == equals_sign)))

-- The text spells the word: each symbol as itself, or a slash as `\/`.
pub data SpellsWord : List ℕ → List ℕ → Type 0 where
  word_end : SpellsWord [] []
  symbol : (byte : ℕ) (text word : List ℕ) → is_symbol byte ≡ true → SpellsWord text word
      → SpellsWord (byte ∷ text) (byte ∷ word)
  escaped_slash : (text word : List ℕ) → SpellsWord text word
      → SpellsWord (backslash ∷ slash ∷ text) (slash ∷ word)

abbrev pub IsNoSlash : ℕ → List ℕ → Type 0
IsNoSlash byte [] = Unit {0}
IsNoSlash byte (next ∷ rest) = byte ≡ backslash → next ≢ slash

-- the text after a word begins with no symbol, and not with `\/`
abbrev pub EndsWord : List ℕ → Type 0
EndsWord [] = Unit {0}
EndsWord (byte ∷ rest) = (is_symbol byte ≡ false) × IsNoSlash byte rest

-- whether a text begins with `\/`
abbrev pub begins_escaped : List ℕ → Bool
begins_escaped [] = false
begins_escaped (byte ∷ []) = false
begins_escaped (byte ∷ next ∷ rest) = (byte == backslash) && (next == slash)

-- whether a byte belongs to a word, after a backslash or not
abbrev pub belongs : Bool → ℕ → Bool
belongs escaped byte = if escaped then byte == slash else is_symbol byte

-- whether a byte is the backslash of an escape
abbrev pub begins_escape : Bool → ℕ → Bool
begins_escape escaped byte = (byte == backslash) && not escaped

-- The word at the start of a text. The position is after a backslash or not.
unfoldable pub word_at : Bool → List ℕ → List ℕ
word_at escaped [] = []
word_at escaped (byte ∷ rest) =
    if belongs escaped byte then byte ∷ word_at false rest
    else (if begins_escape escaped byte then word_at true rest else [])
