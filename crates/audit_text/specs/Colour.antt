-- Words in colour, as terminals show them (ECMA-48, SELECT GRAPHIC RENDITION).
use Rattle.std.specs.Prelude.{◌≡◌, ℕ, ◌<◌, ◌^◌, ◌==◌, Bool, true, false, List, ◌∷◌, ◌++◌, codes}
use Rattle.std.specs.List.{list_any}
use Rattle.ssh_wire.specs.Ascii.{escape, left_bracket}
use Rattle.audit_lines.specs.declared.why.Why.{Why}
use Rattle.audit_lines.specs.declared.why.Why.TheVariants.{NoKeys}

-- the escape sequence that begins a colour, or ends all colours
abbrev pub rendition : List ℕ → List ℕ
rendition colour = escape ∷ left_bracket ∷ (colour ++ codes "m")

abbrev pub in_colour : (colour word : List ℕ) → List ℕ
in_colour colour word = rendition colour ++ (word ++ rendition (codes "0"))

-- a word, in a colour or not
unfoldable pub painted : Bool → (colour word : List ℕ) → List ℕ
painted true colour word = in_colour colour word
painted false colour word = word

-- the word of a finding, between colons
abbrev pub word_text : Bool → (colour word : List ℕ) → List ℕ
word_text coloured colour word = codes ": " ++ (painted coloured colour word ++ codes ": ")

-- whether a key is revoked, in red or in green
abbrev pub verdict_word : (coloured revoked : Bool) → List ℕ
verdict_word coloured true = word_text coloured (codes "31") (codes "revoked")
verdict_word coloured false = word_text coloured (codes "32") (codes "ok")

-- a line or file is not read, in yellow
abbrev pub unread_word : Bool → List ℕ
unread_word coloured = word_text coloured (codes "33") (codes "unread")

-- no byte begins an escape sequence
abbrev pub HasNoEscape : List ℕ → Type 0
HasNoEscape text = list_any (λ byte. byte == escape) text ≡ false

-- A line in colour is a plain line with one word in a colour. The plain line has no escape
-- sequence.
pub record IsPainted (plain coloured : List ℕ) : Type 0 where
  pub front : List ℕ
  pub colour : List ℕ
  pub word : List ℕ
  pub rest : List ℕ
  pub plain_is : plain ≡ front ++ (word ++ rest)
  pub coloured_is : coloured ≡ front ++ (in_colour colour word ++ rest)
  pub no_escape : HasNoEscape plain

-- the number of lines of a file fits in eight bytes
abbrev pub IsCount : Why → Type 0
IsCount (NoKeys lines) = lines < 2 ^ 64
IsCount _ = Unit {0}
