-- The key line of an authorized keys file (sshd(8), AUTHORIZED_KEYS FILE FORMAT), as a relation
-- between its text and the type word, the key's bytes and the comment.
use Rattle.std.specs.Prelude.{◌≡◌, ◌≢◌, ℕ, false, ◌⊎◌, List, [], ◌∷◌, ◌++◌, Contains}
use Rattle.base64.specs.Engines.{standard}
use Rattle.base64.specs.GeneralPurpose.{encode_of}
use Rattle.ssh_wire.specs.Ascii.{backslash, quote}
use Rattle.ssh_wire.specs.Wire.{BeginsWith, IsBytes}
use Rattle.key_text.specs.TypeName.{type_names}
use Rattle.key_text.specs.Blanks.{AreBlanks, BeginsWithNoBlank, IsWord, first_word, is_blank}
use Rattle.key_text.specs.Blanks.{trimmed}

-- A backslash before a quote always belongs to a pair of the two, so it is not a byte of its own.
abbrev pub IsNoPair : ℕ → List ℕ → Type 0
IsNoPair byte [] = Unit {0}
IsNoPair byte (next ∷ rest) = (byte ≡ backslash) → next ≢ quote

-- the text between two quotes: pairs of a backslash and a quote, and bytes that are not a quote
pub data Quoted : List ℕ → Type 0 where
  quoted_end : Quoted []
  quoted_pair : (rest : List ℕ) → Quoted rest → Quoted (backslash ∷ quote ∷ rest)
  quoted_byte : (byte : ℕ) (rest : List ℕ) → byte ≢ quote → IsNoPair byte (rest ++ quote ∷ [])
      → Quoted rest → Quoted (byte ∷ rest)

-- An options field is a row of pieces: a pair; another byte, neither a blank nor a quote; or a
-- quote, the text between two quotes, and a quote.
pub data Options : List ℕ → Type 0 where
  options_end : Options []
  options_pair : (rest : List ℕ) → Options rest → Options (backslash ∷ quote ∷ rest)
  options_byte : (byte : ℕ) (rest : List ℕ) → byte ≢ quote → is_blank byte ≡ false
      → IsNoPair byte rest → Options rest → Options (byte ∷ rest)
  options_quoted : (inner rest : List ℕ) → Quoted inner → Options rest
      → Options (quote ∷ (inner ++ quote ∷ rest))

-- the bytes in base64 (RFC 4648 section 4), with padding
unfoldable pub base64 : List ℕ → List ℕ
base64 bytes = encode_of standard bytes

-- nothing, or blanks and the comment, which begins with no blank
pub data Comment : List ℕ → List ℕ → Type 0 where
  no_comment : Comment [] []
  comment_after : (blanks comment : List ℕ) → AreBlanks blanks → BeginsWithNoBlank comment
      → Comment (blanks ++ comment) comment

-- A line from its type word on: a type name, blanks, the word that encodes the key, and the
-- comment.
pub record AreWords (line word encoded comment : List ℕ) : Type 0 where
  pub name : Contains type_names word
  pub blanks : List ℕ
  pub are_blanks : AreBlanks blanks
  pub is_word : IsWord encoded
  pub end : List ℕ
  pub ended : Comment end comment
  pub spelled : line ≡ word ++ (blanks ++ (encoded ++ end))

-- the same after an options field: the first word of the line is not a type name
pub record AreWordsAfterOptions (line word encoded comment : List ℕ) : Type 0 where
  pub other : ¬ Contains type_names (first_word line)
  pub options : List ℕ
  pub are_options : Options options
  pub blanks : List ℕ
  pub are_blanks : AreBlanks blanks
  pub part : List ℕ
  pub are_words : AreWords part word encoded comment
  pub spelled : line ≡ options ++ (blanks ++ part)

-- the type word of a text, the word after it and the comment
abbrev pub HasWords : List ℕ → List ℕ → List ℕ → List ℕ → Type 0
HasWords text word encoded comment =
    AreWords (trimmed text) word encoded comment
    ⊎ AreWordsAfterOptions (trimmed text) word encoded comment

-- The word after the type word is the base64 of the key. The key begins with the string of the
-- type word.
pub record IsKeyLine (text word blob comment : List ℕ) : Type 0 where
  pub words : HasWords text word (base64 blob) comment
  pub bytes : IsBytes blob
  pub begins : BeginsWith blob word

-- the same after host names, which end at the first blank, also between quotes
pub record AreWordsAfterHosts (line word encoded comment : List ℕ) : Type 0 where
  pub other : ¬ Contains type_names (first_word line)
  pub hosts : List ℕ
  pub is_word : IsWord hosts
  pub blanks : List ℕ
  pub are_blanks : AreBlanks blanks
  pub part : List ℕ
  pub are_words : AreWords part word encoded comment
  pub spelled : line ≡ hosts ++ (blanks ++ part)

-- a line of known hosts, without its marker (sshd(8), SSH_KNOWN_HOSTS FILE FORMAT)
pub record IsHostLine (text word blob comment : List ℕ) : Type 0 where
  pub words : AreWords (trimmed text) word (base64 blob) comment
      ⊎ AreWordsAfterHosts (trimmed text) word (base64 blob) comment
  pub bytes : IsBytes blob
  pub begins : BeginsWith blob word
