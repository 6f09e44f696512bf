-- The words that a line of the text of a list can begin with (krl(1), THE TEXT OF A LIST).
use Rattle.std.specs.Prelude.{ℕ, Bool, ◌+◌, nat_lt, if◌then◌else◌, List, [], ◌∷◌, length, drop}
use Rattle.std.specs.Prelude.{codes, Option, None, option_map}
use Rattle.std.specs.List.{before_first, find, position_or_len}
use Rattle.std.specs.Str.{str_eq_ignore_ascii_case}
use Rattle.key_text.specs.Blanks.{after_blanks}
use Rattle.krl_spec.specs.Directive.{is_colon, name_of as spec_name}
use Rattle.krl_spec.specs.declared.directive.Directive.TheVariants as directives
use Rattle.text_entries.specs.declared.word.Word.{Word}
use Rattle.text_entries.specs.declared.word.Word.TheVariants.{Authority, AuthorityBlob, Serial, Id}
use Rattle.text_entries.specs.declared.word.Word.TheVariants.{IdHex, Key, KeyBlob, Sha1, Sha256}
use Rattle.text_entries.specs.declared.word.Word.TheVariants.{Hash}

-- The name of a word, in lower case. Those of specification files are words of texts too.
abbrev pub name_of : Word → List ℕ
name_of Authority = codes "ca"
name_of AuthorityBlob = codes "ca-blob"
name_of Serial = spec_name directives.Serial
name_of Id = spec_name directives.Id
name_of IdHex = codes "id-hex"
name_of Key = spec_name directives.Key
name_of KeyBlob = codes "key-blob"
name_of Sha1 = spec_name directives.Sha1
name_of Sha256 = spec_name directives.Sha256
name_of Hash = spec_name directives.Hash

abbrev pub words : List Word
words =
    Serial ∷ Id ∷ Hash ∷ Key ∷ Authority ∷ AuthorityBlob ∷ IdHex ∷ KeyBlob ∷ Sha1 ∷ Sha256 ∷ []

-- the name is that of the word, in upper or lower case
abbrev pub is_named : Word → List ℕ → Bool
is_named word name = str_eq_ignore_ascii_case name (name_of word)

unfoldable pub word_named : List ℕ → Option Word
word_named name = find (λ word. is_named word name) words

-- a word and its value
pub record Order : Type 0 where
  pub word : Word
  pub given : List ℕ

abbrev pub order : List ℕ → Word → Order
order given word = record { word = word; given = given }

-- The word whose name is before the first colon, and its value: what is after the colon and blanks.
unfoldable pub order_in : List ℕ → Option Order
order_in line =
    if nat_lt (position_or_len is_colon line) (length line)
    then option_map (order (after_blanks (drop (position_or_len is_colon line + 1) line)))
    (word_named (before_first is_colon line))
    else None
