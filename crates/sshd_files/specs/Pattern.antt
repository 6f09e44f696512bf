-- The words of `authorizedkeysfile`, and the path of a user that a word stands for.
use Rattle.std.specs.Prelude.{◌≡◌, ℕ, Bool, true, false, not, ◌==◌, ◌&&◌, ◌||◌, List, [], ◌∷◌}
use Rattle.std.specs.Prelude.{◌++◌}
use Rattle.std.specs.Prelude.{length, nat_lt, filter, Option, Some, None, is_some}
use Rattle.std.specs.Prelude.{if◌then◌else◌}
use Rattle.std.specs.Fmt.{decimal}
use Rattle.std.specs.List.{slice_split}
use Rattle.ssh_wire.specs.Ascii.{slash}
use Rattle.sshd_files.specs.declared.pattern.Token.{Token}
use Rattle.sshd_files.specs.declared.pattern.Token.TheVariants.{Home, Name, Number, Percent}
use Rattle.sshd_files.specs.Users.{Account}
use Rattle.sshd_files.specs.Words.{is_none_word, is_space}

abbrev pub percent : ℕ
percent = 37

-- the token of a letter behind a percent sign: `h`, `u`, `U` or a second percent sign
unfoldable pub token_of : ℕ → Option Token
token_of letter =
    if letter == 104 then Some Home else if letter == 117 then Some Name
    else if letter == 85 then Some Number else if letter == percent then Some Percent else None

-- what a token stands for
abbrev pub token_text : Account → Token → List ℕ
token_text user Home = user.home
token_text user Name = user.name
token_text user Number = decimal user.number
token_text user Percent = percent ∷ []

-- A word stands for a text: each token stands for its text, and any other byte for itself.
pub data Expands (user : Account) : List ℕ → List ℕ → Type 0 where
  expands_nothing : Expands user [] []
  expands_itself : (byte : ℕ) (word text : List ℕ) → (byte == percent) ≡ false
      → Expands user word text → Expands user (byte ∷ word) (byte ∷ text)
  expands_token : (letter : ℕ) (token : Token) (word text : List ℕ)
      → token_of letter ≡ Some token → Expands user word text
      → Expands user (percent ∷ letter ∷ word) (token_text user token ++ text)

-- whether a byte begins a token: a percent sign that is not itself the letter of one
abbrev pub begins_token : (behind : Bool) → (byte : ℕ) → Bool
begins_token behind byte = not behind && (byte == percent)

-- Each token of a word is known, and none is cut. The first byte is the letter of a token if
-- `behind` is true.
unfoldable pub is_pattern : (behind : Bool) → List ℕ → Bool
is_pattern behind [] = not behind
is_pattern behind (byte ∷ rest) =
    (not behind || is_some (token_of byte)) && is_pattern (begins_token behind byte) rest

abbrev pub is_unknown : List ℕ → Bool
is_unknown word = not (is_pattern false word)

-- the text of the token of a letter
abbrev pub known_text : Account → Option Token → List ℕ
known_text user None = []
known_text user (Some token) = token_text user token

-- the text that a byte of a word stands for
unfoldable pub byte_text : Account → (behind : Bool) → (byte : ℕ) → List ℕ
byte_text user true byte = known_text user (token_of byte)
byte_text user false byte = if byte == percent then [] else byte ∷ []

-- the text that a word stands for
unfoldable pub expansion : Account → (behind : Bool) → List ℕ → List ℕ
expansion user behind [] = []
expansion user behind (byte ∷ rest) =
    byte_text user behind byte ++ expansion user (begins_token behind byte) rest

-- a path that does not begin with a slash is one of the home directory
abbrev pub path_in : (home : List ℕ) → List ℕ → List ℕ
path_in home [] = home ++ (slash ∷ [])
path_in home (byte ∷ path) =
    if byte == slash then byte ∷ path else home ++ (slash ∷ byte ∷ path)

-- the path of a user that a word stands for
unfoldable pub path_of : Account → (word : List ℕ) → List ℕ
path_of user word = path_in user.home (expansion user false word)

abbrev pub words_of : List ℕ → List (List ℕ)
words_of files = slice_split is_space files

-- the word is not empty, and is not `none`
abbrev pub names_file : List ℕ → Bool
names_file word = nat_lt 0 (length word) && not (is_none_word word)

-- the words that stand for paths
unfoldable pub patterns_of : List ℕ → List (List ℕ)
patterns_of files = filter names_file (words_of files)
