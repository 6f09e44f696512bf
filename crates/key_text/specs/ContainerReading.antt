-- Reading a private container from left to right, and its first fault.
use Rattle.std.specs.Prelude.{◌≡◌, ℕ, ◌==◌, Bool, List, [], ◌∷◌, ◌++◌, codes, length, drop, nat_eq}
use Rattle.std.specs.Prelude.{Option, Some, None, Result, Ok, Err, if◌then◌else◌}
use Rattle.std.specs.List.{starts_with}
use Rattle.std.specs.Str.{bytes_eq}
use Rattle.base64.specs.Engines.{standard}
use Rattle.base64.specs.GeneralPurpose.{decode_of}
use Rattle.ssh_wire.specs.Reading.{in_fault, string_at, ◌>>=◌}
use Rattle.ssh_wire.specs.Rows.{Magnitude, Number, Part, Row, Text, part_at, part_text, passes}
use Rattle.ssh_wire.specs.Rows.{table_at, row}
use Rattle.ssh_key.specs.Key.{PublicKey}
use Rattle.ssh_key.specs.KeyReading.{key_at}
use Rattle.ssh_key.specs.declared.kind.Kind.{Kind}
use Rattle.key_text.specs.Armour.{armour_at}
use Rattle.key_text.specs.Container.{all_padding, beginning, magic, outer, public_text, secrets}
use Rattle.key_text.specs.declared.container.Private.{Private}
use Rattle.key_text.specs.declared.container.secrets.Spelling.{Spelling}
use Rattle.key_text.specs.declared.container.secrets.Spelling.TheVariants as spellings
use Rattle.key_text.specs.declared.private_fault.PrivateFault.{PrivateFault}
use Rattle.key_text.specs.declared.private_fault.PrivateFault.TheVariants as faults

-- the public contents of a container
pub record Opened : Type 0 where
  pub blob : List ℕ
  pub comment : List ℕ

abbrev pub padded : List ℕ → List ℕ → Result (List ℕ) PrivateFault
padded comment padding =
    if starts_with nat_eq all_padding padding then Ok comment else Err faults.Padding

-- the comment, if the public fields are the same
abbrev pub ended : Bool → List ℕ → List ℕ → Result (List ℕ) PrivateFault
ended same comment padding =
    if same then padded comment padding else Err faults.PublicDiffers

-- whether the public fields among the private ones of a kind are these
unfoldable pub same_at : Kind → List ℕ → List ℕ → Result (Bool × List ℕ) PrivateFault
same_at kind fields bytes = do
  secret ← table_at faults.Wire (secrets kind) [] bytes
  Ok (bytes_eq (public_text kind secret.0) fields, secret.1)

-- ---- fields that may have any value

abbrev pub part_of : Spelling → Part
part_of spellings.Number = Magnitude
part_of spellings.Text = Text
part_of spellings.Byte = Number 1

abbrev pub rows_of : List Spelling → List (Row PrivateFault)
rows_of [] = []
rows_of (spelling ∷ others) = row (part_of spelling) passes ∷ rows_of others

-- A part was skipped, or has this fault.
abbrev pub Skips : {A : Type 0} → Part → Result A PrivateFault → List ℕ → List ℕ → Type 0
Skips part (Ok done) bytes rest = (value : List ℕ) × (part_at part bytes ≡ Ok (value, rest))
Skips part (Err fault) bytes rest = in_fault faults.Wire (part_at part bytes) ≡ Err fault

-- the bytes of a row, and those after it
unfoldable pub passed_at : List Spelling → List ℕ → Result (List ℕ × List ℕ) PrivateFault
passed_at [] bytes = Ok ([], bytes)
passed_at (spelling ∷ later) bytes = do
  read ← in_fault faults.Wire (part_at (part_of spelling) bytes)
  others ← passed_at later read.1
  Ok (part_text (part_of spelling) read.0 ++ others.0, others.1)

-- The bytes spell the values.
abbrev pub Spells : List Spelling → List (List ℕ) → List ℕ → Type 0
Spells [] values bytes = (values ≡ []) × (bytes ≡ [])
Spells (spelling ∷ later) values bytes =
    (value : List ℕ) × (others : List (List ℕ)) × (rest : List ℕ) × (values ≡ value ∷ others)
    × (bytes ≡ part_text (part_of spelling) value ++ rest) × Spells later others rest

-- The fields of a kind are those of these rows, and the fields of the first row are the public
-- ones.
pub record HasRows (kind : Kind) (first others : List Spelling) : Type 0 where
  pub rows : secrets kind ≡ rows_of first ++ rows_of others
  pub public : (values more : List (List ℕ)) (bytes : List ℕ) → Spells first values bytes
      → public_text kind (values ++ more) ≡ bytes

unfoldable pub list_at : PublicKey → List ℕ → Result (List ℕ) PrivateFault
list_at key list = do
  head ← table_at faults.Wire (beginning key.kind) [] list
  same ← same_at key.kind key.fields head.1
  comment ← in_fault faults.Wire (string_at same.1)
  ended same.0 comment.0 comment.1

-- the parts of a container that is not encrypted and has this blob and this private list
abbrev pub plain_values : List ℕ → List ℕ → List (List ℕ)
plain_values blob list =
    codes "none" ∷ codes "none" ∷ [] ∷ (1 ∷ []) ∷ blob ∷ list ∷ []

abbrev pub opened : List (List ℕ) → Result Opened PrivateFault
opened (cipher ∷ kdf ∷ options ∷ count ∷ blob ∷ list ∷ []) = do
  key ← in_fault faults.Key (key_at blob)
  comment ← list_at key list
  Ok (record { blob = blob; comment = comment })
opened values = Err faults.Trailing

unfoldable pub inside_at : List ℕ → Result Opened PrivateFault
inside_at inside = do
  parts ← table_at faults.Wire outer [] inside
  if length parts.1 == 0 then opened parts.0 else Err faults.Trailing

unfoldable pub bytes_at : List ℕ → Result Opened PrivateFault
bytes_at bytes =
    if starts_with nat_eq bytes magic then inside_at (drop 15 bytes) else Err faults.Magic

abbrev pub some_body : Option (List ℕ) → Result (List ℕ) PrivateFault
some_body None = Err faults.Armour
some_body (Some body) = Ok body

unfoldable pub decoded_at : List ℕ → Result (List ℕ) PrivateFault
decoded_at body = in_fault (λ error. faults.Base64) (decode_of standard body)

unfoldable pub body_at : List ℕ → Result Opened PrivateFault
body_at body = do
  bytes ← decoded_at body
  bytes_at bytes

unfoldable pub private_at : List ℕ → Result Opened PrivateFault
private_at text = do
  body ← some_body (armour_at text)
  body_at body

abbrev pub opened_of : Private → Opened
opened_of private = record { blob = private.blob; comment = private.comment }

-- A function returned what reading gives, or `NoMemory`.
abbrev pub GivesPrivate : Result Private PrivateFault → Result Opened PrivateFault → Type 0
GivesPrivate (Ok private) read = read ≡ Ok (opened_of private)
GivesPrivate (Err faults.NoMemory) read = Unit {0}
GivesPrivate (Err fault) read = read ≡ Err fault
