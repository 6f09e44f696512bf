-- Formats as tables: the expected part at each place, and the fault that its value may have.
use Rattle.std.specs.Prelude.{◌≡◌, ℕ, ◌^◌, ◌<◌, Bool, List, [], ◌∷◌, ◌++◌, length, slice_index}
use Rattle.std.specs.Prelude.{Option, Some, None, Result, Ok, Err, ◌⊎◌, if◌then◌else◌}
use Rattle.ssh_wire.specs.Wire.{IsMagnitude, complement, mpint, number, string}
use Rattle.ssh_wire.specs.Reading.{in_fault, mpint_at, number_at, string_at, ◌>>=◌}
use Rattle.ssh_wire.specs.declared.fault.WireFault.{WireFault}

-- a number of this many bytes, a number that is not negative, or a string
pub data Part : Type 0 where
  Number : (size : ℕ) → Part
  Magnitude : Part
  Text : Part

-- The value is one of the part. A number is seen as a list of itself.
abbrev pub IsPart : Part → List ℕ → Type 0
IsPart (Number size) value = (value ≡ slice_index value 0 ∷ []) × (slice_index value 0 < 256 ^ size)
IsPart Magnitude value = IsMagnitude value × (length (complement value) < 2 ^ 32)
IsPart Text value = length value < 2 ^ 32

-- its encoding
abbrev pub part_text : Part → List ℕ → List ℕ
part_text (Number size) value = number size (slice_index value 0)
part_text Magnitude value = mpint value
part_text Text value = string value

abbrev pub alone : Result (ℕ × List ℕ) WireFault → Result (List ℕ × List ℕ) WireFault
alone (Ok (n, rest)) = Ok (n ∷ [], rest)
alone (Err fault) = Err fault

-- the value at the front, and the bytes after it
abbrev pub part_at : Part → List ℕ → Result (List ℕ × List ℕ) WireFault
part_at (Number size) bytes = alone (number_at size bytes)
part_at Magnitude bytes = mpint_at bytes
part_at Text bytes = string_at bytes

-- The bytes are a value of the part, and then the rest.
pub record BeginsWithPart (part : Part) (bytes value rest : List ℕ) : Type 0 where
  pub is_part : IsPart part value
  pub spelled : bytes ≡ part_text part value ++ rest

-- A row of a table: a part, and the judgement on its value, given the values before it. A table is
-- a list of these, and says by a function what a part that cannot be read is as a fault.
pub record Row (F : Type 0) : Type 0 where
  pub part : Part
  pub judged : List (List ℕ) → List ℕ → Option F

abbrev pub row : {F : Type 0} → Part → (List (List ℕ) → List ℕ → Option F) → Row F
row part judged = record { part = part; judged = judged }

-- no fault, whatever the values are
abbrev pub passes : {F : Type 0} → List (List ℕ) → List ℕ → Option F
passes before value = None

abbrev pub fault_unless : {F : Type 0} → F → Bool → Option F
fault_unless fault holds = if holds then None else Some fault

-- After the values before it the bytes begin with the table: each part is in its place and passes
-- its judgement. All values, and the bytes that are left.
abbrev pub BeginsWithTable
    : {F : Type 0} → List (Row F) → List (List ℕ) → List ℕ → List (List ℕ) → List ℕ → Type 0
BeginsWithTable [] before bytes values rest = (before ≡ values) × (bytes ≡ rest)
BeginsWithTable (expected ∷ rows) before bytes values rest =
    (value : List ℕ) × (left : List ℕ) × BeginsWithPart expected.part bytes value left
    × (expected.judged before value ≡ None)
    × BeginsWithTable rows (before ++ value ∷ []) left values rest

-- The part at the front cannot be read, or fails its judgement.
abbrev pub RowFails
    : {F : Type 0} → (WireFault → F) → Row F → List (List ℕ) → List ℕ → F → Type 0
RowFails unread expected before bytes fault =
    ((why : WireFault) × (part_at expected.part bytes ≡ Err why) × (fault ≡ unread why))
    ⊎ ((value : List ℕ) × (left : List ℕ) × BeginsWithPart expected.part bytes value left
    × (expected.judged before value ≡ Some fault))

-- The first fault of a table: that of a row, where all rows before it pass.
abbrev pub Fails
    : {F : Type 0} → (WireFault → F) → List (Row F) → List (List ℕ) → List ℕ → F → Type 0
Fails unread [] before bytes fault = ⊥
Fails unread (expected ∷ rows) before bytes fault =
    RowFails unread expected before bytes fault
    ⊎ ((value : List ℕ) × (left : List ℕ) × BeginsWithPart expected.part bytes value left
    × (expected.judged before value ≡ None)
    × Fails unread rows (before ++ value ∷ []) left fault)

-- the encodings of values, one for each row
abbrev pub table_text : {F : Type 0} → List (Row F) → List (List ℕ) → List ℕ
table_text [] values = []
table_text (expected ∷ rows) [] = []
table_text (expected ∷ rows) (value ∷ values) =
    part_text expected.part value ++ table_text rows values

abbrev pub unless : {A F : Type 0} → Option F → A → Result A F
unless None x = Ok x
unless (Some fault) x = Err fault

-- the value of a row, and the bytes after it
abbrev pub row_at : {F : Type 0} → (WireFault → F) → Row F → List (List ℕ) → List ℕ
    → Result (List ℕ × List ℕ) F
row_at unread expected before bytes = do
  read ← in_fault unread (part_at expected.part bytes)
  unless (expected.judged before read.0) read

-- the values of a table and the bytes after it, from left to right
unfoldable pub table_at : {F : Type 0} → (WireFault → F) → List (Row F) → List (List ℕ) → List ℕ
    → Result (List (List ℕ) × List ℕ) F
table_at unread [] before bytes = Ok (before, bytes)
table_at unread (expected ∷ rows) before bytes = do
  read ← row_at unread expected before bytes
  table_at unread rows (before ++ read.0 ∷ []) read.1
