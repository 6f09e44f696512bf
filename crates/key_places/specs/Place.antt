-- The places of keys and certificates in a line, as a relation between the line and a place.
use Rattle.std.specs.Prelude.{◌≡◌, ℕ, ◌+◌, List, ◌++◌, length, Contains, Option}
use Rattle.key_text.specs.Blanks.{AreBlanks}
use Rattle.key_text.specs.TypeName.{type_names}
use Rattle.key_places.specs.Blob.{IsBlobOf, StartsBlob}
use Rattle.key_places.specs.Name.{MayPrecede}
use Rattle.key_places.specs.Word.{EndsWord, SpellsWord}

-- the column of a place, the name of the type, and the blob, or none if the word is cut
pub record KeyPlace : Type 0 where
  pub column : ℕ
  pub name : List ℕ
  pub blob : Option (List ℕ)

-- The line has a key or a certificate at the place: the name of its type, blanks, and the whole of
-- a base64 word that begins as a blob of this type. Columns count from one.
pub record IsPlace (line : List ℕ) (place : KeyPlace) : Type 0 where
  pub front : List ℕ
  pub precedes : MayPrecede front
  pub column : place.column ≡ length front + 1
  pub named : Contains type_names place.name
  pub blanks : List ℕ
  pub are_blanks : AreBlanks blanks
  pub text : List ℕ
  pub word : List ℕ
  pub is_word : SpellsWord text word
  pub starts : StartsBlob word place.name
  pub is_blob : IsBlobOf word place.blob
  pub rest : List ℕ
  pub ends : EndsWord rest
  pub spelled : line ≡ front ++ (place.name ++ (blanks ++ (text ++ rest)))
