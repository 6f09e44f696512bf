-- The fields of a list for which memory may be needed.
use Rattle.std.specs.Prelude.{ℕ, ◌<◌, List, take}
use Rattle.ssh_wire.specs.Wire.{number_of}
use Rattle.krl_format.specs.declared.place.Place.{Place}
use Rattle.krl_format.specs.declared.place.Place.TheVariants as places
use Rattle.krl_format.specs.declared.place.field.Field.TheVariants as fields
use Rattle.krl_format.specs.Front.{State, IsFront}
use Rattle.krl_format.specs.Place.{expected}

-- Memory may be needed for this field: a comment or an authority, another string that is longer
-- than 32 bytes, or an entry, but not for the serial number 0 or a range up to 0.
abbrev pub NeedsMemory : Place → (field : List ℕ) → Type 0
NeedsMemory (places.Content fields.Comment size room_before room_after) field = 0 < size
NeedsMemory (places.Content fields.Authority size room_before room_after) field = 0 < size
NeedsMemory (places.Content other size room_before room_after) field = 32 < size
NeedsMemory (places.Item kind size room_before room_after) field = Unit
NeedsMemory (places.Serial room_before room_after) field = 0 < number_of field
NeedsMemory (places.RangeMax min room_after) field = 0 < number_of field
NeedsMemory (places.Byte offset size room_before room_after) field = Unit
NeedsMemory _ field = ⊥

-- Memory may be needed for the field after a front of the text.
pub record MayLackMemory (text : List ℕ) : Type 0 where
  pub fields : List (List ℕ)
  pub state : State
  pub rest : List ℕ
  pub front : IsFront text fields state rest
  pub needs : NeedsMemory state.place (take (expected state.place).size rest)
