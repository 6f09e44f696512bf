-- The fronts of a list, and the first fault, which the longest front determines.
use Rattle.std.specs.Prelude.{◌≡◌, ℕ, ◌<◌, ◌≤◌, nat_lt, Bool, true, false, List, [], ◌∷◌, ◌++◌}
use Rattle.std.specs.Prelude.{length, take, Option, Some, None, Ok, Err, IfSome}
use Rattle.std.specs.List.{concat}
use Rattle.krl_types.specs.declared.krl_fault.KrlFault.{KrlFault}
use Rattle.krl_types.specs.declared.krl_fault.KrlFault.TheVariants as faults
use Rattle.krl_format.specs.declared.header.Header.{Header}
use Rattle.krl_format.specs.declared.place.Place.{Place}
use Rattle.krl_format.specs.declared.place.Place.TheVariants as places
use Rattle.krl_format.specs.declared.place.field.Field.TheVariants as fields
use Rattle.krl_types.specs.Entry.{Entry}
use Rattle.krl_format.specs.Field.{empty_header}
use Rattle.krl_format.specs.Place.{can_end, Expected, expected, names, authority_after}
use Rattle.krl_format.specs.Place.{header_after}

-- at most this many bytes of a list are read
abbrev pub limit : ℕ
limit = 67108864

-- if the field is inside a part, that part has enough bytes left for it
abbrev pub HasRoom : Expected → Type 0
HasRoom field = IfSome field.room (λ left. field.size ≤ left)

-- The state after a sequence of fields: the place where the next field is expected, the header so
-- far, the authority in force, and the entries of the fields.
pub record State : Type 0 where
  pub place : Place
  pub header : Header
  pub authority : List ℕ
  pub entries : List Entry

-- the state before the first field
abbrev pub start : State
start = record {
  place = places.Field fields.Magic 0 0;
  header = empty_header;
  authority = [];
  entries = [];
}

-- a whole field that is expected at a place and passes its judgement
pub record Passes (place : Place) (field : List ℕ) (next : Place) : Type 0 where
  pub room : HasRoom (expected place)
  pub whole : length field ≡ (expected place).size
  pub judged : (expected place).judged field ≡ Ok next

abbrev pub state_after : State → List ℕ → Place → State
state_after state field next = record {
  place = next;
  header = header_after state.place state.header field;
  authority = authority_after state.place state.authority field;
  entries = state.entries ++ names state.place state.authority field;
}

-- The fields are whole and each passes its judgement: they lead from one state to another.
abbrev pub LeadsTo : State → List (List ℕ) → State → Type 0
LeadsTo state [] last = state ≡ last
LeadsTo state (field ∷ fields) last =
    (next : Place)
    × (Passes state.place field next × LeadsTo (state_after state field next) fields last)

-- The text begins with a sequence of fields, within the limit. After these it is in a state, and
-- `rest` is left up to the limit.
pub record IsFront (text : List ℕ) (fields : List (List ℕ)) (state : State) (rest : List ℕ)
    : Type 0 where
  pub leads : LeadsTo start fields state
  pub parts : take limit text ≡ concat fields ++ rest

-- no next field makes a longer front
pub record IsLongestFront (text : List ℕ) (fields : List (List ℕ)) (state : State) (rest : List ℕ)
    : Type 0 where
  pub front : IsFront text fields state rest
  pub longest : (field : List ℕ) (next : State) (after : List ℕ)
      → IsFront text (fields ++ field ∷ []) next after → ⊥

-- the end of the text is expected, and no bytes are left
abbrev pub IsEnd : Place → List ℕ → Type 0
IsEnd place rest = (can_end place ≡ true) × (rest ≡ [])

-- The report at the end of a longest front. The next place is `place`, `rest` is left up to the
-- limit, and `goes_on` says whether the text has more bytes after the limit. The report is `None`
-- if the list ends where it may end.
pub data Reported (place : Place) (rest : List ℕ) (goes_on : Bool) (fault : Option KrlFault)
    : Type 0 where
  -- the end of the text is expected, and is there
  ended : IsEnd place rest → goes_on ≡ false → fault ≡ None → Reported place rest goes_on fault
  -- the bytes that are left cannot hold the field: reported before any byte of it is read
  no_room : (HasRoom (expected place) → ⊥) → fault ≡ Some faults.Length
      → Reported place rest goes_on fault
  -- the field is whole within the limit, and is refused
  refused : (field after : List ℕ) (why : KrlFault) → HasRoom (expected place)
      → rest ≡ field ++ after
      → length field ≡ (expected place).size → (expected place).judged field ≡ Err why
      → fault ≡ Some why
      → Reported place rest goes_on fault
  -- the field is not whole within the limit, and the text continues after the limit
  too_long : HasRoom (expected place) → length rest < (expected place).size → goes_on ≡ true
      → fault ≡ Some faults.TooLong → Reported place rest goes_on fault
  -- the text ends inside the field, or before it although the end is not expected
  ends_early : HasRoom (expected place) → length rest < (expected place).size
      → (IsEnd place rest → ⊥)
      → goes_on ≡ false → fault ≡ Some faults.EndsEarly → Reported place rest goes_on fault

-- The first fault of a text, reported after its longest front.
pub record IsFirstKrlFault (text : List ℕ) (fault : Option KrlFault) : Type 0 where
  pub fields : List (List ℕ)
  pub state : State
  pub rest : List ℕ
  pub front : IsLongestFront text fields state rest
  pub reported : Reported state.place rest (nat_lt limit (length text)) fault
