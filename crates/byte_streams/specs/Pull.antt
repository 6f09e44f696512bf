-- How far a reader was pulled, and what taking a field from it does.
use Rattle.std.specs.Prelude.{◌≡◌, ℕ, ◌+◌, ◌-◌, ◌≤◌, ◌<◌, Bool, true, false, List, [], ◌∷◌}
use Rattle.std.specs.Prelude.{length, take, Option, Some, None, Result, Err, IfSome, IsSome}
use Rattle.std.specs.Prelude.{MatchBool}
use Rattle.std.specs.Io.KnownBytes.{Consumes, IsAtEnd, Keeps, prepend_known}
use Rattle.ssh_wire.specs.declared.pull_fault.PullFault.{PullFault}
use Rattle.ssh_wire.specs.declared.pull_fault.PullFault.TheVariants.{EndsEarly, TooLong, Read}
use Rattle.ssh_wire.specs.declared.pull_fault.PullFault.TheVariants.{NoMemory}

-- The bytes that the reader has left, if it knows them, whether it failed, and the bytes in its
-- buffer; the byte that was looked at and not taken; how many bytes were taken, and how many may
-- be; the fault that was met.
pub record Pull : Type 0 where
  pub source : Option (List ℕ)
  pub failed : Bool
  pub buffered : List ℕ
  pub ahead : Option ℕ
  pub taken : ℕ
  pub limit : ℕ
  pub fault : Option PullFault

-- the byte that was looked at, followed by what the reader has left
abbrev pub after_ahead : Option ℕ → Option (List ℕ) → Option (List ℕ)
after_ahead None source = source
after_ahead (Some byte) source = prepend_known (byte ∷ []) source

-- The bytes that were not taken yet. The reader gave at most one of them: the one that was looked
-- at.
abbrev pub left_of : Pull → Option (List ℕ)
left_of pull = after_ahead pull.ahead pull.source

-- nothing was taken from a reader that has these bytes left and these in its buffer
abbrev pub untaken : Option (List ℕ) → (buffered : List ℕ) → ℕ → Pull
untaken source buffered limit =
    record {
      source = source;
      failed = false;
      buffered = buffered;
      ahead = None;
      taken = 0;
      limit = limit;
      fault = None;
    }

-- the bytes that can be taken from the reader's buffer: none if a byte is ahead of them
abbrev pub front_of : Option ℕ → (buffered : List ℕ) → (room : ℕ) → List ℕ
front_of None buffered room = take room buffered
front_of (Some byte) buffered room = []

-- the bytes that can be taken now, within the limit
abbrev pub available : Pull → List ℕ
available pull = front_of pull.ahead pull.buffered (pull.limit - pull.taken)

-- The field was taken: it is the next bytes, within the limit.
pub record Takes (old : Pull) (field : List ℕ) (new : Pull) : Type 0 where
  pub bytes : Consumes (left_of old) (left_of new) field
  pub within : old.taken + length field ≤ old.limit
  pub taken : new.taken ≡ old.taken + length field
  pub limit : new.limit ≡ old.limit
  pub working : new.failed ≡ false
  pub was_faultless : old.fault ≡ None
  pub is_faultless : new.fault ≡ None

-- The meaning of a fault after this many bytes of a field came. EndsEarly: no byte is left.
-- TooLong: the limit is reached, and there is a byte past it. Read: the reader failed, and no byte
-- is ahead.
abbrev pub Reports : PullFault → Pull → ℕ → Type 0
Reports EndsEarly pull came = IsAtEnd (left_of pull) × (pull.failed ≡ false)
Reports TooLong pull came =
    (pull.taken + came ≡ pull.limit) × IsSome pull.ahead × (pull.failed ≡ false)
Reports Read pull came = (pull.ahead ≡ None) × (pull.failed ≡ true)
Reports NoMemory pull came = pull.failed ≡ false

-- Fewer than `size` bytes came within the limit, and the fault says why.
pub record Misses (old : Pull) (size : ℕ) (fault : PullFault) (new : Pull) : Type 0 where
  pub came : List ℕ
  pub bytes : Consumes (left_of old) (left_of new) came
  pub part : length came < size
  pub within : old.taken + length came ≤ old.limit
  pub reports : Reports fault new (length came)

-- A field of this many bytes could not be taken. The bytes of it that came do not count as taken.
pub record Refuses (old : Pull) (size : ℕ) (fault : PullFault) (new : Pull) : Type 0 where
  pub misses : Misses old size fault new
  pub taken : new.taken ≡ old.taken
  pub limit : new.limit ≡ old.limit
  pub fault_is : new.fault ≡ Some fault

-- After a fault nothing is taken, and the same fault is reported again.
abbrev pub RefusesAgain : {A : Type 0} → Result A PullFault → Pull → Pull → Type 0
RefusesAgain result old new = IfSome old.fault (λ fault. (result ≡ Err fault) × (new ≡ old))

-- All that was left within the limit was taken.
pub record TakesRest (old : Pull) (rest : List ℕ) (new : Pull) : Type 0 where
  pub takes : Takes old rest new
  pub none_ahead : new.ahead ≡ None
  pub ends : IsAtEnd new.source

-- The meaning of a fault after this many of the bytes up to the reader's end came. Each byte that
-- came is among them, except one past the limit. An allocation fails only after a byte came.
abbrev pub ReportsRest : PullFault → Pull → ℕ → Type 0
ReportsRest EndsEarly pull came = ⊥
ReportsRest TooLong pull came =
    (pull.taken + came ≡ pull.limit) × IsSome pull.ahead × (pull.failed ≡ false)
ReportsRest Read pull came = (pull.ahead ≡ None) × (pull.failed ≡ true)
ReportsRest NoMemory pull came = (0 < came) × (pull.ahead ≡ None) × (pull.failed ≡ false)

-- These bytes came within the limit, but not all up to the reader's end, and the fault says why.
pub record MissesRest (old : Pull) (fault : PullFault) (new : Pull) : Type 0 where
  pub came : List ℕ
  pub bytes : Consumes (left_of old) (left_of new) came
  pub within : old.taken + length came ≤ old.limit
  pub reports : ReportsRest fault new (length came)

-- The bytes that were left could not be taken. Those that came do not count as taken.
pub record RefusesRest (old : Pull) (fault : PullFault) (new : Pull) : Type 0 where
  pub misses : MissesRest old fault new
  pub taken : new.taken ≡ old.taken
  pub limit : new.limit ≡ old.limit
  pub fault_is : new.fault ≡ Some fault

-- It was found out whether the end is reached, and no byte was taken.
pub record Looks (old : Pull) (ended : Bool) (new : Pull) : Type 0 where
  pub bytes : Keeps (left_of old) (left_of new)
  pub answer : MatchBool ended (IsAtEnd (left_of new)) (IsSome new.ahead)
  pub taken : new.taken ≡ old.taken
  pub limit : new.limit ≡ old.limit
  pub working : new.failed ≡ false
  pub was_faultless : old.fault ≡ None
  pub is_faultless : new.fault ≡ None
