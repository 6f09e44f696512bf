-- The parts of taking a field from a reader.
use Rattle.std.specs.Prelude.{◌≡◌, ℕ, ◌≤◌, ◌<◌, Bool, true, false, List, [], length, Option, None}
use Rattle.std.specs.Prelude.{Result, Ok, Err, IsSome}
use Rattle.std.specs.Io.KnownBytes.{Consumes, IsAtEnd}
use Rattle.ssh_wire.specs.declared.pull_fault.PullFault.{PullFault}
use Rattle.ssh_wire.specs.declared.pull_fault.PullFault.TheVariants.{EndsEarly, TooLong, Read}
use Rattle.ssh_wire.specs.declared.pull_fault.PullFault.TheVariants.{NoMemory}
use Rattle.byte_streams.specs.Pull.{Pull}

-- what always holds for the fields of a `Pull`
pub record IsSound (failed : Bool) (taken limit : ℕ) (fault : Option PullFault) : Type 0 where
  pub within : taken ≤ limit
  pub working : fault ≡ None → failed ≡ false

-- a reader with these bytes left, which has failed or not, of which this many bytes were taken
abbrev pub pull_of : Option (List ℕ) → Bool → Option ℕ → ℕ → ℕ → Pull
pull_of source failed ahead taken limit =
    record {
      source = source;
      failed = failed;
      buffered = [];
      ahead = ahead;
      taken = taken;
      limit = limit;
      fault = None;
    }

-- The reader came to its end, or it failed.
abbrev pub ReportsEnd : PullFault → Option (List ℕ) → Bool → Type 0
ReportsEnd EndsEarly after failed = IsAtEnd after × (failed ≡ false)
ReportsEnd TooLong after failed = ⊥
ReportsEnd Read after failed = failed ≡ true
ReportsEnd NoMemory after failed = ⊥

-- Fewer than this many bytes came, since the reader ended or failed.
pub record FallsShort
    (fault : PullFault) (before after : Option (List ℕ)) (failed : Bool) (size : ℕ) : Type 0 where
  pub came : List ℕ
  pub bytes : Consumes before after came
  pub part : length came < size
  pub reports : ReportsEnd fault after failed

-- A slice was filled, or the reader ended or failed first.
abbrev pub Fills
    : {A : Type 0} → Result A PullFault → Option (List ℕ) → Option (List ℕ) → Bool → List ℕ → Type 0
Fills (Ok filled) before after failed slice = Consumes before after slice × (failed ≡ false)
Fills (Err fault) before after failed slice = FallsShort fault before after failed (length slice)

-- Whether a byte is ahead, unless the reader failed.
abbrev pub FindsAhead : Result Bool PullFault → Option (List ℕ) → Bool → Option ℕ → Type 0
FindsAhead (Ok true) after failed ahead = IsSome ahead × (failed ≡ false)
FindsAhead (Ok false) after failed ahead = (ahead ≡ None) × IsAtEnd after × (failed ≡ false)
FindsAhead (Err fault) after failed ahead = (fault ≡ Read) × (ahead ≡ None) × (failed ≡ true)
