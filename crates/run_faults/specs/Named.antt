-- The result of loading a file.
use Rattle.std.specs.Prelude.{◌≡◌, ℕ, ◌≤◌, ◌<◌, Bool, true, false, List, length, Option, Result, Ok}
use Rattle.std.specs.Prelude.{Err}
use Rattle.std.specs.Io.KnownBytes.{Consumes, IsAtEnd}
use Rattle.ssh_wire.specs.declared.pull_fault.PullFault.{PullFault}
use Rattle.ssh_wire.specs.declared.pull_fault.PullFault.TheVariants as pulls
use Rattle.run_faults.specs.declared.file_fault.FileFault.{FileFault}
use Rattle.run_faults.specs.declared.file_fault.FileFault.TheVariants.{Open, Read, TooLong}
use Rattle.run_faults.specs.declared.file_fault.FileFault.TheVariants.{NoMemory, NoKeys}
use Rattle.run_faults.specs.declared.file_fault.FileFault.TheVariants.{NoCertificate, Locked}

-- the maximum length of a file in bytes
abbrev pub file_limit : ℕ
file_limit = 16777216

-- the reported fault of a file that could not be read to its end
abbrev pub file_fault : PullFault → FileFault
file_fault pulls.EndsEarly = Read
file_fault pulls.TooLong = TooLong
file_fault pulls.Read = Read
file_fault pulls.NoMemory = NoMemory

-- The content, given the bytes taken, the bytes left after them and whether the reader failed. An
-- allocation fails only after a byte was read.
abbrev pub IsContent : List ℕ → Option (List ℕ) → Bool → Result (List ℕ) FileFault → Type 0
IsContent taken left failed (Ok bytes) =
    (bytes ≡ taken) × (length taken ≤ file_limit) × IsAtEnd left × (failed ≡ false)
IsContent taken left failed (Err TooLong) = (file_limit < length taken) × (failed ≡ false)
IsContent taken left failed (Err Read) = (length taken ≤ file_limit) × (failed ≡ true)
IsContent taken left failed (Err NoMemory) =
    (0 < length taken) × (length taken ≤ file_limit) × (failed ≡ false)
IsContent taken left failed (Err Open) = ⊥
IsContent taken left failed (Err NoKeys) = ⊥
IsContent taken left failed (Err NoCertificate) = ⊥
IsContent taken left failed (Err Locked) = ⊥

-- A reader had these bytes left, then those, and failed or not; the content is that of the bytes
-- between.
pub record IsLoaded (before after : Option (List ℕ)) (failed : Bool)
    (content : Result (List ℕ) FileFault) : Type 0 where
  pub taken : List ℕ
  pub consumed : Consumes before after taken
  pub made : IsContent taken after failed content
