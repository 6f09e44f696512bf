-- The numbers and the printed names of the faults of a revocation list, and how a fault of its
-- reader is reported.
use Rattle.std.specs.Prelude.{ℕ, List, ◌++◌, codes, decimal}
use Rattle.ssh_wire.specs.declared.pull_fault.PullFault.{PullFault}
use Rattle.ssh_wire.specs.declared.pull_fault.PullFault.TheVariants as pulls
use Rattle.krl_types.specs.declared.krl_fault.KrlFault.{KrlFault}
use Rattle.krl_types.specs.declared.krl_fault.KrlFault.TheVariants.{Magic, FormatVersion, EndsEarly}
use Rattle.krl_types.specs.declared.krl_fault.KrlFault.TheVariants.{UnknownSection}
use Rattle.krl_types.specs.declared.krl_fault.KrlFault.TheVariants.{UnknownCertSection, Length}
use Rattle.krl_types.specs.declared.krl_fault.KrlFault.TheVariants.{RangeReversed, BitmapNegative}
use Rattle.krl_types.specs.declared.krl_fault.KrlFault.TheVariants.{BitmapWraps, HashLength}
use Rattle.krl_types.specs.declared.krl_fault.KrlFault.TheVariants.{AfterSignature, TooLong, Read}
use Rattle.krl_types.specs.declared.krl_fault.KrlFault.TheVariants.{NoMemory, CriticalExtension}

-- a fault's number and its name
pub record FaultRow : Type 0 where
  pub number : ℕ
  pub name : List ℕ

abbrev pub row : ℕ → List ℕ → FaultRow
row number name = record { number = number; name = name }

abbrev pub fault_row : KrlFault → FaultRow
fault_row Magic = row 1 (codes "Magic")
fault_row FormatVersion = row 2 (codes "FormatVersion")
fault_row EndsEarly = row 3 (codes "EndsEarly")
fault_row UnknownSection = row 4 (codes "UnknownSection")
fault_row UnknownCertSection = row 5 (codes "UnknownCertSection")
fault_row Length = row 6 (codes "Length")
fault_row RangeReversed = row 7 (codes "RangeReversed")
fault_row BitmapNegative = row 8 (codes "BitmapNegative")
fault_row BitmapWraps = row 9 (codes "BitmapWraps")
fault_row HashLength = row 10 (codes "HashLength")
fault_row AfterSignature = row 11 (codes "AfterSignature")
fault_row TooLong = row 12 (codes "TooLong")
fault_row Read = row 13 (codes "Read")
fault_row NoMemory = row 14 (codes "NoMemory")
fault_row CriticalExtension = row 15 (codes "CriticalExtension")

abbrev pub fault_number : KrlFault → ℕ
fault_number fault = (fault_row fault).number

-- its family, its number and its name
abbrev pub fault_text : KrlFault → List ℕ
fault_text fault =
    codes "krl " ++ (decimal (fault_row fault).number ++ (codes " " ++ (fault_row fault).name))

-- the fault of the list for a fault of its reader
abbrev pub reported_as : PullFault → KrlFault
reported_as pulls.EndsEarly = EndsEarly
reported_as pulls.TooLong = TooLong
reported_as pulls.Read = Read
reported_as pulls.NoMemory = NoMemory
