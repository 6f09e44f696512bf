-- A bitmap that is fed a byte at a time, its highest byte first.
use Rattle.std.specs.Prelude.{◌≡◌, ℕ, ◌+◌, ◌-◌, ◌*◌, ◌^◌, ◌≤◌, ◌<◌, ◌⊎◌, Option, Some, None, List}
use Rattle.std.specs.Prelude.{[], ◌∷◌, ◌++◌, length, reverse, MatchOption, IfSome, All, ⊤}
use Rattle.std.specs.Option.{option_to_list}
use Rattle.std.specs.Int.{bit_at}
use Rattle.serial_set.specs.declared.span.Span.{Span}
use Rattle.serial_set.specs.declared.bit_fault.BitFault.{BitFault}
use Rattle.serial_set.specs.declared.bit_fault.BitFault.TheVariants.{Negative, Wraps}
use Rattle.serial_set.specs.Span.{SpanCovers, Covers, IsRunsOf}

-- the state of a bitmap of `len` bytes: how many of them are left, the run that may still grow, and
-- the fault that was met
pub record BitRuns : Type 0 where
  pub offset : ℕ
  pub len : ℕ
  pub bytes_left : ℕ
  pub pending : Option Span
  pub fault : Option BitFault

-- no byte was fed
abbrev pub start : ℕ → ℕ → BitRuns
start offset len =
    record { offset = offset; len = len; bytes_left = len; pending = None; fault = None }

-- the number that the lowest bit fed so far represents
abbrev pub lowest : BitRuns → ℕ
lowest p = p.offset + 8 * p.bytes_left

-- s is a serial, and its bit of `bits` is set, when the lowest bit represents `base`
abbrev pub BitNames : ℕ → ℕ → ℕ → Type 0
BitNames base bits s = (0 < s) × (base ≤ s) × (bit_at bits (s - base) ≡ 1)

-- the big-endian number of some bytes
abbrev pub big_endian : List ℕ → ℕ
big_endian [] = 0
big_endian (byte ∷ bytes) = byte * 256 ^ length bytes + big_endian bytes

-- ---- faults

-- the byte is the bitmap's first, and its highest bit is set
abbrev pub IsNegative : BitRuns → ℕ → Type 0
IsNegative p byte = (p.bytes_left ≡ p.len) × (128 ≤ byte)

-- a set bit of the byte represents a number past 2^64-1
abbrev pub PassesEnd : BitRuns → ℕ → Type 0
PassesEnd p byte = (s : ℕ) × ((2 ^ 64 ≤ s) × BitNames (p.offset + 8 * (p.bytes_left - 1)) byte s)

-- the fault that a byte shows: the first if there are two
abbrev pub ShowsFault : BitRuns → ℕ → BitFault → Type 0
ShowsFault p byte Negative = IsNegative p byte
ShowsFault p byte Wraps = ¬ IsNegative p byte × PassesEnd p byte

-- the fault of feeding a byte: an earlier one again, otherwise the one that the byte shows
abbrev pub HasFault : BitRuns → ℕ → BitFault → Type 0
HasFault p byte fault = MatchOption p.fault (ShowsFault p byte fault) (λ earlier. fault ≡ earlier)

-- ---- runs

-- the pending run, followed by the finished ones from the last to the first
abbrev pub runs_after : BitRuns → List Span → List Span
runs_after p finished = option_to_list p.pending ++ reverse finished

-- a byte without a fault leads from one state to another and finishes these runs
pub record Feeds (before : BitRuns) (byte : ℕ) (after : BitRuns) (finished : List Span)
    : Type 0 where
  pub one_less : after.bytes_left + 1 ≡ before.bytes_left
  pub same_bitmap : after ≡ record before { bytes_left = after.bytes_left; pending = after.pending }
  pub no_fault : (fault : BitFault) → ¬ HasFault before byte fault
  -- the runs of what was pending and of the byte's serials
  pub runs : IsRunsOf (runs_after after finished)
      (λ s. Covers (option_to_list before.pending) s ⊎ BitNames (lowest after) byte s)
  -- a run that contains the byte's lowest number may continue in the next byte, and no other may
  pub goes_on : IfSome after.pending (λ run. SpanCovers run (lowest after))
  pub ends : All (λ run. ¬ SpanCovers run (lowest after)) finished
  pub four_more : length (runs_after after finished) ≤ length (option_to_list before.pending) + 4

-- feeding these bytes, one after another, leads from one state to another and finishes these runs
abbrev pub FeedsAll : BitRuns → List ℕ → BitRuns → List Span → Type 0
FeedsAll before [] after finished = (after ≡ before) × (finished ≡ [])
FeedsAll before (byte ∷ bytes) after finished =
    (middle : BitRuns) × ((first : List Span) × ((rest : List Span)
    × (Feeds before byte middle first × FeedsAll middle bytes after rest
    × (finished ≡ first ++ rest))))

-- the span is not empty, and 0 is not in it
abbrev pub IsInterval : Span → Type 0
IsInterval run = (0 < run.lo) × (run.lo ≤ run.hi)

-- the pending run begins at the number of the lowest bit that is fed
abbrev pub IsInStep : ℕ → Option Span → Type 0
IsInStep number None = ⊤
IsInStep number (Some run) = (run.lo ≡ number) × IsInterval run
