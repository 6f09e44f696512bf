-- The bytes of a list that is written: the subsections of a plan for each certificate authority.
use Rattle.std.specs.Prelude.{ℕ, zero, suc, ◌+◌, ◌-◌, ◌*◌, ◌/◌, ◌≤◌, ◌<◌, if◌then◌else◌}
use Rattle.std.specs.Prelude.{List, [], ◌∷◌, ◌++◌, length, take, drop}
use Rattle.std.specs.Prelude.{slice_index_or}
use Rattle.std.specs.List.{flat_map}
use Rattle.serial_set.specs.declared.span.Span.{Span}
use Rattle.serial_set.specs.Span.{has}
use Rattle.ssh_wire.specs.Wire.{number, string}
use Rattle.krl_format.specs.Section.{subsection_row}
use Rattle.krl_format.specs.declared.section.Subsection.TheVariants as subsection_kinds
use Rattle.krl_plan.specs.declared.group.Sort.{Sort}
use Rattle.krl_plan.specs.declared.group.Sort.TheVariants.{Serials, Range, Bitmap}
use Rattle.krl_plan.specs.declared.group.Group.{Group}
use Rattle.krl_plan.specs.Plan.{reach}

-- ---- serials

-- `count` serials, from the first on
abbrev pub serials_from : ℕ → ℕ → List ℕ
serials_from first zero = []
serials_from first (suc count) = first ∷ serials_from (first + 1) count

-- each serial of the runs
abbrev pub serials_of : List Span → List ℕ
serials_of runs = flat_map (λ run. serials_from run.lo (run.hi + 1 - run.lo)) runs

-- the first serial of the runs
abbrev pub first_of : List Span → ℕ
first_of [] = 0
first_of (run ∷ runs) = run.lo

-- a number of this many bits: bit N is set if the runs have the serial that is N above the first
abbrev pub bits_of : List Span → ℕ → ℕ → ℕ
bits_of runs first zero = 0
bits_of runs first (suc count) =
    (if has runs first then 1 else 0) + 2 * bits_of runs (first + 1) count

-- the bits of this many bytes, the highest byte first
abbrev pub bitmap_of : List Span → ℕ → ℕ → List ℕ
bitmap_of runs first zero = []
bitmap_of runs first (suc size) = bits_of runs (first + 8 * size) 8 ∷ bitmap_of runs first size

-- The length of a bitmap. The highest bit of the first byte is never set.
abbrev pub bitmap_size : List Span → ℕ
bitmap_size runs = (reach runs + 1) / 8 + 1

-- ---- groups

abbrev pub type_byte : Sort → ℕ
type_byte Serials = (subsection_row subsection_kinds.Serials).type_byte
type_byte Range = (subsection_row subsection_kinds.Range).type_byte
type_byte Bitmap = (subsection_row subsection_kinds.Bitmap).type_byte

-- the content of a subsection that names these runs
abbrev pub content_of : Sort → List Span → List ℕ
content_of Serials runs = flat_map (number 8) (serials_of runs)
content_of Range runs = number 8 (first_of runs) ++ number 8 (first_of runs + reach runs)
content_of Bitmap runs =
    number 8 (first_of runs) ++ string (bitmap_of runs (first_of runs) (bitmap_size runs))

-- a subsection that names these runs
abbrev pub group_text : Sort → List Span → List ℕ
group_text sort runs = type_byte sort ∷ string (content_of sort runs)

-- the subsections of a plan, one after another
abbrev pub plan_text : List Span → List Group → List ℕ
plan_text runs [] = []
plan_text runs (group ∷ groups) =
    group_text group.sort (take group.count runs) ++ plan_text (drop group.count runs) groups

-- All but the first `count` runs begin at the serial or above.
pub record Above (runs : List Span) (count serial : ℕ) : Type 0 where
  pub within : count ≤ length runs
  pub above : (k : ℕ) (d : Span) → count ≤ k → k < length runs
      → serial ≤ (slice_index_or runs k d).lo
