-- Files that are not logs as text, by their first bytes.
use Rattle.std.specs.Prelude.{ℕ, nat_eq, List, [], ◌∷◌, ◌==◌, ◌++◌, codes, Option, Some, None}
use Rattle.std.specs.Prelude.{if◌then◌else◌}
use Rattle.std.specs.List.{starts_with}
use Rattle.login_text.specs.declared.why.Packed.{Packed}
use Rattle.login_text.specs.declared.why.Packed.TheVariants.{Gzip, Journal, Xz, Zstd}

-- the format of a file that is no text, by its first line
abbrev pub packed_by : List ℕ → Option Packed
packed_by line =
    if starts_with nat_eq line (0x1f ∷ 0x8b ∷ []) then Some Gzip
    else if starts_with nat_eq line (0xfd ∷ codes "7zXZ" ++ 0 ∷ []) then Some Xz
    else if starts_with nat_eq line (0x28 ∷ 0xb5 ∷ 0x2f ∷ 0xfd ∷ []) then Some Zstd
    else if starts_with nat_eq line (codes "LPKSHHRH") then Some Journal else None

-- the same for a line after this many others: only the first line shows it
abbrev pub packed_at : ℕ → List ℕ → Option Packed
packed_at number line = if number == 0 then packed_by line else None
