-- The chunk of a set whose stretch contains a number.
use Rattle.std.specs.Prelude.{◌≡◌, ℕ, ◌≤◌, ◌<◌, ◌⊎◌, List, ◌∷◌, ◌++◌, Option, Some, None, All, ⊤}
use Rattle.span_sets.specs.declared.chunk.Chunk.{Chunk}
use Rattle.serial_set.specs.Span.{Covers}
use Rattle.span_sets.specs.Chunk.{lo_of, hi_of, members_of}
use Rattle.span_sets.specs.Replacement.{lo_or, hi_or, Has}

-- the chunk is one of the set's
abbrev pub IsOneOf : List Chunk → Option Chunk → Type 0
IsOneOf chunks None = ⊤
IsOneOf chunks (Some e) =
    (front : List Chunk) × ((back : List Chunk) × (chunks ≡ front ++ e ∷ back))

-- The stretch of the chunk, if there is one, contains the number, and every other chunk is before
-- it or past it. The chunk covers what the set covers in its stretch.
pub record IsAt (chunks : List Chunk) (number : ℕ) (o : Option Chunk) : Type 0 where
  pub stands : IsOneOf chunks o
  pub from : lo_or o number ≤ number
  pub to : number ≤ hi_or o number
  pub apart : All (λ e. (hi_of e < lo_or o number)
      ⊎ (((lo_or o number ≤ lo_of e) × (hi_of e ≤ hi_or o number))
      ⊎ (hi_or o number < lo_of e))) chunks
  pub has : (s : ℕ) → Has o s → Covers (members_of chunks) s
  pub owns : (s : ℕ) → lo_or o number ≤ s → s ≤ hi_or o number
      → Covers (members_of chunks) s → Has o s
