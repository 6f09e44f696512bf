-- Lines that mean the same wherever they are below the names that they use.
use Rattle.std.specs.Prelude.{◌≡◌, ℕ, List, Ok}
use Rattle.text_entries.specs.Lines.{beginning}
use Rattle.text_entries.specs.Says.{Saying, line_says, standing_after}
use Rattle.text_entries.specs.declared.standing.Standing.{Standing}

-- The line has no fault where no authority is current, and leaves the names as they are: it has the
-- name of its authority, or needs none.
pub record IsFree (standing : Standing) (line : List ℕ) : Type 0 where
  pub saying : Saying
  pub says : line_says (beginning standing) line ≡ Ok saying
  pub keeps : (standing_after saying (beginning standing)).names ≡ standing.names
