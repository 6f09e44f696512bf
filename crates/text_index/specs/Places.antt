-- The postings of an index, by the numbers under which they are.
use Rattle.std.specs.Prelude.{ℕ, List}
use Rattle.std.specs.Global.{Vec}
use Rattle.text_index.specs.declared.posting.Posting.{Posting}

-- the postings under each number, in the order of the numbers
pub record Places : Type 0 where
  pub entries : List (ℕ × Vec Posting)
