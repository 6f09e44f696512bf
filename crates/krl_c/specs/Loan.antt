-- The stored list of a handle, borrowed for as long as a lifetime lasts.
use base.Fml.{Fml, Lft, Share, flft, fsep}
use denote.RawPtr.{Ptr}
use denote.Struct.Lending.{lent_at}
use Rattle.krl_c.specs.contracts.stored.Stored.{the_row}
use Rattle.krl_c.specs.declared.stored.Stored.{Stored}

-- the borrowed value, the lifetime, and a share of the right to end it
pub record Loan : Type 0 where
  pub stored : Stored
  pub life : Lft
  pub share : Share

-- The value is at the pointer, only to be read, and the lifetime lasts. Many may have such a loan
-- at the same time, each with a share.
abbrev pub is_lent : Ptr → Loan → Fml
is_lent at loan = fsep (flft loan.life loan.share) (lent_at the_row at loan.stored loan.life)
