-- The answer about a key.
use Rattle.std.specs.Prelude.{◌<◌, ◌^◌, Option, Some, None}
use Rattle.std.specs.List.{AllByRecursion}
use Rattle.krl_types.specs.Subject.{Subject}
use Rattle.krl_entries.specs.declared.reasons.Reasons.{Reasons}
use Rattle.text_index.specs.Explaining.{Explained}

-- why it is revoked, and which lines of texts say so, if texts are given
pub record Answer : Type 0 where
  pub reasons : Reasons
  pub explained : Option Explained

-- for these reasons, by no texts
abbrev pub unexplained : (Subject → Reasons) → Subject → Answer
unexplained reasons asked = record { reasons = reasons asked; explained = None }

-- the numbers of lines fit in eight bytes
abbrev pub HaveNumbers : Option Explained → Type 0
HaveNumbers None = Unit {0}
HaveNumbers (Some explained) = AllByRecursion (λ line. line.number < 2 ^ 64) explained.lines
