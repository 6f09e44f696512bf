-- The condition that a list must meet for the keys of a file.
use Rattle.std.specs.Prelude.{◌≡◌, ℕ, ◌==◌, nat_lt, if◌then◌else◌, Bool, true, false, List, []}
use Rattle.std.specs.Prelude.{◌∷◌, codes, ◌||◌, ◌⊎◌, IsTrue, Some, None}
use Rattle.std.specs.List.{AllByRecursion}
use Rattle.key_text.specs.declared.marker.Marker.TheVariants as markers
use Rattle.krl_audit.specs.Counts.{is_key}
use Rattle.audit_lines.specs.Outcome.{Empty, Key, Outcome, Placed, Unread}
use Rattle.audit_text.specs.declared.line_kind.LineKind.{LineKind}
use Rattle.audit_text.specs.declared.line_kind.LineKind.TheVariants as kinds
use Rattle.krl_audit.specs.declared.counts.Counts.{Counts}
use Rattle.audit_text.specs.declared.format.Format.{Format}
use Rattle.krl_audit.specs.declared.judge.Shown.{Shown}
use Rattle.list_conditions.specs.declared.role.Role.{Role}
use Rattle.list_conditions.specs.declared.role.Role.TheVariants as roles

-- None of them may be revoked, or each of them must be.
abbrev pub are_right : Role → Counts → Bool
are_right roles.Keep counts = counts.revoked == 0
are_right roles.Canary counts = counts.revoked == counts.keys

-- There is a key, and all lines are read.
abbrev pub is_met : Role → Counts → Bool
is_met role counts =
    if (counts.keys == 0) || nat_lt 0 counts.unread then false else are_right role counts

-- the keys that do not meet the condition are printed, and the lines that are not read
abbrev pub shown_for : Role → Format → Shown
shown_for roles.Keep form =
    record { label = None; revoked = true; unread = true; fine = false; format = form }
shown_for roles.Canary form =
    record { label = None; revoked = false; unread = true; fine = true; format = form }

abbrev pub role_word : Role → List ℕ
role_word roles.Keep = codes "keep"
role_word roles.Canary = codes "canary"

-- ---- the same of the lines of a file

-- A line of this kind may be in the file. A key that its line marks as revoked is not trusted
-- there: it counts as a key of the file, and never as revoked.
abbrev pub MayBe : Role → LineKind → Type 0
MayBe role kinds.Empty = Unit {0}
MayBe role kinds.Unread = ⊥
MayBe roles.Keep kinds.Revoked = ⊥
MayBe roles.Keep kinds.Fine = Unit {0}
MayBe roles.Keep kinds.Distrusted = Unit {0}
MayBe roles.Canary kinds.Revoked = Unit {0}
MayBe roles.Canary kinds.Fine = ⊥
MayBe roles.Canary kinds.Distrusted = ⊥

-- Some line has a key.
abbrev pub HasKey : List LineKind → Type 0
HasKey [] = ⊥
HasKey (line ∷ lines) = IsTrue (is_key line) ⊎ HasKey lines

-- Each line may be in the file, and one has a key.
abbrev pub AreMet : Role → List LineKind → Type 0
AreMet role lines = AllByRecursion (MayBe role) lines × HasKey lines

-- ---- keys that are marked as revoked

abbrev pub IsMarkedKey : Outcome → Type 0
IsMarkedKey Empty = ⊥
IsMarkedKey (Key found) = found.marker ≡ Some markers.Revoked
IsMarkedKey (Unread why) = ⊥

-- The line is read, and marks its key as revoked if it has one.
abbrev pub IsMarked : Outcome → Type 0
IsMarked Empty = Unit {0}
IsMarked (Key found) = found.marker ≡ Some markers.Revoked
IsMarked (Unread why) = ⊥

abbrev pub AreMarked : List Placed → Type 0
AreMarked lines = AllByRecursion (λ (line : Placed). IsMarked line.outcome) lines

-- Some line has a key that it marks as revoked.
abbrev pub SomeMarked : List Placed → Type 0
SomeMarked [] = ⊥
SomeMarked (line ∷ lines) = IsMarkedKey line.outcome ⊎ SomeMarked lines
