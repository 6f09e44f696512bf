-- The counts of lines, and the exit status.
use Rattle.std.specs.Prelude.{ℕ, ◌+◌, ◌-◌, ◌^◌, Bool, true, false, List, [], ◌∷◌, min, nat_lt}
use Rattle.std.specs.Prelude.{if◌then◌else◌}
use Rattle.krl_audit.specs.declared.counts.Counts.{Counts}
use Rattle.audit_text.specs.declared.line_kind.LineKind.{LineKind}
use Rattle.audit_text.specs.declared.line_kind.LineKind.TheVariants as kinds

abbrev pub is_key : LineKind → Bool
is_key kinds.Empty = false
is_key kinds.Distrusted = true
is_key kinds.Fine = true
is_key kinds.Revoked = true
is_key kinds.Unread = false

abbrev pub is_revoked_kind : LineKind → Bool
is_revoked_kind kinds.Revoked = true
is_revoked_kind _ = false

abbrev pub is_unread_kind : LineKind → Bool
is_unread_kind kinds.Unread = true
is_unread_kind _ = false

abbrev pub is_fine_kind : LineKind → Bool
is_fine_kind kinds.Fine = true
is_fine_kind _ = false

-- a count that stops at its maximum
abbrev pub one_more : ℕ → Bool → ℕ
one_more count is_one = if is_one then min (count + 1) (2 ^ 64 - 1) else count

abbrev pub counted : Counts → LineKind → Counts
counted counts kind = record {
  keys = one_more counts.keys (is_key kind);
  revoked = one_more counts.revoked (is_revoked_kind kind);
  unread = one_more counts.unread (is_unread_kind kind);
}

-- the counts with lines of these kinds
abbrev pub all_counted : Counts → List LineKind → Counts
all_counted counts [] = counts
all_counted counts (kind ∷ kinds) = all_counted (counted counts kind) kinds

-- the exit status, whether the audit was stopped or not
abbrev pub audit_status : Bool → Counts → ℕ
audit_status stopped counts =
    if stopped then 255
    else if nat_lt 0 counts.revoked then 1
    else if nat_lt 0 counts.unread then 3 else 0
