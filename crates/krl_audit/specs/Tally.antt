-- How many lines of a file there are of each kind, and which of them are printed.
use Rattle.std.specs.Prelude.{ℕ, ◌&&◌, Bool, List, [], ◌∷◌, nat_lt}
use Rattle.krl_audit.specs.Counts.{is_fine_kind, is_revoked_kind, is_unread_kind, one_more}
use Rattle.audit_text.specs.declared.line_kind.LineKind.{LineKind}
use Rattle.krl_audit.specs.declared.judge.Shown.{Shown}
use Rattle.krl_audit.specs.declared.tally.Tally.{Tally}

-- the number of lines of a file that are printed one by one, of each kind
abbrev pub most : ℕ
most = 20

abbrev pub none_yet : Tally
none_yet = record { revoked = 0; unread = 0; fine = 0 }

abbrev pub tallied : Tally → LineKind → Tally
tallied tally kind = record {
  revoked = one_more tally.revoked (is_revoked_kind kind);
  unread = one_more tally.unread (is_unread_kind kind);
  fine = one_more tally.fine (is_fine_kind kind);
}

abbrev pub all_tallied : Tally → List LineKind → Tally
all_tallied tally [] = tally
all_tallied tally (kind ∷ kinds) = all_tallied (tallied tally kind) kinds

-- One more line of this kind is printed.
abbrev pub is_few : ℕ → Bool
is_few lines = nat_lt lines most

-- the findings that are printed after these lines of their file
abbrev pub within : Tally → Shown → Shown
within tally shown = record {
  label = shown.label;
  revoked = shown.revoked && is_few tally.revoked;
  unread = shown.unread && is_few tally.unread;
  fine = shown.fine && is_few tally.fine;
  format = shown.format;
}
