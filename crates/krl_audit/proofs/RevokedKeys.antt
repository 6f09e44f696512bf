-- The kind of a key, by what entries revoke.
use Rattle.std.proofs.Common.{◌≡◌, None, Option, List, refl, inl, inr}
use Rattle.std.proofs.lemmas.Bool.{cases_Bool}
use Rattle.krl_types.specs.Entry.{Entry}
use Rattle.krl_entries.specs.Reasons.{is_revoked}
use Rattle.krl_entries.specs.Revoked.{Revoked}
use Rattle.krl_entries.proofs.ReasonTests.{any_is_revoked}
use Rattle.krl_entries.proofs.RevokedTests.{revoked_tested}
use Rattle.krl_audit.specs.Audit.{answers_but, kind_of}
use Rattle.text_index.specs.NamingLines.{Register}
use Rattle.audit_lines.specs.Outcome.{Found, Key}
use Rattle.audit_text.specs.declared.line_kind.LineKind.TheVariants as kinds

pub found_revoked : (entries : List Entry) (texts : Option Register) (found : Found) → found.marker ≡ None → Revoked entries found.asked → kind_of (answers_but None entries texts) (Key found) ≡ kinds.Revoked
found_revoked entries texts found none revoked = rw (none, any_is_revoked entries found.asked, (revoked_tested entries found.asked).1 revoked) refl

pub found_fine : (entries : List Entry) (texts : Option Register) (found : Found) → found.marker ≡ None → (Revoked entries found.asked → ⊥) → kind_of (answers_but None entries texts) (Key found) ≡ kinds.Fine
found_fine entries texts found none kept = elim (cases_Bool (is_revoked entries found.asked)) [
  | inl is ↦ absurd (kept ((revoked_tested entries found.asked).0 is))
  | inr other ↦ rw (none, any_is_revoked entries found.asked, other) refl
]
