-- The key of a private key file.
use Rattle.std.proofs.Common.{◌≡◌, ℕ, false, List, [], None, Ok}
use Rattle.ssh_cert.specs.SubjectReading.{subject_of}
use Rattle.key_text.specs.ContainerReading.{Opened}
use Rattle.audit_lines.specs.Outcome.{GivesOutcome, asked_outcome, opened_at, private_outcome}
use Rattle.audit_lines.specs.declared.outcome.Outcome.{Outcome as OutcomeOf}

pub private_gives : (outcome : OutcomeOf) (text blob comment : List ℕ) (opened : Opened) → opened_at text ≡ Ok opened → opened.blob ≡ blob → opened.comment ≡ comment
    → GivesOutcome outcome (asked_outcome None false [] blob comment (subject_of blob)) → GivesOutcome outcome (private_outcome (opened_at text))
private_gives outcome text blob comment opened read blobs comments gives =
    rw (read, blobs, comments) gives
