-- Which lines explain that a key or a certificate is revoked.
use Rattle.std.specs.Prelude.{ℕ, Bool, ◌&&◌, not, List, [], ◌∷◌, map, Option, Some, None}
use Rattle.std.specs.List.{filter, list_any}
use Rattle.krl_types.specs.Subject.{CertNames, Subject}
use Rattle.krl_entries.specs.Reasons.{bits_in, every_reason, has_reason, reasons_of}
use Rattle.krl_entries.specs.declared.reasons.Reason.{Reason}
use Rattle.krl_entries.specs.declared.reasons.Reasons.{Reasons}
use Rattle.text_entries.specs.AuthorityNames.{NameOfKey}
use Rattle.text_index.specs.Indexing.{line_of}
use Rattle.text_index.specs.NamingLines.{Line, NamingLine, Register}
use Rattle.text_index.specs.declared.explaining.Explanation.{Explanation}

-- The entry of the line gives this reason.
abbrev pub gives : Subject → Reason → NamingLine → Bool
gives asked reason line = has_reason (reasons_of (line.entry ∷ []) asked) reason

-- The entry of the line gives one of these reasons.
unfoldable pub explains : Subject → Reasons → NamingLine → Bool
explains asked reasons line =
    list_any (λ reason. has_reason reasons reason && gives asked reason line) every_reason

-- the lines that give one of these reasons, in order
unfoldable pub explaining : List NamingLine → Subject → Reasons → List NamingLine
explaining lines asked reasons = filter (explains asked reasons) lines

-- those of these reasons that no line gives
unfoldable pub unnamed_by : List NamingLine → Subject → Reasons → Reasons
unnamed_by lines asked reasons =
    let is_unnamed : Reason → Bool =
    λ reason. has_reason reasons reason && not (list_any (gives asked reason) lines) in
    record { bits = bits_in (map is_unnamed every_reason) }

-- the name of the authority of a certificate
abbrev pub authority_name : NameOfKey → Option CertNames → Option (List ℕ)
authority_name names None = None
authority_name names (Some cert) = names cert.authority

-- lines that give reasons, the reasons that no line gives, and the name of the certificate's
-- authority
pub record Explained : Type 0 where
  pub lines : List Line
  pub unnamed : Reasons
  pub authority : Option (List ℕ)

-- exactly those of the lines that give one of these reasons, the reasons that none gives, and the
-- name that the texts give to the authority
abbrev pub explained_by : Register → Subject → Reasons → Explained
explained_by texts asked reasons = record {
  lines = map (λ line. line.line) (explaining texts.lines asked reasons);
  unnamed = unnamed_by texts.lines asked reasons;
  authority = authority_name texts.names asked.cert;
}

abbrev pub explained_of : Explanation → Explained
explained_of explanation = record {
  lines = map line_of explanation.lines.items;
  unnamed = explanation.unnamed;
  authority = explanation.authority;
}
