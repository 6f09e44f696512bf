-- The lines of a plain list with DSA, which OpenSSH 10 does not read.
use Rattle.std.specs.Prelude.{◌≡◌, ℕ, ◌+◌, if◌then◌else◌, Bool, true, false, List, ◌∷◌, ◌++◌}
use Rattle.std.specs.Prelude.{All, codes, length, Option, Some, None, Result, Ok, Err}
use Rattle.ssh_key.specs.Key.{PublicKey}
use Rattle.ssh_key.specs.KeyReading.{key_at}
use Rattle.ssh_key.specs.declared.fault.KeyFault.{KeyFault}
use Rattle.ssh_key.specs.declared.kind.Kind.{Kind}
use Rattle.ssh_key.specs.declared.kind.Kind.TheVariants.{Dsa}
use Rattle.krl_types.specs.Subject.{CertNames, Subject}
use Rattle.keyed_lines.specs.Keys.{subject_in}
use Rattle.keyed_lines.specs.declared.key_cause.KeyCause.{KeyCause}
use Rattle.plain_list.specs.Line.{content_of, is_remark}
use Rattle.plain_list.specs.declared.dsa.DsaLine.{DsaLine}
use Rattle.plain_list.specs.declared.dsa.DsaPart.{DsaPart}
use Rattle.plain_list.specs.declared.dsa.DsaPart.TheVariants as parts

abbrev pub dsa_words : DsaPart → List ℕ
dsa_words parts.Key = codes "a DSA key"
dsa_words parts.Authority = codes "a certificate of a DSA CA"

-- ---- a key

abbrev pub is_dsa_kind : Kind → Bool
is_dsa_kind Dsa = true
is_dsa_kind _ = false

abbrev pub is_dsa_key : Result PublicKey KeyFault → Bool
is_dsa_key (Ok key) = is_dsa_kind key.kind
is_dsa_key (Err fault) = false

-- whether a blob is that of a DSA key
abbrev pub is_dsa : List ℕ → Bool
is_dsa blob = is_dsa_key (key_at blob)

-- ---- a line

-- the authority of a certificate
abbrev pub authority_part : Option CertNames → Option DsaPart
authority_part None = None
authority_part (Some names) = if is_dsa names.authority then Some parts.Authority else None

-- the plain key, or that of a certificate, before the authority
abbrev pub dsa_part : Subject → Option DsaPart
dsa_part asked = if is_dsa asked.plain then Some parts.Key else authority_part asked.cert

abbrev pub part_in : Result Subject KeyCause → Option DsaPart
part_in (Ok asked) = dsa_part asked
part_in (Err cause) = None

unfoldable pub line_dsa : List ℕ → Option DsaPart
line_dsa line =
    if is_remark (content_of line) then None else part_in (subject_in (content_of line))

-- ---- the first line

abbrev pub HasNoDsa : List ℕ → Type 0
HasNoDsa line = line_dsa line ≡ None

-- The line with this number is the first one with DSA.
pub record IsDsaAt (lines : List (List ℕ)) (number : ℕ) (part : DsaPart) : Type 0 where
  pub before : List (List ℕ)
  pub line : List ℕ
  pub after : List (List ℕ)
  pub parts : lines ≡ before ++ line ∷ after
  pub counted : number ≡ length before + 1
  pub none_before : All HasNoDsa before
  pub part_is : line_dsa line ≡ Some part

abbrev pub IsFirstDsa : List (List ℕ) → Option DsaLine → Type 0
IsFirstDsa lines None = All HasNoDsa lines
IsFirstDsa lines (Some found) = IsDsaAt lines found.number found.part
