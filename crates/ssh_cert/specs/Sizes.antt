-- The size of a subject, compared with its blob.
use Rattle.std.specs.Prelude.{ℕ, ◌+◌, ◌≤◌, List, length, Option, Some, None}
use Rattle.krl_types.specs.Subject.{CertNames, Subject}

-- the bytes of the names of a certificate
abbrev pub names_length : Option CertNames → ℕ
names_length None = 0
names_length (Some names) = length names.authority + length names.key_id

-- how many bytes a subject can store: those of a plain key, or of the names of a certificate
abbrev pub asked_size : List ℕ → Option CertNames → ℕ
asked_size plain None = length plain
asked_size plain names = names_length names

-- A subject has no more bytes than its blob, also if the plain key and the names are added up. No
-- blob is shorter than that of the shortest key.
pub record IsWithinBlob (blob : List ℕ) (asked : Subject) : Type 0 where
  pub asked_is : asked_size asked.plain asked.cert ≤ length blob
  pub together : length asked.plain + names_length asked.cert ≤ length blob
  pub least : 19 ≤ length blob
