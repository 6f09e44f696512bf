-- A key as sshd names it.
use Rattle.std.specs.Prelude.{ℕ, List, length, take, drop, nat_lt, codes, Option, Some, None}
use Rattle.std.specs.Prelude.{if◌then◌else◌}
use Rattle.std.specs.Borrow.{Bor}
use Rattle.std.specs.Result.{result_ok}
use Rattle.key_text.specs.FingerprintReading.{fingerprint_at}
use Rattle.login_lines.specs.declared.key_name.KeyName.{KeyName}
use Rattle.login_lines.specs.declared.words.Class.TheVariants.{Kind}
use Rattle.login_lines.specs.Words.{span_at, ◌>>=◌}

-- a kind, as `ED25519`, and the SHA-256 of a key's blob
pub record Name : Type 0 where
  pub kind : List ℕ
  pub sha256 : List ℕ

abbrev pub name_of : KeyName → Name
name_of key = record { kind = key.kind.now; sha256 = key.sha256 }

abbrev pub name_and_rest : KeyName × Bor (List ℕ) → Name × List ℕ
name_and_rest p = (name_of p.0, p.1.now)

abbrev pub digest_at : List ℕ → Option (List ℕ)
digest_at print = result_ok (fingerprint_at print)

abbrev pub named : List ℕ → List ℕ → List ℕ → Name × List ℕ
named kind rest sha256 = (record { kind = kind; sha256 = sha256 }, rest)

-- a fingerprint of 50 bytes, and the text after it
abbrev pub printed_at : List ℕ → List ℕ → Option (Name × List ℕ)
printed_at kind text =
    if nat_lt (length text) 50 then None
    else (digest_at (take 50 text) >>= λ sha256. Some (named kind (drop 50 text) sha256))

-- the kind, a space and the fingerprint, and the text after them
unfoldable pub key_at : List ℕ → Option (Name × List ℕ)
key_at text = span_at Kind (codes " ") text >>= λ kind. printed_at kind.0 kind.1
