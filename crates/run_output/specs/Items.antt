-- When a line is answered, by what it spells.
use Rattle.std.specs.Prelude.{ℕ, List}
use Rattle.ssh_key.specs.Key.{IsKey, PublicKey}
use Rattle.key_text.specs.KeyLine.{IsKeyLine}
use Rattle.key_text.specs.LineReading.{KeyLine}
use Rattle.krl_types.specs.Subject.{Subject}
use Rattle.ssh_cert.specs.SubjectReading.{IsSubject}

-- The line of a key file is a key line with the blob of a plain key or of a certificate, which has
-- this subject and this plain key.
pub record SpellsKey (text : List ℕ) (line : KeyLine) (asked : Subject) (key : PublicKey)
    : Type 0 where
  pub is_line : IsKeyLine text line.word line.blob line.comment
  pub is_asked : IsSubject line.blob asked
  pub is_key : IsKey asked.plain key
