-- The authority that the line gives is current, or its entry is added.
use Rattle.std.proofs.Common.{refl}
use Rattle.text_entries.specs.Says.{Current}
use Rattle.text_entries.proofs.Said.{under_line}
use Rattle.text_entries.proofs.line.take_order.Goals as goal

pub returns-in_ok-read_authority-in-Authority : goal.returns-in_ok-read_authority-in-Authority
returns-in_ok-read_authority-in-Authority g c =
    rw c.in-Authority.is (Current c.in_ok-read_authority-in-Authority.field-0, rw c.in_ok-read_authority-in-Authority.ensures refl, (refl, refl))

pub returns-in_ok-read_authority_blob-in-AuthorityBlob : goal.returns-in_ok-read_authority_blob-in-AuthorityBlob
returns-in_ok-read_authority_blob-in-AuthorityBlob g c =
    rw c.in-AuthorityBlob.is (Current c.in_ok-read_authority_blob-in-AuthorityBlob.field-0, rw c.in_ok-read_authority_blob-in-AuthorityBlob.ensures refl, (refl, refl))

pub returns-in-Serial : goal.returns-in-Serial
returns-in-Serial g c = rw (c.in-Serial.is, ← c.under.ensures) (under_line _ _ _ _ _ c.add_serial.ensures)

pub returns-in-Id : goal.returns-in-Id
returns-in-Id g c = rw (c.in-Id.is, ← c.under-in-Id.ensures) (under_line _ _ _ _ _ c.add_id.ensures)

pub returns-in-IdHex : goal.returns-in-IdHex
returns-in-IdHex g c = rw (c.in-IdHex.is, ← c.under-in-IdHex.ensures) (under_line _ _ _ _ _ c.add_id_hex.ensures)
