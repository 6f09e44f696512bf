-- The value is what the cursor read.
use Rattle.std.proofs.Common.{[], ◌∷◌, refl}
use Rattle.key_text.proofs.container.secrets.pass.Goals as goal

pub returns-in_ok-mpint-in-Number : goal.returns-in_ok-mpint-in-Number
returns-in_ok-mpint-in-Number c = (c.in_ok-mpint-in-Number.field-0.now, rw c.in-Number.is c.in_ok-mpint-in-Number.ensures.exact)

pub returns-in_ok-string-in-Text : goal.returns-in_ok-string-in-Text
returns-in_ok-string-in-Text c = (c.in_ok-string-in-Text.field-0.now, rw c.in-Text.is c.in_ok-string-in-Text.ensures.exact)

pub returns-in_ok-byte-in-Byte : goal.returns-in_ok-byte-in-Byte
returns-in_ok-byte-in-Byte c = (c.in_ok-byte-in-Byte.field-0 ∷ [], rw (c.in-Byte.is, c.in_ok-byte-in-Byte.ensures.exact) refl)
