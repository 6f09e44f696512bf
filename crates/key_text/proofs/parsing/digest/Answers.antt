-- The decoded bytes are read unchanged, and their fault is not that of another prefix.
use Rattle.std.proofs.Common.{◌≢◌, ℕ, ◌==◌, List, length, Result, Ok, Err, ap}
use Rattle.base64.specs.Engines.{standard_no_pad}
use Rattle.base64.specs.GeneralPurpose.{decode_of}
use Rattle.base64.specs.declared.decode.DecodeError.{DecodeError}
use Rattle.ssh_wire.proofs.Steps.{failed_err}
use Rattle.key_text.specs.FingerprintReading.{sized}
use Rattle.key_text.specs.declared.fingerprint_fault.FingerprintFault.TheVariants.{Length, Prefix}
use Rattle.key_text.proofs.parsing.digest.Goals as goal

never_prefix : (read : Result (List ℕ) DecodeError) → sized read ≢ Err Prefix
never_prefix (Ok bytes) e = let other = (failed_err (length bytes == 32) bytes Length Prefix e).1 in absurd cc
never_prefix (Err error) e = absurd cc

pub returns-in-Ok : goal.returns-in-Ok
returns-in-Ok c = rw (c.in-Ok.ensures.ok, ← c.deref.ensures.value) c.whole_digest.ensures

pub returns-in-Err-DecodeError : goal.returns-in-Err-DecodeError
returns-in-Err-DecodeError c = ap sized (rw c.in-Err-DecodeError.field-0-is at c.in-Err-DecodeError.ensures.err)

pub returns-in-Err-OutOfMemory : goal.returns-in-Err-OutOfMemory
returns-in-Err-OutOfMemory c = never_prefix (decode_of standard_no_pad c.args.base64.now)
