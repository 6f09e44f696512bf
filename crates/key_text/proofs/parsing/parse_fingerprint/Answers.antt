-- The text begins with the prefix, and the rest is read.
use Rattle.std.proofs.Common.{ℕ, ◌-◌, List, arith, drop, length, length-drop, subst}
use Rattle.std.proofs.lemmas.List.{take_all}
use Rattle.base64.specs.Engines.{standard_no_pad}
use Rattle.base64.specs.GeneralPurpose.{decode_of}
use Rattle.key_text.specs.FingerprintReading.{GivesDigest, fingerprint_at, sized}
use Rattle.key_text.proofs.parsing.parse_fingerprint.Goals as goal

pub returns : goal.returns
unfolding fingerprint_at
returns c =
    let rest = drop 7 c.args.text.now in
    let whole = take_all (length c.args.text.now - 7) rest (omega (arith, length-drop 7 c.args.text.now)) in
    record { exact = rw (← c.if-not-starts_with.ensures.value) (subst (λ (bytes : List ℕ). GivesDigest c.digest.result (sized (decode_of standard_no_pad bytes))) whole c.digest.ensures) }
