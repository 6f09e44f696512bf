-- The words for an answer: those that the program prints for the fault with its number.
use Rattle.std.specs.Prelude.{ℕ, suc, ◌/◌, ◌%◌, ◌==◌, if◌then◌else◌, ℤ, pos, negsuc}
use Rattle.std.specs.Prelude.{Option, Some, None, List, ◌++◌, codes}
use Rattle.ssh_wire.specs.declared.fault.WireFault.TheVariants.{Short, Negative, NotShortest}
use Rattle.ssh_key.specs.KeyFault.{key_fault_text}
use Rattle.ssh_key.specs.declared.fault.KeyFault.TheVariants as keys
use Rattle.key_text.specs.LineFault.{fault_text as line_fault_text}
use Rattle.key_text.specs.declared.line_fault.LineFault.TheVariants as lines
use Rattle.ssh_cert.specs.CertFault.{cert_fault_text}
use Rattle.ssh_cert.specs.declared.fault.CertFault.TheVariants as certs
use Rattle.krl_types.specs.KrlFault.{fault_text}
use Rattle.krl_types.specs.declared.krl_fault.KrlFault.TheVariants as lists

-- by the last two digits for a list
abbrev pub list_words : ℕ → Option (List ℕ)
list_words n =
    if n == 1 then Some (fault_text lists.Magic) else
    (if n == 2 then Some (fault_text lists.FormatVersion) else
    (if n == 3 then Some (fault_text lists.EndsEarly) else
    (if n == 4 then Some (fault_text lists.UnknownSection) else
    (if n == 5 then Some (fault_text lists.UnknownCertSection) else
    (if n == 6 then Some (fault_text lists.Length) else
    (if n == 7 then Some (fault_text lists.RangeReversed) else
    (if n == 8 then Some (fault_text lists.BitmapNegative) else
    (if n == 9 then Some (fault_text lists.BitmapWraps) else
    (if n == 10 then Some (fault_text lists.HashLength) else
    (if n == 11 then Some (fault_text lists.AfterSignature) else
    (if n == 12 then Some (fault_text lists.TooLong) else
    (if n == 13 then Some (fault_text lists.Read) else
    (if n == 15 then Some (fault_text lists.CriticalExtension) else
    (if n == 16 then Some (codes "an authority of the list is no key in its one spelling") else
    (if n == 17 then Some (codes "a line of the plain list is no key") else
    (if n == 18 then Some (codes "a key ID of the list has a zero byte") else
    None))))))))))))))))

-- by the number of a line's fault
abbrev pub line_words : ℕ → Option (List ℕ)
line_words n =
    if n == 1 then Some (line_fault_text lines.NoKey) else
    (if n == 2 then Some (line_fault_text lines.Base64) else
    (if n == 3 then Some (line_fault_text lines.WordDiffers) else
    None))

-- by the last two digits for a key
abbrev pub key_words : ℕ → Option (List ℕ)
key_words n =
    if n == 2 then Some (key_fault_text keys.UnknownType) else
    (if n == 3 then Some (key_fault_text keys.Curve) else
    (if n == 4 then Some (key_fault_text keys.Point) else
    (if n == 5 then Some (key_fault_text keys.Length) else
    (if n == 6 then Some (key_fault_text keys.Number) else
    (if n == 7 then Some (key_fault_text keys.Trailing) else
    (if n == 8 then Some (key_fault_text keys.TooLong) else
    (if n == 11 then Some (key_fault_text (keys.Wire Short)) else
    (if n == 12 then Some (key_fault_text (keys.Wire Negative)) else
    (if n == 13 then Some (key_fault_text (keys.Wire NotShortest)) else
    None)))))))))

-- by the number of a certificate's fault that is not a fault of its keys
abbrev pub cert_words : ℕ → Option (List ℕ)
cert_words n =
    if n == 1 then Some (cert_fault_text certs.Wire) else
    (if n == 2 then Some (cert_fault_text certs.UnknownType) else
    (if n == 4 then Some (cert_fault_text certs.CertType) else
    (if n == 5 then Some (cert_fault_text certs.Options) else
    (if n == 6 then Some (cert_fault_text certs.Principals) else
    (if n == 8 then Some (cert_fault_text certs.Signature) else
    (if n == 9 then Some (cert_fault_text certs.Trailing) else
    (if n == 10 then Some (codes "its key ID has a zero byte") else
    None)))))))

-- by the number of an answer that is not a fault
abbrev pub plain_words : ℕ → Option (List ℕ)
plain_words n =
    if n == 1 then Some (codes "no memory") else
    (if n == 2 then Some (codes "no list is loaded") else
    None)

-- the head goes before the words, if there are any
abbrev pub behind : List ℕ → Option (List ℕ) → Option (List ℕ)
behind head None = None
behind head (Some tail) = Some (head ++ tail)

-- by an answer below zero, without its sign: the hundreds say what was refused
abbrev pub refusal : ℕ → Option (List ℕ)
refusal n =
    if n / 100 == 0 then plain_words (n % 100) else
    (if n / 100 == 1 then list_words (n % 100) else
    (if n / 100 == 2 then line_words (n % 100) else
    (if n / 100 == 3 then behind (codes "subject 1 Key, ") (key_words (n % 100)) else
    (if n / 100 == 4 then behind (codes "subject 2 Cert, ") (cert_words (n % 100)) else
    (if n / 100 == 5 then behind (codes "subject 2 Cert, cert 3 Key, ") (key_words (n % 100)) else
    (if n / 100 == 6
    then behind (codes "subject 2 Cert, cert 7 Authority, ") (key_words (n % 100))
    else None))))))

abbrev pub or_unknown : Option (List ℕ) → List ℕ
or_unknown None = codes "unknown answer"
or_unknown (Some text) = text

-- by an answer
abbrev pub words : ℤ → List ℕ
words (pos n) =
    if n == 0 then codes "ok" else (if n == 1 then codes "revoked" else or_unknown None)
words (negsuc n) = or_unknown (refusal (suc n))
