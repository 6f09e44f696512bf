-- The words for why a run stops.
use Rattle.std.specs.Prelude.{ℕ, List, codes}
use Rattle.key_text.specs.declared.line_fault.LineFault.{LineFault}
use Rattle.key_text.specs.declared.line_fault.LineFault.TheVariants as keyless
use Rattle.krl_types.specs.declared.krl_fault.KrlFault.{KrlFault}
use Rattle.krl_types.specs.declared.krl_fault.KrlFault.TheVariants as lists
use Rattle.keyed_lines.specs.declared.key_cause.KeyCause.TheVariants as keys
use Rattle.run_faults.specs.declared.cause.Cause.{Cause}
use Rattle.run_faults.specs.declared.cause.Cause.TheVariants as causes
use Rattle.run_faults.specs.declared.file_fault.FileFault.{FileFault}
use Rattle.run_faults.specs.declared.file_fault.FileFault.TheVariants as files

abbrev pub file_words : FileFault → List ℕ
file_words files.Open = codes "it cannot be opened"
file_words files.Read = codes "it cannot be read to its end"
file_words files.TooLong = codes "it has more than 16 MiB"
file_words files.NoMemory = codes "out of memory"
file_words files.NoKeys = codes "it has no key"
file_words files.NoCertificate = codes "it has no certificate"
file_words files.Locked = codes "another update of it does not end"

abbrev pub krl_words : KrlFault → List ℕ
krl_words lists.Magic = codes "it does not begin as a revocation list"
krl_words lists.FormatVersion = codes "a format of lists other than version 1"
krl_words lists.EndsEarly = codes "truncated, in its header or within a section"
krl_words lists.UnknownSection = codes "a section of an unknown type"
krl_words lists.UnknownCertSection = codes "a section of certificates has a part of an unknown type"
krl_words lists.Length = codes "a length and the bytes that it counts do not agree"
krl_words lists.RangeReversed = codes "a range of serial numbers ends below its first one"
krl_words lists.BitmapNegative = codes "a bitmap of serial numbers is a negative number"
krl_words lists.BitmapWraps = codes "a bitmap names serial numbers above the largest one"
krl_words lists.HashLength = codes "a hash of a wrong length"
krl_words lists.AfterSignature = codes "bytes that are no signature after its signature"
krl_words lists.TooLong = codes "it has more than 64 MiB"
krl_words lists.Read = codes "it cannot be read to its end"
krl_words lists.NoMemory = codes "out of memory"
krl_words lists.CriticalExtension = codes "a critical extension, which this program does not know"

abbrev pub line_words : LineFault → List ℕ
line_words keyless.NoKey = codes "no key type stands there"
line_words keyless.Base64 = codes "the key is not whole base64"
line_words keyless.WordDiffers = codes "the key is of another type"
line_words keyless.NoMemory = codes "out of memory"

abbrev pub cause_words : Cause → List ℕ
cause_words (causes.File fault) = file_words fault
cause_words (causes.Krl fault) = krl_words fault
cause_words (causes.Key (keys.Line fault)) = line_words fault
cause_words (causes.Key (keys.Subject fault)) = codes "the key is cut or misspelt"
cause_words (causes.Private fault) = codes "the private key file is cut or misspelt"
cause_words (causes.Spec fault) = codes "no line of a specification file"
cause_words causes.NoMemory = codes "out of memory"
cause_words causes.VersionFull = codes "its version is the largest that there is"
cause_words causes.TextTooLong = codes "it would be longer than 64 MiB"
cause_words (causes.Output count) = codes "it takes no more bytes"
