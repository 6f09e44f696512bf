-- The line about a fault that stopped the run (krl(1), KRL MAKE).
use Rattle.std.specs.Prelude.{ℕ, false, true, List, [], ◌++◌, codes, decimal, Option, Some, None}
use Rattle.std.specs.Prelude.{if◌then◌else◌}
use Rattle.run_faults.specs.RunFault.{cause_text, line_part}
use Rattle.run_faults.specs.declared.cause.Cause.TheVariants as runs
use Rattle.run_faults.specs.declared.spec_cause.SpecCause.{SpecCause}
use Rattle.run_faults.specs.declared.spec_cause.SpecCause.TheVariants as specs
use Rattle.run_faults.specs.Causes.{cause_words}
use Rattle.line_pieces.specs.Visible.{visible}
use Rattle.text_entries.specs.Misspelt.{Misspelt}
use Rattle.text_entries.specs.declared.hint.Hint.{Hint}
use Rattle.text_entries.specs.declared.hint.Hint.TheVariants as hints
use Rattle.text_entries.specs.TextCause.{text_cause_text}
use Rattle.text_entries.specs.declared.text_cause.TextCause.{TextCause}
use Rattle.text_entries.specs.declared.text_cause.TextCause.TheVariants as texts
use Rattle.text_run.specs.Fault.{MakeFault}
use Rattle.text_run.specs.Making.{Text}
use Rattle.text_run.specs.Naming.{Naming, can_be_meant, is_sought, naming_meant, texts_naming}
use Rattle.text_run.specs.declared.make_fault.MakeCause.{MakeCause}
use Rattle.text_run.specs.declared.make_fault.MakeCause.TheVariants.{Run, Line, Empty, NoEntry}
use Rattle.text_run.specs.declared.make_fault.MakeCause.TheVariants.{OldVersion}

-- ---- in words

abbrev pub spec_words : SpecCause → List ℕ
spec_words specs.Number = codes "a serial number is a number below 2^64"
spec_words specs.Zero = codes "serial number 0 names no certificate"
spec_words specs.Reversed = codes "a range of serial numbers ends below its first one"
spec_words specs.NoAuthority =
    codes "no CA is given: by @NAME before the word, or by a ca: line with no key or hash "
    ++ codes "between"
spec_words specs.EmptyId = codes "a key ID is empty"
spec_words (specs.Key cause) = cause_words (runs.Key cause)
spec_words (specs.Fingerprint fault) = codes "the hash is cut, padded or misspelt"
spec_words specs.NoMemory = codes "out of memory"

abbrev pub text_words : TextCause → List ℕ
text_words (texts.Spec cause) = spec_words cause
text_words texts.Certificate = codes "a CA is given by its key, and not by a certificate"
text_words texts.NoBytes = codes "a CA has bytes"
text_words texts.Base64 = codes "no whole base64 with padding"
text_words texts.Hex = codes "no pairs of hexadecimal digits"
text_words texts.CutId =
    codes "a # with no blank before it would cut the key ID short: use id-hex:"
text_words texts.UnknownWord =
    codes "a line begins with ca:, ca-blob:, serial:, id:, id-hex:, key:, key-blob:, sha1:, "
    ++ (codes "sha256: or hash:, with @NAME, or with the type of a key, and nothing may be "
    ++ codes "before it, such as options")
text_words texts.ControlInId =
    codes "a key ID has a control character, such as a tab or a carriage return: use id-hex:"
text_words texts.ZeroInId = codes "OpenSSH takes no key ID with a zero byte: use serial:"
text_words texts.KeyAsId =
    codes "a key stands where a key ID belongs: use key:, or id-hex: for a key ID that begins so"
text_words texts.LeadingZero =
    codes "a serial number has a leading zero: OpenSSH would read octal digits"
text_words texts.QuotedId =
    codes "a key ID has no quotes around it: use id-hex: for one that has them"
text_words texts.SeveralIds =
    codes "a line has one key ID: use id-hex: for one that has a comma and a blank"
text_words texts.BadName =
    codes "a name behind @ has 1 to 64 letters, digits, -, _ and ., and is not all"
text_words texts.OtherKey = codes "the name has another key"
text_words texts.UnknownName = codes "no CA has this name above"
text_words texts.MarkedWord =
    codes "behind @NAME comes a colon and a key, or serial:, id: or id-hex:"
text_words texts.BadDate = codes "until needs a day, as YYYY-MM-DD"
text_words texts.NoLastDay =
    codes "only a serial number, a key ID or a certificate has a last day"
text_words texts.DateInComment =
    codes "a day in a comment ends nothing: begin the line with until YYYY-MM-DD"
text_words texts.DateInId =
    codes "a day in a key ID ends nothing: begin the line with until YYYY-MM-DD, or use id-hex: "
    ++ codes "for a key ID that has one"

abbrev pub make_words : MakeCause → List ℕ
make_words (Run cause) = cause_words cause
make_words (Line cause) = text_words cause
make_words Empty =
    codes "the list would revoke nobody: no text has an entry, or each is over"
make_words NoEntry = codes "it has no entry, which --allow-empty allows"
make_words OldVersion = codes "the list there has this version or a later one"

-- a misspelt word, and the one that was meant, with its colon
abbrev pub meant_words : Misspelt → List ℕ
meant_words misspelt =
    codes "\""
    ++ (visible true misspelt.word
    ++ (codes "\" is no word of a text: did you mean \"" ++ (misspelt.meant ++ codes ":\"?")))

abbrev pub other_found : (name : List ℕ) → Option Naming → List ℕ
other_found name None = text_words texts.OtherKey
other_found name (Some found) =
    codes "the name \""
    ++ (visible true name
    ++ (codes "\" has another key: "
    ++ (visible false found.text ++ (codes ", line " ++ decimal found.line))))

-- the first line that gives a name to another key
abbrev pub other_words : List Text → (name : List ℕ) → List ℕ
other_words texts name = other_found name (texts_naming (is_sought true name) texts)

abbrev pub close_words : Option Naming → List ℕ
close_words None = []
close_words (Some found) =
    codes ": did you mean \""
    ++ (visible true found.name
    ++ (codes "\" ("
    ++ (visible false found.text ++ (codes ", line " ++ (decimal found.line ++ codes ")?")))))

-- A name that no authority has, and the first line that gives it or one which is close. A name that
-- no authority can have is not shown.
abbrev pub unknown_words : List Text → (name : List ℕ) → List ℕ
unknown_words all name =
    if can_be_meant name
    then codes "no CA is named \""
    ++ (visible true name ++ (codes "\" above" ++ close_words (naming_meant all name)))
    else text_words texts.UnknownName

abbrev pub name_words : MakeCause → List Text → (name : List ℕ) → List ℕ
name_words (Line texts.OtherKey) all name = other_words all name
name_words cause all name = unknown_words all name

-- what a line may be meant as
abbrev pub hint_words : MakeCause → List Text → Hint → List ℕ
hint_words cause all (hints.Misspelt misspelt) = meant_words misspelt
hint_words cause all hints.Fingerprint = codes "a fingerprint needs \"hash:\" before it"
hint_words cause all hints.KeyFile = codes "the key itself stands here, not its file"
hint_words cause all hints.ByteOrderMark = codes "the file begins with a byte order mark"
hint_words cause all hints.Hexadecimal = codes "hexadecimal digits need 0x before them"
hint_words cause all (hints.Name name) = name_words cause all name
hint_words cause all hints.ColonBehindName =
    codes "behind @NAME and a colon comes a key: an entry has no colon there"
hint_words cause all hints.LastDay =
    codes "a last day comes first on a line: until YYYY-MM-DD"
hint_words cause all hints.NoLastDay =
    codes "a key has no last day: take the day out of its comment"

-- why no list is made, or what the line may be meant as
abbrev pub why_words : List Text → Option Hint → MakeCause → List ℕ
why_words all None cause = make_words cause
why_words all (Some hint) cause = hint_words cause all hint

-- ---- by its number

abbrev pub make_cause_text : MakeCause → List ℕ
make_cause_text (Run cause) = cause_text cause
make_cause_text (Line cause) = text_cause_text cause
make_cause_text Empty = codes "make 1 Empty"
make_cause_text NoEntry = codes "make 2 NoEntry"
make_cause_text OldVersion = codes "make 3 OldVersion"

-- ---- the line

-- the name of the text or of the list, the number of the line, and the fault
abbrev pub fault_line : List Text → MakeFault → List ℕ
fault_line all fault =
    codes "krl: "
    ++ (visible false fault.name
    ++ (codes ": " ++ (line_part fault.line
    ++ (why_words all fault.hint fault.cause
    ++ (codes " [" ++ (make_cause_text fault.cause ++ codes "]\n"))))))
