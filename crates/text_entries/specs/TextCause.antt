-- The numbers and the printed names of the faults of a line of the text of a list.
use Rattle.std.specs.Prelude.{◌≡◌, ℕ, List, ◌++◌, codes, Result, Ok, Err, ⊤}
use Rattle.run_faults.specs.SpecCause.{spec_cause_text}
use Rattle.run_faults.specs.declared.spec_cause.SpecCause.TheVariants as specs
use Rattle.krl_spec.specs.Adding.{MayHide as SpecMayHide}
use Rattle.text_entries.specs.declared.text_cause.TextCause.{TextCause}
use Rattle.text_entries.specs.declared.text_cause.TextCause.TheVariants.{Spec, Certificate, NoBytes}
use Rattle.text_entries.specs.declared.text_cause.TextCause.TheVariants.{Base64, Hex, CutId}
use Rattle.text_entries.specs.declared.text_cause.TextCause.TheVariants.{UnknownWord, ControlInId}
use Rattle.text_entries.specs.declared.text_cause.TextCause.TheVariants.{ZeroInId, KeyAsId}
use Rattle.text_entries.specs.declared.text_cause.TextCause.TheVariants.{LeadingZero, QuotedId}
use Rattle.text_entries.specs.declared.text_cause.TextCause.TheVariants.{SeveralIds, BadName}
use Rattle.text_entries.specs.declared.text_cause.TextCause.TheVariants.{OtherKey, UnknownName}
use Rattle.text_entries.specs.declared.text_cause.TextCause.TheVariants.{MarkedWord, BadDate}
use Rattle.text_entries.specs.declared.text_cause.TextCause.TheVariants.{NoLastDay, DateInComment}
use Rattle.text_entries.specs.declared.text_cause.TextCause.TheVariants.{DateInId}

abbrev pub text_cause_number : TextCause → ℕ
text_cause_number (Spec cause) = 1
text_cause_number Certificate = 2
text_cause_number NoBytes = 3
text_cause_number Base64 = 4
text_cause_number Hex = 5
text_cause_number CutId = 6
text_cause_number UnknownWord = 7
text_cause_number ControlInId = 8
text_cause_number ZeroInId = 9
text_cause_number KeyAsId = 10
text_cause_number LeadingZero = 11
text_cause_number QuotedId = 12
text_cause_number SeveralIds = 13
text_cause_number BadName = 14
text_cause_number OtherKey = 15
text_cause_number UnknownName = 16
text_cause_number MarkedWord = 17
text_cause_number BadDate = 18
text_cause_number NoLastDay = 19
text_cause_number DateInComment = 20
text_cause_number DateInId = 21

abbrev pub text_cause_text : TextCause → List ℕ
text_cause_text (Spec cause) = codes "text 1 Spec, " ++ spec_cause_text cause
text_cause_text Certificate = codes "text 2 Certificate"
text_cause_text NoBytes = codes "text 3 NoBytes"
text_cause_text Base64 = codes "text 4 Base64"
text_cause_text Hex = codes "text 5 Hex"
text_cause_text CutId = codes "text 6 CutId"
text_cause_text UnknownWord = codes "text 7 UnknownWord"
text_cause_text ControlInId = codes "text 8 ControlInId"
text_cause_text ZeroInId = codes "text 9 ZeroInId"
text_cause_text KeyAsId = codes "text 10 KeyAsId"
text_cause_text LeadingZero = codes "text 11 LeadingZero"
text_cause_text QuotedId = codes "text 12 QuotedId"
text_cause_text SeveralIds = codes "text 13 SeveralIds"
text_cause_text BadName = codes "text 14 BadName"
text_cause_text OtherKey = codes "text 15 OtherKey"
text_cause_text UnknownName = codes "text 16 UnknownName"
text_cause_text MarkedWord = codes "text 17 MarkedWord"
text_cause_text BadDate = codes "text 18 BadDate"
text_cause_text NoLastDay = codes "text 19 NoLastDay"
text_cause_text DateInComment = codes "text 20 DateInComment"
text_cause_text DateInId = codes "text 21 DateInId"

-- an allocation failed
abbrev pub no_memory : TextCause
no_memory = Spec specs.NoMemory

-- A fault that is found only after an allocation.
abbrev pub MayHide : TextCause → Type 0
MayHide (Spec cause) = SpecMayHide cause
MayHide Certificate = ⊤
MayHide NoBytes = ⊤
MayHide Base64 = ⊤
MayHide Hex = ⊤
MayHide CutId = ⊥
MayHide UnknownWord = ⊥
MayHide ControlInId = ⊥
MayHide ZeroInId = ⊤
MayHide KeyAsId = ⊥
MayHide LeadingZero = ⊥
MayHide QuotedId = ⊥
MayHide SeveralIds = ⊥
MayHide BadName = ⊥
MayHide OtherKey = ⊤
MayHide UnknownName = ⊥
MayHide MarkedWord = ⊥
MayHide BadDate = ⊥
MayHide NoLastDay = ⊥
MayHide DateInComment = ⊥
MayHide DateInId = ⊥

-- An allocation may fail before this is found.
abbrev pub MayLackMemory : {A : Type 0} → Result A TextCause → Type 0
MayLackMemory (Ok found) = ⊤
MayLackMemory (Err cause) = MayHide cause

-- The cause is the one that was read, or an allocation failed.
abbrev pub Reports : {A : Type 0} → TextCause → Result A TextCause → Type 0
Reports (Spec specs.NoMemory) read = MayLackMemory read
Reports cause read = read ≡ Err cause
