-- Why a text is not a key line: its first fault, by the words that are in it.
use Rattle.std.specs.Prelude.{◌≢◌, ℕ, List}
use Rattle.ssh_wire.specs.Wire.{BeginsWith, IsBytes}
use Rattle.key_text.specs.declared.line_fault.LineFault.{LineFault}
use Rattle.key_text.specs.declared.line_fault.LineFault.TheVariants.{NoKey, Base64, WordDiffers}
use Rattle.key_text.specs.declared.line_fault.LineFault.TheVariants.{NoMemory}
use Rattle.key_text.specs.KeyLine.{HasWords, base64}

-- a type word is in the text, and after it a word that may encode a key
pub record HasSomeWords (text : List ℕ) : Type 0 where
  pub word : List ℕ
  pub encoded : List ℕ
  pub comment : List ℕ
  pub words : HasWords text word encoded comment

-- the word after the type word is not the base64 of any list of bytes
pub record HasBadBase64 (text : List ℕ) : Type 0 where
  pub has : HasSomeWords text
  pub none : (blob : List ℕ) → IsBytes blob → base64 blob ≢ has.encoded

-- it is the base64 of bytes that do not begin with the string of the type word
pub record EncodesOtherKey (text : List ℕ) : Type 0 where
  pub word : List ℕ
  pub blob : List ℕ
  pub comment : List ℕ
  pub words : HasWords text word (base64 blob) comment
  pub bytes : IsBytes blob
  pub differs : ¬ BeginsWith blob word

-- The fault of a text. The text itself never has the fault `NoMemory`.
abbrev pub IsFirstLineFault : List ℕ → LineFault → Type 0
IsFirstLineFault text NoKey = ¬ HasSomeWords text
IsFirstLineFault text Base64 = HasBadBase64 text
IsFirstLineFault text WordDiffers = EncodesOtherKey text
IsFirstLineFault text NoMemory = ⊥

-- The fault that is reported for a text: its own, or, if a word in it may encode a key, `NoMemory`.
abbrev pub IsReportedFault : List ℕ → LineFault → Type 0
IsReportedFault text NoMemory = HasSomeWords text
IsReportedFault text fault = IsFirstLineFault text fault
