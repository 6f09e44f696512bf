-- How sshd spells the message of a login, as a relation between the message and what it reports.
use Rattle.std.specs.Prelude.{◌≡◌, ℕ, Bool, true, false, ◌==◌, ◌≤◌, List, [], ◌∷◌, ◌++◌, length}
use Rattle.std.specs.Prelude.{codes, Option, Some, None}
use Rattle.key_text.specs.FingerprintReading.{IsFingerprint}
use Rattle.login_lines.specs.declared.fault.LoginFault.{LoginFault}
use Rattle.login_lines.specs.declared.fault.LoginFault.TheVariants.{Cut, Malformed, Hostbased}
use Rattle.login_lines.specs.declared.opening.Opening.TheVariants as openings
use Rattle.login_lines.specs.declared.opening.Step.{Step}
use Rattle.login_lines.specs.declared.words.Class.TheVariants.{Word, Digit, Kind}
use Rattle.login_lines.specs.KeyNames.{Name}
use Rattle.login_lines.specs.Logins.{Reported, Signed, may_be_cut}
use Rattle.login_lines.specs.Messages.{message_of, prefix_of}
use Rattle.login_lines.specs.Numbers.{IsNumber}
use Rattle.login_lines.specs.Openings.{BeginsWith, opening_words, step_words}
use Rattle.login_lines.specs.Words.{IsWordOf}

-- a key's kind, a space and its SHA-256 fingerprint
pub record NamesKey (text : List ℕ) (key : Name) : Type 0 where
  pub is_kind : IsWordOf Kind key.kind
  pub print : List ℕ
  pub printed : IsFingerprint print key.sha256
  pub spelled : text ≡ key.kind ++ (codes " " ++ print)

-- the serial number, and the text from the authority's key on
abbrev pub group_text : List ℕ → List ℕ → List ℕ
group_text digits rest = codes " (serial " ++ (digits ++ (codes ") CA " ++ rest))

-- the key ID, the serial number and the authority's key
pub record IsCertificate (text : List ℕ) (certificate : Signed) : Type 0 where
  pub digits : List ℕ
  pub is_number : IsNumber digits certificate.serial
  pub authority : List ℕ
  pub names : NamesKey authority certificate.authority
  pub spelled : text ≡ codes " ID " ++ (certificate.id ++ group_text digits authority)

-- nothing for a plain key
abbrev pub IsCertified : List ℕ → Option Signed → Type 0
IsCertified text None = text ≡ []
IsCertified text (Some certificate) = IsCertificate text certificate

-- the end of a message: a device key has a count of signatures, and a carriage return may end it
pub data IsEnd : List ℕ → Type 0 where
  ended : IsEnd []
  ended_by_return : IsEnd (13 ∷ [])

pub data IsTail : List ℕ → Type 0 where
  plain_tail : (end : List ℕ) → IsEnd end → IsTail end
  counted_tail : (digits end : List ℕ) → IsWordOf Digit digits → IsEnd end
      → IsTail (codes ", signature count = " ++ (digits ++ end))

-- the message of a login
pub record IsMessage (message : List ℕ) (login : Reported) : Type 0 where
  pub user : IsWordOf Word login.user
  pub address : IsWordOf Word login.address
  pub port : IsWordOf Digit login.port
  pub key : List ℕ
  pub names : NamesKey key login.key
  pub certificate : List ℕ
  pub certified : IsCertified certificate login.certificate
  pub tail : List ℕ
  pub is_tail : IsTail tail
  pub spelled : message ≡ step_words login.step ++ (login.user ++ (codes " from "
      ++ (login.address ++ (codes " port " ++ (login.port ++ (codes " ssh2: "
      ++ (key ++ (certificate ++ tail))))))))

-- The line reports the login: its message is the one of the login, and was not cut.
pub record IsLogin (line : List ℕ) (login : Reported) : Type 0 where
  pub whole : may_be_cut (message_of line) ≡ false
  pub prefix : login.prefix ≡ prefix_of line
  pub is : IsMessage (message_of line) login

-- the message reports a step of a login by the key of a user
abbrev pub BeginsAsStep : List ℕ → Type 0
BeginsAsStep message = (step : Step) × BeginsWith message (step_words step)

-- The message is whole, and reports no login.
pub record IsMalformed (line : List ℕ) : Type 0 where
  pub begins : BeginsAsStep (message_of line)
  pub whole : may_be_cut (message_of line) ≡ false
  pub none : (login : Reported) → ¬ IsLogin line login

-- why the login of a line is not read
abbrev pub IsLoginFault : List ℕ → LoginFault → Type 0
IsLoginFault line Cut = BeginsAsStep (message_of line) × (may_be_cut (message_of line) ≡ true)
IsLoginFault line Malformed = IsMalformed line
IsLoginFault line Hostbased = BeginsWith (message_of line) (opening_words openings.Hostbased)

pub data IsProgram : List ℕ → Type 0 where
  sshd : IsProgram (codes "sshd[")
  sshd_session : IsProgram (codes "sshd-session[")

-- the name of sshd's program, the number of its process and a colon
pub record IsTag (tag : List ℕ) : Type 0 where
  pub program : List ℕ
  pub is_program : IsProgram program
  pub digits : List ℕ
  pub numbered : IsWordOf Digit digits
  pub spelled : tag ≡ program ++ (digits ++ codes "]: ")

-- Whether a word may begin after these bytes: the last of them is a blank. If there are none, it
-- may if `starts` is true.
abbrev pub EndsWord : Bool → List ℕ → Type 0
EndsWord starts [] = starts ≡ true
EndsWord starts (byte ∷ rest) = EndsWord (byte == 32) rest

-- A line has a tag, at the beginning of a word, and a message behind it.
pub record HasTag (starts : Bool) (line before tag message : List ℕ) : Type 0 where
  pub is_tag : IsTag tag
  pub at_word : EndsWord starts before
  pub spelled : line ≡ before ++ (tag ++ message)

-- No tag of the line begins earlier.
pub record HasFirstTag (starts : Bool) (line before tag message : List ℕ) : Type 0 where
  pub has : HasTag starts line before tag message
  pub first : (b t m : List ℕ) → HasTag starts line b t m → length before ≤ length b
