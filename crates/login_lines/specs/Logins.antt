-- The login that a line of sshd's log reports.
use Rattle.std.specs.Prelude.{ℕ, Bool, true, false, ◌==◌, ◌||◌, nat_lt, List, [], ◌∷◌, length}
use Rattle.std.specs.Prelude.{codes, Option, Some, None, option_map, Result, Ok, Err}
use Rattle.std.specs.Prelude.{if◌then◌else◌}
use Rattle.std.specs.Borrow.{Bor}
use Rattle.login_lines.specs.declared.fault.LoginFault.{LoginFault}
use Rattle.login_lines.specs.declared.fault.LoginFault.TheVariants as faults
use Rattle.login_lines.specs.declared.login.Certificate.{Certificate}
use Rattle.login_lines.specs.declared.login.Login.{Login}
use Rattle.login_lines.specs.declared.opening.Opening.{Opening}
use Rattle.login_lines.specs.declared.opening.Opening.TheVariants.{Publickey, Hostbased}
use Rattle.login_lines.specs.declared.opening.Step.{Step}
use Rattle.login_lines.specs.declared.words.Class.TheVariants.{Word, Digit}
use Rattle.login_lines.specs.KeyNames.{Name, key_at, name_of}
use Rattle.login_lines.specs.Messages.{message_of, prefix_of}
use Rattle.login_lines.specs.Numbers.{number_of}
use Rattle.login_lines.specs.Openings.{opening_at}
use Rattle.login_lines.specs.Words.{after, group_at, span_at, ◌>>=◌}

-- the parts of a certificate that sshd logs beside its key
pub record Signed : Type 0 where
  pub id : List ℕ
  pub serial : ℕ
  pub authority : Name

pub record Reported : Type 0 where
  pub prefix : List ℕ
  pub step : Step
  pub user : List ℕ
  pub address : List ℕ
  pub port : List ℕ
  pub key : Name
  pub certificate : Option Signed

abbrev pub signed_of : Certificate → Signed
signed_of c = record { id = c.id.now; serial = c.serial; authority = name_of c.authority }

abbrev pub known : Option Certificate → Option Signed
known certificate = option_map signed_of certificate

abbrev pub reported_of : Login → Reported
reported_of login = record {
  prefix = login.prefix.now;
  step = login.step;
  user = login.user.now;
  address = login.address.now;
  port = login.port.now;
  key = name_of login.key;
  certificate = known login.certificate;
}

-- nothing, or a carriage return
abbrev pub is_end : List ℕ → Bool
is_end [] = true
is_end (byte ∷ []) = byte == 13
is_end (byte ∷ next ∷ rest) = false

abbrev pub ends_behind : Option (List ℕ × List ℕ) → Bool
ends_behind None = false
ends_behind (Some digits) = is_end digits.1

abbrev pub ends_counted : List ℕ → Option (List ℕ) → Bool
ends_counted text None = is_end text
ends_counted text (Some count) = ends_behind (span_at Digit [] count)

-- a count of signatures, if there is one, and the end of the line
unfoldable pub ends_here : List ℕ → Bool
ends_here text = ends_counted text (after (codes ", signature count = ") text)

abbrev pub number_and_rest : ℕ × Bor (List ℕ) → ℕ × List ℕ
number_and_rest p = (p.0, p.1.now)

-- the serial number, and the text from the kind of the authority's key on
unfoldable pub serial_at : List ℕ → Option (ℕ × List ℕ)
serial_at text =
    span_at Digit (codes ") CA ") text >>= λ digits.
    (number_of digits.0 >>= λ serial. Some (serial, digits.1))

abbrev pub signed : List ℕ → ℕ → Name → Signed
signed id serial authority = record { id = id; serial = serial; authority = authority }

-- the certificate after ` ID `
unfoldable pub signed_at : List ℕ → Option Signed
signed_at text =
    group_at text >>= λ id. (serial_at id.1 >>= λ serial. (key_at serial.1 >>= λ authority.
    (if ends_here authority.1 then Some (signed id.0 serial.0 authority.0) else None)))

abbrev pub certificate_or_end : List ℕ → Option (List ℕ) → Option (Option Signed)
certificate_or_end text None = if ends_here text then Some None else None
certificate_or_end text (Some group) = option_map (λ signed. Some signed) (signed_at group)

-- the certificate, if there is one, and the end of the message
unfoldable pub certificate_at : List ℕ → Option (Option Signed)
certificate_at text = certificate_or_end text (after (codes " ID ") text)

abbrev pub reported
    : List ℕ → Step → List ℕ → List ℕ → List ℕ → Name → Option Signed → Reported
reported prefix step user address port key certificate = record {
  prefix = prefix;
  step = step;
  user = user;
  address = address;
  port = port;
  key = key;
  certificate = certificate;
}

-- the login, from its user on
unfoldable pub said_at : List ℕ → Step → List ℕ → Option Reported
said_at prefix step text =
    span_at Word (codes " from ") text >>= λ user.
    (span_at Word (codes " port ") user.1 >>= λ address.
    (span_at Digit (codes " ssh2: ") address.1 >>= λ port.
    (key_at port.1 >>= λ key. (certificate_at key.1 >>= λ certificate.
    Some (reported prefix step user.0 address.0 port.0 key.0 certificate)))))

-- syslog gets at most 500 bytes of a message, a file or a terminal at most 1,021
abbrev pub may_be_cut : List ℕ → Bool
may_be_cut message =
    (length message == 500) || (length message == 501) || nat_lt 1020 (length message)

abbrev pub login_or_fault : Option Reported → Result (Option Reported) LoginFault
login_or_fault None = Err faults.Malformed
login_or_fault (Some login) = Ok (Some login)

abbrev pub opened_at
    : List ℕ → List ℕ → Option (Opening × List ℕ) → Result (Option Reported) LoginFault
opened_at prefix message None = Ok None
opened_at prefix message (Some (Hostbased, text)) = Err faults.Hostbased
opened_at prefix message (Some (Publickey step, text)) =
    if may_be_cut message then Err faults.Cut else login_or_fault (said_at prefix step text)

-- the login of a line: none if its message begins otherwise
unfoldable pub login_at : List ℕ → Result (Option Reported) LoginFault
login_at line = opened_at (prefix_of line) (message_of line) (opening_at (message_of line))
