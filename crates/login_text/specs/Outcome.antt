-- What a line of a log reports.
use Rattle.std.specs.Prelude.{◌≡◌, ◌⊎◌, ℕ, List, [], Option, Some, None, Ok, Err}
use Rattle.std.specs.Global.{Vec}
use Rattle.login_lines.specs.Escapes.{Escapes}
use Rattle.login_lines.specs.Logins.{Reported, Signed, known, login_at, reported_of}
use Rattle.login_lines.specs.declared.fault.LoginFault.{LoginFault}
use Rattle.login_lines.specs.declared.fault.LoginFault.TheVariants.{Malformed}
use Rattle.login_lines.specs.declared.login.Certificate.{Certificate}
use Rattle.login_text.specs.declared.outcome.Outcome.{Outcome as Read}
use Rattle.login_text.specs.declared.outcome.Outcome.TheVariants as reads

-- something other than a login; a login with its decoded key ID; or a login that cannot be read
pub data Outcome : Type 0 where
  Other : Outcome
  Login : Reported → (id : List ℕ) → Outcome
  Unread : LoginFault → Outcome

abbrev pub outcome_is : Read → Outcome
outcome_is reads.Other = Other
outcome_is (reads.Login login id) = Login (reported_of login) id.items
outcome_is (reads.Unread fault) = Unread fault

-- The log spells this key ID. A plain key has an empty one.
abbrev pub IsId : Option Signed → (id : List ℕ) → Type 0
IsId None id = id ≡ []
IsId (Some signed) id = Escapes signed.id id

-- the key ID that the log spells, or it spells none
abbrev pub IsDecoded : Option Certificate → Option (Vec ℕ) → Type 0
IsDecoded certificate (Some id) = IsId (known certificate) id.items
IsDecoded certificate None = (id : List ℕ) → ¬ IsId (known certificate) id

-- The line is that of a login, but spells no key ID.
pub record LacksId (line : List ℕ) : Type 0 where
  pub login : Reported
  pub reported : login_at line ≡ Ok (Some login)
  pub none : (id : List ℕ) → ¬ IsId login.certificate id

abbrev pub IsOutcome : List ℕ → Outcome → Type 0
IsOutcome line Other = login_at line ≡ Ok None
IsOutcome line (Login login id) =
    (login_at line ≡ Ok (Some login)) × IsId login.certificate id
IsOutcome line (Unread fault) =
    (login_at line ≡ Err fault) ⊎ ((fault ≡ Malformed) × LacksId line)
