-- Reading a line returns exactly the login that it reports, or its fault, and skips no other line.
use Rattle.std.proofs.Common.{◌≡◌, ◌≢◌, ℕ, List, ◌++◌, codes, Option, Some, None, Result, Ok, Err, refl, sym, ap, subst}
use Rattle.std.proofs.Common.{◌∙◌, inl, inr, ◌⊎◌}
use Rattle.std.proofs.lemmas.Bool.{cases_Bool}
use Rattle.std.proofs.lemmas.List.{append_assoc}
use Rattle.ssh_wire.specs.Wire.{IsBytes}
use Rattle.ssh_wire.proofs.Steps.{ok_or_err}
use Rattle.login_lines.specs.declared.fault.LoginFault.{LoginFault}
use Rattle.login_lines.specs.declared.fault.LoginFault.TheVariants.{Cut, Malformed, Hostbased as HostbasedFault}
use Rattle.login_lines.specs.declared.opening.Opening.{Opening}
use Rattle.login_lines.specs.declared.opening.Opening.TheVariants.{Publickey, Hostbased}
use Rattle.login_lines.specs.declared.opening.Step.{Step}
use Rattle.login_lines.specs.declared.words.Class.TheVariants.{Word, Digit}
use Rattle.login_lines.specs.KeyNames.{Name, key_at}
use Rattle.login_lines.specs.Logins.{Reported, Signed, certificate_at, login_at, login_or_fault, may_be_cut, opened_at}
use Rattle.login_lines.specs.Logins.{reported, said_at, serial_at}
use Rattle.login_lines.specs.Messages.{message_of, prefix_of}
use Rattle.login_lines.specs.Numbers.{IsNumber}
use Rattle.login_lines.specs.Openings.{BeginsWith, opening_at, opening_words, step_words}
use Rattle.login_lines.specs.Spelling.{IsCertificate, IsCertified, IsLogin, IsLoginFault, IsMalformed, IsMessage}
use Rattle.login_lines.specs.Spelling.{IsTail, NamesKey, group_text}
use Rattle.login_lines.specs.Words.{group_at, span_at, ◌>>=◌}
use Rattle.login_lines.proofs.LoginLaws.{certificate_again, certificate_found, group_passes, key_again, key_found}
use Rattle.login_lines.proofs.LoginLaws.{serial_again}
use Rattle.login_lines.proofs.OpeningLaws.{none_opens, opening_again, opening_found}
use Rattle.login_lines.proofs.Parts.{IsBytes-behind, IsBytes-rest, bind_some, group_again, option_cases, some_is}
use Rattle.login_lines.proofs.Parts.{span_again, span_found}
use Rattle.login_lines.proofs.TagLaws.{line_parts}

-- ---- the message of a login

message_joined : (words text user t1 address t2 port t3 key t4 rest : List ℕ) → text ≡ user ++ (codes " from " ++ t1)
    → t1 ≡ address ++ (codes " port " ++ t2)
    → t2 ≡ port ++ (codes " ssh2: " ++ t3) → t3 ≡ key ++ t4 → t4 ≡ rest
    → words ++ text ≡ words ++ (user ++ (codes " from " ++ (address ++ (codes " port " ++ (port ++ (codes " ssh2: " ++ (key ++ rest)))))))
message_joined words text user t1 address t2 port t3 key t4 rest a b c d e = rw (a, b, c, d, e) refl

said_found : (prefix : List ℕ) (step : Step) (text : List ℕ) (login : Reported) → IsBytes text
    → said_at prefix step text ≡ Some login
    → IsMessage (step_words step ++ text) login × (login.prefix ≡ prefix)
unfolding said_at
said_found prefix step text login fits e =
    let u = bind_some (span_at Word (codes " from ") text) _ login e in
    let a = bind_some (span_at Word (codes " port ") u.0.1) _ login u.2 in
    let p = bind_some (span_at Digit (codes " ssh2: ") a.0.1) _ login a.2 in
    let k = bind_some (key_at p.0.1) _ login p.2 in
    let c = bind_some (certificate_at k.0.1) _ login k.2 in
    let user = span_found Word (codes " from ") text u.0 u.1 in
    let address = span_found Word (codes " port ") u.0.1 a.0 a.1 in
    let port = span_found Digit (codes " ssh2: ") a.0.1 p.0 p.1 in
    let fits1 = IsBytes-behind u.0.0 (codes " from ") u.0.1 text user.1 fits in
    let fits2 = IsBytes-behind a.0.0 (codes " port ") a.0.1 u.0.1 address.1 fits1 in
    let fits3 = IsBytes-behind p.0.0 (codes " ssh2: ") p.0.1 a.0.1 port.1 fits2 in
    let key = key_found p.0.1 k.0 fits3 k.1 in
    let certificate = certificate_found k.0.1 c.0 (IsBytes-rest key.0 k.0.1 p.0.1 key.2 fits3) c.1 in
    let said : Reported = reported prefix step u.0.0 a.0.0 p.0.0 k.0.0 c.0 in
    let same : said ≡ login = some_is said login c.2 in
    let is : IsMessage (step_words step ++ text) said = record {
      user = user.0;
      address = address.0;
      port = port.0;
      key = key.0;
      names = key.1;
      certificate = certificate.0;
      certified = certificate.2;
      tail = certificate.1;
      is_tail = certificate.3;
      spelled = message_joined (step_words step) text u.0.0 u.0.1 a.0.0 a.0.1 p.0.0 p.0.1 key.0 k.0.1 (certificate.0 ++ certificate.1) user.1 address.1 port.1 key.2 certificate.4;
    } in
    subst (λ (r : Reported). IsMessage (step_words step ++ text) r × (r.prefix ≡ prefix)) {x = said} {y = login} same (is, refl {a = prefix})

said_again : (message : List ℕ) (login : Reported) → IsMessage message login
    → (begins : BeginsWith message (step_words login.step)) × (said_at login.prefix login.step begins.0 ≡ Some login)
unfolding said_at
said_again message login is =
    let rest : List ℕ = is.certificate ++ is.tail in
    let from_key : List ℕ = is.key ++ rest in
    let from_port : List ℕ = login.port ++ (codes " ssh2: " ++ from_key) in
    let from_address : List ℕ = login.address ++ (codes " port " ++ from_port) in
    let user = span_again Word login.user (codes " from ") from_address is.user refl in
    let address = span_again Word login.address (codes " port ") from_port is.address refl in
    let port = span_again Digit login.port (codes " ssh2: ") from_key is.port refl in
    let key = key_again is.key rest login.key is.names in
    let certificate = certificate_again is.certificate is.tail login.certificate is.certified is.is_tail in
    ((login.user ++ (codes " from " ++ from_address), is.spelled), rw (user, address, port, key, certificate) refl)

-- ---- a line

-- reading continues after the first words
abbrev opened : List ℕ → Opening → List ℕ → Result (Option Reported) LoginFault
opened line opening text = opened_at (prefix_of line) (message_of line) (Some (opening, text))

opens : (line : List ℕ) (opening : Opening) (begins : BeginsWith (message_of line) (opening_words opening))
    → login_at line ≡ opened line opening begins.0
unfolding login_at
opens line opening begins =
    ap (opened_at (prefix_of line) (message_of line)) (opening_again (message_of line) opening begins)

pub other_skipped : (line : List ℕ) → ((opening : Opening) → ¬ BeginsWith (message_of line) (opening_words opening))
    → login_at line ≡ Ok None
unfolding login_at
other_skipped line other = ap (opened_at (prefix_of line) (message_of line)) (none_opens (message_of line) other)

-- a line is skipped, or its message begins as a login
begins_or_not : (line : List ℕ)
    → (login_at line ≡ Ok None) ⊎ ((opening : Opening) × BeginsWith (message_of line) (opening_words opening))
unfolding login_at
begins_or_not line = elim (option_cases (opening_at (message_of line))) [
  | inl none ↦ inl (ap (opened_at (prefix_of line) (message_of line)) none)
  | inr found ↦ inr (found.0.0, (found.0.1, opening_found (message_of line) found.0 found.1))
]

pub login_not_skipped : (line : List ℕ) (opening : Opening) → BeginsWith (message_of line) (opening_words opening)
    → login_at line ≢ Ok None
login_not_skipped line opening begins e = never opening (sym (opens line opening begins) ∙ e)
  where
    never : (opening : Opening) → opened line opening begins.0 ≢ Ok None
    never Hostbased e = absurd cc
    never (Publickey step) e = elim (cases_Bool (may_be_cut (message_of line))) [
      | inl cut ↦ let h = rw cut at e in absurd cc
      | inr whole ↦ read (said_at (prefix_of line) step begins.0) (rw whole at e)
    ]
      where
        read : (o : Option Reported) → login_or_fault o ≢ Ok None
        read None e = absurd cc
        read (Some login) e = absurd cc

pub login_found : (line : List ℕ) (login : Reported) → IsBytes line → login_at line ≡ Ok (Some login)
    → IsLogin line login
login_found line login fits e = elim (begins_or_not line) [
  | inl skipped ↦ absurd (let h = sym skipped ∙ e in cc)
  | inr it ↦ found it.0 it.1 (sym (opens line it.0 it.1) ∙ e)
]
  where
    read : (o : Option Reported) → login_or_fault o ≡ Ok (Some login) → o ≡ Some login
    read None e = absurd cc
    read (Some x) e = let same : x ≡ login = cc in cc

    found : (opening : Opening) (begins : BeginsWith (message_of line) (opening_words opening))
        → opened line opening begins.0 ≡ Ok (Some login) → IsLogin line login
    found Hostbased begins e = absurd cc
    found (Publickey step) begins e = elim (cases_Bool (may_be_cut (message_of line))) [
      | inl cut ↦ absurd (let h = rw cut at e in cc)
      | inr whole ↦
          let message_fits : IsBytes (message_of line) =
          IsBytes-rest (prefix_of line) (message_of line) line (line_parts line) fits in
          let text_fits : IsBytes begins.0 =
          IsBytes-rest (step_words step) begins.0 (message_of line) begins.1 message_fits in
          let said =
          said_found (prefix_of line) step begins.0 login text_fits (read (said_at (prefix_of line) step begins.0) (rw whole at e)) in
          record { whole = whole; prefix = said.1; is = subst (λ (m : List ℕ). IsMessage m login) (sym begins.1) said.0 }
    ]

pub login_again : (line : List ℕ) (login : Reported) → IsLogin line login → login_at line ≡ Ok (Some login)
login_again line login is =
    let said = said_again (message_of line) login is.is in
    let read : said_at (prefix_of line) login.step said.0.0 ≡ Some login =
    ap (λ (p : List ℕ). said_at p login.step said.0.0) (sym is.prefix) ∙ said.1 in
    opens line (Publickey login.step) said.0 ∙ rw (is.whole, read) refl

pub one_login : (line : List ℕ) (a b : Reported) → IsLogin line a → IsLogin line b → a ≡ b
one_login line a b p q = let x = login_again line a p in let y = login_again line b q in cc

-- ---- a fault

pub fault_found : (line : List ℕ) (fault : LoginFault) → login_at line ≡ Err fault → IsLoginFault line fault
fault_found line fault e = elim (begins_or_not line) [
  | inl skipped ↦ absurd (let h = sym skipped ∙ e in cc)
  | inr it ↦ found it.0 it.1 (sym (opens line it.0 it.1) ∙ e)
]
  where
    read : (o : Option Reported) → login_or_fault o ≡ Err fault → Malformed ≡ fault
    read None e = cc
    read (Some login) e = absurd cc

    found : (opening : Opening) (begins : BeginsWith (message_of line) (opening_words opening))
        → opened line opening begins.0 ≡ Err fault → IsLoginFault line fault
    found Hostbased begins h = let same : HostbasedFault ≡ fault = cc in subst (IsLoginFault line) same begins
    found (Publickey step) begins h = elim (cases_Bool (may_be_cut (message_of line))) [
      | inl cut ↦
          let same : Cut ≡ fault = let k = rw cut at h in cc in
          subst (IsLoginFault line) same ((step, begins), cut)
      | inr whole ↦
          let is : IsMalformed line =
          record { begins = (step, begins); whole = whole; none = λ login it. ok_or_err _ fault (login_at line) (login_again line login it) e } in
          subst (IsLoginFault line) (read (said_at (prefix_of line) step begins.0) (rw whole at h)) is
    ]

pub fault_again : (line : List ℕ) (fault : LoginFault) → IsBytes line → IsLoginFault line fault
    → login_at line ≡ Err fault
fault_again line Cut fits is = opens line (Publickey is.0.0) is.0.1 ∙ rw is.1 refl
fault_again line HostbasedFault fits begins = opens line Hostbased begins
fault_again line Malformed fits is =
    let step : Step = is.begins.0 in
    let opened = opens line (Publickey step) is.begins.1 in
    elim (option_cases (said_at (prefix_of line) step is.begins.1.0)) [
      | inl none ↦ opened ∙ rw (is.whole, none) refl
      | inr found ↦ absurd (is.none found.0 (login_found line found.0 fits (opened ∙ rw (is.whole, found.1) refl)))
    ]

-- ---- the last group

-- the serial number and the authority after the last group
abbrev group_reading : List ℕ → Option (ℕ × Name)
group_reading text =
    group_at text >>= λ id. (serial_at id.1 >>= λ serial. (key_at serial.1 >>= λ authority. Some (serial.0, authority.0)))

group_read : (front digits authority tail : List ℕ) (serial : ℕ) (name : Name) → IsNumber digits serial
    → NamesKey authority name → IsTail tail
    → group_reading (front ++ group_text digits (authority ++ tail)) ≡ Some (serial, name)
group_read front digits authority tail serial name number names ends =
    let behind : List ℕ = digits ++ (codes ") CA " ++ (authority ++ tail)) in
    rw (group_again front behind (group_passes digits authority tail serial name number names ends), serial_again digits (authority ++ tail) serial number, key_again authority tail name names) refl

regroup_message : (words user address port key id digits authority tail : List ℕ)
    → words ++ (user ++ (codes " from " ++ (address ++ (codes " port " ++ (port ++ (codes " ssh2: " ++ (key ++ ((codes " ID " ++ (id ++ group_text digits authority)) ++ tail))))))))
    ≡ (words ++ (user ++ (codes " from " ++ (address ++ (codes " port " ++ (port ++ (codes " ssh2: " ++ (key ++ (codes " ID " ++ id))))))))) ++ group_text digits (authority ++ tail)
regroup_message words user address port key id digits authority tail = simp append_assoc refl

pub last_group : (line front digits authority tail : List ℕ) (login : Reported) (certificate : Signed) (serial : ℕ) (name : Name)
    → IsLogin line login → login.certificate ≡ Some certificate → IsNumber digits serial → NamesKey authority name
    → IsTail tail
    → message_of line ≡ front ++ group_text digits (authority ++ tail)
    → (certificate.serial ≡ serial) × (certificate.authority ≡ name)
last_group line front digits authority tail login certificate serial name is signed number names ends spelled =
    let m = is.is in
    let words : List ℕ = step_words login.step in
    let c : IsCertificate m.certificate certificate = subst (IsCertified m.certificate) signed m.certified in
    let head : List ℕ =
    words ++ (login.user ++ (codes " from " ++ (login.address ++ (codes " port " ++ (login.port ++ (codes " ssh2: " ++ (m.key ++ (codes " ID " ++ certificate.id)))))))) in
    let own : message_of line ≡ head ++ group_text c.digits (c.authority ++ m.tail) =
    m.spelled
    ∙ ap (λ (xs : List ℕ). words ++ (login.user ++ (codes " from " ++ (login.address ++ (codes " port " ++ (login.port ++ (codes " ssh2: " ++ (m.key ++ (xs ++ m.tail))))))))) c.spelled
    ∙ regroup_message words login.user login.address login.port m.key certificate.id c.digits c.authority m.tail in
    let a =
    ap group_reading own
    ∙ group_read head c.digits c.authority m.tail certificate.serial certificate.authority c.is_number c.names m.is_tail in
    let b = ap group_reading spelled ∙ group_read front digits authority tail serial name number names ends in
    let mine : ℕ × Name = (certificate.serial, certificate.authority) in
    let theirs : ℕ × Name = (serial, name) in
    let same : mine ≡ theirs = some_is mine theirs (sym a ∙ b) in
    (ap (λ (p : ℕ × Name). p.0) same, ap (λ (p : ℕ × Name). p.1) same)
