-- The meanings of values: a value that has one is its spelling, and each spelling has it.
use Rattle.std.proofs.lemmas.Grind.{common_steps}
use Rattle.std.proofs.Common.{◌≡◌, ℕ, ◌^◌, ◌<◌, Bool, true, false, cond, List, [], ◌∷◌, length, slice_index, Option, Some, None, Result, Ok, Err, refl, sym, ap, ◌∙◌, arith, ◌⊎◌, inl, inr}
use Rattle.std.specs.Option.{option_and_then}
use Rattle.std.specs.Result.{result_err, result_unwrap_or}
use Rattle.std.proofs.lemmas.Bool.{eqb-true}
use Rattle.ssh_wire.specs.Wire.{BeginsWith, IsBytes, strings}
use Rattle.ssh_wire.specs.Reading.{in_fault, string_at}
use Rattle.ssh_wire.specs.Rows.{IsPart, Number, Part, Text}
use Rattle.ssh_wire.proofs.Fields.{string_read, string_takes}
use Rattle.ssh_wire.proofs.Steps.{bind_ok, in_fault_ok, some_ok}
use Rattle.ssh_key.specs.declared.kind.Kind.{Kind}
use Rattle.ssh_key.specs.declared.kind.Kind.TheVariants.{Rsa}
use Rattle.ssh_key.specs.Key.{IsKey, PublicKey}
use Rattle.ssh_key.specs.KeyReading.{key_at}
use Rattle.ssh_key.specs.Kind.{certificate_name, kind_certified}
use Rattle.ssh_key.proofs.Keys.{key_again, key_found}
use Rattle.ssh_key.proofs.Names.{certified-certificate_name, certified-name}
use Rattle.ssh_cert.specs.declared.fault.CertFault.{CertFault}
use Rattle.ssh_cert.specs.declared.fault.CertFault.TheVariants as faults
use Rattle.ssh_cert.specs.declared.role.Role.{Role}
use Rattle.ssh_cert.specs.declared.role.Role.TheVariants.{User, Host}
use Rattle.ssh_cert.specs.Cert.{IsValue, Value, role_number, text_of}
use Rattle.ssh_cert.specs.CertReading.{no_key, value_of}
use Rattle.ssh_cert.specs.Field.{Bytes, Count, KeyBlob, Meaning, Options, Principals, RoleNumber, Signature, algorithm_in, authority_in, kind_in, options_in, principals_in, role_in, role_of, row_of}
use Rattle.ssh_cert.specs.Options.{CertOption, options_of, options_text, pairs_of, parts_of}
use Rattle.ssh_cert.specs.Strings.{strings_of}
use Rattle.ssh_cert.proofs.StringLists.{map_some, strings_of_again, strings_of_takes}

-- a fact about the meaning of a value that has one
meant : {A : Type 0} (P : A → Type 0) (r : Result A CertFault) (other : A) → result_err r ≡ None → ((x : A) → r ≡ Ok x → P x) → P (result_unwrap_or r other)
meant P (Ok x) other e fact = fact x refl
meant P (Err fault) other e fact = absurd cc

-- ---- kinds

pub kind_same : (name : List ℕ) → result_err (kind_in name) ≡ None → name ≡ certificate_name (result_unwrap_or (kind_in name) Rsa)
unfolding kind_in
kind_same name e =
    meant (λ (kind : Kind). name ≡ certificate_name kind) (kind_in name) Rsa e (λ kind read. sym (certified-name name kind (some_ok (kind_certified name) faults.UnknownType kind read)))

pub kind_again : (kind : Kind) → kind_in (certificate_name kind) ≡ Ok kind
unfolding kind_in
kind_again kind = rw (certified-certificate_name kind) refl

-- ---- roles

role_by : (a b : Bool) (role : Role) → cond a (Some User) (cond b (Some Host) None) ≡ Some role → ((a ≡ true) × (role ≡ User)) ⊎ ((b ≡ true) × (role ≡ Host))
role_by true b role e = inl (refl, cc)
role_by false true role e = inr (refl, cc)
role_by false false role e = absurd cc

role_takes : (n : ℕ) (role : Role) → role_of n ≡ Some role → n ≡ role_number role
role_takes n role e = grind (arith, common_steps, eqb-true, role_by)

role_same : (number : List ℕ) → IsPart (Number 4) number → result_err (role_in number) ≡ None → number ≡ role_number (result_unwrap_or (role_in number) User) ∷ []
unfolding role_in
role_same number is e =
    meant (λ (role : Role). number ≡ role_number role ∷ []) (role_in number) User e
    (λ role read. is.0 ∙ ap (λ (n : ℕ). n ∷ []) (role_takes (slice_index number 0) role (some_ok (role_of (slice_index number 0)) faults.CertType role read)))

role_again : (role : Role) → role_in (role_number role ∷ []) ≡ Ok role
unfolding role_in
role_again User = refl
role_again Host = refl

-- ---- principals and options

principals_same : (text : List ℕ) → IsBytes text → result_err (principals_in text) ≡ None → text ≡ strings (result_unwrap_or (principals_in text) [])
unfolding principals_in
principals_same text fits e =
    meant (λ (list : List (List ℕ)). text ≡ strings list) (principals_in text) [] e (λ list read. strings_of_takes text list fits (some_ok (strings_of text) faults.Principals list read))

principals_again : (list : List (List ℕ)) → length (strings list) < 2 ^ 32 → principals_in (strings list) ≡ Ok list
unfolding principals_in
principals_again list lt = rw (strings_of_again list lt) refl

-- options are read two strings at a time
pairs_take : (list : List (List ℕ)) (options : List CertOption) → pairs_of list ≡ Some options → list ≡ parts_of options
pairs_take [] options e = let none : [] ≡ options = cc in ap parts_of none
pairs_take (name ∷ []) options e = absurd cc
pairs_take (name ∷ content ∷ rest) options e =
    let m = map_some (λ (later : List CertOption). record { name = name; content = content } ∷ later) (pairs_of rest) options e in
    ap (λ (parts : List (List ℕ)). name ∷ content ∷ parts) (pairs_take rest m.0 m.1) ∙ ap parts_of m.2

pairs_again : (options : List CertOption) → pairs_of (parts_of options) ≡ Some options
pairs_again [] = refl
pairs_again (option ∷ options) = rw (pairs_again options) refl

some_then : (o : Option (List (List ℕ))) (options : List CertOption) → option_and_then pairs_of o ≡ Some options → (list : List (List ℕ)) × (o ≡ Some list) × (pairs_of list ≡ Some options)
some_then None options e = absurd cc
some_then (Some list) options e = (list, refl, e)

options_take : (bytes : List ℕ) (options : List CertOption) → IsBytes bytes → options_of bytes ≡ Some options → bytes ≡ options_text options
options_take bytes options fits e = grind (arith, common_steps, pairs_take, some_then, strings_of_takes)

options_same : (text : List ℕ) → IsBytes text → result_err (options_in text) ≡ None → text ≡ options_text (result_unwrap_or (options_in text) [])
unfolding options_in
options_same text fits e =
    meant (λ (options : List CertOption). text ≡ options_text options) (options_in text) [] e (λ options read. options_take text options fits (some_ok (options_of text) faults.Options options read))

options_again : (options : List CertOption) → length (options_text options) < 2 ^ 32 → options_in (options_text options) ≡ Ok options
unfolding options_in
options_again options lt = rw (strings_of_again (parts_of options) lt, pairs_again options) refl

-- ---- the signature key and the signature

authority_same : (blob : List ℕ) → IsBytes blob → result_err (authority_in blob) ≡ None → IsKey blob (result_unwrap_or (authority_in blob) no_key)
unfolding authority_in
authority_same blob fits e = meant (IsKey blob) (authority_in blob) no_key e (λ key read. key_found blob key fits (in_fault_ok faults.Authority (key_at blob) key read))

authority_again : (blob : List ℕ) (key : PublicKey) → IsKey blob key → authority_in blob ≡ Ok key
unfolding authority_in
authority_again blob key is = rw (key_again blob key is) refl

algorithm_begins : (signature algorithm : List ℕ) → IsBytes signature → algorithm_in signature ≡ Ok algorithm → BeginsWith signature algorithm
unfolding algorithm_in
algorithm_begins signature algorithm fits e =
    let first = bind_ok (in_fault (λ why. faults.Signature) (string_at signature)) (λ first. Ok first.0) algorithm e in
    let t = string_takes signature first.0.0 first.0.1 fits (in_fault_ok (λ why. faults.Signature) (string_at signature) first.0 first.1) in
    let same : first.0.0 ≡ algorithm = let last = first.2 in cc in
    rw (← same) (record { rest = first.0.1; spelled = t.0.parts; fits = t.1 })

algorithm_same : (signature : List ℕ) → IsBytes signature → result_err (algorithm_in signature) ≡ None → BeginsWith signature (result_unwrap_or (algorithm_in signature) [])
algorithm_same signature fits e = meant (BeginsWith signature) (algorithm_in signature) [] e (λ algorithm read. algorithm_begins signature algorithm fits read)

algorithm_again : (signature algorithm : List ℕ) → BeginsWith signature algorithm → algorithm_in signature ≡ Ok algorithm
unfolding algorithm_in
algorithm_again signature algorithm begins = rw (string_read signature algorithm begins) refl

-- ---- any field after the public ones

-- the text has only bytes, if its part is a string
abbrev pub HasBytes : Part → List ℕ → Type 0
HasBytes Text text = IsBytes text
HasBytes part text = Unit {0}

pub value_same : (meaning : Meaning) (before : List (List ℕ)) (text : List ℕ) → IsPart (row_of meaning).part text → HasBytes (row_of meaning).part text → (row_of meaning).judged before text ≡ None
    → (text_of meaning (value_of meaning text) ≡ text) × IsValue meaning (value_of meaning text)
value_same Count before text is fits passed = (sym is.0, tt)
value_same Bytes before text is fits passed = (refl, tt)
value_same RoleNumber before text is fits passed = (sym (role_same text is passed), tt)
value_same Principals before text is fits passed = (sym (principals_same text fits passed), tt)
value_same Options before text is fits passed = (sym (options_same text fits passed), tt)
value_same KeyBlob before text is fits passed = (refl, authority_same text fits passed)
value_same Signature before text is fits passed = (refl, algorithm_same text fits passed)

pub value_again : (meaning : Meaning) (value : Value meaning) → IsPart (row_of meaning).part (text_of meaning value) → IsValue meaning value → value_of meaning (text_of meaning value) ≡ value
value_again Count value is stands = refl
value_again Bytes value is stands = refl
value_again RoleNumber value is stands = rw (role_again value) refl
value_again Principals value is stands = rw (principals_again value is) refl
value_again Options value is stands = rw (options_again value is) refl
value_again KeyBlob value is stands = rw (authority_again value.0 value.1 stands) refl
value_again Signature value is stands = rw (algorithm_again value.0 value.1 stands) refl

-- a value passes the judgement of its row
pub value_passes : (meaning : Meaning) (before : List (List ℕ)) (value : Value meaning) → IsPart (row_of meaning).part (text_of meaning value) → IsValue meaning value → (row_of meaning).judged before (text_of meaning value) ≡ None
value_passes Count before value is stands = refl
value_passes Bytes before value is stands = refl
value_passes RoleNumber before value is stands = rw (role_again value) refl
value_passes Principals before value is stands = rw (principals_again value is) refl
value_passes Options before value is stands = rw (options_again value is) refl
value_passes KeyBlob before value is stands = rw (authority_again value.0 value.1 stands) refl
value_passes Signature before value is stands = rw (algorithm_again value.0 value.1 stands) refl
