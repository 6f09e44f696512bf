-- A private container: reading returns only a container, reads each container, and reports the first fault.
use Rattle.std.proofs.lemmas.Grind.{common_steps}
use Rattle.std.proofs.Common.{◌≡◌, ◌≢◌, ℕ, List, ◌++◌, length, drop, nat_eq, Option, Some, None, Result, Ok, Err, refl, sym, ap, subst, ◌∙◌, inl, inr, ◌⊎◌, arith}
use Rattle.std.specs.Prelude.{IfErr, IfOk}
use Rattle.std.specs.List.{starts_with}
use Rattle.std.proofs.lemmas.Bool.{cases_Bool}
use Rattle.std.proofs.lemmas.List.{drop_at}
use Rattle.base64.proofs.EngineFacts.{decode_of-encode_of}
use Rattle.base64.specs.Engines.{standard}
use Rattle.base64.specs.GeneralPurpose.{decode_of}
use Rattle.ssh_wire.specs.Wire.{IsBytes}
use Rattle.ssh_wire.specs.Reading.{◌>>=◌, in_fault}
use Rattle.key_text.specs.Armour.{IsArmour, armour_at}
use Rattle.key_text.specs.Container.{Holds, IsContainer, IsPrivateFault, IsReportedPrivateFault, after_parts, in_list, in_parts, magic, no_armour, no_base64, no_magic}
use Rattle.key_text.specs.ContainerReading.{GivesPrivate, Opened, body_at, bytes_at, decoded_at, inside_at, opened_of, private_at, some_body}
use Rattle.key_text.specs.KeyLine.{base64}
use Rattle.key_text.specs.declared.container.Private.{Private}
use Rattle.key_text.specs.declared.private_fault.PrivateFault.{PrivateFault}
use Rattle.key_text.specs.declared.private_fault.PrivateFault.TheVariants as faults
use Rattle.key_text.proofs.ArmourLaws.{armour_again, armour_bytes, armour_found}
use Rattle.key_text.proofs.LineBase64.{base64_takes}
use Rattle.key_text.proofs.ContainerLaws.{Inside, IsInsideFault, fails, goes_on, inside_again, inside_found, inside_met, inside_refused, refused}
use Rattle.key_text.proofs.ListLaws.{front_met, front_not, front_taken}
use Rattle.ssh_wire.proofs.Digits.{IsBytes-back}
use Rattle.ssh_wire.proofs.Steps.{bind_err, bind_ok, err_is, in_fault_err, ok_or_err}

-- ---- the name of the format

length-magic : length magic ≡ 15
unfolding magic
length-magic = grind (arith, common_steps)

bytes_read : (inside : List ℕ) → bytes_at (magic ++ inside) ≡ inside_at inside
unfolding bytes_at
bytes_read inside = grind (arith, common_steps, drop_at, front_met, length-magic)

bytes_cases : (bytes : List ℕ) → ((bytes_at bytes ≡ Err faults.Magic) × ((rest : List ℕ) → bytes ≢ magic ++ rest)) ⊎ ((inside : List ℕ) × (bytes ≡ magic ++ inside))
unfolding bytes_at
bytes_cases bytes = elim (cases_Bool (starts_with nat_eq bytes magic)) [
  | inl met ↦ inr (drop (length magic) bytes, front_taken bytes magic met)
  | inr not ↦ inl (rw not refl, front_not bytes magic not)
]

-- ---- the base64

decoded_again : (bytes : List ℕ) → IsBytes bytes → decoded_at (base64 bytes) ≡ Ok bytes
unfolding decoded_at base64
decoded_again bytes fits = ap (in_fault (λ error. faults.Base64)) (decode_of-encode_of standard bytes refl fits)

-- ---- the contents of the text

holds_read : (text bytes : List ℕ) → Holds text bytes → private_at text ≡ bytes_at bytes
unfolding private_at body_at
holds_read text bytes h =
    let body = armour_again text h.body h.armour in
    let read : decoded_at h.body ≡ Ok bytes = ap decoded_at h.encoded ∙ decoded_again bytes h.are_bytes in
    rw (body, read) refl

-- ---- reading returns only a container

some_body_ok : (o : Option (List ℕ)) (body : List ℕ) → some_body o ≡ Ok body → o ≡ Some body
some_body_ok None body e = absurd cc
some_body_ok (Some other) body e = let same : other ≡ body = cc in ap (λ (b : List ℕ). Some b) same

some_body_err : (o : Option (List ℕ)) (d : PrivateFault) → some_body o ≡ Err d → (o ≡ None) × (d ≡ faults.Armour)
some_body_err None d e = (refl, cc)
some_body_err (Some body) d e = absurd cc

decoded_holds : (text body bytes : List ℕ) → IsBytes text → armour_at text ≡ Some body → decoded_at body ≡ Ok bytes → Holds text bytes
unfolding decoded_at
decoded_holds text body bytes fits armour e =
    let taken = base64_takes (λ error. faults.Base64) body bytes (armour_bytes text body fits armour) e in
    record { body = body; armour = armour_found text body armour; encoded = taken.0; are_bytes = taken.1 }

container_of : (text inside blob comment : List ℕ) → Holds text (magic ++ inside) → Inside inside blob comment → IsContainer text blob comment
container_of text inside blob comment holds is = record { inside = inside; holds = holds; list = is.list; parts = is.parts; key = is.key; is_key = is.is_key; secret = is.secret }

found_in : (text bytes : List ℕ) (o : Opened) → Holds text bytes → bytes_at bytes ≡ Ok o → IsContainer text o.blob o.comment
found_in text bytes o holds e = elim (bytes_cases bytes) [
  | inl not ↦ absurd (ok_or_err o faults.Magic (bytes_at bytes) e not.0)
  | inr has ↦
      let read : inside_at has.0 ≡ Ok o = sym (bytes_read has.0) ∙ ap bytes_at (sym has.1) ∙ e in
      let inside_fits = IsBytes-back magic has.0 (subst IsBytes has.1 holds.are_bytes) in
      container_of text has.0 o.blob o.comment (subst (Holds text) has.1 holds) (inside_found has.0 o inside_fits read)
]

pub private_found : (text : List ℕ) (o : Opened) → IsBytes text → private_at text ≡ Ok o → IsContainer text o.blob o.comment
unfolding private_at body_at
private_found text o fits e =
    let a = bind_ok (some_body (armour_at text)) (λ body. decoded_at body >>= λ bytes. bytes_at bytes) o e in
    let b = bind_ok (decoded_at a.0) (λ bytes. bytes_at bytes) o a.2 in
    found_in text b.0 o (decoded_holds text a.0 b.0 fits (some_body_ok (armour_at text) a.0 a.1) b.1) b.2

pub private_again : (text blob comment : List ℕ) → IsContainer text blob comment → private_at text ≡ Ok (record { blob = blob; comment = comment })
private_again text blob comment is =
    let inner : Inside is.inside blob comment = record { list = is.list; parts = is.parts; key = is.key; is_key = is.is_key; secret = is.secret } in
    holds_read text (magic ++ is.inside) is.holds ∙ bytes_read is.inside ∙ inside_again is.inside blob comment inner

-- ---- a refused text has that first fault

no_armour_at : (text : List ℕ) → armour_at text ≡ None → (body : List ℕ) → ¬ IsArmour text body
no_armour_at text none body is = let some = armour_again text body is in cc

decoded_err : (body : List ℕ) (d : PrivateFault) → decoded_at body ≡ Err d → d ≡ faults.Base64
unfolding decoded_at
decoded_err body d e = (in_fault_err (λ error. faults.Base64) (decode_of standard body) d e).2

no_base64_at : (body : List ℕ) (d : PrivateFault) → decoded_at body ≡ Err d → ((bytes : List ℕ) → IsBytes bytes → base64 bytes ≢ body) × (d ≡ faults.Base64)
no_base64_at body d e = (λ bytes fits same. ok_or_err bytes d (decoded_at body) (ap decoded_at (sym same) ∙ decoded_again bytes fits) e, decoded_err body d e)

inside_fault : (text inside : List ℕ) (fault : PrivateFault) → Holds text (magic ++ inside) → IsInsideFault inside fault → IsPrivateFault text fault
inside_fault text inside fault holds (fails f) = in_parts inside holds f
inside_fault text inside fault holds (goes_on rest values begins more is) = after_parts inside rest values holds begins more is
inside_fault text inside fault holds (refused blob list key parts is f) = in_list inside blob list key holds parts is f

refused_in : (text bytes : List ℕ) (fault : PrivateFault) → Holds text bytes → bytes_at bytes ≡ Err fault → IsPrivateFault text fault
refused_in text bytes fault holds e = elim (bytes_cases bytes) [
  | inl not ↦ no_magic bytes holds not.1 (sym (err_is faults.Magic fault (bytes_at bytes) not.0 e))
  | inr has ↦
      let read : inside_at has.0 ≡ Err fault = sym (bytes_read has.0) ∙ ap bytes_at (sym has.1) ∙ e in
      let inside_fits = IsBytes-back magic has.0 (subst IsBytes has.1 holds.are_bytes) in
      inside_fault text has.0 fault (subst (Holds text) has.1 holds) (inside_refused has.0 fault inside_fits read)
]

pub private_refused : (text : List ℕ) (fault : PrivateFault) → IsBytes text → private_at text ≡ Err fault → IsPrivateFault text fault
unfolding private_at body_at
private_refused text fault fits e =
    elim (bind_err (some_body (armour_at text)) (λ body. decoded_at body >>= λ bytes. bytes_at bytes) fault e) [
      | inl none ↦ let w = some_body_err (armour_at text) fault none in no_armour (no_armour_at text w.0) w.1
      | inr a ↦
          let armour = some_body_ok (armour_at text) a.0 a.1 in
          elim (bind_err (decoded_at a.0) (λ bytes. bytes_at bytes) fault a.2) [
            | inl bad ↦ let w = no_base64_at a.0 fault bad in no_base64 a.0 (armour_found text a.0 armour) w.0 w.1
            | inr b ↦ refused_in text b.0 fault (decoded_holds text a.0 b.0 fits armour b.1) b.2
          ]
    ]

-- ---- reading reports a first fault

inside_fault_met : (text inside : List ℕ) (fault : PrivateFault) → Holds text (magic ++ inside) → IsInsideFault inside fault → private_at text ≡ Err fault
inside_fault_met text inside fault holds f = holds_read text (magic ++ inside) holds ∙ bytes_read inside ∙ inside_met inside fault f

no_armour_met : (text : List ℕ) (o : Option (List ℕ)) → armour_at text ≡ o → ((body : List ℕ) → ¬ IsArmour text body) → private_at text ≡ Err faults.Armour
unfolding private_at body_at
no_armour_met text None e none = rw e refl
no_armour_met text (Some body) e none = absurd (none body (armour_found text body e))

no_base64_met : (text body : List ℕ) (read : Result (List ℕ) PrivateFault) → IsBytes text → IsArmour text body → decoded_at body ≡ read → ((bytes : List ℕ) → IsBytes bytes → base64 bytes ≢ body) → private_at text ≡ Err faults.Base64
unfolding private_at body_at decoded_at
no_base64_met text body (Ok bytes) fits armour e none =
    let taken = base64_takes (λ error. faults.Base64) body bytes (armour_bytes text body fits (armour_again text body armour)) e in
    absurd (none bytes taken.1 (sym taken.0))
no_base64_met text body (Err fault) fits armour e none =
    let is = decoded_err body fault e in
    let some = armour_again text body armour in
    rw (some, e, is) refl

pub private_met : (text : List ℕ) (fault : PrivateFault) → IsBytes text → IsPrivateFault text fault → private_at text ≡ Err fault
private_met text fault fits (no_armour none is) = no_armour_met text (armour_at text) refl none ∙ ap (λ (f : PrivateFault). Err f) (sym is)
private_met text fault fits (no_base64 body armour none is) = no_base64_met text body (decoded_at body) fits armour refl none ∙ ap (λ (f : PrivateFault). Err f) (sym is)
private_met text fault fits (no_magic bytes holds none is) = holds_read text bytes holds ∙ magic_met bytes none ∙ ap (λ (f : PrivateFault). Err f) (sym is)
  where
    magic_met : (bytes : List ℕ) → ((rest : List ℕ) → bytes ≢ magic ++ rest) → bytes_at bytes ≡ Err faults.Magic
    magic_met bytes none = elim (bytes_cases bytes) [
      | inl not ↦ not.0
      | inr has ↦ absurd (none has.0 has.1)
    ]
private_met text fault fits (in_parts inside holds f) = inside_fault_met text inside fault holds (fails f)
private_met text fault fits (after_parts inside rest values holds begins more is) = inside_fault_met text inside fault holds (goes_on rest values begins more is)
private_met text fault fits (in_list inside blob list key holds parts is f) = inside_fault_met text inside fault holds (refused blob list key parts is f)

-- ---- what a reader returned

pub is_private : (text : List ℕ) (result : Result Private PrivateFault) → IsBytes text → GivesPrivate result (private_at text) → IfOk result (λ private. IsContainer text private.blob private.comment)
is_private text (Ok private) fits given = private_found text (opened_of private) fits given
is_private text (Err fault) fits given = tt

has_armour : (text : List ℕ) (o : Option (List ℕ)) → armour_at text ≡ o → o ≢ None → (body : List ℕ) × IsArmour text body
has_armour text None e some = absurd (some refl)
has_armour text (Some body) e some = (body, armour_found text body e)

pub is_reported : (text : List ℕ) (result : Result Private PrivateFault) → IsBytes text → GivesPrivate result (private_at text) → (result ≡ Err faults.NoMemory → armour_at text ≢ None) → IfErr result (IsReportedPrivateFault text)
is_reported text (Ok private) fits given armoured = tt
is_reported text (Err faults.NoMemory) fits given armoured = has_armour text (armour_at text) refl (armoured refl)
is_reported text (Err fault) fits given armoured = private_refused text fault fits given
