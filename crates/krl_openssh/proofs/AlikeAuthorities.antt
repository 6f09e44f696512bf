-- The authorities of a list without a difference are keys that OpenSSH accepts.
use Rattle.std.proofs.Common.{◌≡◌, ℕ, ◌-◌, ◌<◌, ◌^◌, true, false, List, [], ◌∷◌, ◌++◌, length, Option, None, Result, Ok, Err, inl, inr, refl, sym, ap, subst, ◌∙◌, arith, ltb, append_assoc}
use Rattle.ssh_wire.specs.Rows.{BeginsWithPart, Text}
use Rattle.ssh_wire.specs.Wire.{IsBytes, number, number_of, string}
use Rattle.ssh_wire.proofs.Digits.{IsBytes-back, IsBytes-front}
use Rattle.ssh_wire.proofs.Fields.{IsBytes-in_string, length-number, number_of-number}
use Rattle.ssh_key.specs.Key.{IsKey, PublicKey}
use Rattle.ssh_key.specs.KeyReading.{key_at}
use Rattle.ssh_key.specs.declared.fault.KeyFault.{KeyFault}
use Rattle.openssh_keys.specs.Judgement.{judgement_of}
use Rattle.openssh_keys.specs.declared.judgement.Judgement.{Judgement}
use Rattle.openssh_keys.specs.declared.judgement.Judgement.TheVariants as judgements
use Rattle.krl_types.specs.declared.krl_fault.KrlFault.TheVariants as faults
use Rattle.krl_format.specs.Krl.{Certificates, Extension, Keys, Sha1s, Sha256s, Signature, SignaturesLast, SpelledSection, SpellsEach, SpellsSection}
use Rattle.krl_format.specs.Place.{can_end}
use Rattle.krl_format.specs.declared.place.Place.{Place}
use Rattle.krl_format.specs.declared.place.Place.TheVariants as places
use Rattle.krl_format.specs.Section.{section_row}
use Rattle.krl_format.specs.declared.place.field.Field.TheVariants as fields
use Rattle.krl_format.specs.declared.section.Section.TheVariants as section_kinds
use Rattle.krl_format.proofs.Judgements.{held_back, same_place}
use Rattle.krl_openssh.specs.Authority.{AuthoritiesAreKeys, HasKeyOrAll, IsKeyOrAll}
use Rattle.krl_openssh.specs.Difference.{authority_difference, judgement_difference, key_difference, kind_difference, or_later}
use Rattle.krl_openssh.specs.declared.difference.Difference.{Difference}
use Rattle.krl_openssh.proofs.Spelled.{authority_front}
use Rattle.krl_openssh.proofs.AlikeLists.{IsAlike, IsBoundary, both_none, follow, last_front, one_more}

-- ---- an authority without a difference

accepted : (judgement : Judgement) → judgement_difference judgement ≡ None → judgement ≡ judgements.Accepted
accepted judgements.Accepted none = refl
accepted judgements.Short none = absurd cc
accepted judgements.Long none = absurd cc
accepted judgements.Point none = absurd cc

judged_so : (judgement : Judgement) (later : Option Difference) → or_later (judgement_difference judgement) later ≡ None → judgement ≡ judgements.Accepted
judged_so judgement later none = accepted judgement (both_none (judgement_difference judgement) later none).0

by_key : (authority : List ℕ) (read : Result PublicKey KeyFault) → key_at authority ≡ read → key_difference read ≡ None → ((key : PublicKey) → key_at authority ≡ Ok key → IsKey authority key) → IsKeyOrAll authority
by_key authority (Ok key) is none spelled = inr (record { key = key; is_key = spelled key is; accepted = judged_so (judgement_of key) (kind_difference key.kind) none })
by_key authority (Err fault) is none spelled = absurd cc

is_key : (authority : List ℕ) → authority_difference authority ≡ None → ((key : PublicKey) → key_at authority ≡ Ok key → IsKey authority key) → IsKeyOrAll authority
is_key [] none spelled = inl refl
is_key (byte ∷ bytes) none spelled = by_key (byte ∷ bytes) (key_at (byte ∷ bytes)) refl none spelled

-- ---- the fields of a section of certificates, up to its authority

alike_from : {place : Place} (a b : List ℕ) → a ≡ b → IsAlike place a → IsAlike place b
alike_from {place} a b e is = subst (λ (left : List ℕ). IsAlike place left) e is

alike_at : {p q : Place} {left : List ℕ} → p ≡ q → IsAlike p left → IsAlike q left
alike_at {p} {q} {left} e is = subst (λ (place : Place). IsAlike place left) e is

-- a length, and the bytes that it counts
string_front : (text rest : List ℕ) → string text ++ rest ≡ number 4 (length text) ++ (text ++ rest)
unfolding string
string_front text rest = append_assoc (number 4 (length text)) text rest

-- its bytes, in a place for it
at_authority : (size left after : ℕ) (authority rest : List ℕ) → size ≡ length authority → IsAlike (places.Content fields.Authority size left after) (authority ++ rest) → authority_difference authority ≡ None
at_authority size left after [] rest is alike = refl
at_authority size left after (byte ∷ bytes) rest is alike = (follow (byte ∷ bytes) rest alike (sym is) (omega arith)).fine

-- its length
at_length : (left after : ℕ) (authority rest : List ℕ) → length authority < 2 ^ 32 → IsAlike (places.Field fields.Authority left after) (string authority ++ rest) → authority_difference authority ≡ None
at_length left after authority rest fits alike =
    let size : List ℕ = number 4 (length authority) in
    let one = follow size (authority ++ rest) (alike_from (string authority ++ rest) (size ++ (authority ++ rest)) (string_front authority rest) alike) (length-number 4 (length authority)) (omega (arith, length-number 4 (length authority))) in
    let n = number_of size in
    let next = held_back (ltb (left - 4) n) faults.Length (Ok (places.Content fields.Authority n (left - 4 - n) after)) one.next one.passes.judged in
    at_authority n (left - 4 - n) after authority rest (number_of-number 4 (length authority) fits)
    (alike_at (sym (same_place (places.Content fields.Authority n (left - 4 - n) after) one.next next.1)) one.alike)

-- the length of the section
at_content : (content authority more rest : List ℕ) → content ≡ string authority ++ more → length authority < 2 ^ 32 → IsAlike (places.SectionLength section_kinds.Certificates) (string content ++ rest)
    → authority_difference authority ≡ None
at_content content authority more rest parts fits alike =
    let size : List ℕ = number 4 (length content) in
    let one = follow size (content ++ rest) (alike_from (string content ++ rest) (size ++ (content ++ rest)) (string_front content rest) alike) (length-number 4 (length content)) (omega (arith, length-number 4 (length content))) in
    let n = number_of size in
    let at = alike_at (sym (same_place (places.Field fields.Authority n 0) one.next one.passes.judged)) one.alike in
    at_length n 0 authority (more ++ rest) fits (alike_from (content ++ rest) (string authority ++ (more ++ rest)) (ap (λ (c : List ℕ). c ++ rest) parts ∙ append_assoc (string authority) more rest) at)

-- its type
abbrev certificates_type : ℕ
certificates_type = (section_row section_kinds.Certificates).type_byte

at_section : (place : Place) (content authority more rest : List ℕ) → can_end place ≡ true → content ≡ string authority ++ more → length authority < 2 ^ 32 → IsAlike place ((certificates_type ∷ string content) ++ rest)
    → authority_difference authority ≡ None
unfolding number_of
at_section (places.SectionType false) content authority more rest may parts fits alike =
    let one = follow (certificates_type ∷ []) (string content ++ rest) alike refl (omega arith) in
    at_content content authority more rest parts fits (alike_at (sym (same_place (places.SectionLength section_kinds.Certificates) one.next one.passes.judged)) one.alike)
at_section (places.SectionType true) content authority more rest may parts fits alike =
    let one = follow (certificates_type ∷ []) (string content ++ rest) alike refl (omega arith) in
    let never = one.passes.judged in
    absurd cc
at_section _ content authority more rest may parts fits alike = absurd cc

-- ---- all sections

-- Reading bytes gives a key only if they are its blob.
abbrev pub IsSpelled : Type 0
IsSpelled = (blob : List ℕ) (key : PublicKey) → IsBytes blob → key_at blob ≡ Ok key → IsKey blob key

has_key : (section : SpelledSection) (text rest : List ℕ) → SpellsSection text section → IsBytes text → IsSpelled → IsBoundary (text ++ rest) → HasKeyOrAll section
has_key (Certificates authority subsections) text rest is bytes spelled boundary =
    let held = is.content_is in
    let (more, named) = authority_front is.content held.body held.values held.fields in
    let begins = subst (λ (a : List ℕ). BeginsWithPart Text is.content a more) held.authority_is named in
    let content_bytes = IsBytes-in_string is.content (IsBytes-back (certificates_type ∷ []) (string is.content) (subst IsBytes is.spelled bytes)) in
    let authority_bytes = IsBytes-in_string authority (IsBytes-front (string authority) more (subst IsBytes begins.spelled content_bytes)) in
    is_key authority
    (at_section boundary.place is.content authority more rest boundary.may_end begins.spelled begins.is_part (alike_from (text ++ rest) ((certificates_type ∷ string is.content) ++ rest) (ap (λ (t : List ℕ). t ++ rest) is.spelled) boundary.alike))
    (λ (key : PublicKey). spelled authority key authority_bytes)
has_key (Keys blobs) text rest is bytes spelled boundary = tt
has_key (Sha1s hashes) text rest is bytes spelled boundary = tt
has_key (Sha256s hashes) text rest is bytes spelled boundary = tt
has_key Signature text rest is bytes spelled boundary = tt
has_key Extension text rest is bytes spelled boundary = tt

-- each of the later sections, after those that were looked at
pub have_keys : (sections : List SpelledSection) (body : List ℕ) → SignaturesLast sections → IsSpelled
    → ((before rest : List ℕ) (earlier : List SpelledSection) → SpellsEach SpellsSection before earlier → SignaturesLast earlier → body ≡ before ++ rest → IsBoundary rest)
    → (earlier later : List SpelledSection) (before rest : List ℕ) → SpellsEach SpellsSection before earlier → SpellsEach SpellsSection rest later → sections ≡ earlier ++ later → body ≡ before ++ rest → IsBytes rest
    → AuthoritiesAreKeys later
have_keys sections body last spelled boundary earlier [] before rest each more all parts bytes = tt
have_keys sections body last spelled boundary earlier (section ∷ later) before rest each (text, (after, (rest_is, one, others))) all parts bytes =
    let there = boundary before rest earlier each (last_front earlier (section ∷ later) (subst SignaturesLast all last)) parts in
    let both = subst IsBytes rest_is bytes in (
      has_key section text after one (IsBytes-front text after both) spelled (subst IsBoundary rest_is there),
      have_keys sections body last spelled boundary (earlier ++ section ∷ []) later (before ++ text) after (one_more earlier before text section each one) others
          (all ∙ sym (append_assoc earlier (section ∷ []) later)) (parts ∙ ap (λ (b : List ℕ). before ++ b) rest_is ∙ sym (append_assoc before text after)) (IsBytes-back text after both),
    )
