-- The front of a list, and of each of its sections.
use Rattle.std.proofs.Common.{◌≡◌, ℕ, ◌^◌, ◌<◌, ◌≤◌, ◌-◌, ◌⊎◌, inl, inr, Bool, true, false, List, [], ◌∷◌, ◌++◌, length, take, drop, refl, sym, ap, subst, ◌∙◌, arith, append_assoc}
use Rattle.std.proofs.lemmas.List.{append-nil, length-take-le, take_rest}
use Rattle.std.specs.Prelude.{IsTrue, ◌↔◌, Option, Some, Result, Ok, Err, slice_index_or}
use Rattle.ssh_wire.specs.Rows.{BeginsWithPart, BeginsWithTable, Text}
use Rattle.ssh_wire.specs.declared.fault.WireFault.{WireFault}
use Rattle.ssh_wire.specs.Wire.{number_of, string}
use Rattle.krl_format.specs.Field.{row_of, rows_of}
use Rattle.krl_format.specs.Front.{Passes}
use Rattle.krl_format.specs.Krl.{Certificates, Extension, Keys, Sha1s, Sha256s, Signature, SpelledSection, SpellsCertificates, SpellsContent, SpellsSection, Subsection, authority_fields}
use Rattle.krl_format.specs.Place.{expected}
use Rattle.krl_format.specs.declared.place.Place.{Place}
use Rattle.krl_format.specs.declared.place.Place.TheVariants as places
use Rattle.krl_format.specs.declared.place.field.Field.{Field}
use Rattle.krl_format.specs.declared.place.field.Field.TheVariants as fields
use Rattle.krl_format.specs.Section.{signature_type}
use Rattle.krl_types.specs.declared.item_kind.ItemKind.{ItemKind}
use Rattle.krl_format.specs.declared.section.Section.{Section as SectionKind}
use Rattle.krl_format.specs.declared.section.Section.TheVariants as section_kinds
use Rattle.krl_format.specs.declared.section.Subsection.{Subsection as SubsectionKind}
use Rattle.krl_format.proofs.Judgements.{same_place}
use Rattle.krl_format.proofs.OneSpelling.{section_type}
use Rattle.krl_format.proofs.TableRows.{after_is, fields_at}
use Rattle.krl_openssh.specs.Comparable.{IsFine, IsJudged}
use Rattle.krl_openssh.specs.declared.authorities.Incomparable.{Incomparable}
use Rattle.krl_openssh.specs.declared.authorities.Incomparable.TheVariants as reasons
use Rattle.krl_openssh.proofs.Walk.{HasBytes}

-- ---- what was read

abbrev got : Result (List ℕ × List ℕ) WireFault → List ℕ × List ℕ
got (Ok read) = read
got (Err fault) = ([], [])

pub taken_is : (text rest text' rest' : List ℕ) (read : Result (List ℕ × List ℕ) WireFault) → read ≡ Ok (text, rest) → read ≡ Ok (text', rest') → (text ≡ text') × (rest ≡ rest')
taken_is text rest text' rest' read e f =
    let same : (text, rest) ≡ (text', rest') = ap got (sym e ∙ f) in
    (ap (λ (p : List ℕ × List ℕ). p.0) same, ap (λ (p : List ℕ × List ℕ). p.1) same)

pub not_both : {X E : Type 0} (read : Result X E) (fault : E) (x : X) → read ≡ Err fault → read ≡ Ok x → ⊥
not_both read fault x e f = absurd cc

pub one_read : {X E : Type 0} (read : Result X E) (x y : X) → read ≡ Ok x → read ≡ Ok y → x ≡ y
one_read read x y e f = grind arith

-- ---- the header

-- the fields of the header from one on, and then the sections
abbrev pub Leaves : Option Field → (left body : List ℕ) → Type 0
Leaves at left body = (before values : List (List ℕ)) × BeginsWithTable (rows_of (fields_at at)) before left values body

-- the field at the front
pub leaves_field : (field : Field) (left body : List ℕ) → Leaves (Some field) left body → (value rest : List ℕ) × BeginsWithPart (row_of field).row.part left value rest
leaves_field field left body (before, values, (value, tail, begins, passed, later)) = (value, tail, begins)

-- and what is left after it
pub leaves_next : (field : Field) (left new body : List ℕ) → Leaves (Some field) left body → ((value rest : List ℕ) → BeginsWithPart (row_of field).row.part left value rest → new ≡ rest)
    → Leaves (row_of field).next new body
leaves_next field left new body (before, values, (value, tail, begins, passed, later)) skipped =
    (before ++ value ∷ [], values, rw (skipped value tail begins, ← after_is field) later)

-- ---- a section

-- its type byte, a string, and the bytes after that
pub record BeginsSo (section : SpelledSection) (first : List ℕ) : Type 0 where
  pub content : List ℕ
  pub after : List ℕ
  pub parts : first ≡ section_type section ∷ (string content ++ after)
  pub fits : length content < 2 ^ 32

abbrev of_content : {Content : List ℕ → Type 0} (section : SpelledSection) (first : List ℕ) → SpellsContent (section_type section) Content first → BeginsSo section first
of_content section first is = record {
  content = is.content;
  after = [];
  parts = is.spelled ∙ ap (λ (bytes : List ℕ). section_type section ∷ bytes) (sym (append-nil (string is.content)));
  fits = is.fits;
}

abbrev pub begins_so : (section : SpelledSection) (first : List ℕ) → SpellsSection first section → BeginsSo section first
begins_so Signature first (content, spelled, (values, (key, a, is_key, any_key, more))) =
    record { content = key; after = a; parts = spelled ∙ ap (λ (x : List ℕ). signature_type ∷ x) is_key.spelled; fits = is_key.is_part }
begins_so section first is = of_content section first is

-- reading a string that is spelled gives it and the bytes after it
abbrev pub Takes : (from content left : List ℕ) → Type 0
Takes from content left = (text rest : List ℕ) → from ≡ string text ++ rest → length text < 2 ^ 32 → (content ≡ text) × (left ≡ rest)

-- ---- the place after its type byte

abbrev pub place_of : SpelledSection → Place
place_of (Certificates authority subsections) = places.SectionLength section_kinds.Certificates
place_of (Keys blobs) = places.SectionLength section_kinds.Keys
place_of (Sha1s hashes) = places.SectionLength section_kinds.Sha1s
place_of (Sha256s hashes) = places.SectionLength section_kinds.Sha256s
place_of Signature = places.Field fields.SignatureKey 0 0
place_of Extension = places.SectionLength section_kinds.Extension

typed : (section : SpelledSection) → (expected (places.SectionType false)).judged (section_type section ∷ []) ≡ Ok (place_of section)
unfolding number_of
typed (Certificates authority subsections) = refl
typed (Keys blobs) = refl
typed (Sha1s hashes) = refl
typed (Sha256s hashes) = refl
typed Signature = refl
typed Extension = refl

parts_of : (section : SpelledSection) (first rest bytes : List ℕ) (begins : BeginsSo section first) → bytes ≡ first ++ rest → bytes ≡ section_type section ∷ (string begins.content ++ (begins.after ++ rest))
parts_of section first rest bytes begins parts =
    parts ∙ ap (λ (b : List ℕ). b ++ rest) begins.parts ∙ ap (λ (b : List ℕ). section_type section ∷ b) (append_assoc (string begins.content) begins.after rest)

-- The place is the one after the type byte, and the section's string is next.
pub record IsNext (section : SpelledSection) (first rest : List ℕ) (spells : SpellsSection first section) (next : Place) (after : List ℕ) : Type 0 where
  pub place_is : next ≡ place_of section
  pub after_is : after ≡ string (begins_so section first spells).content ++ ((begins_so section first spells).after ++ rest)

pub next_is : (section : SpelledSection) (first rest bytes after : List ℕ) (size : ℕ) (next : Place) (spells : SpellsSection first section) → bytes ≡ first ++ rest → size ≤ length bytes
    → Passes (places.SectionType false) (take size bytes) next → after ≡ take (length bytes - size) (drop size bytes) → IsNext section first rest spells next after
next_is section first rest bytes after size next spells parts within passes after_is =
    let begins = begins_so section first spells in
    let is = parts_of section first rest bytes begins parts in
    let one : size ≡ 1 = omega (arith, passes.whole, length-take-le size bytes within) in
    let byte : take size bytes ≡ section_type section ∷ [] = ap (λ (n : ℕ). take n bytes) one ∙ ap (take 1) is in
    record {
      place_is = same_place next (place_of section) (sym passes.judged ∙ ap (expected (places.SectionType false)).judged byte ∙ typed section);
      after_is = after_is ∙ take_rest bytes size ∙ ap (λ (n : ℕ). drop n bytes) one ∙ ap (drop 1) is;
    }

-- There is a type byte.
pub has_type : (section : SpelledSection) (first rest bytes : List ℕ) → SpellsSection first section → bytes ≡ first ++ rest
    → ((field rest : List ℕ) (next : Place) → Passes (places.SectionType false) field next → bytes ≡ field ++ rest → ⊥) → ⊥
has_type section first rest bytes spells parts none =
    let begins = begins_so section first spells in
    none (section_type section ∷ []) (string begins.content ++ (begins.after ++ rest)) (place_of section) (record { room = tt; whole = refl; judged = typed section }) (parts_of section first rest bytes begins parts)

-- There is a string after it.
pub has_string : (section : SpelledSection) (first rest : List ℕ) (spells : SpellsSection first section) (next : Place) (after : List ℕ) → IsNext section first rest spells next after
    → ((text rest : List ℕ) → after ≡ string text ++ rest → length text < 2 ^ 32 → ⊥) → ⊥
has_string section first rest spells next after is none =
    let begins = begins_so section first spells in
    none begins.content (begins.after ++ rest) is.after_is begins.fits

-- ---- the judgement on a section

-- a content begins with its authority
pub authority_front : (content body : List ℕ) (values : List (List ℕ)) → BeginsWithTable authority_fields [] content values body → (more : List ℕ) × BeginsWithPart Text content (slice_index_or values 0 []) more
authority_front content body values (authority, a, is_authority, any_authority, (reserved, b, is_reserved, any_reserved, (same, ends))) =
    (a, subst (λ (v : List (List ℕ)). BeginsWithPart Text content (slice_index_or v 0 []) a) same is_authority)

-- a section of certificates, judged by its content
pub judged_certificates : (why : Incomparable) (section : SpelledSection) (first rest after content left : List ℕ) (fine : Bool) (next : Place) (spells : SpellsSection first section) → IsNext section first rest spells next after
    → next ≡ places.SectionLength section_kinds.Certificates → Takes after content left
    → ((authority : List ℕ) (subsections : List Subsection) → SpellsCertificates content authority subsections → length content < 2 ^ 32 → IsTrue fine ↔ IsFine why (Certificates authority subsections))
    → IsJudged (IsFine why section) fine left rest
judged_certificates why (Certificates authority subsections) first rest after content left fine next spells is here takes by =
    let so = begins_so (Certificates authority subsections) first spells in
    let taken = takes so.content (so.after ++ rest) is.after_is so.fits in
    record {
      judged = by authority subsections (subst (λ (c : List ℕ). SpellsCertificates c authority subsections) (sym taken.0) spells.content_is) (omega (arith, so.fits, ap length taken.0));
      left_is = λ _. taken.1;
    }
judged_certificates why section first rest after content left fine next spells is here takes by = let other = sym is.place_is ∙ here in absurd cc

abbrev pub IsPlain : Place → Type 0
IsPlain (places.SectionLength section_kinds.Certificates) = ⊥
IsPlain (places.SectionLength section) = Unit {0}
IsPlain _ = ⊥

-- a section without certificates names none
pub fine_signature : (why : Incomparable) → IsFine why Signature
fine_signature reasons.Authority = tt
fine_signature reasons.KeyId = tt

fine_plain : (why : Incomparable) (section : SpelledSection) → IsPlain (place_of section) → IsFine why section
fine_plain why (Certificates authority subsections) plain = absurd plain
fine_plain why Signature plain = absurd plain
fine_plain reasons.Authority (Keys blobs) plain = tt
fine_plain reasons.Authority (Sha1s hashes) plain = tt
fine_plain reasons.Authority (Sha256s hashes) plain = tt
fine_plain reasons.Authority Extension plain = tt
fine_plain reasons.KeyId (Keys blobs) plain = tt
fine_plain reasons.KeyId (Sha1s hashes) plain = tt
fine_plain reasons.KeyId (Sha256s hashes) plain = tt
fine_plain reasons.KeyId Extension plain = tt

-- a signature, whose second string is skipped
pub judged_signature : (why : Incomparable) (section : SpelledSection) (first rest after content middle left : List ℕ) (fine : Bool) (next : Place) (row : Field) (size behind : ℕ) (spells : SpellsSection first section) → IsNext section first rest spells next after
    → next ≡ places.Field row size behind → Takes after content middle → ((text rest : List ℕ) → middle ≡ string text ++ rest → length text < 2 ^ 32 → IsTrue fine × (left ≡ rest))
    → IsJudged (IsFine why section) fine left rest
judged_signature why Signature first rest after content middle left fine next row size behind (bytes, spelled, (values, (key, a, is_key, any_key, (signature, b, is_signature, any_signature, (same, ends))))) is here takes skips =
    let taken = takes key (a ++ rest) is.after_is is_key.is_part in
    let middle_is : middle ≡ string signature ++ rest = taken.1 ∙ ap (λ (x : List ℕ). x ++ rest) is_signature.spelled ∙ append_assoc (string signature) b rest ∙ ap (λ (x : List ℕ). string signature ++ (x ++ rest)) ends in
    let skipped = skips signature rest middle_is is_signature.is_part in
    record {
      judged = ((λ _. fine_signature why), (λ _. skipped.0));
      left_is = λ _. skipped.1;
    }
judged_signature why section first rest after content middle left fine next row size behind spells is here takes skips = let other = sym is.place_is ∙ here in absurd cc

pub is_plain : (next : Place) (kind : SectionKind) → next ≡ places.SectionLength kind
    → (kind ≡ section_kinds.Keys) ⊎ ((kind ≡ section_kinds.Sha1s) ⊎ ((kind ≡ section_kinds.Sha256s) ⊎ (kind ≡ section_kinds.Extension))) → IsPlain next
is_plain next kind at (inl is) = subst IsPlain (sym (at ∙ ap (λ (k : SectionKind). places.SectionLength k) is)) tt
is_plain next kind at (inr (inl is)) = subst IsPlain (sym (at ∙ ap (λ (k : SectionKind). places.SectionLength k) is)) tt
is_plain next kind at (inr (inr (inl is))) = subst IsPlain (sym (at ∙ ap (λ (k : SectionKind). places.SectionLength k) is)) tt
is_plain next kind at (inr (inr (inr is))) = subst IsPlain (sym (at ∙ ap (λ (k : SectionKind). places.SectionLength k) is)) tt

-- a section of one string without an authority
pub judged_plain : (why : Incomparable) (section : SpelledSection) (first rest after content left : List ℕ) (next : Place) (spells : SpellsSection first section) → IsNext section first rest spells next after → IsPlain next → Takes after content left
    → IsJudged (IsFine why section) true left rest
judged_plain why (Certificates authority subsections) first rest after content left next spells is plain takes = absurd (subst IsPlain is.place_is plain)
judged_plain why Signature first rest after content left next spells is plain takes = absurd (subst IsPlain is.place_is plain)
judged_plain why section first rest after content left next spells is plain takes =
    let so = begins_so section first spells in
    let taken = takes so.content (so.after ++ rest) is.after_is so.fits in
    record {
      judged = ((λ _. fine_plain why section (subst IsPlain is.place_is plain)), (λ _. refl));
      left_is = λ _. taken.1;
    }

-- no section begins with such a place
abbrev pub IsOther : Place → Type 0
IsOther (places.Field row left after) = ⊥
IsOther (places.SectionLength section) = ⊥
IsOther _ = Unit {0}

pub is_other : (next : Place) → ((row : Field) × (size : ℕ) × (left : ℕ) × (after : ℕ) × (next ≡ places.Content row size left after))
    ⊎ (((signed : Bool) × (next ≡ places.SectionType signed))
    ⊎ (((left : ℕ) × (next ≡ places.SubsectionType left))
    ⊎ (((part : SubsectionKind) × (left : ℕ) × (next ≡ places.SubsectionLength part left))
    ⊎ (((kind : ItemKind) × (left : ℕ) × (after : ℕ) × (next ≡ places.ItemLength kind left after))
    ⊎ (((kind : ItemKind) × (size : ℕ) × (left : ℕ) × (after : ℕ) × (next ≡ places.Item kind size left after))
    ⊎ (((left : ℕ) × (after : ℕ) × (next ≡ places.Serial left after))
    ⊎ (((after : ℕ) × (next ≡ places.RangeMin after))
    ⊎ (((min : ℕ) × (after : ℕ) × (next ≡ places.RangeMax min after))
    ⊎ (((left : ℕ) × (after : ℕ) × (next ≡ places.Offset left after))
    ⊎ (((offset : ℕ) × (left : ℕ) × (after : ℕ) × (next ≡ places.BitmapSize offset left after))
    ⊎ ((offset : ℕ) × (size : ℕ) × (left : ℕ) × (after : ℕ) × (next ≡ places.Byte offset size left after)))))))))))) → IsOther next
is_other next (inl (row, size, left, after, is)) = subst IsOther (sym is) tt
is_other next (inr (inl (signed, is))) = subst IsOther (sym is) tt
is_other next (inr (inr (inl (left, is)))) = subst IsOther (sym is) tt
is_other next (inr (inr (inr (inl (part, left, is))))) = subst IsOther (sym is) tt
is_other next (inr (inr (inr (inr (inl (kind, left, after, is)))))) = subst IsOther (sym is) tt
is_other next (inr (inr (inr (inr (inr (inl (kind, size, left, after, is))))))) = subst IsOther (sym is) tt
is_other next (inr (inr (inr (inr (inr (inr (inl (left, after, is)))))))) = subst IsOther (sym is) tt
is_other next (inr (inr (inr (inr (inr (inr (inr (inl (after, is))))))))) = subst IsOther (sym is) tt
is_other next (inr (inr (inr (inr (inr (inr (inr (inr (inl (min, after, is)))))))))) = subst IsOther (sym is) tt
is_other next (inr (inr (inr (inr (inr (inr (inr (inr (inr (inl (left, after, is))))))))))) = subst IsOther (sym is) tt
is_other next (inr (inr (inr (inr (inr (inr (inr (inr (inr (inr (inl (offset, left, after, is)))))))))))) = subst IsOther (sym is) tt
is_other next (inr (inr (inr (inr (inr (inr (inr (inr (inr (inr (inr (offset, size, left, after, is)))))))))))) = subst IsOther (sym is) tt

never_other : (section : SpelledSection) → IsOther (place_of section) → ⊥
never_other (Certificates authority subsections) other = other
never_other (Keys blobs) other = other
never_other (Sha1s hashes) other = other
never_other (Sha256s hashes) other = other
never_other Signature other = other
never_other Extension other = other

pub judged_never : (why : Incomparable) (section : SpelledSection) (first rest after left : List ℕ) (next : Place) (spells : SpellsSection first section) → IsNext section first rest spells next after → IsOther next → IsJudged (IsFine why section) false left rest
judged_never why section first rest after left next spells is other = absurd (never_other section (subst IsOther is.place_is other))

-- Each section has a byte.
pub section_has_bytes : HasBytes SpellsSection
section_has_bytes section first is = omega (arith, ap length (begins_so section first is).parts)
