-- The subsections of a section of certificates, and the strings of a subsection of key IDs.
use Rattle.std.proofs.Common.{◌≡◌, ℕ, ◌+◌, ◌<◌, ◌^◌, Bool, false, List, [], ◌∷◌, ◌++◌, length, refl, sym, ap, ◌∙◌, arith, length-append, Err}
use Rattle.std.proofs.lemmas.Bool.{le-ltb}
use Rattle.std.specs.Prelude.{nat_lt}
use Rattle.ssh_wire.specs.Reading.{number_at}
use Rattle.ssh_wire.specs.Wire.{string, strings}
use Rattle.ssh_wire.specs.declared.fault.WireFault.{WireFault}
use Rattle.ssh_wire.proofs.Fields.{length-string}
use Rattle.krl_format.specs.Krl.{SpellsEach, SpellsSubsection, Subsection, subsection_type}
use Rattle.krl_openssh.specs.Comparable.{IsJudged, IsWholeId}
use Rattle.krl_openssh.proofs.Walk.{HasBytes, Judges}

-- ---- strings

-- A string whose length fits.
abbrev pub SpellsText : List ℕ → List ℕ → Type 0
SpellsText bytes text = (bytes ≡ string text) × (length text < 2 ^ 32)

pub texts_each : (texts : List (List ℕ)) (content : List ℕ) → content ≡ strings texts → length content < 2 ^ 32 → SpellsEach SpellsText content texts
texts_each [] content parts fits = parts
texts_each (text ∷ texts) content parts fits =
    let sizes : length content ≡ length (string text) + length (strings texts) = ap length parts ∙ length-append (string text) (strings texts) in
    let own : length text < 2 ^ 32 = omega (arith, fits, sizes, length-string text) in
    let later : length (strings texts) < 2 ^ 32 = omega (arith, fits, sizes) in
    (string text, (strings texts, (parts, (refl, own), texts_each texts (strings texts) refl later)))

pub text_judges : (old new : List ℕ) (fine : Bool) → ((text rest : List ℕ) → old ≡ string text ++ rest → length text < 2 ^ 32 → IsJudged (IsWholeId text) fine new rest) → Judges SpellsText IsWholeId old new fine
text_judges old new fine judged text first rest is parts = judged text rest (parts ∙ ap (λ (b : List ℕ). b ++ rest) is.0) is.1

pub text_has_bytes : HasBytes SpellsText
text_has_bytes text bytes is = omega (arith, ap length is.0, length-string text)

-- ---- subsections

-- There is a type byte.
has_byte : (byte : ℕ) (bytes : List ℕ) (fault : WireFault) → number_at 1 (byte ∷ bytes) ≡ Err fault → ⊥
unfolding number_at
has_byte byte bytes fault is =
    let long : nat_lt (length (byte ∷ bytes)) 1 ≡ false = le-ltb (length (byte ∷ bytes)) 1 (omega arith) in
    let read = rw long at is in
    absurd cc

pub has_type : (subsection : Subsection) (first rest old : List ℕ) (fault : WireFault) → SpellsSubsection first subsection → old ≡ first ++ rest → number_at 1 old ≡ Err fault → ⊥
has_type subsection first rest old fault is parts unread =
    has_byte (subsection_type subsection) (string is.content ++ rest) fault (sym (ap (number_at 1) (parts ∙ ap (λ (b : List ℕ). b ++ rest) is.spelled)) ∙ unread)

pub sub_has_bytes : HasBytes SpellsSubsection
sub_has_bytes subsection first is = omega (arith, ap length is.spelled)
