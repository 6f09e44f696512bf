-- The next field of a list without a difference, and what is left after its first sections.
use Rattle.std.proofs.Common.{◌≡◌, ℕ, ◌<◌, ◌≤◌, true, List, [], ◌∷◌, ◌++◌, length, Option, Some, None, refl, sym, ap, subst, ◌∙◌, arith, length-append, append-nil, append_assoc}
use Rattle.std.specs.List.{AllByRecursion, concat}
use Rattle.ssh_wire.specs.Wire.{IsBytes}
use Rattle.ssh_wire.proofs.Digits.{IsBytes-front}
use Rattle.ssh_wire.proofs.RowLaws.{table_front, table_more}
use Rattle.krl_format.specs.Front.{IsFirstKrlFault, Passes, limit, start}
use Rattle.krl_format.specs.Krl.{Certificates, Extension, IsSignature, Keys, Sha1s, Sha256s, Signature, SignaturesLast, SpelledSection, Spells, SpellsEach, SpellsSection, header_fields}
use Rattle.krl_format.specs.Place.{can_end, expected}
use Rattle.krl_format.specs.declared.header.Header.{Header}
use Rattle.krl_format.specs.declared.place.Place.{Place}
use Rattle.krl_format.proofs.Fronts.{append_same, end_size}
use Rattle.krl_format.proofs.Judgements.{same_place}
use Rattle.krl_openssh.specs.Difference.{difference_at, first_difference, or_later}
use Rattle.krl_openssh.specs.Fields.{AreWhole, HasFields}
use Rattle.krl_openssh.specs.declared.difference.Difference.{Difference}
use Rattle.krl_openssh.proofs.Rows.{first_of, has_fields}

-- ---- the next field

-- The bytes are whole fields of a list, from a place on, and none of them has a difference.
pub record IsAlike (place : Place) (left : List ℕ) : Type 0 where
  pub fields : List (List ℕ)
  pub whole : AreWhole place fields
  pub parts : left ≡ concat fields
  pub none : first_difference place fields ≡ None

pub both_none : (one later : Option Difference) → or_later one later ≡ None → (one ≡ None) × (later ≡ None)
both_none None later e = (refl, e)
both_none (Some difference) later e = absurd cc

no_later : (place next : Place) (field : List ℕ) (more : List (List ℕ)) → Passes place field next → first_difference place (field ∷ more) ≡ None
    → (difference_at place field ≡ None) × (first_difference next more ≡ None)
no_later place next field more passes none =
    both_none (difference_at place field) (first_difference next more) (sym (first_of place next field more passes.judged) ∙ none)

-- The field is the next one, and has no difference, nor has what is left.
pub record Follows (place : Place) (field rest : List ℕ) : Type 0 where
  pub next : Place
  pub passes : Passes place field next
  pub alike : IsAlike next rest
  pub fine : difference_at place field ≡ None

follow_at : (fields : List (List ℕ)) (place : Place) (field rest : List ℕ) → AreWhole place fields → first_difference place fields ≡ None → field ++ rest ≡ concat fields
    → length field ≡ (expected place).size → 0 < length field → Follows place field rest
follow_at [] place field rest whole none parts size some = absurd (omega (arith, some, ap length parts, length-append field rest))
follow_at (first ∷ more) place field rest (next, (passes, later)) none parts size some =
    let both = append_same first field (concat more) rest (passes.whole ∙ sym size) (sym parts) in
    let none' = no_later place next first more passes none in
    record {
      next = next;
      passes = subst (λ (f : List ℕ). Passes place f next) both.0 passes;
      alike = record { fields = more; whole = later; parts = sym both.1; none = none'.1 };
      fine = subst (λ (f : List ℕ). difference_at place f ≡ None) both.0 none'.0;
    }

pub follow : {place : Place} (field rest : List ℕ) → IsAlike place (field ++ rest) → length field ≡ (expected place).size → 0 < length field → Follows place field rest
follow {place} field rest is = follow_at is.fields place field rest is.whole is.none is.parts

-- ---- after a sequence of fields that is itself a list

-- The list may end at the place.
pub record IsBoundary (left : List ℕ) : Type 0 where
  pub place : Place
  pub may_end : can_end place ≡ true
  pub alike : IsAlike place left

boundary_at : (front fields : List (List ℕ)) (place : Place) (left : List ℕ) → AreWhole place front → AreWhole place fields → concat front ++ left ≡ concat fields → first_difference place fields ≡ None → IsBoundary left
boundary_at [] fields place left may whole parts none =
    record { place = place; may_end = may; alike = record { fields = fields; whole = whole; parts = parts; none = none } }
boundary_at (field ∷ front) [] place left (next, (passes, later)) may parts none =
    absurd (omega (arith, end_size place may, passes.whole, ap length parts, length-append (concat (field ∷ front)) left, length-append field (concat front)))
boundary_at (field ∷ front) (field' ∷ fields) place left (next, (passes, later)) (next', (passes', later')) parts none =
    let both = append_same field field' (concat front ++ left) (concat fields) (passes.whole ∙ sym passes'.whole) (sym (append_assoc field (concat front) left) ∙ parts) in
    let same : next' ≡ next = same_place next' next (sym passes'.judged ∙ ap (expected place).judged (sym both.0) ∙ passes.judged) in
    let none' = no_later place next' field' fields passes' none in
    boundary_at front fields next left later (subst (λ (p : Place). AreWhole p fields) same later') both.1 (subst (λ (p : Place). first_difference p fields ≡ None) same none'.1)

-- ---- after the first sections

all_front : {X : Type 0} (P : X → Type 0) (xs ys : List X) → AllByRecursion P (xs ++ ys) → AllByRecursion P xs
all_front P [] ys all = tt
all_front P (x ∷ xs) ys all = (all.0, all_front P xs ys all.1)

pub last_front : (sections others : List SpelledSection) → SignaturesLast (sections ++ others) → SignaturesLast sections
last_front [] others last = tt
last_front (Signature ∷ sections) others last = all_front IsSignature sections others last
last_front (Certificates authority subsections ∷ sections) others last = last_front sections others last
last_front (Keys blobs ∷ sections) others last = last_front sections others last
last_front (Sha1s hashes ∷ sections) others last = last_front sections others last
last_front (Sha256s hashes ∷ sections) others last = last_front sections others last
last_front (Extension ∷ sections) others last = last_front sections others last

-- one section more
pub one_more : (sections : List SpelledSection) (text first : List ℕ) (section : SpelledSection) → SpellsEach SpellsSection text sections → SpellsSection first section
    → SpellsEach SpellsSection (text ++ first) (sections ++ section ∷ [])
one_more [] text first section none is = (first, ([], (ap (λ (t : List ℕ). t ++ first) none ∙ sym (append-nil first), is, refl)))
one_more (here ∷ sections) text first section (bytes, (rest, (parts, one, others))) is =
    (bytes, (rest ++ first, (ap (λ (t : List ℕ). t ++ first) parts ∙ append_assoc bytes rest first, one, one_more sections rest first section others is)))

-- The list up to a section is a list, and what is left has no difference.
pub boundary : (list : List ℕ) (header : Header) (sections : List SpelledSection) (spells : Spells list header sections) → IsBytes list → length list ≤ limit
    → ((text : List ℕ) (header : Header) (sections : List SpelledSection) → IsBytes text → Spells text header sections → length text ≤ limit → IsFirstKrlFault text None)
    → (fields : List (List ℕ)) → HasFields list fields → first_difference start.place fields ≡ None
    → (before rest : List ℕ) (earlier : List SpelledSection) → SpellsEach SpellsSection before earlier → SignaturesLast earlier → spells.body ≡ before ++ rest → IsBoundary rest
boundary list header sections spells bytes within unfaulted fields has none before rest earlier each last parts =
    let front = table_front header_fields [] list spells.values spells.body spells.fields in
    let text : List ℕ = front.0 ++ before in
    let list_is : list ≡ text ++ rest = front.1 ∙ ap (λ (b : List ℕ). front.0 ++ b) parts ∙ sym (append_assoc front.0 before rest) in
    let is : Spells text header earlier = record {
      values = spells.values;
      body = before;
      fields = table_more header_fields [] front.0 spells.values [] before front.2;
      header_is = spells.header_is;
      sections_are = each;
      signatures_last = last;
    } in
    let unfaulted = unfaulted text header earlier (IsBytes-front text rest (subst IsBytes list_is bytes)) is (omega (arith, within, ap length list_is, length-append text rest)) in
    let own = has_fields text unfaulted in
    boundary_at own.0 fields start.place rest own.1.whole has.whole (ap (λ (t : List ℕ). t ++ rest) (sym own.1.parts) ∙ sym list_is ∙ has.parts) none
