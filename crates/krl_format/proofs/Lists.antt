-- A sequence of fields to the end of a list spells sections, which name the same as its entries.
use Rattle.krl_format.proofs.Common.{[], ◌++◌, ◌∙◌, ◌≡◌, ◌≤◌, ap, append-nil, Bool, can_end, concat}
use Rattle.krl_format.proofs.Common.{empty_header, ended, ends_early, entries_of, Entry, false, Header}
use Rattle.krl_format.proofs.Common.{IsBytes, IsEnd, IsFirstKrlFault}
use Rattle.krl_format.proofs.Common.{KrlFault, LeadsTo, length, limit, List, ltb, ltb-false}
use Rattle.krl_format.proofs.Common.{NamesSame, no_room, None, Option, Place}
use Rattle.krl_format.proofs.Common.{refl, refused, Reported}
use Rattle.krl_format.proofs.Common.{SpelledSection, Spells, start, State, subst, sym, take_all}
use Rattle.krl_format.proofs.Common.{too_long, true, ℕ}
use Rattle.krl_format.proofs.Fields.{completes}
use Rattle.krl_format.proofs.RestSpellings.{FromField}
use Rattle.krl_format.specs.declared.place.field.Field.TheVariants as fields

-- a header and sections spell the text, and the sections name the same as the entries
pub record SpelledBy (text : List ℕ) (header : Header) (entries : List Entry) : Type 0 where
  pub sections : List SpelledSection
  pub spelled : Spells text header sections
  pub named : NamesSame entries (entries_of sections)

spelled_from : (text : List ℕ) (last : Header) (more : List Entry) → FromField last empty_header [] fields.Magic 0 0 text more → SpelledBy text last more
spelled_from text last more h =
    let k = h.then_is in
    record {
      sections = k.sections;
      spelled = record { values = h.values; body = h.rest; fields = h.leads []; header_is = sym k.known; sections_are = k.spelled; signatures_last = k.last };
      named = k.named;
    }

-- the entries of a sequence of fields that leads to the end of a list
pub row_spelled : (fields : List (List ℕ)) (last : State) → LeadsTo start fields last → can_end last.place ≡ true → IsBytes (concat fields)
    → SpelledBy (concat fields) last.header last.entries
row_spelled fields last leads may fits =
    let w = completes start fields last leads may fits in
    let k = spelled_from (concat fields) last.header w.0 w.2 in
    record {
      sections = k.sections;
      spelled = k.spelled;
      named = subst (λ (x : List Entry). NamesSame x (entries_of k.sections)) (sym w.1) k.named;
    }

is_end : (p : Place) (rest : List ℕ) (goes_on : Bool) (fault : Option KrlFault) → fault ≡ None → Reported p rest goes_on fault → IsEnd p rest × (goes_on ≡ false)
is_end p rest goes_on fault e (ended at_end off is) = (at_end, off)
is_end p rest goes_on fault e (no_room full is) = absurd (cc (e, is))
is_end p rest goes_on fault e (refused field after why room parts size judged is) = absurd (cc (e, is))
is_end p rest goes_on fault e (too_long room short on is) = absurd (cc (e, is))
is_end p rest goes_on fault e (ends_early room short not_end off is) = absurd (cc (e, is))

-- the fields of a text without a fault
pub unfaulted_row : (text : List ℕ) → IsFirstKrlFault text None
    → (fields : List (List ℕ)) × (last : State) × (LeadsTo start fields last × (can_end last.place ≡ true) × (text ≡ concat fields) × (length text ≤ limit))
unfaulted_row text h =
    let w = is_end h.state.place h.rest (ltb limit (length text)) None refl h.reported in
    let le : length text ≤ limit = ltb-false limit (length text) w.1 in
    let whole : text ≡ concat h.fields = sym (take_all limit text le) ∙ h.front.front.parts ∙ ap (λ (x : List ℕ). concat h.fields ++ x) w.0.1 ∙ append-nil (concat h.fields) in
    (h.fields, h.state, (h.front.front.leads, w.0.0, whole, le))

-- a text without a fault is spelled by a header and sections
pub unfaulted_spelled : (text : List ℕ) → IsBytes text → IsFirstKrlFault text None
    → (length text ≤ limit) × ((header : Header) × ((sections : List SpelledSection) × Spells text header sections))
unfaulted_spelled text fits h =
    let row = unfaulted_row text h in
    let k = row_spelled row.0 row.1 row.2.0 row.2.1 (subst IsBytes row.2.2 fits) in
    (row.2.3, (row.1.header, (k.sections, subst (λ (x : List ℕ). Spells x row.1.header k.sections) (sym row.2.2) k.spelled)))
