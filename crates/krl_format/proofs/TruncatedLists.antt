-- A list that is truncated.
use Rattle.krl_format.proofs.Common.{[], ◌++◌, ◌∙◌, ◌∷◌, ◌≡◌, ◌≤◌, ◌⊎◌, ap, append-nil, append_assoc}
use Rattle.krl_format.proofs.Common.{arith, Bool, can_end, concat, concat-append, ended, ends_early}
use Rattle.krl_format.proofs.Common.{expected, false, Header, inl, inr, IsBytes, IsFirstKrlFault}
use Rattle.krl_format.proofs.Common.{KrlFault, le-ltb, LeadsTo, length, length-append, limit, List, ltb}
use Rattle.krl_format.proofs.Common.{never_err, no_room, None, Option, Passes, Place, refl, refused}
use Rattle.krl_format.proofs.Common.{Reported, Some, SpelledSection, Spells, start, State, subst, sym}
use Rattle.krl_format.proofs.Common.{take_all, too_long, true, ℕ}
use Rattle.krl_format.proofs.LongestFronts.{each_is_judged}
use Rattle.krl_format.proofs.Fronts.{append_same, end_room, end_short, end_size, fronts_compare}
use Rattle.krl_format.proofs.Fronts.{leads_to_one, LeadsTo-split}
use Rattle.krl_format.proofs.Lists.{unfaulted_row}
use Rattle.krl_format.proofs.SpelledLists.{spelled_unfaulted}
use Rattle.krl_types.specs.declared.krl_fault.KrlFault.TheVariants as faults

-- the faults that may be reported for a truncated list
abbrev IsCutFault : Option KrlFault → Type 0
IsCutFault fault = (fault ≡ None) ⊎ (fault ≡ Some faults.EndsEarly)

-- if a field that passes is truncated, nothing else is reported
cut_field : (p next : Place) (rest more field after : List ℕ) (fault : Option KrlFault) → Passes p field next → rest ++ more ≡ field ++ after → Reported p rest false fault → IsCutFault fault
cut_field p next rest more field after fault pass e (ended at_end off is) = inl is
cut_field p next rest more field after fault pass e (no_room full is) = absurd (full pass.room)
cut_field p next rest more field after fault pass e (refused field' after' why room parts size judged is) =
    let same = append_same field' field (after' ++ more) after (size ∙ sym pass.whole) (sym (append_assoc field' after' more) ∙ ap (λ (l : List ℕ). l ++ more) (sym parts) ∙ e) in
    let other = sym pass.judged ∙ ap (expected p).judged (sym same.0) ∙ judged in
    absurd (never_err next why other)
cut_field p next rest more field after fault pass e (too_long room short on is) = absurd (cc (on))
cut_field p next rest more field after fault pass e (ends_early room short not_end off is) = inr is

-- at the end of the list, only its end is reported
cut_end : (p : Place) (rest : List ℕ) (fault : Option KrlFault) → can_end p ≡ true → rest ≡ [] → Reported p rest false fault → IsCutFault fault
cut_end p rest fault may none (ended at_end off is) = inl is
cut_end p rest fault may none (no_room full is) = absurd (full (end_room p may))
cut_end p rest fault may none (refused field after why room parts size judged is) =
    absurd (omega (arith, end_short p rest (may, none), size, ap length parts, length-append field after))
cut_end p rest fault may none (too_long room short on is) = absurd (cc (on))
cut_end p rest fault may none (ends_early room short not_end off is) = absurd (not_end (may, none))

none_left : (a b : List ℕ) → a ++ b ≡ [] → a ≡ []
none_left [] b e = refl
none_left (x ∷ a) b e = absurd (cc)

cut_row : (p q last : State) (fields : List (List ℕ)) (rest more : List ℕ) (fault : Option KrlFault) → LeadsTo q fields last → can_end last.place ≡ true → rest ++ more ≡ concat fields
    → Reported q.place rest false fault → IsCutFault fault
cut_row p q last [] rest more fault leads may e reported = cut_end q.place rest fault (subst (λ (s : State). can_end s.place ≡ true) (sym leads) may) (none_left rest more e) reported
cut_row p q last (field ∷ fields) rest more fault (next, (pass, leads)) may e reported = cut_field q.place next rest more field (concat fields) fault pass e reported

-- if a row is longer than the whole list, its fields after the end would be empty
cut_longer : (q : State) (fields : List (List ℕ)) (last : State) (rest more : List ℕ) (fault : Option KrlFault) → LeadsTo q fields last → can_end q.place ≡ true → concat fields ++ (rest ++ more) ≡ []
    → Reported last.place rest false fault → IsCutFault fault
cut_longer q [] last rest more fault leads may e reported =
    cut_end last.place rest fault (subst (λ (s : State). can_end s.place ≡ true) leads may) (none_left rest more e) reported
cut_longer q (field ∷ fields) last rest more fault (next, (pass, leads)) may e reported =
    absurd (omega (arith, end_size q.place may, pass.whole, ap length e, length-append (field ++ concat fields) (rest ++ more), length-append field (concat fields)))

cut_reported : (text prefix more : List ℕ) (fields : List (List ℕ)) (last : State) (fault : Option KrlFault) → text ≡ prefix ++ more → length text ≤ limit → LeadsTo start fields last
    → can_end last.place ≡ true → text ≡ concat fields → IsFirstKrlFault prefix fault → IsCutFault fault
cut_reported text prefix more fields last fault parts le leads may all h =
    let len = ap length parts ∙ length-append prefix more in
    let short : length prefix ≤ limit = omega (arith, len, le) in
    let off : ltb limit (length prefix) ≡ false = le-ltb limit (length prefix) short in
    let reported : Reported h.state.place h.rest false fault = subst (λ (b : Bool). Reported h.state.place h.rest b fault) off h.reported in
    let front : prefix ≡ concat h.fields ++ h.rest = sym (take_all limit prefix short) ∙ h.front.front.parts in
    let whole : concat h.fields ++ (h.rest ++ more) ≡ concat fields ++ [] =
    sym (append_assoc (concat h.fields) h.rest more) ∙ ap (λ (l : List ℕ). l ++ more) (sym front) ∙ sym parts ∙ all ∙ sym (append-nil (concat fields)) in
    elim (fronts_compare start h.state last h.fields fields (h.rest ++ more) [] h.front.front.leads leads whole) [
      | inl w ↦
          let split = LeadsTo-split start last h.fields w.0 (subst (λ (l : List (List ℕ)). LeadsTo start l last) w.1 leads) in
          let same : split.0 ≡ h.state = leads_to_one start split.0 h.state h.fields split.1 h.front.front.leads in
          let rest_leads : LeadsTo h.state w.0 last = subst (λ (s : State). LeadsTo s w.0 last) same split.2 in
          let e : concat h.fields ++ (h.rest ++ more) ≡ concat h.fields ++ concat w.0 = whole ∙ append-nil (concat fields) ∙ ap concat w.1 ∙ concat-append h.fields w.0 in
          cut_row start h.state last w.0 h.rest more fault rest_leads may (append_same (concat h.fields) (concat h.fields) (h.rest ++ more) (concat w.0) refl e).1 reported
      | inr w ↦
          let split = LeadsTo-split start h.state fields w.0 (subst (λ (l : List (List ℕ)). LeadsTo start l h.state) w.1 h.front.front.leads) in
          let same : split.0 ≡ last = leads_to_one start split.0 last fields split.1 leads in
          let rest_leads : LeadsTo last w.0 h.state = subst (λ (s : State). LeadsTo s w.0 h.state) same split.2 in
          let e : concat fields ++ (concat w.0 ++ (h.rest ++ more)) ≡ concat fields ++ [] =
          sym (append_assoc (concat fields) (concat w.0) (h.rest ++ more)) ∙ ap (λ (l : List ℕ). l ++ (h.rest ++ more)) (sym (concat-append fields w.0)) ∙ ap (λ (l : List (List ℕ)). concat l ++ (h.rest ++ more)) (sym w.1) ∙ whole in
          cut_longer last w.0 h.state h.rest more fault rest_leads may (append_same (concat fields) (concat fields) (concat w.0 ++ (h.rest ++ more)) [] refl e).1 reported
    ]

-- A prefix of a spelled list within the limit is spelled too, or ends early.
pub cut_short : (text prefix more : List ℕ) (header : Header) (sections : List SpelledSection) → IsBytes text → Spells text header sections → length text ≤ limit → text ≡ prefix ++ more
    → IsFirstKrlFault prefix None ⊎ IsFirstKrlFault prefix (Some faults.EndsEarly)
cut_short text prefix more header sections fits h le parts =
    let row = unfaulted_row text (spelled_unfaulted text header sections fits h le) in
    let reported = each_is_judged prefix in
    elim (cut_reported text prefix more row.0 row.1 reported.0 parts le row.2.0 row.2.1 row.2.2 reported.1) [
      | inl none ↦ inl (subst (IsFirstKrlFault prefix) none reported.1)
      | inr early ↦ inr (subst (IsFirstKrlFault prefix) early reported.1)
    ]
