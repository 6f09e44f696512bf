-- The fronts of one text: one begins the other, only one is the longest, and its report is unique.
use Rattle.krl_format.proofs.Common.{[], ◌++◌, ◌<◌, ◌∙◌, ◌∷◌, ◌≡◌, ◌⊎◌, ap, append-nil, append_assoc}
use Rattle.krl_format.proofs.Common.{arith, Bool, can_end, concat, concat-append, drop, ended}
use Rattle.krl_format.proofs.Common.{ends_early, Err, expected, false, HasRoom, inl, inr, IsEnd}
use Rattle.krl_format.proofs.Common.{IsFirstKrlFault, IsFront, IsLongestFront, KrlFault, LeadsTo, length}
use Rattle.krl_format.proofs.Common.{length-append, limit, List, ltb, never_err, no_room, None, Ok}
use Rattle.krl_format.proofs.Common.{Option, Place, refl, refused, Reported, Some, start, State}
use Rattle.krl_format.proofs.Common.{state_after, subst, sym, take, too_long, true, ℕ}
use Rattle.std.proofs.Math.Seq.{take-append_seam, drop-append_seam}
use Rattle.krl_format.specs.declared.place.Place.TheVariants.{SectionType}
use Rattle.krl_format.proofs.Walks.{EndsReported}
use Rattle.krl_format.proofs.Judgements.{same_place}
use Rattle.krl_types.specs.declared.krl_fault.KrlFault.TheVariants as faults

-- prefixes of one list that have the same length are the same
pub append_same : (a b x y : List ℕ) → length a ≡ length b → a ++ x ≡ b ++ y → (a ≡ b) × (x ≡ y)
append_same a b x y len e =
    let n : take (length b) (a ++ x) ≡ a = ap (λ (k : ℕ). take k (a ++ x)) (sym len) ∙ take-append_seam a x in
    let m : drop (length b) (a ++ x) ≡ x = ap (λ (k : ℕ). drop k (a ++ x)) (sym len) ∙ drop-append_seam a x in
    (sym n ∙ ap (take (length b)) e ∙ take-append_seam b y, sym m ∙ ap (drop (length b)) e ∙ drop-append_seam b y)

-- the place after a field is unique
next_is : (p m n : Place) (x y : List ℕ) → x ≡ y → (expected p).judged x ≡ Ok m → (expected p).judged y ≡ Ok n → m ≡ n
next_is p m n x y e h k = same_place m n (sym h ∙ ap (expected p).judged e ∙ k)

same_after : (state : State) (x y : List ℕ) (m n : Place) → x ≡ y → m ≡ n → state_after state y n ≡ state_after state x m
same_after state x y m n e e' =
    ap (λ (z : List ℕ). state_after state z n) (sym e) ∙ ap (λ (z : Place). state_after state x z) (sym e')

pub fronts_compare : (p q q' : State) (one other : List (List ℕ)) (r s : List ℕ) → LeadsTo p one q → LeadsTo p other q'
    → concat one ++ r ≡ concat other ++ s
    → ((more : List (List ℕ)) × (other ≡ one ++ more)) ⊎ ((more : List (List ℕ)) × (one ≡ other ++ more))
fronts_compare p q q' [] other r s h k e = inl (other, refl)
fronts_compare p q q' (x ∷ one) [] r s h k e = inr (x ∷ one, refl)
fronts_compare p q q' (x ∷ one) (y ∷ other) r s h k e =
    let both = append_same x y (concat one ++ r) (concat other ++ s) (h.1.0.whole ∙ sym k.1.0.whole)
    (sym (append_assoc x (concat one) r) ∙ e ∙ append_assoc y (concat other) s) in
    let next = next_is p.place h.0 k.0 x y both.0 h.1.0.judged k.1.0.judged in
    let same = same_after p x y h.0 k.0 both.0 next in
    elim (fronts_compare (state_after p x h.0) q q' one other r s h.1.1
    (subst (λ (n : State). LeadsTo n other q') same k.1.1) both.1) [
      | inl w ↦ inl (w.0, cc (w.1, both.0))
      | inr w ↦ inr (w.0, cc (w.1, both.0))
    ]

pub leads_to_one : (p q q' : State) (fields : List (List ℕ)) → LeadsTo p fields q → LeadsTo p fields q' → q ≡ q'
leads_to_one p q q' [] h k = sym h ∙ k
leads_to_one p q q' (x ∷ fields) h k =
    let next = next_is p.place h.0 k.0 x x refl h.1.0.judged k.1.0.judged in
    let same = same_after p x x h.0 k.0 refl next in
    leads_to_one (state_after p x h.0) q q' fields h.1.1 (subst (λ (n : State). LeadsTo n fields q') same k.1.1)

pub LeadsTo-split : (p r : State) (fields more : List (List ℕ)) → LeadsTo p (fields ++ more) r
    → (q : State) × LeadsTo p fields q × LeadsTo q more r
LeadsTo-split p r [] more h = (p, refl, h)
LeadsTo-split p r (x ∷ fields) more h =
    let w = LeadsTo-split (state_after p x h.0) r fields more h.1.1 in
    (w.0, (h.0, (h.1.0, w.1)), w.2)

-- if the list may end, the expected field is one byte that is inside no other part
pub end_size : (p : Place) → can_end p ≡ true → (expected p).size ≡ 1
end_size (SectionType signed) e = refl
end_size _ e = absurd (cc)

pub end_room : (p : Place) → can_end p ≡ true → HasRoom (expected p)
end_room (SectionType signed) e = tt
end_room _ e = absurd (cc)

-- an end has fewer bytes left than the expected field
pub end_short : (p : Place) (rest : List ℕ) → IsEnd p rest → length rest < (expected p).size
end_short p rest at = omega (arith, end_size p at.0, ap length at.1)

-- a list that begins with a whole field is at least as long as the field
whole_rest : (p : Place) (rest field after : List ℕ) → length field ≡ (expected p).size → rest ≡ field ++ after → length rest < (expected p).size → ⊥
whole_rest p rest field after size e short = omega (arith, short, size, ap length e, length-append field after)

-- if something is reported, no next field passes
pub blocked : (p next : Place) (rest field after : List ℕ) (goes_on : Bool) (fault : Option KrlFault) → Reported p rest goes_on fault
    → HasRoom (expected p) → length field ≡ (expected p).size → (expected p).judged field ≡ Ok next → rest ≡ field ++ after → ⊥
blocked p next rest field after goes_on fault (ended at off is) room size judged e = whole_rest p rest field after size e (end_short p rest at)
blocked p next rest field after goes_on fault (no_room none is) room size judged e = none room
blocked p next rest field after goes_on fault (refused field' after' why room' e' size' judged' is) room size judged e =
    let same = append_same field field' after after' (size ∙ sym size') (sym e ∙ e') in
    never_err next why (sym judged ∙ ap (expected p).judged same.0 ∙ judged')
blocked p next rest field after goes_on fault (too_long room' short on is) room size judged e = whole_rest p rest field after size e short
blocked p next rest field after goes_on fault (ends_early room' short not_end off is) room size judged e = whole_rest p rest field after size e short

pub is_longest : (text : List ℕ) (fields : List (List ℕ)) (p : State) (rest : List ℕ) (goes_on : Bool) (fault : Option KrlFault)
    → IsFront text fields p rest → Reported p.place rest goes_on fault → IsLongestFront text fields p rest
is_longest text fields p rest goes_on fault front reported = record {
  front = front;
  longest = λ field next after longer.
      let w = LeadsTo-split start next fields (field ∷ []) longer.leads in
      let place : w.0 ≡ p = leads_to_one start w.0 p fields w.1 front.leads in
      let step : LeadsTo p (field ∷ []) next = subst (λ (x : State). LeadsTo x (field ∷ []) next) place w.2 in
      let whole : concat fields ++ rest ≡ concat fields ++ (field ++ after) =
      sym front.parts ∙ longer.parts
      ∙ ap (λ (x : List ℕ). x ++ after) (concat-append fields (field ∷ []) ∙ ap (λ (x : List ℕ). concat fields ++ x) (append-nil field))
      ∙ append_assoc (concat fields) field after in
      let e = (append_same (concat fields) (concat fields) rest (field ++ after) refl whole).1 in
      blocked p.place step.0 rest field after goes_on fault reported step.1.0.room step.1.0.whole step.1.0.judged e;
}

-- what stops a walk from the first byte is the first fault
pub first_fault_is : (text : List ℕ) (fault : Option KrlFault) → EndsReported start (take limit text) (ltb limit (length text)) fault → IsFirstKrlFault text fault
first_fault_is text fault h =
    let front : IsFront text h.walks.fields h.last h.rest = record { leads = h.walks.leads; parts = h.walks.parts } in
    record { fields = h.walks.fields; state = h.last; rest = h.rest; front = is_longest text h.walks.fields h.last h.rest (ltb limit (length text)) fault front h.reported; reported = h.reported }

-- ---- the report is unique

ended_only : (p : Place) (rest : List ℕ) (goes_on : Bool) (fault : Option KrlFault) → IsEnd p rest → goes_on ≡ false → Reported p rest goes_on fault → None ≡ fault
ended_only p rest goes_on fault at off (ended at' off' is) = sym is
ended_only p rest goes_on fault at off (no_room full is) = absurd (full (end_room p at.0))
ended_only p rest goes_on fault at off (refused field after why room e size judged is) = absurd (whole_rest p rest field after size e (end_short p rest at))
ended_only p rest goes_on fault at off (too_long room short on is) = absurd (cc (on, off))
ended_only p rest goes_on fault at off (ends_early room short not_end off' is) = absurd (not_end at)

full_only : (p : Place) (rest : List ℕ) (goes_on : Bool) (fault : Option KrlFault) → (HasRoom (expected p) → ⊥) → Reported p rest goes_on fault → Some faults.Length ≡ fault
full_only p rest goes_on fault full (ended at off is) = absurd (full (end_room p at.0))
full_only p rest goes_on fault full (no_room full' is) = sym is
full_only p rest goes_on fault full (refused field after why room e size judged is) = absurd (full room)
full_only p rest goes_on fault full (too_long room short on is) = absurd (full room)
full_only p rest goes_on fault full (ends_early room short not_end off is) = absurd (full room)

refused_only : (p : Place) (rest : List ℕ) (goes_on : Bool) (fault : Option KrlFault) (field after : List ℕ) (why : KrlFault) → HasRoom (expected p) → rest ≡ field ++ after → length field ≡ (expected p).size
    → (expected p).judged field ≡ Err why → Reported p rest goes_on fault → Some why ≡ fault
refused_only p rest goes_on fault field after why room e size judged (ended at off is) = absurd (whole_rest p rest field after size e (end_short p rest at))
refused_only p rest goes_on fault field after why room e size judged (no_room full is) = absurd (full room)
refused_only p rest goes_on fault field after why room e size judged (refused field' after' why' room' e' size' judged' is) =
    let same = append_same field field' after after' (size ∙ sym size') (sym e ∙ e') in
    let one : Err why ≡ Err why' = sym judged ∙ ap (expected p).judged same.0 ∙ judged' in
    (let e'' : Some why ≡ Some why' = cc in e'') ∙ sym is
refused_only p rest goes_on fault field after why room e size judged (too_long room' short on is) = absurd (whole_rest p rest field after size e short)
refused_only p rest goes_on fault field after why room e size judged (ends_early room' short not_end off is) = absurd (whole_rest p rest field after size e short)

too_long_only : (p : Place) (rest : List ℕ) (goes_on : Bool) (fault : Option KrlFault) → HasRoom (expected p) → length rest < (expected p).size → goes_on ≡ true → Reported p rest goes_on fault → Some faults.TooLong ≡ fault
too_long_only p rest goes_on fault room short on (ended at off is) = absurd (cc (on, off))
too_long_only p rest goes_on fault room short on (no_room full is) = absurd (full room)
too_long_only p rest goes_on fault room short on (refused field after why room' e size judged is) = absurd (whole_rest p rest field after size e short)
too_long_only p rest goes_on fault room short on (too_long room' short' on' is) = sym is
too_long_only p rest goes_on fault room short on (ends_early room' short' not_end off is) = absurd (cc (on, off))

early_only : (p : Place) (rest : List ℕ) (goes_on : Bool) (fault : Option KrlFault) → HasRoom (expected p) → length rest < (expected p).size → (IsEnd p rest → ⊥) → goes_on ≡ false → Reported p rest goes_on fault → Some faults.EndsEarly ≡ fault
early_only p rest goes_on fault room short not_end off (ended at off' is) = absurd (not_end at)
early_only p rest goes_on fault room short not_end off (no_room full is) = absurd (full room)
early_only p rest goes_on fault room short not_end off (refused field after why room' e size judged is) = absurd (whole_rest p rest field after size e short)
early_only p rest goes_on fault room short not_end off (too_long room' short' on is) = absurd (cc (on, off))
early_only p rest goes_on fault room short not_end off (ends_early room' short' not_end' off' is) = sym is

pub reported_same : (p : Place) (rest : List ℕ) (goes_on : Bool) (fault fault' : Option KrlFault) → Reported p rest goes_on fault → Reported p rest goes_on fault' → fault ≡ fault'
reported_same p rest goes_on fault fault' (ended at off is) t = is ∙ ended_only p rest goes_on fault' at off t
reported_same p rest goes_on fault fault' (no_room full is) t = is ∙ full_only p rest goes_on fault' full t
reported_same p rest goes_on fault fault' (refused field after why room e size judged is) t = is ∙ refused_only p rest goes_on fault' field after why room e size judged t
reported_same p rest goes_on fault fault' (too_long room short on is) t = is ∙ too_long_only p rest goes_on fault' room short on t
reported_same p rest goes_on fault fault' (ends_early room short not_end off is) t = is ∙ early_only p rest goes_on fault' room short not_end off t

-- two ends of one text, the second maybe after more fields
ends_same : (p q : State) (more : List (List ℕ)) (r s : List ℕ) (goes_on : Bool) (a b : Option KrlFault) → LeadsTo p more q
    → r ≡ concat more ++ s → Reported p.place r goes_on a → Reported q.place s goes_on b → a ≡ b
ends_same p q [] r s goes_on a b h e ta tb =
    reported_same p.place r goes_on a b ta (subst (λ (x : List ℕ). Reported p.place x goes_on b) (sym e)
    (subst (λ (x : State). Reported x.place s goes_on b) (sym h) tb))
ends_same p q (x ∷ more) r s goes_on a b h e ta tb =
    absurd (blocked p.place h.0 r x (concat more ++ s) goes_on a ta h.1.0.room h.1.0.whole h.1.0.judged
    (e ∙ append_assoc x (concat more) s))

-- the report after a sequence of fields, if a longer one is known
following : (p q q' : State) (one other more : List (List ℕ)) (r s : List ℕ) (goes_on : Bool) (a b : Option KrlFault)
    → LeadsTo p one q → LeadsTo p other q' → concat one ++ r ≡ concat other ++ s
    → other ≡ one ++ more → Reported q.place r goes_on a → Reported q'.place s goes_on b → a ≡ b
following p q q' one other more r s goes_on a b h k e longer ta tb =
    let w = LeadsTo-split p q' one more (subst (λ (x : List (List ℕ)). LeadsTo p x q') longer k) in
    let step : LeadsTo q more q' = subst (λ (x : State). LeadsTo x more q') (leads_to_one p w.0 q one w.1 h) w.2 in
    let whole : concat one ++ r ≡ concat one ++ (concat more ++ s) =
    e ∙ ap (λ (x : List (List ℕ)). concat x ++ s) longer ∙ ap (λ (x : List ℕ). x ++ s) (concat-append one more)
    ∙ append_assoc (concat one) (concat more) s in
    ends_same q q' more r s goes_on a b step (append_same (concat one) (concat one) r (concat more ++ s) refl whole).1 ta tb

pub one_reported : (text : List ℕ) (a b : Option KrlFault) → IsFirstKrlFault text a → IsFirstKrlFault text b → a ≡ b
one_reported text a b h k =
    let e : concat h.fields ++ h.rest ≡ concat k.fields ++ k.rest = sym h.front.front.parts ∙ k.front.front.parts in
    let goes_on : Bool = ltb limit (length text) in
    elim (fronts_compare start h.state k.state h.fields k.fields h.rest k.rest h.front.front.leads k.front.front.leads e) [
      | inl w ↦ following start h.state k.state h.fields k.fields w.0 h.rest k.rest goes_on a b
          h.front.front.leads k.front.front.leads e w.1 h.reported k.reported
      | inr w ↦ sym (following start k.state h.state k.fields h.fields w.0 k.rest h.rest goes_on b a
          k.front.front.leads h.front.front.leads (sym e) w.1 k.reported h.reported)
    ]
