-- Sequences of fields by their places alone.
use Rattle.krl_format.proofs.Common.{[], ◌++◌, ◌∙◌, ◌∷◌, ◌≡◌, ap, append-nil, append_assoc, Bool, concat}
use Rattle.krl_format.proofs.Common.{concat-append, expected, HasRoom, KrlFault, LeadsTo, length, List}
use Rattle.krl_format.proofs.Common.{Ok, Option, Passes, Place, refl, Reported, State, state_after}
use Rattle.krl_format.proofs.Common.{subst, sym, ℕ}
use Rattle.krl_format.proofs.Walks.{EndsReported}

-- some fields lead from a place to the last one, and leave the rest of the bytes
abbrev pub Along : Place → List (List ℕ) → Place → Type 0
Along place [] last = place ≡ last
Along place (field ∷ fields) last = (next : Place) × (Passes place field next × Along next fields last)

pub record Goes (place : Place) (bytes : List ℕ) (last : Place) (rest : List ℕ) : Type 0 where
  pub fields : List (List ℕ)
  pub along : Along place fields last
  pub parts : bytes ≡ concat fields ++ rest

pub goes_none : {p : Place} {bytes : List ℕ} → Goes p bytes p bytes
goes_none = record { fields = []; along = refl; parts = refl }

pub goes_one : {p q : Place} {rest : List ℕ} (field : List ℕ) → HasRoom (expected p) → length field ≡ (expected p).size → (expected p).judged field ≡ Ok q → Goes p (field ++ rest) q rest
goes_one {q = q} {rest = rest} field room size judged = record {
  fields = field ∷ [];
  along = (q, (record { room = room; whole = size; judged = judged }, refl));
  parts = ap (λ (x : List ℕ). x ++ rest) (sym (append-nil field));
}

along_append : (p q r : Place) (fields more : List (List ℕ)) → Along p fields q → Along q more r → Along p (fields ++ more) r
along_append p q r [] more h k = subst (λ (x : Place). Along x more r) (sym h) k
along_append p q r (field ∷ fields) more h k = (h.0, (h.1.0, along_append h.0 q r fields more h.1.1 k))

pub goes_then : {p q r : Place} {a b c : List ℕ} → Goes p a q b → Goes q b r c → Goes p a r c
goes_then {p} {q} {r} {c = c} h k = record {
  fields = h.fields ++ k.fields;
  along = along_append p q r h.fields k.fields h.along k.along;
  parts = h.parts ∙ ap (λ (x : List ℕ). concat h.fields ++ x) k.parts ∙ sym (append_assoc (concat h.fields) (concat k.fields) c)
      ∙ ap (λ (x : List ℕ). x ++ c) (sym (concat-append h.fields k.fields));
}

pub goes_from : {p q : Place} {a b rest : List ℕ} → a ≡ b → Goes p b q rest → Goes p a q rest
goes_from {p} {q} {rest = rest} e w = subst (λ (x : List ℕ). Goes p x q rest) (sym e) w

-- ---- the same from a state

leads_along : (s : State) (p : Place) (fields : List (List ℕ)) (q : Place) → s.place ≡ p → Along p fields q → (last : State) × (last.place ≡ q) × LeadsTo s fields last
leads_along s p [] q e h = (s, e ∙ h, refl)
leads_along s p (field ∷ fields) q e (next, (pass, h)) =
    let w = leads_along (state_after s field next) next fields q refl h in
    (w.0, w.1, (next, (subst (λ (x : Place). Passes x field next) (sym e) pass, w.2)))

-- the report after some fields
pub reported_at : (s : State) {p q : Place} {bytes rest : List ℕ} {goes_on : Bool} {fault : Option KrlFault} → s.place ≡ p → Goes p bytes q rest → Reported q rest goes_on fault
    → EndsReported s bytes goes_on fault
reported_at s {p} {q} {rest = rest} {goes_on} {fault} e h reported =
    let w = leads_along s p h.fields q e h.along in
    record {
      last = w.0;
      rest = rest;
      walks = record { fields = h.fields; leads = w.2; parts = h.parts };
      reported = subst (λ (x : Place). Reported x rest goes_on fault) (sym w.1) reported;
    }
