-- A walk from field to field, and the report at its end.
use Rattle.krl_format.proofs.Common.{[], ◌++◌, ◌∙◌, ◌∷◌, ◌≡◌, ap, append-nil, append_assoc, authority_after}
use Rattle.krl_format.proofs.Common.{Bool, concat, Entry, header_after, KrlFault, LeadsTo, List, names}
use Rattle.krl_format.proofs.Common.{Option, Passes, Place, refl, Reported, State, state_after, subst}
use Rattle.krl_format.proofs.Common.{sym, ℕ}

-- a sequence of whole fields leads from one state to another, and leaves the rest of the bytes
pub record Walks (state : State) (bytes : List ℕ) (last : State) (rest : List ℕ) : Type 0 where
  pub fields : List (List ℕ)
  pub leads : LeadsTo state fields last
  pub parts : bytes ≡ concat fields ++ rest

-- the fields lead to a place where this is reported
pub record EndsReported (state : State) (bytes : List ℕ) (goes_on : Bool) (fault : Option KrlFault) : Type 0 where
  pub last : State
  pub rest : List ℕ
  pub walks : Walks state bytes last rest
  pub reported : Reported last.place rest goes_on fault

pub LeadsTo-append : (p q r : State) (fields more : List (List ℕ)) → LeadsTo p fields q → LeadsTo q more r → LeadsTo p (fields ++ more) r
LeadsTo-append p q r [] more h k = subst (λ (x : State). LeadsTo x more r) (sym h) k
LeadsTo-append p q r (field ∷ fields) more h k = (h.0, (h.1.0, LeadsTo-append (state_after p field h.0) q r fields more h.1.1 k))

-- one more field
pub LeadsTo-push : (p q : State) (fields : List (List ℕ)) (field : List ℕ) (next : Place) → LeadsTo p fields q
    → Passes q.place field next → LeadsTo p (fields ++ field ∷ []) (state_after q field next)
LeadsTo-push p q fields field next h k =
    LeadsTo-append p q (state_after q field next) fields (field ∷ []) h (next, (k, refl))

-- ---- fields that change only the entries

-- the fields lead to a place, and have these entries
pub record LeadsToPlace (state : State) (fields : List (List ℕ)) (place : Place) (more : List Entry) : Type 0 where
  pub last : State
  pub leads : LeadsTo state fields last
  pub place_is : last.place ≡ place
  pub header_is : last.header ≡ state.header
  pub authority_is : last.authority ≡ state.authority
  pub entries_are : last.entries ≡ state.entries ++ more

pub leads_none : (state : State) (place : Place) → state.place ≡ place → LeadsToPlace state [] place []
leads_none state place at = record { last = state; leads = refl; place_is = at; header_is = refl; authority_is = refl; entries_are = sym (append-nil state.entries) }

-- a field in front of the others
pub leads_after : (state : State) (here next : Place) (field : List ℕ) (entry : Entry) {fields : List (List ℕ)} {place : Place} {more : List Entry} → state.place ≡ here → Passes here field next
    → header_after here state.header field ≡ state.header → authority_after here state.authority field ≡ state.authority → names here state.authority field ≡ entry ∷ []
    → LeadsToPlace (state_after state field next) fields place more → LeadsToPlace state (field ∷ fields) place (entry ∷ more)
leads_after state here next field entry {more = more} at passes header authority named k = record {
  last = k.last;
  leads = (next, (subst (λ (p : Place). Passes p field next) (sym at) passes, k.leads));
  place_is = k.place_is;
  header_is = k.header_is ∙ ap (λ (p : Place). header_after p state.header field) at ∙ header;
  authority_is = k.authority_is ∙ ap (λ (p : Place). authority_after p state.authority field) at ∙ authority;
  entries_are = k.entries_are ∙ ap (λ (es : List Entry). (state.entries ++ es) ++ more) (ap (λ (p : Place). names p state.authority field) at ∙ named)
      ∙ append_assoc state.entries (entry ∷ []) more;
}
