-- The sections of authorities, put one after another.
use Rattle.krl_writer.proofs.Common.{[], ◌++◌, ◌∙◌, ◌∷◌, ◌≡◌, ◌≤◌, AddsAuthorities, AddsAuthority}
use Rattle.krl_writer.proofs.Common.{ap, append-nil, append_assoc, arith, authorities_text}
use Rattle.krl_writer.proofs.Common.{authority_text, common_steps, EachPlan, Err, Group}
use Rattle.krl_writer.proofs.Common.{IsLeastPlan, length, limit, List, Ok, one_plan, refl, Refuses}
use Rattle.krl_writer.proofs.Common.{Result, Section, subst, sym, TextFault, ℕ}
use Rattle.krl_writer.proofs.Limits.{refuses_front}

-- The outcome of putting the sections that are left is the outcome of putting all.
pub record Listing (old out : List ℕ) (all left : List Section) : Type 0 where
  pub within : length out ≤ limit
  pub whole : (result : Result (Unit {0}) TextFault) (new : List ℕ) → AddsAuthorities result out new left → AddsAuthorities result old new all

pub Listing-start : (old : List ℕ) (all : List Section) → length old ≤ limit → Listing old old all all
Listing-start old all short = record { within = short; whole = λ result new h. h }

-- ---- one more

abbrev Added : List ℕ → List ℕ → Section → Type 0
Added out new first = AddsAuthority {A = Unit {0}} (Ok tt) out new first

refused_after : (fault : TextFault) (out new : List ℕ) (first : Section) (rest : List Section) → Added out new first → ((plans : List (List Group)) → EachPlan IsLeastPlan plans rest → Refuses fault (new ++ authorities_text plans rest))
    → (plans : List (List Group)) → EachPlan IsLeastPlan plans (first ∷ rest) → Refuses fault (out ++ authorities_text plans (first ∷ rest))
refused_after fault out new first rest one h [] each = absurd each
refused_after fault out new first rest one h (plan ∷ plans) each =
    let text : List ℕ = authorities_text plans rest in
    let made : new ++ text ≡ out ++ (authority_text one.0 first ++ text) = ap (λ (t : List ℕ). t ++ text) one.1.1.0 ∙ append_assoc out (authority_text one.0 first) text in
    subst (λ (groups : List Group). Refuses fault (out ++ (authority_text groups first ++ text))) (one_plan first.spans one.0 plan one.1.0 each.0) (subst (Refuses fault) made (h plans each.1))

one_more : (result : Result (Unit {0}) TextFault) (out mid new : List ℕ) (first : Section) (rest : List Section) → Added out mid first → AddsAuthorities result mid new rest → AddsAuthorities result out new (first ∷ rest)
one_more (Ok done) out mid new first rest one h =
    let text : List ℕ = authorities_text h.0 rest in
    (one.0 ∷ h.0, ((one.1.0, h.1.0), (h.1.1.0 ∙ ap (λ (t : List ℕ). t ++ text) one.1.1.0 ∙ append_assoc out (authority_text one.0 first) text, h.1.1.1)))
one_more (Err fault) out mid new first rest one h = refused_after fault out mid first rest one h

pub Listing-more : (old out new : List ℕ) (all left rest : List Section) (first : Section) → left ≡ first ∷ rest → Listing old out all left → Added out new first → Listing old new all rest
Listing-more old out new all left rest first is l one = grind (arith, common_steps, one_more)

-- ---- the end

refused_first : (fault : TextFault) (out : List ℕ) (first : Section) (rest : List Section) → ((plan : List Group) → IsLeastPlan first.spans plan → Refuses fault (out ++ authority_text plan first))
    → (plans : List (List Group)) → EachPlan IsLeastPlan plans (first ∷ rest) → Refuses fault (out ++ authorities_text plans (first ∷ rest))
refused_first fault out first rest h [] each = absurd each
refused_first fault out first rest h (plan ∷ plans) each = refuses_front fault _ out (authority_text plan first) (authorities_text plans rest) (h plan each.0) refl

pub Listing-refused : (fault : TextFault) (old out new : List ℕ) (all left rest : List Section) (first : Section) → left ≡ first ∷ rest → Listing old out all left
    → ((plan : List Group) → IsLeastPlan first.spans plan → Refuses fault (out ++ authority_text plan first)) → AddsAuthorities {A = Unit {0}} (Err fault) old new all
Listing-refused fault old out new all left rest first is l h =
    let here : Listing old out all (first ∷ rest) = subst (Listing old out all) is l in
    here.whole (Err fault) new (refused_first fault out first rest h)

pub Listing-end : (old out : List ℕ) (all left : List Section) → left ≡ [] → Listing old out all left → AddsAuthorities {A = Unit {0}} (Ok tt) old out all
Listing-end old out all left is l =
    let here : Listing old out all [] = subst (Listing old out all) is l in
    here.whole (Ok tt) out ([], (tt, (sym (append-nil out), here.within)))
