-- Additions to the findings.
use Rattle.krl_queries.proofs.Common.{[], ◌++◌, ◌+◌, ◌<◌, ◌↔◌, ◌∙◌, ◌∷◌, ◌≡◌, ◌≤◌, AllocError, ap}
use Rattle.krl_queries.proofs.Common.{append_assoc, arith, Asked, cases_lt, Entry, Err}
use Rattle.krl_queries.proofs.Common.{get_or, held, HoldsOnlyTopics, HoldsSerial, inl, inr, InScope}
use Rattle.krl_queries.proofs.Common.{IsStoredAtMost, length, List, MeansInScope, MeansMore}
use Rattle.krl_queries.proofs.Common.{MeansMoreInScope, Name, Ok, OnErr, OnOk, RangeEntry, refl}
use Rattle.krl_queries.proofs.Common.{Result, Revocations, run_entries, Scope, SerialOf, Some}
use Rattle.krl_queries.proofs.Common.{SomeNames, Span, subst, suc, sym, take, zero, ℕ}
use Rattle.krl_entries.proofs.Runs.{run_entries-append}
use Rattle.krl_types.proofs.Equivalences.{iff_or}
use Rattle.krl_entries.proofs.AddedMeaning.{means_more_within}
use Rattle.krl_types.proofs.SameNames.{some_append}
use Rattle.krl_queries.proofs.TopicAdditions.{IsAbout, within_with}
use Rattle.std.proofs.Math.Logic.Iff as Iff

-- an entry about a topic was added, or nothing was
pub within_or_same : (result : Result (Unit {0}) AllocError) (topics old new : Revocations) (entry : Entry) → OnOk result (MeansMore old new (entry ∷ [])) → OnErr result (new ≡ old)
    → IsAbout topics entry → HoldsOnlyTopics topics old → HoldsOnlyTopics topics new
within_or_same (Ok done) topics old new entry means same about within = within_with topics old new entry within means about
within_or_same (Err fault) topics old new entry means same about within = subst (HoldsOnlyTopics topics) (sym same) within

-- entries that name the same in scope were added
more_as : (scope : Scope) (old new : Revocations) (more other : List Entry) → ((name : Name) → InScope scope name → SomeNames more name ↔ SomeNames other name)
    → MeansMoreInScope scope old new more → MeansMoreInScope scope old new other
more_as scope old new more other same means entries m =
    let now = means entries m in
    record {
      orderly = now.orderly;
      names = λ name is. Iff.trans (now.names name is) (Iff.trans (some_append entries more name) (Iff.trans (iff_or Iff.rfl (same name is)) (Iff.symm (some_append entries other name))));
    }

-- a range that begins with the first topic names the same topics
same_from : (topics : Revocations) (a : List ℕ) (lo first hi : ℕ) → lo ≤ first → ((s : ℕ) → lo ≤ s → s < first → HoldsSerial topics.sections a s → ⊥)
    → (name : Name) → InScope (Some topics) name → SomeNames (RangeEntry a first hi ∷ []) name ↔ SomeNames (RangeEntry a lo hi ∷ []) name
same_from topics a lo first hi le none (SerialOf b s) is = (
  λ h. elim h [ inl n ↦ inl (n.0, (n.1.0, (omega (arith, n.1.1.0), n.1.1.1))) | inr later ↦ inr later ],
  λ h. elim h [
    | inl n ↦ elim (cases_lt s first) [
      | inl below ↦ absurd (none s n.1.1.0 below (subst (λ (c : List ℕ). HoldsSerial topics.sections c s) (sym n.0) is))
      | inr above ↦ inl (n.0, (n.1.0, (above, n.1.1.1)))
    ]
    | inr later ↦ inr later
  ],
)
same_from topics a lo first hi le none name is = Iff.rfl

pub more_from : (topics old new : Revocations) (a : List ℕ) (lo first hi : ℕ) → lo ≤ first → ((s : ℕ) → lo ≤ s → s < first → HoldsSerial topics.sections a s → ⊥)
    → MeansMore old new (RangeEntry a first hi ∷ []) → MeansMoreInScope (Some topics) old new (RangeEntry a lo hi ∷ [])
more_from topics old new a lo first hi le none means =
    more_as (Some topics) old new (RangeEntry a first hi ∷ []) (RangeEntry a lo hi ∷ []) (same_from topics a lo first hi le none)
    (means_more_within (Some topics) old new (RangeEntry a first hi ∷ []) means)

-- ---- one span after another

-- the first `count` spans were put
pub record PutsFirst (a : List ℕ) (old : Asked) (near : List Span) (count : ℕ) (new : Asked) : Type 0 where
  pub means : MeansMoreInScope (Some old.topics) old.found new.found (run_entries a (take count near))
  pub topics_is : new.topics ≡ old.topics
  pub within : HoldsOnlyTopics old.topics old.found → HoldsOnlyTopics new.topics new.found
  pub held_is : held new.found ≤ held old.found + count
  pub stored_is : (n : ℕ) → IsStoredAtMost a old.found n → IsStoredAtMost a new.found n

pub puts_more : (a : List ℕ) (old mid new : Asked) (near : List Span) (count : ℕ) (span : Span) → PutsFirst a old near count mid → take (count + 1) near ≡ take count near ++ span ∷ []
    → MeansMoreInScope (Some mid.topics) mid.found new.found (RangeEntry a span.lo span.hi ∷ []) → new.topics ≡ mid.topics → (HoldsOnlyTopics mid.topics mid.found → HoldsOnlyTopics new.topics new.found)
    → held new.found ≤ held mid.found + 1 → ((n : ℕ) → IsStoredAtMost a mid.found n → IsStoredAtMost a new.found n) → PutsFirst a old near (count + 1) new
puts_more a old mid new near count span h next means topics within more stored = record {
  means = λ entries m.
      let one = h.means entries m in
      let two = means (entries ++ run_entries a (take count near)) (subst (λ (t : Revocations). MeansInScope (Some t) mid.found (entries ++ run_entries a (take count near))) (sym h.topics_is) one) in
      let all : (entries ++ run_entries a (take count near)) ++ RangeEntry a span.lo span.hi ∷ [] ≡ entries ++ run_entries a (take (count + 1) near) =
      append_assoc entries (run_entries a (take count near)) (RangeEntry a span.lo span.hi ∷ []) ∙ ap (λ (l : List Entry). entries ++ l) (sym (ap (run_entries a) next ∙ run_entries-append a (take count near) (span ∷ []))) in
      subst (MeansInScope (Some old.topics) new.found) all (subst (λ (t : Revocations). MeansInScope (Some t) new.found ((entries ++ run_entries a (take count near)) ++ RangeEntry a span.lo span.hi ∷ [])) h.topics_is two);
  topics_is = topics ∙ h.topics_is;
  within = λ w. within (h.within w);
  held_is = omega (arith, h.held_is, more);
  stored_is = λ n s. stored n (h.stored_is n s);
}

pub next_span : (near : List Span) (count : ℕ) (d : Span) → count < length near → take (count + 1) near ≡ take count near ++ get_or near count d ∷ []
next_span [] count d h = absurd (omega arith)
next_span (x ∷ xs) zero d h = refl
next_span (x ∷ xs) (suc count) d h =
    let same : suc count + 1 ≡ suc (count + 1) = omega arith in
    ap (λ (n : ℕ). take n (x ∷ xs)) same ∙ ap (λ (l : List Span). x ∷ l) (next_span xs count d (omega arith))
