-- A field store that gains the entries of other revocations.
use Rattle.krl_core.proofs.Common.{[], ◌++◌, ◌∙◌, ◌∷◌, ◌≡◌, Adds, All, ap, append-nil, append_assoc}
use Rattle.krl_core.proofs.Common.{Entry, Err, FieldStore, Gains, IsInScope, List, NamesSame, None, Ok}
use Rattle.krl_core.proofs.Common.{Option, option_to_list, refl, Result, run_entries, Span}
use Rattle.krl_core.proofs.Common.{StoresEntries, subst, sym, ℕ}
use Rattle.std.proofs.Common.{OnErr}
use Rattle.std.proofs.lemmas.List.Elements.{All-head, All-tail}
use Rattle.std.specs.Prelude.{◌≢◌}

gains_none : (k : FieldStore) → Gains k [] k
gains_none k = record {
  stores = λ entries h. subst (StoresEntries k) (sym (append-nil entries)) h;
  header_is = refl;
  bitmap_is = refl;
  scope_is = refl;
  within = λ w. w;
}

pub gains_then : (a b c : FieldStore) (xs ys : List Entry) → Gains a xs b → Gains b ys c → Gains a (xs ++ ys) c
gains_then a b c xs ys h k = record {
  stores = λ entries stores. subst (StoresEntries c) (append_assoc entries xs ys) (k.stores (entries ++ xs) (h.stores entries stores));
  header_is = k.header_is ∙ h.header_is;
  bitmap_is = k.bitmap_is ∙ h.bitmap_is;
  scope_is = k.scope_is ∙ h.scope_is;
  within = λ w. k.within (h.within w);
}

pub gains_added : (old new : FieldStore) (named : List Entry) → Adds old named new → (IsInScope old.scope old.contents → IsInScope new.scope new.contents) → Gains old named new
gains_added old new named h within =
    record { stores = h.stores; header_is = h.rest.header_is; bitmap_is = h.rest.bitmap_is; scope_is = h.rest.scope_is; within = within }

-- if no run is open, another authority may be in force
pub gains_authority : (old new : FieldStore) (a : List ℕ) → old.bitmap.pending ≡ None → new ≡ record old { authority = a } → Gains old [] new
gains_authority old new a none is = subst (Gains old []) (sym is) (record {
  stores = λ entries h. subst (StoresEntries (record old { authority = a })) (sym (append-nil entries)) (record {
    closed = h.closed;
    means = h.means;
    same = subst (λ (xs : List Entry). NamesSame (h.closed ++ xs) entries) (no_run old.authority ∙ sym (no_run a)) h.same;
  });
  header_is = refl;
  bitmap_is = refl;
  scope_is = refl;
  within = λ w. w;
})
  where
    no_run : (b : List ℕ) → run_entries b (option_to_list old.bitmap.pending) ≡ []
    no_run b = ap (λ (p : Option Span). run_entries b (option_to_list p)) none

-- ---- one after another

-- Everything is what was gained so far and what is left.
pub record IsGained {X : Type 0} (entries : List X → List Entry) (all left : List X) (old now : FieldStore) : Type 0 where
  pub done : List X
  pub parts : all ≡ done ++ left
  pub gains : Gains old (entries done) now

pub gained_none : {X : Type 0} (entries : List X → List Entry) (all : List X) (now : FieldStore) → entries [] ≡ [] → IsGained entries all all now now
gained_none entries all now none = record { done = []; parts = refl; gains = subst (λ (named : List Entry). Gains now named now) (sym none) (gains_none now) }

pub gained_more : {X : Type 0} (entries : List X → List Entry) (all part left : List X) (old mid new : FieldStore) → ((xs ys : List X) → entries (xs ++ ys) ≡ entries xs ++ entries ys)
    → IsGained entries all (part ++ left) old mid → Gains mid (entries part) new → IsGained entries all left old new
gained_more entries all part left old mid new joined h k = record {
  done = h.done ++ part;
  parts = h.parts ∙ sym (append_assoc h.done part left);
  gains = subst (λ (named : List Entry). Gains old named new) (sym (joined h.done part)) (gains_then old mid new (entries h.done) (entries part) h.gains k);
}

pub gained_all : {X : Type 0} (entries : List X → List Entry) (all : List X) (old now : FieldStore) → IsGained entries all [] old now → Gains old (entries all) now
gained_all entries all old now h = subst (λ xs. Gains old (entries xs) now) (sym (h.parts ∙ append-nil h.done)) h.gains

-- one more is left
left_of_all : {X : Type 0} (all done rest : List X) (x : X) → all ≡ done ++ x ∷ rest → all ≢ []
left_of_all all [] rest x parts none = absurd cc
left_of_all all (y ∷ done) rest x parts none = absurd cc

pub gained_some : {X : Type 0} (entries : List X → List Entry) (all rest : List X) (x : X) (old now : FieldStore) → IsGained entries all (x ∷ rest) old now → all ≢ []
gained_some entries all rest x old now h = left_of_all all h.done rest x h.parts

-- what holds of all holds of the next
next_holds : {X : Type 0} (P : X → Type 0) (done rest : List X) (x : X) → All P (done ++ x ∷ rest) → P x
next_holds P [] rest x all = All-head P x rest all
next_holds P (y ∷ done) rest x all = next_holds P done rest x (All-tail P y (done ++ x ∷ rest) all)

pub gained_next : {X : Type 0} (P : X → Type 0) (entries : List X → List Entry) (all rest : List X) (x : X) (old now : FieldStore) → All P all → IsGained entries all (x ∷ rest) old now → P x
gained_next P entries all rest x old now holds h = next_holds P h.done rest x (subst (All P) h.parts holds)

-- ---- an allocation that failed

pub err_says : {T E P : Type 0} (r : Result T E) → P → OnErr r P
err_says (Ok x) p = tt
err_says (Err e) p = p
