-- The field store after one more entry.
use Rattle.krl_core.proofs.Common.{[], ◌++◌, ◌+◌, ◌∙◌, ◌∷◌, ◌≡◌, ◌≤◌, Adds, ap, append-nil}
use Rattle.krl_core.proofs.Common.{append_assoc, arith, ChangesOnlyEntries, Closes, drop, Entry}
use Rattle.krl_core.proofs.Common.{FieldStore, GrowsAtMost, Header, header_after, held_with_open}
use Rattle.krl_core.proofs.Common.{inl, inr, length, length-take-le, List, MeansInScope}
use Rattle.krl_core.proofs.Common.{MeansMoreInScope, NamesSame, None, open_run, Option}
use Rattle.krl_core.proofs.Common.{option_to_list, Place, RangeEntry, refl, Revocations}
use Rattle.krl_core.proofs.Common.{run_entries, same_append, same_between, same_is, same_none}
use Rattle.krl_core.proofs.Common.{same_refl, same_then, same_zero, Scope, SerialsEntry, Some, Span}
use Rattle.krl_core.proofs.Common.{start, stored_header, stored_header_after, StoresAtMost}
use Rattle.krl_core.proofs.Common.{StoresEntries, StoresField, StoresNoMore, subst, sym, take}
use Rattle.krl_core.proofs.Common.{take-add, ℕ}
use Rattle.krl_entries.proofs.Runs.{run_entries-append}
use Rattle.krl_format.specs.declared.place.Place.TheVariants as places
use Rattle.krl_format.specs.declared.place.field.Field.TheVariants as fields

abbrev pub open_entries : FieldStore → List Entry
open_entries stored = run_entries stored.authority (open_run stored)

-- only the stored entries changed, so the open run is the same
open_same : (old new : FieldStore) → ChangesOnlyEntries old new → open_entries new ≡ open_entries old
open_same old new rest =
    ap (λ (a : List ℕ). run_entries a (open_run new)) rest.authority_is
    ∙ ap (λ (p : Option Span). run_entries old.authority (option_to_list p)) (ap (λ b. b.pending) rest.bitmap_is)

-- the stored entries mean some more entries
pub adds_all : (old new : FieldStore) (more : List Entry) → ChangesOnlyEntries old new
    → MeansMoreInScope old.scope old.contents new.contents more → Adds old more new
adds_all old new more rest means = record {
  stores = λ entries k. record {
    closed = k.closed ++ more;
    means = subst (λ (s : Scope). MeansInScope s new.contents (k.closed ++ more)) (sym rest.scope_is) (means k.closed k.means);
    same = subst (λ (xs : List Entry). NamesSame ((k.closed ++ more) ++ xs) (entries ++ more))
        (sym (open_same old new rest)) (same_between k.closed (open_entries old) more entries k.same);
  };
  rest = rest;
}

-- other entries that name the same were added
pub adds_same : (old new : FieldStore) (xs ys : List Entry) → NamesSame xs ys → Adds old xs new → Adds old ys new
adds_same old new xs ys same h = record {
  stores = λ entries k.
      let here = h.stores entries k in record {
        closed = here.closed;
        means = here.means;
        same = same_then (here.closed ++ open_entries new) (entries ++ xs) (entries ++ ys) here.same
            (same_append entries xs entries ys (same_refl entries) same);
      };
  rest = h.rest;
}

pub rest_then : (a b c : FieldStore) → ChangesOnlyEntries a b → ChangesOnlyEntries b c → ChangesOnlyEntries a c
rest_then a b c h k = record {
  authority_is = k.authority_is ∙ h.authority_is;
  header_is = k.header_is ∙ h.header_is;
  bitmap_is = k.bitmap_is ∙ h.bitmap_is;
  scope_is = k.scope_is ∙ h.scope_is;
}

pub adds_none : (k : FieldStore) → Adds k [] k
adds_none k = record {
  stores = λ entries h. subst (StoresEntries k) (sym (append-nil entries)) h;
  rest = record { authority_is = refl; header_is = refl; bitmap_is = refl; scope_is = refl };
}

pub adds_then : (a b c : FieldStore) (xs ys : List Entry) → Adds a xs b → Adds b ys c → Adds a (xs ++ ys) c
adds_then a b c xs ys h k = record {
  stores = λ entries stores. subst (StoresEntries c) (append_assoc entries xs ys) (k.stores (entries ++ xs) (h.stores entries stores));
  rest = rest_then a b c h.rest k.rest;
}

-- a serial number 0 adds nothing
pub adds_zero : (k : FieldStore) (n : ℕ) → n ≡ 0 → Adds k (SerialsEntry k.authority (n ∷ []) ∷ []) k
adds_zero k n e = subst (λ (x : ℕ). Adds k (SerialsEntry k.authority (x ∷ []) ∷ []) k) (sym e)
    (adds_same k k [] (SerialsEntry k.authority (0 ∷ []) ∷ []) (same_zero k.authority) (adds_none k))

pub adds_to_zero : (k : FieldStore) (min max : ℕ) → max ≡ 0 → Adds k (RangeEntry k.authority min max ∷ []) k
adds_to_zero k min max e = subst (λ (x : ℕ). Adds k (RangeEntry k.authority min x ∷ []) k) (sym e)
    (adds_same k k [] (RangeEntry k.authority min 0 ∷ []) (same_none k.authority min) (adds_none k))

-- stored bytes that are within a number are within each larger one
pub stored_wider : (k : FieldStore) (n m : ℕ) → n ≤ m → StoresAtMost k n → StoresAtMost k m
stored_wider k n m le h = record {
  now = omega (arith, h.now);
  next = elim h.next [ inl named ↦ inl named | inr fits ↦ inr (omega (arith, fits)) ];
}

pub grows_one : (old new : FieldStore) (n : ℕ) → held_with_open new ≤ held_with_open old + n → n ≤ 4 → StoresNoMore old new → GrowsAtMost 1 old new
grows_one old new n held le stored = record {
  held_is = omega arith;
  stored_is = λ m h. stored_wider new m (m + 1) (omega arith) (stored.stored_is m h);
  scope_is = stored.scope_is;
  same_scope = stored.same_scope;
}

pub stored_same : (old new : FieldStore) → new.contents ≡ old.contents → new.authority ≡ old.authority → new.scope ≡ old.scope → StoresNoMore old new
stored_same old new e a s = record {
  stored_is = λ m h. record { now = rw e h.now; next = rw (e, a) h.next };
  scope_is = λ h. rw (e, s) h;
  same_scope = s;
}

pub stored_then : (a b c : FieldStore) → StoresNoMore a b → StoresNoMore b c → StoresNoMore a c
stored_then a b c h k = record { stored_is = λ m s. k.stored_is m (h.stored_is m s); scope_is = λ s. k.scope_is (h.scope_is s); same_scope = k.same_scope ∙ h.same_scope }

-- ---- the stored parts of the header

pub stored_start : (scope : Scope) → start.header ≡ stored_header scope start.header
stored_start None = refl
stored_start (Some topics) = refl

stored_next : (scope : Scope) (place : Place) (header : Header) (field : List ℕ)
    → stored_header_after scope place (stored_header scope header) field
    ≡ stored_header scope (header_after place header field)
stored_next scope (places.Field fields.Version left after) header field = refl
stored_next scope (places.Field fields.Date left after) header field = refl
stored_next scope (places.Field f left after) header field = refl
stored_next scope (places.Content fields.Comment size left after) header field = refl
stored_next scope (places.Content f size left after) header field = refl
stored_next scope _ header field = refl

-- after a field
pub header_stored : (place here next : Place) (field : List ℕ) (old new : FieldStore) (header : Header)
    → StoresField place field next old new → place ≡ here → old.header ≡ stored_header old.scope header
    → new.header ≡ stored_header new.scope (header_after here header field)
header_stored place here next field old new header stores_field at was =
    stores_field.header_is ∙ ap (λ (h : Header). stored_header_after old.scope place h field) was
    ∙ stored_next old.scope place header field
    ∙ ap (λ (p : Place). stored_header old.scope (header_after p header field)) at
    ∙ ap (λ (s : Scope). stored_header s (header_after here header field)) (sym stores_field.scope_is)

-- if the header does not change
pub header_stays : (old new : FieldStore) (header last : Header) → new.header ≡ old.header → new.scope ≡ old.scope
    → last ≡ header → old.header ≡ stored_header old.scope header → new.header ≡ stored_header new.scope last
header_stays old new header last same scope is was =
    same ∙ was ∙ ap (λ (s : Scope). stored_header s header) (sym scope)
    ∙ ap (λ (h : Header). stored_header new.scope h) (sym is)

-- ---- runs

pub adds_runs : (old mid new : FieldStore) (runs more : List Span) → Adds old (run_entries old.authority runs) mid
    → Adds mid (run_entries mid.authority more) new → Adds old (run_entries old.authority (runs ++ more)) new
adds_runs old mid new runs more h k =
    let next : Adds mid (run_entries old.authority more) new = subst (λ (a : List ℕ). Adds mid (run_entries a more) new) h.rest.authority_is k in
    subst (λ (xs : List Entry). Adds old xs new) (sym (run_entries-append old.authority runs more))
    (adds_then old mid new (run_entries old.authority runs) (run_entries old.authority more) h next)

-- the open run becomes a stored run
pub closes_run : (old mid new : FieldStore) (run : Span) → old.bitmap.pending ≡ Some run → mid.contents ≡ old.contents → mid.scope ≡ old.scope → mid.authority ≡ old.authority
    → mid.header ≡ old.header → mid.bitmap.pending ≡ None → Adds mid (RangeEntry mid.authority run.lo run.hi ∷ []) new → Closes old new
closes_run old mid new run is contents scope authority header none h = record {
  stores = λ entries k.
      let before : StoresEntries mid k.closed = record {
        closed = k.closed;
        means = subst (λ (r : Revocations). MeansInScope mid.scope r k.closed) (sym contents) (subst (λ (s : Scope). MeansInScope s old.contents k.closed) (sym scope) k.means);
        same = same_is (k.closed ++ open_entries mid) k.closed
            (ap (λ (p : Option Span). k.closed ++ run_entries mid.authority (option_to_list p)) none ∙ append-nil k.closed);
      } in
      let here = h.stores k.closed before in
      let opened : open_entries old ≡ RangeEntry mid.authority run.lo run.hi ∷ [] =
      ap (λ (p : Option Span). run_entries old.authority (option_to_list p)) is ∙ ap (λ (a : List ℕ). RangeEntry a run.lo run.hi ∷ []) (sym authority) in
      let all : NamesSame (k.closed ++ RangeEntry mid.authority run.lo run.hi ∷ []) entries = subst (λ (xs : List Entry). NamesSame (k.closed ++ xs) entries) opened k.same in
      subst (StoresEntries new) (sym (append-nil entries)) (record {
        closed = here.closed;
        means = here.means;
        same = same_then (here.closed ++ open_entries new) (k.closed ++ RangeEntry mid.authority run.lo run.hi ∷ []) entries here.same all;
      });
  authority_is = h.rest.authority_is ∙ authority;
  header_is = h.rest.header_is ∙ header;
  scope_is = h.rest.scope_is ∙ scope;
  closed = ap (λ b. b.pending) h.rest.bitmap_is ∙ none;
}

-- the first spans were added
pub record AddsFirst (old : FieldStore) (spans : List Span) (count : ℕ) (new : FieldStore) : Type 0 where
  pub adds : Adds old (run_entries old.authority (take count spans)) new
  pub held_is : held_with_open new ≤ held_with_open old + count
  pub stored_is : StoresNoMore old new

pub adds_first_more : (old mid new : FieldStore) (spans : List Span) (count n : ℕ) → n ≤ length (drop count spans) → AddsFirst old spans count mid
    → Adds mid (run_entries mid.authority (take n (drop count spans))) new → held_with_open new ≤ held_with_open mid + length (take n (drop count spans)) → StoresNoMore mid new → AddsFirst old spans (count + n) new
adds_first_more old mid new spans count n within h k held stored = record {
  adds = subst (λ (xs : List Span). Adds old (run_entries old.authority xs) new) (sym (take-add count n spans))
      (adds_runs old mid new (take count spans) (take n (drop count spans)) h.adds k);
  held_is = omega (arith, h.held_is, held, length-take-le n (drop count spans) within);
  stored_is = stored_then old mid new h.stored_is stored;
}

pub grows_more : (old new : FieldStore) (n m : ℕ) → n ≤ m → GrowsAtMost n old new → GrowsAtMost m old new
grows_more old new n m le h = record {
  held_is = omega (arith, h.held_is);
  stored_is = λ k s. stored_wider new (k + n) (k + m) (omega arith) (h.stored_is k s);
  scope_is = h.scope_is;
  same_scope = h.same_scope;
}

pub grows_then : (a b c : FieldStore) (n m : ℕ) → GrowsAtMost n a b → GrowsAtMost m b c → GrowsAtMost (n + m) a c
grows_then a b c n m h k = record {
  held_is = omega (arith, h.held_is, k.held_is);
  stored_is = λ x s. subst (λ (y : ℕ). StoresAtMost c y) (omega arith) (k.stored_is (x + n) (h.stored_is x s));
  scope_is = λ s. k.scope_is (h.scope_is s);
  same_scope = k.same_scope ∙ h.same_scope;
}
