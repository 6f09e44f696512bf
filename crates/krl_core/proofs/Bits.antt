-- The entries of a byte of a bitmap.
use Rattle.krl_core.proofs.Common.{[], ◌*◌, ◌++◌, ◌+◌, ◌-◌, ◌<◌, ◌^◌, ◌↔◌, ◌∙◌, ◌∷◌, ◌≡◌, ◌≤◌, Adds}
use Rattle.krl_core.proofs.Common.{AddsEntries, all_append, ap, append-nil, append_assoc, arith}
use Rattle.krl_core.proofs.Common.{base_of, BitmapEntry, BitNames, BitRuns}
use Rattle.krl_core.proofs.Common.{bits_judged, Bool, Closes, Entry, eq-eqb, eqb, false}
use Rattle.krl_core.proofs.Common.{Feeds, FieldStore, GrowsAtMost, HasFault, held, held_with_open}
use Rattle.krl_core.proofs.Common.{iff_both, iff_none, iff_or, iff_swap, InStep}
use Rattle.krl_core.proofs.Common.{IsSerials, length}
use Rattle.krl_core.proofs.Common.{length-append, length-reverse, List, lowest, ltb, ltb-true}
use Rattle.krl_core.proofs.Common.{MeansInScope, NamesSame, ne_eqb, next_bits, next_subsection}
use Rattle.krl_core.proofs.Common.{None, number_of, Ok, one_more, open_run, Option}
use Rattle.krl_core.proofs.Common.{option_to_list, passes_end, Place, refl, reverse, reverse-append}
use Rattle.krl_core.proofs.Common.{Revocations, run_entries, same_append, same_is, same_refl}
use Rattle.krl_core.proofs.Common.{same_serials, same_swap, same_then, Scope, SerialOf, ShowsFault}
use Rattle.krl_core.proofs.Common.{some_append, Span, StoresBits, StoresEntries, StoresField}
use Rattle.krl_core.proofs.Common.{StoresNoMore, subst, suc, sym, true, zero, ℕ}
use Rattle.serial_set.specs.declared.bit_fault.BitFault.{BitFault}
use Rattle.serial_set.specs.declared.bit_fault.BitFault.TheVariants.{Negative, Wraps}
use Rattle.serial_set.specs.Span.{Covers}
use Rattle.serial_set.proofs.RisingLists.{covers_append}
use Rattle.krl_entries.proofs.Runs.{run_entries-name, run_entries-serials}
use Rattle.krl_core.proofs.StoredEntries.{grows_one, open_entries, stored_same, stored_then}
use Rattle.krl_format.specs.declared.place.Place.TheVariants as places
use Rattle.std.proofs.Math.Logic.Iff as Iff
use Rattle.krl_format.proofs.PassingBits.{judged_parts, not_past_at}

-- ---- runs by the numbers in them

names_reverse : (xs : List Span) (s : ℕ) → Covers (reverse xs) s ↔ Covers xs s
names_reverse [] s = Iff.rfl
names_reverse (x ∷ xs) s =
    subst (λ (l : List Span). Covers l s ↔ Covers (x ∷ xs) s) (sym (reverse-append (x ∷ []) xs))
    (Iff.trans (covers_append (reverse xs) (x ∷ []) s) (Iff.trans iff_swap (iff_or (Iff.symm (iff_none (λ no. no))) (names_reverse xs s))))

-- the runs that a byte finished and the open run name what was open and the bits of the byte
fed_same : (a : List ℕ) (before : BitRuns) (byte : ℕ) (after : BitRuns) (finished : List Span) → Feeds before byte after finished
    → NamesSame (run_entries a finished ++ run_entries a (option_to_list after.pending))
    (run_entries a (option_to_list before.pending) ++ BitmapEntry a (lowest after) byte ∷ [])
fed_same a before byte after finished fed =
    let F = run_entries a finished in
    let O = run_entries a (option_to_list after.pending) in
    let B = run_entries a (option_to_list before.pending) in
    let E = BitmapEntry a (lowest after) byte ∷ [] in
    same_serials (F ++ O) (B ++ E)
    (all_append IsSerials F O (run_entries-serials a finished) (run_entries-serials a (option_to_list after.pending)))
    (all_append IsSerials B E (run_entries-serials a (option_to_list before.pending)) (tt, tt))
    (λ b s.
    let left = Iff.trans (some_append F O (SerialOf b s)) (Iff.trans (iff_or (run_entries-name a finished b s) (run_entries-name a (option_to_list after.pending) b s)) iff_both) in
    let bit : ((a ≡ b) × BitNames (lowest after) byte s) ↔ (((a ≡ b) × (0 < s)) × BitNames (lowest after) byte s) = (λ h. ((h.0, h.1.0), h.1), λ h. (h.0.0, h.1)) in
    let right = Iff.trans (one_more B (BitmapEntry a (lowest after) byte) (SerialOf b s)) (Iff.trans (iff_or (run_entries-name a (option_to_list before.pending) b s) bit) iff_both) in
    let joined = Iff.trans (covers_append (option_to_list after.pending) (reverse finished) s) (iff_or Iff.rfl (names_reverse finished s)) in
    let runs = Iff.trans iff_swap (Iff.trans (Iff.symm joined) (fed.runs.1 s)) in
    Iff.trans left (Iff.trans (Iff.and Iff.rfl runs) (Iff.symm right)))

-- A byte was fed, and the runs that it finished were added.
pub bits_stored : (old mid new : FieldStore) (byte : ℕ) (finished : List Span) → Feeds old.bitmap byte mid.bitmap finished
    → mid.contents ≡ old.contents → mid.scope ≡ old.scope → mid.authority ≡ old.authority → Adds mid (run_entries mid.authority finished) new
    → AddsEntries old (BitmapEntry old.authority (lowest mid.bitmap) byte ∷ []) new
bits_stored old mid new byte finished fed contents scope authority h entries k =
    let F : List Entry = run_entries mid.authority finished in
    let O : List Entry = open_entries mid in
    let E : List Entry = BitmapEntry old.authority (lowest mid.bitmap) byte ∷ [] in
    let before : StoresEntries mid (k.closed ++ O) = record {
      closed = k.closed;
      means = subst (λ (r : Revocations). MeansInScope mid.scope r k.closed) (sym contents) (subst (λ (s : Scope). MeansInScope s old.contents k.closed) (sym scope) k.means);
      same = same_refl (k.closed ++ O);
    } in
    let here = h.stores (k.closed ++ O) before in
    let now : NamesSame (F ++ O) (open_entries old ++ E) =
    subst (λ (a : List ℕ). NamesSame (F ++ O) (run_entries a (open_run old) ++ BitmapEntry a (lowest mid.bitmap) byte ∷ [])) authority
    (fed_same mid.authority old.bitmap byte mid.bitmap finished fed) in
    let C = k.closed in
    let one = same_is ((C ++ O) ++ F) (C ++ (O ++ F)) (append_assoc C O F) in
    let two = same_append C (O ++ F) C (F ++ O) (same_refl C) (same_swap O F) in
    let three = same_append C (F ++ O) C (open_entries old ++ E) (same_refl C) now in
    let four = same_is (C ++ (open_entries old ++ E)) ((C ++ open_entries old) ++ E) (sym (append_assoc C (open_entries old) E)) in
    let five = same_append (C ++ open_entries old) E entries E k.same (same_refl E) in
    let all = same_then ((C ++ O) ++ F) (C ++ (O ++ F)) (entries ++ E) one
    (same_then (C ++ (O ++ F)) (C ++ (F ++ O)) (entries ++ E) two
    (same_then (C ++ (F ++ O)) (C ++ (open_entries old ++ E)) (entries ++ E) three
    (same_then (C ++ (open_entries old ++ E)) ((C ++ open_entries old) ++ E) (entries ++ E) four five))) in
    record {
      closed = here.closed;
      means = here.means;
      same = same_then (here.closed ++ open_entries new) ((C ++ O) ++ F) (entries ++ E) here.same all;
    }

entry_is : (old mid : FieldStore) (byte : ℕ) (finished : List Span) → Feeds old.bitmap byte mid.bitmap finished
    → BitmapEntry old.authority (lowest mid.bitmap) byte ∷ [] ≡ BitmapEntry old.authority (base_of old.bitmap.offset old.bitmap.bytes_left) byte ∷ []
entry_is old mid byte finished fed =
    let offset : mid.bitmap.offset ≡ old.bitmap.offset = ap (λ p. p.offset) fed.same_bitmap in
    let low : lowest mid.bitmap ≡ base_of old.bitmap.offset old.bitmap.bytes_left = omega (arith, offset, fed.one_less) in
    ap (λ (n : ℕ). BitmapEntry old.authority n byte ∷ []) low

pub bits_go_on : (old mid new : FieldStore) (byte : ℕ) (last : Bool) (finished : List Span) → last ≡ false → Feeds old.bitmap byte mid.bitmap finished
    → mid.contents ≡ old.contents → mid.scope ≡ old.scope → mid.authority ≡ old.authority → mid.header ≡ old.header
    → Adds mid (run_entries mid.authority finished) new → StoresBits byte last old new
bits_go_on old mid new byte last finished off fed contents scope authority header h = record {
  stores = subst (λ (e : List Entry). AddsEntries old e new) (entry_is old mid byte finished fed)
      (bits_stored old mid new byte finished fed contents scope authority h);
  authority_is = h.rest.authority_is ∙ authority;
  header_is = h.rest.header_is ∙ header;
  scope_is = h.rest.scope_is ∙ scope;
  closed = λ on. absurd (cc (on, off));
  goes_on = λ _.
      let bytes_left : mid.bitmap.bytes_left ≡ old.bitmap.bytes_left - 1 = omega (arith, fed.one_less) in
      let pending : mid.bitmap.pending ≡ new.bitmap.pending = sym (ap (λ p. p.pending) h.rest.bitmap_is) in
      h.rest.bitmap_is ∙ fed.same_bitmap
      ∙ ap (λ (n : ℕ). record old.bitmap { bytes_left = n; pending = mid.bitmap.pending }) bytes_left
      ∙ ap (λ (p : Option Span). record old.bitmap { bytes_left = old.bitmap.bytes_left - 1; pending = p }) pending;
}

pub bits_close : (old mid new last_one : FieldStore) (byte : ℕ) (last : Bool) (finished : List Span) → last ≡ true → Feeds old.bitmap byte mid.bitmap finished
    → mid.contents ≡ old.contents → mid.scope ≡ old.scope → mid.authority ≡ old.authority → mid.header ≡ old.header
    → Adds mid (run_entries mid.authority finished) new → Closes new last_one → StoresBits byte last old last_one
bits_close old mid new last_one byte last finished on fed contents scope authority header h c =
    let E : List Entry = BitmapEntry old.authority (base_of old.bitmap.offset old.bitmap.bytes_left) byte ∷ [] in
    record {
      stores = λ entries k.
          let one : StoresEntries new (entries ++ E) = subst (λ (e : List Entry). AddsEntries old e new) (entry_is old mid byte finished fed)
          (bits_stored old mid new byte finished fed contents scope authority h) entries k in
          subst (StoresEntries last_one) (append-nil (entries ++ E)) (c.stores (entries ++ E) one);
      authority_is = c.authority_is ∙ h.rest.authority_is ∙ authority;
      header_is = c.header_is ∙ h.rest.header_is ∙ header;
      scope_is = c.scope_is ∙ h.rest.scope_is ∙ scope;
      closed = λ _. c.closed;
      goes_on = λ off. absurd (cc (on, off));
    }

-- A byte was fed, which makes at most four more runs, and some of the runs that it finished were
-- added. Later changes added none.
pub fed_grows : (old mid new last : FieldStore) (byte : ℕ) (finished : List Span) → Feeds old.bitmap byte mid.bitmap finished
    → mid ≡ record old { bitmap = mid.bitmap } → held_with_open new ≤ held_with_open mid + length finished → StoresNoMore mid new
    → held_with_open last ≤ held_with_open new → StoresNoMore new last → GrowsAtMost 1 old last
fed_grows old mid new last byte finished fed rest more stored less after =
    let contents = ap (λ (k : FieldStore). k.contents) rest in
    let same : held mid.contents ≡ held old.contents = ap held contents in
    let small : held_with_open last ≤ held_with_open old + 4 =
    omega (arith, fed.four_more, more, less, same, length-append (option_to_list mid.bitmap.pending) (reverse finished), length-reverse finished) in
    let all = stored_then mid new last stored after in
    grows_one old last 4 small (omega arith) (stored_then old mid last (stored_same old mid contents (ap (λ (k : FieldStore). k.authority) rest) (ap (λ (k : FieldStore). k.scope) rest)) all)

-- ---- a byte that passes its judgement shows no fault

pub good_bits : (p : BitRuns) (offset size left after byte : ℕ) (next : Place) → byte < 256
    → p ≡ record { offset = offset; len = size; bytes_left = left; pending = p.pending; fault = None }
    → bits_judged offset size left after byte ≡ Ok next → (fault : BitFault) → HasFault p byte fault → ⊥
good_bits p offset size left after byte next h is judged fault bad =
    let parts = judged_parts (eqb left size) (ltb byte 128) (passes_end (base_of offset left) byte) next (next_bits offset size (left - 1) after) judged in
    let none : p.fault ≡ None = ap (λ x. x.fault) is in
    let bytes_left : p.bytes_left ≡ left = ap (λ x. x.bytes_left) is in
    let len : p.len ≡ size = ap (λ x. x.len) is in
    let at : p.offset ≡ offset = ap (λ x. x.offset) is in
    shown fault (rw none at bad) (λ n. ltb-true byte 128 (parts.0 (eq-eqb left size (sym bytes_left ∙ n ∙ len))))
    (λ s b.
    let base : p.offset + 8 * (p.bytes_left - 1) ≡ base_of offset left = omega (arith, at, bytes_left) in
    let named = subst (λ (n : ℕ). BitNames n byte s) base b in
    omega (arith, not_past_at (base_of offset left) byte h parts.1 (s - base_of offset left) named.2, named.1))
  where
    shown : (fault : BitFault) → ShowsFault p byte fault → (p.bytes_left ≡ p.len → byte < 128)
        → ((s : ℕ) → BitNames (p.offset + 8 * (p.bytes_left - 1)) byte s → s < 2 ^ 64) → ⊥
    shown Negative b low in_range = let lt = low b.0 in omega (arith, lt, b.1)
    shown Wraps b low in_range = let lt = in_range b.1.0 b.1.1.1 in omega (arith, lt, b.1.1.0)

-- if the bitmap has no byte left
pub shut_in_step : (left : ℕ) (bitmap : BitRuns) → bitmap.pending ≡ None → InStep (next_subsection left) bitmap
shut_in_step zero bitmap none = none
shut_in_step (suc left) bitmap none = none

-- if the bitmap has a byte left, the byte before it was fed
bits_in_step : (before fed : BitRuns) (offset size left after : ℕ)
    → before ≡ record { offset = offset; len = size; bytes_left = left; pending = before.pending; fault = None }
    → (eqb left 1 ≡ true → fed.pending ≡ None)
    → (eqb left 1 ≡ false → fed ≡ record before { bytes_left = before.bytes_left - 1; pending = fed.pending })
    → 0 < left → InStep (next_bits offset size (left - 1) after) fed
bits_in_step before fed offset size zero after is closed opened pos = absurd (omega arith)
bits_in_step before fed offset size (suc zero) after is closed opened pos = shut_in_step after fed (closed refl)
bits_in_step before fed offset size (suc (suc left)) after is closed opened pos =
    let more : fed ≡ record before { bytes_left = before.bytes_left - 1; pending = fed.pending } = opened (ne_eqb (suc (suc left)) 1 (λ e. absurd (omega arith))) in
    let bytes_left : before.bytes_left - 1 ≡ suc left = omega (arith, ap (λ x. x.bytes_left) is) in
    let all : record before { bytes_left = before.bytes_left - 1; pending = fed.pending } ≡ record { offset = offset; len = size; bytes_left = suc left; pending = fed.pending; fault = None } =
    ap (λ (b : BitRuns). record b { bytes_left = before.bytes_left - 1; pending = fed.pending }) is
    ∙ ap (λ (n : ℕ). record { offset = offset; len = size; bytes_left = n; pending = fed.pending; fault = None }) bytes_left in
    let left_is : suc (suc left) - 1 ≡ suc left = omega arith in
    subst (λ (n : ℕ). InStep (next_bits offset size n after) fed) (sym left_is) (omega arith, more ∙ all)

pub stores_bits : (old new : FieldStore) (offset size left after byte : ℕ) (field : List ℕ) (next : Place)
    → InStep (places.Byte offset size left after) old.bitmap → byte ≡ number_of field
    → bits_judged offset size left after byte ≡ Ok next
    → StoresBits byte (eqb left 1) old new → StoresField (places.Byte offset size left after) field next old new
stores_bits old new offset size left after byte field next step value judged h =
    let parts = judged_parts (eqb left size) (ltb byte 128) (passes_end (base_of offset left) byte) next (next_bits offset size (left - 1) after) judged in
    let bytes_left : old.bitmap.bytes_left ≡ left = ap (λ x. x.bytes_left) step.1 in
    let at : old.bitmap.offset ≡ offset = ap (λ x. x.offset) step.1 in
    let entry : BitmapEntry old.authority (base_of old.bitmap.offset old.bitmap.bytes_left) byte ∷ [] ≡ BitmapEntry old.authority (base_of offset left) (number_of field) ∷ [] =
    ap (λ (n : ℕ). BitmapEntry old.authority (base_of n old.bitmap.bytes_left) byte ∷ []) at
    ∙ ap (λ (n : ℕ). BitmapEntry old.authority (base_of offset n) byte ∷ []) bytes_left
    ∙ ap (λ (n : ℕ). BitmapEntry old.authority (base_of offset left) n ∷ []) value in
    record {
      stores = subst (λ (e : List Entry). AddsEntries old e new) entry h.stores;
      authority_is = h.authority_is;
      header_is = h.header_is;
      scope_is = h.scope_is;
      in_step = subst (λ (p : Place). InStep p new.bitmap) parts.2
          (bits_in_step old.bitmap new.bitmap offset size left after step.1 h.closed h.goes_on step.0);
    }
