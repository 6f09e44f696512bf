-- Serial numbers, of eight bytes each, that are skipped together.
use Rattle.krl_core.proofs.Common.{[], ◌*◌, ◌++◌, ◌+◌, ◌-◌, ◌<◌, ◌∙◌, ◌∷◌, ◌≡◌, ◌≤◌, ap}
use Rattle.krl_core.proofs.Common.{AreOutOfScope, arith, authority_after, BitRuns}
use Rattle.krl_core.proofs.Common.{concat, contains_cases, contains_none, drop, drop-drop, Entry}
use Rattle.krl_core.proofs.Common.{FieldStore, inl, inr, InScope, InStep, IsBytes}
use Rattle.krl_core.proofs.Common.{IsBytes-take, length, length-drop, length-take-le, List}
use Rattle.krl_core.proofs.Common.{Name, next_serial, None, number_of, Place}
use Rattle.krl_core.proofs.Common.{ReadsBuffered, refl, Scope, serial_at, SerialOf, SerialsEntry}
use Rattle.krl_core.proofs.Common.{SomeNames, start, State, state_after, StoresEntries, subst, suc}
use Rattle.krl_core.proofs.Common.{sym, take, take-add, zero, ℕ}
use Rattle.krl_core.proofs.Bits.{shut_in_step}
use Rattle.krl_core.proofs.StoredEntries.{header_stays}
use Rattle.krl_core.proofs.SkippedBits.{skipped_stored}
use Rattle.krl_format.proofs.Walks.{LeadsTo-append, leads_after, leads_none, LeadsToPlace}
use Rattle.krl_format.specs.declared.place.Place.TheVariants as places

-- the first serial numbers, as fields
eights : ℕ → List ℕ → List (List ℕ)
eights zero bytes = []
eights (suc count) bytes = take 8 bytes ∷ eights count (drop 8 bytes)

-- their entries
serial_entries : List ℕ → ℕ → List ℕ → List Entry
serial_entries a zero bytes = []
serial_entries a (suc count) bytes = SerialsEntry a (number_of (take 8 bytes) ∷ []) ∷ serial_entries a count (drop 8 bytes)

concat_eights : (count : ℕ) (bytes : List ℕ) → concat (eights count bytes) ≡ take (8 * count) bytes
unfolding eights
concat_eights zero bytes = refl
concat_eights (suc count) bytes =
    let all : 8 * suc count ≡ 8 + 8 * count = omega arith in
    ap (λ (l : List ℕ). take 8 bytes ++ l) (concat_eights count (drop 8 bytes)) ∙ sym (take-add 8 (8 * count) bytes) ∙ ap (λ (n : ℕ). take n bytes) (sym all)

at_serial : (left after : ℕ) → 0 < left → places.Serial left after ≡ next_serial left after
at_serial zero after pos = absurd (omega arith)
at_serial (suc left) after pos = refl

leads_serials : (count : ℕ) (state : State) (a : List ℕ) (left after : ℕ) (bytes : List ℕ) → state.place ≡ next_serial left after → state.authority ≡ a → 8 * count ≤ length bytes → 8 * count ≤ left
    → LeadsToPlace state (eights count bytes) (next_serial (left - 8 * count) after) (serial_entries a count bytes)
unfolding eights serial_entries
leads_serials zero state a left after bytes at authority there within =
    let all : left ≡ left - 8 * 0 = omega arith in leads_none state _ (at ∙ ap (λ (n : ℕ). next_serial n after) all)
leads_serials (suc count) state a left after bytes at authority there within =
    let field : List ℕ = take 8 bytes in
    let next : Place = next_serial (left - 8) after in
    let here : state.place ≡ places.Serial left after = at ∙ sym (at_serial left after (omega arith)) in
    let less : left - 8 - 8 * count ≡ left - 8 * suc count = omega arith in
    let more = leads_serials count (state_after state field next) a (left - 8) after (drop 8 bytes) refl (ap (λ (p : Place). authority_after p state.authority field) here ∙ authority)
    (omega (arith, length-drop 8 bytes)) (omega arith) in
    leads_after state (places.Serial left after) next field (SerialsEntry a (number_of field ∷ [])) here
    (record { room = omega arith; whole = length-take-le 8 bytes (omega arith); judged = refl }) refl refl (ap (λ (c : List ℕ). SerialsEntry c (number_of field ∷ []) ∷ []) authority)
    (subst (λ (n : ℕ). LeadsToPlace (state_after state field next) (eights count (drop 8 bytes)) (next_serial n after) (serial_entries a count (drop 8 bytes))) less more)

-- the serial number after one more
serial_later : (bytes : List ℕ) (k : ℕ) → serial_at (drop 8 bytes) k ≡ serial_at bytes (suc k)
serial_later bytes k =
    let more : 8 * suc k ≡ 8 + 8 * k = omega arith in
    ap (λ (l : List ℕ). number_of (take 8 l)) (drop-drop (8 * k) 8 bytes ∙ ap (λ (n : ℕ). drop n bytes) (sym more))

-- none of the serial numbers is in scope
serials_skipped : (count : ℕ) (scope : Scope) (a bytes : List ℕ) → AreOutOfScope scope a bytes (8 * count)
    → (name : Name) → InScope scope name → SomeNames (serial_entries a count bytes) name → ⊥
unfolding serial_entries
serials_skipped zero scope a bytes none name is h = h
serials_skipped (suc count) scope a bytes none (SerialOf b s) is (inl h) =
    let same : s ≡ number_of (take 8 bytes) = elim (contains_cases (number_of (take 8 bytes)) s [] h.1.1) [ inl e ↦ sym e | inr more ↦ absurd (contains_none s more) ] in
    none 0 (omega arith) (subst (λ (n : ℕ). InScope scope (SerialOf a n)) same (subst (λ (c : List ℕ). InScope scope (SerialOf c s)) (sym h.0) is))
serials_skipped (suc count) scope a bytes none name is (inl h) = h
serials_skipped (suc count) scope a bytes none name is (inr h) =
    serials_skipped count scope a (drop 8 bytes) (λ k fits. subst (λ (n : ℕ). InScope scope (SerialOf a n) → ⊥) (sym (serial_later bytes k)) (none (suc k) (omega (arith, fits)))) name is h

still : (left after : ℕ) (bitmap : BitRuns) → bitmap.pending ≡ None → InStep (next_serial left after) bitmap
still zero after bitmap none = shut_in_step after bitmap none
still (suc left) after bitmap none = none

-- the serial numbers are read because none of them is in scope
pub buffered_serials : (count : ℕ) (stored : FieldStore) (left after : ℕ) (bytes : List ℕ) → 0 < left → stored.bitmap.pending ≡ None → IsBytes bytes → 8 * count ≤ length bytes
    → 8 * count ≤ left → AreOutOfScope stored.scope stored.authority bytes (8 * count)
    → ReadsBuffered (take (8 * count) bytes) (places.Serial left after) stored (next_serial (left - 8 * count) after) stored
buffered_serials count stored left after bytes pos none are there within out_of_scope = record {
  stores = λ fields h.
      let here : h.state.place ≡ next_serial left after = sym h.place_is ∙ at_serial left after pos in
      let more = leads_serials count h.state stored.authority left after bytes here (sym h.authority_is) there within in
      let stores = skipped_stored stored stored h.state.entries (serial_entries stored.authority count bytes) (serials_skipped count stored.scope stored.authority bytes out_of_scope) refl refl none none h.stores in (
        eights count bytes,
        (
          record {
            state = more.last;
            leads = LeadsTo-append start h.state more.last fields (eights count bytes) h.leads more.leads;
            place_is = sym more.place_is;
            authority_is = h.authority_is ∙ sym more.authority_is;
            header_is = header_stays stored stored h.state.header more.last.header refl refl more.header_is h.header_is;
            stores = subst (StoresEntries stored) (sym more.entries_are) stores;
          },
          concat_eights count bytes,
        ),
      );
  are_bytes = IsBytes-take (8 * count) bytes are;
  in_step = still (left - 8 * count) after stored.bitmap none;
  scope_is = refl;
}
