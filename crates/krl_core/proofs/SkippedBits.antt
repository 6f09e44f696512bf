-- Bytes of a bitmap that are skipped together.
use Rattle.krl_core.proofs.Common.{[], ◌*◌, ◌++◌, ◌+◌, ◌-◌, ◌<◌, ◌^◌, ◌∙◌, ◌∷◌, ◌≡◌, ◌≤◌, Adds, ap}
use Rattle.krl_core.proofs.Common.{append-nil, AreBitsOutOfScope, arith}
use Rattle.krl_core.proofs.Common.{authority_after, base_of, BitmapEntry, BitNames, BitRuns}
use Rattle.krl_core.proofs.Common.{bits_judged, concat, cond, Entry, eqb}
use Rattle.krl_core.proofs.Common.{false, FieldStore, GrowsAtMost}
use Rattle.krl_core.proofs.Common.{held_with_open, highest_bit, inl, inr, InScope}
use Rattle.krl_core.proofs.Common.{InStep, IsBytes, IsBytes-tail, leb}
use Rattle.krl_core.proofs.Common.{length, List, lt-leb, map, MeansInScope, Name}
use Rattle.krl_core.proofs.Common.{NamesSame, next_bits, None}
use Rattle.krl_core.proofs.Common.{number_of, number_of-one, Ok, Option, option_to_list}
use Rattle.krl_core.proofs.Common.{passes_end, Place, RangeEntry, ReadsBuffered, refl}
use Rattle.krl_core.proofs.Common.{Revocations, run_entries, same_append, same_refl, Scope}
use Rattle.krl_core.proofs.Common.{SerialOf, Skips, Some, SomeNames, Span, start, State}
use Rattle.krl_core.proofs.Common.{state_after, StoresEntries, StoresNoMore, subst, suc, sym, take}
use Rattle.krl_core.proofs.Common.{true, zero, ℕ}
use Rattle.std.proofs.lemmas.Bool.Decides.{nat_tests}
use Rattle.serial_set.proofs.Bits.{bit_below}
use Rattle.krl_entries.proofs.AddedMeaning.{nothing_more_within}
use Rattle.krl_format.proofs.PassingBits.{bits_pass}
use Rattle.krl_core.proofs.Bits.{shut_in_step}
use Rattle.krl_core.proofs.StoredEntries.{closes_run, header_stays, stored_wider}
use Rattle.krl_format.proofs.Walks.{LeadsTo-append, leads_after, leads_none, LeadsToPlace}
use Rattle.krl_format.specs.declared.place.Place.TheVariants as places

-- each byte as a field
abbrev singles : List ℕ → List (List ℕ)
singles bytes = map (λ (b : ℕ). b ∷ []) bytes

-- the entries of the bytes, if the bitmap has `left` bytes left with the first of them
abbrev bit_entries : List ℕ → (offset left : ℕ) → List ℕ → List Entry
bit_entries a offset left [] = []
bit_entries a offset left (b ∷ bs) = BitmapEntry a (base_of offset left) (number_of (b ∷ [])) ∷ bit_entries a offset (left - 1) bs

low_bit : (byte : ℕ) → highest_bit byte ≤ 7
low_bit byte = grind (arith, nat_tests)

-- no bit of the byte passes the end
ends_before : (base byte : ℕ) → base + 8 ≤ 2 ^ 64 → passes_end base byte ≡ false
ends_before base byte fits =
    let low = low_bit byte in
    let above : leb 18446744073709551616 (base + highest_bit byte) ≡ false = lt-leb 18446744073709551616 (base + highest_bit byte) (omega arith) in
    elim (eqb byte 0) as (λ v. cond v false (leb 18446744073709551616 (base + highest_bit byte)) ≡ false) [ true ↦ refl | false ↦ above ]

judged_on : (offset size left after byte : ℕ) → 0 < left → (left ≡ size → byte < 128) → offset + 8 * left ≤ 2 ^ 64 → bits_judged offset size left after byte ≡ Ok (next_bits offset size (left - 1) after)
judged_on offset size left after byte pos sign_free fits = bits_pass offset size left after byte sign_free (ends_before (base_of offset left) byte (omega arith))

leads_bits : (state : State) (a : List ℕ) (offset size left after : ℕ) (bytes : List ℕ) → state.place ≡ next_bits offset size left after → state.authority ≡ a → length bytes ≤ left → left ≤ size
    → (left ≡ size → number_of (take 1 bytes) < 128) → offset + 8 * left ≤ 2 ^ 64
    → LeadsToPlace state (singles bytes) (next_bits offset size (left - length bytes) after) (bit_entries a offset left bytes)
leads_bits state a offset size left after [] at authority le within sign_free fits =
    let all : left ≡ left - length {A = ℕ} [] = omega arith in leads_none state _ (at ∙ ap (λ (n : ℕ). next_bits offset size n after) all)
leads_bits state a offset size zero after (b ∷ bs) at authority le within sign_free fits = absurd (omega arith)
leads_bits state a offset size (suc left) after (b ∷ bs) at authority le within sign_free fits =
    let field : List ℕ = b ∷ [] in
    let next : Place = next_bits offset size left after in
    let then : State = state_after state field next in
    let fewer : suc left - 1 ≡ left = omega arith in
    let one : left - length bs ≡ suc left - length (b ∷ bs) = omega arith in
    let judged = judged_on offset size (suc left) after (number_of field) (omega arith) sign_free fits ∙ ap (λ (n : ℕ). Ok (next_bits offset size n after)) fewer in
    let more = leads_bits then a offset size left after bs refl (ap (λ (p : Place). authority_after p state.authority field) at ∙ authority) (omega arith) (omega arith) (λ last. absurd (omega arith)) (omega arith) in
    leads_after state (places.Byte offset size (suc left) after) next field (BitmapEntry a (base_of offset (suc left)) (number_of field)) at
    (record { room = tt; whole = refl; judged = judged }) refl refl (ap (λ (c : List ℕ). BitmapEntry c (base_of offset (suc left)) (number_of field) ∷ []) authority)
    (subst (λ (n : ℕ). LeadsToPlace then (singles bs) (next_bits offset size n after) (bit_entries a offset (suc left - 1) bs)) one
    (subst (λ (n : ℕ). LeadsToPlace then (singles bs) (next_bits offset size (left - length bs) after) (bit_entries a offset n bs)) (sym fewer) more))

-- ---- names that no topic contains

-- the numbers of the bits of a byte
bit_between : (base byte s : ℕ) → byte < 256 → BitNames base byte s → (base ≤ s) × (s < base + 8)
bit_between base byte s lt named =
    let near : s - base < 8 = bit_below byte 8 (s - base) lt named.2 in (named.1, omega (arith, named.1))

-- none of the numbers of some bytes is in scope under the authority
pub bits_skipped : (scope : Scope) (a : List ℕ) (offset left : ℕ) (bytes : List ℕ) → IsBytes bytes → length bytes ≤ left
    → ((s : ℕ) → offset + 8 * (left - length bytes) ≤ s → s < offset + 8 * left → InScope scope (SerialOf a s) → ⊥)
    → (name : Name) → InScope scope name → SomeNames (bit_entries a offset left bytes) name → ⊥
bits_skipped scope a offset left [] are le none name is h = h
bits_skipped scope a offset left (b ∷ bs) are le none (SerialOf c s) is (inl h) =
    let byte : ℕ = number_of (b ∷ []) in
    let small : byte < 256 = omega (arith, number_of-one b, are 0) in
    let between = bit_between (base_of offset left) byte s small h.1 in
    none s (omega (arith, between.0)) (omega (arith, between.1)) (subst (λ (x : List ℕ). InScope scope (SerialOf x s)) (sym h.0) is)
bits_skipped scope a offset left (b ∷ bs) are le none name is (inl h) = h
bits_skipped scope a offset left (b ∷ bs) are le none name is (inr h) =
    bits_skipped scope a offset (left - 1) bs (IsBytes-tail b bs are) (omega arith) (λ s low high. none s (omega (arith, low)) (omega (arith, high))) name is h

-- The field store has the same entries if the bytes name nothing in scope and no run is open.
pub skipped_stored : (old new : FieldStore) (entries : List Entry) (more : List Entry) → ((name : Name) → InScope old.scope name → SomeNames more name → ⊥)
    → new.contents ≡ old.contents → new.scope ≡ old.scope → old.bitmap.pending ≡ None → new.bitmap.pending ≡ None → StoresEntries old entries → StoresEntries new (entries ++ more)
skipped_stored old new entries more none contents scope shut still h =
    let opened : h.closed ++ run_entries old.authority (option_to_list old.bitmap.pending) ≡ h.closed =
    ap (λ (p : Option Span). h.closed ++ run_entries old.authority (option_to_list p)) shut ∙ append-nil h.closed in
    let open_now : (h.closed ++ more) ++ run_entries new.authority (option_to_list new.bitmap.pending) ≡ h.closed ++ more =
    ap (λ (p : Option Span). (h.closed ++ more) ++ run_entries new.authority (option_to_list p)) still ∙ append-nil (h.closed ++ more) in
    let before : NamesSame h.closed entries = subst (λ (xs : List Entry). NamesSame xs entries) opened h.same in
    record {
      closed = h.closed ++ more;
      means = subst (λ (r : Revocations). MeansInScope new.scope r (h.closed ++ more)) (sym contents)
          (subst (λ (s : Scope). MeansInScope s old.contents (h.closed ++ more)) (sym scope) (nothing_more_within old.scope old.contents more none h.closed h.means));
      same = subst (λ (xs : List Entry). NamesSame xs (entries ++ more)) (sym open_now) (same_append h.closed more entries more before (same_refl more));
    }

-- ---- the bytes together

pub skips_run : (old mid new : FieldStore) (count : ℕ) (run : Span) → old.bitmap.pending ≡ Some run → mid.contents ≡ old.contents → mid.scope ≡ old.scope → mid.authority ≡ old.authority → mid.header ≡ old.header
    → mid.bitmap ≡ record old.bitmap { bytes_left = old.bitmap.bytes_left - count; pending = None }
    → Adds mid (RangeEntry mid.authority run.lo run.hi ∷ []) new → Skips count old new
skips_run old mid new count run is contents scope authority header at h = record {
  closes = closes_run old mid new run is contents scope authority header (ap (λ b. b.pending) at) h;
  bitmap_is = h.rest.bitmap_is ∙ at;
}

concat_singles : (bytes : List ℕ) → concat (singles bytes) ≡ bytes
concat_singles [] = refl
concat_singles (b ∷ bs) = ap (λ (l : List ℕ). b ∷ l) (concat_singles bs)

at_byte : (offset size left after : ℕ) → 0 < left → places.Byte offset size left after ≡ next_bits offset size left after
at_byte offset size zero after pos = absurd (omega arith)
at_byte offset size (suc left) after pos = refl

-- at the next byte the bitmap is in step
bits_in_step : (old stored : FieldStore) (offset size left after count : ℕ) → InStep (places.Byte offset size left after) old.bitmap → Skips count old stored → InStep (next_bits offset size (left - count) after) stored.bitmap
bits_in_step old stored offset size left after count step skips =
    let was = step.1 in
    let is = skips.bitmap_is in
    let all : stored.bitmap ≡ record { offset = offset; len = size; bytes_left = left - count; pending = None; fault = None } =
    is ∙ ap (λ (b : BitRuns). record b { bytes_left = b.bytes_left - count; pending = None }) was in
    in_step (left - count) refl all skips.closes.closed
  where
    in_step : (n : ℕ) → n ≡ left - count → stored.bitmap ≡ record { offset = offset; len = size; bytes_left = left - count; pending = None; fault = None } → stored.bitmap.pending ≡ None → InStep (next_bits offset size n after) stored.bitmap
    in_step zero at all none = shut_in_step after stored.bitmap none
    in_step (suc n) at all none = (omega arith, all ∙ ap (λ (m : ℕ). record { offset = offset; len = size; bytes_left = m; pending = None; fault = None }) (sym at) ∙ ap (λ (o : Option Span). record { offset = offset; len = size; bytes_left = suc n; pending = o; fault = None }) (sym none))

-- the bytes are read because none of their numbers is in scope
pub buffered_bits : (old new : FieldStore) (offset size left after : ℕ) (bytes : List ℕ) → InStep (places.Byte offset size left after) old.bitmap → IsBytes bytes
    → length bytes ≤ left → left ≤ size → (left ≡ size → number_of (take 1 bytes) < 128) → offset + 8 * left ≤ 2 ^ 64 → AreBitsOutOfScope old offset left (length bytes)
    → Skips (length bytes) old new → ReadsBuffered bytes (places.Byte offset size left after) old (next_bits offset size (left - length bytes) after) new
buffered_bits old new offset size left after bytes step are le within sign_free fits bits_out_of_scope skips = record {
  stores = λ fields h.
      let c = skips.closes in
      let here : h.state.place ≡ next_bits offset size left after = sym h.place_is ∙ at_byte offset size left after step.0 in
      let more = leads_bits h.state old.authority offset size left after bytes here (sym h.authority_is) le within sign_free fits in
      let shut : StoresEntries new h.state.entries = subst (StoresEntries new) (append-nil h.state.entries) (c.stores h.state.entries h.stores) in
      let named = bits_skipped old.scope old.authority offset left bytes are le bits_out_of_scope in
      let none = λ (name : Name) (is : InScope new.scope name). named name (subst (λ (s : Scope). InScope s name) c.scope_is is) in
      let stores = skipped_stored new new h.state.entries (bit_entries old.authority offset left bytes) none refl refl c.closed c.closed shut in (
        singles bytes,
        (
          record {
            state = more.last;
            leads = LeadsTo-append start h.state more.last fields (singles bytes) h.leads more.leads;
            place_is = sym more.place_is;
            authority_is = c.authority_is ∙ h.authority_is ∙ sym more.authority_is;
            header_is = header_stays old new h.state.header more.last.header c.header_is c.scope_is more.header_is h.header_is;
            stores = subst (StoresEntries new) (sym more.entries_are) stores;
          },
          concat_singles bytes,
        ),
      );
  are_bytes = are;
  in_step = bits_in_step old new offset size left after (length bytes) step skips;
  scope_is = skips.closes.scope_is;
}

pub stays_grow : (n : ℕ) (old new : FieldStore) → held_with_open new ≤ held_with_open old → StoresNoMore old new → GrowsAtMost n old new
stays_grow n old new held stays = record {
  held_is = omega (arith, held);
  stored_is = λ m s. stored_wider new m (m + n) (omega arith) (stays.stored_is m s);
  scope_is = stays.scope_is;
  same_scope = stays.same_scope;
}
