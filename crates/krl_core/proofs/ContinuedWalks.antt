-- A walk that continues over a store with less in scope, which takes what was stored.
use Rattle.krl_core.proofs.Common.{[], ◌++◌, ◌∙◌, ◌∷◌, ◌≡◌, ◌⊎◌, all, ap, append-nil, append_assoc}
use Rattle.krl_core.proofs.Common.{BitRuns, concat, concat-append, entries_in, Entry, expected}
use Rattle.krl_core.proofs.Common.{◌+◌, ◌≤◌, arith, FieldStore, HasRead, Header, inl, inr, length}
use Rattle.krl_core.proofs.Common.{length-append, limit, NeedsMemory}
use Rattle.krl_core.proofs.Common.{number_of, RangeEntry, same_append, same_is, same_none, same_refl}
use Rattle.krl_core.proofs.Common.{same_zero, SerialsEntry}
use Rattle.krl_core.proofs.Common.{IsBounded, IsInScope, LeadsTo, List, Means, means_all_within}
use Rattle.krl_core.proofs.Common.{MeansInScope, names, NamesSame, None, open_run, Option}
use Rattle.krl_core.proofs.Common.{option_to_list, Place, Pull, ran_out, refl, Revocations}
use Rattle.krl_core.proofs.Common.{run_entries, same_then, same_within, Says, Scope, Some, start, State}
use Rattle.krl_core.proofs.Common.{state_after, stored_header, StoresEntries, subst, sym}
use Rattle.krl_core.proofs.Common.{Walk, ℕ}
use Rattle.krl_entries.proofs.OneMeaning.{one_meaning}
use Rattle.krl_entries.proofs.OwnEntries.{means_itself}
use Rattle.krl_entries.proofs.SameMeaning.{nothing_meant, same_meaning, same_naming}
use Rattle.krl_types.proofs.Elements.{some_left}
use Rattle.krl_core.proofs.Steps.{may_lack}
use Rattle.std.proofs.Math.Nat.{eq-zero-or-pos}
use Rattle.krl_entries.specs.Revocations.{nothing}
use Rattle.krl_entries.specs.Scope.{stored_comment}
use Rattle.std.specs.Prelude.{◌≢◌}
use Rattle.krl_format.specs.declared.place.Place.TheVariants as places
use Rattle.krl_types.specs.declared.krl_fault.KrlFault.TheVariants as faults

-- the entries that were stored stay stored, with the open run
pub continued_stores : (old gained new : FieldStore) (entries : List Entry) → old.scope ≡ all → StoresEntries gained (entries_in old.contents) → gained.bitmap.pending ≡ None
    → new.contents ≡ gained.contents → new.scope ≡ gained.scope → new.authority ≡ old.authority → new.bitmap ≡ old.bitmap → StoresEntries old entries → StoresEntries new entries
continued_stores old gained new entries every gains none contents scope authority bitmap h =
    let front : Means old.contents h.closed = means_all_within old.contents h.closed (subst (λ (s : Scope). MeansInScope s old.contents h.closed) every h.means) in
    let no_run : gains.closed ++ run_entries gained.authority (open_run gained) ≡ gains.closed =
    ap (λ p. gains.closed ++ run_entries gained.authority (option_to_list p)) none ∙ append-nil gains.closed in
    let named : NamesSame gains.closed (entries_in old.contents) = subst (λ (xs : List Entry). NamesSame xs (entries_in old.contents)) no_run gains.same in
    let same = same_then gains.closed (entries_in old.contents) h.closed named (same_naming old.contents (entries_in old.contents) h.closed (means_itself old.contents front.orderly) front) in
    let means = same_within gained.scope gained.contents gains.closed h.closed gains.means same in
    record {
      closed = h.closed;
      means = subst (λ (s : Scope). MeansInScope s new.contents h.closed) (sym scope) (subst (λ (r : Revocations). MeansInScope gained.scope r h.closed) (sym contents) means);
      same = subst (λ (b : BitRuns). NamesSame (h.closed ++ run_entries new.authority (option_to_list b.pending)) entries) (sym bitmap)
          (subst (λ (a : List ℕ). NamesSame (h.closed ++ run_entries a (option_to_list old.bitmap.pending)) entries) (sym authority) h.same);
    }

-- no comment is stored
pub no_comment : (scope : Scope) (comment : List ℕ) → scope ≢ all → stored_comment scope [] ≡ stored_comment scope comment
no_comment None comment narrower = absurd (narrower refl)
no_comment (Some topics) comment narrower = refl

-- the fields that were read stay read if all stored entries stay stored, with the parts of the header
-- that the scope needs
pub continued_read : (text : List ℕ) (fields : List (List ℕ)) (old : Walk) (stored : FieldStore) → HasRead text fields old → old.stored.scope ≡ all
    → ((entries : List Entry) → StoresEntries old.stored entries → StoresEntries stored entries) → stored.authority ≡ old.stored.authority
    → stored.header ≡ stored_header stored.scope old.stored.header → HasRead text fields (record old { stored = stored })
continued_read text fields old stored h every stores authority header = record {
  state = h.state;
  leads = h.leads;
  place_is = h.place_is;
  authority_is = authority ∙ h.authority_is;
  header_is = header ∙ ap (λ (x : Header). stored_header stored.scope x) (h.header_is ∙ ap (λ (s : Scope). stored_header s h.state.header) every);
  stores = stores h.state.entries h.stores;
  are_bytes = h.are_bytes;
  rest = h.rest;
  left_is = h.left_is;
  parts = h.parts;
  taken_is = h.taken_is;
  works = h.works;
  faultless = h.faultless;
}

pub continued_bounded : (pull : Pull) (old new : FieldStore) → IsBounded pull old → new.scope ≢ all → IsInScope new.scope new.contents → IsBounded pull new
continued_bounded pull old new b narrower within =
    record { limit_is = b.limit_is; within = b.within; all_is = λ every. absurd (narrower every); scope_is = within }

-- ---- an allocation fails only if entries were stored, for which memory was needed

-- memory may be needed for a field, or it names nothing
needs_or_none : (p : Place) (a field : List ℕ) → NeedsMemory p field ⊎ NamesSame [] (names p a field)
needs_or_none (places.Item kind size left after) a field = inl tt
needs_or_none (places.Serial left after) a field = elim (eq-zero-or-pos (number_of field)) [
  | inl zero ↦ inr (subst (λ (n : ℕ). NamesSame [] (SerialsEntry a (n ∷ []) ∷ [])) (sym zero) (same_zero a))
  | inr some ↦ inl some
]
needs_or_none (places.RangeMax min after) a field = elim (eq-zero-or-pos (number_of field)) [
  | inl zero ↦ inr (subst (λ (n : ℕ). NamesSame [] (RangeEntry a min n ∷ [])) (sym zero) (same_none a min))
  | inr some ↦ inl some
]
needs_or_none (places.Byte offset size left after) a field = inl tt
needs_or_none _ a field = inr (same_refl [])

-- Memory may be needed for one of these fields.
record NeedsLater (from : State) (fields : List (List ℕ)) : Type 0 where
  front : List (List ℕ)
  field : List ℕ
  more : List (List ℕ)
  parts : fields ≡ front ++ field ∷ more
  state : State
  leads : LeadsTo from front state
  whole : length field ≡ (expected state.place).size
  needs : NeedsMemory state.place field

needs_or_same : (from last : State) (fields : List (List ℕ)) → LeadsTo from fields last → NeedsLater from fields ⊎ NamesSame from.entries last.entries
needs_or_same from last [] leads = inr (same_is from.entries last.entries (ap (λ (s : State). s.entries) leads))
needs_or_same from last (field ∷ fields) (next, (passes, leads)) =
    elim (needs_or_none from.place from.authority field) [
      | inl needs ↦ inl (record { front = []; field = field; more = fields; parts = refl; state = from; leads = refl; whole = passes.whole; needs = needs })
      | inr none ↦ elim (needs_or_same (state_after from field next) last fields leads) [
        | inl later ↦ inl (record {
          front = field ∷ later.front;
          field = later.field;
          more = later.more;
          parts = ap (λ (l : List (List ℕ)). field ∷ l) later.parts;
          state = later.state;
          leads = (next, (passes, later.leads));
          whole = later.whole;
          needs = later.needs;
        })
        | inr same ↦
            let named = names from.place from.authority field in
            let here = subst (λ (l : List Entry). NamesSame l (from.entries ++ named)) (append-nil from.entries) (same_append from.entries [] from.entries named (same_refl from.entries) none) in
            inr (same_then from.entries (from.entries ++ named) last.entries here same)
      ]
    ]

no_entries : (stored : FieldStore) (entries : List Entry) → stored.scope ≡ all → NamesSame [] entries → StoresEntries stored entries → stored.contents ≡ nothing
no_entries stored entries every same h =
    let means = means_all_within stored.contents h.closed (subst (λ (s : Scope). MeansInScope s stored.contents h.closed) every h.means) in
    let none : NamesSame h.closed [] = λ name. (λ named. (same name).1 ((h.same name).0 (some_left h.closed (run_entries stored.authority (open_run stored)) name named)), λ no. absurd no) in
    one_meaning stored.contents nothing [] (same_meaning stored.contents h.closed [] means none) nothing_meant

pub ran_out_later : (text : List ℕ) (fields : List (List ℕ)) (old : Walk) (left : Option (List ℕ)) → IsBounded old.pull old.stored → HasRead text fields old → old.stored.scope ≡ all
    → old.stored.contents ≢ nothing → Says faults.NoMemory text old.pull.failed left
ran_out_later text fields old left bounded h every some =
    elim (needs_or_same start h.state fields h.leads) [
      | inl later ↦
          let joined : concat fields ≡ concat later.front ++ (later.field ++ concat later.more) = rw later.parts (concat-append later.front (later.field ∷ later.more)) in
          let parts = h.parts ∙ ap (λ (l : List ℕ). l ++ h.rest) joined ∙ regroup (concat later.front) later.field (concat later.more) h.rest in
          let within : length (concat later.front) + length later.field ≤ limit =
          omega (arith, ap length joined, length-append (concat later.front) (later.field ++ concat later.more), length-append later.field (concat later.more), bounded.within, h.taken_is) in
          ran_out refl (may_lack text later.front later.state later.field (concat later.more ++ h.rest) later.leads parts later.whole within later.needs) h.works
      | inr same ↦ absurd (some (no_entries old.stored h.state.entries every same h.stores))
    ]
  where
    regroup : (a b c d : List ℕ) → (a ++ (b ++ c)) ++ d ≡ a ++ (b ++ (c ++ d))
    regroup a b c d = simp append_assoc
