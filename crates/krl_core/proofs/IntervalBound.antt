-- The entries of the fields of a front have at most four intervals for each of their bytes.
use Rattle.krl_core.proofs.Common.{[], ◌*◌, ◌++◌, ◌+◌, ◌<◌, ◌↔◌, ◌∙◌, ◌∷◌, ◌≡◌, ◌≤◌, All}
use Rattle.krl_core.proofs.Common.{all_append, AllByRecursion, ap, arith, Bool, bytes_eq, concat}
use Rattle.krl_core.proofs.Common.{Entry, EntryNames, false, false≢true, held, HoldsSerial, iff_or}
use Rattle.krl_core.proofs.Common.{inl, inr, IsBytes, IsBytes-back, IsBytes-front, IsOrderlySection, LeadsTo}
use Rattle.krl_core.proofs.Common.{length, length-append, List, Means, names, number_of}
use Rattle.krl_core.proofs.Common.{number_of-one, Passes, Place, refl, Revocations, Section}
use Rattle.krl_core.proofs.Common.{SerialOf, SomeNames, SomeSection, Span, start, State}
use Rattle.krl_core.proofs.Common.{state_after, subst, sum_by, sym, true, ℕ}
use Rattle.std.specs.declared.cmp.Ordering.TheVariants.{Less}
use Rattle.std.proofs.lemmas.List.Sums.{sum_by-cons, sum_by-append}
use Rattle.std.proofs.lemmas.Slice.Eq.{bytes_eq-Decides}
use Rattle.std.proofs.lemmas.List.Elements.{All-tail}
use Rattle.serial_set.specs.Span.{Covers}
use Rattle.serial_set.proofs.LeastLists.{runs_least}
use Rattle.serial_set.proofs.RisingLists.{covers_append}
use Rattle.krl_entries.specs.Rising.{AllAbove, RisesBy, bytes_cmp}
use Rattle.krl_entries.proofs.Intervals.{IsByteOnly, entry_authority, interval_names, intervals_of}
use Rattle.krl_entries.proofs.Intervals.{length-intervals, most}
use Rattle.krl_entries.proofs.OneMeaning.{section_authority, held_first, not_before_itself}
use Rattle.krl_entries.proofs.OneMeaning.{above_named}
use Rattle.std.proofs.Math.Logic.Iff as Iff
use Rattle.krl_types.specs.declared.item_kind.ItemKind.TheVariants as kinds
use Rattle.krl_format.specs.declared.place.Place.TheVariants as places

-- ---- the intervals of entries under one authority

pub if_under : Bool → List Span → List Span
if_under true spans = spans
if_under false spans = []

pub under : List ℕ → Entry → List Span
under a entry = if_under (bytes_eq (entry_authority entry) a) (intervals_of entry)

pub all_under : List ℕ → List Entry → List Span
all_under a [] = []
all_under a (entry ∷ entries) = under a entry ++ all_under a entries

covers_if : (b : Bool) (spans : List Span) (s : ℕ) → Covers (if_under b spans) s ↔ ((b ≡ true) × Covers spans s)
unfolding if_under
covers_if true spans s = (λ h. (refl, h), λ h. h.1)
covers_if false spans s = (λ h. absurd h, λ h. absurd (false≢true h.0))

under_names : (a : List ℕ) (entry : Entry) (s : ℕ) → IsByteOnly entry → Covers (under a entry) s ↔ EntryNames entry (SerialOf a s)
unfolding under
under_names a entry s small =
    Iff.trans (covers_if (bytes_eq (entry_authority entry) a) (intervals_of entry) s)
    (Iff.trans (Iff.and (bytes_eq-Decides (entry_authority entry) a) Iff.rfl) (interval_names entry a s small))

all_under_names : (a : List ℕ) (entries : List Entry) (s : ℕ) → AllByRecursion IsByteOnly entries → Covers (all_under a entries) s ↔ SomeNames entries (SerialOf a s)
unfolding all_under
all_under_names a [] s small = Iff.rfl
all_under_names a (entry ∷ entries) s small =
    Iff.trans (covers_append (under a entry) (all_under a entries) s) (iff_or (under_names a entry s small.0) (all_under_names a entries s small.1))

-- ---- the number of intervals over all authorities

abbrev count_under : Entry → Section → ℕ
count_under entry section = length (under section.authority entry)

-- under any other authority an entry names nothing
none_under : (a : List ℕ) (entry : Entry) → (entry_authority entry ≡ a → ⊥) → length (under a entry) ≡ 0
unfolding under if_under
none_under a entry apart = none_if (bytes_eq (entry_authority entry) a) (λ e. apart ((bytes_eq-Decides (entry_authority entry) a).0 e))
  where
    none_if : (b : Bool) → (b ≡ true → ⊥) → length (if_under b (intervals_of entry)) ≡ 0
    none_if true no_way = absurd (no_way refl)
    none_if false no_way = refl

under_most : (a : List ℕ) (entry : Entry) → length (under a entry) ≤ most entry
unfolding under if_under
under_most a entry = most_if (bytes_eq (entry_authority entry) a)
  where
    most_if : (b : Bool) → length (if_under b (intervals_of entry)) ≤ most entry
    most_if true = length-intervals entry
    most_if false = omega arith

none_later : (entry : Entry) (sections : List Section) → AllAbove section_authority (entry_authority entry) sections → sum_by (count_under entry) sections ≡ 0
none_later entry [] above = refl
none_later entry (x ∷ xs) above =
    let apart : entry_authority entry ≡ x.authority → ⊥ = λ e. not_before_itself x.authority (subst (λ (t : List ℕ). bytes_cmp t x.authority ≡ Less) e above.0) in
    omega (arith, sum_by-cons (count_under entry) x xs, none_under x.authority entry apart, none_later entry xs above.1)

once_more : (entry : Entry) (x : Section) (xs : List Section) (b : Bool) → bytes_eq (entry_authority entry) x.authority ≡ b → RisesBy section_authority (x ∷ xs) → sum_by (count_under entry) xs ≤ most entry
    → sum_by (count_under entry) (x ∷ xs) ≤ most entry
once_more entry x xs true e rise rest =
    let same = (bytes_eq-Decides (entry_authority entry) x.authority).0 e in
    let above : AllAbove section_authority (entry_authority entry) xs = subst (λ (t : List ℕ). AllAbove section_authority t xs) (sym same) rise.0 in
    omega (arith, sum_by-cons (count_under entry) x xs, under_most x.authority entry, none_later entry xs above)
once_more entry x xs false e rise rest =
    let apart : entry_authority entry ≡ x.authority → ⊥ = λ same. false≢true (sym e ∙ (bytes_eq-Decides (entry_authority entry) x.authority).1 same) in
    omega (arith, sum_by-cons (count_under entry) x xs, none_under x.authority entry apart, rest)

-- an entry names serial numbers under one authority only
once : (entry : Entry) (sections : List Section) → RisesBy section_authority sections → sum_by (count_under entry) sections ≤ most entry
once entry [] rise = omega arith
once entry (x ∷ xs) rise = once_more entry x xs (bytes_eq (entry_authority entry) x.authority) refl rise (once entry xs rise.1)

abbrev count_all : List Entry → Section → ℕ
count_all entries section = length (all_under section.authority entries)

count_none : (sections : List Section) → sum_by (count_all []) sections ≡ 0
unfolding all_under
count_none [] = refl
count_none (x ∷ xs) = omega (arith, sum_by-cons (count_all []) x xs, count_none xs)

count_more : (entry : Entry) (entries : List Entry) (sections : List Section) → sum_by (count_all (entry ∷ entries)) sections ≡ sum_by (count_under entry) sections + sum_by (count_all entries) sections
unfolding all_under
count_more entry entries [] = refl
count_more entry entries (x ∷ xs) =
    let cons = λ (f : Section → ℕ). sum_by-cons f x xs in
    let both = length-append (under x.authority entry) (all_under x.authority entries) in
    omega (arith, cons (count_all (entry ∷ entries)), cons (count_under entry), cons (count_all entries), both, count_more entry entries xs)

count_most : (entries : List Entry) (sections : List Section) → RisesBy section_authority sections → sum_by (count_all entries) sections ≤ sum_by most entries
count_most [] sections rise = omega (arith, count_none sections)
count_most (entry ∷ entries) sections rise =
    omega (arith, count_more entry entries sections, once entry sections rise, count_most entries sections rise, sum_by-cons most entry entries)

-- ---- the stored spans

-- the stored serial numbers of these authorities are exactly those that the entries name
abbrev AreHeld : List Section → List Entry → Type 0
AreHeld sections entries =
    (a : List ℕ) (s : ℕ) → SomeSection (λ section. section.authority ≡ a) sections → HoldsSerial sections a s ↔ SomeNames entries (SerialOf a s)

held_after : (x : Section) (xs : List Section) (entries : List Entry) → AllAbove section_authority x.authority xs → AreHeld (x ∷ xs) entries → AreHeld xs entries
held_after x xs entries above h a s some = (
  λ k. (h a s (inr some)).0 (inr k),
  λ n. elim ((h a s (inr some)).1 n) [
    | inl here ↦ absurd (not_before_itself x.authority (subst (λ (t : List ℕ). bytes_cmp x.authority t ≡ Less) (sym here.0) (above_named x.authority a xs above some)))
    | inr later ↦ later
  ],
)

abbrev spans_held : Section → ℕ
spans_held section = length section.spans

held_few : (sections : List Section) (entries : List Entry) → AllByRecursion IsByteOnly entries → RisesBy section_authority sections → All IsOrderlySection sections → AreHeld sections entries
    → sum_by spans_held sections ≤ sum_by (count_all entries) sections
held_few [] entries small rise listed h = omega arith
held_few (x ∷ xs) entries small rise listed h =
    let is : IsOrderlySection x = listed 0 x (omega arith) in
    let here = runs_least x.spans (all_under x.authority entries) is.runs (λ s. (
      λ c. (all_under_names x.authority entries s small).1 ((h x.authority s (inl refl)).0 (inl (refl, c))),
      λ n. (held_first (λ section. Covers section.spans s) x.authority x xs refl rise.0).0 ((h x.authority s (inl refl)).1 ((all_under_names x.authority entries s small).0 n)),
    )) in
    let rest = held_few xs entries small rise.1 (All-tail IsOrderlySection x xs listed) (held_after x xs entries rise.0 h) in
    omega (arith, sum_by-cons spans_held x xs, sum_by-cons (count_all entries) x xs)

-- ---- fields

field_few : (place next : Place) (authority field : List ℕ) → Passes place field next → sum_by most (names place authority field) ≤ 4 * length field
field_few (places.Serial left after) next authority field p = omega (arith, p.whole)
field_few (places.RangeMax min after) next authority field p = omega (arith, p.whole)
field_few (places.Byte offset size left after) next authority field p = omega (arith, p.whole)
field_few (places.Item kinds.Key size left after) next authority field p = omega arith
field_few place next authority field p = omega arith

byte_number : (field : List ℕ) → length field ≡ 1 → IsBytes field → number_of field < 256
byte_number (byte ∷ []) size fits = omega (arith, number_of-one byte, fits 0)
byte_number _ size fits = absurd (omega arith)

field_bytes : (place next : Place) (authority field : List ℕ) → Passes place field next → IsBytes field → AllByRecursion IsByteOnly (names place authority field)
field_bytes (places.Serial left after) next authority field p fits = (tt, tt)
field_bytes (places.RangeMax min after) next authority field p fits = (tt, tt)
field_bytes (places.Byte offset size left after) next authority field p fits = (byte_number field p.whole fits, tt)
field_bytes (places.Item kinds.Key size left after) next authority field p fits = (tt, tt)
field_bytes (places.Item kind size left after) next authority field p fits = (tt, tt)
field_bytes place next authority field p fits = tt

fields_few : (fields : List (List ℕ)) (state last : State) → LeadsTo state fields last → sum_by most last.entries ≤ sum_by most state.entries + 4 * length (concat fields)
fields_few [] state last leads = omega (arith, ap (λ (s : State). sum_by most s.entries) leads)
fields_few (field ∷ fields) state last leads =
    let named : List Entry = names state.place state.authority field in
    let rest = fields_few fields (state_after state field leads.0) last leads.1.1 in
    omega (arith, rest, sum_by-append most state.entries named, field_few state.place leads.0 state.authority field leads.1.0, length-append field (concat fields))

fields_bytes : (fields : List (List ℕ)) (state last : State) → LeadsTo state fields last → IsBytes (concat fields) → AllByRecursion IsByteOnly state.entries → AllByRecursion IsByteOnly last.entries
fields_bytes [] state last leads fits all = subst (λ (s : State). AllByRecursion IsByteOnly s.entries) leads all
fields_bytes (field ∷ fields) state last leads fits all =
    let named : List Entry = names state.place state.authority field in
    let here = field_bytes state.place leads.0 state.authority field leads.1.0 (IsBytes-front field (concat fields) fits) in
    fields_bytes fields (state_after state field leads.0) last leads.1.1 (IsBytes-back field (concat fields) fits) (all_append IsByteOnly state.entries named all here)

pub four_a_byte : (fields : List (List ℕ)) (state : State) (r : Revocations) → LeadsTo start fields state → IsBytes (concat fields) → Means r state.entries → held r ≤ 4 * length (concat fields)
four_a_byte fields state r leads fits means =
    let small = fields_bytes fields start state leads fits tt in
    let few = held_few r.sections state.entries small means.orderly.authorities_rise means.orderly.listed (λ a s some. means.names (SerialOf a s)) in
    let counted = count_most state.entries r.sections means.orderly.authorities_rise in
    omega (arith, few, counted, fields_few fields start state leads)
