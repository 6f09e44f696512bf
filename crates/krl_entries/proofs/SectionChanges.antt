-- The effect of an addition to one section on all sections.
use Rattle.krl_entries.proofs.Common.{[], ◌++◌, ◌∙◌, ◌∷◌, ◌≡◌, Addition, AddsTo, AllAbove}
use Rattle.krl_entries.proofs.Common.{AllByRecursion, AllocError, ap, Bor, bytes_cmp, ChangesOne}
use Rattle.krl_entries.proofs.Common.{cond, empty_section, Equal, Err, exact_bytes, Greater, Item}
use Rattle.krl_entries.proofs.Common.{inl, inr, insert_entry, is_at, is_eq, IsStrictlySortedBy}
use Rattle.krl_entries.proofs.Common.{Less, List, map, map-append, match_ordering, MatchOption}
use Rattle.krl_entries.proofs.Common.{MatchResult, name_of, named_sections, None, Ok, OnErr, OnOk}
use Rattle.krl_entries.proofs.Common.{Option, option_copied, Ordering, refl, Result, RisesBy}
use Rattle.krl_entries.proofs.Common.{Section, section_of, sections_of, Serials, Some, SomeSection}
use Rattle.krl_entries.proofs.Common.{Span, Stands, subst, sym, TakesAddition, ℕ}
use Rattle.std.specs.Global.{Vec}
use Rattle.std.specs.Map.{lookup, set_value}
use Rattle.krl_entries.specs.declared.authority_entries.AuthorityEntries.{AuthorityEntries}
use Rattle.krl_entries.proofs.RisingLists.{above_map, back_above, below_map, front_below}
use Rattle.krl_entries.proofs.RisingLists.{inserts_map, rises_changed, tied}

pub takes_authority : (addition : Addition) (from to : Section) → TakesAddition addition from to → to.authority ≡ from.authority
takes_authority (Serials near) from to t = ap (λ (s : Section). s.authority) t.same
takes_authority (Item kind text) from to t = ap (λ (s : Section). s.authority) t.same

pub changes_rise : (addition : Addition) (authority : List ℕ) (old new : List Section) → ChangesOne (TakesAddition addition) authority old new → RisesBy (λ section. section.authority) old → RisesBy (λ section. section.authority) new
changes_rise addition authority old new c r =
    let key : Section → List ℕ = λ section. section.authority in
    subst (RisesBy key) (sym c.after)
    (rises_changed key c.front c.from c.to c.back (sym (takes_authority addition c.from c.to c.changed)) (subst (RisesBy key) c.before r))

changes_none : (authority : List ℕ) (old new : List Section) → ChangesOne (λ from to. to ≡ from) authority old new → new ≡ old
changes_none authority old new c = c.after ∙ ap (λ x. c.front ++ x ∷ c.back) c.changed ∙ sym c.before

-- ---- held sections by the bytes of their authorities

abbrev pub Named : Type 0 → Type 0
Named S = List (List ℕ × AuthorityEntries S)

abbrev pub Mapped : Type 0 → Type 0
Mapped S = List (Vec ℕ × AuthorityEntries S)

abbrev pub by_bytes : Vec ℕ → Vec ℕ → Ordering
by_bytes x y = bytes_cmp x.items y.items

abbrev pub at_name : List ℕ → Vec ℕ → Ordering
at_name bytes name = bytes_cmp bytes name.items

module _ {S : Type 0} where
  above_sorted : (bytes : List ℕ) (es : Mapped S) → AllByRecursion (λ y. bytes_cmp bytes y.items ≡ Less) (map (λ e. e.0) es) → AllAbove name_of bytes (named_sections es)
  above_sorted bytes [] h = tt
  above_sorted bytes (e ∷ es) h = (h.0, above_sorted bytes es h.1)

  pub sorted_rises : (es : Mapped S) → IsStrictlySortedBy by_bytes (map (λ e. e.0) es) → RisesBy name_of (named_sections es)
  unfolding IsStrictlySortedBy
  sorted_rises [] h = tt
  sorted_rises (e ∷ es) h = (above_sorted e.0.items es h.0, sorted_rises es h.1)

  named_insert : (es : Mapped S) (k : Vec ℕ) (v : AuthorityEntries S) → named_sections (insert_entry by_bytes es k v) ≡ insert_entry bytes_cmp (named_sections es) k.items v
  named_insert [] k v = refl
  named_insert (e ∷ es) k v = by (bytes_cmp k.items e.0.items) (named_insert es k v)
    where
      by : (o : Ordering) → named_sections (insert_entry by_bytes es k v) ≡ insert_entry bytes_cmp (named_sections es) k.items v
          → named_sections (match_ordering o ((k, v) ∷ e ∷ es) ((e.0, v) ∷ es) (e ∷ insert_entry by_bytes es k v))
          ≡ match_ordering o ((k.items, v) ∷ (e.0.items, e.1) ∷ named_sections es) ((e.0.items, v) ∷ named_sections es) ((e.0.items, e.1) ∷ insert_entry bytes_cmp (named_sections es) k.items v)
      by Less h = refl
      by Equal h = refl
      by Greater h = ap (λ l. (e.0.items, e.1) ∷ l) h

  pub named_lookup : (bytes : List ℕ) (es : Mapped S) → lookup (is_at (at_name bytes)) es ≡ lookup (is_at (bytes_cmp bytes)) (named_sections es)
  named_lookup bytes [] = refl
  named_lookup bytes (e ∷ es) = ap (λ o. cond (is_at (bytes_cmp bytes) e.0.items) (Some e.1) o) (named_lookup bytes es)

  pub named_set : (bytes : List ℕ) (es : Mapped S) (v : AuthorityEntries S) → named_sections (set_value (is_at (at_name bytes)) es v) ≡ set_value (is_at (bytes_cmp bytes)) (named_sections es) v
  named_set bytes [] v = refl
  named_set bytes (e ∷ es) v = by (bytes_cmp bytes e.0.items) (named_set bytes es v)
    where
      by : (o : Ordering) → named_sections (set_value (is_at (at_name bytes)) es v) ≡ set_value (is_at (bytes_cmp bytes)) (named_sections es) v
          → named_sections (cond (is_eq o) ((e.0, v) ∷ es) (e ∷ set_value (is_at (at_name bytes)) es v))
          ≡ cond (is_eq o) ((e.0.items, v) ∷ named_sections es) ((e.0.items, e.1) ∷ set_value (is_at (bytes_cmp bytes)) (named_sections es) v)
      by Less h = ap (λ l. (e.0.items, e.1) ∷ l) h
      by Equal h = refl
      by Greater h = ap (λ l. (e.0.items, e.1) ∷ l) h

  -- ---- the result of a search, and a value that is written there

  record Swaps (k : List ℕ) (was value : AuthorityEntries S) (old new : Named S) : Type 0 where
    front : Named S
    back : Named S
    before : old ≡ front ++ (k, was) ∷ back
    after : new ≡ front ++ (k, value) ∷ back

  set_swaps : (k : List ℕ) (v w : AuthorityEntries S) (es : Named S) → lookup (is_at (bytes_cmp k)) es ≡ Some v → Swaps k v w es (set_value (is_at (bytes_cmp k)) es w)
  set_swaps k v w [] h = absurd (cc h)
  set_swaps k v w (e ∷ es) h = by (bytes_cmp k e.0) refl h (set_swaps k v w es)
    where
      later : Swaps k v w es (set_value (is_at (bytes_cmp k)) es w) → Swaps k v w (e ∷ es) (e ∷ set_value (is_at (bytes_cmp k)) es w)
      later s = record { front = e ∷ s.front; back = s.back; before = ap (λ l. e ∷ l) s.before; after = ap (λ l. e ∷ l) s.after }

      by : (o : Ordering) → bytes_cmp k e.0 ≡ o → cond (is_eq o) (Some e.1) (lookup (is_at (bytes_cmp k)) es) ≡ Some v
          → (lookup (is_at (bytes_cmp k)) es ≡ Some v → Swaps k v w es (set_value (is_at (bytes_cmp k)) es w))
          → Swaps k v w (e ∷ es) (cond (is_eq o) ((e.0, w) ∷ es) (e ∷ set_value (is_at (bytes_cmp k)) es w))
      by Less c f h = later (h f)
      by Equal c f h =
          let value : e.1 ≡ v = cc f in
          let name : e.0 ≡ k = sym (exact_bytes k e.0 c) in
          record { front = []; back = es; before = ap (λ n. (n, e.1) ∷ es) name ∙ ap (λ x. (k, x) ∷ es) value; after = ap (λ n. (n, w) ∷ es) name }
      by Greater c f h = later (h f)

  pub none_found : (k : List ℕ) (es : Named S) → lookup (is_at (bytes_cmp k)) es ≡ None → AllByRecursion (λ e. e.0 ≡ k → ⊥) es
  none_found k [] h = tt
  none_found k (e ∷ es) h = by (bytes_cmp k e.0) refl h (none_found k es)
    where
      by : (o : Ordering) → bytes_cmp k e.0 ≡ o → cond (is_eq o) (Some e.1) (lookup (is_at (bytes_cmp k)) es) ≡ None
          → (lookup (is_at (bytes_cmp k)) es ≡ None → AllByRecursion (λ e. e.0 ≡ k → ⊥) es)
          → (e.0 ≡ k → ⊥) × AllByRecursion (λ e. e.0 ≡ k → ⊥) es
      by Less c f h = (λ same. (let e : Less ≡ Equal = sym c ∙ tied k e.0 same in cc), h f)
      by Equal c f h = absurd (cc f)
      by Greater c f h = (λ same. (let e : Greater ≡ Equal = sym c ∙ tied k e.0 same in cc), h f)

  -- one entry more
  record Splits (k : List ℕ) (v : AuthorityEntries S) (old new : Named S) : Type 0 where
    front : Named S
    back : Named S
    before : old ≡ front ++ back
    after : new ≡ front ++ (k, v) ∷ back

  splits : (k : List ℕ) (v : AuthorityEntries S) (es : Named S) → AllByRecursion (λ e. e.0 ≡ k → ⊥) es → Splits k v es (insert_entry bytes_cmp es k v)
  splits k v [] none = record { front = []; back = []; before = refl; after = refl }
  splits k v (e ∷ es) none = by (bytes_cmp k e.0) refl (splits k v es none.1)
    where
      by : (o : Ordering) → bytes_cmp k e.0 ≡ o → Splits k v es (insert_entry bytes_cmp es k v)
          → Splits k v (e ∷ es) (match_ordering o ((k, v) ∷ e ∷ es) ((e.0, v) ∷ es) (e ∷ insert_entry bytes_cmp es k v))
      by Less c s = record { front = []; back = e ∷ es; before = refl; after = refl }
      by Equal c s = absurd (none.0 (sym (exact_bytes k e.0 c)))
      by Greater c s = record { front = e ∷ s.front; back = s.back; before = ap (λ l. e ∷ l) s.before; after = ap (λ l. e ∷ l) s.after }

  -- ---- the sections of all authorities

  module _ (spans : S → List Span) where
    none_named : (k : List ℕ) (es : Named S) → AllByRecursion (λ e. e.0 ≡ k → ⊥) es → SomeSection (λ section. section.authority ≡ k) (sections_of spans es) → ⊥
    none_named k [] none h = absurd h
    none_named k (e ∷ es) none h = elim h [ inl here ↦ none.0 here | inr later ↦ none_named k es none.1 later ]

    parted : (front : Named S) (e : List ℕ × AuthorityEntries S) (back : Named S) → sections_of spans (front ++ e ∷ back) ≡ sections_of spans front ++ section_of spans e ∷ sections_of spans back
    parted front e back = map-append (section_of spans) front (e ∷ back)

    section_stands : (k : List ℕ) (v w : AuthorityEntries S) (es new : Named S) → RisesBy name_of es → Swaps k v w es new → Stands (λ section. section.authority) (sections_of spans es) (section_of spans (k, v))
    section_stands k v w es new r s =
        let key : Section → List ℕ = λ section. section.authority in
        let rises = subst (RisesBy name_of) s.before r in
        record {
          front = sections_of spans s.front;
          back = sections_of spans s.back;
          parts = ap (sections_of spans) s.before ∙ parted s.front (k, v) s.back;
          below = below_map key (section_of spans) k s.front (front_below name_of s.front (k, v) s.back rises);
          above = above_map key (section_of spans) k s.back (back_above name_of s.front (k, v) s.back rises);
        }

    pub found : (r : Option (Bor (AuthorityEntries S))) (k : List ℕ) (es : Mapped S) → RisesBy name_of (named_sections es) → option_copied r ≡ lookup (is_at (at_name k)) es
        → MatchOption r (¬ SomeSection (λ section. section.authority ≡ k) (sections_of spans (named_sections es)))
        (λ section. Stands (λ section. section.authority) (sections_of spans (named_sections es)) (section_of spans (k, section.now)))
    found None k es r is = none_named k (named_sections es) (none_found k (named_sections es) (sym (is ∙ named_lookup k es)))
    found (Some section) k es r is =
        section_stands k section.now section.now (named_sections es) _ r (set_swaps k section.now section.now (named_sections es) (sym (is ∙ named_lookup k es)))

    -- replacing a held section of an authority replaces a section
    changes_one : (Change : Section → Section → Type 0) (k : List ℕ) (from to : AuthorityEntries S) (old new : Mapped S) → lookup (is_at (at_name k)) old ≡ Some from → new ≡ set_value (is_at (at_name k)) old to
        → Change (section_of spans (k, from)) (section_of spans (k, to)) → ChangesOne Change k (sections_of spans (named_sections old)) (sections_of spans (named_sections new))
    changes_one Change k from to old new was is changed =
        let s = set_swaps k from to (named_sections old) (sym (named_lookup k old) ∙ was) in
        record {
          front = sections_of spans s.front;
          back = sections_of spans s.back;
          from = section_of spans (k, from);
          to = section_of spans (k, to);
          before = ap (sections_of spans) s.before ∙ parted s.front (k, from) s.back;
          after = ap (sections_of spans) (ap named_sections is ∙ named_set k old to ∙ s.after) ∙ parted s.front (k, to) s.back;
          under = refl;
          changed = changed;
        }

    -- the section takes the addition, or the addition is refused and the section stays the same
    pub adds : (addition : Addition) (k : List ℕ) (result : Result (Unit {0}) AllocError) (from to : AuthorityEntries S) (old new : Mapped S) → lookup (is_at (at_name k)) old ≡ Some from → new ≡ set_value (is_at (at_name k)) old to
        → MatchResult result (λ _. TakesAddition addition (section_of spans (k, from)) (section_of spans (k, to))) (λ _. section_of spans (k, to) ≡ section_of spans (k, from))
        → OnOk result (AddsTo addition k (sections_of spans (named_sections old)) (sections_of spans (named_sections new))) × OnErr result (sections_of spans (named_sections new) ≡ sections_of spans (named_sections old))
    adds addition k (Ok done) from to old new was is changed = (inl (changes_one (TakesAddition addition) k from to old new was is changed), tt)
    adds addition k (Err fault) from to old new was is same =
        (tt, changes_none k (sections_of spans (named_sections old)) (sections_of spans (named_sections new)) (changes_one (λ from to. to ≡ from) k from to old new was is same))

    -- a new section
    pub starts : (addition : Addition) (k : Vec ℕ) (section : AuthorityEntries S) (old new : Mapped S) → lookup (is_at (at_name k.items)) old ≡ None → new ≡ insert_entry by_bytes old k section → RisesBy name_of (named_sections new)
        → TakesAddition addition (empty_section k.items) (section_of spans (k.items, section)) → AddsTo addition k.items (sections_of spans (named_sections old)) (sections_of spans (named_sections new))
    starts addition k section old new none is r takes =
        let s = splits k.items section (named_sections old) (none_found k.items (named_sections old) (sym (named_lookup k.items old) ∙ none)) in
        let after = ap named_sections is ∙ named_insert old k section ∙ s.after in
        let rises = subst (RisesBy name_of) after r in
        inr (record {
          section = section_of spans (k.items, section);
          takes = takes;
          put = inserts_map (λ section. section.authority) (section_of spans) (named_sections old) (k.items, section) (named_sections new) (record {
            front = s.front;
            back = s.back;
            before = s.before;
            after = after;
            below = front_below name_of s.front (k.items, section) s.back rises;
            above = back_above name_of s.front (k.items, section) s.back rises;
          });
        })
