-- Sections that are kept apart.
use Rattle.krl_entries.proofs.Common.{[], ◌++◌, ◌∙◌, ◌∷◌, ◌≡◌, ◌⊎◌, Addition, All, AllByRecursion}
use Rattle.krl_entries.proofs.Common.{AllocError, ap, apart_of, bytes_cmp, cond, empty_section}
use Rattle.krl_entries.proofs.Common.{Equal, Err, exact_bytes, false, Greater, HasPlace, IfOk, inl}
use Rattle.krl_entries.proofs.Common.{inr, is_at, is_eq, IsOrderlySection, IsOneChange, IsOrderly, IsTaken}
use Rattle.krl_entries.proofs.Common.{Less, List, MatchResult, named_sections, None, Ok, OnErr}
use Rattle.krl_entries.proofs.Common.{Option, Ordering, refl, Result, revocations_of, RisesBy}
use Rattle.krl_entries.proofs.Common.{Section, section_of, sections_of, Some, SomeSection, Span}
use Rattle.krl_entries.proofs.Common.{subst, sym, TakesOut, with_section, ℕ}
use Rattle.std.specs.Map.{lookup, set_value}
use Rattle.krl_entries.specs.declared.authority_entries.Apart.{Apart}
use Rattle.krl_entries.specs.declared.authority_entries.AuthorityEntries.{AuthorityEntries}
use Rattle.krl_entries.proofs.AddedSections.{InOrder, all_middle}
use Rattle.krl_entries.proofs.Additions.{adds_orderly, orderly_with, takes_listed}
use Rattle.krl_entries.proofs.SectionChanges.{Mapped, Named, at_name, named_lookup, named_set}
use Rattle.krl_entries.proofs.SectionChanges.{none_found, takes_authority}
use Rattle.krl_entries.proofs.RisingLists.{rises_changed, tied}
use Rattle.krl_entries.proofs.SomeSections.{some_middle}

-- ---- sections that replace others

-- the place of an authority among some sections
pub record Place (a : List ℕ) (sections : List Section) : Type 0 where
  pub front : List Section
  pub back : List Section
  pub from : Section
  pub under : from.authority ≡ a
  pub before : sections ≡ front ++ from ∷ back
  pub with_other : (section : Section) → section.authority ≡ a → with_section section sections ≡ front ++ section ∷ back

module _ (a : List ℕ) (x : Section) (xs : List Section) where
  place_here : bytes_cmp a x.authority ≡ Equal → Place a (x ∷ xs)
  place_here e = record {
    front = [];
    back = xs;
    from = x;
    under = sym (exact_bytes a x.authority e);
    before = refl;
    with_other = λ section is.
        ap (λ o. cond (is_eq o) (section ∷ xs) (x ∷ with_section section xs)) (subst (λ b. bytes_cmp b x.authority ≡ Equal) (sym is) e);
  }

  place_later : (o : Ordering) → bytes_cmp a x.authority ≡ o → is_eq o ≡ false → Place a xs → Place a (x ∷ xs)
  place_later o e off p = record {
    front = x ∷ p.front;
    back = p.back;
    from = p.from;
    under = p.under;
    before = ap (λ l. x ∷ l) p.before;
    with_other = λ section is.
        ap (λ t. cond t (section ∷ xs) (x ∷ with_section section xs)) (ap is_eq (subst (λ b. bytes_cmp b x.authority ≡ o) (sym is) e) ∙ off)
        ∙ ap (λ l. x ∷ l) (p.with_other section is);
  }

pub place_of : (a : List ℕ) (sections : List Section) → SomeSection (λ section. section.authority ≡ a) sections → Place a sections
place_of a [] h = absurd h
place_of a (x ∷ xs) h = by (bytes_cmp a x.authority) refl h (place_of a xs)
  where
    by : (o : Ordering) → bytes_cmp a x.authority ≡ o → ((x.authority ≡ a) ⊎ SomeSection (λ section. section.authority ≡ a) xs)
        → (SomeSection (λ section. section.authority ≡ a) xs → Place a xs) → Place a (x ∷ xs)
    by Equal e f on = place_here a x xs e
    by Less e (inl here) on = absurd (let c : Less ≡ Equal = sym e ∙ tied a x.authority here in cc)
    by Less e (inr later) on = place_later a x xs Less e refl (on later)
    by Greater e (inl here) on = absurd (let c : Greater ≡ Equal = sym e ∙ tied a x.authority here in cc)
    by Greater e (inr later) on = place_later a x xs Greater e refl (on later)

-- ---- values that are written into a map

module _ {S : Type 0} (spans : S → List Span) where
  -- replacing a value replaces a section
  pub set_is_with : (k : List ℕ) (v : AuthorityEntries S) (es : Named S) → sections_of spans (set_value (is_at (bytes_cmp k)) es v) ≡ with_section (section_of spans (k, v)) (sections_of spans es)
  set_is_with k v [] = refl
  set_is_with k v (e ∷ es) = by (bytes_cmp k e.0) refl (set_is_with k v es)
    where
      by : (o : Ordering) → bytes_cmp k e.0 ≡ o → sections_of spans (set_value (is_at (bytes_cmp k)) es v) ≡ with_section (section_of spans (k, v)) (sections_of spans es)
          → sections_of spans (cond (is_eq o) ((e.0, v) ∷ es) (e ∷ set_value (is_at (bytes_cmp k)) es v))
          ≡ cond (is_eq o) (section_of spans (k, v) ∷ sections_of spans es) (section_of spans e ∷ with_section (section_of spans (k, v)) (sections_of spans es))
      by Equal c h = ap (λ n. section_of spans (n, v) ∷ sections_of spans es) (sym (exact_bytes k e.0 c))
      by Less c h = ap (λ l. section_of spans e ∷ l) h
      by Greater c h = ap (λ l. section_of spans e ∷ l) h

  with_absent : (k : List ℕ) (v : AuthorityEntries S) (es : Named S) → AllByRecursion (λ e. e.0 ≡ k → ⊥) es → sections_of spans es ≡ with_section (section_of spans (k, v)) (sections_of spans es)
  with_absent k v [] none = refl
  with_absent k v (e ∷ es) none = by (bytes_cmp k e.0) refl (with_absent k v es none.1)
    where
      by : (o : Ordering) → bytes_cmp k e.0 ≡ o → sections_of spans es ≡ with_section (section_of spans (k, v)) (sections_of spans es)
          → section_of spans e ∷ sections_of spans es
          ≡ cond (is_eq o) (section_of spans (k, v) ∷ sections_of spans es) (section_of spans e ∷ with_section (section_of spans (k, v)) (sections_of spans es))
      by Equal c h = absurd (none.0 (sym (exact_bytes k e.0 c)))
      by Less c h = ap (λ l. section_of spans e ∷ l) h
      by Greater c h = ap (λ l. section_of spans e ∷ l) h

  pub puts_back : (k : List ℕ) (v : AuthorityEntries S) (old new : Mapped S) → new ≡ set_value (is_at (at_name k)) old v
      → sections_of spans (named_sections new) ≡ with_section (section_of spans (k, v)) (sections_of spans (named_sections old))
  puts_back k v old new is = ap (λ l. sections_of spans (named_sections l)) is ∙ ap (sections_of spans) (named_set k old v) ∙ set_is_with k v (named_sections old)

  pub puts_nowhere : (k : List ℕ) (v : AuthorityEntries S) (old : Mapped S) → lookup (is_at (at_name k)) old ≡ None
      → sections_of spans (named_sections old) ≡ with_section (section_of spans (k, v)) (sections_of spans (named_sections old))
  puts_nowhere k v old none = with_absent k v (named_sections old) (none_found k (named_sections old) (sym (named_lookup k old) ∙ none))

  -- a value is replaced at its place, and another section can replace it there
  record Sets (k : List ℕ) (was value : AuthorityEntries S) (old new : Named S) : Type 0 where
    front : List Section
    back : List Section
    before : sections_of spans old ≡ front ++ section_of spans (k, was) ∷ back
    after : sections_of spans new ≡ front ++ section_of spans (k, value) ∷ back
    with_other : (section : Section) → section.authority ≡ k → with_section section (sections_of spans new) ≡ front ++ section ∷ back

  sets : (k : List ℕ) (v w : AuthorityEntries S) (es : Named S) → lookup (is_at (bytes_cmp k)) es ≡ Some v → Sets k v w es (set_value (is_at (bytes_cmp k)) es w)
  sets k v w [] h = absurd (cc h)
  sets k v w (e ∷ es) h = by (bytes_cmp k e.0) refl h (sets k v w es)
    where
      later : (o : Ordering) → bytes_cmp k e.0 ≡ o → is_eq o ≡ false → Sets k v w es (set_value (is_at (bytes_cmp k)) es w) → Sets k v w (e ∷ es) (e ∷ set_value (is_at (bytes_cmp k)) es w)
      later o c off s = record {
        front = section_of spans e ∷ s.front;
        back = s.back;
        before = ap (λ l. section_of spans e ∷ l) s.before;
        after = ap (λ l. section_of spans e ∷ l) s.after;
        with_other = λ section is.
            let rest = sections_of spans (set_value (is_at (bytes_cmp k)) es w) in
            ap (λ t. cond t (section ∷ rest) (section_of spans e ∷ with_section section rest)) (ap is_eq (subst (λ b. bytes_cmp b e.0 ≡ o) (sym is) c) ∙ off)
            ∙ ap (λ l. section_of spans e ∷ l) (s.with_other section is);
      }

      by : (o : Ordering) → bytes_cmp k e.0 ≡ o → cond (is_eq o) (Some e.1) (lookup (is_at (bytes_cmp k)) es) ≡ Some v
          → (lookup (is_at (bytes_cmp k)) es ≡ Some v → Sets k v w es (set_value (is_at (bytes_cmp k)) es w))
          → Sets k v w (e ∷ es) (cond (is_eq o) ((e.0, w) ∷ es) (e ∷ set_value (is_at (bytes_cmp k)) es w))
      by Less c f h = later Less c refl (h f)
      by Equal c f h =
          let value : e.1 ≡ v = cc f in
          let name : e.0 ≡ k = sym (exact_bytes k e.0 c) in
          record {
            front = [];
            back = sections_of spans es;
            before = ap (λ n. section_of spans (n, e.1) ∷ sections_of spans es) name ∙ ap (λ x. section_of spans (k, x) ∷ sections_of spans es) value;
            after = ap (λ n. section_of spans (n, w) ∷ sections_of spans es) name;
            with_other = λ section is.
                let rest = sections_of spans es in
                ap (λ o. cond (is_eq o) (section ∷ rest) (section_of spans (e.0, w) ∷ with_section section rest)) (subst (λ b. bytes_cmp b e.0 ≡ Equal) (sym is) c);
          }
      by Greater c f h = later Greater c refl (h f)

  -- the section takes the addition and is taken out, or the addition is refused
  pub takes : (addition : Addition) (k : List ℕ) (result : Result (Option (Apart S)) AllocError) (from to : AuthorityEntries S) (old new : Mapped S) → lookup (is_at (at_name k)) old ≡ Some from → new ≡ set_value (is_at (at_name k)) old to
      → MatchResult result (λ apart. IsTaken addition (section_of spans (k, from)) (apart_of spans apart) (section_of spans (k, to))) (λ _. section_of spans (k, to) ≡ section_of spans (k, from))
      → IfOk result (λ apart. TakesOut addition k (sections_of spans (named_sections old)) (apart_of spans apart) (sections_of spans (named_sections new)))
      × OnErr result (sections_of spans (named_sections new) ≡ sections_of spans (named_sections old))
  takes addition k (Ok None) from to old new was is taken = absurd taken
  takes addition k (Ok (Some apart)) from to old new was is taken =
      let s = sets k from to (named_sections old) (sym (named_lookup k old) ∙ was) in
      let here : named_sections new ≡ set_value (is_at (bytes_cmp k)) (named_sections old) to = ap named_sections is ∙ named_set k old to in
      let name : apart.name.items ≡ k = takes_authority addition (section_of spans (k, from)) (section_of spans (apart.name.items, apart.section)) taken.0 in (
        record {
          front = s.front;
          back = s.back;
          from = section_of spans (k, from);
          left = section_of spans (k, to);
          before = s.before;
          after = ap (sections_of spans) here ∙ s.after;
          with_taken = ap (λ l. with_section (section_of spans (apart.name.items, apart.section)) (sections_of spans l)) here ∙ s.with_other (section_of spans (apart.name.items, apart.section)) name;
          under = refl;
          takes = taken.0;
          stands_in = taken.1;
        },
        tt,
      )
  takes addition k (Err fault) from to old new was is same =
      let s = sets k from to (named_sections old) (sym (named_lookup k old) ∙ was) in
      (tt, ap (sections_of spans) (ap named_sections is ∙ named_set k old to) ∙ s.after ∙ ap (λ x. s.front ++ x ∷ s.back) same ∙ sym s.before)

-- ---- order

pub in_order : (section : Section) → IsOrderlySection section → InOrder section
in_order section h = record { runs = h.runs; serials = h.serials; ids_rise = h.ids_rise }

nothing_listed : (a : List ℕ) → InOrder (empty_section a)
nothing_listed a = record { runs = tt; serials = λ s n. absurd n; ids_rise = tt }

-- revocations stay in order if a listed section replaces another
pub changed_orderly : (front back : List Section) (from to : Section) (old new : List Section) (keys sha1s sha256s : List (List ℕ)) → old ≡ front ++ from ∷ back → new ≡ front ++ to ∷ back → from.authority ≡ to.authority → IsOrderlySection to
    → IsOrderly (revocations_of old keys sha1s sha256s) → IsOrderly (revocations_of new keys sha1s sha256s)
changed_orderly front back from to old new keys sha1s sha256s before after same listed o =
    let key : Section → List ℕ = λ section. section.authority in
    let others = (all_middle IsOrderlySection front from back).0 (subst (All IsOrderlySection) before o.listed) in
    orderly_with old new keys sha1s sha256s
    (subst (RisesBy key) (sym after) (rises_changed key front from to back same (subst (RisesBy key) before o.authorities_rise)))
    (subst (All IsOrderlySection) (sym after) ((all_middle IsOrderlySection front to back).1 (listed, others.1))) o

-- the sections are in order after one is taken out, and after that is refused
pub left_orderly : {S : Type 0} (spans : S → List Span) (addition : Addition) (a : List ℕ) (result : Result (Option (Apart S)) AllocError) (old new : List Section) (keys sha1s sha256s : List (List ℕ)) → IsOneChange addition
    → IfOk result (λ apart. TakesOut addition a old (apart_of spans apart) new) → OnErr result (new ≡ old) → IsOrderly (revocations_of old keys sha1s sha256s) → IsOrderly (revocations_of new keys sha1s sha256s)
left_orderly spans addition a (Ok None) old new keys sha1s sha256s one ok err o = adds_orderly addition a old new keys sha1s sha256s one ok o
left_orderly spans addition a (Ok (Some apart)) old new keys sha1s sha256s one ok err o =
    changed_orderly ok.front ok.back ok.from ok.left old new keys sha1s sha256s ok.before ok.after
    (ok.under ∙ sym (takes_authority addition (empty_section a) ok.left ok.stands_in)) (takes_listed addition (empty_section a) ok.left one (nothing_listed a) ok.stands_in) o
left_orderly spans addition a (Err fault) old new keys sha1s sha256s one ok err o = subst (λ l. IsOrderly (revocations_of l keys sha1s sha256s)) (sym err) o

-- ---- the section that was taken out

pub takes_out_place : (addition : Addition) (a : List ℕ) (old : List Section) (apart : Option Section) (rest : List Section) (keys sha1s sha256s : List (List ℕ)) → IsOneChange addition → All IsOrderlySection old → TakesOut addition a old apart rest
    → HasPlace apart (revocations_of rest keys sha1s sha256s)
takes_out_place addition a old None rest keys sha1s sha256s one listed t = tt
takes_out_place addition a old (Some section) rest keys sha1s sha256s one listed t =
    let P : Section → Type 0 = λ other. other.authority ≡ section.authority in
    let name : section.authority ≡ a = takes_authority addition t.from section t.takes ∙ t.under in
    let left : t.left.authority ≡ section.authority = takes_authority addition (empty_section a) t.left t.stands_in ∙ sym name in
    let was = (all_middle IsOrderlySection t.front t.from t.back).0 (subst (All IsOrderlySection) t.before listed) in (
      subst (SomeSection P) (sym t.after) ((some_middle P t.front t.left t.back).1 (inl left)),
      takes_listed addition t.from section one (in_order t.from was.0) t.takes,
    )
