-- Additions keep sections in order and mean one entry more.
use Rattle.krl_entries.proofs.Common.{[], ◌++◌, ◌+◌, ◌<◌, ◌↔◌, ◌∷◌, ◌≡◌, ◌≤◌, ◌⊎◌, Addition, AddsTo}
use Rattle.krl_entries.proofs.Common.{All, All-cons, All-head, All-tail, ap, AreSerials, arith}
use Rattle.krl_entries.proofs.Common.{Contains, Covers, empty_section, inl, inr, IsOrderlySection, IsRuns}
use Rattle.krl_entries.proofs.Common.{length, List, Puts, refl, Rises, RisesBy, Section, size_of}
use Rattle.krl_entries.proofs.Common.{Span, subst, sum_by-append, sum_by-cons, sym, TakesAddition}
use Rattle.krl_entries.proofs.Common.{TakesId, TakesSerials, ℕ}
use Rattle.serial_set.specs.BitRuns.{IsInterval}
use Rattle.krl_entries.proofs.RisingLists.{inserts_rise}
use Rattle.krl_entries.proofs.SectionChanges.{changes_rise}
use Rattle.krl_types.proofs.Equivalences.{contains_middle, iff_or, iff_swap}
use Rattle.std.proofs.Math.Logic.Iff as Iff

-- ---- inserted byte strings

pub put_rises : (old : List (List ℕ)) (text : List ℕ) (new : List (List ℕ)) → Puts old text new → Rises old → Rises new
put_rises old text new p r =
    elim p [ inl same ↦ subst Rises (sym same.0) r | inr i ↦ inserts_rise (λ bytes. bytes) old text new r i ]

pub put_held : (old : List (List ℕ)) (text : List ℕ) (new : List (List ℕ)) → Puts old text new → (t : List ℕ) → Contains new t ↔ (Contains old t ⊎ (text ≡ t))
put_held old text new (inl same) t = (
  λ h. inl (subst (λ (l : List (List ℕ)). Contains l t) same.0 h),
  λ h. subst (λ (l : List (List ℕ)). Contains l t) (sym same.0) (elim h [ inl was ↦ was | inr is ↦ subst (Contains old) is same.1 ]),
)
put_held old text new (inr i) t =
    let now = subst (λ (l : List (List ℕ)). Contains l t ↔ ((text ≡ t) ⊎ Contains (i.front ++ i.back) t)) (sym i.after) (contains_middle i.front text i.back t) in
    let was = subst (λ (l : List (List ℕ)). Contains (i.front ++ i.back) t ↔ Contains l t) (sym i.before) Iff.rfl in
    Iff.trans now (Iff.trans iff_swap (iff_or was Iff.rfl))

pub put_size : (old : List (List ℕ)) (text : List ℕ) (new : List (List ℕ)) → Puts old text new → size_of new ≤ size_of old + length text
put_size old text new p =
    let len : List ℕ → ℕ = λ bytes. length bytes in
    elim p [
      | inl same ↦ omega (arith, ap size_of same.0)
      | inr i ↦ omega (arith, ap size_of i.before, ap size_of i.after, sum_by-append len i.front (text ∷ i.back), sum_by-cons len text i.back, sum_by-append len i.front i.back)
    ]

-- ---- the order of a section

-- all facts of a listed section, except that it is not empty
pub record InOrder (section : Section) : Type 0 where
  pub runs : IsRuns section.spans
  pub serials : AreSerials section.spans
  pub ids_rise : Rises section.ids

has_span : (spans : List Span) (s : ℕ) → Covers spans s → 0 < length spans
has_span [] s n = absurd n
has_span (x ∷ xs) s n = omega arith

-- a span that is not empty has a number
some_covered : (spans : List Span) → 0 < length spans → All IsInterval spans → (s : ℕ) × Covers spans s
some_covered [] some intervals = absurd (omega arith)
some_covered (x ∷ xs) some intervals = (x.lo, inl (omega arith, (All-head IsInterval x xs intervals).1))

pub takes_serials_listed : (more : List Span) (from to : Section) → 0 < length more → All IsInterval more → InOrder from → TakesSerials more from to → IsOrderlySection to
takes_serials_listed more from to some intervals o t =
    let ids : to.ids ≡ from.ids = ap (λ (s : Section). s.ids) t.same in
    let one = some_covered more some intervals in
    record {
      runs = t.runs.0;
      serials = t.serials;
      ids_rise = subst Rises (sym ids) o.ids_rise;
      some = inl (has_span to.spans one.0 ((t.runs.1 one.0).1 (inr one.1)));
    }

pub takes_id_listed : (text : List ℕ) (from to : Section) → InOrder from → TakesId text from to → IsOrderlySection to
takes_id_listed text from to o t =
    let spans : to.spans ≡ from.spans = ap (λ (s : Section). s.spans) t.same in
    let at = (put_held from.ids text to.ids t.put text).1 (inr refl) in
    record {
      runs = subst IsRuns (sym spans) o.runs;
      serials = subst AreSerials (sym spans) o.serials;
      ids_rise = put_rises from.ids text to.ids t.put o.ids_rise;
      some = inr (omega (arith, at.1));
    }

-- all elements have a property exactly if the middle one and all others have it
pub all_middle : {X : Type 0} (P : X → Type 0) (front : List X) (x : X) (back : List X) → All P (front ++ x ∷ back) ↔ (P x × All P (front ++ back))
all_middle P [] x back = (λ h. (All-head P x back h, All-tail P x back h), λ h. All-cons P x back h.0 h.1)
all_middle P (y ∷ front) x back =
    let rest = all_middle P front x back in (
      λ h. let k = rest.0 (All-tail P y (front ++ x ∷ back) h) in (k.0, All-cons P y (front ++ back) (All-head P y (front ++ x ∷ back) h) k.1),
      λ h. All-cons P y (front ++ x ∷ back) (All-head P y (front ++ back) h.1) (rest.1 (h.0, All-tail P y (front ++ back) h.1)),
    )

pub adds_listed : (addition : Addition) (authority : List ℕ) (old new : List Section) → ((from to : Section) → InOrder from → TakesAddition addition from to → IsOrderlySection to) → AddsTo addition authority old new → All IsOrderlySection old → All IsOrderlySection new
adds_listed addition authority old new lists adds a =
    elim adds [
      | inl c ↦
          let was = (all_middle IsOrderlySection c.front c.from c.back).0 (subst (All IsOrderlySection) c.before a) in
          subst (All IsOrderlySection) (sym c.after) ((all_middle IsOrderlySection c.front c.to c.back).1 (lists c.from c.to (record { runs = was.0.runs; serials = was.0.serials; ids_rise = was.0.ids_rise }) c.changed, was.1))
      | inr n ↦
          let none : InOrder (empty_section authority) = record { runs = tt; serials = λ s n. absurd n; ids_rise = tt } in
          subst (All IsOrderlySection) (sym n.put.after) ((all_middle IsOrderlySection n.put.front n.section n.put.back).1 (lists (empty_section authority) n.section none n.takes, subst (All IsOrderlySection) n.put.before a))
    ]

pub adds_rise : (addition : Addition) (authority : List ℕ) (old new : List Section) → AddsTo addition authority old new → RisesBy (λ section. section.authority) old → RisesBy (λ section. section.authority) new
adds_rise addition authority old new adds r =
    elim adds [
      | inl c ↦ changes_rise addition authority old new c r
      | inr n ↦ inserts_rise (λ section. section.authority) old n.section new r n.put
    ]
