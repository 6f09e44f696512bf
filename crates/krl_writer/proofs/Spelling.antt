-- The text of a written list is spelled as one.
use Rattle.krl_writer.proofs.Common.{[], ◌*◌, ◌++◌, ◌+◌, ◌-◌, ◌/◌, ◌<◌, ◌^◌, ◌↔◌, ◌∙◌, ◌∷◌, ◌≡◌}
use Rattle.krl_writer.proofs.Common.{◌≤◌, All-contains_itself, All-weaker, Allows, ap, append-nil}
use Rattle.krl_writer.proofs.Common.{append_assoc, arith, bitmap_of, bitmap_size, bits_of, Contains}
use Rattle.krl_writer.proofs.Common.{contains_append, contains_cons, contains_none, content_few}
use Rattle.krl_writer.proofs.Common.{content_of, drop, first_of, Group, group_subsection}
use Rattle.krl_writer.proofs.Common.{group_text, iff_or, inl, inr, IsGroup, IsPlan, IsNotNegative}
use Rattle.krl_writer.proofs.Common.{length, length-string, List, listed_as, listed_text}
use Rattle.krl_writer.proofs.Common.{plan_subsections, plan_text, reach, recursion_from_All, refl}
use Rattle.krl_writer.proofs.Common.{serials_from, serials_of, SpellsBitmap, SpellsEach}
use Rattle.krl_writer.proofs.Common.{SpellsSubsection, string, strings, subst, suc, sym, take, zero}
use Rattle.krl_writer.proofs.Common.{ℕ}
use Rattle.std.specs.List.{AllByRecursion}
use Rattle.std.proofs.lemmas.Bool.{cases_lt}
use Rattle.serial_set.specs.declared.span.Span.{Span}
use Rattle.serial_set.specs.Span.{AreSerials, IsRuns, RunsFrom}
use Rattle.krl_plan.specs.declared.group.Sort.{Sort}
use Rattle.krl_plan.proofs.ChosenGroups.{IsRuns-drop, RunsFrom-take}
use Rattle.krl_plan.proofs.RunSerials.{AreSerials-drop, AreSerials-take, bits_name, last_fits}
use Rattle.krl_plan.proofs.RunSerials.{number-bitmap, top_bit_clear}
use Rattle.std.proofs.Math.Logic.Iff as Iff
use Rattle.serial_set.specs.Span.{Covers as Names}
use Rattle.krl_plan.specs.declared.group.Sort.TheVariants as sorts

-- ---- lists of serials

from_in : (first count s : ℕ) → Contains (serials_from first count) s ↔ ((first ≤ s) × (s < first + count))
from_in first zero s = (λ h. absurd (contains_none s h), λ h. absurd (omega (arith, h.0, h.1)))
from_in first (suc count) s =
    Iff.trans (contains_cons first (serials_from (first + 1) count) s) (Iff.trans (iff_or Iff.rfl (from_in (first + 1) count s)) (
      λ h. elim h [ inl here ↦ (omega (arith, here), omega (arith, here)) | inr later ↦ (omega (arith, later.0), omega (arith, later.1)) ],
      λ h. elim (cases_lt first s) [ inl above ↦ inr (omega arith, omega (arith, h.1)) | inr not_above ↦ inl (let e : first ≡ s = omega (arith, h.0) in e) ],
    ))

pub serials_name : (a : ℕ) (runs : List Span) (s : ℕ) → RunsFrom a runs → Contains (serials_of runs) s ↔ Names runs s
serials_name a [] s r = (λ h. absurd (contains_none s h), λ n. absurd n)
serials_name a (run ∷ runs) s r =
    let ordered : run.lo ≤ run.hi = r.1 in
    let in_run : ((run.lo ≤ s) × (s < run.lo + (run.hi + 1 - run.lo))) ↔ ((run.lo ≤ s) × (s ≤ run.hi)) = (λ h. (h.0, omega (arith, h.1)), λ h. (h.0, omega (arith, h.1))) in
    Iff.trans (contains_append (serials_from run.lo (run.hi + 1 - run.lo)) (serials_of runs) s)
    (iff_or (Iff.trans (from_in run.lo (run.hi + 1 - run.lo) s) in_run) (serials_name (run.hi + 2) runs s r.2))

all_serials : (runs : List Span) → IsRuns runs → AreSerials runs → AllByRecursion (λ n. n < 2 ^ 64) (serials_of runs)
all_serials runs r h =
    let all : List ℕ = serials_of runs in
    recursion_from_All (λ (n : ℕ). n < 2 ^ 64) all (All-weaker (Contains all) (λ (n : ℕ). n < 2 ^ 64) (λ n found. (h n ((serials_name 0 runs n r).0 found)).1) all (All-contains_itself all))

-- ---- a group

positive : (runs : List Span) (first size : ℕ) → bits_of runs (first + 8 * size) 8 < 128 → IsNotNegative (bitmap_of runs first (suc size))
positive runs first size lt = lt

bitmap_spelled : (runs : List Span) → IsRuns runs → AreSerials runs → SpellsBitmap (content_of sorts.Bitmap runs) (first_of runs) (bits_of runs (first_of runs) (8 * bitmap_size runs))
bitmap_spelled runs r h =
    let top : ℕ = (reach runs + 1) / 8 in
    let size : bitmap_size runs ≡ suc top = omega arith in
    let fits = last_fits runs r h in
    record {
      bytes = bitmap_of runs (first_of runs) (bitmap_size runs);
      spelled = refl;
      positive = subst (λ (n : ℕ). IsNotNegative (bitmap_of runs (first_of runs) n)) (sym size) (positive runs (first_of runs) top (top_bit_clear runs top r (omega arith)));
      value_is = sym (number-bitmap runs (first_of runs) (bitmap_size runs));
      offset_fits = omega arith;
      within = λ bit e. (h (first_of runs + bit) ((bits_name runs (first_of runs) (8 * bitmap_size runs) bit).0 e).1).1;
    }

pub group_spelled : (sort : Sort) (runs : List Span) → IsRuns runs → AreSerials runs → Allows sort runs → SpellsSubsection (group_text sort runs) (group_subsection sort runs)
group_spelled sorts.Serials runs r h c = record { content = content_of sorts.Serials runs; spelled = refl; fits = content_few sorts.Serials runs c; content_is = (refl, all_serials runs r h) }
group_spelled sorts.Range runs r h c =
    record { content = content_of sorts.Range runs; spelled = refl; fits = content_few sorts.Range runs c; content_is = (refl, omega arith, last_fits runs r h) }
group_spelled sorts.Bitmap runs r h c = record { content = content_of sorts.Bitmap runs; spelled = refl; fits = content_few sorts.Bitmap runs c; content_is = bitmap_spelled runs r h }

-- ---- one item after another

pub each_append : {X : Type 0} (Spelling : List ℕ → X → Type 0) (a b : List ℕ) (xs ys : List X) → SpellsEach Spelling a xs → SpellsEach Spelling b ys → SpellsEach Spelling (a ++ b) (xs ++ ys)
each_append Spelling a b [] ys p q = subst (λ (t : List ℕ). SpellsEach Spelling (t ++ b) ys) (sym p) q
each_append Spelling a b (x ∷ xs) ys p q =
    let first = p.0 in
    let rest = p.1.0 in
    let same : a ++ b ≡ first ++ (rest ++ b) = ap (λ (t : List ℕ). t ++ b) p.1.1.0 ∙ append_assoc first rest b in
    (first, (rest ++ b, (same, p.1.1.1, each_append Spelling rest b xs ys p.1.1.2 q)))

-- the item of texts, if there are any
pub listed_spelled : {X : Type 0} (Spelling : List ℕ → X → Type 0) (kind : ℕ) (item : List (List ℕ) → X) (texts : List (List ℕ)) → (length (strings texts) < 2 ^ 32 → Spelling (kind ∷ string (strings texts)) (item texts))
    → length (listed_text kind texts) < 2 ^ 32 → SpellsEach Spelling (listed_text kind texts) (listed_as item texts)
listed_spelled Spelling kind item [] spelled lt = refl
listed_spelled Spelling kind item (text ∷ texts) spelled lt =
    let whole : List ℕ = listed_text kind (text ∷ texts) in
    (whole, ([], (sym (append-nil whole), spelled (omega (arith, length-string (strings (text ∷ texts)))), refl)))

-- the subsections of a plan
pub plan_spelled : (runs : List Span) (plan : List Group) → IsRuns runs → AreSerials runs → IsPlan runs plan → SpellsEach SpellsSubsection (plan_text runs plan) (plan_subsections runs plan)
plan_spelled runs [] r h p = refl
plan_spelled runs (group ∷ groups) r h p =
    let front : List Span = take group.count runs in
    let back : List Span = drop group.count runs in (
      group_text group.sort front,
      (
        plan_text back groups,
        (
          refl,
          group_spelled group.sort front (RunsFrom-take 0 group.count runs r) (AreSerials-take group.count runs h) (IsGroup.allowed (p.0)),
          plan_spelled back groups (IsRuns-drop 0 group.count runs r) (AreSerials-drop group.count runs h) p.1,
        ),
      ),
    )
