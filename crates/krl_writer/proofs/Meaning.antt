-- The sections of a written list name exactly the stored revocations.
use Rattle.krl_writer.proofs.Common.{[], ◌*◌, ◌+◌, ◌-◌, ◌↔◌, ◌∷◌, ◌≡◌, ◌≤◌, all_append, Allows}
use Rattle.krl_writer.proofs.Common.{arith, bitmap_size, drop, first_of, flat_map, Group}
use Rattle.krl_writer.proofs.Common.{group_subsection, iff_both, iff_none, iff_or, inl, IsGroup}
use Rattle.krl_writer.proofs.Common.{IsPlan, length, List, plan_subsections, subsection_entries}
use Rattle.krl_writer.proofs.Common.{subst, take, ℕ}
use Rattle.serial_set.specs.declared.span.Span.{Span}
use Rattle.serial_set.specs.Span.{AreSerials, IsRuns}
use Rattle.krl_plan.specs.declared.group.Sort.{Sort}
use Rattle.krl_types.specs.Naming.{SerialOf, SomeNames}
use Rattle.krl_types.proofs.SameNames.{IsSerials, some_append}
use Rattle.krl_plan.proofs.RunSerials.{AreSerials-drop, AreSerials-take, bits_name, names_parts}
use Rattle.krl_plan.proofs.RunSerials.{names_within}
use Rattle.krl_plan.proofs.ChosenGroups.{IsRuns-drop, RunsFrom-take}
use Rattle.krl_writer.proofs.Spelling.{serials_name}
use Rattle.serial_set.specs.Span.{Covers as Names}
use Rattle.krl_plan.specs.declared.group.Sort.TheVariants as sorts
use Rattle.std.proofs.Math.Logic.Iff as Iff
use Rattle.krl_types.proofs.SameNames.{AreSerials as AreSerialEntries}

-- ---- a group

group_names : (sort : Sort) (runs : List Span) (b a : List ℕ) (s : ℕ) → IsRuns runs → AreSerials runs → Allows sort runs → SomeNames (subsection_entries b (group_subsection sort runs)) (SerialOf a s) ↔ ((b ≡ a) × Names runs s)
group_names sorts.Serials runs b a s r serials c =
    Iff.trans (Iff.symm (iff_none (λ no. no))) (Iff.and Iff.rfl (λ h. (serials_name 0 runs s r).0 h.1, λ n. ((serials s n).0, (serials_name 0 runs s r).1 n)))
group_names sorts.Range [] b a s r serials c = absurd (omega arith)
group_names sorts.Range (run ∷ []) b a s r serials c =
    let ordered : run.lo ≤ run.hi = r.1 in
    Iff.trans (Iff.symm (iff_none (λ no. no))) (Iff.and Iff.rfl (
      λ h. inl (h.1.0, omega (arith, h.1.1)),
      λ n. let within = names_within (run ∷ []) s r n in ((serials s n).0, (within.0, within.1)),
    ))
group_names sorts.Range (run ∷ next ∷ runs) b a s r serials c = absurd (omega arith)
group_names sorts.Bitmap runs b a s r serials c =
    let first = first_of runs in
    Iff.trans (Iff.symm (iff_none (λ no. no))) (Iff.and Iff.rfl (
      λ h. let at : first + (s - first) ≡ s = omega (arith, h.1) in subst (λ (n : ℕ). Names runs n) at ((bits_name runs first (8 * bitmap_size runs) (s - first)).0 h.2).1,
      λ n.
          let within = names_within runs s r n in
          let at : s ≡ first + (s - first) = omega (arith, within.0) in
          ((serials s n).0, within.0, (bits_name runs first (8 * bitmap_size runs) (s - first)).1 (omega (arith, within.0, within.1), subst (λ (k : ℕ). Names runs k) at n)),
    ))

-- ---- a plan

group_serials : (sort : Sort) (runs : List Span) (b : List ℕ) → AreSerialEntries (subsection_entries b (group_subsection sort runs))
group_serials sorts.Serials runs b = (tt, tt)
group_serials sorts.Range runs b = (tt, tt)
group_serials sorts.Bitmap runs b = (tt, tt)

pub plan_serials : (runs : List Span) (plan : List Group) (b : List ℕ) → AreSerialEntries (flat_map (subsection_entries b) (plan_subsections runs plan))
plan_serials runs [] b = tt
plan_serials runs (group ∷ groups) b =
    all_append IsSerials (subsection_entries b (group_subsection group.sort (take group.count runs))) (flat_map (subsection_entries b) (plan_subsections (drop group.count runs) groups))
    (group_serials group.sort (take group.count runs) b) (plan_serials (drop group.count runs) groups b)

no_names : (runs : List Span) (s : ℕ) → length runs ≡ 0 → Names runs s → ⊥
no_names [] s e n = n
no_names (run ∷ runs) s e n = absurd (omega arith)

pub plan_names : (runs : List Span) (plan : List Group) (b a : List ℕ) (s : ℕ) → IsRuns runs → AreSerials runs → IsPlan runs plan → SomeNames (flat_map (subsection_entries b) (plan_subsections runs plan)) (SerialOf a s) ↔ ((b ≡ a) × Names runs s)
plan_names runs [] b a s r serials p = (λ h. absurd h, λ h. no_names runs s p h.1)
plan_names runs (group ∷ groups) b a s r serials p =
    let n = group.count in
    let front : List Span = take n runs in
    let back : List Span = drop n runs in
    let here = group_names group.sort front b a s (RunsFrom-take 0 n runs r) (AreSerials-take n runs serials) (IsGroup.allowed (p.0)) in
    let later = plan_names back groups b a s (IsRuns-drop 0 n runs r) (AreSerials-drop n runs serials) p.1 in
    Iff.trans (some_append (subsection_entries b (group_subsection group.sort front)) (flat_map (subsection_entries b) (plan_subsections back groups)) (SerialOf a s))
    (Iff.trans (iff_or here later) (Iff.trans iff_both (Iff.and Iff.rfl (names_parts n runs s))))
