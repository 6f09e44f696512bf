-- The lines with the numbers that were found.
use Rattle.std.proofs.Common.{◌≡◌, ◌<◌, ◌≤◌, ℕ, suc, ◌+◌, ◌-◌, List, [], ◌∷◌, ◌++◌, ◌||◌, length, map, filter, filter_map, nat_eq, slice_get, cond, Bool, true, false, Option, Some, None, refl, sym, ap, subst, ◌∙◌, arith, inl, inr, ◌⊎◌}
use Rattle.std.specs.List.{AllByRecursion, list_any}
use Rattle.std.specs.List.Sorted.{IsStrictlySortedBy}
use Rattle.std.specs.Ordering.{nat_cmp}
use Rattle.std.specs.declared.cmp.Ordering.TheVariants.{Less}
use Rattle.std.proofs.lemmas.Bool.{cases_eq, cases_order, eq-eqb, false≢true, ne_eqb, or_from, or_left}
use Rattle.std.proofs.lemmas.Bool.Decides.{nat_tests}
use Rattle.std.proofs.lemmas.Map.Keys.{sorted_head, sorted_tail}
use Rattle.krl_types.specs.Entry.{Entry}
use Rattle.krl_types.specs.Subject.{Subject}
use Rattle.krl_entries.specs.declared.reasons.Reasons.{Reasons}
use Rattle.text_index.specs.Explaining.{explaining, explains}
use Rattle.text_index.specs.Indexing.{line_of, naming_all}
use Rattle.text_index.specs.NamingLines.{Line, NamingLine, naming}
use Rattle.text_index.specs.declared.text_line.TextLine.{TextLine}
use Rattle.text_index.proofs.ReasonNames.{asked_at_first, asked_by_some, asked_later, asked_nowhere, explains_said}

-- ---- numbers that rise

before_is : (n y : ℕ) → nat_cmp n y ≡ Less → n < y
before_is n y less = grind (arith, nat_tests)

none_before : (n i : ℕ) (ns : List ℕ) → AllByRecursion (λ y. nat_cmp n y ≡ Less) ns → i ≤ n → list_any (nat_eq i) ns ≡ false
none_before n i [] all le = refl
none_before n i (y ∷ ys) all le =
    let more = before_is n y all.0 in
    or_from (nat_eq i y) (list_any (nat_eq i) ys) (ne_eqb i y (λ (same : i ≡ y). omega (arith, more, same))) (none_before n i ys all.1 le)

-- ---- the lines

module _ (asked : Subject) (reasons : Reasons) where
  -- those of the lines that explain
  chosen : List TextLine → List (Option Entry) → List TextLine
  chosen [] said = []
  chosen (line ∷ lines) [] = []
  chosen (line ∷ lines) (entry ∷ said) = cond (explains_said asked reasons line entry) (line ∷ chosen lines said) (chosen lines said)

  -- the numbers, from j on, are those of the lines that explain, of which the first is number j
  record AreNumbers (get : ℕ → Option TextLine) (ns : List ℕ) (j : ℕ) (lines : List TextLine) (said : List (Option Entry)) : Type 0 where
    sorted : IsStrictlySortedBy nat_cmp ns
    lines_are : (k : ℕ) → get (j + k) ≡ slice_get lines k
    from : (i : ℕ) → i < j → list_any (nat_eq i) ns ≡ false
    are : (k : ℕ) → list_any (nat_eq (j + k)) ns ≡ asked_by_some asked reasons said k

  -- no numbers
  no_number : (get : ℕ → Option TextLine) (ns : List ℕ) (j : ℕ) → AreNumbers get ns j [] [] → filter_map get ns ≡ []
  no_number get [] j is = refl
  no_number get (n ∷ ns) j is = absurd (by (cases_order n j))
    where
      here : list_any (nat_eq n) (n ∷ ns) ≡ true
      here = or_left (nat_eq n n) (list_any (nat_eq n) ns) (eq-eqb n n refl)

      above : (k : ℕ) → n ≡ j + k → ⊥
      above k same = false≢true (sym (asked_nowhere asked reasons k) ∙ sym (is.are k) ∙ subst (λ (i : ℕ). list_any (nat_eq i) (n ∷ ns) ≡ true) same here)

      by : (n ≡ j) ⊎ ((n < j) ⊎ (j < n)) → ⊥
      by (inl same) = above 0 (omega (arith, same))
      by (inr (inl less)) = false≢true (sym (is.from n less) ∙ here)
      by (inr (inr more)) = above (n - j) (omega (arith, more))

  -- The first line does not explain, or the first number is its own.
  abbrev Rest : (ℕ → Option TextLine) → ℕ → List TextLine → List (Option Entry) → Type 0
  Rest get j lines said = (ns : List ℕ) → AreNumbers get ns (j + 1) lines said → filter_map get ns ≡ chosen lines said

  skips : (get : ℕ → Option TextLine) (ns : List ℕ) (j : ℕ) (line : TextLine) (lines : List TextLine) (entry : Option Entry) (said : List (Option Entry))
      → AreNumbers get ns j (line ∷ lines) (entry ∷ said) → list_any (nat_eq j) ns ≡ false → Rest get j lines said
      → filter_map get ns ≡ chosen (line ∷ lines) (entry ∷ said)
  unfolding chosen
  skips get ns j line lines entry said is none rest =
      let same : j + 0 ≡ j = omega arith in
      let fails : explains_said asked reasons line entry ≡ false = sym (asked_at_first asked reasons line entry said) ∙ sym (is.are 0) ∙ ap (λ (i : ℕ). list_any (nat_eq i) ns) same ∙ none in
      rest ns (record {
        sorted = is.sorted;
        lines_are = λ k. let next : j + 1 + k ≡ j + suc k = omega arith in ap get next ∙ is.lines_are (suc k);
        from = λ i less. by i less (cases_eq i j);
        are = λ k. let next : j + 1 + k ≡ j + suc k = omega arith in ap (λ (i : ℕ). list_any (nat_eq i) ns) next ∙ is.are (suc k) ∙ asked_later asked reasons entry said k;
      }) ∙ sym (ap (λ (b : Bool). cond b (line ∷ chosen lines said) (chosen lines said)) fails)
    where
      by : (i : ℕ) → i < j + 1 → (i ≡ j) ⊎ (i ≡ j → ⊥) → list_any (nat_eq i) ns ≡ false
      by i less (inl same) = ap (λ (i : ℕ). list_any (nat_eq i) ns) same ∙ none
      by i less (inr other) = is.from i (omega (arith, less, other))

  takes : (get : ℕ → Option TextLine) (ns : List ℕ) (j : ℕ) (line : TextLine) (lines : List TextLine) (entry : Option Entry) (said : List (Option Entry))
      → AreNumbers get (j ∷ ns) j (line ∷ lines) (entry ∷ said) → Rest get j lines said
      → filter_map get (j ∷ ns) ≡ chosen (line ∷ lines) (entry ∷ said)
  unfolding chosen
  takes get ns j line lines entry said is rest =
      let same : j + 0 ≡ j = omega arith in
      let here : list_any (nat_eq j) (j ∷ ns) ≡ true = or_left (nat_eq j j) (list_any (nat_eq j) ns) (eq-eqb j j refl) in
      let holds : explains_said asked reasons line entry ≡ true =
      sym (asked_at_first asked reasons line entry said) ∙ sym (is.are 0) ∙ ap (λ (i : ℕ). list_any (nat_eq i) (j ∷ ns)) same ∙ here in
      let first : get j ≡ Some line = ap get (sym same) ∙ is.lines_are 0 in
      let later : filter_map get ns ≡ chosen lines said = rest ns (record {
        sorted = sorted_tail nat_cmp j ns is.sorted;
        lines_are = λ k. let next : j + 1 + k ≡ j + suc k = omega arith in ap get next ∙ is.lines_are (suc k);
        from = λ i less. none_before j i ns (sorted_head nat_cmp j ns is.sorted) (omega (arith, less));
        are = λ k.
            let next : j + 1 + k ≡ j + suc k = omega arith in
            let other : nat_eq (j + suc k) j ≡ false = ne_eqb (j + suc k) j (λ (at : j + suc k ≡ j). omega (arith, at)) in
            ap (λ (i : ℕ). list_any (nat_eq i) ns) next ∙ sym (ap (λ (b : Bool). b || list_any (nat_eq (j + suc k)) ns) other) ∙ is.are (suc k) ∙ asked_later asked reasons entry said k;
      }) in
      rw (first, holds) (ap (λ (lines : List TextLine). line ∷ lines) later)

  step : (get : ℕ → Option TextLine) (ns : List ℕ) (j : ℕ) (line : TextLine) (lines : List TextLine) (entry : Option Entry) (said : List (Option Entry))
      → AreNumbers get ns j (line ∷ lines) (entry ∷ said) → Rest get j lines said
      → filter_map get ns ≡ chosen (line ∷ lines) (entry ∷ said)
  step get [] j line lines entry said is rest = skips get [] j line lines entry said is refl rest
  step get (n ∷ ns) j line lines entry said is rest = by (cases_order n j)
    where
      by : (n ≡ j) ⊎ ((n < j) ⊎ (j < n)) → filter_map get (n ∷ ns) ≡ chosen (line ∷ lines) (entry ∷ said)
      by (inl same) =
          subst (λ (i : ℕ). AreNumbers get (i ∷ ns) j (line ∷ lines) (entry ∷ said) → filter_map get (i ∷ ns) ≡ chosen (line ∷ lines) (entry ∷ said)) (sym same)
          (λ own. takes get ns j line lines entry said own rest) is
      by (inr (inl less)) = absurd (false≢true (sym (is.from n less) ∙ or_left (nat_eq n n) (list_any (nat_eq n) ns) (eq-eqb n n refl)))
      by (inr (inr more)) =
          skips get (n ∷ ns) j line lines entry said is
          (or_from (nat_eq j n) (list_any (nat_eq j) ns) (ne_eqb j n (λ (same : j ≡ n). omega (arith, more, same))) (none_before n j ns (sorted_head nat_cmp n ns is.sorted) (omega (arith, more)))) rest

  all_chosen : (get : ℕ → Option TextLine) (ns : List ℕ) (j : ℕ) (lines : List TextLine) (said : List (Option Entry)) → length said ≡ length lines
      → AreNumbers get ns j lines said → filter_map get ns ≡ chosen lines said
  unfolding chosen
  all_chosen get ns j [] [] same is = no_number get ns j is
  all_chosen get ns j [] (entry ∷ said) same is = absurd (omega (arith, same))
  all_chosen get ns j (line ∷ lines) [] same is = absurd (omega (arith, same))
  all_chosen get ns j (line ∷ lines) (entry ∷ said) same is =
      step get ns j line lines entry said is (λ more own. all_chosen get more (j + 1) lines said (omega (arith, same)) own)

  -- ---- their places

  chosen_first : (line : TextLine) (entry : Option Entry) (later : List TextLine) (rest : List NamingLine)
      → map line_of later ≡ map (λ line. line.line) (filter (explains asked reasons) rest)
      → map line_of (cond (explains_said asked reasons line entry) (line ∷ later) later)
      ≡ map (λ line. line.line) (filter (explains asked reasons) (naming (line_of line) entry ++ rest))
  chosen_first line None later rest same = same
  chosen_first line (Some entry) later rest same = by (explains asked reasons (record { line = line_of line; entry = entry }))
    where
      by : (b : Bool) → map line_of (cond b (line ∷ later) later)
          ≡ map (λ line. line.line) (cond b (record { line = line_of line; entry = entry } ∷ filter (explains asked reasons) rest) (filter (explains asked reasons) rest))
      by true = ap (λ (places : List Line). line_of line ∷ places) same
      by false = same

  chosen_lines : (lines : List TextLine) (said : List (Option Entry))
      → map line_of (chosen lines said) ≡ map (λ line. line.line) (explaining (naming_all lines said) asked reasons)
  unfolding chosen explaining
  chosen_lines [] said = refl
  chosen_lines (line ∷ lines) [] = refl
  chosen_lines (line ∷ lines) (entry ∷ said) = chosen_first line entry (chosen lines said) (naming_all lines said) (chosen_lines lines said)

  -- The lines at numbers that rise, which are those of the lines that explain, are these lines.
  pub lines_chosen : (lines : List TextLine) (said : List (Option Entry)) (ns : List ℕ) → length said ≡ length lines → IsStrictlySortedBy nat_cmp ns
      → ((i : ℕ) → list_any (nat_eq i) ns ≡ asked_by_some asked reasons said i)
      → map line_of (filter_map (slice_get lines) ns) ≡ map (λ line. line.line) (explaining (naming_all lines said) asked reasons)
  lines_chosen lines said ns same sorted are =
      ap (map line_of) (all_chosen (slice_get lines) ns 0 lines said same (record {
        sorted = sorted;
        lines_are = λ k. let at : 0 + k ≡ k = omega arith in ap (slice_get lines) at;
        from = λ i less. absurd (omega (arith, less));
        are = λ k. let at : 0 + k ≡ k = omega arith in ap (λ (i : ℕ). list_any (nat_eq i) ns) at ∙ are k;
      })) ∙ chosen_lines lines said
