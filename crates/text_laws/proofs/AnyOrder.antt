-- Lines that say the same under any current authority name the same in any order.
use Rattle.std.proofs.Common.{◌≡◌, ◌⊎◌, ℕ, ◌+◌, ◌-◌, ◌^◌, min, List, [], ◌∷◌, ◌++◌, All, IsPermutation, Option, Some, None, Result, Ok, Err, flat_map, refl, sym, ap, ◌∙◌, inl, inr}
use Rattle.std.specs.List.{slice_split}
use Rattle.std.proofs.lemmas.List.Elements.{All-cons, All-head, All-nil, All-tail}
use Rattle.std.proofs.lemmas.List.Sorted.{All-permutation, IsPermutation-sym}
use Rattle.key_text.specs.Lines.{is_newline}
use Rattle.krl_types.specs.Entry.{Entry}
use Rattle.krl_types.specs.Naming.{Name, NamesSame, SomeNames}
use Rattle.text_entries.specs.AuthorityNames.{NamedKeys}
use Rattle.text_entries.specs.Lines.{beginning, lines_from, lines_with}
use Rattle.text_entries.specs.Says.{Blank, Current, Declares, Names, Over, Saying, Under, entry_said, line_says, one_more_over, standing_after}
use Rattle.text_entries.specs.declared.standing.Standing.{Standing}
use Rattle.text_entries.specs.declared.text_cause.TextCause.{TextCause}
use Rattle.text_laws.specs.AnyOrder.{IsFree}
use Rattle.text_laws.proofs.Entries.{HasEntries, entry_first, listed}
use Rattle.text_laws.proofs.FreeLines.{placed, says_free}

-- ---- the entries of lines in their order

abbrev entries_said : Result Saying TextCause → List Entry
entries_said (Ok saying) = listed (entry_said saying)
entries_said (Err cause) = []

-- the entry of a line
abbrev line_entries : Standing → List ℕ → List Entry
line_entries standing line = entries_said (line_says (beginning standing) line)

-- what stands before lines that leave the names as they are
abbrev here : Standing → ℕ → Option (List ℕ) → Standing
here standing over current = placed standing standing.today over current

-- what stands after a line that leaves the names as they are
still : (standing : Standing) (over : ℕ) (current : Option (List ℕ)) (saying : Saying) → (standing_after saying (beginning standing)).names ≡ standing.names
    → (later : ℕ) × (after : Option (List ℕ)) × (standing_after saying (here standing over current) ≡ here standing later after)
still standing over current Blank keeps = (over, current, refl)
still standing over current (Current authority) keeps = (over, Some authority, refl)
still standing over current (Declares name key) keeps = (over, current, ap (λ (known : NamedKeys). record (here standing over current) { names = known }) keeps)
still standing over current (Under entry) keeps = (over, current, refl)
still standing over current (Names entry) keeps = (over, None, refl)
still standing over current (Over saying) keeps =
    let it = still standing over current saying keeps in (min (it.0 + 1) (2 ^ 64 - 1), it.1, ap one_more_over it.2)

free_entries : (standing : Standing) (over : ℕ) (current : Option (List ℕ)) (number : ℕ) (lines : List (List ℕ)) → All (IsFree standing) lines
    → HasEntries (lines_from (here standing over current) number lines) (flat_map (line_entries standing) lines)
free_entries standing over current number [] free = record { are = refl; faultless = refl }
free_entries standing over current number (line ∷ lines) free =
    let is = All-head (IsFree standing) line lines free in
    let after = still standing over current is.saying is.keeps in
    let later = free_entries standing after.0 after.1 (number + 1) lines (All-tail (IsFree standing) line lines free) in
    let has = entry_first (entry_said is.saying) (lines_from (here standing after.0 after.1) (number + 1) lines) (flat_map (line_entries standing) lines) later in
    let says : line_says (here standing over current) line ≡ Ok is.saying = says_free standing over current line (λ none. cc (sym is.says ∙ none)) ∙ is.says in
    rw (says, is.says, after.2) has

-- ---- names in any order

module _ (name : Name) where
  in_front : (xs ys : List Entry) → SomeNames xs name → SomeNames (xs ++ ys) name
  in_front [] ys is = absurd is
  in_front (x ∷ xs) ys (inl is) = inl is
  in_front (x ∷ xs) ys (inr is) = inr (in_front xs ys is)

  in_back : (xs ys : List Entry) → SomeNames ys name → SomeNames (xs ++ ys) name
  in_back [] ys is = is
  in_back (x ∷ xs) ys is = inr (in_back xs ys is)

  in_either : (xs ys : List Entry) → SomeNames (xs ++ ys) name → SomeNames xs name ⊎ SomeNames ys name
  in_either [] ys is = inr is
  in_either (x ∷ xs) ys (inl is) = inl (inl is)
  in_either (x ∷ xs) ys (inr is) = elim (in_either xs ys is) [
    | inl front ↦ inl (inr front)
    | inr back ↦ inr back
  ]

  module _ (entries : List ℕ → List Entry) (Whole : Type 0) where
    abbrev Leads : List ℕ → Type 0
    Leads line = SomeNames (entries line) name → Whole

    each_leads : (lines : List (List ℕ)) → (SomeNames (flat_map entries lines) name → Whole) → All Leads lines
    each_leads [] into = All-nil Leads
    each_leads (line ∷ lines) into =
        All-cons Leads line lines (λ is. into (in_front (entries line) (flat_map entries lines) is))
        (each_leads lines (λ is. into (in_back (entries line) (flat_map entries lines) is)))

    all_lead : (lines : List (List ℕ)) → All Leads lines → SomeNames (flat_map entries lines) name → Whole
    all_lead [] lead is = absurd is
    all_lead (line ∷ lines) lead is = elim (in_either (entries line) (flat_map entries lines) is) [
      | inl front ↦ All-head Leads line lines lead front
      | inr back ↦ all_lead lines (All-tail Leads line lines lead) back
    ]

  moved : (entries : List ℕ → List Entry) (lines others : List (List ℕ)) → IsPermutation lines others
      → SomeNames (flat_map entries lines) name → SomeNames (flat_map entries others) name
  moved entries lines others same =
      let whole = SomeNames (flat_map entries others) name in
      all_lead entries whole lines
      (All-permutation (Leads entries whole) others lines (IsPermutation-sym lines others same) (each_leads entries whole others (λ is. is)))

-- ---- texts

-- Both texts have no fault, and name the same.
pub record SameNamed (standing : Standing) (text other : List ℕ) : Type 0 where
  pub faultless : (lines_with standing text).fault ≡ None
  pub other_faultless : (lines_with standing other).fault ≡ None
  pub same : NamesSame (lines_with standing text).entries (lines_with standing other).entries

pub any_order : (standing : Standing) (text other : List ℕ) → IsPermutation (slice_split is_newline text) (slice_split is_newline other)
    → All (IsFree standing) (slice_split is_newline text) → SameNamed standing text other
unfolding lines_with
any_order standing text other same free =
    let lines = slice_split is_newline text in
    let others = slice_split is_newline other in
    let one = free_entries standing standing.over None 1 lines free in
    let two = free_entries standing standing.over None 1 others (All-permutation (IsFree standing) lines others same free) in
    record {
      faultless = one.faultless;
      other_faultless = two.faultless;
      same = rw (one.are, two.are) (λ name. (
        moved name (line_entries standing) lines others same,
        moved name (line_entries standing) others lines (IsPermutation-sym lines others same),
      ));
    }
