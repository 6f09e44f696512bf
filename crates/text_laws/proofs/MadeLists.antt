-- A list that is made of the texts of lists holds what these lists hold.
use Rattle.std.proofs.Common.{All, ◌≡◌, ℕ, Bool, List, [], ◌∷◌, ◌++◌, Ok, refl, sym, subst, ◌∙◌, append-nil}
use Rattle.std.proofs.lemmas.List.Elements.{All-cons, All-nil}
use Rattle.krl_entries.specs.Canonical.{entries_in}
use Rattle.krl_entries.specs.Revocations.{Means, Revocations, nothing}
use Rattle.krl_entries.proofs.SameMeaning.{nothing_meant}
use Rattle.krl_entries.proofs.OneMeaning.{one_meaning}
use Rattle.krl_entries.proofs.OwnEntries.{means_itself}
use Rattle.krl_types.specs.Entry.{Entry}
use Rattle.krl_writer.specs.KrlText.{IsKrlText}
use Rattle.text_laws.specs.MadeLists.{IsMergedOf, only_text}
use Rattle.text_laws.specs.Names.{AreNames}
use Rattle.text_laws.specs.ReadBack.{CanBeShown, IsReadAs, Shown, entries_of_lists, text_of_lists}
use Rattle.text_laws.proofs.HeldTexts.{lists_read_back}
use Rattle.text_entries.specs.AuthorityNames.{NameOfKey}
use Rattle.text_entries.specs.Lines.{lines_of}
use Rattle.text_entries.specs.Says.{first_standing}
use Rattle.text_run.specs.Making.{Makes, Wanted, day_at, text_from, texts_entries}

text_read : (today : ℕ) (is_file : Bool) (name bytes : List ℕ) (entries : List Entry) → IsReadAs bytes entries
    → text_from (first_standing today) (record { name = name; is_file = is_file; content = Ok bytes })
    ≡ Ok (record { entries = entries; standing = (lines_of today bytes).standing })
unfolding text_from
text_read today is_file name bytes entries read = rw ((read today).0, (read today).1) refl

module _ (names : NameOfKey) (are : AreNames names) where
  pub entries_made : (lists : List Shown) (wanted : Wanted) (is_file : Bool) (name bytes : List ℕ) (contents : Revocations) → All CanBeShown lists
      → (made : Makes wanted nothing (only_text is_file name (text_of_lists names lists)) bytes contents) → made.entries ≡ entries_of_lists lists
  entries_made lists wanted is_file name bytes contents shown made =
      let named : List Entry = entries_of_lists lists in
      let today : ℕ = day_at wanted.header.date in
      let one = text_read today is_file name (text_of_lists names lists) named (lists_read_back names are lists shown) in
      let all : texts_entries today (only_text is_file name (text_of_lists names lists)) ≡ Ok (named ++ []) = rw one refl in
      let given : made.entries ≡ named ++ [] = let is = sym made.read ∙ all in cc in
      given ∙ append-nil named

  pub merged : (lists : List Shown) (wanted : Wanted) (is_file : Bool) (name bytes : List ℕ) (contents : Revocations) → All CanBeShown lists
      → Makes wanted nothing (only_text is_file name (text_of_lists names lists)) bytes contents → IsMergedOf lists wanted.header bytes
  merged lists wanted is_file name bytes contents shown made = record {
    contents = contents;
    means = subst (Means contents) (entries_made lists wanted is_file name bytes contents shown made) (made.adds.means [] nothing_meant);
    written = made.written;
  }

  pub made_again : (list : Shown) (wanted : Wanted) (is_file : Bool) (name bytes : List ℕ) (contents : Revocations) → CanBeShown list
      → Makes wanted nothing (only_text is_file name (text_of_lists names (list ∷ []))) bytes contents → IsKrlText wanted.header list.contents bytes
  made_again list wanted is_file name bytes contents shown made =
      let named : List Entry = entries_in list.contents in
      let is = merged (list ∷ []) wanted is_file name bytes contents (All-cons CanBeShown list [] shown (All-nil CanBeShown)) made in
      let means : Means is.contents named = subst (Means is.contents) (append-nil named) is.means in
      let own = means_itself list.contents shown.stored.orderly in
      subst (λ (r : Revocations). IsKrlText wanted.header r bytes) (one_meaning is.contents list.contents named means own) is.written
