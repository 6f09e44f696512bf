-- A run over lists prints the text of these lists, and a list that is made of it names what they name.
use Rattle.std.specs.Borrow.{Bor}
use Rattle.std.specs.Prelude.{is_some}
use Rattle.std.proofs.Common.{◌≡◌, ◌≢◌, ◌∙◌, arith, ℕ, Bool, true, false, All, List, [], ◌∷◌, ◌++◌, map, Option, Some, None, refl, ap, subst}
use Rattle.std.specs.List.{concat, flat_map}
use Rattle.std.specs.Io.KnownBytes.{Appends}
use Rattle.std.proofs.lemmas.List.Elements.{All-cons, All-head, All-nil, All-tail}
use Rattle.krl_entries.specs.Revocations.{Means, Revocations, nothing}
use Rattle.krl_entries.proofs.OneMeaning.{one_meaning}
use Rattle.krl_entries.proofs.SameMeaning.{nothing_meant}
use Rattle.krl_types.specs.Entry.{Entry}
use Rattle.krl_writer.specs.KrlText.{IsKrlText}
use Rattle.list_text.specs.Facts.{Fact}
use Rattle.list_text.specs.Forms.{names_in}
use Rattle.list_text.specs.Text.{fact_line, no_names}
use Rattle.list_text.specs.declared.form.Form.TheVariants.{Text as AsText}
use Rattle.run_faults.specs.RunFault.{RunFault}
use Rattle.run_output.specs.Done.{EndsWith}
use Rattle.run_output.specs.Run.{Item, outcome_of, status_of}
use Rattle.show_run.specs.Lists.{AreGiven}
use Rattle.any_list.specs.Told.{Reading}
use Rattle.show_run.specs.Run.{EndsShowRun, EndsShown, refused, run_items, shown}
use Rattle.show_run.specs.Showing.{fact_items, list_facts, line_item, lists_facts}
use Rattle.any_list.specs.declared.list.List.{List as ListOf}
use Rattle.text_entries.specs.AuthorityNames.{NamedKeys}
use Rattle.text_run.specs.Making.{Makes, Wanted}
use Rattle.text_laws.specs.MadeLists.{IsMergedOf, only_text}
use Rattle.text_laws.specs.Names.{AreNames}
use Rattle.text_laws.specs.Printed.{AreMerged, HaveNoZeroIds, IsRead, shown_of}
use Rattle.text_laws.specs.ReadBack.{CanBeShown, HasNoZeroIds, facts_about, text_of_lists}
use Rattle.text_laws.proofs.KnownNames.{no_names_are}
use Rattle.text_laws.proofs.MadeLists.{entries_made, made_again, merged}
use Rattle.text_laws.proofs.ReadBytes.{IsReadAsSpelled}
use Rattle.text_laws.proofs.ShownLists.{can_be_shown}

-- ---- the text

facts_printed : (names : Option (Bor NamedKeys)) (facts : List Fact) → (outcome_of (fact_items (AsText names) facts ++ line_item [] ∷ [])).text ≡ concat (map (fact_line (names_in names)) facts)
facts_printed names [] = refl
facts_printed names (fact ∷ facts) = ap (λ (text : List ℕ). fact_line (names_in names) fact ++ text) (facts_printed names facts)

given_about : (given : ListOf) → list_facts given ≡ facts_about (shown_of given)
unfolding list_facts
given_about given = refl

lists_about : (lists : List ListOf) → flat_map list_facts lists ≡ flat_map facts_about (map shown_of lists)
lists_about [] = refl
lists_about (given ∷ lists) = rw (given_about given, lists_about lists) refl

pub printed_items : (names : Option (Bor NamedKeys)) (lists : List ListOf) → (outcome_of (run_items (AsText names) lists)).text ≡ text_of_lists (names_in names) (map shown_of lists)
unfolding run_items lists_facts
printed_items names lists = facts_printed names (lists_facts lists) ∙ ap (λ (facts : List Fact). concat (map (fact_line (names_in names)) facts)) (lists_about lists)

taken_whole : (run : List Item) (before after : Option (List ℕ)) (failed revoked : Bool) (fault : Option RunFault) → EndsWith run before after failed fault
    → 0 ≡ status_of (is_some fault) revoked → Appends before after (outcome_of run).text
taken_whole run before after failed revoked None ends status = ends.taken
taken_whole run before after failed revoked (Some stop) ends status = absurd (omega (arith, status))

pub printed_whole : (names : Option (Bor NamedKeys)) (lists : List ListOf) (before after : Option (List ℕ)) (failed : Bool) (fault : Option RunFault) → EndsShown (AsText names) lists before after failed 0 fault
    → Appends before after (text_of_lists (names_in names) (map shown_of lists))
printed_whole names lists before after failed fault ends =
    let run : List Item = run_items (AsText names) lists in
    subst (Appends before after) (printed_items names lists) (taken_whole run before after failed (outcome_of run).revoked fault ends.ends.0 ends.ends.1)

-- ---- a list that is made of it

allowed : (allow : Bool) → (allow ≢ false) → allow ≡ true
allowed true is = refl
allowed false is = absurd (is refl)

lists_can_be_shown : IsReadAsSpelled → (lists : List ListOf) → All IsRead lists → All CanBeShown (map shown_of lists)
lists_can_be_shown law [] read = All-nil CanBeShown
lists_can_be_shown law (given ∷ lists) read =
    let is = All-head IsRead given lists read in
    All-cons CanBeShown (shown_of given) (map shown_of lists) (can_be_shown law is.bytes (shown_of given) is.given_by.entries is.fits is.given_by.named is.given_by.means is.whole_ids)
    (lists_can_be_shown law lists (All-tail IsRead given lists read))

made_of_printed : (names : Option (Bor NamedKeys)) (lists : List ListOf) (wanted : Wanted) (is_file : Bool) (text name bytes : List ℕ) (failed : Bool) (fault : Option RunFault) (contents : Revocations)
    → EndsShown (AsText names) lists (Some []) (Some text) failed 0 fault → Makes wanted nothing (only_text is_file name text) bytes contents
    → Makes wanted nothing (only_text is_file name (text_of_lists (names_in names) (map shown_of lists))) bytes contents
made_of_printed names lists wanted is_file text name bytes failed fault contents ends makes =
    let is : text ≡ text_of_lists (names_in names) (map shown_of lists) = printed_whole names lists (Some []) (Some text) failed fault ends in
    subst (λ (t : List ℕ). Makes wanted nothing (only_text is_file name t) bytes contents) is makes

pub printed_merged : IsReadAsSpelled → (names : Option (Bor NamedKeys)) (lists : List ListOf) (wanted : Wanted) (is_file : Bool) (text name bytes : List ℕ) (failed : Bool) (fault : Option RunFault) (contents : Revocations) → AreNames (names_in names) → All IsRead lists
    → EndsShown (AsText names) lists (Some []) (Some text) failed 0 fault → Makes wanted nothing (only_text is_file name text) bytes contents
    → IsMergedOf (map shown_of lists) wanted.header bytes
printed_merged law names lists wanted is_file text name bytes failed fault contents are read ends makes =
    merged (names_in names) are (map shown_of lists) wanted is_file name bytes contents (lists_can_be_shown law lists read) (made_of_printed names lists wanted is_file text name bytes failed fault contents ends makes)

pub printed_again : IsReadAsSpelled → (names : Option (Bor NamedKeys)) (given : ListOf) (wanted : Wanted) (is_file : Bool) (text name bytes : List ℕ) (failed : Bool) (fault : Option RunFault) (contents : Revocations) → AreNames (names_in names) → IsRead given
    → EndsShown (AsText names) (given ∷ []) (Some []) (Some text) failed 0 fault → Makes wanted nothing (only_text is_file name text) bytes contents
    → IsKrlText wanted.header given.revocations bytes
printed_again law names given wanted is_file text name bytes failed fault contents are is ends makes =
    made_again (names_in names) are (shown_of given) wanted is_file name bytes contents (can_be_shown law is.bytes (shown_of given) is.given_by.entries is.fits is.given_by.named is.given_by.means is.whole_ids)
    (made_of_printed names (given ∷ []) wanted is_file text name bytes failed fault contents ends makes)

-- An empty text names nothing.
pub printed_none : (wanted : Wanted) (is_file : Bool) (name bytes : List ℕ) (contents : Revocations) → Makes wanted nothing (only_text is_file name []) bytes contents → wanted.allow_empty ≡ true
printed_none wanted is_file name bytes contents makes =
    let named : List Entry = [] in
    let is : makes.entries ≡ named = entries_made no_names no_names_are [] wanted is_file name bytes contents (All-nil CanBeShown) makes in
    let means : Means contents named = subst (Means contents) is (makes.adds.means [] nothing_meant) in
    let same : contents ≡ nothing = one_meaning contents nothing named means nothing_meant in
    allowed wanted.allow_empty (λ not. makes.some not same)

-- ---- a whole run

abbrev HasWholeIds : ListOf → Type 0
HasWholeIds given = HasNoZeroIds given.revocations

given_read : (told : List Reading) (files : List (Bor (List ℕ))) (lists : List ListOf) → AreGiven told files lists → All HasWholeIds lists → All IsRead lists
given_read [] [] [] given whole = All-nil IsRead
given_read (one ∷ told) (file ∷ files) (list ∷ lists) given whole =
    let is = given.0 in
    All-cons IsRead list lists (record { name = file.now; bytes = is.0; fits = is.1.fits; given_by = is.1.is; whole_ids = All-head HasWholeIds list lists whole })
    (given_read told files lists given.1 (All-tail HasWholeIds list lists whole))
given_read told files lists given whole = absurd given

pub run_merged : IsReadAsSpelled → (told : List Reading) (files : List (Bor (List ℕ))) (names : Option (Bor NamedKeys)) (wanted : Wanted) (is_file : Bool) (text name bytes : List ℕ) (failed : Bool) (fault : Option RunFault) (contents : Revocations)
    → AreNames (names_in names) → HaveNoZeroIds told files → EndsShowRun told files (AsText names) (Some []) (Some text) failed 0 fault → Makes wanted nothing (only_text is_file name text) bytes contents
    → AreMerged told files wanted.header bytes
run_merged law told files names wanted is_file text name bytes failed fault contents are whole (shown lists given ends) makes = record {
  lists = lists;
  are_given = given;
  merged = printed_merged law names lists wanted is_file text name bytes failed fault contents are (given_read told files lists given (whole lists given)) ends makes;
}
run_merged law told files names wanted is_file text name bytes failed fault contents are whole (refused stop is fault_is status_is after_is works) makes = absurd (omega (arith, status_is))
