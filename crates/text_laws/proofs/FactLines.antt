-- The lines of facts are read as these facts.
use Rattle.std.proofs.Common.{◌≡◌, ℕ, ◌+◌, List, [], ◌∷◌, ◌++◌, map, Option, Some, None, refl, subst, ap, ◌∙◌, append_assoc}
use Rattle.std.specs.List.{concat, flat_map, slice_split}
use Rattle.std.proofs.lemmas.List.Splits.{slice_split_at}
use Rattle.key_text.specs.Lines.{is_newline}
use Rattle.krl_entries.specs.Facts.{AuthorityFact, ItemFact, SerialsFact}
use Rattle.krl_types.specs.Entry.{Entry, RangeEntry}
use Rattle.krl_types.specs.Item.{item_entry}
use Rattle.krl_types.specs.declared.item_kind.ItemKind.TheVariants as kinds
use Rattle.list_text.specs.Facts.{Fact, HeldFact, ListFact}
use Rattle.list_text.specs.Text.{fact_line}
use Rattle.text_entries.specs.AuthorityNames.{NameOfKey}
use Rattle.text_entries.specs.Lines.{LineEntries, lines_from, with_entry}
use Rattle.text_entries.specs.Says.{Saying, entry_said, standing_after}
use Rattle.text_entries.specs.declared.standing.Standing.{Standing}
use Rattle.text_laws.specs.FactLines.{FitsUnder, IsLineOf, authority_says, fact_says}
use Rattle.text_laws.proofs.CommentLines.{list_reads}
use Rattle.text_laws.proofs.Entries.{HasEntries, entry_first, listed}
use Rattle.text_laws.proofs.HashLines.{sha1_reads, sha256_reads}
use Rattle.text_laws.proofs.IdLines.{id_reads}
use Rattle.text_laws.proofs.JoinedTexts.{blank_says}
use Rattle.text_laws.proofs.LineReads.{Reads}
use Rattle.text_laws.proofs.NamedLines.{authority_reads, key_reads}
use Rattle.text_laws.proofs.SerialLines.{serials_read}

-- ---- a fact

-- the entries that a fact names
abbrev pub entries_of : Fact → List Entry
entries_of (ListFact name header) = []
entries_of (HeldFact (AuthorityFact authority)) = []
entries_of (HeldFact (SerialsFact authority span)) = RangeEntry authority span.lo span.hi ∷ []
entries_of (HeldFact (ItemFact kind authority bytes)) = item_entry kind authority bytes ∷ []

no_entry : (named : Option (List ℕ)) (authority : List ℕ) → listed (entry_said (authority_says named authority)) ≡ []
no_entry None authority = refl
no_entry (Some name) authority = refl

entries_said : (names : NameOfKey) (fact : Fact) → listed (entry_said (fact_says names fact)) ≡ entries_of fact
entries_said names (ListFact name header) = refl
entries_said names (HeldFact (AuthorityFact authority)) = no_entry (names authority) authority
entries_said names (HeldFact (SerialsFact authority span)) = refl
entries_said names (HeldFact (ItemFact kinds.Id authority id)) = refl
entries_said names (HeldFact (ItemFact kinds.Key authority blob)) = refl
entries_said names (HeldFact (ItemFact kinds.Sha1 authority hash)) = refl
entries_said names (HeldFact (ItemFact kinds.Sha256 authority hash)) = refl

fact_reads : (standing : Standing) (names : NameOfKey) (fact : Fact) → FitsUnder standing names fact
    → Reads standing (fact_line names fact) (fact_says names fact)
unfolding fact_line
fact_reads standing names (ListFact name header) fits = list_reads standing name header fits
fact_reads standing names (HeldFact (AuthorityFact authority)) fits = authority_reads standing (names authority) authority fits.0 fits.1
fact_reads standing names (HeldFact (SerialsFact authority span)) fits = serials_read standing (names authority) authority span fits.0 fits.1
fact_reads standing names (HeldFact (ItemFact kinds.Id authority id)) fits = id_reads standing (names authority) authority id fits.0 fits.1 fits.2
fact_reads standing names (HeldFact (ItemFact kinds.Key authority blob)) fits = key_reads standing blob fits
fact_reads standing names (HeldFact (ItemFact kinds.Sha1 authority hash)) fits = sha1_reads standing hash fits.0 fits.1
fact_reads standing names (HeldFact (ItemFact kinds.Sha256 authority hash)) fits = sha256_reads standing hash fits.0 fits.1

-- the text of a fact is one line
pub fact_is_line : (standing : Standing) (names : NameOfKey) (fact : Fact) → FitsUnder standing names fact
    → IsLineOf standing (fact_line names fact) (fact_says names fact)
fact_is_line standing names fact fits =
    let reads = fact_reads standing names fact fits in
    record { line = reads.line; split = ap (slice_split is_newline) reads.ended ∙ slice_split_at is_newline reads.line 10 [] reads.no_feed refl; says = reads.says }

-- ---- facts in a row

-- each fact fits the current standing
abbrev pub AllFit : NameOfKey → Standing → List Fact → Type 0
AllFit names standing [] = Unit {0}
AllFit names standing (fact ∷ facts) = FitsUnder standing names fact × AllFit names (standing_after (fact_says names fact) standing) facts

abbrev pub all_entries : List Fact → List Entry
all_entries facts = flat_map entries_of facts

-- the lines of a text of one line and of what follows
abbrev rest_of : Standing → ℕ → List ℕ → LineEntries
rest_of standing number text = lines_from standing number (slice_split is_newline text)

fact_then : (number : ℕ) (standing : Standing) (names : NameOfKey) (fact : Fact) (text : List ℕ) (entries : List Entry)
    → Reads standing (fact_line names fact) (fact_says names fact)
    → HasEntries (rest_of (standing_after (fact_says names fact) standing) (number + 1) text) entries
    → HasEntries (rest_of standing number (fact_line names fact ++ text)) (entries_of fact ++ entries)
fact_then number standing names fact text entries reads has =
    let saying : Saying = fact_says names fact in
    let parts : fact_line names fact ++ text ≡ reads.line ++ 10 ∷ text = ap (λ (t : List ℕ). t ++ text) reads.ended ∙ append_assoc reads.line (10 ∷ []) text in
    let split : slice_split is_newline (fact_line names fact ++ text) ≡ reads.line ∷ slice_split is_newline text =
    ap (slice_split is_newline) parts ∙ slice_split_at is_newline reads.line 10 text reads.no_feed refl in
    let later : LineEntries = rest_of (standing_after saying standing) (number + 1) text in
    rw (split, reads.says) (subst (λ (es : List Entry). HasEntries (with_entry (entry_said saying) later) (es ++ entries)) (entries_said names fact) (entry_first (entry_said saying) later entries has))

pub facts_read : (number : ℕ) (standing : Standing) (names : NameOfKey) (facts : List Fact) → AllFit names standing facts
    → HasEntries (rest_of standing number (concat (map (fact_line names) facts))) (all_entries facts)
facts_read number standing names [] fit = let is = blank_says standing in record { are = rw is refl; faultless = rw is refl }
facts_read number standing names (fact ∷ facts) fit =
    fact_then number standing names fact (concat (map (fact_line names) facts)) (all_entries facts) (fact_reads standing names fact fit.0)
    (facts_read (number + 1) (standing_after (fact_says names fact) standing) names facts fit.1)
