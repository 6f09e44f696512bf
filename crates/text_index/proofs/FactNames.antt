-- The facts about what is held name what is held.
use Rattle.std.proofs.Common.{◌≡◌, ℕ, List, [], ◌∷◌, Option, Some, None, refl, subst, ◌∙◌}
use Rattle.std.specs.Cmp.{both_ways}
use Rattle.std.specs.List.{cons_option}
use Rattle.std.proofs.Math.Bool.{or-false}
use Rattle.std.proofs.Math.Logic.Iff as Iff
use Rattle.krl_types.specs.Entry.{Entry}
use Rattle.krl_types.specs.Naming.{Name}
use Rattle.krl_entries.specs.Canonical.{entries_in}
use Rattle.krl_entries.specs.Facts.{Fact}
use Rattle.krl_entries.specs.Revocations.{Means, Revocations, nothing}
use Rattle.krl_entries.specs.Tested.{entry_names, some_names}
use Rattle.krl_entries.proofs.NameTests.{some_tested}
use Rattle.krl_entries.proofs.OwnEntries.{means_itself}
use Rattle.krl_entries.proofs.SameMeaning.{nothing_meant}
use Rattle.krl_fingerprints.specs.Facts.{fact_entries}
use Rattle.krl_fingerprints.specs.KeysBy.{entries_by, entry_by}
use Rattle.krl_fingerprints.specs.declared.keys_by.KeysBy.{KeysBy}
use Rattle.krl_fingerprints.specs.declared.keys_by.KeysBy.TheVariants.{Blob, Fingerprint}
use Rattle.krl_fingerprints.proofs.FactEntries.{entries_of}
use Rattle.text_entries.specs.Reading.{IsAdded}
use Rattle.text_index.specs.Indexing.{said_names}
use Rattle.text_index.specs.NameIndex.{AddsNames}
use Rattle.text_index.specs.declared.name_index.NameIndex.{NameIndex}
use Rattle.text_index.proofs.AddedNames.{adds_both}

-- ---- the loop over facts

-- Whatever adds the names of the other facts adds those of all facts.
abbrev pub AddsRest : (line : ℕ) (all rest : List Fact) (old mid : NameIndex) → Type 0
AddsRest line all rest old mid =
    (new : NameIndex) → AddsNames line (some_names (entries_of rest)) mid new → AddsNames line (some_names (entries_of all)) old new

pub one_fact_less : (line : ℕ) (all : List Fact) (fact : Fact) (rest : List Fact) (old mid next : NameIndex) → AddsRest line all (fact ∷ rest) old mid
    → AddsNames line (some_names (fact_entries fact)) mid next → AddsRest line all rest old next
one_fact_less line all fact rest old mid next adds one = λ new others. adds new (adds_both line (fact_entries fact) (entries_of rest) mid next new one others)

-- ---- what is held of one line

names_same : (r : Revocations) (entries : List Entry) → Means r entries → (name : Name) → some_names (entries_in r) name ≡ some_names entries name
names_same r entries m name =
    let own = Iff.symm ((means_itself r m.orderly).names name) in
    let both = Iff.trans (some_tested (entries_in r) name) (Iff.trans own (Iff.trans (m.names name) (Iff.symm (some_tested entries name)))) in
    both_ways (some_names (entries_in r) name) (some_names entries name) both.0 both.1

-- What is held of a list, by its keys or by their fingerprints, names what its entries name so.
abbrev pub IsSeenBy : KeysBy → (held seen : Revocations) → Type 0
IsSeenBy by held seen = (entries : List Entry) → Means held entries → Means seen (entries_by by entries)

entry_alone : (entry : Option Entry) (name : Name) → some_names (cons_option entry []) name ≡ said_names entry name
entry_alone None name = refl
entry_alone (Some entry) name = or-false (entry_names entry name)

seen_entries : (by : KeysBy) (entry : Option Entry) → entries_by by (cons_option entry []) ≡ cons_option (entry_by by entry) []
seen_entries Blob entry = refl
seen_entries Fingerprint None = refl
seen_entries Fingerprint (Some entry) = refl

meant_alone : (entry : Option Entry) (held : Revocations) → IsAdded entry nothing held → Means held (cons_option entry [])
meant_alone None held same = rw same nothing_meant
meant_alone (Some entry) held adds = adds.0 [] nothing_meant

-- The entry of a line is held alone.
pub held_alone : (by : KeysBy) (entry : Option Entry) (held seen : Revocations) → IsAdded entry nothing held → IsSeenBy by held seen
    → (name : Name) → some_names (entries_in seen) name ≡ said_names (entry_by by entry) name
held_alone by entry held seen added is name =
    let means = subst (Means seen) (seen_entries by entry) (is (cons_option entry []) (meant_alone entry held added)) in
    names_same seen (cons_option (entry_by by entry) []) means name ∙ entry_alone (entry_by by entry) name
