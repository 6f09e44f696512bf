-- The fingerprints of facts are added one after another.
use Rattle.std.proofs.Common.{◌≡◌, List, [], ◌∷◌, ◌++◌, append-nil, append_assoc, subst, sym}
use Rattle.std.proofs.lemmas.List.Elements.{filter_map-append}
use Rattle.krl_types.specs.Entry.{Entry}
use Rattle.krl_entries.specs.Canonical.{entries_in}
use Rattle.krl_entries.specs.Changes.{MeansMore}
use Rattle.krl_entries.specs.Facts.{Fact, facts_of}
use Rattle.krl_entries.specs.Revocations.{Means, Revocations, nothing}
use Rattle.krl_entries.proofs.OwnEntries.{means_itself}
use Rattle.krl_entries.proofs.SameMeaning.{nothing_meant, same_meaning, same_naming}
use Rattle.krl_fingerprints.specs.Facts.{fact_entries}
use Rattle.krl_fingerprints.specs.Printed.{printed, printed_entry}
use Rattle.krl_fingerprints.proofs.FactEntries.{entries_of, facts_are}
use Rattle.krl_fingerprints.proofs.PrintedNames.{same_printed}

-- Whatever adds the fingerprints of the other facts adds those of all facts.
abbrev pub PrintsRest : (all rest : List Fact) (old mid : Revocations) → Type 0
PrintsRest all rest old mid = (new : Revocations) → MeansMore mid new (printed (entries_of rest)) → MeansMore old new (printed (entries_of all))

pub one_fact_less : (all : List Fact) (fact : Fact) (rest : List Fact) (old mid next : Revocations) → PrintsRest all (fact ∷ rest) old mid
    → MeansMore mid next (printed (fact_entries fact)) → PrintsRest all rest old next
one_fact_less all fact rest old mid next adds one new others =
    let first : List Entry = printed (fact_entries fact) in
    let later : List Entry = printed (entries_of rest) in
    let joined : printed (fact_entries fact ++ entries_of rest) ≡ first ++ later = filter_map-append printed_entry (fact_entries fact) (entries_of rest) in
    adds new (λ entries means. subst (λ (l : List Entry). Means new (entries ++ l)) (sym joined) (subst (Means new) (append_assoc entries first later) (others (entries ++ first) (one entries means))))

pub all_printed : (list prints : Revocations) → PrintsRest (facts_of list) [] nothing prints → (entries : List Entry) → Means list entries → Means prints (printed entries)
all_printed list prints adds entries means =
    let done : MeansMore nothing prints (printed (entries_of (facts_of list))) = adds prints (λ others m. subst (Means prints) (sym (append-nil others)) m) in
    let itself = means_itself list means.orderly in
    same_meaning prints (printed (entries_in list)) (printed entries)
    (subst (λ (l : List Entry). Means prints (printed l)) (facts_are list) (done [] nothing_meant)) (same_printed (entries_in list) entries (same_naming list (entries_in list) entries itself means))
