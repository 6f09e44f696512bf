-- The name and the bytes of a list decide the facts about it.
use Rattle.show_run.proofs.Common.{◌∙◌, ◌∷◌, ◌≡◌, ap, facts_of, false, list_facts, List, ListFact}
use Rattle.show_run.proofs.Common.{Option, refl, Some, subst, sym, true, ℕ}
use Rattle.std.specs.Prelude.{Bool}
use Rattle.krl_entries.proofs.OneMeaning.{one_meaning}
use Rattle.krl_entries.specs.Revocations.{Means, Revocations}
use Rattle.krl_format.proofs.OneSpelling.{spelled_once}
use Rattle.krl_format.specs.Entries.{entries_of}
use Rattle.krl_format.specs.declared.header.Header.{Header}
use Rattle.krl_types.specs.Entry.{Entry}
use Rattle.plain_list.specs.Any.{NamesIf, begins_list}
use Rattle.any_list.specs.List.{IsReadList}
use Rattle.any_list.specs.declared.list.List.{List as ListOf}

one_list : (begins : Bool) (bytes : List ℕ) (one other : Option Header) (entries others : List Entry) → NamesIf begins bytes one entries → NamesIf begins bytes other others → (one ≡ other) × (entries ≡ others)
one_list true bytes one other entries others named also =
    let same = spelled_once bytes named.is.header also.is.header named.is.sections also.is.sections named.is.spelled also.is.spelled in
    (named.header_is ∙ ap Some same.0 ∙ sym also.header_is, named.is.entries_are ∙ ap entries_of same.1 ∙ sym also.is.entries_are)
one_list false bytes one other entries others named also = (named.header_is ∙ sym also.header_is, named.is.entries_are ∙ sym also.is.entries_are)

facts_with : (name other : List ℕ) (header more : Option Header) (held also : Revocations) → name ≡ other → header ≡ more → held ≡ also → (ListFact name header ∷ facts_of held) ≡ ListFact other more ∷ facts_of also
facts_with name other header more held also names headers same = rw (names, headers, same) refl

-- the bytes of a list decide what is held of it
pub one_held : (name called bytes : List ℕ) (one other : ListOf) → IsReadList name bytes one → IsReadList called bytes other → one.revocations ≡ other.revocations
one_held name called bytes one other is also =
    let same = one_list (begins_list bytes) bytes one.header other.header is.entries also.entries is.named also.named in
    one_meaning one.revocations other.revocations also.entries (subst (λ (entries : List Entry). Means one.revocations entries) same.1 is.means) also.means

pub one_text : (name bytes : List ℕ) (one other : ListOf) → IsReadList name bytes one → IsReadList name bytes other → list_facts one ≡ list_facts other
unfolding list_facts
one_text name bytes one other is also =
    let same = one_list (begins_list bytes) bytes one.header other.header is.entries also.entries is.named also.named in
    let held = one_held name name bytes one other is also in
    facts_with one.name.now other.name.now one.header other.header one.revocations other.revocations (is.name_is ∙ sym also.name_is) same.0 held
