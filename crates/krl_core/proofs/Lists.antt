-- A whole list is spelled, and means the entries of its sections.
use Rattle.krl_core.proofs.Common.{entries_of, Entry, Header, HoldsAll}
use Rattle.krl_core.proofs.Common.{HoldsInScope, IsBytes, IsList, IsListAs}
use Rattle.krl_core.proofs.Common.{IsWholeAs, List}
use Rattle.krl_core.proofs.Common.{means_all_within, NamesSame}
use Rattle.krl_core.proofs.Common.{refl, Revocations, same_within, Scope}
use Rattle.krl_core.proofs.Common.{Spells, subst, sym}
use Rattle.krl_core.proofs.Common.{ℕ}
use Rattle.krl_entries.specs.Scope.{all as every_name}
use Rattle.krl_format.proofs.Lists.{row_spelled}

-- a whole list is one that sections spell, if the property of its entries depends only on what they
-- name
pub list_of_whole : (Holds : List ℕ → Revocations → List Entry → Type 0) (text : List ℕ) (header : Header) (contents : Revocations)
    → ((entries others : List Entry) → Holds text contents entries → NamesSame entries others → Holds text contents others) → IsWholeAs Holds text header contents
    → IsListAs Holds text header contents
list_of_whole Holds text header contents same h =
    let k = row_spelled h.fields h.state h.leads h.may_end (subst IsBytes h.text_is h.are_bytes) in
    let at_text : Spells text h.state.header k.sections = subst (λ (x : List ℕ). Spells x h.state.header k.sections) (sym h.text_is) k.spelled in
    record {
      sections = k.sections;
      spelled = subst (λ (x : Header). Spells text x k.sections) (sym h.header_is) at_text;
      within = h.within;
      holds = same h.state.entries (entries_of k.sections) h.holds k.named;
    }

pub same_holds_within : (scope : Scope) (text : List ℕ) (contents : Revocations) (entries others : List Entry) → HoldsInScope scope text contents entries → NamesSame entries others
    → HoldsInScope scope text contents others
same_holds_within scope text contents entries others h same =
    record { means = same_within scope contents entries others h.means same; within = h.within; bounds = h.bounds }

-- if all names are in scope
pub holds_all : (text : List ℕ) (contents : Revocations) (entries : List Entry) → HoldsInScope every_name text contents entries → HoldsAll text contents entries
holds_all text contents entries h = let b = h.bounds refl in record { means = means_all_within contents entries h.means; held_is = b.0; stored_is = b.1 }

pub list_of_all : (text : List ℕ) (header : Header) (contents : Revocations) → IsListAs (HoldsInScope every_name) text header contents → IsList text header contents
list_of_all text header contents h =
    record { sections = h.sections; spelled = h.spelled; within = h.within; holds = holds_all text contents (entries_of h.sections) h.holds }
