-- Reading a list that was written.
use Rattle.krl_writer.proofs.Common.{[], ◌<◌, ◌^◌, ◌∷◌, ◌≡◌, ◌≤◌, EachPlan, entries_of, Group}
use Rattle.krl_writer.proofs.Common.{Header, IsKrlText, IsLeastPlan, IsOrderly, IsPlan, length}
use Rattle.krl_writer.proofs.Common.{limit, List, Means, Revocations, Section, sections_of}
use Rattle.krl_writer.proofs.Common.{SpelledSection, Spells, subst, sym, ℕ}
use Rattle.krl_writer.proofs.WrittenNames.{sections_mean}
use Rattle.krl_entries.proofs.OneMeaning.{one_meaning}
use Rattle.krl_format.proofs.OneSpelling.{spelled_once}
use Rattle.krl_writer.proofs.Sections.{text_spelled}

-- each least plan is a plan
pub are_plans : (plans : List (List Group)) (listed : List Section) → EachPlan IsLeastPlan plans listed → EachPlan IsPlan plans listed
are_plans [] [] each = tt
are_plans [] (first ∷ listed) each = absurd each
are_plans (plan ∷ plans) [] each = absurd each
are_plans (plan ∷ plans) (first ∷ listed) each = (each.0.is_cheapest.is_plan, are_plans plans listed each.1)

-- a list that was written: the sections that it spells, which mean the stored revocations
pub record SpelledOf (header : Header) (r : Revocations) (text : List ℕ) : Type 0 where
  pub sections : List SpelledSection
  pub spelled : Spells text header sections
  pub means : Means r (entries_of sections)

pub written_spelled : (header : Header) (r : Revocations) (text : List ℕ) → IsKrlText header r text → length text ≤ limit → header.version < 2 ^ 64 → header.date < 2 ^ 64 → IsOrderly r → SpelledOf header r text
written_spelled header r text is short version date orderly =
    let each = are_plans is.plans r.sections is.least in
    let same = is.text_is in
    let within = subst (λ (t : List ℕ). length t ≤ limit) same short in
    let spelled = text_spelled header is.plans r version date orderly each within in
    record {
      sections = sections_of is.plans r;
      spelled = subst (λ (t : List ℕ). Spells t header (sections_of is.plans r)) (sym same) spelled;
      means = sections_mean is.plans r orderly each;
    }

pub read_back : (header read : Header) (r held : Revocations) (text : List ℕ) → SpelledOf header r text → (sections : List SpelledSection) → Spells text read sections → Means held (entries_of sections) → (read ≡ header) × (held ≡ r)
read_back header read r held text w sections spelled held_means =
    let one = spelled_once text read header sections w.sections spelled w.spelled in
    let means : Means held (entries_of w.sections) = subst (λ (all : List SpelledSection). Means held (entries_of all)) one.1 held_means in
    (one.0, one_meaning held r (entries_of w.sections) means w.means)
