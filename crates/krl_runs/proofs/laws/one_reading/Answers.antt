-- A text has one reading, because it has one spelling and one first fault.
use Rattle.krl_runs.proofs.Common.{◌∙◌, ◌≡◌, ap, entries_of, Header, IsHeld, Known, List, Means}
use Rattle.krl_runs.proofs.Common.{Revocations, subst, sym, ℕ}
use Rattle.krl_format.specs.Krl.{SpelledSection}
use Rattle.krl_runs.proofs.OneReading.{one_way}
use Rattle.krl_runs.proofs.laws.one_reading.Goals as goal

pub returns : goal.returns
returns c = one_way IsHeld (record {
  known = held_once;
  no_fault = λ text known h. h.no_fault;
  fault = c.one_first_fault.ensures;
})
  where
    held_once : (text : List ℕ) (one other : Known) → IsHeld text one → IsHeld text other → one ≡ other
    held_once text one other h k =
        let spelled = c.one_spelling.ensures text one.header other.header h.list.sections k.list.sections h.list.spelled k.list.spelled in
        let means = subst (λ (sections : List SpelledSection). Means other.contents (entries_of sections)) (sym spelled.1) k.list.holds.means in
        let contents = c.entries_decide_what_is_held.ensures one.contents other.contents (entries_of h.list.sections) h.list.holds.means means in
        ap (λ (header : Header). record { header = header; contents = one.contents }) spelled.0
        ∙ ap (λ (contents : Revocations). record { header = other.header; contents = contents }) contents
