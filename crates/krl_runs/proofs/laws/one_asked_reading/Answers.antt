-- A text has one list of entries, because it has one spelling and one first fault.
use Rattle.krl_runs.proofs.Common.{◌∙◌, ◌≡◌, ap, entries_of, HasEntries, List, sym, ℕ}
use Rattle.krl_types.specs.Entry.{Entry}
use Rattle.krl_runs.proofs.OneReading.{one_way}
use Rattle.krl_runs.proofs.laws.one_asked_reading.Goals as goal

pub returns : goal.returns
returns c = one_way HasEntries (record {
  known = entries_once;
  no_fault = λ text entries h. h.no_fault;
  fault = c.one_first_fault.ensures;
})
  where
    entries_once : (text : List ℕ) (one other : List Entry) → HasEntries text one → HasEntries text other → one ≡ other
    entries_once text one other h k =
        let spelled = c.one_spelling.ensures text h.header k.header h.sections k.sections h.spelled k.spelled in
        h.entries_are ∙ ap entries_of spelled.1 ∙ sym k.entries_are
