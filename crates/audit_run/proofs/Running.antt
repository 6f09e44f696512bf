-- The end of a whole audit.
use Rattle.std.proofs.Common.{◌≡◌, ℕ, Bool, true, false, List, [], ◌∷◌, ◌++◌, codes, Option, Some, None, Result}
use Rattle.std.proofs.Common.{refl, sym, ap, subst, ◌∙◌, append_assoc}
use Rattle.std.specs.Result.{result_err}
use Rattle.run_faults.specs.RunFault.{RunFault, EndedBy, ByInput, ByMemory, ByOutput, ended_by}
use Rattle.run_output.specs.Carries.{Carries, IsEnded, Reaches}
use Rattle.run_output.specs.Done.{Ends}
use Rattle.run_output.specs.Printer.{HasSaid, Printer}
use Rattle.run_output.specs.Run.{Answered, Item, Passed, Stopped, outcome_of}
use Rattle.krl_types.specs.Subject.{Subject}
use Rattle.audit_text.specs.Answer.{Answer}
use Rattle.audit_text.specs.Place.{label_now}
use Rattle.krl_audit.specs.Audit.{EndsAudit, IsUsable, JudgesAs, answers_but}
use Rattle.krl_audit.proofs.Canaries.{answers_as_meant, answers_of}
use Rattle.audit_run.specs.declared.summary.Summary.{Summary}
use Rattle.krl_audit.specs.declared.counts.Counts.{Counts}
use Rattle.krl_audit.specs.declared.judge.Judge.{Judge}
use Rattle.krl_audit.specs.declared.judge.Shown.{Shown}
use Rattle.audit_run.proofs.Auditing.{quiet_stopped}
use Rattle.audit_run.proofs.SoughtFiles.{cut_off_met}
use Rattle.audit_run.specs.Fact.{Fact}
use Rattle.audit_run.specs.Run.{AreCutOff, AreMet, EndsAuditBy, IsAudit, Readers, all_audited, ended_at_revoked, last_items, lost, names_fault}
use Rattle.audit_run.specs.Run.{no_names, ran_out, stop_fault, summary_of, summary_unless}
use Rattle.audit_run.specs.Visits.{Audits, Says, State, Tally, Visit, nothing_tallied, visits_items}
use Rattle.audit_run.specs.declared.order.Order.{Order}
use Rattle.audit_run.specs.declared.run.Queried.{Queried}
use Rattle.audit_run.specs.declared.stop.Stop.{Stop}
use Rattle.audit_run.specs.declared.stop.Stop.TheVariants as stops

-- An audit came to an end: what it printed, and how far it came.
abbrev pub Ended : (Fact → Type 0) → Order → Queried → Readers → (Subject → Answer) → Option (List ℕ)
    → Option RunFault → State → State → Type 0
Ended Knows order queried readers answers before stop old new =
    (run : List Item)
    × (IsAudit Knows order queried readers answers old.tally new.tally stop run
    × (Reaches before run stop new.printer × (new.printer.writer ≡ old.printer.writer)))

-- some answers are those of the list and the texts
pub some_answers : (judge : Judge) → IsUsable judge.texts → (answers : Subject → Answer) × JudgesAs judge answers
some_answers judge usable = answers_of judge.canaries judge.list.now judge.texts usable

-- what was printed, in the form that the command asks for
said_so : (order : Order) (answers : Subject → Answer) (visits : List Visit) (stop : Option Stop) (before : Option (List ℕ)) (old new : State)
    → old.judge.shown ≡ order.shown → Audits answers visits stop old new → HasSaid before [] old.printer
    → Says before (visits_items answers order.shown visits) stop new
said_so order answers visits stop before old new shown audits said =
    subst (λ (s : Shown). Says before (visits_items answers s visits) stop new) shown (audits.says before [] said)

pub ended_all : (Knows : Fact → Type 0) (order : Order) (queried : Queried) (readers : Readers)
    (answers : Subject → Answer) (before : Option (List ℕ)) (visits : List Visit) (result : Result (Unit {0}) RunFault) (old mid new : State)
    → AreMet Knows order.search true order.sought.now readers order.paths.now visits → Audits answers visits None old mid
    → Carries (last_items (label_now mid.judge.shown.label) order.list.now queried mid.tally) result mid.printer new.printer
    → mid.judge ≡ old.judge → new.tally ≡ mid.tally
    → old.judge.shown ≡ order.shown → HasSaid before [] old.printer
    → Ended Knows order queried readers answers before (result_err result) old new
ended_all Knows order queried readers answers before visits result old mid new given audits carries judge same shown said =
    let items = visits_items answers order.shown visits in
    let has : HasSaid before items mid.printer = said_so order answers visits None before old mid shown audits said in
    let label = label_now order.shown.label in
    let kept : mid.judge.shown ≡ order.shown = ap (λ (j : Judge). j.shown) judge ∙ shown in
    let labelled : Carries (last_items label order.list.now queried mid.tally) result mid.printer new.printer =
    subst (λ (s : Shown). Carries (last_items (label_now s.label) order.list.now queried mid.tally) result mid.printer new.printer) kept carries in
    let last : Carries (last_items label order.list.now queried new.tally) result mid.printer new.printer =
    subst (λ (t : Tally). Carries (last_items label order.list.now queried t) result mid.printer new.printer) (sym same) labelled in (
      items ++ last_items label order.list.now queried new.tally,
      (
        record {
          visits = visits;
          whole = true;
          met = given;
          timely = audits.timely;
          quiet = λ silent. audits.quiet (ap (λ (s : Shown). s.revoked) shown ∙ silent);
          is_run = all_audited refl refl;
          tally_is = λ none. same ∙ audits.tallies;
        },
        (last.says before items has, last.writer ∙ audits.writer),
      ),
    )

some_is : {A : Type 0} (x : A) → Some x ≡ None → ⊥
some_is x is = cc

-- an audit was stopped
pub ended_stopped : (Knows : Fact → Type 0) (order : Order) (queried : Queried) (readers : Readers)
    (answers : Subject → Answer) (before : Option (List ℕ)) (visits : List Visit) (stop : Stop) (old new : State)
    → AreMet Knows order.search false order.sought.now readers order.paths.now visits → Audits answers visits (Some stop) old new
    → new.judge ≡ old.judge → old.judge.shown ≡ order.shown → HasSaid before [] old.printer
    → Ended Knows order queried readers answers before (stop_fault stop) old new
ended_stopped Knows order queried readers answers before visits stops.Revoked old new given audits judge shown said =
    let at = said_so order answers visits (Some stops.Revoked) before old new shown audits said in
    let kept : new.judge.shown ≡ order.shown = ap (λ (j : Judge). j.shown) judge ∙ shown in
    let quiet : order.shown.revoked ≡ false = subst (λ (s : Shown). s.revoked ≡ false) kept at.1.0 in (
      visits_items answers order.shown visits,
      (
        record {
          visits = visits;
          whole = false;
          met = given;
          timely = audits.timely;
          quiet = λ silent. audits.quiet (ap (λ (s : Shown). s.revoked) shown ∙ silent);
          is_run = ended_at_revoked quiet at.1.1 refl refl;
          tally_is = λ none. audits.tallies;
        },
        (at.0, audits.writer),
      ),
    )
ended_stopped Knows order queried readers answers before visits stops.NoMemory old new given audits judge shown said =
    let front = said_so order answers visits (Some stops.NoMemory) before old new shown audits said in (
      front.said ++ Passed (codes "memory") ∷ [],
      (
        record {
          visits = visits;
          whole = false;
          met = given;
          timely = audits.timely;
          quiet = λ silent. audits.quiet (ap (λ (s : Shown). s.revoked) shown ∙ silent);
          is_run = ran_out front.said front.later front.parts refl refl;
          tally_is = λ none. absurd (some_is _ none);
        },
        (
          record {
            said = front.said;
            runs_out = record { next = Passed (codes "memory"); later = []; parts = refl; named = refl };
            has_said = front.has_said;
          },
          audits.writer,
        ),
      ),
    )
ended_stopped Knows order queried readers answers before visits (stops.Lost count) old new given audits judge shown said = (
  visits_items answers order.shown visits,
  (
    record {
      visits = visits;
      whole = false;
      met = given;
      timely = audits.timely;
      quiet = λ silent. audits.quiet (ap (λ (s : Shown). s.revoked) shown ∙ silent);
      is_run = lost count refl refl;
      tally_is = λ none. absurd (some_is _ none);
    },
    (said_so order answers visits (Some (stops.Lost count)) before old new shown audits said, audits.writer),
  ),
)

-- names could not be read to their end
pub ended_unread : (Knows : Fact → Type 0) (order : Order) (queried : Queried) (readers : Readers)
    (answers : Subject → Answer) (before : Option (List ℕ)) (visits : List Visit) (old new : State)
    → AreCutOff Knows order.search order.sought.now readers visits → Audits answers visits None old new
    → old.judge.shown ≡ order.shown → HasSaid before [] old.printer
    → Ended Knows order queried readers answers before (Some (names_fault order.names_from.now)) old new
ended_unread Knows order queried readers answers before visits old new unread audits shown said =
    let items = visits_items answers order.shown visits in
    let end = names_fault order.names_from.now in (
      items ++ Stopped end ∷ [],
      (
        record {
          visits = visits;
          whole = false;
          met = cut_off_met Knows order.search order.sought.now readers order.paths.now visits unread;
          timely = audits.timely;
          quiet = λ silent. quiet_stopped answers old.tally visits
              (audits.quiet (ap (λ (s : Shown). s.revoked) shown ∙ silent));
          is_run = no_names unread refl refl refl;
          tally_is = λ none. absurd (some_is _ none);
        },
        (
          record {
            said = items;
            later = [];
            parts = refl;
            has_said = said_so order answers visits None before old new shown audits said;
          },
          audits.writer,
        ),
      ),
    )

-- the final state of the printer's writer is that of the writer
pub ends_there : (run : List Item) (counts : Counts) (before taken taken' : Option (List ℕ)) (failed failed' : Bool) (status : ℕ)
    (fault : Option RunFault) → EndsAudit run counts before taken failed status fault → taken' ≡ taken → failed' ≡ failed
    → EndsAudit run counts before taken' failed' status fault
ends_there run counts before taken taken' failed failed' status fault ends is_taken is_failed = rw (is_taken, is_failed) ends

-- ---- a stop is reported

-- a run with one more stop has one
never_none : (run : List Item) (stop : RunFault) → (outcome_of (run ++ Stopped stop ∷ [])).stop ≡ None → ⊥
never_none [] stop is = some_is stop is
never_none (Answered name answer ∷ items) stop is = never_none items stop is
never_none (Passed name ∷ items) stop is = never_none items stop is
never_none (Stopped other ∷ items) stop is = some_is other is

-- the items after an end are ignored
ended_more : (ended : EndedBy) (before : Option (List ℕ)) (items more : List Item) (stop : RunFault) (now : Printer)
    → IsEnded ended before items stop now → IsEnded ended before (items ++ more) stop now
ended_more (ByOutput count) before items more stop now p = record {
  said = p.said;
  later = p.later ++ more;
  parts = ap (λ (xs : List Item). xs ++ more) p.parts ∙ append_assoc p.said p.later more;
  unstopped = p.unstopped;
  cut_off = p.cut_off;
}
ended_more ByMemory before items more stop now p =
    let s = p.runs_out in
    let parts = ap (λ (xs : List Item). xs ++ more) s.parts ∙ append_assoc p.said (s.next ∷ s.later) more in
    record {
      said = p.said;
      runs_out = record { next = s.next; later = s.later ++ more; parts = parts; named = s.named };
      has_said = p.has_said;
    }
ended_more ByInput before items more stop now p = record {
  said = p.said;
  later = p.later ++ more;
  parts = ap (λ (xs : List Item). xs ++ more) p.parts ∙ append_assoc p.said (Stopped stop ∷ p.later) more;
  has_said = p.has_said;
}

-- the end of a printer says so of each run, so also of one that has a stop later
pub stop_is_kept : (stop : Option RunFault) (run : List Item) (before taken : Option (List ℕ)) (mid : Printer) (failed : Bool)
    (status : ℕ) (fault : Option RunFault) → Reaches before run stop mid
    → ((before : Option (List ℕ)) (run : List Item) → Reaches before run stop mid → Ends run before taken failed status fault)
    → fault ≡ None → stop ≡ None
stop_is_kept None run before taken mid failed status fault reaches ends is = refl
stop_is_kept (Some stop) run before taken mid failed status None reaches ends is =
    let more = ended_more (ended_by stop.cause) before run (Stopped stop ∷ []) stop mid reaches in
    absurd (never_none run stop (ends before (run ++ Stopped stop ∷ []) more).0.reported)
stop_is_kept (Some stop) run before taken mid failed status (Some fault) reaches ends is = absurd (some_is fault is)

-- ---- what the list and the canaries mean

-- An audit by the answers that the list and the texts give ends so by what they mean.
pub ends_as_meant : (Knows : Fact → Type 0) (order : Order) (queried : Queried) (readers : Readers) (before after : Option (List ℕ)) (failed : Bool)
    (summary : Option Summary) (status : ℕ) (fault : Option RunFault) (tally : Tally) → summary ≡ summary_unless fault (summary_of tally queried)
    → ((answers : Subject → Answer) → JudgesAs (record { list = queried.list; canaries = order.canaries; texts = order.texts; shown = order.shown }) answers
    → (stop : Option RunFault) × (run : List Item) × (IsAudit Knows order queried readers answers nothing_tallied tally stop run
    × (EndsAudit run tally.counts before after failed status fault × (fault ≡ None → stop ≡ None))))
    → EndsAuditBy Knows order queried readers before after failed summary status fault
ends_as_meant Knows order queried readers before after failed summary status fault tally summary_is ends = record {
  tally = tally;
  summary_is = summary_is;
  ends = λ canaries are entries means texts indexed.
      ends (answers_but canaries entries texts)
      (answers_as_meant order.canaries queried.list.now order.texts canaries entries texts are means indexed);
}
