-- The end of a run, by how far it came and what was written.
use Rattle.std.proofs.Common.{◌≡◌, ℕ, Bool, true, false, List, [], ◌∷◌, ◌++◌, Option, Some, None, Result, Ok, Err, refl, sym, ap, subst, ◌∙◌}
use Rattle.std.specs.Prelude.{is_some}
use Rattle.std.specs.Option.{option_or}
use Rattle.std.specs.Result.{result_err}
use Rattle.std.specs.Io.KnownBytes.{Appends}
use Rattle.std.proofs.lemmas.List.{append-nil}
use Rattle.run_output.specs.Carries.{Carries, IsEnded, Reaches}
use Rattle.run_output.specs.Done.{Ends, EndsBy}
use Rattle.run_output.specs.Printer.{Printer, HasSaid, IsPartSent, IsSent, Sends, nothing_printed}
use Rattle.run_output.specs.Run.{Item, RunOutcome, Stopped, outcome_of, status_of}
use Rattle.run_faults.specs.RunFault.{RunFault, EndedBy, ByOutput, ByMemory, ByInput, ended_by, is_by_output, is_lost}
use Rattle.run_output.proofs.RunParts.{begun}
use Rattle.run_output.proofs.PrintedItems.{cut_of_front, outcome_of-append, sent_part, taken_all}

-- the output had failed
lost_by : (ended : EndedBy) (run : List Item) (before : Option (List ℕ)) (stop : RunFault) (now : Printer) → is_by_output ended ≡ true → IsEnded ended before run stop now → EndsBy ended run before now.taken now.failed stop
lost_by (ByOutput count) run before stop now lost p =
    let off = p.cut_off in
    record { named = off.named; cut = cut_of_front run p.said p.later before now.taken count p.parts p.unstopped off.cut; broken = off.broken }
lost_by ByMemory run before stop now lost p = absurd cc
lost_by ByInput run before stop now lost p = absurd cc

pub ends_lost : (run : List Item) (before : Option (List ℕ)) (stop : Option RunFault) (now : Printer) → is_lost stop ≡ true → Reaches before run stop now → Ends run before now.taken now.failed 255 stop
ends_lost run before None now lost reaches = absurd cc
ends_lost run before (Some stop) now lost reaches = (lost_by (ended_by stop.cause) run before stop now lost reaches, refl)

-- the run has printed the first of its items
record IsFront (before : Option (List ℕ)) (run : List Item) (now : Printer) : Type 0 where
  said : List Item
  later : List Item
  parts : run ≡ said ++ later
  has_said : HasSaid before said now

front_by : (ended : EndedBy) (before : Option (List ℕ)) (run : List Item) (stop : RunFault) (now : Printer) → is_by_output ended ≡ false → IsEnded ended before run stop now → IsFront before run now
front_by (ByOutput count) before run stop now kept p = absurd cc
front_by ByMemory before run stop now kept p = record { said = p.said; later = p.runs_out.next ∷ p.runs_out.later; parts = p.runs_out.parts; has_said = p.has_said }
front_by ByInput before run stop now kept p = record { said = p.said; later = Stopped stop ∷ p.later; parts = p.parts; has_said = p.has_said }

front_of : (before : Option (List ℕ)) (run : List Item) (stop : Option RunFault) (now : Printer) → is_lost stop ≡ false → Reaches before run stop now → IsFront before run now
front_of before run None now kept has = record { said = run; later = []; parts = sym (append-nil run); has_said = has }
front_of before run (Some stop) now kept p = front_by (ended_by stop.cause) before run stop now kept p

-- the output failed at the end
ends_cut : (run : List Item) (before : Option (List ℕ)) (fault : RunFault) (old new : Printer) → IsFront before run old → IsPartSent fault old new → Ends run before new.taken new.failed 255 (Some fault)
ends_cut run before fault old new front part =
    let cut = sent_part before front.said fault old new front.has_said.added part in
    rw part.named (record { named = refl; cut = cut_of_front run front.said front.later before new.taken new.sent front.parts front.has_said.added.unstopped cut; broken = part.broken }, refl)

-- the rest was written
whole_by : (ended : EndedBy) (run : List Item) (before : Option (List ℕ)) (stop : RunFault) (old new : Printer) → is_by_output ended ≡ false → IsEnded ended before run stop old → IsSent old new → EndsBy ended run before new.taken new.failed stop
whole_by (ByOutput count) run before stop old new kept p sent = absurd cc
whole_by ByMemory run before stop old new kept p sent =
    record { done = p.said; runs_out = p.runs_out; unstopped = p.has_said.added.unstopped; taken = taken_all before p.said old new p.has_said.added sent; working = sent.working }
whole_by ByInput run before stop old new kept p sent =
    let whole = ap outcome_of p.parts ∙ outcome_of-append p.said (Stopped stop ∷ p.later) p.has_said.added.unstopped in
    let text : (outcome_of run).text ≡ (outcome_of p.said).text = ap (λ (o : RunOutcome). o.text) whole ∙ append-nil (outcome_of p.said).text in
    record {
      reported = ap (λ (o : RunOutcome). o.stop) whole;
      taken = subst (λ (t : List ℕ). Appends before new.taken t) (sym text) (taken_all before p.said old new p.has_said.added sent);
      working = sent.working;
    }

ends_whole : (run : List Item) (before : Option (List ℕ)) (stop : Option RunFault) (old new : Printer) → is_lost stop ≡ false → Reaches before run stop old → IsSent old new → Ends run before new.taken new.failed (status_of (is_some stop) new.revoked) stop
ends_whole run before None old new kept has sent =
    let revoked : new.revoked ≡ (outcome_of run).revoked = sent.revoked ∙ has.added.revoked in
    (record { reported = has.added.unstopped; taken = taken_all before run old new has.added sent; working = sent.working }, ap (status_of false) revoked)
ends_whole run before (Some stop) old new kept p sent = (whole_by (ended_by stop.cause) run before stop old new kept p sent, refl)

-- the output works unless it ended the run
works : (before : Option (List ℕ)) (run : List Item) (stop : Option RunFault) (now : Printer) → is_lost stop ≡ false → Reaches before run stop now → now.failed ≡ false
works before run stop now kept reaches = (front_of before run stop now kept reaches).has_said.added.working

-- the rest of the answers was written, or the output failed
pub ends_sent : {A : Type 0} (result : Result A RunFault) (run : List Item) (before : Option (List ℕ)) (stop : Option RunFault) (old new : Printer) (revoked : Bool)
    → is_lost stop ≡ false → Reaches before run stop old → (old.failed ≡ false → Sends result old new) → revoked ≡ new.revoked
    → let fault = option_or (result_err result) stop in Ends run before new.taken new.failed (status_of (is_some fault) revoked) fault
ends_sent (Ok value) run before stop old new revoked kept reaches sends same = rw same (ends_whole run before stop old new kept reaches (sends (works before run stop old kept reaches)))
ends_sent (Err fault) run before stop old new revoked kept reaches sends same = ends_cut run before fault old new (front_of before run stop old kept reaches) (sends (works before run stop old kept reaches))

-- A run ended as its printer reports: the final state of the printer's writer is that of the
-- writer.
pub ends_known : {A : Type 0} (run : List Item) (result : Result A RunFault) (before taken taken' : Option (List ℕ)) (writer : ℕ) (failed failed' : Bool) (mid : Printer) (stop : Option RunFault) (status : ℕ) (fault : Option RunFault)
    → Carries run result (nothing_printed before false writer) mid → stop ≡ result_err result
    → ((before : Option (List ℕ)) (run : List Item) → Reaches before run stop mid → Ends run before taken failed status fault)
    → taken' ≡ taken → failed' ≡ failed → Ends run before taken' failed' status fault
ends_known run result before taken taken' writer failed failed' mid stop status fault carries same ends is_taken is_failed =
    rw (is_taken, is_failed) (ends before run (rw same (carries.says before [] (begun before writer))))
