-- Parts of a run, one after another.
use Rattle.std.proofs.Common.{◌≡◌, ℕ, ◌<◌, false, true, List, [], ◌∷◌, ◌++◌, length, Option, Result, Ok, Err, refl, sym, ap, subst, ◌∙◌, append_assoc, lit<}
use Rattle.std.specs.Result.{result_err}
use Rattle.std.proofs.KnownBytes.{Appends-nil}
use Rattle.std.proofs.lemmas.List.{append-nil}
use Rattle.run_output.specs.declared.answer.Answer.{Answer}
use Rattle.run_output.specs.Carries.{Carries, IsEnded, Reaches}
use Rattle.run_output.specs.Printer.{Printer, HasSaid, Sends, and_answer, batch, nothing_printed}
use Rattle.run_output.specs.Run.{Item, Answered, Passed, Stopped, IsWithheld}
use Rattle.run_faults.specs.RunFault.{RunFault, EndedBy, ByOutput, ByMemory, ByInput, ended_by}
use Rattle.run_output.proofs.PrintedItems.{added, passed, sent_all, sent_part}

-- nothing was printed yet
pub begun : (taken : Option (List ℕ)) (writer : ℕ) → HasSaid taken [] (nothing_printed taken false writer)
begun taken writer =
    record {
      added = record { unstopped = refl; gone = []; parts = refl; taken = Appends-nil taken; counted = refl; revoked = refl; working = refl };
      short = lit< tt;
    }

pub carries_none : {A : Type 0} (value : A) (now : Printer) → Carries [] (Ok value) now now
carries_none value now = record { says = λ before said has. subst (λ (items : List Item). HasSaid before items now) (sym (append-nil said)) has; writer = refl }

-- one part after another
pub carries_then : {A B : Type 0} (xs ys : List Item) (value : A) (result : Result B RunFault) (old mid new : Printer)
    → Carries xs (Ok value) old mid → Carries ys result mid new → Carries (xs ++ ys) result old new
carries_then xs ys value result old mid new first second = record {
  says = λ before said has.
      subst (λ (items : List Item). Reaches before items (result_err result) new) (append_assoc said xs ys) (second.says before (said ++ xs) (first.says before said has));
  writer = second.writer ∙ first.writer;
}

-- The items after an end are ignored.
ended_more : (ended : EndedBy) (before : Option (List ℕ)) (items more : List Item) (stop : RunFault) (now : Printer) → IsEnded ended before items stop now → IsEnded ended before (items ++ more) stop now
ended_more (ByOutput count) before items more stop now p =
    record { said = p.said; later = p.later ++ more; parts = ap (λ (xs : List Item). xs ++ more) p.parts ∙ append_assoc p.said p.later more; unstopped = p.unstopped; cut_off = p.cut_off }
ended_more ByMemory before items more stop now p =
    let s = p.runs_out in
    let parts = ap (λ (xs : List Item). xs ++ more) s.parts ∙ append_assoc p.said (s.next ∷ s.later) more in
    record { said = p.said; runs_out = record { next = s.next; later = s.later ++ more; parts = parts; named = s.named }; has_said = p.has_said }
ended_more ByInput before items more stop now p =
    record { said = p.said; later = p.later ++ more; parts = ap (λ (xs : List Item). xs ++ more) p.parts ∙ append_assoc p.said (Stopped stop ∷ p.later) more; has_said = p.has_said }

pub carries_more : {A B : Type 0} (xs ys : List Item) (stop : RunFault) (old new : Printer) → Carries {A = A} xs (Err stop) old new → Carries {A = B} (xs ++ ys) (Err stop) old new
carries_more xs ys stop old new first = record {
  says = λ before said has.
      subst (λ (items : List Item). IsEnded (ended_by stop.cause) before items stop new) (append_assoc said xs ys) (ended_more (ended_by stop.cause) before (said ++ xs) ys stop new (first.says before said has));
  writer = first.writer;
}

-- the current item ends the run
ends_here : (ended : EndedBy) (item : Item) (stop : RunFault) (now : Printer) (before : Option (List ℕ)) (said : List Item) → IsWithheld ended item stop → HasSaid before said now → IsEnded ended before (said ++ item ∷ []) stop now
ends_here (ByOutput count) item stop now before said withheld has = absurd withheld
ends_here ByMemory item stop now before said withheld has = record { said = said; runs_out = record { next = item; later = []; parts = refl; named = withheld }; has_said = has }
ends_here ByInput item stop now before said withheld has = record { said = said; later = []; parts = ap (λ (i : Item). said ++ i ∷ []) withheld; has_said = has }

-- an item that was not given
pub carries_withheld : {A : Type 0} (item : Item) (stop : RunFault) (now : Printer) → IsWithheld (ended_by stop.cause) item stop → Carries {A = A} (item ∷ []) (Err stop) now now
carries_withheld item stop now withheld = record { says = λ before said has. ends_here (ended_by stop.cause) item stop now before said withheld has; writer = refl }

-- an item without an answer
pub carries_passed : {A : Type 0} (value : A) (name : List ℕ) (now : Printer) → Carries (Passed name ∷ []) (Ok value) now now
carries_passed value name now = record { says = λ before said has. record { added = passed before said name now has.added; short = has.short }; writer = refl }

-- The value that a part returns is irrelevant, only its end counts.
pub carries_as : {A B : Type 0} (items : List Item) (first : Result A RunFault) (second : Result B RunFault) (old new : Printer) → result_err first ≡ result_err second → Carries items first old new → Carries items second old new
carries_as items first second old new same carries = record {
  says = λ before said has. subst (λ (stop : Option RunFault). Reaches before (said ++ items) stop new) same (carries.says before said has);
  writer = carries.writer;
}

-- a printer that has failed prints nothing
pub carries_lost : {A : Type 0} (items : List Item) (result : Result A RunFault) (now : Printer) → now.failed ≡ true → Carries items result now now
carries_lost items result now failed = record { says = λ before said has. let working = has.added.working in absurd cc; writer = refl }

-- an answer that waits
pub carries_added : {A : Type 0} (value : A) (name : List ℕ) (answer : Answer) (old : Printer) → length (and_answer old answer).waiting < batch
    → Carries (Answered name answer ∷ []) (Ok value) old (and_answer old answer)
carries_added value name answer old short = record {
  says = λ before said has. record { added = added before said name answer old has.added; short = short };
  writer = refl;
}

-- an answer that fills a batch
pub carries_sent : {A : Type 0} (result : Result A RunFault) (name : List ℕ) (answer : Answer) (old new : Printer) → Sends result (and_answer old answer) new → new.writer ≡ old.writer
    → Carries (Answered name answer ∷ []) result old new
carries_sent (Ok value) name answer old new sends writer = record {
  says = λ before said has. sent_all before (said ++ Answered name answer ∷ []) (and_answer old answer) new (added before said name answer old has.added) sends;
  writer = writer;
}
carries_sent (Err stop) name answer old new sends writer =
    rw sends.named (record {
      says = λ before said has.
          let whole = added before said name answer old has.added in
          record {
            said = said ++ Answered name answer ∷ [];
            later = [];
            parts = sym (append-nil (said ++ Answered name answer ∷ []));
            unstopped = whole.unstopped;
            cut_off = record {
              named = refl;
              cut = sent_part before (said ++ Answered name answer ∷ []) stop (and_answer old answer) new whole sends;
              broken = sends.broken;
            };
          };
      writer = writer;
    })

-- the lines that wait
pub carries_flushed : {A : Type 0} (result : Result A RunFault) (old new : Printer) → Sends result old new → new.writer ≡ old.writer
    → Carries [] result old new
carries_flushed (Ok value) old new sends writer = record {
  says = λ before said has.
      subst (λ (items : List Item). HasSaid before items new) (sym (append-nil said)) (sent_all before said old new has.added sends);
  writer = writer;
}
carries_flushed (Err stop) old new sends writer =
    rw sends.named (record {
      says = λ before said has. record {
        said = said;
        later = [];
        parts = refl;
        unstopped = has.added.unstopped;
        cut_off = record { named = refl; cut = sent_part before said stop old new has.added sends; broken = sends.broken };
      };
      writer = writer;
    })
