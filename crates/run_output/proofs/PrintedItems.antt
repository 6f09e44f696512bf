-- The text of consecutive items, and the state of a printer after an answer and after a write.
use Rattle.std.proofs.Common.{◌≡◌, ℕ, ◌+◌, ◌||◌, Bool, List, [], ◌∷◌, ◌++◌, length, take, Option, None, refl, sym, ap, subst, ◌∙◌, append_assoc, arith, length-append}
use Rattle.std.proofs.lemmas.List.{append-nil, take-append-le}
use Rattle.std.proofs.KnownBytes.{Appends-trans}
use Rattle.std.proofs.Math.Bool.{or-false, or_assoc}
use Rattle.std.proofs.Math.Seq.{take-append-add}
use Rattle.std.specs.Io.KnownBytes.{Appends}
use Rattle.run_output.specs.declared.answer.Answer.{Answer}
use Rattle.run_output.specs.Printer.{Printer, HasAdded, HasSaid, IsCut, IsSent, IsPartSent, and_answer, reported_count}
use Rattle.run_output.specs.Run.{Item, RunOutcome, Answered, Passed, Stopped, before, outcome_of}
use Rattle.run_faults.specs.RunFault.{RunFault}

-- two parts, the first of which did not stop
abbrev pub followed_by : RunOutcome → RunOutcome → RunOutcome
followed_by first second =
    record { text = first.text ++ second.text; revoked = first.revoked || second.revoked; stop = second.stop }

pub outcome_of-append : (xs ys : List Item) → (outcome_of xs).stop ≡ None
    → outcome_of (xs ++ ys) ≡ followed_by (outcome_of xs) (outcome_of ys)
outcome_of-append [] ys unstopped = refl
outcome_of-append (Stopped stop ∷ xs) ys unstopped = absurd cc
outcome_of-append (Passed name ∷ xs) ys unstopped = outcome_of-append xs ys unstopped
outcome_of-append (Answered name answer ∷ xs) ys unstopped =
    let later = outcome_of-append xs ys unstopped in
    let text : answer.text ++ ((outcome_of xs).text ++ (outcome_of ys).text) ≡ (answer.text ++ (outcome_of xs).text) ++ (outcome_of ys).text =
    sym (append_assoc answer.text (outcome_of xs).text (outcome_of ys).text) in
    let revoked = sym (or_assoc answer.revoked (outcome_of xs).revoked (outcome_of ys).revoked) in
    ap (before answer) later ∙ rw (text, revoked) refl

-- a part of the text of the first items is a part of the run's text
pub cut_of_front : (run said later : List Item) (before after : Option (List ℕ)) (count : ℕ) → run ≡ said ++ later
    → (outcome_of said).stop ≡ None → IsCut (outcome_of said).text before after count → IsCut (outcome_of run).text before after count
cut_of_front run said later before after count parts unstopped cut =
    let whole : (outcome_of run).text ≡ (outcome_of said).text ++ (outcome_of later).text =
    ap (λ (items : List Item). (outcome_of items).text) parts ∙ ap (λ (o : RunOutcome). o.text) (outcome_of-append said later unstopped) in
    let short = cut.short in
    rw whole (record {
      gone = cut.gone;
      counted = cut.counted;
      taken = subst (λ (t : List ℕ). Appends before after t) (sym (take-append-le cut.gone (outcome_of said).text (outcome_of later).text (omega arith))) cut.taken;
      short = omega (arith, length-append (outcome_of said).text (outcome_of later).text);
    })

reported_count-more : (a b : ℕ) → reported_count (reported_count a + b) ≡ reported_count (a + b)
reported_count-more a b = omega arith

-- An answer waits after the earlier ones.
pub added : (before : Option (List ℕ)) (said : List Item) (name : List ℕ) (answer : Answer) (old : Printer)
    → HasAdded before said old → HasAdded before (said ++ Answered name answer ∷ []) (and_answer old answer)
added before said name answer old has =
    let whole = outcome_of-append said (Answered name answer ∷ []) has.unstopped in
    let text : (outcome_of said).text ++ (answer.text ++ []) ≡ has.gone ++ (old.waiting ++ answer.text) =
    ap (λ (xs : List ℕ). (outcome_of said).text ++ xs) (append-nil answer.text) ∙ ap (λ (xs : List ℕ). xs ++ answer.text) has.parts ∙ append_assoc has.gone old.waiting answer.text in
    record {
      unstopped = ap (λ (o : RunOutcome). o.stop) whole;
      gone = has.gone;
      parts = ap (λ (o : RunOutcome). o.text) whole ∙ text;
      taken = has.taken;
      counted = has.counted;
      revoked = ap (λ (b : Bool). b || answer.revoked) has.revoked ∙ ap (λ (b : Bool). (outcome_of said).revoked || b) (sym (or-false answer.revoked)) ∙ sym (ap (λ (o : RunOutcome). o.revoked) whole);
      working = has.working;
    }

-- an item without an answer changes nothing
pub passed : (before : Option (List ℕ)) (said : List Item) (name : List ℕ) (now : Printer) → HasAdded before said now → HasAdded before (said ++ Passed name ∷ []) now
passed before said name now has =
    let whole = outcome_of-append said (Passed name ∷ []) has.unstopped in
    record {
      unstopped = ap (λ (o : RunOutcome). o.stop) whole;
      gone = has.gone;
      parts = ap (λ (o : RunOutcome). o.text) whole ∙ append-nil (outcome_of said).text ∙ has.parts;
      taken = has.taken;
      counted = has.counted;
      revoked = has.revoked ∙ sym (or-false (outcome_of said).revoked) ∙ sym (ap (λ (o : RunOutcome). o.revoked) whole);
      working = has.working;
    }

-- all was written
pub sent_all : (before : Option (List ℕ)) (items : List Item) (old new : Printer) → HasAdded before items old → IsSent old new → HasSaid before items new
sent_all before items old new has sent =
    let none = sent.none_waits in
    record {
      added = record {
        unstopped = has.unstopped;
        gone = has.gone ++ old.waiting;
        parts = has.parts ∙ sym (append-nil (has.gone ++ old.waiting)) ∙ ap (λ (xs : List ℕ). (has.gone ++ old.waiting) ++ xs) (sym none);
        taken = Appends-trans before old.taken new.taken has.gone old.waiting has.taken sent.taken;
        counted = sent.counted ∙ ap (λ (n : ℕ). reported_count (n + length old.waiting)) has.counted ∙ reported_count-more (length has.gone) (length old.waiting) ∙ ap reported_count (sym (length-append has.gone old.waiting));
        revoked = sent.revoked ∙ has.revoked;
        working = sent.working;
      };
      short = omega (arith, ap (λ (xs : List ℕ). length xs) none);
    }

-- the writer took all of the text
pub taken_all : (before : Option (List ℕ)) (items : List Item) (old new : Printer) → HasAdded before items old → IsSent old new → Appends before new.taken (outcome_of items).text
taken_all before items old new has sent =
    subst (λ (t : List ℕ). Appends before new.taken t) (sym has.parts) (Appends-trans before old.taken new.taken has.gone old.waiting has.taken sent.taken)

-- a part was written
pub sent_part : (before : Option (List ℕ)) (items : List Item) (stop : RunFault) (old new : Printer) → HasAdded before items old → (part : IsPartSent stop old new)
    → IsCut (outcome_of items).text before new.taken new.sent
sent_part before items stop old new has part =
    let short = part.short in
    rw has.parts (record {
      gone = length has.gone + part.count;
      counted = part.counted ∙ ap (λ (n : ℕ). reported_count (n + part.count)) has.counted ∙ reported_count-more (length has.gone) part.count;
      taken = subst (λ (t : List ℕ). Appends before new.taken t) (sym (take-append-add has.gone old.waiting part.count)) (Appends-trans before old.taken new.taken has.gone (take part.count old.waiting) has.taken part.taken);
      short = omega (arith, length-append has.gone old.waiting);
    })
