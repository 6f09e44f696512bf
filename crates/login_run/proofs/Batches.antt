-- The lines of a batch, one after another.
use Rattle.std.proofs.Common.{◌≡◌, ℕ, List, [], ◌∷◌, ◌++◌, Option, Some, None, Result, Ok, Err, refl, sym, ap, subst, ◌∙◌}
use Rattle.std.specs.Prelude.{OnOk}
use Rattle.run_faults.specs.RunFault.{RunFault}
use Rattle.krl_audit.specs.declared.auditor.Auditor.{Auditor}
use Rattle.login_run.specs.Finding.{TellsLines, next_number, number_after}
use Rattle.login_run.specs.Log.{AreText, BeginsLine, EndsLine, IsAfterLine, IsLeft, Takes, onto}
use Rattle.login_run.specs.Packed.{packed_at}
use Rattle.login_run.specs.declared.batch.LineStart.{LineStart}
use Rattle.login_run.specs.declared.batch.Stop.{Stop}
use Rattle.login_run.specs.declared.batch.Stop.TheVariants as stops
use Rattle.login_run.proofs.Lines.{line_memory, lines_none, lines_then}
use Rattle.login_run.proofs.Parts.{onto_none}

text_before : (number : ℕ) (line : List ℕ) (lines : List (List ℕ)) (result : Result (Option Stop) RunFault) → packed_at number line ≡ None → OnOk result (AreText (next_number number) lines) → OnOk result (AreText number (line ∷ lines))
text_before number line lines (Ok value) none text = (none, text)
text_before number line lines (Err stop) none text = tt

pub takes_line : {W : Type 0} (name part : List ℕ) (parts more : List (List ℕ)) (start mid next : LineStart) (result : Result (Option Stop) RunFault) (old between new : Auditor W)
    → parts ≡ part ∷ more → EndsLine name part start mid (Ok None) old between → Takes name more mid next result between new → Takes name parts start next result old new
takes_line {W} name part parts more start mid next result old between new split e t =
    let line = start.front.items ++ part in
    let left_is : IsLeft (number_after (next_number start.number) t.ended) t.left next result = subst (λ (n : ℕ). IsLeft (number_after n t.ended) t.left next result) e.after.1.1 t.left_is in
    let text : OnOk result (AreText (next_number start.number) t.ended) = subst (λ (n : ℕ). OnOk result (AreText n t.ended)) e.after.1.1 t.text in
    let later : TellsLines between name (next_number start.number) t.ended result new = subst (λ (n : ℕ). TellsLines between name n t.ended result new) e.after.1.1 t.tells in
    let rest : more ≡ t.ended ++ t.left = sym (onto_none more) ∙ ap (λ (f : List ℕ). onto f more) (sym e.after.1.0) ∙ t.parts_are in
    record {
      ended = line ∷ t.ended;
      left = t.left;
      parts_are = ap (onto start.front.items) split ∙ ap (λ (p : List (List ℕ)). line ∷ p) rest;
      left_is = left_is;
      text = text_before start.number line t.ended result e.after.0 text;
      tells = lines_then name start.number line t.ended None result old between new e.tells later;
    }

left_by : (number : ℕ) (line : List ℕ) (more : List (List ℕ)) (start next : LineStart) (stop : Stop) → number ≡ start.number → IsAfterLine line start next (Ok (Some stop)) → IsLeft number (line ∷ more) next (Ok (Some stop))
left_by number line more start next stops.LongLine same after = (record { long = line; later = more; parts_are = refl; too_long = after.0 }, after.1 ∙ sym same)
left_by number line more start next (stops.Packed packed) same after =
    record { first = line; later = more; parts_are = refl; shows = subst (λ (n : ℕ). packed_at n line ≡ Some packed) (sym same) after }

-- the rest is not read
pub takes_stop : {W : Type 0} (name part : List ℕ) (parts more : List (List ℕ)) (start next : LineStart) (stop : Stop) (old new : Auditor W)
    → parts ≡ part ∷ more → EndsLine name part start next (Ok (Some stop)) old new → Takes name parts start next (Ok (Some stop)) old new
takes_stop name part parts more start next stop old new split e = record {
  ended = [];
  left = (start.front.items ++ part) ∷ more;
  parts_are = ap (onto start.front.items) split;
  left_is = left_by start.number (start.front.items ++ part) more start next stop refl e.after;
  text = tt;
  tells = e.tells;
}

-- the run is stopped
pub takes_err : {W : Type 0} (name part : List ℕ) (parts more : List (List ℕ)) (start next : LineStart) (stop : RunFault) (old new : Auditor W)
    → parts ≡ part ∷ more → EndsLine name part start next (Err stop) old new → Takes name parts start next (Err stop) old new
takes_err name part parts more start next stop old new split e = record {
  ended = (start.front.items ++ part) ∷ [];
  left = more;
  parts_are = ap (onto start.front.items) split;
  left_is = tt;
  text = tt;
  tells = e.tells;
}

-- the last part is unfinished
pub takes_begin : {W : Type 0} (name part : List ℕ) (parts : List (List ℕ)) (start next : LineStart) (result : Result (Option Stop) RunFault) (now : Auditor W)
    → parts ≡ part ∷ [] → BeginsLine name part start next result → Takes name parts start next result now now
takes_begin name part parts start next (Ok None) now split begins = record {
  ended = [];
  left = (start.front.items ++ part) ∷ [];
  parts_are = ap (onto start.front.items) split;
  left_is = (ap (λ (line : List ℕ). line ∷ []) (sym begins.0), begins.1);
  text = tt;
  tells = lines_none name start.number None now;
}
takes_begin name part parts start next (Ok (Some stops.LongLine)) now split begins = record {
  ended = [];
  left = (start.front.items ++ part) ∷ [];
  parts_are = ap (onto start.front.items) split;
  left_is = (record { long = start.front.items ++ part; later = []; parts_are = refl; too_long = begins.0 }, begins.1);
  text = tt;
  tells = lines_none name start.number (Some stops.LongLine) now;
}
takes_begin name part parts start next (Ok (Some (stops.Packed packed))) now split begins = absurd begins
takes_begin {W} name part parts start next (Err stop) now split begins = record {
  ended = (start.front.items ++ part) ∷ [];
  left = [];
  parts_are = ap (onto start.front.items) split;
  left_is = tt;
  text = tt;
  tells = line_memory {W = W} {A = Option Stop} name start.number (start.front.items ++ part) stop now begins;
}
