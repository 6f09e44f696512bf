-- A log, batch after batch.
use Rattle.std.proofs.Common.{◌≡◌, ◌<◌, ◌≤◌, ◌+◌, ◌-◌, ◌^◌, ℕ, Bool, true, false, List, [], ◌∷◌, ◌++◌, Option, Some, None, Result, Ok, Err, length, refl, sym, ap, subst, ◌∙◌, append-nil, append_assoc, arith}
use Rattle.std.specs.Prelude.{OnOk}
use Rattle.std.specs.Io.KnownBytes.{Consumes, IsAtEnd, Keeps}
use Rattle.std.proofs.KnownBytes.{Consumes-kept, Consumes-nil, Consumes-trans}
use Rattle.std.proofs.lemmas.List.{length-append}
use Rattle.run_faults.specs.RunFault.{RunFault}
use Rattle.krl_audit.specs.declared.auditor.Auditor.{Auditor}
use Rattle.login_run.specs.Finding.{Placed, Tells, TellsLines, number_after, placed_after}
use Rattle.login_run.specs.Log.{AreText, AuditsLog, BeginPacked, EndsLine, EndsLog, IsRead, ReadsLog, Takes, broken, end_findings, onto, parts_of, stop_findings, stopped, whole}
use Rattle.login_run.specs.Packed.{packed_at}
use Rattle.login_run.specs.Log as logs
use Rattle.login_run.specs.declared.batch.LineStart.{LineStart}
use Rattle.login_run.specs.declared.batch.Stop.{Stop}
use Rattle.login_run.specs.declared.batch.Stop.TheVariants as stops
use Rattle.login_run.proofs.Batches.{takes_err, takes_stop}
use Rattle.login_run.proofs.Lines.{lines_append, lines_as, lines_none, number_append, text_append}
use Rattle.login_run.proofs.Parts.{parts_more}
use Rattle.login_run.proofs.Telling.{tells_err, tells_then}

when_ok : {A P : Type 0} (result : Result A RunFault) → P → OnOk result P
when_ok (Ok value) p = p
when_ok (Err stop) p = tt

-- These bytes came, and ended these lines, whose findings were told; a line has begun.
pub record AtBatch {W : Type 0} (name : List ℕ) (first now : Option (List ℕ)) (batches : ℕ) (start : LineStart) (old mid : Auditor W) : Type 0 where
  pub came : List ℕ
  pub comes : Consumes first now came
  pub lines : List (List ℕ)
  pub parts_are : parts_of came ≡ lines ++ start.front.items ∷ []
  pub numbered : start.number ≡ number_after 0 lines
  pub text : AreText 0 lines
  pub tells : TellsLines old name 0 lines {A = Unit {0}} (Ok tt) mid
  pub counted : batches ≤ length came

pub none_came : {W : Type 0} (name : List ℕ) (first : Option (List ℕ)) (start : LineStart) (old : Auditor W) → start.front.items ≡ [] → start.number ≡ 0 → AtBatch name first first 0 start old old
none_came name first start old none zero = record {
  came = [];
  comes = Consumes-nil first;
  lines = [];
  parts_are = ap (λ (front : List ℕ). front ∷ []) (sym none);
  numbered = zero;
  text = tt;
  tells = lines_none name 0 tt old;
  counted = omega arith;
}

-- The reader failed.
pub reader_failed : {W : Type 0} (name : List ℕ) (first now kept : Option (List ℕ)) (batches : ℕ) (start : LineStart) (fails : Bool) (old mid : Auditor W)
    → AtBatch name first now batches start old mid → Keeps now kept → fails ≡ true → AuditsLog name first kept fails (Ok false) old mid
reader_failed name first now kept batches start fails old mid at keeps is = record {
  reads = record {
    came = at.came;
    comes = Consumes-kept first now kept at.came at.comes keeps;
    lines = at.lines;
    left = start.front.items ∷ [];
    parts_are = at.parts_are;
    end = logs.Failed;
    is_end = (refl, (is, refl));
    text = at.text;
  };
  tells = λ outcomes are. subst (λ (p : List Placed). Tells old p {A = Bool} (Ok false) mid) (sym (append-nil (placed_after name 0 outcomes))) (lines_as name 0 at.lines tt false old mid at.tells outcomes are);
}

-- ---- a batch was taken

module _ {W : Type 0} (name : List ℕ) (first now later : Option (List ℕ)) (batches : ℕ) (batch : List ℕ) (start next : LineStart) (old mid new : Auditor W)
    (at : AtBatch name first now batches start old mid) (comes : Consumes now later batch) where
  came : List ℕ
  came = at.came ++ batch

  all_comes : Consumes first later (at.came ++ batch)
  all_comes = Consumes-trans first now later at.came batch at.comes comes

  module _ (result : Result (Option Stop) RunFault) (takes : Takes name (parts_of batch) start next result mid new) where
    abbrev ended : List (List ℕ)
    ended = at.lines ++ takes.ended

    parts_now : parts_of (at.came ++ batch) ≡ (at.lines ++ takes.ended) ++ takes.left
    parts_now =
        parts_more at.came batch at.lines start.front.items at.parts_are ∙ ap (λ (p : List (List ℕ)). at.lines ++ p) takes.parts_are
        ∙ sym (append_assoc at.lines takes.ended takes.left)

    lines_now : TellsLines old name 0 (at.lines ++ takes.ended) result new
    lines_now = lines_append name 0 at.lines takes.ended tt result old mid new at.tells (subst (λ (n : ℕ). TellsLines mid name n takes.ended result new) at.numbered takes.tells)

    number_now : number_after start.number takes.ended ≡ number_after 0 (at.lines ++ takes.ended)
    number_now = ap (λ (n : ℕ). number_after n takes.ended) at.numbered ∙ sym (number_append 0 at.lines takes.ended)

    text_now : OnOk result (AreText start.number takes.ended) → OnOk result (AreText 0 (at.lines ++ takes.ended))
    text_now text = of_text result text
      where
        of_text : (r : Result (Option Stop) RunFault) → OnOk r (AreText start.number takes.ended) → OnOk r (AreText 0 (at.lines ++ takes.ended))
        of_text (Ok value) text = text_append 0 at.lines takes.ended at.text (subst (λ (n : ℕ). AreText n takes.ended) at.numbered text)
        of_text (Err stop) text = tt

  pub batch_taken : 0 < length batch → Takes name (parts_of batch) start next (Ok None) mid new → AtBatch name first later (batches + 1) next old new
  batch_taken some takes = record {
    came = at.came ++ batch;
    comes = all_comes;
    lines = at.lines ++ takes.ended;
    parts_are = parts_now (Ok None) takes ∙ ap (λ (p : List (List ℕ)). (at.lines ++ takes.ended) ++ p) takes.left_is.0;
    numbered = takes.left_is.1 ∙ number_now (Ok None) takes;
    text = text_now (Ok None) takes takes.text;
    tells = lines_as name 0 (at.lines ++ takes.ended) None tt old new (lines_now (Ok None) takes);
    counted = omega (arith, length-append at.came batch, at.counted);
  }

  -- The run was stopped in the batch.
  pub batch_broken : (stop : RunFault) (fails : Bool) → Takes name (parts_of batch) start next (Err stop) mid new → AuditsLog name first later fails (Err stop) old new
  batch_broken stop fails takes = record {
    reads = record {
      came = at.came ++ batch;
      comes = all_comes;
      lines = at.lines ++ takes.ended;
      left = takes.left;
      parts_are = parts_now (Err stop) takes;
      end = logs.Broken;
      is_end = tt;
      text = tt;
    };
    tells = λ outcomes are.
        subst (λ (p : List Placed). Tells old p {A = Bool} (Err stop) new) (sym (append-nil (placed_after name 0 outcomes)))
        (tells_err {W = W} {A = Option Stop} {B = Bool} (placed_after name 0 outcomes) stop old new (lines_now (Err stop) takes outcomes are));
  }

  -- The rest is not read, and that was told.
  pub batch_stopped : (stop : Stop) (fails : Bool) (result : Result Bool RunFault) (last : Auditor W) → Takes name (parts_of batch) start next (Ok (Some stop)) mid new
      → Tells new (stop_findings name next.number stop) result last → IsRead result → AuditsLog name first later fails result old last
  batch_stopped stops.LongLine fails result last takes says read = record {
    reads = record {
      came = at.came ++ batch;
      comes = all_comes;
      lines = at.lines ++ takes.ended;
      left = takes.left;
      parts_are = parts_now (Ok (Some stops.LongLine)) takes;
      end = logs.Long;
      is_end = (takes.left_is.0, read);
      text = when_ok result (text_now (Ok (Some stops.LongLine)) takes takes.text);
    };
    tells = λ outcomes are.
        let number = takes.left_is.1 ∙ number_now (Ok (Some stops.LongLine)) takes in
        tells_then (placed_after name 0 outcomes) (end_findings name (number_after 0 (at.lines ++ takes.ended)) logs.Long) (Some stops.LongLine) result old new last
        (lines_now (Ok (Some stops.LongLine)) takes outcomes are)
        (subst (λ (n : ℕ). Tells new (end_findings name n logs.Long) result last) number says);
  }
  batch_stopped (stops.Packed packed) fails result last takes says read = record {
    reads = record {
      came = at.came ++ batch;
      comes = all_comes;
      lines = at.lines ++ takes.ended;
      left = takes.left;
      parts_are = parts_now (Ok (Some (stops.Packed packed))) takes;
      end = logs.Packed packed;
      is_end = (subst (λ (n : ℕ). BeginPacked n packed takes.left) (number_now (Ok (Some (stops.Packed packed))) takes) takes.left_is, read);
      text = when_ok result (text_now (Ok (Some (stops.Packed packed))) takes takes.text);
    };
    tells = λ outcomes are.
        tells_then (placed_after name 0 outcomes) (end_findings name 0 (logs.Packed packed)) (Some (stops.Packed packed)) result old new last
        (lines_now (Ok (Some (stops.Packed packed))) takes outcomes are) says;
  }

-- ---- the end

-- Too many batches came, and that was told.
pub log_endless : {W : Type 0} (name : List ℕ) (first now : Option (List ℕ)) (batches : ℕ) (start : LineStart) (fails : Bool) (result : Result Bool RunFault) (old mid new : Auditor W)
    → AtBatch name first now batches start old mid → 2 ^ 64 - 1 ≤ batches → Tells mid (end_findings name 0 logs.Endless) result new → IsRead result
    → AuditsLog name first now fails result old new
log_endless name first now batches start fails result old mid new at many says read = record {
  reads = record {
    came = at.came;
    comes = at.comes;
    lines = at.lines;
    left = start.front.items ∷ [];
    parts_are = at.parts_are;
    end = logs.Endless;
    is_end = (omega (arith, many, at.counted), read);
    text = when_ok result at.text;
  };
  tells = λ outcomes are. tells_then (placed_after name 0 outcomes) (end_findings name 0 logs.Endless) tt result old mid new (at.tells outcomes are) says;
}

-- The last line was ended.
pub log_ended : {W : Type 0} (name : List ℕ) (first now later : Option (List ℕ)) (batches : ℕ) (start : LineStart) (fails : Bool) (result : Result Bool RunFault) (old mid new : Auditor W)
    → AtBatch name first now batches start old mid → Consumes now later [] → IsAtEnd later → fails ≡ false → EndsLog name start result mid new
    → AuditsLog name first later fails result old new
log_ended {W} name first now later batches start fails result old mid new at comes end working (whole next ends is) =
    let line = start.front.items ++ [] in
    let one : TellsLines mid name (number_after 0 at.lines) (line ∷ []) {A = Option Stop} (Ok None) new = subst (λ (n : ℕ). TellsLines mid name n (line ∷ []) {A = Option Stop} (Ok None) new) at.numbered ends.tells in
    let all : TellsLines old name 0 (at.lines ++ line ∷ []) {A = Option Stop} (Ok None) new = lines_append name 0 at.lines (line ∷ []) tt (Ok None) old mid new at.tells one in
    let text : AreText (number_after 0 at.lines) (line ∷ []) = (subst (λ (n : ℕ). packed_at n line ≡ None) at.numbered ends.after.0, tt) in
    let parts : parts_of (at.came ++ []) ≡ (at.lines ++ line ∷ []) ++ [] =
    ap parts_of (append-nil at.came) ∙ at.parts_are ∙ ap (λ (l : List ℕ). at.lines ++ l ∷ []) (sym (append-nil start.front.items)) ∙ sym (append-nil (at.lines ++ line ∷ [])) in
    record {
      reads = record {
        came = at.came ++ [];
        comes = Consumes-trans first now later at.came [] at.comes comes;
        lines = at.lines ++ line ∷ [];
        left = [];
        parts_are = parts;
        end = logs.Whole;
        is_end = (refl, (end, (working, is)));
        text = when_ok result (text_append 0 at.lines (line ∷ []) at.text text);
      };
      tells = λ outcomes are.
          let told = lines_as name 0 (at.lines ++ line ∷ []) None true old new all outcomes are in
          subst (λ (p : List Placed). Tells old p result new) (sym (append-nil (placed_after name 0 outcomes)))
          (subst (λ (r : Result Bool RunFault). Tells old (placed_after name 0 outcomes) r new) (sym is) told);
    }
log_ended name first now later batches start fails result old mid new at comes end working (stopped stop next between ends says read) =
    batch_stopped name first now later batches [] start next old mid between at comes stop fails result new (takes_stop name [] ([] ∷ []) [] start next stop mid between refl ends) says read
log_ended {W} name first now later batches start fails result old mid new at comes end working (broken stop next ends is) =
    subst (λ (r : Result Bool RunFault). AuditsLog name first later fails r old new) (sym is)
    (batch_broken name first now later batches [] start next old mid new at comes stop fails (takes_err name [] ([] ∷ []) [] start next stop mid new refl ends))
