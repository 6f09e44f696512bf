use Rattle.krl_core.proofs.Common.{◌∙◌, ◌≡◌, ap, arith, available, false, false≢true, length}
use Rattle.krl_core.proofs.Common.{length-take-le, List, None, refl, sym, take, Walk, working, ℕ}
use Rattle.krl_core.proofs.Progress.{advances_of, none_there}
use Rattle.krl_core.proofs.BufferedFields.{advances_buffered, bounded_count, buffered_ran_out, some_err, some_ok}
use Rattle.krl_core.proofs.reading.Walk.read_fields.Goals as goal

pub returns-then-count-eq0 : goal.returns-then-count-eq0
returns-then-count-eq0 g c =
    let same = c.read_buffered-count.ensures.none c.if-count-eq0.true in
    let e = rw (same.0, same.1) at c.step-then-count-eq0.ensures in
    rw (← c.self-2.view_is) (record {
      more = advances_of c.step-then-count-eq0.result _ c.step-then-count-eq0.new.self e.more;
      ends = e.ends;
      fault = e.fault;
      repeats = e.repeats;
      bounds = e.bounds;
    })

pub invariant_of-self-then-is_err : goal.invariant_of-self-then-is_err
invariant_of-self-then-is_err g c =
    let on : c.self-2.inside.ended ≡ false = ap (λ (w : Walk). w.ended) c.self-2.view_is ∙ sym (ap (λ (w : Walk). w.ended) c.self.view_is) ∙ c.if-self.false in
    record {
      in_step = λ none. absurd (cc);
      pull_faultless = λ none. absurd (cc);
      works = λ none. absurd (cc);
      ends = λ off. absurd (false≢true (sym on ∙ off));
      bounded = bounded_count (working c.self-2.inside.pull c.self-2.inside.place c.self-2.inside.stored) _ _ _ _ _ c.self-2.invariant.bounded (rw c.buffer.ensures at c.read_buffered-count.ensures) c.consume.ensures;
    }

pub returns-then-is_err : goal.returns-then-is_err
returns-then-is_err g c =
    let on : c.self-2.inside.ended ≡ false = ap (λ (w : Walk). w.ended) c.self-2.view_is ∙ sym (ap (λ (w : Walk). w.ended) c.self.view_is) ∙ c.if-self.false in
    let faultless : c.self-2.inside.fault ≡ None =
    ap (λ (w : Walk). w.fault) c.self-2.view_is ∙ sym (ap (λ (w : Walk). w.fault) c.self.view_is) ∙ none_there c.self.inside.fault (sym c.is_some.ensures ∙ c.if-is_some.false) in
    let old = working c.self-2.inside.pull c.self-2.inside.place c.self-2.inside.stored in
    let t = c.consume.ensures in
    rw (← c.self-2.view_is, faultless, on) (record {
      more = tt;
      ends = tt;
      fault = record {
        says = buffered_ran_out old c.consume.new.self _ c.self-2.invariant.bounded t
            (some_err _ (sym c.is_err.ensures.value ∙ c.if-is_err.true) (rw c.buffer.ensures at c.read_buffered-count.ensures).ran_out);
        failure = λ _. (λ e. absurd (cc), λ e. absurd (false≢true (sym t.working ∙ e)));
        stays = refl;
      };
      repeats = record { rests = λ off. absurd (false≢true off); again = tt };
      bounds = bounded_count old _ _ _ _ _ c.self-2.invariant.bounded (rw c.buffer.ensures at c.read_buffered-count.ensures) t;
    })

pub invariant_of-self-2 : goal.invariant_of-self-2
invariant_of-self-2 g c =
    let on : c.self-2.inside.ended ≡ false = ap (λ (w : Walk). w.ended) c.self-2.view_is ∙ sym (ap (λ (w : Walk). w.ended) c.self.view_is) ∙ c.if-self.false in
    let done = some_ok _ _ _ _ _ _ _ (sym c.is_err.ensures.value ∙ c.if-is_err.false) (rw c.buffer.ensures at c.read_buffered-count.ensures) in
    let t = c.consume.ensures in
    record {
      in_step = λ _. done.ok.in_step;
      pull_faultless = λ _. t.is_faultless;
      works = λ _. t.working;
      ends = λ off. absurd (false≢true (sym on ∙ off));
      bounded = bounded_count (working c.self-2.inside.pull c.self-2.inside.place c.self-2.inside.stored) _ _ _ _ _ c.self-2.invariant.bounded done t;
    }

pub returns : goal.returns
returns g c =
    let on : c.self-2.inside.ended ≡ false = ap (λ (w : Walk). w.ended) c.self-2.view_is ∙ sym (ap (λ (w : Walk). w.ended) c.self.view_is) ∙ c.if-self.false in
    let faultless : c.self-2.inside.fault ≡ None =
    ap (λ (w : Walk). w.fault) c.self-2.view_is ∙ sym (ap (λ (w : Walk). w.fault) c.self.view_is) ∙ none_there c.self.inside.fault (sym c.is_some.ensures ∙ c.if-is_some.false) in
    let old = working c.self-2.inside.pull c.self-2.inside.place c.self-2.inside.stored in
    let done = some_ok _ _ _ _ _ _ _ (sym c.is_err.ensures.value ∙ c.if-is_err.false) (rw c.buffer.ensures at c.read_buffered-count.ensures) in
    let t = c.consume.ensures in
    let bytes : List ℕ = take c.read_buffered-count.result.0 (available c.self-2.inside.pull) in
    let long : length bytes ≡ c.read_buffered-count.result.0 = length-take-le c.read_buffered-count.result.0 (available c.self-2.inside.pull) done.within in
    rw (← c.self-2.view_is, faultless, on) (record {
      more = λ _. advances_buffered old _ _ _ bytes c.self-2.invariant.bounded t done.ok (omega (arith, long, c.if-count-eq0.false));
      ends = λ off. absurd (false≢true (sym off));
      fault = tt;
      repeats = record { rests = λ off. absurd (false≢true off); again = tt };
      bounds = bounded_count old _ _ _ _ _ c.self-2.invariant.bounded done t;
    })
