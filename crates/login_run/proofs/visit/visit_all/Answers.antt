-- Each log is visited after those before it, or the run ends.
use Rattle.std.proofs.Common.{◌≡◌, ◌+◌, [], ◌∙◌, ap, arith, get_or, refl, sym, true, List, ℕ}
use Rattle.std.specs.Borrow.{Bor}
use Rattle.std.specs.Prelude.{not}
use Rattle.std.proofs.lemmas.List.{drop_all, get_or_default}
use Rattle.std.proofs.lemmas.Result.{err_from_is_err_and}
use Rattle.krl_audit.specs.declared.judge.Judge.{Judge}
use Rattle.login_run.proofs.Visiting.{all_first, all_none, all_quiet, all_stop, names_next}
use Rattle.login_run.proofs.visit.visit_all.Goals as goal

pub loop-name-init : goal.loop-name-init
loop-name-init g c = record { visits = λ result new all. all; counted = refl; judge = refl; working = c.requires }

pub returns-in_err-visit : goal.returns-in_err-visit
returns-in_err-visit g c =
    let p = err_from_is_err_and c.from_residual.result c.from_residual.ensures.1 in
    let nothing : Bor (List ℕ) = record { ref_ptr = (0, 0); now = [] } in
    let name = get_or c.args.names.now c.loop-name.name-index nothing in
    let is = get_or_default c.args.names.now c.loop-name.name-index nothing name c.loop-name-test.true in
    let parts = names_next c.args.names.now c.loop-name.name-index name is c.loop-name-test.true in
    rw (p.1, p.2) (c.loop-name.invariant.visits _ _ (rw parts (all_stop _ _ _ _ name _ _ _ c.in_err-visit.field-0.0 _ _ c.in_err-visit.ensures.visits)))

pub returns-then-auditor-gt0 : goal.returns-then-auditor-gt0
returns-then-auditor-gt0 g c =
    let nothing : Bor (List ℕ) = record { ref_ptr = (0, 0); now = [] } in
    let name = get_or c.args.names.now c.loop-name.name-index nothing in
    let is = get_or_default c.args.names.now c.loop-name.name-index nothing name c.loop-name-test.true in
    let parts = names_next c.args.names.now c.loop-name.name-index name is c.loop-name-test.true in
    let same = c.in_ok-visit.ensures.visits.tells.judge ∙ c.loop-name.invariant.judge in
    let silent : not c.args.auditor.now.judge.shown.revoked ≡ true = ap (λ (j : Judge). not j.shown.revoked) (sym same) ∙ ap not c.if-not-auditor.true in
    let numbered : c.saturating_add-count.result ≡ c.loop-name.count + 1 = omega (arith, c.saturating_add-count.ensures, c.loop-name.invariant.counted, c.loop-name-test.true, c.loop-name.auto.name-index-end) in
    c.loop-name.invariant.visits _ _ (rw (parts, numbered) (all_quiet _ _ _ _ name _ _ _ (tt {0}) _ _ c.in_ok-visit.ensures.visits silent c.if-auditor-gt0.true))

pub loop-name-preserved : goal.loop-name-preserved
loop-name-preserved g c =
    let nothing : Bor (List ℕ) = record { ref_ptr = (0, 0); now = [] } in
    let name = get_or c.args.names.now c.loop-name.name-index nothing in
    let is = get_or_default c.args.names.now c.loop-name.name-index nothing name c.loop-name-test.true in
    let parts = names_next c.args.names.now c.loop-name.name-index name is c.loop-name-test.true in
    let numbered : c.saturating_add-count.result ≡ c.loop-name.count + 1 = omega (arith, c.saturating_add-count.ensures, c.loop-name.invariant.counted, c.loop-name-test.true, c.loop-name.auto.name-index-end) in
    record {
      visits = λ result new all.
          c.loop-name.invariant.visits result new (rw parts (all_first _ _ _ _ name _ _ _ (tt {0}) result _ _ new c.in_ok-visit.ensures.visits (rw numbered at all)));
      counted = numbered ∙ ap (λ (n : ℕ). n + 1) c.loop-name.invariant.counted;
      judge = c.in_ok-visit.ensures.visits.tells.judge ∙ c.loop-name.invariant.judge;
      working = c.in_ok-visit.ensures.working;
    }

pub returns : goal.returns
returns g c = c.loop-name.invariant.visits _ _ (all_none _ _ _ _ _ _ _ (drop_all c.loop-name.name-index c.args.names.now c.loop-name-test.false))
