-- The reader gave one more name, or it is at its end.
use Rattle.std.proofs.Common.{[], ◌≡◌, ◌∙◌, ap, arith, eqb-true, length, false, inl, inr, refl, sym, true, None, Ok, Err}
use Rattle.std.proofs.lemmas.Bool.{eqb-false}
use Rattle.std.proofs.lemmas.Result.{err_from_is_err_and}
use Rattle.audit_run.specs.ZeroEnded.{Unread}
use Rattle.audit_run.proofs.Inputs.{broken_listed, none_listed, one_listed, out_listed, took_last, took_none, took_part}
use Rattle.audit_run.proofs.ZeroEnded.{shorter}
use Rattle.audit_run.proofs.named.audit_listed.Goals as goal

pub names-init : goal.names-init
names-init g c = none_listed _ _ _ _

pub returns-in_err-next-clause-names : goal.returns-in_err-next-clause-names
returns-in_err-next-clause-names g c =
    let p = err_from_is_err_and c.from_residual.result c.from_residual.ensures.1 in
    let out = out_listed _ _ _ _ _ _ c.names.invariant in
    rw (p.1, p.2) (rw c.new-reader.ensures at (took_part _ _ true c.new-reader.result c.names.reader [] (Err _) _ _ refl out))

pub returns-in_err-audit_one_listed-in-Ok-clause-names : goal.returns-in_err-audit_one_listed-in-Ok-clause-names
returns-in_err-audit_one_listed-in-Ok-clause-names g c =
    let p = err_from_is_err_and c.from_residual-in_err-audit_one_listed-in-Ok.result c.from_residual-in_err-audit_one_listed-in-Ok.ensures.1 in
    let next = rw c.in-Ok.is at c.in_ok-next.ensures in
    let went = c.in_err-audit_one_listed-in-Ok.ensures next.0 (c.as_slice.ensures.value ∙ next.1.1) in
    let cut = one_listed _ _ _ _ _ _ next.0 _ went.visits _ _ _ c.names.invariant next.1.0 went.is went.audits in
    rw (p.1, p.2) (rw c.new-reader.ensures at (took_part _ _ _ c.new-reader.result c.next.new.self [] (Err _) _ _ refl cut))

pub names-preserved : goal.names-preserved
names-preserved g c =
    let next = rw c.in-Ok.is at c.in_ok-next.ensures in
    let went = c.in_ok-audit_one_listed-in-Ok.ensures next.0 (c.as_slice.ensures.value ∙ next.1.1) in
    one_listed _ _ true _ _ _ next.0 None went.visits _ _ _ c.names.invariant next.1.0 went.is went.audits

pub names-smaller : goal.names-smaller
names-smaller g c =
    let next = rw c.in-Ok.is at c.in_ok-next.ensures in
    shorter _ _ next.0 next.1.0

pub returns-in-Err-More-clause-names : goal.returns-in-Err-More-clause-names
returns-in-Err-More-clause-names g c =
    rw c.new-reader.ensures at (took_part _ _ true c.new-reader.result c.names.reader [] (Ok false) _ _ refl c.names.invariant)

pub returns-in-Err-More-clause-broken : goal.returns-in-Err-More-clause-broken
returns-in-Err-More-clause-broken g c = λ is.
    let last = rw (c.in-Err-More.is, c.in-Err-More.field-0-is) at c.in_ok-next.ensures in
    let all = ap (λ (u : Unread). u.room) c.new-reader.ensures in
    inr (rw c.new-reader.ensures at (broken_listed _ _ c.new-reader.result _ _ last.0 _ _ c.names.invariant last.1.0 last.1.1.1 all))

pub returns-in-Err-Failed-clause-names : goal.returns-in-Err-Failed-clause-names
returns-in-Err-Failed-clause-names g c =
    rw c.new-reader.ensures at (took_part _ _ true c.new-reader.result c.names.reader [] (Ok false) _ _ refl c.names.invariant)

pub returns-in-Err-Failed-clause-broken : goal.returns-in-Err-Failed-clause-broken
returns-in-Err-Failed-clause-broken g c = λ is.
    let last = rw (c.in-Err-Failed.is, c.in-Err-Failed.field-0-is) at c.in_ok-next.ensures in
    inl last.1.1.1.1

pub returns-in-Err-All-clause-names : goal.returns-in-Err-All-clause-names
returns-in-Err-All-clause-names g c =
    let last = rw (c.in-Err-All.is, c.in-Err-All.field-0-is) at c.in_ok-next.ensures in
    let size = eqb-true _ _ (sym c.is_empty.ensures ∙ c.if-is_empty.true) in
    let nothing : length c.next.new.name.items ≡ 0 = omega (arith, size, c.next.new.name.ok.0) in
    rw c.new-reader.ensures at (took_none _ _ c.new-reader.result _ _ c.next.new.name.items last.0 _ _ c.names.invariant last.1.0
    last.1.1.1 last.1.1.0 nothing)

pub returns-in_err-audit_one_listed-in-Err-All-2-clause-names : goal.returns-in_err-audit_one_listed-in-Err-All-2-clause-names
returns-in_err-audit_one_listed-in-Err-All-2-clause-names g c =
    let p = err_from_is_err_and c.from_residual-in_err-audit_one_listed-in-Err-All-2.result
    c.from_residual-in_err-audit_one_listed-in-Err-All-2.ensures.1 in
    let last = rw (c.in-Err-All.is, c.in-Err-All.field-0-is) at c.in_ok-next.ensures in
    let size = eqb-false _ _ (sym c.is_empty.ensures ∙ c.if-is_empty.false) in
    let some : length c.next.new.name.items ≡ 0 → ⊥ = λ none. size (omega (arith, none, c.next.new.name.ok.0)) in
    let went = c.in_err-audit_one_listed-in-Err-All-2.ensures last.0 (c.as_slice-in-Err-All-2.ensures.value ∙ last.1.1.0) in
    rw (p.1, p.2) (rw c.new-reader.ensures at (took_last _ _ c.new-reader.result _ _ c.next.new.name.items last.0 went.visits (Err _) _ _ _
    c.names.invariant last.1.0 last.1.1.1 last.1.1.0 some went.is went.audits))

pub returns-in-Err-All-2-clause-names : goal.returns-in-Err-All-2-clause-names
returns-in-Err-All-2-clause-names g c =
    let last = rw (c.in-Err-All.is, c.in-Err-All.field-0-is) at c.in_ok-next.ensures in
    let size = eqb-false _ _ (sym c.is_empty.ensures ∙ c.if-is_empty.false) in
    let some : length c.next.new.name.items ≡ 0 → ⊥ = λ none. size (omega (arith, none, c.next.new.name.ok.0)) in
    let went = c.in_ok-audit_one_listed-in-Err-All-2.ensures last.0 (c.as_slice-in-Err-All-2.ensures.value ∙ last.1.1.0) in
    rw c.new-reader.ensures at (took_last _ _ c.new-reader.result _ _ c.next.new.name.items last.0 went.visits (Ok true) _ _ _
    c.names.invariant last.1.0 last.1.1.1 last.1.1.0 some went.is went.audits)
