-- Each list is read, or is the first one that is not.
use Rattle.std.specs.Borrow.{Bor}
use Rattle.show_run.proofs.Common.{[], err_from_is_err_and, get_or, List, take, ℕ}
use Rattle.show_run.proofs.Reading.{given_more, stops_next}
use Rattle.any_list.proofs.Telling.{tells_then, told_none}
use Rattle.any_list.specs.List.{IsGiven, IsRefused}
use Rattle.show_run.specs.Lists.{AreGiven, StopsReading, not_kept, refused}
use Rattle.show_run.proofs.lists.read_lists.Goals as goal

-- the name where there is no name
abbrev nobody : Bor (List ℕ)
nobody = record { ref_ptr = (0, 0); now = [] }

pub loop-name-init : goal.loop-name-init
loop-name-init g c = record { told = []; after_is = told_none _; are = rw c.new-all.ensures.items tt }

pub returns-in_err-given-clause-fault : goal.returns-in_err-given-clause-fault
returns-in_err-given-clause-fault g c =
    let p = err_from_is_err_and c.from_residual.result c.from_residual.ensures.1 in
    let names = c.args.names.now in
    let i = c.loop-name.name-index in
    let stop = c.in_err-given.field-0.0 in
    rw (p.1, p.2)
    (tells_then (λ told. AreGiven told (take i names) c.loop-name.all.items) (λ told. IsRefused told (get_or names i nobody).now stop) (λ told. StopsReading told names stop) _ _ _
    (λ told last are is. stops_next told last names i nobody _ stop c.loop-name-test.true are (refused is)) c.loop-name.invariant c.in_err-given.ensures.fault)

pub loop-name-preserved : goal.loop-name-preserved
loop-name-preserved g c =
    let names = c.args.names.now in
    let i = c.loop-name.name-index in
    let given = c.in_ok-given.given in
    tells_then (λ told. AreGiven told (take i names) c.loop-name.all.items) (λ told. IsGiven told (get_or names i nobody).now given.bytes given.list) _ _ _ _
    (λ told one are is. given_more told one names i nobody c.loop-name.all.items _ given.list given.bytes c.loop-name-test.true c.in-Ok.ensures.items are is) c.loop-name.invariant c.in_ok-given.ensures.found

pub returns-in_default-clause-fault : goal.returns-in_default-clause-fault
returns-in_default-clause-fault g c =
    let names = c.args.names.now in
    let i = c.loop-name.name-index in
    let given = c.in_ok-given.given in
    let stop = c.whole.result in
    tells_then (λ told. AreGiven told (take i names) c.loop-name.all.items) (λ told. IsGiven told (get_or names i nobody).now given.bytes given.list) (λ told. StopsReading told names stop) _ _ _
    (λ told last are is. stops_next told last names i nobody _ stop c.loop-name-test.true are (not_kept given.bytes given.list is c.whole.ensures)) c.loop-name.invariant c.in_ok-given.ensures.found
