-- Everything that was left came, or not.
use Rattle.std.proofs.Common.{ap, subst}
use Rattle.byte_streams.specs.Pull.{Pull, TakesRest, RefusesRest}
use Rattle.run_faults.proofs.Loading.{loads_all, loads_none}
use Rattle.run_faults.proofs.named.load.Goals.{in-Ok, in-Err}
use Rattle.run_faults.proofs.named.load.Goals as goal

pub returns-clause-content : goal.returns-clause-content
returns-clause-content g c =
    let new = c.rest.new.self in
    let start = c.new-pull.ensures in
    let before = g.R.Source.left c.args.reader in
    rw (c.into_inner.ensures.left, c.into_inner.ensures.failed) elim c.match-rest.branch [
      | in-Ok w ↦ rw w.content-is (loads_all before _ _ new (subst (λ (old : Pull). TakesRest old w.in-Ok.bytes new) start w.in-Ok.ensures.ok))
      | in-Err w ↦ rw (w.content-is, w.file_fault.ensures) (loads_none before _ _ new (subst (λ (old : Pull). RefusesRest old w.in-Err.fault new) start (w.in-Err.ensures.err (ap (λ (old : Pull). old.fault) start))))
    ]
