-- The fault is kept.
use Rattle.std.proofs.Common.{◌+◌, ◌≤◌, refl, sym, subst, ◌∙◌}
use Rattle.byte_streams.specs.Pull.{Pull}
use Rattle.byte_streams.proofs.Pulling.{Refuses-misses}
use Rattle.byte_streams.proofs.pull.Pull.bytes_into.Goals as goal

pub returns-in-Err-clause-err : goal.returns-in-Err-clause-err
returns-in-Err-clause-err g c =
    let same = c.self.view_is ∙ c.in_ok-refuse_past_limit.ensures.ok in
    let room = subst (λ (pull : Pull). pull.taken + c.args.size ≤ pull.limit) (sym same) c.in_ok-refuse_past_limit.ensures.room in
    rw (← same) (λ fresh. Refuses-misses _ _ _ _ (c.in-Err.ensures.misses c.self.inside.taken c.self.inside.limit room) refl refl refl)
