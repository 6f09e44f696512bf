use Rattle.span_sets.proofs.Common.{◌*◌, ◌+◌, ◌-◌, ◌<◌, ◌≤◌, BitCovers, chunks_held, Covers}
use Rattle.span_sets.proofs.Common.{members_of, ℕ}
use Rattle.span_sets.proofs.span_pages.SpanPages.bits_from.Given as goal

abbrev pub invariant-loop-found : goal.invariant-loop-found
invariant-loop-found l =
    let first = 64 * l.window in
    record {
      at : l.found.at ≤ 64;
      sound : (s : ℕ) → BitCovers 64 first l.found.bits s → Covers (members_of (chunks_held l.self)) s;
      done : (s : ℕ) → first ≤ s → s < first + l.found.at → Covers (members_of (chunks_held l.self)) s → BitCovers 64 first l.found.bits s;
    }

abbrev pub decreases-loop-found : goal.decreases-loop-found
decreases-loop-found l = 64 - l.found.at
