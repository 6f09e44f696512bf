-- Loading a file by taking all that is left.
use Rattle.std.proofs.Common.{◌≡◌, ℕ, Bool, false, List, [], ◌∷◌, ◌++◌, length, Option, None, Some, Ok, Err, refl, subst, IsSome, arith, length-append, rules}
use Rattle.std.specs.Io.KnownBytes.{Consumes, prepend_known}
use Rattle.std.proofs.KnownBytes.{Consumes-trans}
use Rattle.ssh_wire.specs.declared.pull_fault.PullFault.{PullFault}
use Rattle.ssh_wire.specs.declared.pull_fault.PullFault.TheVariants.{EndsEarly, TooLong, Read, NoMemory}
use Rattle.byte_streams.specs.Pull.{Pull, TakesRest, RefusesRest, after_ahead, untaken}
use Rattle.byte_streams.proofs.Pulling.{Consumes-ahead}
use Rattle.run_faults.specs.Named.{file_limit, IsLoaded, file_fault}

-- no byte is ahead
none_ahead : (before source : Option (List ℕ)) (ahead : Option ℕ) (came : List ℕ) → ahead ≡ None → Consumes before (after_ahead ahead source) came → Consumes before source came
none_ahead before source ahead came none bytes = subst (λ (a : Option ℕ). Consumes before (after_ahead a source) came) none bytes

-- all that was left came
pub loads_all : (before : Option (List ℕ)) (buffered bytes : List ℕ) (new : Pull) → TakesRest (untaken before buffered file_limit) bytes new → IsLoaded before new.source new.failed (Ok bytes)
loads_all before buffered bytes new takes = record {
  taken = bytes;
  consumed = none_ahead before new.source new.ahead bytes takes.none_ahead takes.takes.bytes;
  made = (refl, omega (arith, takes.takes.within), takes.ends, takes.takes.working);
}

-- the byte ahead is past the limit
passes_limit : (before source : Option (List ℕ)) (ahead : Option ℕ) (came : List ℕ) (failed : Bool) → Consumes before (after_ahead ahead source) came → IsSome ahead → length came ≡ file_limit → failed ≡ false → IsLoaded before source failed (Err (file_fault TooLong))
passes_limit before source None came failed bytes some full working = search (rules, some)
passes_limit before source (Some byte) came failed bytes some full working = record {
  taken = came ++ (byte ∷ []);
  consumed = Consumes-trans before (prepend_known (byte ∷ []) source) source came (byte ∷ []) bytes (Consumes-ahead byte source);
  made = (omega (arith, full, length-append came (byte ∷ [])), working);
}

-- not everything that was left came
pub loads_none : (before : Option (List ℕ)) (buffered : List ℕ) (fault : PullFault) (new : Pull) → RefusesRest (untaken before buffered file_limit) fault new → IsLoaded before new.source new.failed (Err (file_fault fault))
loads_none before buffered EndsEarly new refuses = absurd refuses.misses.reports
loads_none before buffered TooLong new refuses =
    let misses = refuses.misses in
    let full : length misses.came ≡ file_limit = omega (arith, misses.reports.0, refuses.taken, refuses.limit) in
    passes_limit before new.source new.ahead misses.came new.failed misses.bytes misses.reports.1 full misses.reports.2
loads_none before buffered Read new refuses =
    let misses = refuses.misses in
    record {
      taken = misses.came;
      consumed = none_ahead before new.source new.ahead misses.came misses.reports.0 misses.bytes;
      made = (omega (arith, misses.within), misses.reports.1);
    }
loads_none before buffered NoMemory new refuses =
    let misses = refuses.misses in
    record {
      taken = misses.came;
      consumed = none_ahead before new.source new.ahead misses.came misses.reports.1 misses.bytes;
      made = (misses.reports.0, omega (arith, misses.within), misses.reports.2);
    }
