-- The files that sshd reads, and what comes after them.
use Rattle.std.proofs.Common.{ℕ, Bool, true, false, List, ◌++◌, Result, Ok, Err, refl}
use Rattle.std.specs.Borrow.{Bor}
use Rattle.sshd_files.specs.declared.files.SshdFile.{SshdFile}
use Rattle.audit_run.specs.Fact.{Fact}
use Rattle.audit_run.specs.Named.{Each}
use Rattle.audit_run.specs.Run.{AreCutOff, AreMet, IsGiven, IsMet, Readers, after_sought, in_names}
use Rattle.audit_run.specs.Sought.{IsSought}
use Rattle.audit_run.specs.Visits.{Visit}
use Rattle.audit_run.specs.declared.stop.Stop.{Stop}
use Rattle.audit_run.specs.declared.search.Search.{Search}

-- what was met before names that cannot be read to their end
pub cut_off_met : (Knows : Fact → Type 0) (search : Search) (sought : List SshdFile) (readers : Readers) (paths : List (Bor (List ℕ)))
    (visits : List Visit) → AreCutOff Knows search sought readers visits → AreMet Knows search false sought readers paths visits
cut_off_met Knows search sought readers paths visits cut =
    after_sought cut.first cut.rest cut.before (in_names cut.unread.left cut.unread.given refl cut.unread.before) cut.visits_are

-- what is given comes after them
pub met_then : (Knows : Fact → Type 0) (search : Search) (sought : List SshdFile) (readers : Readers) (paths : List (Bor (List ℕ)))
    (result : Result Bool Stop) (first rest : List Visit) → Each (IsSought Knows) true sought first
    → IsGiven Knows search readers paths result rest → IsMet Knows search sought readers paths result (first ++ rest)
met_then Knows search sought readers paths (Ok true) first rest is given = after_sought first rest is given refl
met_then Knows search sought readers paths (Ok false) first rest is given =
    record { first = first; rest = rest; before = is; unread = given; visits_are = refl }
met_then Knows search sought readers paths (Err stop) first rest is given = after_sought first rest is given refl
