-- The line of a terminal that says how far an audit is.
use Rattle.std.specs.Prelude.{ℕ, List, [], ◌∷◌, ◌++◌, codes, decimal, replicate}
use Rattle.audit_run.specs.Summary.{inputs_text, unread_text}
use Rattle.audit_run.specs.declared.summary.Summary.{Summary}

-- from the start of the line, the counts so far
abbrev pub progress_text : Summary → List ℕ
progress_text summary =
    13 ∷ (inputs_text summary
    ++ (decimal summary.counts.revoked ++ (codes " revoked, " ++ unread_text summary)))

-- blanks over a line of this many characters, and back to its start
abbrev pub wipe_text : ℕ → List ℕ
wipe_text length = 13 ∷ (replicate length 32 ++ 13 ∷ [])
