-- The content of a file of keys that a host has read.
use Rattle.std.specs.Prelude.{ℕ, List, Result, Ok, Err}
use Rattle.audit_lines.specs.declared.why.Refusal.{Refusal}

-- the bytes that were read into a buffer, or why the file was not read
abbrev pub content_read : Result (Unit {0}) Refusal → List ℕ → Result (List ℕ) Refusal
content_read (Ok done) text = Ok text
content_read (Err refusal) text = Err refusal
