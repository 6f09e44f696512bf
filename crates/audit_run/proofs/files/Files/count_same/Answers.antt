-- The number of the name is kept, and the name is counted.
use Rattle.std.proofs.Common.{◌≡◌, ◌∙◌, ℕ, ap, refl}
use Rattle.std.specs.BTreeSet.{insert_key}
use Rattle.audit_run.specs.Visits.{name_cmp, names_of}
use Rattle.audit_run.proofs.files.Files.count_same.Goals as goal

pub returns : goal.returns
returns c =
    let files = c.args.self.now in
    let keys : c.insert.new.self.keys ≡ insert_key name_cmp files.names.keys (c.args.key, names_of files c.args.key) =
    c.in_ok-insert.ensures.keys ∙ ap (λ (n : ℕ). insert_key name_cmp files.names.keys (c.args.key, n)) c.names_of-number.ensures in
    rw (c.saturating_add-self.ensures, keys) refl
