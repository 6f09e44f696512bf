-- The file was audited before.
use Rattle.std.proofs.Common.{◌≡◌, List, ℕ, [], ◌∷◌, ap}
use Rattle.krl_audit.specs.Audit.{name_by}
use Rattle.audit_run.specs.Entries.{IsOpened, key_of, same}
use Rattle.audit_run.specs.Visits.{Same, is_told}
use Rattle.audit_run.proofs.Auditing.{begun}
use Rattle.audit_run.proofs.entries.audit_opened.Goals as goal

pub returns-then-has : goal.returns-then-has
returns-then-has g c = λ bytes consumes.
    let key = c.key_of-key.result in
    let told = is_told c.round.inside.files key in
    let key_is : key ≡ key_of (name_by c.args.name).read_as c.args.reading.identity = c.key_of-key.ensures in
    record {
      visits = Same told key c.args.name.shown.now ∷ [];
      is = begun c.say_same.result (tt {0}) (IsOpened (g.T.Tree.states c.args.tree.now) (name_by c.args.name) c.args.reading.identity bytes) _
          (same told (ap (λ (k : List ℕ). Same told k c.args.name.shown.now ∷ []) key_is));
      meets = rw c.round.view_is at c.say_same.ensures;
    }
