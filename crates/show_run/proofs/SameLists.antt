-- Lists without a difference revoke the same.
use Rattle.std.proofs.Common.{◌≡◌, ◌∙◌, ◌↔◌, ℕ, arith, refl, sym, Bool, true, false, List, None, Option, Some}
use Rattle.run_faults.specs.RunFault.{RunFault}
use Rattle.krl_types.specs.Entry.{Entry}
use Rattle.krl_types.specs.Subject.{Subject}
use Rattle.krl_entries.specs.Revoked.{Revoked}
use Rattle.krl_entries.proofs.MoreNames.{revoked_by_same}
use Rattle.any_list.specs.declared.list.List.{List as ListOf}
use Rattle.any_list.specs.Told.{Reading}
use Rattle.show_run.specs.Comparison.{EndsCompared, EndsDiffRun, compared, refused, status_of}
use Rattle.show_run.specs.SameLists.{RevokeSame}
use Rattle.show_run.specs.declared.comparison.Comparison.{Comparison}

same_by_status : (same : Bool) (fault : Option RunFault) → status_of same fault ≡ 0 → same ≡ true
same_by_status same (Some stop) is = absurd (omega (arith, is))
same_by_status true None is = refl
same_by_status false None is = absurd (omega (arith, is))

pub revoked_alike : (comparison : Comparison) (old new : ListOf) (olds news : List Entry) (before after : Option (List ℕ)) (failed : Bool) (status : ℕ) (fault : Option RunFault)
    → EndsCompared comparison old new olds news before after failed status fault → status ≡ 0 → (subject : Subject) → Revoked olds subject ↔ Revoked news subject
revoked_alike comparison old new olds news before after failed status fault ends zero =
    revoked_by_same olds news (ends.same_is.0 (same_by_status ends.same fault (sym ends.status_is ∙ zero)))

pub revoked_same : (told : List Reading) (comparison : Comparison) (before after : Option (List ℕ)) (failed : Bool) (status : ℕ) (fault : Option RunFault)
    → EndsDiffRun told comparison before after failed status fault → status ≡ 0 → RevokeSame told comparison.old.now comparison.new.now
revoked_same told comparison before after failed status fault (compared old new read ends) zero = record {
  before = old;
  after = new;
  read = read;
  same = revoked_alike comparison old new read.is_before.entries read.is_after.entries before after failed status fault ends zero;
}
revoked_same told comparison before after failed status fault (refused stop is fault_is status_is after_is works) zero =
    let ends : 255 ≡ 0 = sym status_is ∙ zero in
    absurd (omega (arith, ends))
