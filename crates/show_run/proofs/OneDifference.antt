-- Two lists have one difference.
use Rattle.std.proofs.Common.{◌≡◌, ◌∙◌, ap, List, subst, ℕ}
use Rattle.std.proofs.Math.Logic.Iff as Iff
use Rattle.krl_entries.proofs.OneMeaning.{one_meaning}
use Rattle.krl_entries.proofs.OwnEntries.{means_itself}
use Rattle.krl_entries.specs.Revocations.{Revocations}
use Rattle.list_diff.specs.Without.{HoldsWithout}
use Rattle.show_run.proofs.OneText.{one_held}
use Rattle.show_run.specs.Changes.{AreChanges, HasChanges}
use Rattle.show_run.specs.declared.changes.Changes.{Changes}

one_difference : (old new gone other : Revocations) → HoldsWithout old new gone → HoldsWithout old new other → gone ≡ other
one_difference old new gone other is also =
    let own = means_itself gone is.orderly in
    one_meaning gone other _ own (record { orderly = also.orderly; names = λ name. Iff.trans (also.names name) (Iff.trans (Iff.symm (is.names name)) (own.names name)) })

abbrev changes_of : Revocations → Revocations → Changes
changes_of added removed = record { added = added; removed = removed }

pub one_comparison : (old new : List ℕ) (one other : Changes) → HasChanges old new one → HasChanges old new other → one ≡ other
one_comparison old new one other is also =
    let before = one_held is.name also.name old is.before also.before is.is_before also.is_before in
    let after = one_held is.other also.other new is.after also.after is.is_after also.is_after in
    let first = subst (λ (r : Revocations). AreChanges r is.after.revocations one) before is.are in
    let are = subst (λ (r : Revocations). AreChanges also.before.revocations r one) after first in
    let added = one_difference also.before.revocations also.after.revocations one.added other.added are.added also.are.added in
    let removed = one_difference also.after.revocations also.before.revocations one.removed other.removed are.removed also.are.removed in
    ap (λ (r : Revocations). changes_of r one.removed) added ∙ ap (λ (r : Revocations). changes_of other.added r) removed
