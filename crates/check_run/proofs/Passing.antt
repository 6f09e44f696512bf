-- A list that passes the check beside another one revokes all that the other one revokes.
use Rattle.std.proofs.Common.{◌≡◌, ◌∙◌, ◌||◌, refl, subst, sym, Bool, true, false, List, Option, Some}
use Rattle.std.proofs.lemmas.Bool.{not-false, or_parts}
use Rattle.krl_arguments.specs.declared.task.Check.{Check}
use Rattle.krl_types.specs.Entry.{Entry}
use Rattle.krl_types.specs.Naming.{Name, SomeNames}
use Rattle.krl_types.specs.Subject.{Subject}
use Rattle.krl_entries.specs.Canonical.{entries_in}
use Rattle.krl_entries.specs.Revocations.{Revocations}
use Rattle.krl_entries.specs.Revoked.{Revoked}
use Rattle.krl_entries.specs.Tested.{some_names}
use Rattle.krl_entries.proofs.MoreNames.{revoked_by_more}
use Rattle.krl_entries.proofs.NameTests.{none_tested, some_tested}
use Rattle.krl_entries.proofs.OwnEntries.{means_itself}
use Rattle.list_conditions.specs.Check.{names_nobody}
use Rattle.list_conditions.proofs.Nobody.{law}
use Rattle.list_conditions.specs.Condition.{fails}
use Rattle.list_conditions.specs.declared.condition.Condition.TheVariants.{Slow}
use Rattle.check_run.specs.Lists.{ages_fail, empty_fails, limits_fail, most_cas, sshds_fail, version_of, versions_fail}
use Rattle.check_run.specs.Losses.{AreLost, losses_fail}
use Rattle.check_run.specs.Run.{Judged, list_fails}
use Rattle.check_run.specs.declared.lists.Lost.{Lost}

named_too : (own others : List Entry) (lost : Revocations) → AreLost own others lost → names_nobody lost ≡ true → (name : Name) → SomeNames others name → SomeNames own name
named_too own others lost are nobody name named = by (some_names own name) refl
  where
    by : (b : Bool) → some_names own name ≡ b → SomeNames own name
    by true is = (some_tested own name).0 is
    by false is =
        let itself = means_itself lost are.orderly in
        let unnamed : SomeNames own name → ⊥ = λ also. none_tested.0 (sym is ∙ (some_tested own name).1 also) in
        absurd ((law lost (entries_in lost) itself).0 nobody name ((itself.names name).0 ((are.names name).1 (named, unnamed))))

pub all_revoked : (own others : List Entry) (lost : Revocations) → AreLost own others lost → names_nobody lost ≡ true → (subject : Subject) → Revoked others subject → Revoked own subject
all_revoked own others lost are nobody = revoked_by_more own others (named_too own others lost are nobody)

-- no condition fails, so that nothing is lost
nothing_fails : (list : Judged) (task : Check) → list_fails list task ≡ false → losses_fail list.limits.lost.now ≡ false
nothing_fails list task none =
    let limits = list.limits in
    let slow = fails (Slow list.authorities (most_cas task.max_cas)) in
    let own = limits_fail list.stated limits in
    let beside = or_parts (fails list.format) (empty_fails list.nobody task.allow_empty || (slow || own)) none in
    let named = or_parts (empty_fails list.nobody task.allow_empty) (slow || own) beside.1 in
    let counted = or_parts slow own named.1 in
    let later = or_parts (versions_fail (version_of list.stated) limits.other) (ages_fail list.stated limits.age || (losses_fail limits.lost.now || sshds_fail limits.sshd)) counted.1 in
    let aged = or_parts (ages_fail list.stated limits.age) (losses_fail limits.lost.now || sshds_fail limits.sshd) later.1 in
    (or_parts (losses_fail limits.lost.now) (sshds_fail limits.sshd) aged.1).0

pub passed : (own others : List Entry) (list : Judged) (task : Check) (lost : Lost) → list.limits.lost.now ≡ Some lost → AreLost own others lost.held → list_fails list task ≡ false
    → (subject : Subject) → Revoked others subject → Revoked own subject
passed own others list task lost same are none =
    let kept = subst (λ (gone : Option Lost). losses_fail gone ≡ false) same (nothing_fails list task none) in
    all_revoked own others lost.held are (not-false (names_nobody lost.held) kept)
