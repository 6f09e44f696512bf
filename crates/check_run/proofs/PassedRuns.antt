-- A run that ends with status 0 was of a list that revokes all that the other one revokes.
use Rattle.std.proofs.Common.{◌≡◌, ◌∙◌, ℕ, ◌||◌, ◌++◌, ◌∷◌, [], append_assoc, ap, arith, refl, subst, sym, Bool, true, false, List, Option, None, Some, Ok, is_some}
use Rattle.std.specs.Borrow.{Bor}
use Rattle.std.proofs.lemmas.Bool.{or_parts}
use Rattle.run_output.specs.declared.done.Done.{Done}
use Rattle.run_faults.specs.RunFault.{RunFault}
use Rattle.krl_arguments.specs.declared.task.Check.{Check}
use Rattle.krl_types.specs.Entry.{Entry}
use Rattle.krl_entries.specs.Reasons.{reasons_of}
use Rattle.list_conditions.specs.Check.{check_status}
use Rattle.any_list.specs.Told.{ListRead, Reading}
use Rattle.text_entries.specs.AuthorityNames.{NamedKeys}
use Rattle.check_run.specs.Files.{reads_fail}
use Rattle.check_run.specs.Limits.{AreLimits, IsLostOf}
use Rattle.check_run.specs.Run.{EndsBeside, EndsCheckRun, EndsChecked, EndsIf, EndsRefused, Judged, beside, clockless, list_fails, lost_unknown, other_refused, read, refused}
use Rattle.check_run.specs.Superset.{IsListRead, RevokesAll}
use Rattle.check_run.specs.declared.limits.Limits.{Limits}
use Rattle.check_run.specs.declared.limits.Loaded.{Loaded}
use Rattle.check_run.specs.declared.lists.Lost.{Lost}
use Rattle.check_run.proofs.Passing.{passed}

no_failure : (unknown fails : Bool) → check_status unknown fails ≡ 0 → fails ≡ false
no_failure true fails is = absurd (omega (arith, is))
no_failure false true is = absurd (omega (arith, is))
no_failure false false is = refl

-- the other list was read between the files before it and those after it
told_parts : (name : List ℕ) (bytes : List ℕ) (told first files lists moments others losts : List Reading) (fact : Reading) → told ≡ first ++ files → first ≡ lists ++ moments → lists ≡ others ++ losts → losts ≡ fact ∷ []
    → told ≡ others ++ (fact ∷ (moments ++ files))
told_parts name bytes told first files lists moments others losts fact a b c d = rw (a, b, c, d) (simp append_assoc)

revokes_all : (told : List Reading) (name : List ℕ) (own : List Entry) (task : Check) (named : Option (Bor NamedKeys)) (list : Judged) (before after losts : List Reading) (lost : Option Lost) (other : Bor (List ℕ)) → IsListRead told name own → list_fails list task ≡ false
    → list.limits.lost.now ≡ lost → task.superset_of ≡ Some other → IsLostOf losts own task.superset_of named lost → ((fact : Reading) → losts ≡ fact ∷ [] → told ≡ before ++ (fact ∷ after)) → RevokesAll told name other.now
revokes_all told name own task named list before after losts None other is passes limits_are same lost told_is = absurd (subst (λ (o : Option (Bor (List ℕ))). IsLostOf losts own o named None) same lost)
revokes_all told name own task named list before after losts (Some gone) other is passes limits_are same lost told_is =
    let of = subst (λ (o : Option (Bor (List ℕ))). IsLostOf losts own o named (Some gone)) same lost in
    record {
      entries = own;
      is = is;
      others = of.entries;
      is_other = record { bytes = of.bytes; header = of.header; names = of.names; before = before; after = after; told_is = told_is (ListRead other.now (Ok of.bytes)) of.told_is };
      all = passed own of.entries list task gone limits_are of.are passes;
    }

revokes_checked : (told later first files : List Reading) (name bytes : List ℕ) (task : Check) (loaded : Loaded) (limits : Limits) (before after : Option (List ℕ)) (failed : Bool) (status : ℕ) (fault : Option RunFault) (other : Bor (List ℕ))
    → told ≡ ListRead name (Ok bytes) ∷ later → later ≡ first ++ files → AreLimits first bytes task loaded limits → EndsChecked files name bytes task limits before after failed status fault → status ≡ 0 → task.superset_of ≡ Some other → RevokesAll told name other.now
revokes_checked told later first files name bytes task loaded limits before after failed status fault other told_is later_is are ends zero same =
    let list = ends.is.list in
    let beside = are.others in
    let fails = no_failure (is_some fault || ends.unread) ends.fails (sym ends.ends.status_is ∙ zero) in
    let none = (or_parts (list_fails list task) (reads_fail (reasons_of ends.is.entries) ends.is.reads) (sym ends.is.fails_is ∙ fails)).0 in
    let own : IsListRead told name beside.entries = record { bytes = bytes; header = beside.header; names = beside.names; before = []; after = later; told_is = told_is } in
    revokes_all told name beside.entries task loaded.names list (ListRead name (Ok bytes) ∷ beside.others) (are.moments ++ files) beside.losts limits.lost.now other own none
    (ap (λ (l : Limits). l.lost.now) ends.is.limits_are) same beside.is_lost
    (λ fact one. told_is ∙ ap (λ (facts : List Reading). ListRead name (Ok bytes) ∷ facts) (told_parts name bytes later first files are.lists are.moments beside.others beside.losts fact later_is are.told_is beside.told_is one))

not_refused : (Is : RunFault → Type 0) (before after : Option (List ℕ)) (failed : Bool) (done : Done) → EndsRefused Is before after failed (Ok done) → done.status ≡ 0 → ⊥
not_refused Is before after failed done ends zero =
    let same : done ≡ ends.done = cc ends.result_is in
    let status : ends.done.status ≡ 0 = ap (λ (d : Done). d.status) (sym same) ∙ zero in
    omega (arith, status, ends.status_is)

revokes_beside : (told later : List Reading) (name bytes : List ℕ) (task : Check) (loaded : Loaded) (before after : Option (List ℕ)) (failed : Bool) (done : Done) (other : Bor (List ℕ))
    → told ≡ ListRead name (Ok bytes) ∷ later → EndsBeside later name bytes task loaded before after failed (Ok done) → done.status ≡ 0 → task.superset_of ≡ Some other → RevokesAll told name other.now
revokes_beside told later name bytes task loaded before after failed done other told_is (beside limits first files later_is are end is ends) zero same =
    let both : done ≡ end = cc is in
    revokes_checked told later first files name bytes task loaded limits before after failed end.status end.fault other told_is later_is are ends (ap (λ (d : Done). d.status) (sym both) ∙ zero) same
revokes_beside told later name bytes task loaded before after failed done other told_is (other_refused ends) zero same = absurd (not_refused _ before after failed done ends zero)
revokes_beside told later name bytes task loaded before after failed done other told_is (lost_unknown _ _ _ _ _ ends) zero same = absurd (not_refused _ before after failed done ends zero)
revokes_beside told later name bytes task loaded before after failed done other told_is (clockless _ _ _ _ _ _ why _ is _ _) zero same = absurd (cc is)

pub passed_run : (told : List Reading) (task : Check) (loaded : Loaded) (before after : Option (List ℕ)) (failed : Bool) (done : Done) (other : Bor (List ℕ))
    → EndsCheckRun told task loaded before after failed (Ok done) → done.status ≡ 0 → task.print_version ≡ false → task.superset_of ≡ Some other → RevokesAll told task.list.now other.now
passed_run told task loaded before after failed done other (read bytes later told_is header entries names ends) zero checks same =
    revokes_beside told later task.list.now bytes task loaded before after failed done other told_is
    (subst (λ (only : Bool). EndsIf only later task.list.now bytes header task loaded before after failed (Ok done)) checks ends) zero same
passed_run told task loaded before after failed done other (refused ends) zero checks same = absurd (not_refused _ before after failed done ends zero)
