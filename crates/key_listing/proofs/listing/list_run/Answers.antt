-- The answers are written, and the end of the run reported.
use Rattle.std.proofs.Common.{refl, rules}
use Rattle.run_faults.specs.Keys.{keys_of}
use Rattle.key_listing.specs.Listing.{list_run_of}
use Rattle.run_output.proofs.RunEnds.{ends_known}
use Rattle.run_output.proofs.AnswerableKeys.{all_expected}
use Rattle.key_listing.proofs.listing.list_run.Goals as goal

pub returns : goal.returns
unfolding list_run_of
returns g c =
    let carries = rw (c.new-printer.ensures, c.requires) at (c.print_file.ensures _ refl) in
    ends_known _ c.print_file.result _ _ _ _ _ _ _ _ _ _ carries c.err-stop.ensures.value c.finish-done.ensures.ends (search rules) (search rules)

pub print_file-requires : goal.print_file-requires
print_file-requires g c = all_expected (λ _. Unit {0}) (λ _. tt) (keys_of c.args.file.now)
