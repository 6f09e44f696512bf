-- The files of one more user are added.
use Rattle.std.proofs.Common.{[], ◌∙◌, sym, get_or}
use Rattle.std.proofs.lemmas.List.{get_or_default}
use Rattle.sshd_files.proofs.Adding.{added_all, added_more}
use Rattle.sshd_files.specs.declared.users.User.{User}
use Rattle.sshd_files.specs.Files.{listed_of, user_files}
use Rattle.sshd_files.specs.Users.{account_of}
use Rattle.sshd_files.specs.Words.{texts}
use Rattle.sshd_files.proofs.files.Listing.add_users.Goals as goal

abbrev nobody : User
nobody =
    record { name = record { ref_ptr = (0, 0); now = [] }; number = 0; home = record { ref_ptr = (0, 0); now = [] } }

pub loop-user-preserved : goal.loop-user-preserved
loop-user-preserved c =
    let user : User = get_or c.args.users.now c.loop-user.user-index nobody in
    c.loop-user.invariant ∙ added_more account_of (user_files (texts c.args.patterns.now))
    (listed_of c.loop-user.self) (listed_of c.add_user.new.self) c.args.users.now c.loop-user.user-index user
    c.loop-user-test.true (get_or_default c.args.users.now c.loop-user.user-index nobody user c.loop-user-test.true)
    c.in_ok-add_user.ensures

pub returns : goal.returns
returns c =
    sym (c.loop-user.invariant ∙ added_all account_of (user_files (texts c.args.patterns.now))
    (listed_of c.loop-user.self) c.args.users.now c.loop-user.user-index c.loop-user-test.false)
