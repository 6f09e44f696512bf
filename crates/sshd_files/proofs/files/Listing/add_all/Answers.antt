-- The files of one more sshd are added.
use Rattle.std.proofs.Common.{◌∙◌, sym, map}
use Rattle.sshd_files.proofs.Adding.{added_all, added_more}
use Rattle.sshd_files.specs.Files.{all_files, files_in, listed_of}
use Rattle.sshd_files.specs.Settings.{configuration_of}
use Rattle.sshd_files.specs.Users.{account_of}
use Rattle.sshd_files.proofs.files.Listing.add_all.Goals as goal

pub loop-one-preserved : goal.loop-one-preserved
unfolding all_files
loop-one-preserved c =
    c.loop-one.invariant ∙ added_more configuration_of (files_in (map account_of c.args.users.now) c.args.asked)
    (listed_of c.loop-one.self) (listed_of c.add_settings.new.self) c.args.settings.now c.loop-one.one-index
    c.one-item.result c.loop-one-test.true c.one-item.is c.in_ok-add_settings.ensures

pub returns : goal.returns
unfolding all_files
returns c =
    sym (c.loop-one.invariant ∙ added_all configuration_of (files_in (map account_of c.args.users.now) c.args.asked)
    (listed_of c.loop-one.self) c.args.settings.now c.loop-one.one-index c.loop-one-test.false)
