-- The files of the users come before the others.
use Rattle.std.proofs.Common.{◌≡◌, ◌∙◌, ℕ, List, ap, sym, map}
use Rattle.std.proofs.lemmas.Result.{IfOk-weaker}
use Rattle.sshd_files.proofs.Adding.{append}
use Rattle.sshd_files.specs.Files.{Listed, all_added, files_in, host_files, listed_of, users_files}
use Rattle.sshd_files.specs.Pattern.{patterns_of}
use Rattle.sshd_files.specs.Settings.{configuration_of}
use Rattle.sshd_files.specs.Users.{account_of}
use Rattle.sshd_files.specs.Words.{texts}
use Rattle.sshd_files.proofs.files.Listing.add_settings.Goals as goal

pub returns : goal.returns
unfolding files_in
returns c =
    let patterns : texts c.deref.result.now ≡ patterns_of c.args.settings.now.files.now =
    ap texts c.deref.ensures.value ∙ c.in_ok-patterns.ensures in
    let users : listed_of c.add_users.new.self ≡ all_added (listed_of c.args.self.now)
    (users_files (patterns_of c.args.settings.now.files.now) (map account_of c.args.users.now)) =
    c.in_ok-add_users.ensures ∙ ap (λ (words : List (List ℕ)). all_added (listed_of c.args.self.now)
    (users_files words (map account_of c.args.users.now))) patterns in
    let host = host_files (configuration_of c.args.settings.now) c.args.asked in
    IfOk-weaker c.add_host.result _ _
    (λ done e. e ∙ ap (λ (l : Listed). all_added l host) users
    ∙ sym (append (listed_of c.args.self.now)
    (users_files (patterns_of c.args.settings.now.files.now) (map account_of c.args.users.now))
    host)) c.add_host.ensures
