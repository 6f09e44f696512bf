-- A word that is unknown is the fault, and otherwise the files are those of the settings, each once.
use Rattle.std.proofs.Common.{◌≡◌, ◌∙◌, List, [], ℕ, Bool, Some, None, Ok, Err, ap, sym, map, refl}
use Rattle.sshd_files.proofs.Distinct.{adds_distinct}
use Rattle.sshd_files.specs.declared.files.SshdFile.{SshdFile}
use Rattle.sshd_files.specs.Files.{File, Listed, all_added, all_files, distinct, file_of, files_at, nothing_listed}
use Rattle.sshd_files.specs.Files.{unknown_word}
use Rattle.sshd_files.specs.Settings.{Configuration, configuration_of}
use Rattle.sshd_files.specs.Users.{Account, account_of}
use Rattle.sshd_files.proofs.files.files_of.Goals as goal

stops : (settings : List Configuration) (users : List Account) (asked : Bool) (word : List ℕ)
    → Some word ≡ unknown_word settings
    → Err word ≡ files_at settings users asked
unfolding files_at
stops settings users asked word e = rw (sym e) refl

lists : (settings : List Configuration) (users : List Account) (asked : Bool) (files : List File)
    → None ≡ unknown_word settings
    → files ≡ distinct (all_files settings users asked) → Ok files ≡ files_at settings users asked
unfolding files_at
lists settings users asked files none e = rw (sym none) (ap (λ (xs : List File). Ok xs) e)

begins : {K : Type 0} (read : K → List ℕ) (files : List SshdFile) (keys : List K) → files ≡ [] → keys ≡ []
    → ◌≡◌ {A = Listed} (record { files = map file_of files; keys = map read keys }) nothing_listed
begins read files keys f k = rw (f, k) refl

pub returns-in-Some : goal.returns-in-Some
returns-in-Some c =
    stops (map configuration_of c.args.settings.now) (map account_of c.args.users.now) c.args.asked c.in-Some.word.now
    (rw c.in-Some.is at c.first_unknown.ensures)

pub returns : goal.returns
returns c =
    let settings = map configuration_of c.args.settings.now in
    let users = map account_of c.args.users.now in
    let all = all_files settings users c.args.asked in
    lists settings users c.args.asked (map file_of c.add_all.new.self.files.items)
    (rw c.in_default.is at c.first_unknown.ensures)
    (ap (λ (l : Listed). l.files) c.in_ok-add_all.ensures
    ∙ ap (λ (l : Listed). (all_added l all).files)
    (begins (λ key. key.items) c.new.result.items c.new-2.result.keys c.new.ensures.items c.new-2.ensures.empty)
    ∙ adds_distinct all)
