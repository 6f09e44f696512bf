-- The texts for options of a subcommand that do not go together.
use Rattle.std.specs.Prelude.{ℕ, ◌++◌, List, Result, Ok, Err, codes}
use Rattle.krl_arguments.specs.declared.misuse.Misuse.{Misuse}
use Rattle.krl_arguments.specs.declared.misuse.Misuse.TheVariants as misuses

-- a result by the other form of its value
abbrev pub result_map : {A B : Type 0} → (A → B) → Result A Misuse → Result B Misuse
result_map other (Ok value) = Ok (other value)
result_map other (Err misuse) = Err misuse

-- the line that says why, and the one that says where the options are listed
abbrev pub why_line : List ℕ → List ℕ
why_line why = codes "error: " ++ (why ++ codes "\n")

abbrev pub help_line : List ℕ
help_line = codes "\nFor more information, try '--help'.\n"

-- why they do not, and the form of use
abbrev pub error_text : List ℕ → List ℕ → List ℕ
error_text why usage =
    why_line why ++ (codes "\nUsage: krl " ++ (usage ++ (codes "\n" ++ help_line)))

abbrev pub audit_usage : List ℕ
audit_usage =
    codes "audit [-f <krl>] [-t <text>] [-aqx] [--all] [--scan] [--canary <file>]"
    ++ (codes " [--exclude <name>] [--json] [--label <text>] [--files0-from <file>]"
    ++ (codes " [--sshd <file>] [--passwd <file>] [--command-output <file>]"
    ++ codes " [file|directory]..."))

abbrev pub make_usage : List ℕ
make_usage =
    codes "make -f <krl> [-z <number>] [--comment <text>] [-nqu] [--replace] [--allow-empty]"
    ++ codes " [file]..."

abbrev pub text_of_misuse : Misuse → List ℕ
text_of_misuse misuses.Incomplete = why_line (codes "an argument is missing") ++ help_line
text_of_misuse misuses.TwoInputs =
    why_line (codes "standard input (-) can be read for one file only") ++ help_line
text_of_misuse misuses.NoList = why_line (codes "-f or -t is needed") ++ help_line
text_of_misuse misuses.NothingToAudit =
    error_text (codes "a file, a directory, --files0-from or --sshd is needed") audit_usage
text_of_misuse misuses.NoLog = error_text
    (codes "a file is needed")
    (codes "logins [-f <krl>] [-t <text>] [-aq] [--json] [file]...")
text_of_misuse misuses.ExcludesPath =
    error_text (codes "--exclude takes the name of a file or a directory, not a path") audit_usage
text_of_misuse misuses.WithoutSshd =
    error_text (codes "--passwd and --command-output go with --sshd") audit_usage
text_of_misuse misuses.WrongAge = error_text
    (codes "--max-age takes a number and one of s, m, h and d, as in 24h")
    (codes "check --max-age <duration> <krl>")
text_of_misuse misuses.WrongMost = error_text
    (codes "--max-cas takes a number below 2^53")
    (codes "check --max-cas <number> <krl>")
text_of_misuse misuses.VersionAlone = error_text
    (codes "--print-version goes with no other option")
    (codes "check --print-version <krl>")
text_of_misuse misuses.WrongVersion = error_text (codes "-z takes a number below 2^64") make_usage
text_of_misuse misuses.InputReplaced =
    error_text (codes "-f takes a file, and - is standard input") make_usage
text_of_misuse misuses.UpdateReplaces =
    error_text (codes "-u does not go with --replace") make_usage
