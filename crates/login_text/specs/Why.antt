-- Why a line or a log is not read.
use Rattle.std.specs.Prelude.{ℕ, List, ◌++◌, codes, decimal}
use Rattle.login_lines.specs.declared.fault.LoginFault.TheVariants.{Cut, Hostbased, Malformed}
use Rattle.login_text.specs.declared.why.LoginWhy.{LoginWhy}
use Rattle.login_text.specs.declared.why.LoginWhy.TheVariants.{Line, LongLine, Packed}
use Rattle.login_text.specs.declared.why.Packed.{Packed as PackedForm}
use Rattle.login_text.specs.declared.why.Packed.TheVariants as packs

abbrev pub packed_words : PackedForm → List ℕ
packed_words packs.Gzip = codes "it is compressed: zcat prints it"
packed_words packs.Xz = codes "it is compressed: xzcat prints it"
packed_words packs.Zstd = codes "it is compressed: zstdcat prints it"
packed_words packs.Journal = codes "it is a journal: journalctl --file prints it"

-- the words for people
abbrev pub login_why_text : LoginWhy → List ℕ
login_why_text (Line Cut) = codes "the line of a login is cut"
login_why_text (Line Malformed) = codes "the line of a login is malformed"
login_why_text (Line Hostbased) = codes "a login by the key of a host is not looked at"
login_why_text LongLine = codes "the line has more than 16 MiB, and what follows is not read"
login_why_text (Packed packed) = packed_words packed

abbrev pub why_number : LoginWhy → ℕ
why_number (Line Cut) = 1
why_number (Line Malformed) = 2
why_number (Line Hostbased) = 3
why_number LongLine = 4
why_number (Packed packed) = 5

abbrev pub why_name : LoginWhy → List ℕ
why_name (Line Cut) = codes "Cut"
why_name (Line Malformed) = codes "Malformed"
why_name (Line Hostbased) = codes "Hostbased"
why_name LongLine = codes "LongLine"
why_name (Packed packed) = codes "Packed"

-- the fault by its family, its number and its name
abbrev pub login_fault_text : LoginWhy → List ℕ
login_fault_text why =
    codes "login " ++ (decimal (why_number why) ++ (codes " " ++ why_name why))
