-- The names so far and those that are left are all names.
use Rattle.std.proofs.Common.{◌≡◌, ℕ, List}
use Rattle.text_entries.specs.AuthorityNames.{key_named, name_of, named_keys, printed_names}
use Rattle.text_entries.proofs.KeyNames.{or_later}
use Rattle.text_entries.proofs.authority_names.AuthorityNames.by_fingerprint.Given as goal

abbrev pub invariant-loop-name : goal.invariant-loop-name
invariant-loop-name l =
    (print : List ℕ) → or_later (key_named l.names print) (name_of (printed_names (named_keys l.name-iterator)) print) ≡ name_of (printed_names l.fn.self) print
