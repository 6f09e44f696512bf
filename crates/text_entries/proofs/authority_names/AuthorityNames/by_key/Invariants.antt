-- The names so far and those that are left are all names.
use Rattle.std.proofs.Common.{◌≡◌, ℕ, List}
use Rattle.text_entries.specs.AuthorityNames.{key_named, name_of, named_keys}
use Rattle.text_entries.proofs.KeyNames.{or_later}
use Rattle.text_entries.proofs.authority_names.AuthorityNames.by_key.Given as goal

abbrev pub invariant-loop-name : goal.invariant-loop-name
invariant-loop-name l = (key : List ℕ) → or_later (key_named l.names key) (name_of (named_keys l.name-iterator) key) ≡ name_of l.fn.self key
