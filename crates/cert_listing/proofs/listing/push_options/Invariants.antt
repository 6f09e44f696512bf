use Rattle.std.proofs.Common.{◌≡◌, ◌++◌, map}
use Rattle.std.specs.List.{flat_map}
use Rattle.cert_listing.specs.Listing.{item, option_item}
use Rattle.cert_listing.proofs.listing.push_options.Given as goal

-- the items so far, and those that are left
abbrev pub invariant-loop-option : goal.invariant-loop-option
invariant-loop-option l = l.out.items ++ flat_map item (map option_item l.options) ≡ l.initial.out.items ++ flat_map item (map option_item l.initial.options)
