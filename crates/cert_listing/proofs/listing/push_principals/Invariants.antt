use Rattle.std.proofs.Common.{◌≡◌, ◌++◌, map}
use Rattle.std.specs.List.{flat_map}
use Rattle.ssh_cert.specs.Escape.{escaped}
use Rattle.cert_listing.specs.Listing.{item}
use Rattle.cert_listing.proofs.listing.push_principals.Given as goal

-- the items so far, and those that are left
abbrev pub invariant-loop-principal : goal.invariant-loop-principal
invariant-loop-principal l = l.out.items ++ flat_map item (map escaped l.principals) ≡ l.initial.out.items ++ flat_map item (map escaped l.initial.principals)
