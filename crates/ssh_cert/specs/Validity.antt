-- When a certificate is valid.
use Rattle.std.specs.Prelude.{ℕ, ◌<◌, ◌≤◌}
use Rattle.ssh_cert.specs.Cert.{Cert}

-- from its first second on, and before the second at which its time ends
abbrev pub IsValidAt : Cert → ℕ → Type 0
IsValidAt certificate moment = (certificate.after ≤ moment) × (moment < certificate.before)
