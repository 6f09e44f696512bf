-- Serial numbers at the front of some bytes that are skipped.
use Rattle.krl_entries.proofs.Common.{[], ◌*◌, ◌+◌, ◌-◌, ◌<◌, ◌∙◌, ◌∷◌, ◌≡◌, ◌≤◌, ap, arith, drop}
use Rattle.krl_entries.proofs.Common.{drop-take, get_or, length, List, number_of, serial_at, sym}
use Rattle.krl_entries.proofs.Common.{take, take-take, ℕ}
use Rattle.ssh_wire.proofs.Fields.{number_of-one}
pub use Rattle.std.proofs.lemmas.List.{take-take as take_fewer}

-- a serial number that lies within the first bytes is the same in them
pub serial_within : (bytes : List ℕ) (k count : ℕ) → 8 * k + 8 ≤ count → serial_at bytes k ≡ serial_at (take count bytes) k
serial_within bytes k count fits =
    let parts : 8 * k + (count - 8 * k) ≡ count = omega arith in
    let front : drop (8 * k) (take count bytes) ≡ take (count - 8 * k) (drop (8 * k) bytes) =
    ap (λ (n : ℕ). drop (8 * k) (take n bytes)) (sym parts) ∙ drop-take (8 * k) (count - 8 * k) bytes in
    ap number_of (sym (ap (take 8) front ∙ take-take 8 (count - 8 * k) (drop (8 * k) bytes) (omega arith)))

-- the first byte as a number
pub first_byte : (bytes : List ℕ) (bound : ℕ) → 0 < length bytes → get_or bytes 0 0 < bound → number_of (take 1 bytes) < bound
first_byte [] bound some lt = absurd (omega arith)
first_byte (b ∷ bs) bound some lt = omega (arith, number_of-one b)
