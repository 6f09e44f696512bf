-- The modes of the files beside a list, and who may write the list.
use Rattle.std.specs.Prelude.{ℕ, ◌+◌, ◌*◌, ◌/◌, ◌==◌, ◌&&◌, ◌||◌, not, Bool, true, false, bit_and}

-- the rights that both the group and all others have, as a digit of a mode
abbrev pub shared_rights : ℕ → ℕ
shared_rights mode = bit_and (bit_and (mode / 8) mode) 7

-- the bits that a file with the owner of the list may have, and one with another owner: not the
-- set-user-ID bit
abbrev pub bits_by_owner : Bool → ℕ
bits_by_owner true = 4095
bits_by_owner false = 2047

-- The bits that a file with the group of the list may have, and one with another group: those of
-- the owner and the sticky bit, and for the group and all others only what both had.
abbrev pub bits_by_group : ℕ → Bool → ℕ
bits_by_group mode true = 4095
bits_by_group mode false = 3008 + 9 * shared_rights mode

-- the mode of a file with the owner and the group of the list, or with others
abbrev pub kept_mode : ℕ → Bool → Bool → ℕ
kept_mode mode has_owner has_group =
    bit_and (bit_and mode (bits_by_owner has_owner)) (bits_by_group mode has_group)

-- The mode of a lock: its owner may read and write it, and so may the group and all others if they
-- may write the list.
abbrev pub lock_mode : ℕ → ℕ
lock_mode mode = 384 + 3 * bit_and mode 18

-- the owner may write the list, its group if it has that bit, and anyone if all others have it
abbrev pub is_writer : ℕ → Bool → Bool → Bool
is_writer mode is_owner is_member = is_owner
    || ((is_member && not (bit_and mode 16 == 0)) || not (bit_and mode 2 == 0))
