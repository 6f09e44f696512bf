-- Relations between the answers of different calls, and the numbers that no call answers.
use Rattle.std.specs.Prelude.{◌≡◌, ◌⊎◌, zero, suc, ℤ, pos, negsuc, false, List, [], ◌∷◌}
use Rattle.std.specs.List.{AllByRecursion}
use Rattle.krl_types.specs.Entry.{Entry}
use Rattle.krl_c.specs.Number.{fine, revoked}
use Rattle.krl_c.specs.Stored.{Holds}
use Rattle.krl_c.specs.declared.stored.Stored.{Stored}

-- The answer of a query for which there are these reasons: 1 if there is one, and 0 if there is
-- none. A number below zero does not change.
abbrev pub answer_of : ℤ → ℤ
answer_of (pos zero) = fine
answer_of (pos (suc reasons)) = revoked
answer_of (negsuc number) = negsuc number

-- -113 would be that the reader of a list failed, and bytes in memory have none. -114 would be a
-- failed allocation, which has the number -1. -402 and -502 would be that the type of a certificate
-- or of its key is not known, and it is known before either is read. -507 would be that bytes are
-- left after the key, where the other fields are.
abbrev pub never_answered : List ℤ
never_answered = negsuc 112 ∷ negsuc 113 ∷ negsuc 401 ∷ negsuc 501 ∷ negsuc 506 ∷ []

abbrev pub IsAnswer : ℤ → Type 0
IsAnswer number = AllByRecursion (λ (other : ℤ). number ≡ other → ⊥) never_answered

-- A handle has no list, or one that means some entries.
abbrev pub IsReady : Stored → Type 0
IsReady stored =
    (stored.loaded ≡ false) ⊎ ((entries : List Entry) × Holds stored.loaded stored.list entries)
