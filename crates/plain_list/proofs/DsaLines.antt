-- Lines without DSA, one after another.
use Rattle.std.proofs.Common.{◌≡◌, ℕ, ◌+◌, List, [], ◌∷◌, ◌++◌, length, None, Some, refl, sym, ◌∙◌, arith, append_assoc}
use Rattle.std.proofs.lemmas.List.{append-nil, length-append}
use Rattle.std.proofs.lemmas.List.Elements.{All-append, All-cons, All-nil}
use Rattle.std.specs.Prelude.{All}
use Rattle.plain_list.specs.Dsa.{HasNoDsa, IsDsaAt, line_dsa}
use Rattle.plain_list.specs.declared.dsa.DsaPart.{DsaPart}

-- The lines before have no DSA.
pub record IsAt (lines : List (List ℕ)) (passed : ℕ) (rest : List (List ℕ)) : Type 0 where
  pub before : List (List ℕ)
  pub parts : lines ≡ before ++ rest
  pub counted : length before ≡ passed
  pub none : All HasNoDsa before

pub at_first : (lines : List (List ℕ)) → IsAt lines 0 lines
at_first lines = record { before = []; parts = refl; counted = refl; none = All-nil HasNoDsa }

pub next_line : (lines : List (List ℕ)) (passed : ℕ) (line : List ℕ) (rest : List (List ℕ)) → IsAt lines passed (line ∷ rest) → line_dsa line ≡ None → IsAt lines (passed + 1) rest
next_line lines passed line rest at none = record {
  before = at.before ++ line ∷ [];
  parts = at.parts ∙ sym (append_assoc at.before (line ∷ []) rest);
  counted = omega (arith, at.counted, length-append at.before (line ∷ []));
  none = All-append HasNoDsa at.before (line ∷ []) at.none (All-cons HasNoDsa line [] none (All-nil HasNoDsa));
}

pub all_passed : (lines : List (List ℕ)) (passed : ℕ) → IsAt lines passed [] → All HasNoDsa lines
all_passed lines passed at =
    let whole : lines ≡ at.before = at.parts ∙ append-nil at.before in
    rw whole at.none

pub found : (lines : List (List ℕ)) (passed : ℕ) (line : List ℕ) (rest : List (List ℕ)) (part : DsaPart) → IsAt lines passed (line ∷ rest) → line_dsa line ≡ Some part → IsDsaAt lines (passed + 1) part
found lines passed line rest part at is = record {
  before = at.before;
  line = line;
  after = rest;
  parts = at.parts;
  counted = omega (arith, at.counted);
  none_before = at.none;
  part_is = is;
}
