-- Lists that a run showed.
use Rattle.std.specs.Borrow.{Bor}
use Rattle.std.specs.Prelude.{ℕ, List, All, map}
use Rattle.krl_format.specs.declared.header.Header.{Header}
use Rattle.ssh_wire.specs.Wire.{IsBytes}
use Rattle.any_list.specs.List.{IsReadList}
use Rattle.show_run.specs.Lists.{AreGiven}
use Rattle.any_list.specs.Told.{Reading}
use Rattle.any_list.specs.declared.list.List.{List as ListOf}
use Rattle.text_laws.specs.MadeLists.{IsMergedOf}
use Rattle.text_laws.specs.ReadBack.{HasNoZeroIds, Shown}

-- a list that was read, as it is shown
abbrev pub shown_of : ListOf → Shown
shown_of given = record {
  name = given.name.now;
  header = given.header;
  contents = given.revocations;
}

-- The list was read from bytes, and no key ID in it has a zero byte.
pub record IsRead (given : ListOf) : Type 0 where
  pub name : List ℕ
  pub bytes : List ℕ
  pub fits : IsBytes bytes
  pub given_by : IsReadList name bytes given
  pub whole_ids : HasNoZeroIds given.revocations

-- No key ID in the lists of these files has a zero byte.
abbrev pub HaveNoZeroIds : List Reading → List (Bor (List ℕ)) → Type 0
HaveNoZeroIds told names =
    (lists : List ListOf) → AreGiven told names lists
    → All (λ given. HasNoZeroIds given.revocations) lists

-- The files of these names were read once each, in this order, and the bytes are those of a list
-- with this header that names exactly what the lists in them name.
pub record AreMerged (told : List Reading) (names : List (Bor (List ℕ))) (header : Header)
    (bytes : List ℕ) : Type 0 where
  pub lists : List ListOf
  pub are_given : AreGiven told names lists
  pub merged : IsMergedOf (map shown_of lists) header bytes
