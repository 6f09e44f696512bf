-- One list is read after the other.
use Rattle.std.proofs.Common.{◌++◌, List, refl, ℕ}
use Rattle.any_list.specs.List.{IsGiven}
use Rattle.any_list.specs.Told.{Reading}
use Rattle.any_list.specs.declared.list.List.{List as ListOf}
use Rattle.show_run.specs.Changes.{AreRead}

pub both_read : (first last : List Reading) (old new olds news : List ℕ) (before after : ListOf) → IsGiven first old olds before → IsGiven last new news after → AreRead (first ++ last) old new before after
both_read first last old new olds news before after is other = record {
  olds = olds;
  news = news;
  told_is = rw (is.told_is, other.told_is) refl;
  is_before = is.is;
  is_after = other.is;
}
