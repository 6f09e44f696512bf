-- Lists that revoke the same.
use Rattle.std.specs.Prelude.{◌↔◌, ℕ, List}
use Rattle.krl_types.specs.Subject.{Subject}
use Rattle.krl_entries.specs.Revoked.{Revoked}
use Rattle.any_list.specs.Told.{Reading}
use Rattle.any_list.specs.declared.list.List.{List as ListOf}
use Rattle.show_run.specs.Changes.{AreRead}

-- The files of both names were read once each, and the lists that their bytes are revoke the same
-- keys and certificates.
pub record RevokeSame (told : List Reading) (old new : List ℕ) : Type 0 where
  pub before : ListOf
  pub after : ListOf
  pub read : AreRead told old new before after
  pub same : (subject : Subject)
      → Revoked read.is_before.entries subject ↔ Revoked read.is_after.entries subject
