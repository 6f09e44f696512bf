use Rattle.std.proofs.Common.{◌∙◌, ap}
use Rattle.sshd_files.specs.Words.{split_around}
use Rattle.sshd_files.proofs.Fields.{split_again, split_found}
use Rattle.sshd_files.proofs.laws.text_split_at_first.Goals as goal

pub returns : goal.returns
returns c =
    λ separator text front back. (
      λ e. split_found separator text (front, back) e,
      λ is. ap (split_around separator)
          is.0 ∙ split_again separator front back is.1,
    )
