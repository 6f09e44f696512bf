use Rattle.login_lines.proofs.TagLaws.{bare_message, behind_first_tag, line_parts, untagged_message}
use Rattle.login_lines.proofs.laws.line_is_prefix_and_message.Goals as goal

pub returns-clause-parts : goal.returns-clause-parts
returns-clause-parts c = line_parts

pub returns-clause-bare : goal.returns-clause-bare
returns-clause-bare c = bare_message

pub returns-clause-tagged : goal.returns-clause-tagged
returns-clause-tagged c = behind_first_tag

pub returns-clause-untagged : goal.returns-clause-untagged
returns-clause-untagged c = untagged_message
