-- The answer for a key is that of the entries.
use Rattle.std.proofs.Common.{rules}
use Rattle.ssh_cert.specs.AnyKey.{asked_of, plain_of}
use Rattle.krl_runs.proofs.query.QueryAnswers.answer.Goals as goal

pub returns : goal.returns
returns c = λ answering is.
    rw (is.say c.args.key.now.name c.args.key.now.number c.args.key.now.line (asked_of c.args.any.now) (plain_of c.args.any.now) c.requires.expected) (search rules)
