-- Either reading gives its key.
use Rattle.std.proofs.Common.{inl, inr}
use Rattle.audit_lines.proofs.Spelled.{either_found}
use Rattle.audit_lines.proofs.laws.both_readings_are_found.Goals as goal

pub returns : goal.returns
returns c = λ text word blob comment asked has none is_line is_asked no_zero. elim is_line [
  | inl is ↦ either_found text word blob comment asked has none (inl (c.line_read_where_spelled.ensures.read text word blob comment is)) ((c.asked_where_spelled.ensures blob asked is.bytes).1 is_asked) no_zero
  | inr is ↦ either_found text word blob comment asked has none (inr (c.host_line_read_where_spelled.ensures.read text word blob comment is)) ((c.asked_where_spelled.ensures blob asked is.bytes).1 is_asked) no_zero
]
