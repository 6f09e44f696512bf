-- The list up to each of its sections is a list, so the section's authority is a field.
use Rattle.std.proofs.Common.{[], refl, subst, sym}
use Rattle.ssh_wire.specs.Wire.{IsBytes}
use Rattle.ssh_wire.proofs.Digits.{IsBytes-back}
use Rattle.ssh_wire.proofs.RowLaws.{table_front}
use Rattle.krl_format.specs.Krl.{header_fields}
use Rattle.krl_openssh.proofs.AlikeAuthorities.{have_keys}
use Rattle.krl_openssh.proofs.AlikeLists.{boundary}
use Rattle.krl_openssh.proofs.laws.authorities_are_keys_if_alike.Goals as goal

pub returns : goal.returns
returns c = λ list header sections bytes none spells alike.
    let within = (c.no_fault_where_spelled.ensures.unfaulted list bytes none).0 in
    let front = table_front header_fields [] list spells.values spells.body spells.fields in
    have_keys sections spells.body spells.signatures_last (λ blob key fits. (c.read_where_spelled.ensures blob key fits).0)
    (boundary list header sections spells bytes within c.no_fault_where_spelled.ensures.spelled alike.fields alike.has (sym alike.difference_is))
    [] sections [] spells.body refl spells.sections_are refl refl (IsBytes-back front.0 spells.body (subst IsBytes front.1 bytes))
