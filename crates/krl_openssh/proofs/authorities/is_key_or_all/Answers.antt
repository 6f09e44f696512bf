-- Bytes are a key that is read, or none; then OpenSSH decides.
use Rattle.std.proofs.Common.{inl, inr, ap, sym, ◌∙◌, length}
use Rattle.std.specs.Prelude.{◌==◌}
use Rattle.std.proofs.lemmas.Bool.{false≢true}
use Rattle.ssh_key.specs.Key.{PublicKey}
use Rattle.ssh_key.specs.KeyReading.{key_at}
use Rattle.openssh_keys.specs.Judgement.{judgement_of}
use Rattle.krl_openssh.proofs.Spelled.{not_both, one_read}
use Rattle.krl_openssh.proofs.authorities.is_key_or_all.Goals as goal

pub returns-in-Err : goal.returns-in-Err
returns-in-Err c = (
  λ never. absurd (false≢true never),
  λ is. elim is [
    | inl none ↦ absurd (false≢true (sym c.if-is_empty.false ∙ c.is_empty.ensures ∙ ap (λ bytes. length bytes == 0) none))
    | inr key ↦ absurd (not_both (key_at c.args.authority.now) c.in-Err.field-0 key.key (sym c.read_key.ensures.exact ∙ c.in-Err.is) ((c.read_where_spelled.ensures c.args.authority.now key.key (λ i. (c.type_inv.authority i).fits)).1 key.is_key))
  ],
)

pub returns-in-Ok : goal.returns-in-Ok
returns-in-Ok c =
    let found = sym c.read_key.ensures.exact ∙ c.in-Ok.is in
    let spelled = λ (key : PublicKey). c.read_where_spelled.ensures c.args.authority.now key (λ i. (c.type_inv.authority i).fits) in (
      λ accepted. inr (record { key = c.in-Ok.key; is_key = (spelled c.in-Ok.key).0 found; accepted = c.is_accepted.ensures.0 accepted }),
      λ is. elim is [
        | inl none ↦ absurd (false≢true (sym c.if-is_empty.false ∙ c.is_empty.ensures ∙ ap (λ bytes. length bytes == 0) none))
        | inr accepted ↦
            let one = one_read (key_at c.args.authority.now) c.in-Ok.key accepted.key found ((spelled accepted.key).1 accepted.is_key) in
            c.is_accepted.ensures.1 (ap judgement_of one ∙ accepted.accepted)
      ],
    )
