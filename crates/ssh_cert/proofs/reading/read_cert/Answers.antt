use Rattle.std.proofs.Common.{rules}
use Rattle.ssh_cert.proofs.Certs.{blob_read}
use Rattle.ssh_cert.proofs.reading.read_cert.Goals as goal

pub returns : goal.returns
returns c = record {
  exact =
      blob_read c.args.blob.now _ _ _ _ _ _ _ _ _ _ c.new-cursor.ensures c.in_ok-string.ensures.exact c.in_ok-kind.ensures c.in_ok-nonce.ensures.exact c.in_ok-key.ensures c.in_ok-cert.ensures
      (search rules);
}
