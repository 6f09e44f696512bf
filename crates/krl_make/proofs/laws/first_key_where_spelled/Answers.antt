-- The laws of key lines and of containers give their parts.
use Rattle.krl_make.proofs.FirstKeys.{KeyLaws, first_key_again, first_key_fault_met, first_key_found, first_key_refused}
use Rattle.krl_make.proofs.laws.first_key_where_spelled.Goals as goal

pub returns : goal.returns
returns c =
    let laws : KeyLaws = record {
      keys = c.key_where_spelled.ensures.read;
      no_keys = c.key_where_spelled.ensures.refused;
      opened = c.private_read_where_spelled.ensures;
      not_opened = c.private_refused_by_first_fault.ensures;
      read_back = c.blob_read_back.ensures;
    } in
    record {
      read = λ name text blob fits. (first_key_found laws name text blob fits, first_key_again laws name text blob fits);
      refused = λ name text stop fits. (first_key_refused laws name text stop fits, first_key_fault_met laws name text stop fits);
    }
