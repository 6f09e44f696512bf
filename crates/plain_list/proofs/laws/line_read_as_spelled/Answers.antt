-- The laws of key lines and of keys give their parts.
use Rattle.plain_list.proofs.Keys.{Laws, fault_met, line_again, line_found, line_refused}
use Rattle.plain_list.proofs.laws.line_read_as_spelled.Goals as goal

pub returns : goal.returns
returns c =
    let laws : Laws = record {
      keyed = c.key_where_spelled.ensures.read;
      not_keyed = c.key_where_spelled.ensures.refused;
      read_back = c.blob_read_back.ensures;
    } in
    record {
      read = λ line key fits. (line_found laws line key fits, line_again laws line key fits);
      refused = λ line cause fits. (line_refused laws line cause fits, fault_met laws line cause fits);
    }
