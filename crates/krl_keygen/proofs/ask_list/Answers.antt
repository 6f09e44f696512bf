-- The list was queried for the keys of the files.
use Rattle.std.proofs.Common.{inr}
use Rattle.krl_keygen.proofs.Ended.{ended}
use Rattle.krl_keygen.proofs.ask_list.Goals as goal

pub returns : goal.returns
returns c = inr (record {
  files = _;
  named = rw (c.as_slice-2.ensures.value, ← c.as_slice.ensures.value) c.in-Ok-open_files.ensures;
  before = _;
  left = _;
  failed = _;
  items = _;
  run = c.query_run-done.ensures.1;
  ends = ended _ _ _ _ _ _ _ c.end.ensures c.query_run-done.ensures.2;
})
