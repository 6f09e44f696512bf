-- The job of the words is done, or the words are refused.
use Rattle.krl_keygen.specs.Ends.{done, refused}
use Rattle.krl_keygen.proofs.ToolProgram.run.Goals as goal

pub returns-in-Ok : goal.returns-in-Ok
returns-in-Ok c = done c.in-Ok.job c.in-Ok.ensures c.run_job.ensures

pub returns-in-Err : goal.returns-in-Err
returns-in-Err c = refused c.in-Err.fault c.in-Err.ensures c.refuse.ensures
