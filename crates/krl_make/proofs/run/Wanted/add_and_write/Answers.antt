-- The files are added or stop the run, and the list is written.
use Rattle.std.proofs.Common.{inl, inr}
use Rattle.std.proofs.lemmas.Result.{err_from_is_err_and}
use Rattle.krl_make.proofs.MadeLists.{made_written}
use Rattle.krl_make.specs.Making.{parts_of}
use Rattle.krl_make.proofs.run.Wanted.add_and_write.Goals as goal

pub returns-in_err-add_files : goal.returns-in_err-add_files
returns-in_err-add_files c =
    let p = err_from_is_err_and c.from_residual.result c.from_residual.ensures.1 in
    inr (_, (p.1, rw p.2 c.in_err-add_files.ensures))

pub returns : goal.returns
returns c =
    let added = c.in_ok-add_files.ensures in
    inl (added.0, (added.1.0, made_written _ c.args.self.now.name.now (parts_of c.args.header.now c.args.held added.0) _ _ added.1.1 c.write_list.ensures))
