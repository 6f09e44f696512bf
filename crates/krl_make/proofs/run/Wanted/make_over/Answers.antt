-- The authority is read, and the list is made under it.
use Rattle.std.proofs.Common.{sym, inl, refl}
use Rattle.std.proofs.lemmas.Result.{err_from_is_err_and}
use Rattle.krl_make.proofs.MadeLists.{key_stops, list_written, named_by}
use Rattle.krl_make.proofs.run.Wanted.make_over.Goals as goal

pub returns-in-NotGiven : goal.returns-in-NotGiven
returns-in-NotGiven c =
    list_written _ c.args.self.now.name.now c.args.self.now.version c.args.self.now.authority.now c.args.self.now.date c.args.base c.args.self.now.files.now c.in-Some.version _ _ (sym c.in-Some.ensures.value) (rw c.in-NotGiven.is refl) c.add_and_write.ensures

pub returns-in-All : goal.returns-in-All
returns-in-All c =
    list_written _ c.args.self.now.name.now c.args.self.now.version c.args.self.now.authority.now c.args.self.now.date c.args.base c.args.self.now.files.now c.in-Some.version _ _ (sym c.in-Some.ensures.value) (rw c.in-All.is refl) c.add_and_write-in-All.ensures

pub returns-in_err-key-in-File : goal.returns-in_err-key-in-File
returns-in_err-key-in-File c =
    let p = err_from_is_err_and c.from_residual.result c.from_residual.ensures.1 in
    rw (p.1, p.2) (inl (key_stops c.args.self.now.name.now c.args.self.now.version c.args.self.now.authority.now _ c.args.self.now.date c.args.base c.args.self.now.files.now c.in-Some.version _ (sym c.in-Some.ensures.value) c.in-File.is c.in_err-key-in-File.ensures))

pub returns : goal.returns
returns c =
    let named = named_by c.args.self.now.authority.now _ _ c.in-File.is c.in_ok-key-in-File.ensures in
    let written = rw c.as_slice.ensures at c.add_and_write-in-File.ensures in
    list_written _ c.args.self.now.name.now c.args.self.now.version c.args.self.now.authority.now c.args.self.now.date c.args.base c.args.self.now.files.now c.in-Some.version _ _ (sym c.in-Some.ensures.value) named written
