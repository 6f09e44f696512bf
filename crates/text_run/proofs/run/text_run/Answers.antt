-- The list is made and put, or the texts are refused, or no list of them is put.
use Rattle.text_run.proofs.MadeLists.{makes_over}
use Rattle.text_run.specs.Over.{place, texts}
use Rattle.text_run.proofs.run.text_run.Goals as goal

pub returns-in-Err-clause-unmade : goal.returns-in-Err-clause-unmade
returns-in-Err-clause-unmade g c = texts c.in-Err.ensures.refused

pub returns-in-Ok-make_at-clause-made : goal.returns-in-Ok-make_at-clause-made
returns-in-Ok-make_at-clause-made g c =
    let put = rw c.in-Ok.ensures.same at c.in-Ok-make_at.ensures.put in
    record {
      old = put.old;
      over = put.over;
      makes = rw (c.with_texts.ensures.bytes, c.with_texts.ensures.version, c.with_texts.ensures.revocations, c.with_texts.ensures.lost)
          (makes_over c.args.inputs.now c.in-Ok.list.revocations put.old _ _ c.in-Ok.ensures.read put.makes);
      held = rw c.with_texts.ensures.bytes put.held;
    }

pub returns-clause-unmade : goal.returns-clause-unmade
returns-clause-unmade g c =
    let why = rw c.in-Ok.ensures.same at c.in-Err-make_at.ensures.why in
    place c.in-Ok.list.revocations c.in-Ok.ensures.read why
