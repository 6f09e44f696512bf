-- The list was made of the texts, over what was under its name.
use Rattle.std.proofs.Common.{inr, refl}
use Rattle.krl.proofs.make.make.Goals as goal

pub returns-in-Ok-made : goal.returns-in-Ok-made
returns-in-Ok-made c =
    let put = c.in-Ok-made.ensures.made in
    inr (
      refl,
      record {
        date = c.in-Ok-date.date;
        texts = c.in-Ok.texts.items;
        named = rw c.as_slice.ensures.value at c.in-Ok.ensures;
        inputs = c.inputs_of-inputs.result;
        asked = rw c.as_slice-2.ensures.value at c.inputs_of-inputs.ensures;
        list = record {
          old = put.old;
          bytes = _;
          version = _;
          contents = _;
          lost = _;
          makes = put.makes;
        };
      },
    )
