use Rattle.std.proofs.Common.{ℕ, List, subst}
use Rattle.krl_entries.specs.Revocations.{Revocations, nothing}
use Rattle.text_laws.specs.ReadBack.{IsReadInto}
use Rattle.text_entries_tests.proofs.tests.page.restored.Goals as goal

pub returns : goal.returns
returns c names r are stored same =
    let held : Revocations = c.read_text.new.revocations in
    let reads = rw c.new.ensures at c.in_ok-read_text.ensures.reads in
    let into : IsReadInto c.args.text.now c.new-held.result held = (0, c.read_text.new.standing, reads) in
    let from_nothing : IsReadInto c.args.text.now nothing held =
    subst (λ (old : Revocations). IsReadInto c.args.text.now old held) c.new-held.ensures.nothing into in
    c.text_reads_back.ensures.same names r held are stored (subst (λ (text : List ℕ). IsReadInto text nothing held) same from_nothing)
