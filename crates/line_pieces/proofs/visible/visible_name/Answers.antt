-- The shown name is ASCII, so it is a string.
use Rattle.std.proofs.Common.{◌++◌, IsUtf8, ap, false, subst, sym, ◌∙◌}
use Rattle.line_pieces.specs.Visible.{visible_bytes}
use Rattle.line_pieces.proofs.AsciiNames.{bytes_utf8}
use Rattle.line_pieces.proofs.visible.visible_name.Goals as goal

-- src/visible.rt:33:8
pub unwrap-requires : goal.unwrap-requires
unwrap-requires c =
    let shown = visible_bytes false c.args.name.now in
    c.from_utf8.ensures.succeeds (subst IsUtf8 (sym (c.in_ok-push_bytes.ensures ∙ ap (λ t. t ++ shown) c.new-shown.ensures.items)) (bytes_utf8 false c.args.name.now))
