-- Each is escaped.
use Rattle.json_lines.proofs.NoControls.{clear_text}
use Rattle.json_lines.proofs.laws.texts_have_no_controls.Goals as goal

pub returns : goal.returns
returns c = clear_text
