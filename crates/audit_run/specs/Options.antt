-- Which findings are printed, and how, by the options of the command.
use Rattle.std.specs.Prelude.{◌&&◌, Bool, true, false, not}
use Rattle.audit_text.specs.declared.format.Format.{Format}
use Rattle.audit_text.specs.declared.format.Format.TheVariants as formats
use Rattle.krl_audit.specs.declared.judge.Shown.{Shown}
use Rattle.audit_run.specs.declared.options.Options.{Options}
use Rattle.audit_run.specs.declared.options.Terminal.{Terminal}

-- Standard output is a terminal, NO_COLOR has no value, and TERM is not dumb.
abbrev pub has_colours : Terminal → Bool
has_colours terminal = terminal.is_terminal && (not terminal.no_colour && not terminal.is_dumb)

-- No object is in colour, since programs read them.
abbrev pub form_by : (json colours : Bool) → Format
form_by true colours = formats.Json
form_by false true = formats.Colour
form_by false false = formats.Text

-- Nothing is printed with -q, and keys that are not revoked are printed only with -a. The label is
-- printed before each name.
abbrev pub shown_by : Options → Shown
shown_by options = record {
  label = options.label;
  revoked = not options.quiet;
  unread = not options.quiet;
  fine = options.all && not options.quiet;
  format = form_by options.json options.colours;
}
