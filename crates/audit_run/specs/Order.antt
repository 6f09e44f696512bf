-- The audit that the command asks for.
use Rattle.std.specs.Prelude.{◌≡◌, ℕ, List, [], Option, Some, None}
use Rattle.std.specs.Borrow.{Bor}
use Rattle.krl_arguments.specs.declared.task.Audit.{Audit}
use Rattle.audit_run.specs.declared.order.Loaded.{Loaded}
use Rattle.audit_run.specs.declared.order.Order.{Order}
use Rattle.audit_run.specs.Search.{search_of}
use Rattle.audit_run.specs.Options.{has_colours, shown_by}
use Rattle.audit_run.specs.declared.options.Terminal.{Terminal}

-- the name of the file of names of files, which is empty if there is none
abbrev pub name_or_nothing : Option (Bor (List ℕ)) → List ℕ
name_or_nothing None = []
name_or_nothing (Some name) = name.now

-- This audit is what the task asks for, by what was read for it, with its findings in colour where
-- the terminal shows colours.
pub record IsOrder (task : Audit) (loaded : Loaded) (terminal : Terminal) (order : Order)
    : Type 0 where
  pub list : order.list ≡ loaded.list
  pub canaries : order.canaries ≡ loaded.canaries
  pub texts : order.texts ≡ loaded.texts
  pub sought : order.sought ≡ loaded.sought
  pub shown : order.shown ≡ shown_by (record {
    quiet = task.quiet;
    all = task.all;
    json = task.json;
    label = task.label;
    colours = has_colours terminal;
  })
  pub search : order.search ≡ search_of task.scan task.every_file
  pub names_from : order.names_from.now ≡ name_or_nothing task.names_from
  pub paths : order.paths.now ≡ task.files.items
