-- The search for logins that the command asks for.
use Rattle.std.specs.Prelude.{◌≡◌, Option, None}
use Rattle.std.specs.Borrow.{Bor}
use Rattle.krl_arguments.specs.Task.{logins_by, name_or_first}
use Rattle.krl_arguments.specs.declared.task.Logins.{Logins}
use Rattle.audit_run.specs.Options.{has_colours, shown_by}
use Rattle.audit_run.specs.declared.options.Terminal.{Terminal}
use Rattle.text_index.specs.declared.indexing.TextIndex.{TextIndex}
use Rattle.login_run.specs.declared.order.LoginOrder.{LoginOrder}

-- This search is what the task asks for, by its texts, with its findings in colour where the
-- terminal shows colours.
pub record IsLoginOrder (task : Logins) (texts : Option (Bor TextIndex)) (terminal : Terminal)
    (order : LoginOrder) : Type 0 where
  pub list : order.list.now ≡ name_or_first (logins_by task).list (logins_by task).texts
  pub texts_are : order.texts ≡ texts
  pub shown : order.shown ≡ shown_by (record {
    label = None;
    quiet = task.quiet;
    all = task.all;
    json = task.json;
    colours = has_colours terminal;
  })
  pub files : order.files.now ≡ task.files.items
