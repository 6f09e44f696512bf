-- The list that was found is the one of the words.
use Rattle.std.proofs.Common.{◌∙◌, ap, ap₂}
use Rattle.clap.specs.Matches.{found_of}
use Rattle.clap.specs.Walk.{rows_of}
use Rattle.krl_arguments.specs.Making.{if_makes, make_named}
use Rattle.krl_arguments.proofs.making.make_in.Goals as goal
