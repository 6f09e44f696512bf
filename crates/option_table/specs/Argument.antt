-- The rules of arguments, by their syntax.
use Rattle.std.specs.Prelude.{ℕ, true, List, [], ◌∷◌, Some, slice_index}
use Rattle.clap.specs.Lexer.{usize_max}
use Rattle.clap.specs.Simple.{App, new_rule, with_rule}
use Rattle.clap.specs.Walk.{Rule}
use Rattle.clap.specs.declared.builder.action.ArgAction.TheVariants.{Append, Set, SetTrue}
use Rattle.clap.specs.declared.builder.action.ArgAction.TheVariants.{Version as AskVersion}
use Rattle.option_table.specs.declared.argument.Argument.{Argument}
use Rattle.option_table.specs.declared.argument.Syntax.{Syntax}
use Rattle.option_table.specs.declared.argument.Syntax.TheVariants as syntaxes

-- the letter of an option, as a text of one letter
abbrev pub letter_of : List ℕ → ℕ
letter_of text = slice_index text 0

-- an option without a value, by its letter or by a long name
abbrev pub letter_rule : List ℕ → ℕ → Rule
letter_rule id letter = record (new_rule id) { short = Some letter; action = Some SetTrue }

abbrev pub long_rule : List ℕ → Rule
long_rule id = record (new_rule id) { long = Some id; action = Some SetTrue }

-- an option with one value, by its letter
abbrev pub letter_value_rule : List ℕ → ℕ → Rule
letter_value_rule id letter =
    record (new_rule id) { short = Some letter; action = Some Set; value_names = 1 }

-- an option with a value, by its letter, any number of times
abbrev pub letter_values_rule : List ℕ → ℕ → Rule
letter_values_rule id letter =
    record (new_rule id) { short = Some letter; action = Some Append; value_names = 1 }

-- an option with one value, by its letter, that must be given
abbrev pub needed_rule : List ℕ → ℕ → Rule
needed_rule id letter = record (new_rule id) {
  short = Some letter;
  action = Some Set;
  value_names = 1;
  required = true;
}

-- an option with one value, by a long name
abbrev pub long_value_rule : List ℕ → Rule
long_value_rule id = record (new_rule id) { long = Some id; action = Some Set; value_names = 1 }

-- an option with a value, by a long name, any number of times
abbrev pub long_values_rule : List ℕ → Rule
long_values_rule id =
    record (new_rule id) { long = Some id; action = Some Append; value_names = 1 }

-- a word by itself that must be given
abbrev pub word_rule : List ℕ → Rule
word_rule id = record (new_rule id) { action = Some Set; value_names = 1; required = true }

-- any number of words by themselves
abbrev pub words_rule : List ℕ → Rule
words_rule id = record (new_rule id) {
  action = Some Append;
  range = Some (record { start_inclusive = 0; end_inclusive = usize_max });
  value_names = 1;
}

-- one or more words by themselves
abbrev pub some_words_rule : List ℕ → Rule
some_words_rule id = record (new_rule id) {
  action = Some Append;
  range = Some (record { start_inclusive = 1; end_inclusive = usize_max });
  value_names = 1;
  required = true;
}

-- a long name that asks for the program's version
abbrev pub version_rule : List ℕ → List ℕ → Rule
version_rule id name = record (new_rule id) { long = Some name; action = Some AskVersion }

-- the rule of an argument, by its syntax
abbrev pub syntax_rule : List ℕ → Syntax → Rule
syntax_rule id (syntaxes.Letter letter) = letter_rule id letter
syntax_rule id (syntaxes.LetterValue letter name) = letter_value_rule id letter
syntax_rule id (syntaxes.LetterValues letter name) = letter_values_rule id letter
syntax_rule id (syntaxes.Needed letter name) = needed_rule id letter
syntax_rule id syntaxes.Long = long_rule id
syntax_rule id (syntaxes.LongValue name) = long_value_rule id
syntax_rule id (syntaxes.LongValues name) = long_values_rule id
syntax_rule id (syntaxes.Word name) = word_rule id
syntax_rule id (syntaxes.Words name) = words_rule id
syntax_rule id (syntaxes.SomeWords name) = some_words_rule id
syntax_rule id (syntaxes.Version name) = version_rule id name.now

abbrev pub rule_by : Argument → Rule
rule_by argument = syntax_rule argument.id.now argument.syntax

abbrev pub with_rules : App → List Rule → App
with_rules app [] = app
with_rules app (rule ∷ rules) = with_rules (with_rule app rule) rules
