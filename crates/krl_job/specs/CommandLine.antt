-- The options on a parsed command line (ssh-keygen(1), SYNOPSIS).
use Rattle.std.specs.Prelude.{ℕ, Bool, List, Option, map, option_map}
use Rattle.krl_job.specs.declared.command_line.CommandLine.{CommandLine as CommandLineOf}

-- A parsed command line: which of the options without a value are given, the values of the others,
-- the files, and whether a file is named between two uses of -s.
pub record CommandLine : Type 0 where
  pub list : Bool
  pub certificates : Bool
  pub make : Bool
  pub query : Bool
  pub update : Bool
  pub file : Option (List ℕ)
  pub hash : Option (List ℕ)
  pub authority : Option (List ℕ)
  pub version : Option (List ℕ)
  pub files : List (List ℕ)
  pub is_divided : Bool

-- the same, as the program stores it
abbrev pub given_by : CommandLineOf → CommandLine
given_by given = record {
  list = given.list;
  certificates = given.certificates;
  make = given.make;
  query = given.query;
  update = given.update;
  file = option_map (λ text. text.now) given.file;
  hash = option_map (λ text. text.now) given.hash;
  authority = option_map (λ text. text.now) given.authority;
  version = option_map (λ text. text.now) given.version;
  files = map (λ name. name.now) given.files.items;
  is_divided = given.is_divided;
}
