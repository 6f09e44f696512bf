-- The paths of the entries of a directory.
use Rattle.std.specs.Prelude.{ℕ, List, ◌++◌, codes, nat_eq, if◌then◌else◌}
use Rattle.std.specs.List.{ends_with}

-- the path of a name in a directory
unfoldable pub path_in : (directory name : List ℕ) → List ℕ
path_in directory name =
    if ends_with nat_eq directory (codes "/") then directory ++ name
    else directory ++ (codes "/" ++ name)
