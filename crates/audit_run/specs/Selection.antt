-- Which files of a directory are read (krl(1), FILES THAT ARE READ).
use Rattle.std.specs.Prelude.{ℕ, ◌||◌, Bool, true, false, List, codes, nat_eq, if◌then◌else◌}
use Rattle.std.specs.List.{ends_with, starts_with}
use Rattle.std.specs.Str.{bytes_eq}
use Rattle.key_text.specs.Armour.{begins_container}
use Rattle.audit_run.specs.declared.selection.Selection.{Selection}
use Rattle.audit_run.specs.declared.selection.Selection.TheVariants as selections

-- the name of a file of public keys
abbrev pub is_key_name : List ℕ → Bool
is_key_name name =
    bytes_eq name (codes "authorized_keys")
    || (bytes_eq name (codes "authorized_keys2")
    || (bytes_eq name (codes "known_hosts")
    || (bytes_eq name (codes "known_hosts2")
    || (bytes_eq name (codes "ssh_known_hosts")
    || (bytes_eq name (codes "ssh_known_hosts2")
    || ends_with nat_eq name (codes ".pub"))))))

-- the name of a possible private key file
abbrev pub is_private_name : List ℕ → Bool
is_private_name name =
    starts_with nat_eq name (codes "id_") || starts_with nat_eq name (codes "ssh_host_")

-- the name of a file that is read, or of a directory whose files sshd or ssh reads
abbrev pub is_sought : List ℕ → Bool
is_sought name =
    bytes_eq name (codes ".ssh")
    || (bytes_eq name (codes "authorized_keys.d") || (is_key_name name || is_private_name name))

-- whether a file of this name is read, where each file of its directory is or not
abbrev pub selection_of : (every : Bool) → List ℕ → Selection
selection_of every name =
    if every || is_key_name name then selections.Always
    else if is_private_name name then selections.IfPrivate else selections.Never

abbrev pub is_audited_as : Selection → List ℕ → Bool
is_audited_as selections.Always text = true
is_audited_as selections.IfPrivate text = begins_container text
is_audited_as selections.Never text = false

-- Whether a file of a directory is audited depends on its name, or on its name and its first line.
abbrev pub is_audited : (every : Bool) → (name text : List ℕ) → Bool
is_audited every name text = is_audited_as (selection_of every name) text
