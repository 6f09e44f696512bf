-- The set tells whether the file is there.
use Rattle.std.proofs.Common.{◌≡◌, ◌∙◌, ◌++◌, ◌∷◌, ℕ, [], List, sym, ap, map}
use Rattle.std.proofs.lemmas.Bool.{not-false, not-true}
use Rattle.std.proofs.lemmas.List.{map_push}
use Rattle.sshd_files.proofs.Adding.{added_again, added_new}
use Rattle.sshd_files.specs.Files.{File, file, file_of, key_of}
use Rattle.sshd_files.proofs.files.Listing.add.Goals as goal

pub returns-in_ok-push : goal.returns-in_ok-push
returns-in_ok-push c =
    let one : File = file c.args.kind c.args.path.items in
    let key = c.in_ok-key.ensures ∙ ap (λ (path : List ℕ). key_of (file c.args.kind path)) c.deref.ensures.value in
    let more : map file_of c.push.new.self.items ≡ map file_of c.args.self.now.files.items ++ one ∷ [] =
    ap (map file_of) c.in_ok-push.ensures.items ∙ map_push file_of c.args.self.now.files.items _ in
    added_new (λ key. key.items) (map file_of c.args.self.now.files.items) (map file_of c.push.new.self.items)
    c.args.self.now.seen.keys c.insert.new.self.keys c.in_ok-key.key one key
    (not-true _ (sym c.in_ok-insert.ensures.added ∙ c.if-branch.true)) c.in_ok-insert.ensures.keys more

pub returns-else-branch : goal.returns-else-branch
returns-else-branch c =
    let one : File = file c.args.kind c.args.path.items in
    let key = c.in_ok-key.ensures ∙ ap (λ (path : List ℕ). key_of (file c.args.kind path)) c.deref.ensures.value in
    added_again (λ key. key.items) (map file_of c.args.self.now.files.items) c.args.self.now.seen.keys
    c.insert.new.self.keys c.in_ok-key.key one key
    (not-false _ (sym c.in_ok-insert.ensures.added ∙ c.if-branch.false))
    (rw c.if-branch.false at c.in_ok-insert.ensures.unchanged)
