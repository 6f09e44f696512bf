use Rattle.krl_writer.specs.KrlText.{keys_type, sha1s_type, sha256s_type}
use Rattle.krl_writer.proofs.Common.{◌++◌, ◌∙◌, err_from_is_err_and, List, listed_text, refl}
use Rattle.krl_writer.proofs.Common.{Refuses, subst, texts_text, ℕ}
use Rattle.krl_writer.proofs.Limits.{put_more, refuses_front}
use Rattle.krl_writer.proofs.text.add_texts.Goals as goal

pub returns-in_err-add_listed : goal.returns-in_err-add_listed
returns-in_err-add_listed g c =
    let p = err_from_is_err_and c.from_residual.result c.from_residual.ensures.1 in
    let refused = rw c.iter_keys.ensures at c.in_err-add_listed.ensures in
    rw (p.1, p.2) (refuses_front c.in_err-add_listed.field-0.0 _ c.args.out.now.items _ _ refused refl)

pub returns-in_err-add_listed-2 : goal.returns-in_err-add_listed-2
returns-in_err-add_listed-2 g c =
    let p = err_from_is_err_and c.from_residual-in_err-add_listed-2.result c.from_residual-in_err-add_listed-2.ensures.1 in
    let r = c.args.revocations.now in
    let keys = rw c.iter_keys.ensures at c.in_ok-add_listed.ensures in
    let refused = rw c.iter_sha1s.ensures at c.in_err-add_listed-2.ensures in
    let whole : List ℕ = c.args.out.now.items ++ texts_text r in
    rw (p.1, p.2) (refuses_front c.in_err-add_listed-2.field-0.0 whole c.add_listed.new.out.items (listed_text sha1s_type r.sha1s) (listed_text sha256s_type r.sha256s) refused (put_more whole c.args.out.now.items _ (listed_text keys_type r.keys) _ keys.0 refl))

pub returns-in_err-add_listed-3 : goal.returns-in_err-add_listed-3
returns-in_err-add_listed-3 g c =
    let p = err_from_is_err_and c.from_residual-in_err-add_listed-3.result c.from_residual-in_err-add_listed-3.ensures.1 in
    let r = c.args.revocations.now in
    let keys = rw c.iter_keys.ensures at c.in_ok-add_listed.ensures in
    let sha1s = rw c.iter_sha1s.ensures at c.in_ok-add_listed-2.ensures in
    let refused = rw c.iter_sha256s.ensures at c.in_err-add_listed-3.ensures in
    let whole : List ℕ = c.args.out.now.items ++ texts_text r in
    let left = put_more whole c.add_listed.new.out.items _ (listed_text sha1s_type r.sha1s) (listed_text sha256s_type r.sha256s) sha1s.0 (put_more whole c.args.out.now.items _ (listed_text keys_type r.keys) _ keys.0 refl) in
    rw (p.1, p.2) (subst (Refuses c.in_err-add_listed-3.field-0.0) left refused)

pub returns : goal.returns
returns g c =
    let r = c.args.revocations.now in
    let keys = rw c.iter_keys.ensures at c.in_ok-add_listed.ensures in
    let sha1s = rw c.iter_sha1s.ensures at c.in_ok-add_listed-2.ensures in
    let sha256s = rw c.iter_sha256s.ensures at c.in_ok-add_listed-3.ensures in
    let whole : List ℕ = c.args.out.now.items ++ texts_text r in
    let left = put_more whole c.add_listed.new.out.items _ (listed_text sha1s_type r.sha1s) (listed_text sha256s_type r.sha256s) sha1s.0 (put_more whole c.args.out.now.items _ (listed_text keys_type r.keys) _ keys.0 refl) in
    (sha256s.0 ∙ left, sha256s.1)
