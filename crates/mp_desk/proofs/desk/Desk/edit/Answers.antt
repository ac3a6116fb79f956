use Rattle.std.proofs.Common.{◌≡◌, ◌≤◌, length, ap, sym, subst, ◌∙◌, arith}
use Rattle.mp_base.specs.declared.limits.TheConstants.{TEXT_LIMIT}
use Rattle.mp_base.specs.Text.{bytes_of}
use Rattle.mp_desk.specs.Desk.{AreLexed, last_text}
use Rattle.mp_text.specs.Changes.{change_bytes, change_removed, change_start}
use Rattle.mp_text.specs.Edits.{edited}
use Rattle.mp_text.specs.Versions.{version_at}
use Rattle.mp_text.proofs.VersionLemmas.{version_is_text}
use Rattle.mp_desk.proofs.DeskLemmas.{edit_changes, few_added, is_changed}
use Rattle.mp_desk.proofs.desk.Desk.edit.Goals as goal

pub added-requires : goal.added-requires
added-requires g c =
    let e = c.args.edit in
    let versions = c.self.inside.texts in
    let text = version_at versions c.current-base.result.0 in
    let old : length (bytes_of text) ≤ TEXT_LIMIT = (version_is_text versions c.current-base.result.0 c.current-base.ensures.versions c.current-base.ensures.stands).small in
    let new : length (bytes_of (edited e text)) ≤ TEXT_LIMIT = subst (λ t. length (bytes_of t) ≤ TEXT_LIMIT) c.in-Ok.ensures.text c.reader-reader.ensures.text.small in
    omega (arith, few_added e text c.in-Ok.ensures.range old new)

pub overflow_cast-change : goal.overflow_cast-change
overflow_cast-change g c =
    let e = c.args.edit in
    let versions = c.self.inside.texts in
    let text = version_at versions c.current-base.result.0 in
    let old : length (bytes_of text) ≤ TEXT_LIMIT = (version_is_text versions c.current-base.result.0 c.current-base.ensures.versions c.current-base.ensures.stands).small in
    let new : length (bytes_of (edited e text)) ≤ TEXT_LIMIT = subst (λ t. length (bytes_of t) ≤ TEXT_LIMIT) c.in-Ok.ensures.text c.reader-reader.ensures.text.small in
    omega (arith, few_added e text c.in-Ok.ensures.range old new, c.added.ensures)

pub relex-requires-clause-changed : goal.relex-requires-clause-changed
relex-requires-clause-changed g c =
    let e = c.args.edit in
    let versions = c.self.inside.texts in
    let text = version_at versions c.current-base.result.0 in
    let old : length (bytes_of text) ≤ TEXT_LIMIT = (version_is_text versions c.current-base.result.0 c.current-base.ensures.versions c.current-base.ensures.stands).small in
    let new : length (bytes_of (edited e text)) ≤ TEXT_LIMIT = subst (λ t. length (bytes_of t) ≤ TEXT_LIMIT) c.in-Ok.ensures.text c.reader-reader.ensures.text.small in
    let last : last_text versions ≡ text = ap (version_at versions) (sym c.current-base.ensures.last) in
    let tokens = c.self.inside.lexed.tokens in
    let errors = c.self.inside.lexed.errors in
    let lexed : AreLexed text tokens errors = subst (λ t. AreLexed t tokens errors) last c.self.invariant in
    is_changed c.change_start.result c.change_removed.result c.added.result (change_start e text) (change_removed e text) (length (change_bytes e)) text
    (edited e text) tokens errors c.reader-reader.result c.change_start.ensures c.change_removed.ensures c.added.ensures old lexed
    (c.reader-reader.ensures.bytes ∙ ap bytes_of c.in-Ok.ensures.text) (edit_changes e text c.in-Ok.ensures.range)
