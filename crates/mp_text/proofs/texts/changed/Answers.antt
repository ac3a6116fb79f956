use Rattle.std.proofs.Common.{arith, None, refl}
use Rattle.mp_text.specs.Edits.{edited}
use Rattle.mp_text.proofs.RefusalLemmas.{due, refused_full, refused_version, refused_range, refused_size}
use Rattle.mp_text.proofs.texts.changed.Goals as goal

pub returns-then-versions-ge-VERSION_LIMIT-clause-err : goal.returns-then-versions-ge-VERSION_LIMIT-clause-err
returns-then-versions-ge-VERSION_LIMIT-clause-err c = refused_full c.args.versions.now c.args.base.0 c.args.edit.now (omega arith)

pub returns-in_default-clause-err : goal.returns-in_default-clause-err
returns-in_default-clause-err c = refused_version c.args.versions.now c.args.base.0 c.args.edit.now (omega arith) c.in_default.ensures

pub returns-in-Err-clause-err : goal.returns-in-Err-clause-err
returns-in-Err-clause-err c =
    due c.args.versions.now c.args.base.0 c.args.edit.now c.in-Err.error (refused_range c.args.versions.now c.args.base.0 c.args.edit.now c.in-Some.text.now c.in-Err.error
    (omega arith) c.in-Some.ensures.0 c.in-Some.ensures.1 c.in-Err.ensures.err)

pub returns-in-Err-check_size-clause-err : goal.returns-in-Err-check_size-clause-err
returns-in-Err-check_size-clause-err c =
    let e = c.args.edit.now in
    let text = c.in-Some.text.now in
    due c.args.versions.now c.args.base.0 e c.in-Err-check_size.error (refused_size c.args.versions.now c.args.base.0 e text (edited e text) _
    (omega arith) c.in-Some.ensures.0 c.in-Some.ensures.1 c.in-Ok.ensures.ok refl c.in-Err-check_size.ensures.err)

pub returns-in-Ok-edited-clause-ok : goal.returns-in-Ok-edited-clause-ok
returns-in-Ok-edited-clause-ok c =
    let e = c.args.edit.now in
    let text = c.in-Some.text.now in
    refused_size c.args.versions.now c.args.base.0 e text (edited e text) None
    (omega arith) c.in-Some.ensures.0 c.in-Some.ensures.1 c.in-Ok.ensures.ok refl c.in-Ok-check_size.ensures.ok

pub returns-in-Err-edited-clause-err : goal.returns-in-Err-edited-clause-err
returns-in-Err-edited-clause-err c =
    let e = c.args.edit.now in
    let text = c.in-Some.text.now in
    refused_size c.args.versions.now c.args.base.0 e text (edited e text) None
    (omega arith) c.in-Some.ensures.0 c.in-Some.ensures.1 c.in-Ok.ensures.ok refl c.in-Ok-check_size.ensures.ok
