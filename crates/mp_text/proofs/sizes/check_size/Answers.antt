use Rattle.std.proofs.Common.{◌≡◌, ◌+◌, ◌-◌, length, sym, ◌∙◌, arith}
use Rattle.mp_base.specs.Text.{bytes_of}
use Rattle.mp_text.specs.Edits.{edited}
use Rattle.mp_text.proofs.EditedLemmas.{few_bytes, lines_edited}
use Rattle.mp_text.proofs.RefusalLemmas.{kept_made, too_made}
use Rattle.mp_text.proofs.SharedLemmas.{size_edited}
use Rattle.mp_text.proofs.SizeLemmas.{all_short}
use Rattle.mp_text.proofs.sizes.check_size.Goals as goal

pub added-requires : goal.added-requires
added-requires c =
    let e = c.args.edit.now in
    let text = c.args.text.now in
    let none = sym c.long_line.ensures ∙ c.in_default.is in
    few_bytes e text c.requires.text c.requires.range c.requires.few none

pub overflow_add-bytes : goal.overflow_add-bytes
overflow_add-bytes c =
    let e = c.args.edit.now in
    let text = c.args.text.now in
    let none = sym c.long_line.ensures ∙ c.in_default.is in
    let few = few_bytes e text c.requires.text c.requires.range c.requires.few none in
    omega (arith, few, c.requires.text.small, c.len.ensures, c.from.ensures, c.added.ensures.added)

pub overflow_sub-bytes : goal.overflow_sub-bytes
overflow_sub-bytes c =
    let e = c.args.edit.now in
    let text = c.args.text.now in
    let none = sym c.long_line.ensures ∙ c.in_default.is in
    omega (arith, size_edited e text c.requires.range, c.change_removed-removed.ensures, c.len.ensures, c.from.ensures, c.added.ensures.added, c.from-2.ensures)

pub returns-then-bytes-clause-err : goal.returns-then-bytes-clause-err
returns-then-bytes-clause-err c =
    let e = c.args.edit.now in
    let text = c.args.text.now in
    let none = sym c.long_line.ensures ∙ c.in_default.is in
    let size : c.from.result + c.added.result - c.from-2.result ≡ length (bytes_of (edited e text)) =
    omega (arith, size_edited e text c.requires.range, c.change_removed-removed.ensures, c.len.ensures, c.from.ensures, c.added.ensures.added, c.from-2.ensures) in
    too_made (edited e text) _ none size (omega arith)

pub returns-clause-ok : goal.returns-clause-ok
returns-clause-ok c =
    let e = c.args.edit.now in
    let text = c.args.text.now in
    let none = sym c.long_line.ensures ∙ c.in_default.is in
    kept_made (edited e text) none (omega (
      arith,
      size_edited e text c.requires.range,
      c.change_removed-removed.ensures,
      c.len.ensures,
      c.from.ensures,
      c.added.ensures.added,
      c.from-2.ensures,
    ))

pub returns-clause-text : goal.returns-clause-text
returns-clause-text c =
    let e = c.args.edit.now in
    let text = c.args.text.now in
    let none = sym c.long_line.ensures ∙ c.in_default.is in
    record {
      lines = lines_edited e text c.added.ensures.lines c.requires.text.lines;
      short = all_short (edited e text) 1 none;
      small = omega (arith, size_edited e text c.requires.range, c.change_removed-removed.ensures, c.len.ensures, c.from.ensures, c.added.ensures.added, c.from-2.ensures);
    }
