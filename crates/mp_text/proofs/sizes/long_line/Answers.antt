use Rattle.std.proofs.Common.{◌+◌, ◌<◌, ◌^◌, length, ap, sym, subst, ◌∙◌, arith}
use Rattle.std.specs.List.{position_from}
use Rattle.mp_text.specs.Edits.{IsInRange, edited, new_lines}
use Rattle.mp_text.specs.Refusals.{is_long}
use Rattle.mp_text.proofs.EditedLemmas.{long_delete, long_insert, long_replace, long_sub, short_sub}
use Rattle.mp_text.proofs.SizeLemmas.{lines_few}
use Rattle.mp_text.proofs.sizes.long_line.Goals as goal

pub overflow_add-after : goal.overflow_add-after
overflow_add-after c =
    let text = c.args.text.now in
    let r = subst (λ e. IsInRange e text) c.in-Insert.is c.requires.range in
    omega (arith, r, lines_few text, c.requires.text.small)

pub first_long-requires : goal.first_long-requires
first_long-requires c =
    let text = c.args.text.now in
    let r = subst (λ e. IsInRange e text) c.in-Insert.is c.requires.range in
    let few = subst (λ e. length (new_lines e) < 2 ^ 31) c.in-Insert.is c.requires.few in
    omega (arith, r, few, lines_few text, c.requires.text.small, ap length c.get.ensures)

pub first_long-requires-in-Replace : goal.first_long-requires-in-Replace
first_long-requires-in-Replace c =
    let text = c.args.text.now in
    let r = subst (λ e. IsInRange e text) c.in-Replace.is c.requires.range in
    let few = subst (λ e. length (new_lines e) < 2 ^ 31) c.in-Replace.is c.requires.few in
    omega (arith, r.0, r.1, r.2, few, lines_few text, c.requires.text.small, ap length c.get-in-Replace.ensures)

pub returns-in-Insert : goal.returns-in-Insert
returns-in-Insert c =
    let text = c.args.text.now in
    let r = subst (λ e. IsInRange e text) c.in-Insert.is c.requires.range in
    c.first_long.ensures ∙ ap (position_from is_long (c.in-Insert.after + 1)) c.get.ensures
    ∙ long_insert c.in-Insert.after c.in-Insert.lines text c.requires.text r ∙ ap (λ e. position_from is_long 1 (edited e text)) (sym c.in-Insert.is)

pub returns-in-Delete : goal.returns-in-Delete
returns-in-Delete c =
    let text = c.args.text.now in
    let r = subst (λ e. IsInRange e text) c.in-Delete.is c.requires.range in
    long_delete c.in-Delete.first c.in-Delete.last text c.requires.text (omega (arith, r.0, r.1, r.2)) ∙ ap (λ e. position_from is_long 1 (edited e text)) (sym c.in-Delete.is)

pub returns-in-Replace : goal.returns-in-Replace
returns-in-Replace c =
    let text = c.args.text.now in
    let r = subst (λ e. IsInRange e text) c.in-Replace.is c.requires.range in
    c.first_long-in-Replace.ensures ∙ ap (position_from is_long c.in-Replace.first) c.get-in-Replace.ensures
    ∙ long_replace c.in-Replace.first c.in-Replace.last c.in-Replace.lines text c.requires.text r.0 (omega (arith, r.0, r.1, r.2))
    ∙ ap (λ e. position_from is_long 1 (edited e text)) (sym c.in-Replace.is)

pub returns-then-saturating_add-gt-LINE_LIMIT : goal.returns-then-saturating_add-gt-LINE_LIMIT
returns-then-saturating_add-gt-LINE_LIMIT c =
    let text = c.args.text.now in
    let r = subst (λ e. IsInRange e text) c.in-Sub.is c.requires.range in
    long_sub c.in-Sub.line c.in-Sub.column c.in-Sub.count c.in-Sub.bytes text c.requires.text r
    (omega (arith, c.if-saturating_add-gt-LINE_LIMIT.true, c.saturating_add.ensures, c.line_len.ensures, ap length c.get-in-Sub.ensures.bytes))
    ∙ ap (λ e. position_from is_long 1 (edited e text)) (sym c.in-Sub.is)

pub returns-else-saturating_add-gt-LINE_LIMIT : goal.returns-else-saturating_add-gt-LINE_LIMIT
returns-else-saturating_add-gt-LINE_LIMIT c =
    let text = c.args.text.now in
    let r = subst (λ e. IsInRange e text) c.in-Sub.is c.requires.range in
    short_sub c.in-Sub.line c.in-Sub.column c.in-Sub.count c.in-Sub.bytes text c.requires.text r
    (omega (arith, c.if-saturating_add-gt-LINE_LIMIT.false, c.saturating_add.ensures, c.line_len.ensures, ap length c.get-in-Sub.ensures.bytes))
    ∙ ap (λ e. position_from is_long 1 (edited e text)) (sym c.in-Sub.is)
