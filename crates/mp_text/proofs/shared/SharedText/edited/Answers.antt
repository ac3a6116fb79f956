use Rattle.std.proofs.Common.{ap, length, ◌∙◌, arith}
use Rattle.mp_text.specs.Edits.{edited}
use Rattle.mp_text.proofs.ChangeLemmas.{byte_change}
use Rattle.mp_text.proofs.SharedLemmas.{made_bytes, made_ended, made_lines, size_edited, whole}
use Rattle.mp_text.proofs.shared.SharedText.edited.Goals as goal

pub spliced-requires-clause-within : goal.spliced-requires-clause-within
spliced-requires-clause-within c =
    let is = byte_change c.args.edit.now c.args.self.now c.requires.range in
    omega (
      arith,
      is.within,
      c.change_start-start.ensures,
      c.change_removed-removed.ensures,
      ap length (whole c.self.inside.pieces c.args.self.now c.self.view_is c.self.invariant),
    )

pub spliced-requires-clause-room : goal.spliced-requires-clause-room
spliced-requires-clause-room c =
    let text = c.args.self.now in
    let new = c.get.ensures ∙ c.in_ok-new.ensures in
    let is = byte_change c.args.edit.now text c.requires.range in
    omega (
      arith,
      is.within,
      size_edited c.args.edit.now text c.requires.range,
      c.requires.text.small,
      c.requires.made.small,
      ap length new,
      ap length (whole c.self.inside.pieces c.args.self.now c.self.view_is c.self.invariant),
    )

pub invariant_of-result : goal.invariant_of-result
invariant_of-result c =
    let text = c.args.self.now in
    let new = c.get.ensures ∙ c.in_ok-new.ensures in
    made_ended c.in_ok-pieces.pieces (edited c.args.edit.now text) c.requires.made.lines
    (made_bytes c.args.edit.now c.self.inside.pieces c.in_ok-pieces.pieces text c.change_start-start.result c.change_removed-removed.result
    c.get.result.now c.self.view_is c.self.invariant c.requires.range c.change_start-start.ensures c.change_removed-removed.ensures new c.in_ok-pieces.ensures)

pub returns : goal.returns
returns c =
    let text = c.args.self.now in
    let new = c.get.ensures ∙ c.in_ok-new.ensures in
    made_lines c.in_ok-pieces.pieces (edited c.args.edit.now text) c.requires.made.lines
    (made_bytes c.args.edit.now c.self.inside.pieces c.in_ok-pieces.pieces text c.change_start-start.result c.change_removed-removed.result
    c.get.result.now c.self.view_is c.self.invariant c.requires.range c.change_start-start.ensures c.change_removed-removed.ensures new c.in_ok-pieces.ensures)
