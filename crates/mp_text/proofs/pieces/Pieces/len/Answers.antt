use Rattle.std.proofs.Common.{◌-◌, ◌∙◌, sym, length, refl}
use Rattle.mp_text.proofs.PieceLemmas.{size_is, not_none}
use Rattle.mp_text.proofs.pieces.Pieces.len.Goals as goal

pub returns : goal.returns
returns c =
    let pieces = c.as_slice-pieces.result.now in
    size_is c.self.inside.pieces.items pieces c.args.self.now c.index-pieces-pieces.result
    (length pieces - 1) _ c.as_slice-pieces.ensures.value c.self.invariant.ends c.self.view_is refl (not_none (length pieces) (sym c.is_empty.ensures
    ∙ c.if-is_empty.false)) refl
