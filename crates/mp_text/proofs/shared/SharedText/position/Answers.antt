use Rattle.mp_text.proofs.LineEndLemmas.{start_low}
use Rattle.mp_text.proofs.SharedLemmas.{position_there}
use Rattle.mp_text.proofs.shared.SharedText.position.Goals as goal

pub overflow_sub-result : goal.overflow_sub-result
overflow_sub-result c = start_low c.self.inside.pieces c.line_ends_to-before.result c.line_start-start.result c.args.byte c.line_start-start.ensures c.line_ends_to-before.ensures

pub returns : goal.returns
returns c = position_there c.self.inside.pieces c.args.self.now c.args.byte c.line_ends_to-before.result c.line_start-start.result c.self.view_is
    c.self.invariant c.requires.within c.line_ends_to-before.ensures c.line_start-start.ensures
