use Rattle.std.proofs.Common.{◌∙◌, ap, reverse, sym, subst}
use Rattle.mp_machine.specs.Activations.{seek}
use Rattle.mp_machine.specs.Loads.{paths_of}
use Rattle.mp_machine.specs.Shown.{IsStuck, activations_seen, world_of}
use Rattle.mp_machine.proofs.FrameLemmas.{among_older, at_depth, found_among, not_at_depth}
use Rattle.mp_machine.proofs.processor.Processor.activation_at.Goals as goal

pub returns-in-Some-clause-row : goal.returns-in-Some-clause-row
returns-in-Some-clause-row c =
    at_depth (world_of (paths_of c.args.codes.now) c.args.self.now) c.args.self.now.store c.args.self.now.operands.items
    c.args.self.now.newest
    c.args.self.now.older.items c.args.self.now.at c.args.depth c.in-Some.number (λ e. c.if-depth.false (c.depth.ensures ∙ e))
    (ap (λ o. seek (activations_seen (paths_of c.args.codes.now) (reverse o)) c.args.self.now.newest.parent c.args.depth)
    (sym c.deref.ensures.value) ∙ sym c.seek.ensures ∙ c.in-Some.is)

pub returns-in-None-clause-row : goal.returns-in-None-clause-row
returns-in-None-clause-row c =
    subst IsStuck (sym (not_at_depth (world_of (paths_of c.args.codes.now) c.args.self.now) c.args.self.now.store
    c.args.self.now.operands.items
    c.args.self.now.newest c.args.self.now.older.items c.args.self.now.at c.args.depth
    (λ e. c.if-depth.false (c.depth.ensures ∙ e))
    (ap (λ o. seek (activations_seen (paths_of c.args.codes.now) (reverse o)) c.args.self.now.newest.parent c.args.depth)
    (sym c.deref.ensures.value) ∙ sym c.seek.ensures ∙ c.in-None.is))) tt

pub returns-in-Some-clause-lives : goal.returns-in-Some-clause-lives
returns-in-Some-clause-lives c =
    among_older c.args.self.now.newest (reverse c.args.self.now.older.items) c.in-Some.number
    (found_among (paths_of c.args.codes.now) (reverse c.args.self.now.older.items) c.args.self.now.newest.parent c.args.depth
    c.in-Some.number
    (ap (λ o. seek (activations_seen (paths_of c.args.codes.now) (reverse o)) c.args.self.now.newest.parent c.args.depth)
    (sym c.deref.ensures.value)
    ∙ sym c.seek.ensures ∙ c.in-Some.is))
