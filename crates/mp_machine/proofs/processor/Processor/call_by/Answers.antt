use Rattle.std.proofs.Common.{◌∙◌, ◌-◌, ◌∷◌, ap, arith, drop, length, refl, reverse, rules, subst, sym}
use Rattle.std.proofs.Common.{take}
use Rattle.std.proofs.lemmas.Grind.{common_steps}
use Rattle.mp_machine.specs.CallRows as call
use Rattle.mp_machine.specs.Loads.{paths_of}
use Rattle.mp_machine.specs.Outcomes.{Outcome}
use Rattle.mp_machine.specs.Shown.{Agrees, IsStuck, all_cells, shown, state_of, world_of}
use Rattle.mp_machine.proofs.FrameLemmas.{activations_shown}
use Rattle.std.proofs.lemmas.List.{take_rest}
use Rattle.std.specs.Prelude.{option_copied}
use Rattle.mp_machine.proofs.KeptLemmas.{loaded_alike}
use Rattle.mp_machine.proofs.RoutineLemmas.{call_lacks, call_taken, missing_stops, no_block, no_code, no_parent, no_routine}
use Rattle.mp_machine.proofs.RoutineLemmas.{with_code}
use Rattle.mp_machine.proofs.processor.Processor.call_by.Goals as goal

pub returns-then-saturating_sub-count-clause-row : goal.returns-then-saturating_sub-count-clause-row
returns-then-saturating_sub-count-clause-row c =
    call_lacks c.args.codes.now c.args.operands (world_of (paths_of c.args.codes.now) c.args.self.now) c.args.self.now.store
    c.args.self.now.operands.items c.args.self.now.newest
    c.args.self.now.older.items c.args.self.now.at
    (grind (arith, common_steps)) (grind (arith, common_steps))

pub returns-in_default-clause-row : goal.returns-in_default-clause-row
returns-in_default-clause-row c =
    subst IsStuck (sym (call_taken c.args.codes.now c.args.operands (c.len-have.result - c.args.operands)
    (world_of (paths_of c.args.codes.now) c.args.self.now) c.args.self.now.store c.args.self.now.operands.items
    c.args.self.now.newest
    c.args.self.now.older.items c.args.self.now.at
    (grind (arith, common_steps)) c.index.result.now (grind (arith, common_steps)) c.index.ensures))
    (no_routine c.args.codes.now (all_cells (drop (c.len-have.result - c.args.operands) c.args.self.now.operands.items))
    (shown (world_of (paths_of c.args.codes.now) c.args.self.now) c.args.self.now.store
    (take (c.len-have.result - c.args.operands - 1) c.args.self.now.operands.items) c.args.self.now.newest
    c.args.self.now.older.items c.args.self.now.at) c.index.result.now (sym c.routine_of.ensures ∙ c.in_default.is))

pub returns-in_default-path_of-clause-row : goal.returns-in_default-path_of-clause-row
returns-in_default-path_of-clause-row c =
    subst IsStuck (sym (call_taken c.args.codes.now c.args.operands (c.len-have.result - c.args.operands)
    (world_of (paths_of c.args.codes.now) c.args.self.now) c.args.self.now.store c.args.self.now.operands.items
    c.args.self.now.newest
    c.args.self.now.older.items c.args.self.now.at
    (grind (arith, common_steps)) c.index.result.now (grind (arith, common_steps)) c.index.ensures))
    (no_block c.args.codes.now (all_cells (drop (c.len-have.result - c.args.operands) c.args.self.now.operands.items))
    (shown (world_of (paths_of c.args.codes.now) c.args.self.now) c.args.self.now.store
    (take (c.len-have.result - c.args.operands - 1) c.args.self.now.operands.items) c.args.self.now.newest
    c.args.self.now.older.items c.args.self.now.at) c.index.result.now c.in-Some.routine (sym c.routine_of.ensures ∙
    c.in-Some.is) (sym c.path_of.ensures ∙ ap option_copied c.in_default-path_of.is))

pub returns-then-not-has_activation-clause-row : goal.returns-then-not-has_activation-clause-row
returns-then-not-has_activation-clause-row c =
    subst IsStuck (sym (call_taken c.args.codes.now c.args.operands (c.len-have.result - c.args.operands)
    (world_of (paths_of c.args.codes.now) c.args.self.now) c.args.self.now.store c.args.self.now.operands.items
    c.args.self.now.newest
    c.args.self.now.older.items c.args.self.now.at
    (grind (arith, common_steps)) c.index.result.now (grind (arith, common_steps)) c.index.ensures))
    (no_parent c.args.codes.now (all_cells (drop (c.len-have.result - c.args.operands) c.args.self.now.operands.items))
    (shown (world_of (paths_of c.args.codes.now) c.args.self.now) c.args.self.now.store
    (take (c.len-have.result - c.args.operands - 1) c.args.self.now.operands.items) c.args.self.now.newest
    c.args.self.now.older.items c.args.self.now.at) c.index.result.now c.in-Some.routine (sym c.routine_of.ensures ∙
    c.in-Some.is) (paths_of c.args.codes.now) (c.args.self.now.newest ∷ reverse c.args.self.now.older.items)
    c.in-Some-path_of.path.now
    (activations_shown (paths_of c.args.codes.now) (c.args.self.now.newest ∷ reverse c.args.self.now.older.items)
    (take (c.len-have.result - c.args.operands - 1) c.args.self.now.operands.items)) (sym c.path_of.ensures ∙
    ap option_copied c.in-Some-path_of.is) (sym c.has_activation.ensures ∙ c.if-not-has_activation.true))

pub returns-in_default-find_code-clause-row : goal.returns-in_default-find_code-clause-row
returns-in_default-find_code-clause-row c =
    missing_stops c.in-Some-path_of.path.now c.missing.result _ (state_of (paths_of c.args.codes.now) c.args.self.now)
    c.missing.ensures
    ((call_taken c.args.codes.now c.args.operands (c.len-have.result - c.args.operands) (world_of (paths_of c.args.codes.now)
    c.args.self.now) c.args.self.now.store c.args.self.now.operands.items c.args.self.now.newest
    c.args.self.now.older.items c.args.self.now.at
    (grind (arith, common_steps)) c.index.result.now (grind (arith, common_steps)) c.index.ensures)
    ∙ no_code c.args.codes.now (all_cells (drop (c.len-have.result - c.args.operands) c.args.self.now.operands.items))
    (shown (world_of (paths_of c.args.codes.now) c.args.self.now) c.args.self.now.store
    (take (c.len-have.result - c.args.operands - 1) c.args.self.now.operands.items) c.args.self.now.newest
    c.args.self.now.older.items c.args.self.now.at) c.index.result.now c.in-Some.routine (sym c.routine_of.ensures ∙
    c.in-Some.is) (paths_of c.args.codes.now) (c.args.self.now.newest ∷ reverse c.args.self.now.older.items)
    c.in-Some-path_of.path.now
    (activations_shown (paths_of c.args.codes.now) (c.args.self.now.newest ∷ reverse c.args.self.now.older.items)
    (take (c.len-have.result - c.args.operands - 1) c.args.self.now.operands.items)) (sym c.path_of.ensures ∙
    ap option_copied c.in-Some-path_of.is) (sym c.has_activation.ensures ∙ c.if-not-has_activation.false)
    c.in_default-find_code.ensures.none)

pub returns-clause-row : goal.returns-clause-row
returns-clause-row c =
    subst (λ (o : Outcome (Unit {0})). Agrees o c.enter.result (state_of (paths_of c.args.codes.now) c.enter.new.self))
    (sym ((call_taken c.args.codes.now c.args.operands (c.len-have.result - c.args.operands)
    (world_of (paths_of c.args.codes.now) c.args.self.now) c.args.self.now.store c.args.self.now.operands.items
    c.args.self.now.newest
    c.args.self.now.older.items c.args.self.now.at
    (grind (arith, common_steps)) c.index.result.now (grind (arith, common_steps)) c.index.ensures)
    ∙ with_code c.args.codes.now (all_cells (drop (c.len-have.result - c.args.operands) c.args.self.now.operands.items))
    (shown (world_of (paths_of c.args.codes.now) c.args.self.now) c.args.self.now.store
    (take (c.len-have.result - c.args.operands - 1) c.args.self.now.operands.items) c.args.self.now.newest
    c.args.self.now.older.items c.args.self.now.at) c.index.result.now c.in-Some.routine (sym c.routine_of.ensures ∙
    c.in-Some.is) (paths_of c.args.codes.now) (c.args.self.now.newest ∷ reverse c.args.self.now.older.items)
    c.in-Some-path_of.path.now
    (activations_shown (paths_of c.args.codes.now) (c.args.self.now.newest ∷ reverse c.args.self.now.older.items)
    (take (c.len-have.result - c.args.operands - 1) c.args.self.now.operands.items)) (sym c.path_of.ensures ∙
    ap option_copied c.in-Some-path_of.is) c.in-Some-find_code.code.now (sym c.has_activation.ensures ∙
    c.if-not-has_activation.false) c.in-Some-find_code.ensures.code
    ∙ ap (λ path. call.enter c.in-Some-find_code.code.now path c.in-Some.routine.act
    (all_cells (drop (c.len-have.result - c.args.operands) c.args.self.now.operands.items))
    (shown (world_of (paths_of c.args.codes.now) c.args.self.now) c.args.self.now.store
    (take (c.len-have.result - c.args.operands - 1) c.args.self.now.operands.items) c.args.self.now.newest
    c.args.self.now.older.items c.args.self.now.at)) (sym c.in-Some-find_code.ensures.place)
    ∙ ap (λ cells. call.enter c.in-Some-find_code.code.now (paths_of c.args.codes.now c.in-Some-find_code.place)
    c.in-Some.routine.act cells (shown (world_of (paths_of c.args.codes.now) c.args.self.now) c.args.self.now.store
    (take (c.len-have.result - c.args.operands - 1) c.args.self.now.operands.items) c.args.self.now.newest
    c.args.self.now.older.items c.args.self.now.at))
    (sym (c.in-Ok.ensures ∙ ap all_cells (take_rest c.deref.result.now (c.len-have.result - c.args.operands) ∙
    ap (drop (c.len-have.result - c.args.operands)) c.deref.ensures.value)))
    ∙ ap (λ ys. call.enter c.in-Some-find_code.code.now (paths_of c.args.codes.now c.in-Some-find_code.place)
    c.in-Some.routine.act c.in-Ok.cells
    (shown (world_of (paths_of c.args.codes.now) c.args.self.now) c.args.self.now.store ys c.args.self.now.newest
    c.args.self.now.older.items c.args.self.now.at))
    (sym c.truncate.ensures.items)))
    (c.enter.ensures.row (paths_of c.args.codes.now))

pub returns-clause-loaded : goal.returns-clause-loaded
returns-clause-loaded c l = c.enter.ensures.loaded (length c.args.codes.now) (search rules)
    (loaded_alike c.args.self.now _ (length c.args.codes.now) refl refl l)
