use Rattle.std.proofs.Common.{◌≡◌, ◌∙◌, [], ◌∷◌, ap, reverse, subst, take, true}
use Rattle.std.proofs.lemmas.List.{reverse-append}
use Rattle.mp_machine.specs.Shown.{frame_seen, frames_seen, is_among, own_operands, state_of}
use Rattle.mp_machine.proofs.KeptLemmas.{among_rest, left_step}
use Rattle.mp_machine.proofs.processor.Processor.end_until.Goals as goal

pub ends-preserved : goal.ends-preserved
ends-preserved c = record {
  sound = c.end_newest.ensures.sound;
  lives = subst (λ l. is_among c.args.number l ≡ true)
      (ap reverse c.end_newest.ensures.older ∙ reverse-append c.end_newest.new.self.older.items (c.end_newest.new.self.newest ∷
      []))
      (among_rest c.args.number c.ends.self.newest (reverse c.ends.self.older.items) c.ends-test.true c.ends.invariant.lives);
  loaded = λ n l. c.end_newest.ensures.loaded n (c.ends.invariant.loaded n l);
  same = λ paths. left_step c.args.number (state_of paths c.ends.self) (state_of paths c.end_newest.new.self)
      (frame_seen paths c.ends.self.newest (own_operands c.ends.self.newest.below c.ends.self.operands.items))
      (frames_seen paths (reverse c.ends.self.older.items) (take c.ends.self.newest.below c.ends.self.operands.items))
      c.ends-test.true
      (c.end_newest.ensures.row paths) ∙ c.ends.invariant.same paths;
}
