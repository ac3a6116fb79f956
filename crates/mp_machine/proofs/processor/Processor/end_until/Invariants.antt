use Rattle.std.proofs.Common.{◌≡◌, ◌∷◌, ℕ, length, reverse, true}
use Rattle.mp_machine.specs.Blocks.{Path}
use Rattle.mp_machine.specs.CallRows.{left_until}
use Rattle.mp_machine.specs.Shown.{IsLoaded, Sound, is_among, state_of}
use Rattle.mp_machine.proofs.processor.Processor.end_until.Given as goal

-- from here on it ends where it ends from the start on
abbrev pub invariant-ends : goal.invariant-ends
invariant-ends l = record {
  sound : Sound l.self;
  lives : is_among l.number (l.self.newest ∷ reverse l.self.older.items) ≡ true;
  loaded : (n : ℕ) → IsLoaded n l.initial.self → IsLoaded n l.self;
  same : (paths : ℕ → Path) → left_until l.number (state_of paths l.self) (state_of paths l.self).frames
      ≡ left_until l.number (state_of paths l.initial.self) (state_of paths l.initial.self).frames;
}

abbrev pub decreases-ends : goal.decreases-ends
decreases-ends l = length l.self.older.items
