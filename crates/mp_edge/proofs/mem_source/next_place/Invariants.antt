use Rattle.std.proofs.Common.{length, ◌-◌, ◌≡◌, ◌≤◌, [], slice_index_or}
use Rattle.mp_edge.specs.Pieces.{before, after, past_empty}
use Rattle.mp_edge.proofs.mem_source.next_place.Given as goal

abbrev pub invariant-finished : goal.invariant-finished
invariant-finished l = record {
  before : before l.pieces l.at l.offset ≡ before l.pieces l.fn.start_at l.fn.start_offset;
  after : past_empty (after l.pieces l.at l.offset) ≡ past_empty (after l.pieces l.fn.start_at l.fn.start_offset);
  inside : l.offset ≤ length (slice_index_or l.pieces l.at []);
}

abbrev pub decreases-finished : goal.decreases-finished
decreases-finished l = length l.pieces - l.at
