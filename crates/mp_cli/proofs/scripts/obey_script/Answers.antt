use Rattle.std.proofs.Common.{◌≤◌, ◌+◌, ℕ, List, [], ◌++◌, ap, sym, ◌∙◌, arith, length, inl, inr, take, refl}
use Rattle.std.proofs.lemmas.List.{length-append, length-take, length-drop, take-append-le, append-nil}
use Rattle.mp_base.specs.declared.limits.TheConstants.{SCRIPT_LIMIT}
use Rattle.mp_edge.proofs.ToldLemmas.{grows_none, grows_more, consumes_none, consumes_more}
use Rattle.mp_session.specs.Replies.{View}
use Rattle.mp_cli.specs.Talk.{last_bytes, standing}
use Rattle.mp_cli.proofs.ScriptLemmas.{reached_none, led, reached_more, quit_more, quit_all, quits, written_so_far, front_all, part_more, ended}
use Rattle.mp_cli.proofs.ScriptLemmas.{part_end, grows_back, consumes_back, no_quit, cut_count, last_read, last_unanswered, last_empty, last_nothing}
use Rattle.mp_cli.proofs.scripts.obey_script.Goals as goal

pub reads-init : goal.reads-init
reads-init g c = record {
  within = omega arith;
  buffer = refl;
  waits = tt;
  room = omega (arith, ap (λ (v : View). v.obeyed) c.requires, ap length c.new-lines.ensures);
  source_later = omega arith;
  sink_later = omega arith;
  source_failures = refl;
  sink_failures = refl;
  source_quiet = λ q. (q, refl);
  sink_quiet = λ q. (q, refl);
  run = ([], [], grows_none _, consumes_none _, grows_none _, refl, rw (c.requires, c.new-lines.ensures) reached_none);
}

pub returns-in-Ok-clause-met : goal.returns-in-Ok-clause-met
returns-in-Ok-clause-met g c =
    let h = c.reads.invariant.run in
    let stand = standing c.reads.session.state c.reads.waiting in
    let closed = last_bytes stand c.reads.lines in
    record {
      taken = h.0;
      written = h.1 ++ closed;
      takes = grows_back _ _ h.0 h.2 _ c.in-End.ensures.taken;
      leaves = consumes_back _ _ h.0 h.3 _ c.in-End.ensures.left;
      writes = grows_more _ _ _ h.1 closed h.4 c.in-Ok.ensures.ok;
      limit = omega (arith, h.5, c.reads.invariant.within);
      holds = (sym (ended h.0 h.1 c.reads.lines stand h.6), inl (c.in-End.ensures.end refl, omega (arith, h.5)));
      last_read = last_empty h.0 h.1 c.reads.lines closed stand h.6;
    }

pub returns-in-Err-WriteFault-clause-met : goal.returns-in-Err-WriteFault-clause-met
returns-in-Err-WriteFault-clause-met g c =
    let h = c.reads.invariant.run in
    let stand = standing c.reads.session.state c.reads.waiting in
    let p = c.in-Err-WriteFault.ensures.partly in
    record {
      taken = h.0;
      written = h.1 ++ p.0;
      takes = grows_back _ _ h.0 h.2 _ c.in-End.ensures.taken;
      leaves = consumes_back _ _ h.0 h.3 _ c.in-End.ensures.left;
      writes = grows_more _ _ _ h.1 p.0 h.4 p.1;
      limit = omega (arith, h.5, c.reads.invariant.within);
      holds = (part_end h.0 h.1 c.reads.lines p.0 stand h.6 p.2, inr (c.in-End.ensures.end refl));
      last_read = last_empty h.0 h.1 c.reads.lines p.0 stand h.6;
    }

pub returns-in-Err-Memory-clause-met : goal.returns-in-Err-Memory-clause-met
returns-in-Err-Memory-clause-met g c =
    let h = c.reads.invariant.run in
    let stand = standing c.reads.session.state c.reads.waiting in
    let p = c.in-Err-Memory.ensures.partly in
    record {
      taken = h.0;
      written = h.1 ++ p.0;
      takes = grows_back _ _ h.0 h.2 _ c.in-End.ensures.taken;
      leaves = consumes_back _ _ h.0 h.3 _ c.in-End.ensures.left;
      writes = grows_more _ _ _ h.1 p.0 h.4 p.1;
      limit = omega (arith, h.5, c.reads.invariant.within);
      holds = (part_end h.0 h.1 c.reads.lines p.0 stand h.6 p.2, inr (c.in-End.ensures.end refl));
      last_read = last_empty h.0 h.1 c.reads.lines p.0 stand h.6;
    }

pub returns-in-Err-clause-met : goal.returns-in-Err-clause-met
returns-in-Err-clause-met g c =
    let h = c.reads.invariant.run in
    let stand = standing c.reads.session.state c.reads.waiting in
    let piece : List ℕ = take c.in-Bytes.count c.read.new.buf in
    let lt = c.in-Bytes.ensures.within.0 in
    let full : length (h.0 ++ piece) ≤ SCRIPT_LIMIT = omega (arith, h.5, lt, c.read.auto.buf, length-take {A = ℕ}, length-append h.0 piece, c.min-room.ensures) in
    let short : length piece ≤ 4096 = omega (arith, lt, c.read.auto.buf, length-take {A = ℕ}, c.min-room.ensures) in
    let p = part_more h.0 h.1 c.reads.lines piece [] stand h.6 ((led stand c.reads.lines piece).bytes, refl) in
    let q = rw append-nil at p in
    record {
      taken = h.0 ++ piece;
      written = h.1;
      takes = grows_more _ _ _ h.0 piece h.2 c.in-Bytes.ensures.taken;
      leaves = consumes_more _ _ _ h.0 piece h.3 c.in-Bytes.ensures.left;
      writes = h.4;
      limit = full;
      holds = (front_all (h.0 ++ piece) h.1 q, inl q);
      last_read = last_unanswered h.0 h.1 c.reads.lines piece stand h.6 short;
    }

pub reads-preserved : goal.reads-preserved
reads-preserved g c =
    let h = c.reads.invariant.run in
    let stand = standing c.reads.session.state c.reads.waiting in
    let piece : List ℕ = take c.in-Bytes.count c.read.new.buf in
    let lt = c.in-Bytes.ensures.within.0 in
    let full : length (h.0 ++ piece) ≤ SCRIPT_LIMIT = omega (arith, h.5, lt, c.read.auto.buf, length-take {A = ℕ}, length-append h.0 piece, c.min-room.ensures) in
    let w = rw take-append-le at c.in-Ok-feed.ensures.lines in
    let r = rw take-append-le at c.in-Ok-feed.ensures.rest in
    let n = rw w at (rw c.in-Ok-On.field-0-is at c.in-Ok-On.ensures.now) in
    let b = rw w at c.in-Ok-On.ensures.written in
    let replied = (led stand c.reads.lines piece).bytes in
    record {
      within = omega (arith, lt, c.read.auto.buf, length-take {A = ℕ}, c.min-room.ensures);
      buffer = omega (arith, c.read.auto.buf, length-take {A = ℕ}, length-drop {A = ℕ}, length-append {A = ℕ}, c.min-room.ensures, c.reads.invariant.buffer);
      waits = c.in-Ok-On.ensures.open;
      room = omega (
        arith,
        c.reads.invariant.room,
        c.in-Ok-On.ensures.count,
        cut_count (c.reads.lines ++ piece),
        length-append c.reads.lines piece,
        length-take c.in-Bytes.count c.read.new.buf,
        lt,
        ap length w,
        ap length r,
      );
      source_later = omega (arith, c.in-Bytes.ensures.later, c.reads.invariant.source_later);
      sink_later = omega (arith, c.in-Ok-On.ensures.sink.later, c.reads.invariant.sink_later);
      source_failures = c.in-Bytes.ensures.failures ∙ c.reads.invariant.source_failures;
      sink_failures = c.in-Ok-On.ensures.sink.failures ∙ c.reads.invariant.sink_failures;
      source_quiet = λ q. let before = c.reads.invariant.source_quiet q in let now = c.in-Bytes.ensures.quiet before.0 in (now.0, now.1 ∙ before.1);
      sink_quiet = λ q. let before = c.reads.invariant.sink_quiet q in let now = c.in-Ok-On.ensures.sink.quiet before.0 in (now.0, now.1 ∙ before.1);
      run = (
        h.0 ++ piece,
        h.1 ++ replied,
        grows_more _ _ _ h.0 piece h.2 c.in-Bytes.ensures.taken,
        consumes_more _ _ _ h.0 piece h.3 c.in-Bytes.ensures.left,
        grows_more _ _ _ h.1 replied h.4 b,
        omega (arith, h.5, lt, length-append h.0 piece, length-take c.in-Bytes.count c.read.new.buf),
        reached_more h.0 h.1 c.reads.lines piece stand (standing c.take_lines.new.session.state c.take_lines.new.waiting) h.6 n r,
      );
    }

pub returns-in-Ok-Quit-clause-met : goal.returns-in-Ok-Quit-clause-met
returns-in-Ok-Quit-clause-met g c =
    let h = c.reads.invariant.run in
    let stand = standing c.reads.session.state c.reads.waiting in
    let piece : List ℕ = take c.in-Bytes.count c.read.new.buf in
    let lt = c.in-Bytes.ensures.within.0 in
    let full : length (h.0 ++ piece) ≤ SCRIPT_LIMIT = omega (arith, h.5, lt, c.read.auto.buf, length-take {A = ℕ}, length-append h.0 piece, c.min-room.ensures) in
    let short : length piece ≤ 4096 = omega (arith, lt, c.read.auto.buf, length-take {A = ℕ}, c.min-room.ensures) in
    let w = rw take-append-le at c.in-Ok-feed.ensures.lines in
    let n = rw w at (rw c.in-Ok-Quit.field-0-is at c.in-Ok-Quit.ensures.now) in
    let b = rw w at c.in-Ok-Quit.ensures.written in
    let replied = (led stand c.reads.lines piece).bytes in
    let q = quit_more h.0 h.1 c.reads.lines piece stand h.6 n in
    record {
      taken = h.0 ++ piece;
      written = h.1 ++ replied;
      takes = grows_more _ _ _ h.0 piece h.2 c.in-Bytes.ensures.taken;
      leaves = consumes_more _ _ _ h.0 piece h.3 c.in-Bytes.ensures.left;
      writes = grows_more _ _ _ h.1 replied h.4 b;
      limit = full;
      holds = (quit_all (h.0 ++ piece) (h.1 ++ replied) q, inr (quits (h.0 ++ piece) (h.1 ++ replied) q));
      last_read = last_read h.0 h.1 c.reads.lines piece replied stand h.6 short;
    }

pub returns-in-Err-WriteFault-take_lines-clause-met : goal.returns-in-Err-WriteFault-take_lines-clause-met
returns-in-Err-WriteFault-take_lines-clause-met g c =
    let h = c.reads.invariant.run in
    let stand = standing c.reads.session.state c.reads.waiting in
    let piece : List ℕ = take c.in-Bytes.count c.read.new.buf in
    let lt = c.in-Bytes.ensures.within.0 in
    let full : length (h.0 ++ piece) ≤ SCRIPT_LIMIT = omega (arith, h.5, lt, c.read.auto.buf, length-take {A = ℕ}, length-append h.0 piece, c.min-room.ensures) in
    let short : length piece ≤ 4096 = omega (arith, lt, c.read.auto.buf, length-take {A = ℕ}, c.min-room.ensures) in
    let w = rw take-append-le at c.in-Ok-feed.ensures.lines in
    let p = rw w at c.in-Err-WriteFault-take_lines.ensures.partly in
    let q = part_more h.0 h.1 c.reads.lines piece p.0 stand h.6 p.2 in
    record {
      taken = h.0 ++ piece;
      written = h.1 ++ p.0;
      takes = grows_more _ _ _ h.0 piece h.2 c.in-Bytes.ensures.taken;
      leaves = consumes_more _ _ _ h.0 piece h.3 c.in-Bytes.ensures.left;
      writes = grows_more _ _ _ h.1 p.0 h.4 p.1;
      limit = full;
      holds = (front_all (h.0 ++ piece) (h.1 ++ p.0) q, inl q);
      last_read = last_read h.0 h.1 c.reads.lines piece p.0 stand h.6 short;
    }

pub returns-in-Err-Memory-take_lines-clause-met : goal.returns-in-Err-Memory-take_lines-clause-met
returns-in-Err-Memory-take_lines-clause-met g c =
    let h = c.reads.invariant.run in
    let stand = standing c.reads.session.state c.reads.waiting in
    let piece : List ℕ = take c.in-Bytes.count c.read.new.buf in
    let lt = c.in-Bytes.ensures.within.0 in
    let full : length (h.0 ++ piece) ≤ SCRIPT_LIMIT = omega (arith, h.5, lt, c.read.auto.buf, length-take {A = ℕ}, length-append h.0 piece, c.min-room.ensures) in
    let short : length piece ≤ 4096 = omega (arith, lt, c.read.auto.buf, length-take {A = ℕ}, c.min-room.ensures) in
    let w = rw take-append-le at c.in-Ok-feed.ensures.lines in
    let p = rw w at c.in-Err-Memory-take_lines.ensures.partly in
    let q = part_more h.0 h.1 c.reads.lines piece p.0 stand h.6 p.2 in
    record {
      taken = h.0 ++ piece;
      written = h.1 ++ p.0;
      takes = grows_more _ _ _ h.0 piece h.2 c.in-Bytes.ensures.taken;
      leaves = consumes_more _ _ _ h.0 piece h.3 c.in-Bytes.ensures.left;
      writes = grows_more _ _ _ h.1 p.0 h.4 p.1;
      limit = full;
      holds = (front_all (h.0 ++ piece) (h.1 ++ p.0) q, inl q);
      last_read = last_read h.0 h.1 c.reads.lines piece p.0 stand h.6 short;
    }

pub returns-in-Failed-clause-met : goal.returns-in-Failed-clause-met
returns-in-Failed-clause-met g c =
    let h = c.reads.invariant.run in
    let stand = standing c.reads.session.state c.reads.waiting in
    record {
      taken = h.0;
      written = h.1;
      takes = grows_back _ _ h.0 h.2 _ c.in-Failed.ensures.taken;
      leaves = consumes_back _ _ h.0 h.3 _ c.in-Failed.ensures.left;
      writes = h.4;
      limit = omega (arith, h.5, c.reads.invariant.within);
      holds = (written_so_far h.0 h.1 c.reads.lines stand h.6, no_quit h.0 h.1 c.reads.lines stand h.6, omega (arith, h.5));
      last_read = last_nothing h.0 h.1 c.reads.lines stand h.6;
    }

pub returns-clause-met : goal.returns-clause-met
returns-clause-met g c =
    let h = c.reads.invariant.run in
    let stand = standing c.reads.session.state c.reads.waiting in
    record {
      taken = h.0;
      written = h.1;
      takes = h.2;
      leaves = h.3;
      writes = h.4;
      limit = omega (arith, h.5, c.reads.invariant.within);
      holds = (written_so_far h.0 h.1 c.reads.lines stand h.6, no_quit h.0 h.1 c.reads.lines stand h.6, omega (arith, h.5, c.reads.invariant.within));
      last_read = last_nothing h.0 h.1 c.reads.lines stand h.6;
    }

pub take_lines-requires-clause-count : goal.take_lines-requires-clause-count
take_lines-requires-clause-count g c =
    let piece : List ℕ = take c.in-Bytes.count c.read.new.buf in
    let lt = c.in-Bytes.ensures.within.0 in
    let w = rw take-append-le at c.in-Ok-feed.ensures.lines in
    let full : c.reads.taken + c.in-Bytes.count ≤ SCRIPT_LIMIT = omega (arith, lt, c.read.auto.buf, length-take {A = ℕ}, c.min-room.ensures) in
    omega (
      arith,
      full,
      c.reads.invariant.room,
      cut_count (c.reads.lines ++ piece),
      length-append c.reads.lines piece,
      length-take c.in-Bytes.count c.read.new.buf,
      lt,
      ap length w,
    )
