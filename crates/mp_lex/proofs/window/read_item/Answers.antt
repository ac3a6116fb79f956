use Rattle.std.proofs.Common.{◌+◌, ◌-◌, ◌≤◌, ◌==◌, ap, subst, List, ℕ, drop, length, arith}
use Rattle.mp_lex.specs.Windows.{IsDecided, IsItemTo, IsUndecided}
use Rattle.mp_lex.specs.Split.{item_len}
use Rattle.mp_lex.proofs.WindowLemmas.{item_decided, item_open, more_bytes, all_read, not_all_read}
use Rattle.mp_lex.proofs.window.read_item.Goals as goal

pub returns-in-Some-clause-item : goal.returns-in-Some-clause-item
returns-in-Some-clause-item g c =
    let text = g.T.Reader.bytes c.args.text.now in
    let so = c.reads.invariant in
    let rest = c.len.result - c.args.window.now.from in
    let P : List ℕ → Type 0 = λ bytes. IsDecided bytes c.args.at c.in-Some.end (c.len-in-reads.result == rest) in
    let Q : ℕ → Type 0 = λ from. IsItemTo text from c.args.at c.in-Some.end in
    subst Q so.from
    (item_decided text c.reads.window.from c.reads.window.bytes.items c.args.at c.in-Some.end (c.len-in-reads.result == rest) so.read
    (subst P c.as_slice.ensures.value c.in-Some.ensures)
    (all_read text c.reads.window.from c.reads.window.bytes.items c.len-in-reads.result rest so.read
    (omega (arith, c.len-in-reads.ensures, c.as_slice.ensures.len, ap length c.as_slice.ensures.value)) (omega (arith, so.from, c.len.ensures))))

pub read-requires-clause-more : goal.read-requires-clause-more
read-requires-clause-more g c =
    let text = g.T.Reader.bytes c.args.text.now in
    let so = c.reads.invariant in
    let rest = c.len.result - c.args.window.now.from in
    let P : List ℕ → Type 0 = λ bytes. IsUndecided bytes c.args.at (c.len-in-reads.result == rest) in
    more_bytes text c.reads.window.from c.reads.window.bytes.items c.args.at (c.len-in-reads.result == rest) so.read (omega (arith, so.from, c.requires.more))
    (subst P c.as_slice.ensures.value c.in_default.ensures)
    (not_all_read text c.reads.window.from c.reads.window.bytes.items c.len-in-reads.result rest so.read
    (omega (arith, c.len-in-reads.ensures, c.as_slice.ensures.len, ap length c.as_slice.ensures.value)) (omega (arith, so.from, c.len.ensures)))

pub reads-preserved : goal.reads-preserved
reads-preserved g c =
    let text = g.T.Reader.bytes c.args.text.now in
    let so = c.reads.invariant in
    let rest = c.len.result - c.args.window.now.from in
    let P : List ℕ → Type 0 = λ bytes. IsUndecided bytes c.args.at (c.len-in-reads.result == rest) in
    let far : length c.reads.window.bytes.items + 1 ≤ c.args.at + item_len (drop (c.args.window.now.from + c.args.at) text) + 2 =
    subst (λ from. length c.reads.window.bytes.items + 1 ≤ c.args.at + item_len (drop (from + c.args.at) text) + 2) so.from
    (item_open text c.reads.window.from c.reads.window.bytes.items c.args.at (c.len-in-reads.result == rest) so.read
    (omega (arith, so.from, c.requires.more)) (subst P c.as_slice.ensures.value c.in_default.ensures)) in
    record {
      from = omega (arith, so.from, c.read.ensures.from);
      read = c.read.ensures.read;
      at = omega (arith, so.at, c.read.ensures.grown);
      steps = omega (arith, so.steps, c.read.ensures.steps);
      reach = omega (arith, far, so.reach, c.read.ensures.one);
    }

pub returns-in_err-read-clause-reach : goal.returns-in_err-read-clause-reach
returns-in_err-read-clause-reach g c =
    let text = g.T.Reader.bytes c.args.text.now in
    let so = c.reads.invariant in
    let rest = c.len.result - c.args.window.now.from in
    let P : List ℕ → Type 0 = λ bytes. IsUndecided bytes c.args.at (c.len-in-reads.result == rest) in
    let far : length c.reads.window.bytes.items + 1 ≤ c.args.at + item_len (drop (c.args.window.now.from + c.args.at) text) + 2 =
    subst (λ from. length c.reads.window.bytes.items + 1 ≤ c.args.at + item_len (drop (from + c.args.at) text) + 2) so.from
    (item_open text c.reads.window.from c.reads.window.bytes.items c.args.at (c.len-in-reads.result == rest) so.read
    (omega (arith, so.from, c.requires.more)) (subst P c.as_slice.ensures.value c.in_default.ensures)) in
    omega (arith, far, so.reach, c.read.ensures.one)
