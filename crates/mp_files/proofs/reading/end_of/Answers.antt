use Rattle.std.proofs.Common.{◌≡◌, ◌+◌, sym, ◌∙◌, arith, drop}
use Rattle.std.specs.List.{prefix_len}
use Rattle.mp_files.specs.Stored.{is_of}
use Rattle.mp_files.proofs.ReadingLemmas.{prefix_on, prefix_stops, prefix_end}
use Rattle.mp_files.proofs.reading.end_of.Goals as goal

pub items-preserved : goal.items-preserved
items-preserved c =
    let p = is_of c.args.class in
    let xs = c.args.items.now in
    let on = prefix_on p xs c.items.end c.in-Some.item (sym c.in-Some.ensures.item) (sym c.is_of.ensures ∙ c.if-not-is_of.false) in
    let so_far : c.items.end + prefix_len p (drop c.items.end xs) ≡ c.args.from + prefix_len p (drop c.args.from xs) = c.items.invariant in
    omega (arith, on, so_far)

pub returns-then-not-is_of : goal.returns-then-not-is_of
returns-then-not-is_of c =
    let p = is_of c.args.class in
    let xs = c.args.items.now in
    let stops = prefix_stops p xs c.items.end c.in-Some.item (sym c.in-Some.ensures.item) (sym c.is_of.ensures ∙ c.if-not-is_of.true) in
    let so_far : c.items.end + prefix_len p (drop c.items.end xs) ≡ c.args.from + prefix_len p (drop c.args.from xs) = c.items.invariant in
    omega (arith, stops, so_far)

pub returns-in_default : goal.returns-in_default
returns-in_default c =
    let p = is_of c.args.class in
    let xs = c.args.items.now in
    let stops = prefix_end p xs c.items.end (sym c.in_default.ensures.item) in
    let so_far : c.items.end + prefix_len p (drop c.items.end xs) ≡ c.args.from + prefix_len p (drop c.args.from xs) = c.items.invariant in
    omega (arith, stops, so_far)
