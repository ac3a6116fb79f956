use Rattle.std.proofs.Common.{◌≡◌, ◌∙◌, rules, arith, to_z, of_z, w64}
use Rattle.std.proofs.lemmas.Int.{ints, to_z-of_z}
use Rattle.mp_layout.proofs.ValueLemmas.{saturated-values, no_values}
use Rattle.mp_layout.proofs.counts.counted_values.Goals as goal

pub returns-then-bounds : goal.returns-then-bounds
returns-then-bounds c =
    let low : to_z w64 (of_z w64 c.args.bounds.now.low) ≡ c.args.bounds.now.low = search (rules, to_z-of_z) in
    let high : to_z w64 (of_z w64 c.args.bounds.now.high) ≡ c.args.bounds.now.high = search (rules, to_z-of_z) in
    c.saturated.ensures ∙ saturated-values c.args.bounds.now _ _ c.abs_diff.result c.saturating_add.result low high c.if-bounds.true c.abs_diff.ensures c.saturating_add.ensures

pub returns-else-bounds : goal.returns-else-bounds
returns-else-bounds c =
    let low : to_z w64 (of_z w64 c.args.bounds.now.low) ≡ c.args.bounds.now.low = search (rules, to_z-of_z) in
    let high : to_z w64 (of_z w64 c.args.bounds.now.high) ≡ c.args.bounds.now.high = search (rules, to_z-of_z) in
    no_values c.args.bounds.now _ _ low high c.if-bounds.false
