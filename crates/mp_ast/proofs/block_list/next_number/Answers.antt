use Rattle.std.proofs.Common.{cond, Some, ◌+◌, ap, ◌∙◌}
use Rattle.std.specs.Prelude.{bytes_eq}
use Rattle.std.specs.HashMap.{get}
use Rattle.mp_ast.proofs.CountLemmas.{counted_next}
use Rattle.mp_ast.proofs.block_list.next_number.Goals as goal

pub returns-clause-counts : goal.returns-clause-counts
returns-clause-counts c =
    let before = get bytes_eq c.args.counts.now in
    let number = c.number_of-number.result + 1 in
    λ earlier each. counted_next before (get bytes_eq c.insert.new.self) c.args.name.now number earlier
    (λ q. c.in_ok-insert.ensures.updates.0 q ∙ ap (λ k. cond (bytes_eq k q) (Some number) (before q)) c.in_ok-copy.ensures)
    (ap (λ n. n + 1) c.number_of-number.ensures) each
