-- The rules of type denoters go on by as many ordinals as they read tokens.
use Rattle.std.proofs.Common.{ℕ, zero, suc}
use Rattle.mp_ast.specs.declared.types.Denoter.{Denoter}
use Rattle.mp_ast.specs.Rules.{Rule}
use Rattle.mp_ast.specs.TypeGrammar.{Deeper, behind, simple_type, section, denoter_with, field_list_with, denoter}
use Rattle.mp_ast.proofs.Counting.{Counts, nothing, never, next, made, either, maybe, repeated, one, row, opens, identifier_counts, constant_counts}

simple_counts : Counts simple_type
simple_counts =
    either (made identifier_counts)
    (either (next one (λ at. next (row one identifier_counts) (λ names. next one (λ end. nothing))))
    (next constant_counts (λ first. next one (λ dots. made constant_counts))))

pub section_counts : {d : Rule Denoter} → Counts d → Counts (section d)
section_counts c = next (row one identifier_counts) (λ names. next one (λ colon. next c (λ of. nothing)))

record DeeperCounts (b : Deeper) : Type 0 where
  pub denoter : Counts b.denoter
  pub field_list : Counts b.field_list

module _ (room : ℕ) (b : Deeper) (c : DeeperCounts b) where
  denoter_counts_with : Counts (denoter_with room b)
  denoter_counts_with =
      either simple_counts
      (either (next one (λ at. made identifier_counts))
      (either
      (either (next (opens room _) (λ at. next one (λ bracket. next simple_counts (λ of.
      next (repeated (next one (λ comma. next simple_counts (λ of. nothing)))) (λ more. next one (λ end. next one (λ word. made c.denoter)))))))
      (either (next (opens room _) (λ at. next c.field_list (λ fields. next one (λ end. nothing))))
      (either (next (opens room _) (λ at. next one (λ word. made simple_counts)))
      (next (opens room _) (λ at. next one (λ word. made c.denoter))))))
      (next (opens room _) (λ packed.
      either (next one (λ at. next one (λ bracket. next simple_counts (λ of.
      next (repeated (next one (λ comma. next simple_counts (λ of. nothing)))) (λ more. next one (λ end. next one (λ word. made c.denoter)))))))
      (either (next one (λ at. next c.field_list (λ fields. next one (λ end. nothing))))
      (either (next one (λ at. next one (λ word. made simple_counts)))
      (next one (λ at. next one (λ word. made c.denoter)))))))))

  field_list_counts_with : Counts (field_list_with room b)
  field_list_counts_with =
      either
      (next
      (either
      (next (row one (section_counts denoter_counts_with)) (λ fixed. next (maybe (next one (λ semicolon.
      next (opens room _) (λ at. next (maybe (next identifier_counts (λ name. next one (λ colon. nothing)))) (λ tag.
      next identifier_counts (λ of. next one (λ word.
      next (row one (next (row one constant_counts) (λ constants. next one (λ colon. next one (λ parenthesis. next c.field_list (λ found. next one (λ end. nothing)))))))
      (λ variants. nothing)))))))) (λ part. nothing)))
      (next
      (next (opens room _) (λ at. next (maybe (next identifier_counts (λ name. next one (λ colon. nothing)))) (λ tag.
      next identifier_counts (λ of. next one (λ word.
      next (row one (next (row one constant_counts) (λ constants. next one (λ colon. next one (λ parenthesis. next c.field_list (λ found. next one (λ end. nothing)))))))
      (λ variants. nothing))))))
      (λ part. nothing)))
      (λ fields. next (maybe one) (λ semicolon. nothing)))
      nothing

behind_counts : (room : ℕ) → DeeperCounts (behind room)
unfolding behind
behind_counts zero = record { denoter = never; field_list = never }
behind_counts (suc room) =
    let c = behind_counts room in record { denoter = denoter_counts_with room (behind room) c; field_list = field_list_counts_with room (behind room) c }

pub denoter_counts : (room : ℕ) → Counts (denoter room)
denoter_counts room = denoter_counts_with room (behind room) (behind_counts room)
