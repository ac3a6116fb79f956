-- The search from the program inward, as a search from a block outward.
use Rattle.std.proofs.Common.{append-nil, append_assoc, ◌≡◌, ℕ, List, [], ◌∷◌, ◌++◌, refl, sym, ap, ◌∙◌}
use Rattle.mp_base.specs.declared.path.PathStep.{PathStep}
use Rattle.mp_tables.specs.declared.questions.Seen.{Seen}
use Rattle.mp_tables.specs.declared.tables.Table.{Table}
use Rattle.mp_tables.specs.RequiredNames.{required_name}
use Rattle.mp_tables.specs.Seen.{around_program, declared_or, here, nested_in, semicolon_of, seen_from}
use Rattle.mp_tables.specs.Outward.{PathIsKept, SearchIsOutward, path_outward, seen_outward, turned}

-- what a name is around the block with these steps, the innermost first
around : List Table → List PathStep → List ℕ → Seen
around tables [] n = around_program (required_name n)
around tables (step ∷ outward) n = seen_outward tables outward (semicolon_of (nested_in tables (path_outward outward) step)) n

outward_is : (tables : List Table) (outward : List PathStep) (at : ℕ) (n : List ℕ) →
    declared_or (around tables outward n) (here tables (path_outward outward) at n) ≡ seen_outward tables outward at n
unfolding around
outward_is tables [] at n = refl
outward_is tables (step ∷ outward) at n = refl

inward_is : (tables : List Table) (outward inward : List PathStep) (at : ℕ) (n : List ℕ) →
    seen_from tables (around tables outward n) (path_outward outward) inward at n ≡ seen_outward tables (turned inward outward) at n
unfolding around
inward_is tables outward [] at n = outward_is tables outward at n
inward_is tables outward (step ∷ inward) at n =
    ap (λ s. seen_from tables s (path_outward outward ++ step ∷ []) inward at n) (outward_is tables outward (semicolon_of (nested_in tables (path_outward outward) step)) n)
    ∙ inward_is tables (step ∷ outward) inward at n

pub search_is_outward : SearchIsOutward
unfolding around
search_is_outward tables n place = inward_is tables [] place.path place.ordinal n

turned_path : (inward outward : List PathStep) → path_outward (turned inward outward) ≡ path_outward outward ++ inward
turned_path [] outward = sym (append-nil (path_outward outward))
turned_path (step ∷ inward) outward = turned_path inward (step ∷ outward) ∙ append_assoc (path_outward outward) (step ∷ []) inward

pub path_is_kept : PathIsKept
path_is_kept path = turned_path path []
