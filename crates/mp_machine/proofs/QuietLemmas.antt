-- Only calls and `New` add an activation or a root.
use Rattle.std.proofs.Common.{◌≡◌, ℕ, ◌+◌, List, [], ◌∷◌, ◌++◌, None, true, false, refl, sym, ap, ◌∙◌, append_assoc}
use Rattle.std.specs.Prelude.{slice_set}
use Rattle.mp_memory.specs.Roots.{with_root}
use Rattle.mp_machine.specs.States.{Frame, State, activations_in}
use Rattle.mp_machine.specs.Memory.{with_root_cells}
use Rattle.mp_machine.specs.Laws.{Quiet, OthersAddNone}
use Rattle.mp_machine.proofs.LaterLemmas.{none_where_was_none, still_none}
use Rattle.mp_machine.proofs.Rows.{Keeping, row_kept}

-- the roots and activations are as they were
abbrev still : (s t : State) → t.next_root ≡ s.next_root → ((r : ℕ) → s.roots r ≡ None → t.roots r ≡ None) → activations_in
    s.frames ≡ activations_in t.frames → Quiet s t
still s t numbers dropped same = record { numbers = numbers; dropped = dropped; activations = ([], same) }

two_quiet : (s t u : State) → Quiet s t → Quiet t u → Quiet s u
two_quiet s t u f g = record {
  numbers = g.numbers ∙ f.numbers;
  dropped = λ r e. g.dropped r (f.dropped r e);
  activations = (
    f.activations.0 ++ g.activations.0,
    f.activations.1 ∙ ap (λ l. f.activations.0 ++ l) g.activations.1 ∙
        sym (append_assoc f.activations.0 g.activations.0 (activations_in u.frames)),
  );
}

older_quiet : (s : State) (f : Frame) (older : List Frame) → s.frames ≡ f ∷ older → Quiet s (record s { frames = older })
older_quiet s f older e = record { numbers = refl; dropped = λ r n. n; activations = (f.activation ∷ [], ap activations_in e) }

quiet_keeping : Keeping Quiet
quiet_keeping = record {
  same = λ s. still s s refl (λ r e. e) refl;
  two = two_quiet;
  newest = λ s fs same. still s (record s { frames = fs }) refl (λ r e. e) (sym same);
  older = older_quiet;
  place = λ s k. still s (record s { at = k }) refl (λ r e. e) refl;
  cells = λ s r old new e. still s (with_root_cells r new s) refl (λ q n. none_where_was_none s.roots r old new q e n) refl;
  none = λ s r. still s (record s { roots = with_root s.roots r None }) refl (λ q n. still_none s.roots r q n) refl;
  blocks = λ s more. still s (record s { blocks = s.blocks ++ more }) refl (λ r e. e) refl;
  file = λ s k f g e longer. still s (record s { files = slice_set s.files k g }) refl (λ r e. e) refl;
  files = λ s more. still s (record s { files = s.files ++ more }) refl (λ r e. e) refl;
  written = λ s n. still s (record s { written = s.written + n }) refl (λ r e. e) refl;
}

pub others_add_none : OthersAddNone
others_add_none codes o s e = ((row_kept Quiet (λ path. ⊥) quiet_keeping codes o (λ adds. let w : true ≡ false = sym adds ∙
    e in absurd (let v : ⊥ = cc in v))).by s).by
