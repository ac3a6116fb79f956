-- Cells that are laid over others, one more at a time.
use Rattle.std.proofs.Common.{◌≡◌, ℕ, ◌+◌, ◌<◌, ◌≤◌, List, [], ◌∷◌, ◌++◌, length, take, drop, set, get_or, replicate, refl, sym, ap, ap₂, ◌∙◌, arith}
use Rattle.std.proofs.Common.{length-append, length-drop, append_assoc, subst}
use Rattle.std.specs.Prelude.{slice_set}
use Rattle.std.proofs.lemmas.List.{length-replicate, replicate-append-replicate, drop_more, set_at, length-take-le, take_more, take-append-drop}
use Rattle.mp_memory.specs.declared.cells.Cell.{Cell}
use Rattle.mp_memory.specs.declared.cells.Cell.TheVariants.{Undef}
use Rattle.mp_memory.specs.Roots.{laid_over}

append_none : (xs : List Cell) → xs ++ [] ≡ xs
append_none [] = refl
append_none (x ∷ xs) = ap (λ l. x ∷ l) (append_none xs)

pub laid_none : (cells : List Cell) (o : ℕ) → laid_over cells o [] ≡ cells
laid_none cells o = ap (λ l. l ++ drop (o + 0) cells) (append_none (take o cells)) ∙ ap (λ n. take o cells ++ drop n cells) (omega arith) ∙ take-append-drop o cells

pub front_length : (cells : List Cell) (o : ℕ) (xs : List Cell) → o + length xs ≤ length cells → length (take o cells ++ xs) ≡ o + length xs
front_length cells o xs l = length-append (take o cells) xs ∙ ap (λ n. n + length xs) (length-take-le o cells (omega (arith, l)))

pub laid_length : (cells : List Cell) (o : ℕ) (xs : List Cell) → o + length xs ≤ length cells → length (laid_over cells o xs) ≡ length cells
laid_length cells o xs l = length-append (take o cells ++ xs) (drop (o + length xs) cells) ∙ omega (arith, front_length cells o xs l, length-drop (o + length xs) cells, l)

pub laid_more : (cells : List Cell) (o : ℕ) (xs : List Cell) (x : Cell) → o + length xs < length cells
    → set (laid_over cells o xs) (o + length xs) x ≡ laid_over cells o (xs ++ x ∷ [])
laid_more cells o xs x l =
    ap (λ ys. set (front ++ ys) n x) (drop_more cells n x l)
    ∙ set_at front (get_or cells n x) (drop (n + 1) cells) x n (front_length cells o xs (omega (arith, l)))
    ∙ sym (append_assoc front (x ∷ []) (drop (n + 1) cells))
    ∙ ap₂ (λ ys m. ys ++ drop m cells) (append_assoc (take o cells) xs (x ∷ [])) (omega (arith, length-append xs (x ∷ [])))
  where
    n : ℕ
    n = o + length xs

    front : List Cell
    front = take o cells ++ xs

pub clear_more : (cells : List Cell) (o i : ℕ) → o + i < length cells
    → slice_set (laid_over cells o (replicate i Undef)) (o + i) Undef ≡ laid_over cells o (replicate (i + 1) Undef)
clear_more cells o i l =
    ap (λ n. set (laid_over cells o (replicate i Undef)) (o + n) Undef) (sym (length-replicate i Undef))
    ∙ laid_more cells o (replicate i Undef) Undef (subst (λ n. o + n < length cells) (sym (length-replicate i Undef)) l)
    ∙ ap (laid_over cells o) (replicate-append-replicate i 1 Undef)

pub lay_more : (cells : List Cell) (o : ℕ) (new : List Cell) (i : ℕ) (x : Cell) → o + length new ≤ length cells → i < length new → x ≡ get_or new i x
    → slice_set (laid_over cells o (take i new)) (o + i) x ≡ laid_over cells o (take (i + 1) new)
lay_more cells o new i x l less e =
    ap (λ n. set (laid_over cells o (take i new)) (o + n) x) (sym taken)
    ∙ laid_more cells o (take i new) x (subst (λ n. o + n < length cells) (sym taken) (omega (arith, l, less)))
    ∙ ap (laid_over cells o) (ap (λ y. take i new ++ y ∷ []) e ∙ sym (take_more new i x less))
  where
    taken : length (take i new) ≡ i
    taken = length-take-le i new (omega (arith, less))

pub set_one : (cells : List Cell) (o : ℕ) (x : Cell) → o < length cells → slice_set cells o x ≡ laid_over cells o (x ∷ [])
set_one cells o x l =
    ap (λ ys. set ys o x) (sym (laid_none cells o)) ∙ ap (λ n. set (laid_over cells o []) n x) (omega arith) ∙ laid_more cells o [] x (omega (arith, l))
