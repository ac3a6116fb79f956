-- Calls of procedural values.
use Rattle.std.proofs.Common.{◌≡◌, ℕ, ◌+◌, ◌-◌, ◌<◌, ◌≤◌, Bool, true, false, ◌||◌, Option, Some, None, List, [], ◌∷◌, ◌++◌}
use Rattle.std.proofs.Common.{length, take, drop, get_or}
use Rattle.std.proofs.Common.{refl, sym, ◌∙◌, ap, subst, arith, inl, inr}
use Rattle.std.specs.Prelude.{nat_eq, slice_get}
use Rattle.std.proofs.lemmas.Bool.{eqb-true}
use Rattle.std.proofs.lemmas.List.{length-take-le, take_more}
use Rattle.mp_code.specs.BlockCode.{BlockCode}
use Rattle.mp_memory.specs.declared.cells.Cell.{Cell}
use Rattle.mp_memory.specs.declared.cells.Cell.TheVariants as cell
use Rattle.mp_memory.specs.Roots.{Contents}
use Rattle.mp_machine.specs.declared.calls.Routine.{Routine}
use Rattle.mp_machine.specs.declared.operands.Operand.{Operand}
use Rattle.mp_machine.specs.declared.operands.Operand.TheVariants.{One, Block}
use Rattle.mp_machine.specs.declared.activations.Activation.{Activation}
use Rattle.mp_machine.specs.declared.processor.Stop.{Stop}
use Rattle.mp_machine.specs.declared.processor.Stop.TheVariants as stop
use Rattle.mp_machine.specs.Activations.{Activation as Live, find_activation}
use Rattle.mp_machine.specs.Blocks.{Path}
use Rattle.mp_machine.specs.CallRows.{as_routine, call_block, call_by, call_routine, enter, loaded}
use Rattle.mp_machine.specs.Operands as action
use Rattle.mp_machine.specs.Operands.{as_cell}
use Rattle.mp_machine.specs.Outcomes.{Missing, Outcome, bind, needs}
use Rattle.mp_machine.specs.Routines.{call_of, routine_in}
use Rattle.mp_machine.specs.Shown.{IsMissing, IsStuck, Stops, World, activation_seen, activations_seen, all_cells}
use Rattle.mp_machine.specs.Shown.{is_among, shown}
use Rattle.mp_machine.specs.States.{Codes, State, activations_in, code_of}
use Rattle.mp_machine.proofs.ActionLemmas.{lacks_shown, stuck_first, take_shown, then}
use Rattle.mp_machine.proofs.PassedLemmas.{le_or_lt, no_operands, take_all_lacks, take_all_shown}

-- ---- the operands

last_of : (low : ℕ) (xs : List Operand) (x : Operand) → 0 < low → low ≤ length xs → x ≡ get_or xs (low - 1) x →
    take low xs ≡ take (low - 1) xs ++ x ∷ []
last_of low xs x some inside is =
    ap (λ n. take n xs) (one_less low some) ∙ take_more xs (low - 1) x (let h = one_less low some in
    omega (arith, inside, h, some)) ∙ ap (λ y. take (low - 1) xs ++ y ∷ []) (sym is)
  where
    one_less : (low : ℕ) → 0 < low → low ≡ low - 1 + 1
    one_less low some = omega (arith, some)

module _ (codes : Codes) (n low : ℕ) (w : World) (k : Contents) (xs : List Operand) (a : Activation) (older : List Activation)
    (at : ℕ) (e : low + n ≡ length xs) where
  -- behind the cells
  behind : Cell → State → Outcome (Unit {0})
  behind c t = bind (as_routine c t) (λ r u. call_routine codes (all_cells (drop low xs)) r u)

  pub call_taken : (x : Operand) → a.below < low → x ≡ get_or xs (low - 1) x →
      call_by codes n (shown w k xs a older at) ≡ call_of codes (all_cells (drop low xs)) x
      (shown w k (take (low - 1) xs) a older at)
  unfolding behind
  call_taken x above is =
      then _ (take_all_shown n low w k xs a older at e (omega (arith, above)))
      ∙ ap (λ ys. bind (action.take_cell (shown w k ys a older at)) behind) (last_of low xs x (omega (arith, above))
      (omega (arith, e)) is)
      ∙ ap (λ o. bind (bind o (λ y. as_cell y)) behind)
      (take_shown w k (take (low - 1) xs) x a older at (let h = length-take-le (low - 1) xs (omega (arith, e)) in
      omega (arith, h, above)))

pub call_lacks : (codes : Codes) (n : ℕ) (w : World) (k : Contents) (xs : List Operand) (a : Activation)
    (older : List Activation) (at : ℕ) →
    a.below ≤ length xs → length xs - a.below ≤ n → IsStuck (call_by codes n (shown w k xs a older at))
call_lacks codes n w k xs a older at own l = elim (le_or_lt n (length xs - a.below)) [
  | inl just ↦ subst IsStuck (sym (then _ (take_all_shown n a.below w k xs a older at (omega (arith, own, l, just))
      (omega arith))))
      (stuck_first (action.take_cell (shown w k (take a.below xs) a older at)) _
      (stuck_first (action.take (shown w k (take a.below xs) a older at)) _
      (subst IsStuck (sym (lacks_shown w k (take a.below xs) a older at
      (no_operands a.below (take a.below xs) (let h = length-take-le a.below xs own in omega (arith, h))))) tt)))
  | inr few ↦ stuck_first (action.take_all n (shown w k xs a older at)) _ (take_all_lacks n w k xs a older at few)
]

-- ---- activations

none_among : (paths : ℕ → Path) (all : List Activation) (number : ℕ) → is_among number all ≡ false →
    find_activation (activations_seen paths all) number ≡ None
none_among paths [] number e = refl
none_among paths (a ∷ older) number e = by_first (nat_eq a.number number) e (λ f. none_among paths older number f)
  where
    by_first : (b : Bool) → (b || is_among number older) ≡ false →
        (is_among number older ≡ false → find_activation (activations_seen paths older) number ≡ None) →
        elim b as (λ is. Option Live) [
          | true ↦ Some (activation_seen paths a)
          | false ↦
              find_activation (activations_seen paths older) number
        ] ≡ None
    by_first true e more = absurd (let v : ⊥ = cc in v)
    by_first false e more = more e

record Lives (paths : ℕ → Path) (all : List Activation) (number : ℕ) : Type 0 where
  pub live : Live
  pub is : find_activation (activations_seen paths all) number ≡ Some live
  pub same : live.number ≡ number

some_among : (paths : ℕ → Path) (all : List Activation) (number : ℕ) → is_among number all ≡ true → Lives paths all number
some_among paths [] number e = absurd (let v : ⊥ = cc in v)
some_among paths (a ∷ older) number e = by_first (nat_eq a.number number) refl e (λ f. some_among paths older number f)
  where
    by_first : (b : Bool) → nat_eq a.number number ≡ b → (b || is_among number older) ≡ true →
        (is_among number older ≡ true → Lives paths older number) → Lives paths (a ∷ older) number
    by_first true t e more = record {
      live = activation_seen paths a;
      is = ap (λ b. elim b as (λ is. Option Live) [
        | true ↦ Some (activation_seen paths a)
        | false ↦
            find_activation (activations_seen paths older) number
      ]) t;
      same = eqb-true a.number number t;
    }
    by_first false t e more = let r : Lives paths older number = more e in record {
      live = r.live;
      is = ap (λ b. elim b as (λ is. Option Live) [
        | true ↦ Some (activation_seen paths a)
        | false ↦
            find_activation (activations_seen paths older) number
      ]) t ∙ r.is;
      same = r.same;
    }

-- ---- the call

module _ (codes : Codes) (cells : List Cell) (s : State) where
  pub no_routine : (x : Operand) → routine_in x ≡ None → IsStuck (call_of codes cells x s)
  no_routine (Block xs) e = tt
  no_routine (One (cell.Code b act)) e = absurd (let v : ⊥ = cc in v)
  no_routine (One cell.Undef) e = tt
  no_routine (One (cell.Int n)) e = tt
  no_routine (One (cell.Members set)) e = tt
  no_routine (One (cell.Ptr n)) e = tt
  no_routine (One (cell.Ref r o)) e = tt
  no_routine (One (cell.FileNo n)) e = tt

  of_routine : (x : Operand) (r : Routine) → routine_in x ≡ Some r → call_of codes cells x s ≡ call_routine codes cells
      (r.block, r.act) s
  of_routine (Block xs) r e = absurd (let v : ⊥ = cc in v)
  of_routine (One (cell.Code b act)) r e = let same : record { block = b; act = act } ≡ r = cc in
      ap (λ r. call_routine codes cells (r.block, r.act) s) same
  of_routine (One cell.Undef) r e = absurd (let v : ⊥ = cc in v)
  of_routine (One (cell.Int n)) r e = absurd (let v : ⊥ = cc in v)
  of_routine (One (cell.Members set)) r e = absurd (let v : ⊥ = cc in v)
  of_routine (One (cell.Ptr n)) r e = absurd (let v : ⊥ = cc in v)
  of_routine (One (cell.Ref q o)) r e = absurd (let v : ⊥ = cc in v)
  of_routine (One (cell.FileNo n)) r e = absurd (let v : ⊥ = cc in v)

  -- the static parent, and the code
  with_parent : Path → (act : ℕ) → Outcome (Unit {0})
  with_parent path act = bind (needs (find_activation (activations_in s.frames) act) s) (λ parent t. call_block codes cells
      parent.number path t)

  by_block : Option Path → (act : ℕ) → Outcome (Unit {0})
  by_block o act = bind (needs o s) (λ path t. bind (needs (find_activation (activations_in s.frames) act) t)
      (λ parent u. call_block codes cells parent.number path u))

  module _ (x : Operand) (r : Routine) (is : routine_in x ≡ Some r) where
    pub no_block : slice_get s.blocks r.block ≡ None → IsStuck (call_of codes cells x s)
    unfolding by_block
    no_block e = subst IsStuck (sym (of_routine x r is ∙ ap (λ o. by_block o r.act) e)) tt

    module _ (paths : ℕ → Path) (all : List Activation) (path : Path) (acts : activations_in
        s.frames ≡ activations_seen paths all)
        (named : slice_get s.blocks r.block ≡ Some path) where
      pub no_parent : is_among r.act all ≡ false → IsStuck (call_of codes cells x s)
      unfolding by_block with_parent
      no_parent e = subst IsStuck (sym (of_routine x r is ∙ ap (λ o. by_block o r.act) named
          ∙ ap (λ o. bind (needs o s) (λ parent t. call_block codes cells parent.number path t))
          (ap (λ l. find_activation l r.act) acts ∙ none_among paths all r.act e))) tt

      parent_lives : is_among r.act all ≡ true → call_of codes cells x s ≡ call_block codes cells r.act path s
      unfolding by_block with_parent
      parent_lives e =
          let p : Lives paths all r.act = some_among paths all r.act e in
          of_routine x r is ∙ ap (λ o. by_block o r.act) named
          ∙ ap (λ o. bind (needs o s) (λ parent t. call_block codes cells parent.number path t))
          (ap (λ l. find_activation l r.act) acts ∙ p.is)
          ∙ ap (λ n. call_block codes cells n path s) p.same

      pub no_code : is_among r.act all ≡ true → code_of codes path ≡ None → call_of codes cells x s ≡ Missing path
      no_code e f = parent_lives e ∙ ap (λ o. bind (loaded o path s) (λ code t. enter code path r.act cells t)) f

      pub with_code : (code : BlockCode) → is_among r.act all ≡ true → code_of codes path ≡ Some code →
          call_of codes cells x s ≡ enter code path r.act cells s
      with_code code e f = parent_lives e ∙ ap (λ o. bind (loaded o path s) (λ code t. enter code path r.act cells t)) f

pub missing_stops : (path : Path) (e : Stop) (o : Outcome (Unit {0})) (t : State) → IsMissing path e → o ≡ Missing path →
    Stops e o t
missing_stops path (stop.Missing p) o t is e = e ∙ ap (λ q. Missing q) (sym is)
missing_stops path stop.Memory o t is e = tt
missing_stops path (stop.Fault n) o t is e = absurd is
missing_stops path (stop.Limit n) o t is e = absurd is
missing_stops path stop.Ended o t is e = absurd is
missing_stops path stop.Stuck o t is e = absurd is
