-- Live activations and their static parents (ISO 7185, 6.2.3).
use Rattle.std.specs.Prelude.{ℕ, true, false, List, [], ◌∷◌, Option, Some, None, nat_eq}
use Rattle.mp_machine.specs.Blocks.{Path, depth}

-- A live activation: its number, which none has again and which is that of the root of its cells, its block, the number of
-- its static parent, the place of its call in the block of the next older one, and the cells of its frame that are counted.
pub record Activation : Type 0 where
  pub number : ℕ
  pub block : Path
  pub parent : ℕ
  pub from : ℕ
  pub cells : ℕ

-- From the activation of a number outward to the one whose block has the depth: the number of that one. An activation's
-- static parent is older, so one way through the list finds all.
abbrev pub seek : List Activation → (number depth : ℕ) → Option ℕ
seek [] number d = None
seek (a ∷ older) number d = elim (nat_eq a.number number) as (λ is. Option ℕ) [
  | true ↦ elim (nat_eq (depth a.block) d) as (λ is. Option ℕ) [ true ↦ Some number | false ↦ seek older a.parent d ]
  | false ↦ seek older number d
]

-- the activation of the depth around the newest
abbrev pub holder : List Activation → (depth : ℕ) → Option ℕ
holder [] d = None
holder (a ∷ older) d = seek (a ∷ older) a.number d

abbrev pub find_activation : List Activation → (number : ℕ) → Option Activation
find_activation [] r = None
find_activation (a ∷ older) r = elim (nat_eq a.number r) as (λ is. Option Activation) [
  | true ↦ Some a
  | false ↦ find_activation older r
]
