-- Where in a text the leaves of its tree stand, and that they tell of each identifier in it.
use Rattle.std.specs.Prelude.{◌≡◌, ℕ, ◌+◌, ◌<◌, ◌≤◌, Bool, true, ◌&&◌, List, [], ◌∷◌, Some, count_by, slice_get, nat_eq}
use Rattle.std.specs.Prelude.{if◌then◌else◌}
use Rattle.std.specs.List.{AllByRecursion}
use Rattle.mp_ast.specs.declared.tokens.TokenKind.{TokenKind}
use Rattle.mp_ast.specs.declared.tokens.TokenKind.TheVariants.{Id}
use Rattle.mp_ast.specs.Blocks.{PlacedBlock, index_in}
use Rattle.mp_ast.specs.Leaves.{Leaf, ordinal_of, has_token, is_identifier_token, Fits}
use Rattle.mp_ast.specs.LeavesOfBlocks.{leaves_of_block}

-- in the text, the own tokens of a block stand in the order of their ordinals
abbrev pub IndicesRise : PlacedBlock → Type 0
IndicesRise block = (m n : ℕ) → m < n → index_in block m < index_in block n

-- the least ordinal of what stands behind a leaf
abbrev pub ordinal_behind : Leaf → ℕ
ordinal_behind leaf = if has_token leaf then ordinal_of leaf + 1 else ordinal_of leaf

-- each leaf stands behind the one before it, and the first of them not before the ordinal `low`
abbrev pub AreInOrder : ℕ → List Leaf → Type 0
AreInOrder low [] = Unit {0}
AreInOrder low (leaf ∷ more) = (low ≤ ordinal_of leaf) × AreInOrder (ordinal_behind leaf) more

-- the ordinals of a block's leaves rise
abbrev pub OrdinalsRise : PlacedBlock → Type 0
OrdinalsRise block = AreInOrder 0 (leaves_of_block block.own)

-- each ordinal in a block's own tree is that of an own token
abbrev pub OrdinalsAreBelow : PlacedBlock → Type 0
OrdinalsAreBelow block = AllByRecursion (λ leaf. ordinal_of leaf < block.own.tokens) (leaves_of_block block.own)

-- At the index in the text that a leaf's ordinal has stands the token that it tells of: an identifier by its name, a
-- number by its value, a string by its characters, a word or a symbol as it is.
abbrev pub StandsAtItsToken : List TokenKind → PlacedBlock → Leaf → Type 0
StandsAtItsToken kinds block leaf =
    has_token leaf ≡ true → (k : TokenKind) × (slice_get kinds (index_in block (ordinal_of leaf)) ≡ Some k) × Fits leaf k

abbrev pub LeavesStand : List TokenKind → PlacedBlock → Type 0
LeavesStand kinds block = AllByRecursion (StandsAtItsToken kinds block) (leaves_of_block block.own)

-- a leaf tells that an identifier, or `forward`, has the ordinal `n`
abbrev pub tells_identifier : ℕ → Leaf → Bool
tells_identifier n leaf = is_identifier_token leaf && nat_eq (ordinal_of leaf) n

-- each own token of a block that is an identifier, or `forward`, is that of exactly one leaf
abbrev pub EachIdentifierIsTold : List TokenKind → PlacedBlock → Type 0
EachIdentifierIsTold kinds block =
    (n : ℕ) (name : List ℕ) → n < block.own.tokens → slice_get kinds (index_in block n) ≡ Some (Id name) →
    count_by (tells_identifier n) (leaves_of_block block.own) ≡ 1
