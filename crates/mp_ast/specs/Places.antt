-- From the index of a token in the text back to its place.
use Rattle.std.specs.Prelude.{ℕ, List, [], ◌∷◌, Option, None, find, nat_eq, option_map}
use Rattle.std.specs.Option.{option_or}
use Rattle.std.specs.List.{range_with_len}
use Rattle.mp_base.specs.declared.place.Place.{Place}
use Rattle.mp_ast.specs.PlainTrees.{PlainTree}
use Rattle.mp_ast.specs.Blocks.{PlacedBlock, blocks, index_in}

-- the ordinal of the own token of a block that has an index in the text, where one has it
abbrev pub ordinal_in : PlacedBlock → ℕ → Option ℕ
ordinal_in block index = find (λ ordinal. nat_eq (index_in block ordinal) index) (range_with_len 0 block.own.tokens)

abbrev pub place_in : PlacedBlock → ℕ → Option Place
place_in block index = option_map (λ ordinal. record { path = block.path; ordinal = ordinal }) (ordinal_in block index)

abbrev pub place_among : List PlacedBlock → ℕ → Option Place
place_among [] index = None
place_among (block ∷ more) index = option_or (place_in block index) (place_among more index)

-- the place of the token with an index, where there is one
abbrev pub place_of : PlainTree → ℕ → Option Place
place_of program index = place_among (blocks program) index
