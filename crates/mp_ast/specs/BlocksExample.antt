-- A small program, with its tokens numbered by hand: what `specs/Blocks` says of it is checked by computation.
--
--     program p;                 0  1  2
--     procedure a; forward;      3  4  5     6  7
--     procedure b;               8  9  10
--     procedure a; begin end;    11 12 13    14 15    16
--     begin a end;               17 18 19             20
--     procedure a; begin end;    21 22 23    24 25    26
--     procedure a; begin end;    27 28 29    30 31    32
--     begin b end.               33 34 35 36
--
-- The first `a` is completed by the third. The last one is an error, but has a block with a path as well.
use Rattle.std.specs.Prelude.{ℕ, ◌+◌, List, [], ◌∷◌, Option, Some, None, map, codes}
use Rattle.mp_base.specs.declared.path.PathStep.{PathStep}
use Rattle.mp_base.specs.declared.place.Place.{Place}
use Rattle.mp_ast.specs.declared.tokens.Token.{Token}
use Rattle.mp_ast.specs.declared.tokens.TokenKind.TheVariants.{Symbol}
use Rattle.mp_ast.specs.declared.symbols.Symbol.TheVariants.{Semicolon}
use Rattle.mp_ast.specs.declared.leaves.Identifier.{Identifier}
use Rattle.mp_ast.specs.declared.headings.HeadingKind.TheVariants as kind
use Rattle.mp_ast.specs.declared.blocks.ProgramHeading.{ProgramHeading}
use Rattle.mp_ast.specs.declared.blocks.DeclaredBody.{DeclaredBody}
use Rattle.mp_ast.specs.declared.blocks.DeclaredBody.TheVariants as body
use Rattle.mp_ast.specs.PlainExpressions.{NoActuals}
use Rattle.mp_ast.specs.PlainStatements.{PlainStatement, NoStatements, Sequence, Empty, Call}
use Rattle.mp_ast.specs.PlainTypes.{NoSections}
use Rattle.mp_ast.specs.PlainHeadings.{NoFormals}
use Rattle.mp_ast.specs.PlainTrees.{PlainDeclaration, PlainBlock, PlainTree, Compound, TreeOf, NoTrees, Beside}

abbrev identifier : ℕ → List ℕ → Identifier
identifier at name = record { at = at; name = name }

-- a procedure without parameters, whose first token has this ordinal
abbrev procedure : ℕ → List ℕ → DeclaredBody → PlainDeclaration
procedure at name body =
    record { heading = record { at = at; name = identifier (at + 1) name; formals = NoFormals; kind = kind.Procedure }; semicolon = at + 2; body = body }

-- a block with these declarations, and with one statement between the `begin` and the `end` of these ordinals
abbrev block : Option ProgramHeading → List PlainDeclaration → ℕ → PlainStatement → ℕ → ℕ → PlainBlock
block program declarations begin statement end tokens =
    record {
      program = program;
      labels = [];
      constants = [];
      types = [];
      variables = NoSections;
      declarations = declarations;
      statements = Compound begin (Sequence statement NoStatements) end;
      tokens = tokens;
    }

-- begin end
abbrev pub empty_block : PlainBlock
empty_block = block None [] 0 (Empty 1) 1 2

abbrev pub block_of_b : PlainBlock
block_of_b = block None (procedure 0 (codes "a") body.Block ∷ []) 4 (Call (identifier 5 (codes "a")) NoActuals) 6 7

abbrev pub block_of_p : PlainBlock
block_of_p =
    block
    (Some (record { name = identifier 1 (codes "p"); parameters = [] }))
    (procedure 3 (codes "a") (body.Forward 6) ∷ procedure 8 (codes "b") body.Block ∷ procedure 12 (codes "a") body.Block ∷ procedure 16 (codes "a") body.Block ∷ [])
    20 (Call (identifier 21 (codes "b")) NoActuals) 22 24

abbrev leaf : PlainTree
leaf = TreeOf empty_block NoTrees

abbrev pub program : PlainTree
program = TreeOf block_of_p (Beside (TreeOf block_of_b (Beside leaf NoTrees)) (Beside leaf (Beside leaf NoTrees)))

-- ---- its text and its tokens, of which only the starts count here

abbrev pub text : List (List ℕ)
text =
    codes "program p;"
    ∷ codes "procedure a; forward;"
    ∷ codes "procedure b;"
    ∷ codes "procedure a; begin end;"
    ∷ codes "begin a end;"
    ∷ codes "procedure a; begin end;"
    ∷ codes "procedure a; begin end;"
    ∷ codes "begin b end."
    ∷ []

abbrev pub starts : List ℕ
starts =
    0 ∷ 8 ∷ 9
    ∷ 11 ∷ 21 ∷ 22 ∷ 24 ∷ 31
    ∷ 33 ∷ 43 ∷ 44
    ∷ 46 ∷ 56 ∷ 57 ∷ 59 ∷ 65 ∷ 68
    ∷ 70 ∷ 76 ∷ 78 ∷ 81
    ∷ 83 ∷ 93 ∷ 94 ∷ 96 ∷ 102 ∷ 105
    ∷ 107 ∷ 117 ∷ 118 ∷ 120 ∷ 126 ∷ 129
    ∷ 131 ∷ 137 ∷ 139 ∷ 142
    ∷ []

abbrev pub tokens : List Token
tokens = map (λ start. record { kind = Symbol Semicolon; start = start; len = 1 }) starts

-- ---- places in it

abbrev pub step : List ℕ → ℕ → PathStep
step name nth = record { name = name; nth = nth }

abbrev pub place : List PathStep → ℕ → Place
place path ordinal = record { path = path; ordinal = ordinal }
