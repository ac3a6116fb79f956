-- A small program, `program p; begin p end.`, with one statement, as the tree that is right and such as are not.
use Rattle.std.specs.Prelude.{ℕ, List, [], ◌∷◌, Some, codes}
use Rattle.mp_ast.specs.declared.tokens.TokenKind.{TokenKind}
use Rattle.mp_ast.specs.declared.tokens.TokenKind.TheVariants.{Id, Word, Symbol}
use Rattle.mp_ast.specs.declared.words.WordSymbol.TheVariants as w
use Rattle.mp_ast.specs.declared.symbols.Symbol.TheVariants as s
use Rattle.mp_ast.specs.PlainExpressions.{NoActuals}
use Rattle.mp_ast.specs.PlainStatements.{PlainStatement, NoStatements, Sequence, Call}
use Rattle.mp_ast.specs.PlainTypes.{NoSections}
use Rattle.mp_ast.specs.PlainTrees.{Compound, NoTrees}
use Rattle.mp_ast.specs.Blocks.{PlacedBlock}

abbrev pub kinds : List TokenKind
kinds = Word w.Program ∷ Id (codes "p") ∷ Symbol s.Semicolon ∷ Word w.Begin ∷ Id (codes "p") ∷ Word w.End ∷ Symbol s.Dot ∷ []

-- the call of a procedure whose name stands at this ordinal
abbrev pub call : ℕ → List ℕ → PlainStatement
call at name = Call (record { at = at; name = name }) NoActuals

-- its block, with this statement
abbrev pub block : PlainStatement → PlacedBlock
block statement =
    record {
      path = [];
      start = 0;
      own =
          record {
            program = Some (record { name = record { at = 1; name = codes "p" }; parameters = [] });
            labels = [];
            constants = [];
            types = [];
            variables = NoSections;
            declarations = [];
            statements = Compound 3 (Sequence statement NoStatements) 5;
            tokens = 7;
          };
      inside = NoTrees;
    }
