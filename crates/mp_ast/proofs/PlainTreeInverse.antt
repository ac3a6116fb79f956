-- Nothing of a tree is lost in its plain form: it can be made again from that. By induction over the tree.
use Rattle.std.proofs.Common.{◌≡◌, List, [], ◌∷◌, map, refl, sym, ap, ◌∙◌, subst}
use Rattle.mp_ast.specs.declared.headings.HeadingTree.{HeadingTree}
use Rattle.mp_ast.specs.declared.types.Denoter.{Denoter}
use Rattle.mp_ast.specs.declared.types.Section.{Section}
use Rattle.mp_ast.specs.declared.blocks.TypeDefinition.{TypeDefinition}
use Rattle.mp_ast.specs.declared.blocks.Declaration.{Declaration}
use Rattle.mp_ast.specs.declared.blocks.StatementPart.{StatementPart}
use Rattle.mp_ast.specs.declared.blocks.StatementPart.TheVariants.{Compound}
use Rattle.mp_ast.specs.declared.blocks.Block.{Block}
use Rattle.mp_ast.specs.declared.blocks.Tree.{Tree, roll-Tree, map-Tree, ind-Tree}
use Rattle.mp_ast.specs.declared.blocks.Tree.TheOpen.{Tree-F}
use Rattle.mp_ast.specs.PlainTypes.{plain_sections}
use Rattle.mp_ast.specs.PlainTrees as plain
use Rattle.mp_ast.specs.PlainTrees.{PlainTypeDefinition, PlainDeclaration, PlainStatementPart, PlainBlock, PlainTree, PlainTrees, plain_type_definition}
use Rattle.mp_ast.specs.PlainTrees.{plain_declaration, plain_statement_part, plain_block, trees_of, plain_tree}
use Rattle.mp_ast.proofs.PlainStatementInverse.{statement_list, same_statements}
use Rattle.mp_ast.proofs.PlainTypeInverse.{denoter_of, section_list, denoter_told, same_sections}
use Rattle.mp_ast.proofs.PlainHeadingInverse.{heading_of, heading_told}
use Rattle.mp_ast.proofs.PlainTreeLemmas.{plain_tree-roll}

-- ---- a block's own tree

abbrev type_definition_of : PlainTypeDefinition → TypeDefinition
type_definition_of d = record { name = d.name; of = denoter_of d.of; semicolon = d.semicolon }

abbrev declaration_of : PlainDeclaration → Declaration
declaration_of d = record { heading = heading_of d.heading; semicolon = d.semicolon; body = d.body }

abbrev statement_part_of : PlainStatementPart → StatementPart
statement_part_of (plain.Compound begin statements end) = Compound begin (statement_list statements) end

abbrev type_definition_with : TypeDefinition → Denoter → TypeDefinition
type_definition_with d of = record { name = d.name; of = of; semicolon = d.semicolon }

abbrev declaration_with : Declaration → HeadingTree → Declaration
declaration_with d heading = record { heading = heading; semicolon = d.semicolon; body = d.body }

same_types : (l : List TypeDefinition) → map type_definition_of (map plain_type_definition l) ≡ l
same_types [] = refl
same_types (d ∷ l) =
    ap (λ of. type_definition_with d of ∷ map type_definition_of (map plain_type_definition l)) (denoter_told d.of) ∙ ap (λ r. d ∷ r) (same_types l)

same_declarations : (l : List Declaration) → map declaration_of (map plain_declaration l) ≡ l
same_declarations [] = refl
same_declarations (d ∷ l) =
    ap (λ h. declaration_with d h ∷ map declaration_of (map plain_declaration l)) (heading_told d.heading) ∙ ap (λ r. d ∷ r) (same_declarations l)

same_part : (p : StatementPart) → statement_part_of (plain_statement_part p) ≡ p
same_part (Compound begin statements end) = ap (λ l. Compound begin l end) (same_statements statements)

-- the parts of a block that its plain form has in another form
abbrev block_with : Block → List TypeDefinition → List (Section Denoter) → List Declaration → StatementPart → Block
block_with b types variables declarations statements =
    record {
      program = b.program;
      labels = b.labels;
      constants = b.constants;
      types = types;
      variables = variables;
      declarations = declarations;
      statements = statements;
      tokens = b.tokens;
    }

abbrev pub block_of : PlainBlock → Block
block_of b =
    record {
      program = b.program;
      labels = b.labels;
      constants = b.constants;
      types = map type_definition_of b.types;
      variables = section_list b.variables;
      declarations = map declaration_of b.declarations;
      statements = statement_part_of b.statements;
      tokens = b.tokens;
    }

pub block_told : (b : Block) → block_of (plain_block b) ≡ b
block_told b =
    ap (λ l. block_with b l (section_list (plain_sections b.variables)) (map declaration_of (map plain_declaration b.declarations))
    (statement_part_of (plain_statement_part b.statements))) (same_types b.types) ∙
    ap (λ l. block_with b b.types l (map declaration_of (map plain_declaration b.declarations)) (statement_part_of (plain_statement_part b.statements)))
    (same_sections b.variables) ∙
    ap (λ l. block_with b b.types b.variables l (statement_part_of (plain_statement_part b.statements))) (same_declarations b.declarations) ∙
    ap (block_with b b.types b.variables b.declarations) (same_part b.statements)

pub plain_block-injective : (a b : Block) → plain_block a ≡ plain_block b → a ≡ b
plain_block-injective a b e = sym (block_told a) ∙ ap block_of e ∙ block_told b

-- ---- trees, by induction

abbrev rolled : Block → List Tree → Tree
rolled own inside = roll-Tree (record { own = own; inside = inside })

abbrev mutual
  pub tree_of : PlainTree → Tree
  tree_of (plain.TreeOf own inside) = rolled (block_of own) (tree_list inside)

  pub tree_list : PlainTrees → List Tree
  tree_list plain.NoTrees = []
  tree_list (plain.Beside t more) = tree_of t ∷ tree_list more

-- a tree is made again from its plain form
abbrev pub IsTold : Tree → Type 0
IsTold t = tree_of (plain_tree t) ≡ t

-- a tree that is told
abbrev Told : Type 0
Told = (t : Tree) × IsTold t

abbrev untold : Told → Tree
untold t = t.0

trees-told : (h : Told → Tree) → ((t : Told) → h t ≡ untold t) → (l : List Told) → tree_list (trees_of plain_tree (map h l)) ≡ map h l
trees-told h each [] = refl
trees-told h each (t ∷ l) =
    subst (λ u. tree_of (plain_tree u) ∷ tree_list (trees_of plain_tree (map h l)) ≡ u ∷ map h l) (sym (each t))
    (ap (λ u. u ∷ tree_list (trees_of plain_tree (map h l))) t.1 ∙ ap (λ r. t.0 ∷ r) (trees-told h each l))

node_told : (y : Tree-F Told) → IsTold (roll-Tree (map-Tree Told Tree untold y))
node_told y =
    ap tree_of (plain_tree-roll y.own _) ∙
    ap (λ b. rolled b (tree_list (trees_of plain_tree (map untold y.inside)))) (block_told y.own) ∙
    ap (rolled y.own) (trees-told untold (λ _. refl) y.inside)

pub tree_told : (t : Tree) → IsTold t
tree_told = ind-Tree IsTold (λ x y is. subst (λ z. IsTold (roll-Tree z)) is (node_told y))

pub plain_tree-injective : (s t : Tree) → plain_tree s ≡ plain_tree t → s ≡ t
plain_tree-injective s t e = sym (tree_told s) ∙ ap tree_of e ∙ tree_told t
