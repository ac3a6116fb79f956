-- A program's tokens are those of its tree: what the rules of blocks read is told by the leaves of the block's own tree,
-- but for what stands in nested trees.
use Rattle.std.proofs.Common.{◌≡◌, ℕ, zero, suc, ◌+◌, ⊎_elim, false, List, [], ◌∷◌, ◌++◌, map, filter, Option, None, length, refl, sym, ap, ◌∙◌, subst, append_assoc, arith}
use Rattle.std.proofs.lemmas.List.{append-nil}
use Rattle.mp_ast.specs.declared.tokens.TokenKind.{TokenKind}
use Rattle.mp_ast.specs.declared.tokens.TokenKind.TheVariants as kind
use Rattle.mp_ast.specs.declared.words.WordSymbol.TheVariants as w
use Rattle.mp_ast.specs.declared.symbols.Symbol.TheVariants as s
use Rattle.mp_ast.specs.declared.headings.HeadingTree.{HeadingTree}
use Rattle.mp_ast.specs.declared.blocks.ProgramHeading.{ProgramHeading}
use Rattle.mp_ast.specs.declared.blocks.ConstantDefinition.{ConstantDefinition}
use Rattle.mp_ast.specs.declared.blocks.TypeDefinition.{TypeDefinition}
use Rattle.mp_ast.specs.declared.blocks.DeclaredBody.{DeclaredBody}
use Rattle.mp_ast.specs.declared.blocks.DeclaredBody.TheVariants as body
use Rattle.mp_ast.specs.declared.blocks.Block.{Block}
use Rattle.mp_ast.specs.declared.blocks.Tree.{Tree, roll-Tree}
use Rattle.mp_ast.specs.Rules.{Input, Rule, Many, no_more, one_more, joined, token, deeper}
use Rattle.mp_ast.specs.BlockGrammar.{Limits, Declared, part, some, label_part, constant_part, type_part, variable_part, statement_part, program_parameters}
use Rattle.mp_ast.specs.BlockGrammar.{block_with, nested_block, program}
use Rattle.mp_ast.specs.Programs.{Derives, start_of}
use Rattle.mp_ast.specs.PlainTrees.{PlainBlock, PlainTrees, plain_type_definition, plain_declaration, plain_statement_part, plain_block, trees_of, plain_tree}
use Rattle.mp_ast.specs.Blocks.{Nested, nested_after, nested_in, is_block}
use Rattle.mp_ast.specs.Leaves.{Leaf, Name, Forward, leaves_of_constant, leaves_of_names}
use Rattle.mp_ast.specs.LeavesOfBlocks.{semicolon_leaf, leaves_of_program, leaves_of_labels, leaves_of_constant_definitions, leaves_of_type_definitions}
use Rattle.mp_ast.specs.LeavesOfBlocks.{leaves_of_sections, leaves_of_declarations, leaves_of_statement_part, leaves_of_block}
use Rattle.mp_ast.proofs.PlainTreeLemmas.{plain_tree-roll}
use Rattle.mp_ast.proofs.LeavesTold.{is_name, Told, Tells, ToldBetween, told_between, still, onward, done, next, last, ends, closed, either, repeated, row, silent, mark}
use Rattle.mp_ast.proofs.LeavesTold.{opens, forward_tells, identifier_tells, number_tells, constant_tells, names_tell}
use Rattle.mp_ast.proofs.LeavesOfStatements.{sequence_behind_tells}
use Rattle.mp_ast.proofs.LeavesOfTypes.{denoter_leaves, section_leaves, sections_leaves, one_section, section_tells, denoter_tells}
use Rattle.mp_ast.proofs.LeavesOfHeadings.{heading_leaves, heading_tells}
use Rattle.mp_ast.proofs.LeavesSpelled.{Spelled, Woven, Spread, plain_spread, spread_front, spread_behind, NestedSpelled, spread_nested}

-- ---- the parts of a block

some_tells :
    {A : Type 0} {r : Rule A} {g : A → List Leaf} (h : List A → List Leaf) → h [] ≡ [] → ((x : A) (xs : List A) → g x ++ h xs ≡ h (x ∷ xs)) →
    Tells r g → Tells (some r) h
some_tells h start more c = next c (λ first. ends (repeated h start more c) (λ xs. more first xs))

part_tells : {A : Type 0} {r : Rule (List A)} (h : List A → List Leaf) → h [] ≡ [] → Tells r h → Tells (part r) h
part_tells h start c = either c (done (sym start))

labels_tell : Tells (part label_part) leaves_of_labels
labels_tell =
    part_tells leaves_of_labels refl
    (next (silent refl) (λ word. closed (row leaves_of_labels refl (λ x xs. refl) (silent refl) number_tells) (silent refl) (λ labels. refl)))

abbrev constant_leaves : ConstantDefinition → List Leaf
constant_leaves d = Name d.name ∷ leaves_of_constant d.value ++ semicolon_leaf d.semicolon ∷ []

one_constant : (d : ConstantDefinition) (more : List ConstantDefinition) → constant_leaves d ++ leaves_of_constant_definitions more ≡ leaves_of_constant_definitions (d ∷ more)
one_constant d more = ap (λ l. Name d.name ∷ l) (append_assoc (leaves_of_constant d.value) (semicolon_leaf d.semicolon ∷ []) (leaves_of_constant_definitions more))

constants_tell : Tells (part constant_part) leaves_of_constant_definitions
constants_tell =
    part_tells leaves_of_constant_definitions refl
    (next (silent refl) (λ word. last
    (some_tells {g = constant_leaves} leaves_of_constant_definitions refl one_constant
    (next identifier_tells (λ name. next (silent refl) (λ equal. next constant_tells (λ value. ends (mark refl) (λ semicolon. refl))))))
    (λ xs. refl)))

abbrev type_leaves : TypeDefinition → List Leaf
type_leaves d = Name d.name ∷ denoter_leaves d.of ++ semicolon_leaf d.semicolon ∷ []

abbrev types_leaves : List TypeDefinition → List Leaf
types_leaves ds = leaves_of_type_definitions (map plain_type_definition ds)

one_type : (d : TypeDefinition) (more : List TypeDefinition) → type_leaves d ++ types_leaves more ≡ types_leaves (d ∷ more)
one_type d more = ap (λ l. Name d.name ∷ l) (append_assoc (denoter_leaves d.of) (semicolon_leaf d.semicolon ∷ []) (types_leaves more))

module _ (openers : ℕ) where
  types_tell : Tells (part (type_part openers)) types_leaves
  types_tell =
      part_tells types_leaves refl
      (next (silent refl) (λ word. last
      (some_tells {g = type_leaves} types_leaves refl one_type
      (next identifier_tells (λ name. next (silent refl) (λ equal. next (denoter_tells openers) (λ of. ends (mark refl) (λ semicolon. refl))))))
      (λ xs. refl)))

  variables_tell : Tells (part (variable_part openers)) sections_leaves
  variables_tell =
      part_tells sections_leaves refl
      (next (silent refl) (λ word. last
      (some_tells {g = section_leaves} sections_leaves refl one_section (closed (section_tells (denoter_tells openers)) (silent refl) (λ found. refl)))
      (λ xs. refl)))

  statement_part_tells : Tells (statement_part openers) (λ p. leaves_of_statement_part (plain_statement_part p))
  statement_part_tells = next (opens openers (mark refl)) (λ at. next (sequence_behind_tells openers) (λ found. ends (mark refl) (λ end. refl)))

parameters_tell : (limits : Limits) → Tells (part (program_parameters limits)) leaves_of_names
parameters_tell limits = part_tells leaves_of_names refl (next (silent refl) (λ at. closed (names_tell (silent refl)) (silent refl) (λ names. refl)))

-- ---- single tokens

semicolon_told : (i : Input) (at : ℕ) (j : Input) → token (kind.Symbol s.Semicolon) i at j → ToldBetween i (semicolon_leaf at ∷ []) j
semicolon_told i at j h =
    let c : Tells (token (kind.Symbol s.Semicolon)) (λ at. semicolon_leaf at ∷ []) = mark refl in told_between c i at j h

silent_told : (k : TokenKind) → is_name k ≡ false → (i : Input) (at : ℕ) (j : Input) → token k i at j → ToldBetween i [] j
silent_told k e i at j h = let c : Tells (token k) (λ at. []) = silent e in told_between c i at j h

-- ---- declarations

-- what follows a heading and its `;`
abbrev BodyToldBetween : Input → DeclaredBody → List Tree → Input → Type 0
BodyToldBetween i body.Block [] j = ⊥
BodyToldBetween i body.Block (t ∷ []) j = (k : Input) × NestedSpelled i (plain_tree t) k × ToldBetween k [] j
BodyToldBetween i body.Block (t ∷ (u ∷ more)) j = ⊥
BodyToldBetween i (body.Forward at) [] j = ToldBetween i (Forward at ∷ []) j
BodyToldBetween i (body.Forward at) (t ∷ more) j = ⊥

abbrev heading_with_semicolon : HeadingTree → ℕ → List Leaf
heading_with_semicolon heading semicolon = heading_leaves heading ++ semicolon_leaf semicolon ∷ []

record DeclarationReads (i : Input) (d : Declared) (j : Input) : Type 0 where
  pub between : Input
  pub heading : ToldBetween i (heading_with_semicolon d.declaration.heading d.declaration.semicolon) between
  pub at : between.at ≡ d.declaration.semicolon + 1
  pub body : BodyToldBetween between d.declaration.body d.block j

abbrev declarations_leaves : List Declared → List Leaf
declarations_leaves ds = leaves_of_declarations (map plain_declaration (map (λ d. d.declaration) ds))

-- the nested blocks and the trees of these declarations, with what they read
abbrev AreSpread : List (List ℕ) → Input → List Declared → Input → Type 0
AreSpread earlier i ds j =
    Spread i (declarations_leaves ds)
    (nested_after earlier (filter (λ d. is_block d.body) (map plain_declaration (map (λ d. d.declaration) ds))))
    (trees_of plain_tree (joined (map (λ d. d.block) ds))) j

heading_apart :
    (heading : HeadingTree) (semicolon : ℕ) (rest : List Leaf) →
    heading_with_semicolon heading semicolon ++ rest ≡ heading_leaves heading ++ (semicolon_leaf semicolon ∷ rest)
heading_apart heading semicolon rest = append_assoc (heading_leaves heading) (semicolon_leaf semicolon ∷ []) rest

told_as : {i j : Input} {xs ys : List Leaf} {nested : List Nested} {trees : PlainTrees} → xs ≡ ys → Spread i xs nested trees j → Spread i ys nested trees j
told_as {i} {j} {xs} {ys} {nested} {trees} e r = subst (λ l. Spread i l nested trees j) e r

one_spread :
    (heading : HeadingTree) (semicolon : ℕ) (b : DeclaredBody) (block : List Tree) (more : List Declared) (i m k j : Input) →
    ToldBetween i (heading_with_semicolon heading semicolon) m → m.at ≡ semicolon + 1 → BodyToldBetween m b block k →
    ((earlier : List (List ℕ)) → AreSpread earlier k more j) → (earlier : List (List ℕ)) →
    AreSpread earlier i (record { declaration = record { heading = heading; semicolon = semicolon; body = b }; block = block } ∷ more) j
one_spread heading semicolon body.Block [] more i m k j a e b rest earlier = elim b [ ]
one_spread heading semicolon body.Block (t ∷ (u ∷ us)) more i m k j a e b rest earlier = elim b [ ]
one_spread heading semicolon (body.Forward at) (t ∷ us) more i m k j a e b rest earlier = elim b [ ]
one_spread heading semicolon body.Block (t ∷ []) more i m k j a e b rest earlier =
    let inner = rest (heading.name.name ∷ earlier) in
    let behind = spread_front b.0 k j [] (declarations_leaves more) _ _ b.2 inner in
    told_as (heading_apart heading semicolon (declarations_leaves more))
    (spread_nested i m b.0 j (heading_with_semicolon heading semicolon) (declarations_leaves more) _ (plain_tree t) _ _ a e b.1 behind)
one_spread heading semicolon (body.Forward at) [] more i m k j a e b rest earlier =
    let behind = spread_front m k j (Forward at ∷ []) (declarations_leaves more) _ _ b (rest earlier) in
    told_as (heading_apart heading semicolon (Forward at ∷ declarations_leaves more))
    (spread_front i m j (heading_with_semicolon heading semicolon) (Forward at ∷ declarations_leaves more) _ _ a behind)

declarations_spread :
    {r : Rule Declared} → ((i : Input) (d : Declared) (j : Input) → r i d j → DeclarationReads i d j) →
    (i j : Input) (ds : List Declared) → Many r j ds i → (earlier : List (List ℕ)) → AreSpread earlier i ds j
declarations_spread each i j [] no_more earlier = plain_spread j j [] (still j)
declarations_spread each i j (d ∷ ds) (one_more x xs k m h t) earlier =
    let here = each i d m h in
    one_spread d.declaration.heading d.declaration.semicolon d.declaration.body d.block ds i here.between m j here.heading here.at here.body
    (declarations_spread each m j ds t) earlier

deeper_reads :
    {A : Type 0} (r : Rule A) (P : Input → A → Input → Type 0) → ((i : Input) (x : A) (j : Input) → r i x j → P i x j) →
    (depth : ℕ) (i : Input) (x : A) (j : Input) → deeper depth r i x j → P i x j
deeper_reads r P each zero i x j h = elim h [ ]
deeper_reads r P each (suc depth) i x j h = each i x j h

deeper_declarations_spread :
    (r : Rule Declared) (depth : ℕ) {i j : Input} {ds : List Declared} → Many (deeper depth r) j ds i →
    ((i : Input) (d : Declared) (j : Input) → r i d j → DeclarationReads i d j) → (earlier : List (List ℕ)) → AreSpread earlier i ds j
deeper_declarations_spread r depth {i} {j} {ds} h each = declarations_spread (deeper_reads r DeclarationReads each depth) i j ds h

-- ---- blocks

-- the leaves of a block's own tree, but those of a program's heading
abbrev parts_leaves : PlainBlock → List Leaf
parts_leaves b =
    leaves_of_labels b.labels ++
    (leaves_of_constant_definitions b.constants ++
    (leaves_of_type_definitions b.types ++
    (leaves_of_sections b.variables ++ (leaves_of_declarations b.declarations ++ leaves_of_statement_part b.statements))))

record BlockReads (program : Option ProgramHeading) (i : Input) (b : Block × List Tree) (j : Input) : Type 0 where
  pub named : b.0.program ≡ program
  pub tokens : j.at ≡ b.0.tokens
  pub spread : Spread i (parts_leaves (plain_block b.0)) (nested_in (plain_block b.0)) (trees_of plain_tree b.1) j

module _ (limits : Limits) (nested : Rule Tree) (spelled : (i : Input) (x : Tree) (j : Input) → nested i x j → NestedSpelled i (plain_tree x) j) where
  body_to : (i k j : Input) (x y : DeclaredBody × List Tree) → x ≡ y → BodyToldBetween i x.0 x.1 j → BodyToldBetween i y.0 y.1 j
  body_to i k j x y e b = subst (λ z. BodyToldBetween i z.0 z.1 j) e b

  declaration_reads :
      (i m : Input) (heading : HeadingTree) (semicolon : ℕ) (x : DeclaredBody × List Tree) (k j : Input) (d : Declared) →
      ToldBetween i (heading_leaves heading) m → ToldBetween m (semicolon_leaf semicolon ∷ []) k → k.at ≡ semicolon + 1 → BodyToldBetween k x.0 x.1 j →
      record { declaration = record { heading = heading; semicolon = semicolon; body = x.0 }; block = x.1 } ≡ d → DeclarationReads i d j
  declaration_reads i m heading semicolon x k j d a s t b e =
      subst (λ d. DeclarationReads i d j) e
      (record { between = k; heading = onward i m k (heading_leaves heading) (semicolon_leaf semicolon ∷ []) a s; at = t; body = b })

  block_done :
      (program : Option ProgramHeading) {i j k : Input} {b c : Block × List Tree} → b ≡ c → j ≡ k → BlockReads program i b j → BlockReads program i c k
  block_done program {i} {j} {k} {b} {c} e f r = subst (λ d. BlockReads program i d k) e (subst (BlockReads program i b) f r)

  block_with_reads :
      (program : Option ProgramHeading) (depth : ℕ) (i : Input) (b : Block × List Tree) (j : Input) →
      block_with limits program depth nested i b j → BlockReads program i b j
  block_with_reads program depth i b j h =
      let h1 = h.3 in
      let h2 = h1.3 in
      let h3 = h2.3 in
      let h4 = h3.3 in
      let h5 = h4.3 in
      let h6 = h5.3 in
      let labels = told_between labels_tell i h.0 h.1 h.2 in
      let constants = told_between constants_tell h.1 h1.0 h1.1 h1.2 in
      let types = told_between (types_tell limits.openers) h1.1 h2.0 h2.1 h2.2 in
      let variables = told_between (variables_tell limits.openers) h2.1 h3.0 h3.1 h3.2 in
      let declared = deeper_declarations_spread _ depth h4.2 (λ i d j h.
      let g = h.3.3.3 in
      let heading = told_between (heading_tells limits.openers) h.1 h.3.0 h.3.1 h.3.2 in
      let from = subst (λ m. ToldBetween m (heading_leaves h.3.0) h.3.1) {x = h.1} h.2.1 heading in
      let semicolon = semicolon_told h.3.1 h.3.3.0 h.3.3.1 h.3.3.2 in
      let next_at : h.3.3.1.at ≡ h.3.3.0 + 1 = h.3.3.2.2 ∙ ap (λ n. n + 1) h.3.3.2.1 in
      let end = subst (ToldBetween g.1 []) g.3.3.1 (silent_told (kind.Symbol s.Semicolon) refl g.1 g.3.0 g.3.1 g.3.2) in
      declaration_reads i h.3.1 h.3.0 h.3.3.0 g.0 h.3.3.1 j d
      (record { read = from.read; rest = from.rest; at = from.at; told = from.told }) semicolon next_at
      (⊎_elim
      (λ f. body_to h.3.3.1 g.1 j (body.Forward f.0, []) g.0 f.3.0
      (onward h.3.3.1 f.1 j (Forward f.0 ∷ []) [] (told_between forward_tells h.3.3.1 f.0 f.1 f.2) (subst (λ n. ToldBetween n [] j) (sym f.3.1) end)))
      (λ f. body_to h.3.3.1 g.1 j (body.Block, f.0 ∷ []) g.0 f.3.0
      (f.1, spelled h.3.3.1 f.0 f.1 f.2, subst (λ n. ToldBetween n [] j) (sym f.3.1) end))
      g.2)
      g.3.3.0) in
      let statements = told_between (statement_part_tells limits.openers) h4.1 h5.0 h5.1 h5.2 in
      block_done program h6.3.0 (h6.2.1 ∙ h6.3.1)
      (record {
        named = refl;
        tokens = h6.2.0;
        spread =
            spread_front i h.1 h5.1 (leaves_of_labels h.0) _ _ _ labels
            (spread_front h.1 h1.1 h5.1 (leaves_of_constant_definitions h1.0) _ _ _ constants
            (spread_front h1.1 h2.1 h5.1 (types_leaves h2.0) _ _ _ types
            (spread_front h2.1 h3.1 h5.1 (sections_leaves h3.0) _ _ _ variables
            (spread_behind h3.1 h4.1 h5.1 (declarations_leaves h4.0) (leaves_of_statement_part (plain_statement_part h5.0)) _ _ (declared []) statements))));
      })

-- ---- nested blocks and programs

-- a block whose tokens are counted from 0, as a tree
tree_spelled :
    (i : Input) (own : Block) (inside : List Tree) (j : Input) (x : Tree) → i.at ≡ 0 →
    Spread i (leaves_of_block (plain_block own)) (nested_in (plain_block own)) (trees_of plain_tree inside) j → j.at ≡ own.tokens →
    roll-Tree (record { own = own; inside = inside }) ≡ x →
    (read : List TokenKind) × (i.rest ≡ read ++ j.rest) × Spelled (plain_tree x) read
tree_spelled i own inside j x from r last e =
    let same = sym (plain_tree-roll own inside) ∙ ap plain_tree e in
    let at : j.at ≡ i.at + length r.own = r.at in
    let tokens : length r.own ≡ own.tokens = omega (arith, from, at, last) in
    let told = subst (λ n. Told n r.own (leaves_of_block (plain_block own))) from r.told in
    let woven = subst (λ n. Woven n r.own (nested_in (plain_block own)) (trees_of plain_tree inside) r.read) from r.woven in
    (r.read, r.rest, subst (λ t. Spelled t r.read) same (r.own, tokens, told, woven))

nested_spelled : (limits : Limits) (depth : ℕ) (i : Input) (x : Tree) (j : Input) → nested_block limits depth i x j → NestedSpelled i (plain_tree x) j
unfolding nested_block
nested_spelled limits zero i x j h = elim h [ ]
nested_spelled limits (suc depth) i x j h =
    let b = h.1 in
    let r = block_with_reads limits (nested_block limits depth) (nested_spelled limits depth) None depth (record i { at = 0 }) b.0 b.1 b.2 in
    let leaves = ap (λ p. leaves_of_program p ++ parts_leaves (plain_block b.0.0)) (sym r.named) in
    let own = told_as {nested = nested_in (plain_block b.0.0)} {trees = trees_of plain_tree b.0.1} leaves r.spread in
    let t = tree_spelled (record i { at = 0 }) b.0.0 b.0.1 b.1 x refl own r.tokens b.3.0 in
    let rest : b.1.rest ≡ j.rest = ap (λ k. k.rest) b.3.1 ∙ sym (ap (λ k. k.rest) h.2) in
    record { read = t.0; rest = t.1 ∙ ap (λ l. t.0 ++ l) rest; at = ap (λ k. k.at) h.2; spelled = t.2 }

program_spelled :
    (limits : Limits) (i : Input) (x : Tree) (j : Input) → i.at ≡ 0 → program limits i x j →
    (read : List TokenKind) × (i.rest ≡ read ++ j.rest) × Spelled (plain_tree x) read
program_spelled limits i x j from h =
    let h1 = h.3 in
    let h2 = h1.3 in
    let h3 = h2.3 in
    let h4 = h3.3 in
    let h5 = h4.3 in
    let h6 = h5.3 in
    let word = silent_told (kind.Word w.Program) refl i h.0 h.1 h.2 in
    let name = told_between identifier_tells h.1 h1.0 h1.1 h1.2 in
    let parameters = told_between (parameters_tell limits) h1.1 h2.0 h2.1 h2.2 in
    let semicolon = silent_told (kind.Symbol s.Semicolon) refl h2.1 h3.0 h3.1 h3.2 in
    let names = leaves_of_names h2.0 in
    let heading =
    subst (λ l. ToldBetween i (Name h1.0 ∷ l) h3.1) (append-nil names)
    (onward i h.1 h3.1 [] (Name h1.0 ∷ (names ++ [])) word
    (onward h.1 h1.1 h3.1 (Name h1.0 ∷ []) (names ++ []) name (onward h1.1 h2.1 h3.1 names [] parameters semicolon))) in
    let block = block_with_reads limits (nested_block limits limits.depth) (nested_spelled limits limits.depth) _ limits.depth h3.1 h4.0 h4.1 h4.2 in
    let b = h4.0.0 in
    let end : h5.1 ≡ j = h6.2.1 ∙ h6.3.1 in
    let dot = subst (ToldBetween h4.1 []) end (silent_told (kind.Symbol s.Dot) refl h4.1 h5.0 h5.1 h5.2) in
    let last : j.at ≡ h6.0 = sym (ap (λ k. k.at) end) ∙ h6.2.0 in
    let headed = subst (λ p. ToldBetween i (leaves_of_program p) h3.1) (sym block.named) heading in
    let parts = parts_leaves (plain_block b) in
    let front = spread_front i h3.1 h4.1 (leaves_of_program b.program) parts (nested_in (plain_block b)) (trees_of plain_tree h4.0.1) headed block.spread in
    let all = spread_behind i h4.1 j (leaves_of_program b.program ++ parts) [] (nested_in (plain_block b)) (trees_of plain_tree h4.0.1) front dot in
    let whole = subst (λ l. Spread i l (nested_in (plain_block b)) (trees_of plain_tree h4.0.1) j) (append-nil (leaves_of_program b.program ++ parts)) all in
    tree_spelled i (record b { tokens = h6.0 }) h4.0.1 j x from whole last h6.3.0

pub derived_spelled : (limits : Limits) (kinds : List TokenKind) (tree : Tree) → Derives limits kinds tree → Spelled (plain_tree tree) kinds
derived_spelled limits kinds tree h =
    let r = program_spelled limits (start_of kinds) tree h.0 refl h.1 in
    let all : kinds ≡ r.0 = r.1 ∙ ap (λ l. r.0 ++ l) h.2 ∙ append-nil r.0 in
    subst (Spelled (plain_tree tree)) (sym all) r.2
