-- A program's tree is whole and has as many tokens as its text, and as many declarations as the grammar counts. A block's
-- own tokens and those of the blocks in it are counted together: what a rule reads in a block, it either goes on by, or it
-- stands in a nested tree; a declaration that it begins is one of the block's, or stands in a nested tree.
use Rattle.std.proofs.Common.{◌≡◌, ℕ, zero, suc, ◌+◌, ◌≤◌, ◌<◌, ⊎_elim, List, [], ◌∷◌, ◌++◌, map, max, Option, None, length, refl, sym, ap, ◌∙◌, subst, arith, filter}
use Rattle.std.proofs.lemmas.List.{length-map}
use Rattle.mp_base.specs.declared.limits.TheConstants.{TEXT_LIMIT, DECLARATION_LIMIT}
use Rattle.mp_ast.specs.declared.tokens.TokenKind.{TokenKind}
use Rattle.mp_ast.specs.declared.headings.HeadingTree.{HeadingTree}
use Rattle.mp_ast.specs.declared.blocks.ProgramHeading.{ProgramHeading}
use Rattle.mp_ast.specs.declared.blocks.DeclaredBody.{DeclaredBody}
use Rattle.mp_ast.specs.declared.blocks.DeclaredBody.TheVariants as body
use Rattle.mp_ast.specs.declared.blocks.Block.{Block}
use Rattle.mp_ast.specs.declared.blocks.Tree.{Tree, roll-Tree}
use Rattle.mp_ast.specs.Rules.{Input, Rule, Many, no_more, one_more, joined, deeper}
use Rattle.mp_ast.specs.BlockGrammar.{Limits, Declared, block_with, nested_block, program}
use Rattle.mp_ast.specs.Programs.{Derives, start_of}
use Rattle.mp_ast.specs.PlainTrees.{plain_declaration, plain_block, trees_of, plain_tree}
use Rattle.mp_ast.specs.Blocks.{nested_after, nested_in, is_block, tokens_of, tokens_of_all}
use Rattle.mp_ast.specs.WholeTrees.{IsWhole, AreWhole}
use Rattle.mp_ast.specs.SharedTrees.{IsOfAProgram, node, declarations_of, declarations_of_all}
use Rattle.mp_ast.proofs.PlainTreeLemmas.{plain_tree-roll}
use Rattle.mp_ast.proofs.Counting.{Counted, Counts, stands, nothing, next, either, repeated, one, row, opens, onward, identifier_counts, number_counts, constant_counts}
use Rattle.mp_ast.proofs.CountingStatements.{sequence_behind_counts}
use Rattle.mp_ast.proofs.CountingTypes.{denoter_counts, section_counts}
use Rattle.mp_ast.proofs.CountingHeadings.{heading_counts}

-- the tokens of these trees
abbrev count : List Tree → ℕ
count trees = tokens_of_all (trees_of plain_tree trees)

count-append : (a b : List Tree) → count (a ++ b) ≡ count a + count b
count-append [] b = omega arith
count-append (t ∷ a) b = let rest = count-append a b in omega (arith, rest)

-- the declarations in these trees
abbrev count_declarations : List Tree → ℕ
count_declarations trees = declarations_of_all (trees_of plain_tree trees)

count_declarations-append : (a b : List Tree) → count_declarations (a ++ b) ≡ count_declarations a + count_declarations b
count_declarations-append [] b = omega arith
count_declarations-append (t ∷ a) b = let rest = count_declarations-append a b in omega (arith, rest)

-- So many declarations begin, and where one does, no more than `most` have begun.
record Begins (most : ℕ) (i : Input) (new : ℕ) (j : Input) : Type 0 where
  pub declared : j.declared ≡ i.declared + new
  pub few : j.declared ≤ max i.declared most

no_more_begin : (most : ℕ) (i j : Input) → Counted i j → Begins most i 0 j
no_more_begin most i j c = let d = c.declared in record { declared = omega (arith, d); few = omega (arith, d) }

begin_then : (most a b : ℕ) (i m j : Input) → Begins most i a m → Begins most m b j → Begins most i (a + b) j
begin_then most a b i m j f g =
    record { declared = omega (arith, f.declared, g.declared); few = omega (arith, f.few, g.few) }

-- what a nested block reads
record NestedReads (most : ℕ) (i : Input) (x : Tree) (j : Input) : Type 0 where
  pub at : j.at ≡ i.at
  pub tokens : length j.rest + tokens_of (plain_tree x) ≡ length i.rest
  pub whole : IsWhole (plain_tree x)
  pub begins : Begins most i (declarations_of (plain_tree x)) j

-- ---- declarations

-- a declaration has a tree exactly where it has a block
abbrev BodyFits : DeclaredBody → List Tree → Type 0
BodyFits body.Block [] = ⊥
BodyFits body.Block (t ∷ []) = IsWhole (plain_tree t)
BodyFits body.Block (t ∷ (u ∷ more)) = ⊥
BodyFits (body.Forward at) [] = Unit {0}
BodyFits (body.Forward at) (t ∷ more) = ⊥

record BodyReads (most : ℕ) (i : Input) (x : DeclaredBody × List Tree) (j : Input) : Type 0 where
  pub at : i.at ≤ j.at
  pub tokens : j.at + length j.rest + count x.1 ≡ i.at + length i.rest
  pub fits : BodyFits x.0 x.1
  pub begins : Begins most i (count_declarations x.1) j

record DeclarationReads (most : ℕ) (i : Input) (d : Declared) (j : Input) : Type 0 where
  pub before : i.at ≤ d.declaration.semicolon
  pub behind : d.declaration.semicolon + 1 ≤ j.at
  pub tokens : j.at + length j.rest + count d.block ≡ i.at + length i.rest
  pub fits : BodyFits d.declaration.body d.block
  pub begins : Begins most i (1 + count_declarations d.block) j

-- the nested blocks and the trees of these declarations
abbrev AreDeclared : List (List ℕ) → ℕ → ℕ → List Declared → Type 0
AreDeclared earlier tokens low ds =
    AreWhole tokens low
    (nested_after earlier (filter (λ d. is_block d.body) (map plain_declaration (map (λ d. d.declaration) ds))))
    (trees_of plain_tree (joined (map (λ d. d.block) ds)))

record DeclarationsRead (most : ℕ) (i : Input) (ds : List Declared) (j : Input) : Type 0 where
  pub at : i.at ≤ j.at
  pub tokens : j.at + length j.rest + count (joined (map (λ d. d.block) ds)) ≡ i.at + length i.rest
  pub whole : (earlier : List (List ℕ)) (tokens low : ℕ) → low ≤ i.at → j.at ≤ tokens → AreDeclared earlier tokens low ds
  pub begins : Begins most i (length ds + count_declarations (joined (map (λ d. d.block) ds))) j

one_declared :
    (heading : HeadingTree) (semicolon : ℕ) (b : DeclaredBody) (block : List Tree) (more : List Declared) →
    BodyFits b block →
    (earlier : List (List ℕ)) (tokens low next : ℕ) → low ≤ semicolon → semicolon + 1 ≤ next →
    ((earlier : List (List ℕ)) (low : ℕ) → low ≤ next → AreDeclared earlier tokens low more) →
    AreDeclared earlier tokens low (record { declaration = record { heading = heading; semicolon = semicolon; body = b }; block = block } ∷ more)
one_declared heading semicolon body.Block (t ∷ []) more fits earlier tokens low next before behind rest =
    (before, fits, rest (heading.name.name ∷ earlier) (semicolon + 1) behind)
one_declared heading semicolon body.Block [] more fits earlier tokens low next before behind rest = elim fits [ ]
one_declared heading semicolon body.Block (t ∷ (u ∷ us)) more fits earlier tokens low next before behind rest = elim fits [ ]
one_declared heading semicolon (body.Forward at) [] more fits earlier tokens low next before behind rest = rest earlier low (omega (arith, before, behind))
one_declared heading semicolon (body.Forward at) (t ∷ us) more fits earlier tokens low next before behind rest = elim fits [ ]

declarations_read :
    (most : ℕ) {r : Rule Declared} → ((i : Input) (d : Declared) (j : Input) → r i d j → DeclarationReads most i d j) →
    (i j : Input) (ds : List Declared) → Many r j ds i → DeclarationsRead most i ds j
declarations_read most each i j [] no_more =
    record {
      at = omega arith;
      tokens = omega arith;
      whole = λ earlier tokens low a b. omega (arith, a, b);
      begins = record { declared = omega arith; few = omega arith };
    }
declarations_read most each i j (d ∷ ds) (one_more x xs k m h t) =
    let here = each i d m h in
    let rest = declarations_read most each m j ds t in
    let both = count-append d.block (joined (map (λ d. d.block) ds)) in
    let both_begin = count_declarations-append d.block (joined (map (λ d. d.block) ds)) in
    let begins = begin_then most _ _ i m j here.begins rest.begins in
    record {
      at = omega (arith, here.before, here.behind, rest.at);
      tokens = omega (arith, here.tokens, rest.tokens, both);
      whole = λ earlier tokens low a b.
          one_declared d.declaration.heading d.declaration.semicolon d.declaration.body d.block ds here.fits earlier tokens low m.at
          (omega (arith, a, here.before)) here.behind (λ earlier low c. rest.whole earlier tokens low c b);
      begins = record { declared = omega (arith, begins.declared, both_begin); few = begins.few };
    }

deeper_reads :
    {A : Type 0} (r : Rule A) (P : Input → A → Input → Type 0) → ((i : Input) (x : A) (j : Input) → r i x j → P i x j) →
    (depth : ℕ) (i : Input) (x : A) (j : Input) → deeper depth r i x j → P i x j
deeper_reads r P each zero i x j h = elim h [ ]
deeper_reads r P each (suc depth) i x j h = each i x j h

deeper_declarations_read :
    (most : ℕ) (r : Rule Declared) (depth : ℕ) {i j : Input} {ds : List Declared} → Many (deeper depth r) j ds i →
    ((i : Input) (d : Declared) (j : Input) → r i d j → DeclarationReads most i d j) → DeclarationsRead most i ds j
deeper_declarations_read most r depth {i} {j} {ds} h each = declarations_read most (deeper_reads r (DeclarationReads most) each depth) i j ds h

counted_by : {A : Type 0} {r : Rule A} → Counts r → {i : Input} {x : A} {j : Input} → r i x j → Counted i j
counted_by c {i} {x} {j} h = c.counted i x j h

-- ---- blocks

-- What a block reads. Its own tokens may be more than are read: those of the program's block are.
record BlockReads (most : ℕ) (i : Input) (b : Block × List Tree) (j : Input) : Type 0 where
  pub own : j.at ≡ b.0.tokens
  pub tokens : j.at + length j.rest + count b.1 ≡ i.at + length i.rest
  pub whole : (tokens : ℕ) → j.at ≤ tokens → AreWhole tokens 0 (nested_in (plain_block b.0)) (trees_of plain_tree b.1)
  pub begins : Begins most i (length b.0.declarations + count_declarations b.1) j

-- the declarations of a block, the only part of it that begins any
block_begins :
    (most : ℕ) (i m n j : Input) (ds : List Declared) → m.declared ≡ i.declared →
    Begins most m (length ds + count_declarations (joined (map (λ d. d.block) ds))) n → j.declared ≡ n.declared →
    Begins most i (length (map (λ d. d.declaration) ds) + count_declarations (joined (map (λ d. d.block) ds))) j
block_begins most i m n j ds before begins behind =
    let e = length-map ds (λ d. d.declaration) in
    record { declared = omega (arith, before, begins.declared, behind, e); few = omega (arith, before, begins.few, behind) }

module _ (limits : Limits) (nested : Rule Tree) (reads : (i : Input) (x : Tree) (j : Input) → nested i x j → NestedReads limits.declarations i x j) where
  forward_reads : (i : Input) (at : ℕ) (x : DeclaredBody × List Tree) (j : Input) → Counted i j → (body.Forward at, []) ≡ x → BodyReads limits.declarations i x j
  forward_reads i at x j c e =
      subst (λ y. BodyReads limits.declarations i y j) e
      (record { at = c.at; tokens = let t = c.tokens in omega (arith, t); fits = tt; begins = no_more_begin limits.declarations i j c })

  block_reads : (i : Input) (t : Tree) (x : DeclaredBody × List Tree) (j : Input) → NestedReads limits.declarations i t j → (body.Block, t ∷ []) ≡ x →
      BodyReads limits.declarations i x j
  block_reads i t x j n e =
      let begins = n.begins in
      subst (λ y. BodyReads limits.declarations i y j) e
      (record {
        at = omega (arith, n.at);
        tokens = omega (arith, n.at, n.tokens);
        fits = n.whole;
        begins = record { declared = omega (arith, begins.declared); few = begins.few };
      })

  declaration_reads :
      (i m : Input) (heading : HeadingTree) (semicolon : ℕ) (x : DeclaredBody × List Tree) (k n j : Input) (d : Declared) →
      i.declared < limits.declarations → Counted (record i { declared = i.declared + 1 }) m → m.at ≡ semicolon → Counted m k → m.at + 1 ≡ k.at →
      BodyReads limits.declarations k x n → Counted n j →
      record { declaration = record { heading = heading; semicolon = semicolon; body = x.0 }; block = x.1 } ≡ d → DeclarationReads limits.declarations i d j
  declaration_reads i m heading semicolon x k n j d room a s b t r c e =
      let begins = r.begins in
      subst (λ d. DeclarationReads limits.declarations i d j) e
      (record {
        before = omega (arith, a.at, s);
        behind = omega (arith, s, t, r.at, c.at);
        tokens = omega (arith, a.tokens, b.tokens, r.tokens, c.tokens);
        fits = r.fits;
        begins = record {
          declared = omega (arith, a.declared, b.declared, begins.declared, c.declared);
          few = omega (arith, room, a.declared, b.declared, begins.few, c.declared);
        };
      })

  block_done : {i j k : Input} {b c : Block × List Tree} → b ≡ c → j ≡ k → BlockReads limits.declarations i b j → BlockReads limits.declarations i c k
  block_done {i} {j} {k} {b} {c} e f r =
      subst (λ d. BlockReads limits.declarations i d k) e (subst (BlockReads limits.declarations i b) f r)

  block_with_reads :
      (program : Option ProgramHeading) (depth : ℕ) (i : Input) (b : Block × List Tree) (j : Input) →
      block_with limits program depth nested i b j → BlockReads limits.declarations i b j
  block_with_reads program depth i b j h =
      let h1 = h.3 in
      let h2 = h1.3 in
      let h3 = h2.3 in
      let h4 = h3.3 in
      let h5 = h4.3 in
      let h6 = h5.3 in
      let labels = counted_by (either (next one (λ word. next (row one number_counts) (λ labels. next one (λ end. nothing)))) nothing) {j = h.1} h.2 in
      let constant = next identifier_counts (λ name. next one (λ equal. next constant_counts (λ value. next one (λ end. nothing)))) in
      let constants = counted_by (either (next one (λ word. next constant (λ first. next (repeated constant) (λ more. nothing)))) nothing) {j = h1.1} h1.2 in
      let definition = next identifier_counts (λ name. next one (λ equal. next (denoter_counts limits.openers) (λ of. next one (λ end. nothing)))) in
      let types = counted_by (either (next one (λ word. next definition (λ first. next (repeated definition) (λ more. nothing)))) nothing) {j = h2.1} h2.2 in
      let variable = next (section_counts (denoter_counts limits.openers)) (λ found. next one (λ end. nothing)) in
      let variables = counted_by (either (next one (λ word. next variable (λ first. next (repeated variable) (λ more. nothing)))) nothing) {j = h3.1} h3.2 in
      let declared = deeper_declarations_read limits.declarations _ depth h4.2 (λ i d j h.
      let g = h.3.3.3 in
      let heading = counted_by (heading_counts limits.openers) h.3.2 in
      let from = subst (λ m. Counted m h.3.1) {x = h.1} h.2.1 heading in
      declaration_reads i h.3.1 h.3.0 h.3.3.0 g.0 h.3.3.1 g.1 j d
      h.2.0 from h.3.3.2.1 (counted_by one {j = h.3.3.1} h.3.3.2) (sym h.3.3.2.2)
      (⊎_elim
      (λ f. forward_reads h.3.3.1 f.0 g.0 g.1 (onward h.3.3.1 f.1 g.1 (counted_by one {j = f.1} f.2) (stands f.1 g.1 f.3.1)) f.3.0)
      (λ f. block_reads h.3.3.1 f.0 g.0 g.1 (subst (NestedReads limits.declarations h.3.3.1 f.0) {x = f.1} f.3.1 (reads h.3.3.1 f.0 f.1 f.2)) f.3.0)
      g.2)
      (onward g.1 g.3.1 j (counted_by one {j = g.3.1} g.3.2) (stands g.3.1 j g.3.3.1)) g.3.3.0) in
      let statements = counted_by (next (opens limits.openers _) (λ at. next (sequence_behind_counts limits.openers) (λ found. next one (λ end. nothing)))) {j = h5.1} h5.2 in
      block_done h6.3.0 (h6.2.1 ∙ h6.3.1)
      (record {
        own = h6.2.0;
        tokens = omega (arith, labels.tokens, constants.tokens, types.tokens, variables.tokens, declared.tokens, statements.tokens);
        whole = λ tokens a. declared.whole [] tokens 0 (omega arith) (omega (arith, a, statements.at));
        begins = block_begins limits.declarations i h3.1 h4.1 h5.1 h4.0
            (variables.declared ∙ types.declared ∙ constants.declared ∙ labels.declared) declared.begins statements.declared;
      })

-- ---- nested blocks and programs

-- a block whose tokens are counted from 0, as a tree
whole_tree :
    (most : ℕ) (i : Input) (own : Block) (inside : List Tree) (j : Input) (x : Tree) → i.at ≡ 0 → BlockReads most i (own, inside) j →
    roll-Tree (record { own = own; inside = inside }) ≡ x →
    (length j.rest + tokens_of (plain_tree x) ≡ length i.rest) × IsWhole (plain_tree x) × Begins most i (declarations_of (plain_tree x)) j
whole_tree most i own inside j x from r e =
    let same = sym (plain_tree-roll own inside) ∙ ap plain_tree e in
    let last : j.at ≡ own.tokens = r.own in
    let tokens = r.tokens in
    let begins = r.begins in
    let number = length-map own.declarations plain_declaration in
    subst (λ t. (length j.rest + tokens_of t ≡ length i.rest) × IsWhole t × Begins most i (declarations_of t) j) same (
      omega (arith, from, last, tokens),
      r.whole own.tokens (omega (arith, last)),
      record { declared = omega (arith, begins.declared, number); few = begins.few },
    )

-- a block of a text within the limits, as a tree
within_limits :
    (most : ℕ) (i : Input) (own : Block) (inside : List Tree) (j : Input) → BlockReads most i (own, inside) j →
    i.at + length i.rest ≤ TEXT_LIMIT → most < DECLARATION_LIMIT → IsOfAProgram (node own inside)
within_limits most i own inside j r small few =
    let plain = plain_tree-roll own inside in
    let last : j.at ≡ own.tokens = r.own in
    let tokens = r.tokens in
    let begins = r.begins in
    let number = length-map own.declarations plain_declaration in
    let t = ap tokens_of plain in
    let d = ap declarations_of plain in
    record {
      whole = subst IsWhole (sym plain) (r.whole own.tokens (omega (arith, last)));
      small = omega (arith, last, tokens, small, t);
      few = omega (arith, begins.declared, begins.few, number, few, d);
    }

nested_reads : (limits : Limits) (depth : ℕ) (i : Input) (x : Tree) (j : Input) → nested_block limits depth i x j → NestedReads limits.declarations i x j
unfolding nested_block
nested_reads limits zero i x j h = elim h [ ]
nested_reads limits (suc depth) i x j h =
    let b = h.1 in
    let r = block_with_reads limits (nested_block limits depth) (nested_reads limits depth) None depth (record i { at = 0 }) b.0 b.1 b.2 in
    let w = whole_tree limits.declarations (record i { at = 0 }) b.0.0 b.0.1 b.1 x refl r b.3.0 in
    let rest : length j.rest ≡ length b.1.rest = ap (λ k. length k.rest) h.2 ∙ sym (ap (λ k. length k.rest) b.3.1) in
    let declared : j.declared ≡ b.1.declared = ap (λ k. k.declared) h.2 ∙ sym (ap (λ k. k.declared) b.3.1) in
    let begins = w.2 in
    record {
      at = ap (λ k. k.at) h.2;
      tokens = ap (λ n. n + tokens_of (plain_tree x)) rest ∙ w.0;
      whole = w.1;
      begins = record { declared = omega (arith, declared, begins.declared); few = omega (arith, declared, begins.few) };
    }

-- a block that is read from later on to earlier, and its end
block_in_program :
    (most : ℕ) (i m n j : Input) (b : Block × List Tree) (tokens : ℕ) → Counted i m → BlockReads most m b n → Counted n j → j.at ≡ tokens →
    BlockReads most i (record b.0 { tokens = tokens }, b.1) j
block_in_program most i m n j b tokens before r behind e =
    let begins = r.begins in
    record {
      own = e;
      tokens = omega (arith, before.tokens, r.tokens, behind.tokens);
      whole = λ t a. r.whole t (omega (arith, behind.at, a));
      begins = record {
        declared = omega (arith, before.declared, begins.declared, behind.declared);
        few = omega (arith, before.declared, begins.few, behind.declared);
      };
    }

-- the block of a program, as it is read with the heading before it and the `.` behind
record ProgramReads (most : ℕ) (i : Input) (x : Tree) (j : Input) : Type 0 where
  pub own : Block
  pub inside : List Tree
  pub block : BlockReads most i (own, inside) j
  pub is : node own inside ≡ x

program_reads : (limits : Limits) (i : Input) (x : Tree) (j : Input) → program limits i x j → ProgramReads limits.declarations i x j
program_reads limits i x j h =
    let h1 = h.3 in
    let h2 = h1.3 in
    let h3 = h2.3 in
    let h4 = h3.3 in
    let h5 = h4.3 in
    let h6 = h5.3 in
    let word = counted_by one h.2 in
    let name = counted_by identifier_counts h1.2 in
    let parameters = counted_by (either (next one (λ at. next (row one identifier_counts) (λ names. next one (λ end. nothing)))) nothing) h2.2 in
    let semicolon = counted_by one h3.2 in
    let heading = onward i h.1 h3.1 word (onward h.1 h1.1 h3.1 name (onward h1.1 h2.1 h3.1 parameters semicolon)) in
    let block = block_with_reads limits (nested_block limits limits.depth) (nested_reads limits limits.depth) _ limits.depth h3.1 h4.0 h4.1 h4.2 in
    let end : h5.1 ≡ j = h6.2.1 ∙ h6.3.1 in
    let dot = onward h4.1 h5.1 j (counted_by one h5.2) (stands h5.1 j end) in
    let last : j.at ≡ h6.0 = sym (ap (λ k. k.at) end) ∙ h6.2.0 in
    record {
      own = record h4.0.0 { tokens = h6.0 };
      inside = h4.0.1;
      block = block_in_program limits.declarations i h3.1 h4.1 j h4.0 h6.0 heading block dot last;
      is = h6.3.0;
    }

-- the tree of a program whose tokens are counted from 0
whole_program :
    (limits : Limits) (i : Input) (x : Tree) (j : Input) → i.at ≡ 0 → program limits i x j →
    (length j.rest + tokens_of (plain_tree x) ≡ length i.rest) × IsWhole (plain_tree x) × Begins limits.declarations i (declarations_of (plain_tree x)) j
whole_program limits i x j from h =
    let r = program_reads limits i x j h in
    whole_tree limits.declarations i r.own r.inside j x from r.block r.is

pub derived_is_whole : (limits : Limits) (kinds : List TokenKind) (tree : Tree) → Derives limits kinds tree → IsWhole (plain_tree tree)
derived_is_whole limits kinds tree h = (whole_program limits (start_of kinds) tree h.0 refl h.1).1

pub derived_tokens : (limits : Limits) (kinds : List TokenKind) (tree : Tree) → Derives limits kinds tree → tokens_of (plain_tree tree) ≡ length kinds
derived_tokens limits kinds tree h =
    let read = (whole_program limits (start_of kinds) tree h.0 refl h.1).0 in
    let none : length h.0.rest ≡ 0 = ap length h.2 in
    omega (arith, read, none)

-- as many declarations stand in the tree of a program as the grammar has counted
pub derived_declarations :
    (limits : Limits) (kinds : List TokenKind) (tree : Tree) (j : Input) → program limits (start_of kinds) tree j →
    (declarations_of (plain_tree tree) ≡ j.declared) × (j.declared ≤ limits.declarations)
derived_declarations limits kinds tree j h =
    let begins = (whole_program limits (start_of kinds) tree j refl h).2 in
    let declared = begins.declared in
    let few = begins.few in
    (omega (arith, declared), omega (arith, few))

-- ---- for code that makes trees

pub block_within_limits :
    (limits : Limits) (heading : Option ProgramHeading) (depth : ℕ) (i : Input) (own : Block) (inside : List Tree) (j : Input) →
    block_with limits heading depth (nested_block limits depth) i (own, inside) j →
    i.at + length i.rest ≤ TEXT_LIMIT → limits.declarations < DECLARATION_LIMIT → IsOfAProgram (node own inside)
block_within_limits limits heading depth i own inside j h small few =
    within_limits limits.declarations i own inside j
    (block_with_reads limits (nested_block limits depth) (nested_reads limits depth) heading depth i (own, inside) j h) small few

pub program_within_limits :
    (limits : Limits) (i : Input) (x : Tree) (j : Input) → program limits i x j →
    i.at + length i.rest ≤ TEXT_LIMIT → limits.declarations < DECLARATION_LIMIT → IsOfAProgram x
program_within_limits limits i x j h small few =
    let r = program_reads limits i x j h in
    subst IsOfAProgram r.is (within_limits limits.declarations i r.own r.inside j r.block small few)
