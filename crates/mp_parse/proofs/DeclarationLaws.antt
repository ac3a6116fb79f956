-- The laws of declarations, blocks and programs: the parser reads exactly what the grammar allows.
use Rattle.std.proofs.Common.{◌≡◌, Bool, true, false, ℕ, zero, suc, List, [], ◌∷◌, ◌++◌, Option, Some, None, map, codes, refl, sym, ap, ◌∙◌, subst, append_assoc}
use Rattle.std.proofs.lemmas.List.{append-nil}
use Rattle.mp_ast.specs.declared.words.WordSymbol.TheVariants as w
use Rattle.mp_ast.specs.declared.symbols.Symbol.TheVariants as s
use Rattle.mp_ast.specs.declared.leaves.Identifier.{Identifier}
use Rattle.mp_ast.specs.declared.headings.HeadingTree.{HeadingTree}
use Rattle.mp_ast.specs.declared.blocks.ProgramHeading.{ProgramHeading}
use Rattle.mp_ast.specs.declared.blocks.Declaration.{Declaration}
use Rattle.mp_ast.specs.declared.blocks.DeclaredBody.TheVariants as body
use Rattle.mp_ast.specs.declared.blocks.Tree.{Tree, roll-Tree}
use Rattle.mp_ast.specs.LeafGrammar as leaf
use Rattle.mp_ast.specs.Rules.{Input, Rule, Many, no_more, one_more, many, joined}
use Rattle.mp_ast.specs.Rules as rule
use Rattle.mp_ast.specs.HeadingGrammar as headings
use Rattle.mp_ast.specs.BlockGrammar as g
use Rattle.mp_ast.specs.BlockGrammar.{Limits}
use Rattle.mp_cursor.specs.declared.next.Next.TheVariants as next
use Rattle.mp_cursor.specs.declared.next.Next.TheVariants.{Word, Symbol}
use Rattle.mp_cursor.specs.Nexts.{Nexts, is, any, either}
use Rattle.mp_cursor.specs.Parsers.{Parser, ◌>>=◌, ◌>>◌, pure, expect, deeper}
use Rattle.mp_cursor.proofs.NextSets.{within_any, within_itself}
use Rattle.mp_cursor.proofs.RuleLaws.{Law, LawWhere, law_where, Same, law_pure, law_then, law_map, law_begun, law_as, law_word, law_symbol, law_here, law_never, law_unfinished}
use Rattle.mp_cursor.proofs.SameRules.{same_refl, same_sym, same_trans, same_then, map_first, same_value}
use Rattle.mp_cursor.proofs.LeafLaws.{has_room, law_identifier, law_directive}
use Rattle.mp_cursor.proofs.ChoiceLaws.{law_branch, law_branch_first}
use Rattle.mp_cursor.proofs.ListLaws.{Falls, falls_where, falls_last, falls_symbol, all_added, law_repeated}
use Rattle.mp_cursor.proofs.ConstantLaws.{law_identifiers}
use Rattle.mp_cursor.proofs.BlockLaws.{law_counted, law_deeper, law_own_ordinals}
use Rattle.mp_parse_type.proofs.HeadingLaws.{law_heading, heading_begins}
use Rattle.mp_parse.specs.Blocks as p
use Rattle.mp_parse.proofs.PartLaws.{block_begins, law_labels, law_constants, law_types, law_variables, law_statement_part}

-- ---- rules that allow the same

deeper_same : {A : Type 0} {r t : Rule A} (depth : ℕ) → Same r t → Same (rule.deeper depth r) (rule.deeper depth t)
deeper_same zero e = record { to = λ i x j d. d; back = λ i x j d. d }
deeper_same (suc depth) e = e

many_to : {A : Type 0} {r t : Rule A} → Same r t → (j : Input) (xs : List A) (i : Input) → Many r j xs i → Many t j xs i
many_to e j _ _ no_more = no_more
many_to e j _ _ (one_more x xs i m d ds) = one_more x xs i m (e.to i x m d) (many_to e j xs m ds)

many_same : {A : Type 0} {r t : Rule A} → Same r t → Same (many r) (many t)
many_same e = record { to = λ i xs j d. many_to e j xs i d; back = λ i xs j d. many_to (same_sym e) j xs i d }

module _ {A B : Type 0} (b : A → B) (r : Rule A) where
  Mapped : List B → Input → Input → Type 0
  Mapped ys i j = (xs : List A) × Many r j xs i × (map b xs ≡ ys)

  mapped : (j : Input) (ys : List B) (i : Input) → Many (rule.◌<$>◌ b r) j ys i → Mapped ys i j
  unfolding Mapped
  mapped j _ _ no_more = ([], no_more, refl)
  mapped j _ _ (one_more y ys i m d ds) =
      let w = mapped j ys m ds in
      (d.0 ∷ w.0, one_more d.0 w.0 i m (subst (λ l. r i d.0 l) d.3.1 d.2) w.1, ap (λ z. z ∷ map b w.0) d.3.0 ∙ ap (λ zs. y ∷ zs) w.2)

  unmapped : (j : Input) (xs : List A) (i : Input) → Many r j xs i → Many (rule.◌<$>◌ b r) j (map b xs) i
  unmapped j _ _ no_more = no_more
  unmapped j _ _ (one_more x xs i m d ds) = one_more (b x) (map b xs) i m (x, m, d, (refl, refl)) (unmapped j xs m ds)

  many_map_plain : Same (many (rule.◌<$>◌ b r)) (rule.◌<$>◌ (map b) (many r))
  unfolding Mapped
  many_map_plain = record {
    to = λ i ys j d. let w = mapped j ys i d in (w.0, j, w.1, (w.2, refl));
    back = λ i ys j d. subst (λ m. Many (rule.◌<$>◌ b r) m ys i) d.3.1 (subst (λ zs. Many (rule.◌<$>◌ b r) d.1 zs i) d.3.0 (unmapped d.1 d.0 i d.2));
  }

deeper_map : {A B : Type 0} (b : A → B) (r : Rule A) (depth : ℕ) → Same (rule.deeper depth (rule.◌<$>◌ b r)) (rule.◌<$>◌ b (rule.deeper depth r))
deeper_map b r zero = record { to = λ i x j d. absurd d; back = λ i x j d. absurd d.2 }
deeper_map b r (suc depth) = same_refl (rule.◌<$>◌ b r)

falls_deeper : {A : Type 0} {q : Parser A} (depth : ℕ) → Falls q → Falls (deeper depth q)
falls_deeper zero a = record { by = λ i x j h. absurd (let n : ⊥ = cc in n) }
falls_deeper (suc depth) a = a

-- ---- what follows a heading

pub law_forward : Law true (is next.Identifier) any p.forward_directive g.forward_directive
unfolding p.forward_directive
law_forward = law_then (law_directive (codes "forward")) (within_any any) (λ at. law_pure (body.Forward at, []) any)

module _ {P : Type 0} {u : Bool} {f : Nexts} {q : Parser Tree} {r : Rule Tree} (block : LawWhere P u f any q r) where
  law_block_body : LawWhere P u f any (p.block_body q) (g.block_body r)
  unfolding p.block_body
  law_block_body = law_then block (within_any any) (λ tree. law_pure (body.Block, tree ∷ []) any)

module _ {P : Type 0} {u : Bool} {q : Parser Tree} {r : Rule Tree} (block : LawWhere P u block_begins any q r) where
  abbrev body_begins : Nexts
  body_begins = either (is next.Identifier) block_begins

  law_declared_body : LawWhere P true body_begins any (p.declared_body q) (rule.◌<|>◌ g.forward_directive (g.block_body r))
  law_declared_body = law_branch_first (is next.Identifier) (law_where P law_forward) refl refl (law_block_body block)

  module _ (limits : Limits) where
    abbrev pair : g.Declared → p.Declared
    pair d = (d.declaration, d.block)

    abbrev declared_pair : HeadingTree → ℕ → p.Body → p.Declared
    declared_pair heading semicolon rest = (record { heading = heading; semicolon = semicolon; body = rest.0 }, rest.1)

    -- the rule of a declaration, told as the parser tells it
    abbrev declaration_rule : Rule p.Declared
    declaration_rule =
        rule.◌>>◌ (rule.one_more_declaration limits.declarations)
        (rule.◌>>=◌ (headings.heading limits.openers) (λ heading.
        rule.◌>>=◌ (rule.symbol s.Semicolon) (λ semicolon.
        rule.◌>>=◌ (rule.◌<|>◌ g.forward_directive (g.block_body r)) (λ rest.
        rule.◌>>◌ (rule.symbol s.Semicolon) (rule.gives (declared_pair heading semicolon rest))))))

    rest_behind : (heading : HeadingTree) (semicolon : ℕ) → LawWhere P true body_begins any
        (p.declared_body q >>= (λ rest. expect (Symbol s.Semicolon) >> pure (declared_pair heading semicolon rest)))
        (rule.◌>>=◌ (rule.◌<|>◌ g.forward_directive (g.block_body r)) (λ rest. rule.◌>>◌ (rule.symbol s.Semicolon) (rule.gives (declared_pair heading semicolon rest))))
    rest_behind heading semicolon =
        law_then law_declared_body (within_any (is (Symbol s.Semicolon))) (λ rest. law_then (law_symbol s.Semicolon) (within_any any)
        (λ z. law_pure (declared_pair heading semicolon rest) any))

    law_declaration : LawWhere P false heading_begins any (p.declaration limits q) declaration_rule
    unfolding p.declaration
    law_declaration =
        law_then (law_counted limits.declarations heading_begins) (within_itself heading_begins) (λ z.
        law_then (law_where P (law_heading limits.openers)) refl (λ heading.
        law_then (law_symbol s.Semicolon) (within_any body_begins) (λ semicolon. rest_behind heading semicolon)))

    falls_declaration : Falls (p.declaration limits q)
    unfolding p.declaration
    falls_declaration =
        falls_last (law_counted limits.declarations heading_begins) (λ z.
        falls_last (law_heading limits.openers) (λ heading.
        falls_where P (falls_symbol s.Semicolon) (λ semicolon. rest_behind heading semicolon)))

    declaration_same : Same declaration_rule (rule.◌<$>◌ pair (g.declaration limits r))
    declaration_same = record {
      to = λ i y j d.
          let h = d.3 in
          let c = h.3 in
          let b = c.3 in
          let e = b.3 in (
            record { declaration = record { heading = h.0; semicolon = c.0; body = b.0.0 }; block = b.0.1 },
            e.1,
            (d.0, d.1, d.2, (h.0, h.1, h.2, (c.0, c.1, c.2, (b.0, b.1, b.2, (e.0, e.1, e.2, (refl, refl)))))),
            e.3,
          );
      back = λ i y j d.
          let h = d.2.3 in
          let c = h.3 in
          let b = c.3 in
          let e = b.3 in
          (d.2.0, d.2.1, d.2.2, (h.0, h.1, h.2, (c.0, c.1, c.2, (b.0, b.1, b.2, (e.0, e.1, e.2, (ap pair e.3.0 ∙ d.3.0, e.3.1 ∙ d.3.1))))));
    }

    -- ---- several declarations

    abbrev of_records : List g.Declared → p.Found
    of_records ds = (map (λ d. d.declaration) ds, joined (map (λ d. d.block) ds))

    abbrev behind_found : p.Found → List g.Declared → p.Found
    behind_found found ds = (found.0 ++ map (λ d. d.declaration) ds, found.1 ++ joined (map (λ d. d.block) ds))

    abbrev found_of : List Declaration → List Tree → p.Found
    found_of declarations trees = (declarations, trees)

    collected_from : (found : p.Found) (ds : List g.Declared) → all_added p.with_one_more found (map pair ds) ≡ behind_found found ds
    collected_from found [] = ap (λ x. found_of x found.1) (sym (append-nil found.0)) ∙ ap (found_of (found.0 ++ [])) (sym (append-nil found.1))
    collected_from found (d ∷ ds) =
        collected_from (p.with_one_more found (pair d)) ds
        ∙ ap (λ x. found_of x ((found.1 ++ d.block) ++ joined (map (λ e. e.block) ds))) (append_assoc found.0 (d.declaration ∷ []) (map (λ e. e.declaration) ds))
        ∙ ap (found_of (found.0 ++ d.declaration ∷ map (λ e. e.declaration) ds)) (append_assoc found.1 d.block (joined (map (λ e. e.block) ds)))

    collected : (ds : List g.Declared) → all_added p.with_one_more ([], []) (map pair ds) ≡ of_records ds
    collected ds = collected_from ([], []) ds

    declarations_same : (depth : ℕ) → Same (rule.◌<$>◌ (λ xs. all_added p.with_one_more ([], []) xs) (many (rule.deeper depth declaration_rule)))
        (rule.◌<$>◌ of_records (many (rule.deeper depth (g.declaration limits r))))
    declarations_same depth =
        same_trans (same_then (many_same (deeper_same depth declaration_same)) (λ xs. same_refl _))
        (same_trans (same_then (same_trans (many_same (deeper_map pair (g.declaration limits r) depth))
        (many_map_plain pair (rule.deeper depth (g.declaration limits r)))) (λ xs. same_refl _))
        (same_trans (map_first (map pair) (many (rule.deeper depth (g.declaration limits r))) (λ xs. rule.gives (all_added p.with_one_more ([], []) xs)))
        (same_value _ _ collected)))

    law_declarations : (depth : ℕ) → LawWhere P true (either heading_begins (is (Word w.Begin))) (is (Word w.Begin)) (p.declarations limits depth q)
        (rule.◌<$>◌ of_records (many (rule.deeper depth (g.declaration limits r))))
    unfolding p.declarations p.further_declaration
    law_declarations depth =
        law_as (declarations_same depth)
        (law_repeated p.with_one_more p.declaring (is (Word w.Begin)) (law_deeper depth law_declaration)
        (falls_deeper depth falls_declaration) refl refl (within_any heading_begins) (within_any (is (Word w.Begin))) refl ([], []))

    -- ---- blocks

    pub law_block : (P → has_room limits.openers ≡ true) → (program : Option ProgramHeading) (depth : ℕ) →
        LawWhere P true block_begins any (p.block_with limits program depth q) (g.block_with limits program depth r)
    unfolding p.block_with
    law_block room program depth =
        law_begun block_begins refl
        (law_then (law_where P law_labels) refl (λ labels.
        law_then (law_where P law_constants) refl (λ constants.
        law_then (law_where P (law_types limits.openers)) refl (λ types.
        law_then (law_where P (law_variables limits.openers)) refl (λ variables.
        law_as (map_first _ _ _)
        (law_then (law_declarations depth) refl (λ declared.
        law_then (law_statement_part limits.openers room) (within_any any) (λ statements.
        law_then (law_here any) (within_any any) (λ tokens. law_pure _ any)))))))))

-- ---- blocks in one another

module _ (limits : Limits) where
  -- where an opener may stand open
  abbrev pub Room : Type 0
  Room = has_room limits.openers ≡ true

  pub law_nested_block : (depth : ℕ) → LawWhere Room false block_begins any (p.nested_block limits depth) (g.nested_block limits depth)
  unfolding p.nested_block g.nested_block
  law_nested_block zero = law_never block_begins any
  law_nested_block (suc depth) = law_unfinished (law_own_ordinals (law_map (g.tree_of limits) (law_block (law_nested_block depth) limits (λ room. room) None depth)))

  -- ---- programs

  pub law_parameters : Law true (either (is (Symbol s.LeftParen)) (is (Symbol s.Semicolon))) (is (Symbol s.Semicolon)) (p.parameters limits) (g.part (g.program_parameters limits))
  unfolding p.parameters p.some_parameters
  law_parameters =
      law_branch (is (Symbol s.LeftParen))
      (law_then (law_symbol s.LeftParen) (within_any (is next.Identifier)) (λ z. law_then law_identifiers refl
      (λ names. law_then (law_symbol s.RightParen) (within_any (is (Symbol s.Semicolon))) (λ y. law_pure names (is (Symbol s.Semicolon))))))
      refl refl (law_pure [] (is (Symbol s.Semicolon)))

  abbrev a_heading : Identifier → List Identifier → ProgramHeading
  a_heading name parameters = record { name = name; parameters = parameters }

  abbrev heading_rule : Rule ProgramHeading
  heading_rule =
      rule.◌>>◌ (rule.word w.Program)
      (rule.◌>>=◌ leaf.identifier (λ name.
      rule.◌>>=◌ (g.part (g.program_parameters limits)) (λ parameters.
      rule.◌>>◌ (rule.symbol s.Semicolon) (rule.gives (a_heading name parameters)))))

  law_program_heading : Law true (is (Word w.Program)) any (p.program_heading limits) heading_rule
  unfolding p.program_heading
  law_program_heading =
      law_then (law_word w.Program) (within_any (is next.Identifier)) (λ z.
      law_then law_identifier (within_any (either (is (Symbol s.LeftParen)) (is (Symbol s.Semicolon)))) (λ name.
      law_then law_parameters (within_itself (is (Symbol s.Semicolon))) (λ parameters.
      law_then (law_symbol s.Semicolon) (within_any any) (λ y. law_pure (a_heading name parameters) any))))

  abbrev behind_heading : ProgramHeading → Rule Tree
  behind_heading heading =
      rule.◌>>=◌ (g.block_with limits (Some heading) limits.depth (g.nested_block limits limits.depth)) (λ found.
      rule.◌>>◌ (rule.symbol s.Dot) (rule.◌>>=◌ rule.here (λ tokens. rule.gives (roll-Tree (record { own = record found.0 { tokens = tokens }; inside = found.1 })))))

  program_same : Same (rule.◌>>=◌ heading_rule behind_heading) (g.program limits)
  program_same = record {
    to = λ i y j d.
        let h = d.2 in
        let n = h.3 in
        let a = n.3 in
        let c = a.3 in (
          h.0,
          h.1,
          h.2,
          (
            n.0,
            n.1,
            n.2,
            (
              a.0,
              a.1,
              a.2,
              (
                c.0,
                c.1,
                c.2,
                subst (λ m. behind_heading (a_heading n.0 a.0) m y j) (sym c.3.1)
                    (subst (λ x. behind_heading x d.1 y j) (sym c.3.0) d.3),
              ),
            ),
          ),
        );
    back = λ i y j d.
        let n = d.3 in
        let a = n.3 in
        let c = a.3 in
        (a_heading n.0 a.0, c.1, (d.0, d.1, d.2, (n.0, n.1, n.2, (a.0, a.1, a.2, (c.0, c.1, c.2, (refl, refl))))), c.3);
  }

  pub law_program : LawWhere Room true (is (Word w.Program)) any (p.program limits) (g.program limits)
  unfolding p.program
  law_program =
      law_as program_same
      (law_then (law_where Room law_program_heading) (within_any block_begins) (λ heading.
      law_then (law_block (law_nested_block limits.depth) limits (λ room. room) (Some heading) limits.depth) (within_any (is (Symbol s.Dot))) (λ found.
      law_then (law_symbol s.Dot) (within_any any) (λ z. law_then (law_here any) (within_any any) (λ tokens. law_pure _ any)))))
