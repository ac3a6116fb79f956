-- The choices of a statement in the order in which the parser makes them.
use Rattle.std.proofs.Common.{◌⊎◌, inl, inr, ℕ}
use Rattle.mp_ast.specs.declared.statements.Statement.{Statement}
use Rattle.mp_ast.specs.Rules.{Input, Rule}
use Rattle.mp_ast.specs.Rules.{◌<|>◌ as ◌<|>ʳ◌}
use Rattle.mp_ast.specs.StatementGrammar as g
use Rattle.mp_cursor.proofs.RuleLaws.{Same}
use Rattle.mp_cursor.proofs.SameRules.{same_refl, same_trans, same_or, or_grouped, or_swapped}

-- a choice goes to the front
to_front : {A : Type 0} (r e s : Rule A) → Same (r <|>ʳ (e <|>ʳ s)) (e <|>ʳ (r <|>ʳ s))
to_front {A} r e s = record { to = to; back = back }
  where
    to : (i : Input) (x : A) (j : Input) → (r i x j) ⊎ ((e i x j) ⊎ (s i x j)) → (e i x j) ⊎ ((r i x j) ⊎ (s i x j))
    to i x j (inl d) = inr (inl d)
    to i x j (inr (inl d)) = inl d
    to i x j (inr (inr d)) = inr (inr d)

    back : (i : Input) (x : A) (j : Input) → (e i x j) ⊎ ((r i x j) ⊎ (s i x j)) → (r i x j) ⊎ ((e i x j) ⊎ (s i x j))
    back i x j (inl d) = inr (inl d)
    back i x j (inr (inl d)) = inl d
    back i x j (inr (inr d)) = inr (inr d)

-- past one more
past : {A : Type 0} {t e s : Rule A} (r : Rule A) → Same t (e <|>ʳ s) → Same (r <|>ʳ t) (e <|>ʳ (r <|>ʳ s))
past {e = e} {s = s} r h = same_trans (same_or (same_refl r) h) (to_front r e s)

module _ (room : ℕ) (r : g.Deeper) where
  -- the empty statement last, and what begins with a name together
  abbrev pub as_parsed : Rule Statement
  as_parsed =
      (g.assignment room r <|>ʳ g.procedure_call room r)
      <|>ʳ g.goto_statement room r
      <|>ʳ g.compound_statement room r
      <|>ʳ g.if_statement room r
      <|>ʳ g.case_statement room r
      <|>ʳ g.while_statement room r
      <|>ʳ g.repeat_statement room r
      <|>ʳ g.for_statement room r
      <|>ʳ g.with_statement room r
      <|>ʳ g.empty_statement room r

  pub same_choices : Same as_parsed (g.unlabelled room r)
  same_choices =
      same_trans (or_grouped _ _ _)
      (past _ (past _ (past _ (past _ (past _ (past _ (past _ (past _ (past _ (or_swapped _ _))))))))))
