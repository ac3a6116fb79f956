-- A walk keeps what stands in the statements, one after another.
use Rattle.std.proofs.Common.{◌≡◌, ℕ, ◌+◌, ◌<◌, ◌≤◌, List, [], ◌∷◌, ◌++◌, length, drop, get_or, None, refl, sym, ap, subst, ◌∙◌, append_assoc}
use Rattle.std.proofs.Math.ListN.{drop_of_length-le}
use Rattle.mp_ast.proofs.SharedLemmas.{rest_from}
use Rattle.mp_ast.specs.declared.expressions.Expr.{Expr}
use Rattle.mp_ast.specs.declared.expressions.Access.{Access}
use Rattle.mp_ast.specs.declared.expressions.Selector.{Selector}
use Rattle.mp_ast.specs.declared.expressions.Selector.TheVariants as selector
use Rattle.mp_ast.specs.declared.statements.ForHead.{ForHead}
use Rattle.mp_ast.specs.declared.statements.Arm.{Arm}
use Rattle.mp_ast.specs.PlainExpressions.{PlainExpr, plain_access}
use Rattle.mp_ast.specs.PlainStatements as plain
use Rattle.std.specs.Prelude.{Option}
use Rattle.std.specs.List.{filter_map, cons_option}
use Rattle.std.proofs.lemmas.List.{append-nil}
use Rattle.std.proofs.lemmas.List.Elements.{filter_map-append}
use Rattle.mp_ast.specs.declared.leaves.Number.{Number}
use Rattle.mp_ast.specs.declared.statements.Statement.{Statement}
use Rattle.mp_ast.specs.PlainStatements.{PlainStatement, PlainStatements, plain_statement, plain_statements, plain_head, arms_of}
use Rattle.mp_tables.specs.StatementWalks.{controlled_by, assigned_by, prefix_of, with_inner, all_statements, arm_statements, controls_in, assigned_in, prefixes_in}
use Rattle.mp_decl.specs.declared.walks.Walked.{Walked}
use Rattle.mp_decl.specs.Walks.{Walks, WalksAll, bare_names}

-- no statements
pub walks_none : (w : Walked) → Walks w [] w
walks_none w = record { controls = sym (append-nil w.controls); assigned = sym (append-nil w.assigned); prefixes = sym (append-nil w.prefixes) }

behind :
    {A : Type 0} (h : PlainStatement → Option A) (x y z : List A) (s t : List PlainStatement) →
    y ≡ x ++ filter_map h s → z ≡ y ++ filter_map h t → z ≡ x ++ filter_map h (s ++ t)
behind h x y z s t p q = q ∙ ap (λ l. l ++ filter_map h t) p ∙ append_assoc x (filter_map h s) (filter_map h t) ∙ ap (λ l. x ++ l) (sym (filter_map-append h s t))

-- statements behind statements
pub walks_on : {a b c : Walked} {s t : List PlainStatement} → Walks a s b → Walks b t c → Walks a (s ++ t) c
walks_on {a} {b} {c} {s} {t} p q =
    record {
      controls = behind controlled_by a.controls b.controls c.controls s t p.controls q.controls;
      assigned = behind assigned_by a.assigned b.assigned c.assigned s t p.assigned q.assigned;
      prefixes = behind prefix_of a.prefixes b.prefixes c.prefixes s t p.prefixes q.prefixes;
    }

-- a statement that sets nothing itself
pub walks_silent : (w : Walked) (s : PlainStatement) → controlled_by s ≡ None → assigned_by s ≡ None → prefix_of s ≡ None → Walks w (s ∷ []) w
walks_silent w s c d e =
    record {
      controls = sym (append-nil w.controls) ∙ ap (λ o. w.controls ++ cons_option o []) (sym c);
      assigned = sym (append-nil w.assigned) ∙ ap (λ o. w.assigned ++ cons_option o []) (sym d);
      prefixes = sym (append-nil w.prefixes) ∙ ap (λ o. w.prefixes ++ cons_option o []) (sym e);
    }

-- ---- lists of statements: what stands before the one at this index was walked

-- from here on, whatever comes of the rest comes of all
pub record RestOf (first now : Walked) (whole rest : List PlainStatement) : Type 0 where
  pub by : (z : Walked) → Walks now rest z → Walks first whole z

-- one statement more was walked
pub rest_on :
    {first now next : Walked} {whole s more : List PlainStatement} →
    RestOf first now whole (s ++ more) → Walks now s next → RestOf first next whole more
rest_on r w = record { by = λ z p. r.by z (walks_on w p) }

pub rest_none : {first now : Walked} {whole : List PlainStatement} → RestOf first now whole [] → Walks first whole now
rest_none {first} {now} {whole} r = r.by now (walks_none now)

pub rest_all : (w : Walked) (whole : List PlainStatement) → RestOf w w whole whole
rest_all w whole = record { by = λ z p. p }

-- the loop has come to the end of the statements
pub rest_end :
    {first now : Walked} (xs ys : List Statement) (n : ℕ) → xs ≡ ys → length xs ≤ n →
    RestOf first now (all_statements (plain_statements xs)) (all_statements (plain_statements (drop n xs))) →
    Walks first (all_statements (plain_statements ys)) now
rest_end {first} {now} xs ys n e h r =
    subst (λ l. Walks first (all_statements (plain_statements l)) now) e
    (rest_none (subst (λ l. RestOf first now (all_statements (plain_statements xs)) (all_statements (plain_statements l))) (drop_of_length-le xs h) r))

pub rest_next :
    {first now next : Walked} (xs : List Statement) (n : ℕ) (s : Statement) → n < length xs → s ≡ get_or xs n s →
    RestOf first now (all_statements (plain_statements xs)) (all_statements (plain_statements (drop n xs))) →
    Walks now (with_inner (plain_statement s)) next →
    RestOf first next (all_statements (plain_statements xs)) (all_statements (plain_statements (drop (n + 1) xs)))
rest_next {first} {now} {next} xs n s h e r w =
    rest_on (subst (λ l. RestOf first now (all_statements (plain_statements xs)) (all_statements (plain_statements l))) (rest_from xs n s h e) r) w

pub arms_end :
    {first now : Walked} (xs ys : List (Arm Statement)) (n : ℕ) → xs ≡ ys → length xs ≤ n →
    RestOf first now (arm_statements (arms_of plain_statement xs)) (arm_statements (arms_of plain_statement (drop n xs))) →
    Walks first (arm_statements (arms_of plain_statement ys)) now
arms_end {first} {now} xs ys n e h r =
    subst (λ l. Walks first (arm_statements (arms_of plain_statement l)) now) e
    (rest_none (subst (λ l. RestOf first now (arm_statements (arms_of plain_statement xs)) (arm_statements (arms_of plain_statement l))) (drop_of_length-le xs h) r))

pub arms_next :
    {first now next : Walked} (xs : List (Arm Statement)) (n : ℕ) (s : Arm Statement) → n < length xs → s ≡ get_or xs n s →
    RestOf first now (arm_statements (arms_of plain_statement xs)) (arm_statements (arms_of plain_statement (drop n xs))) →
    Walks now (with_inner (plain_statement s.body)) next →
    RestOf first next (arm_statements (arms_of plain_statement xs)) (arm_statements (arms_of plain_statement (drop (n + 1) xs)))
arms_next {first} {now} {next} xs n s h e r w =
    rest_on (subst (λ l. RestOf first now (arm_statements (arms_of plain_statement xs)) (arm_statements (arms_of plain_statement l))) (rest_from xs n s h e) r) w

-- ---- statements that set something themselves

-- a label was kept, and what stands behind it was walked
pub walks_labelled :
    {b : Walked} (a : Walked) (label : Number) (s : PlainStatement) (kept : List Number) → kept ≡ a.prefixes ++ label ∷ [] →
    Walks (record { controls = a.controls; assigned = a.assigned; prefixes = kept }) (with_inner s) b → Walks a (with_inner (plain.Labelled label s)) b
walks_labelled a label s kept e w =
    walks_on {s = plain.Labelled label s ∷ []} (record { controls = sym (append-nil a.controls); assigned = sym (append-nil a.assigned); prefixes = e }) w

-- a control variable was kept, and the body was walked
pub walks_for :
    {b : Walked} (a : Walked) (at : ℕ) (head : ForHead) (s : PlainStatement) (kept : List (List ℕ)) → kept ≡ a.controls ++ head.variable.name ∷ [] →
    Walks (record { controls = kept; assigned = a.assigned; prefixes = a.prefixes }) (with_inner s) b → Walks a (with_inner (plain.For at (plain_head head) s)) b
walks_for a at head s kept e w =
    walks_on {s = plain.For at (plain_head head) s ∷ []} (record { controls = e; assigned = sym (append-nil a.assigned); prefixes = sym (append-nil a.prefixes) }) w

-- the name on the left of a `:=` was kept, where it is bare
pub walks_assign :
    (a : Walked) (variable : Access Expr) (at : ℕ) (value : PlainExpr) (kept : List (List ℕ)) → kept ≡ a.assigned ++ bare_names variable →
    Walks a (with_inner (plain.Assign (plain_access variable) at value)) (record { controls = a.controls; assigned = kept; prefixes = a.prefixes })
walks_assign a variable at value kept e =
    record {
      controls = sym (append-nil a.controls);
      assigned = e ∙ ap (λ l. a.assigned ++ l) (by_selectors variable.selectors);
      prefixes = sym (append-nil a.prefixes);
    }
  where
    by_selectors :
        (l : List (Selector Expr)) →
        bare_names (record { name = variable.name; selectors = l }) ≡
        cons_option (assigned_by (plain.Assign (plain_access (record { name = variable.name; selectors = l })) at value)) []
    by_selectors [] = refl
    by_selectors (selector.Index at x ∷ more) = refl
    by_selectors (selector.Field at x ∷ more) = refl
    by_selectors (selector.Follow at ∷ more) = refl

-- the first list of what was kept was empty
pub walked_all :
    (a w : Walked) (statements : PlainStatements) → a.controls ≡ [] → a.assigned ≡ [] → a.prefixes ≡ [] → Walks a (all_statements statements) w → WalksAll statements w
walked_all a w statements c d e p =
    record {
      controls = p.controls ∙ ap (λ l. l ++ controls_in statements) c;
      assigned = p.assigned ∙ ap (λ l. l ++ assigned_in statements) d;
      prefixes = p.prefixes ∙ ap (λ l. l ++ prefixes_in statements) e;
    }
