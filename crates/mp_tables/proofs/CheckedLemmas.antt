-- The blocks of a program without errors, whose tables are complete: their typed trees are checked.
use Rattle.std.proofs.Common.{◌≡◌, ℕ, ◌+◌, Bool, true, false, cond, not, ◌||◌, List, [], ◌∷◌, ◌++◌, Option, Some, None, refl, sym, ap, ◌∙◌, subst, map, take, arith, nat_eq, nat_lt, eqb-true, min}
use Rattle.std.specs.Prelude.{count_by, flat_map, bytes_eq, option_map, option_and_then}
use Rattle.std.specs.Map.{lookup}
use Rattle.std.specs.List.{list_any, AllByRecursion}
use Rattle.std.proofs.lemmas.List.Sums.{sum_by-cons}
use Rattle.mp_base.specs.declared.path.PathStep.{PathStep}
use Rattle.mp_ast.specs.declared.leaves.Number.{Number}
use Rattle.mp_ast.specs.PlainStatements.{PlainStatements}
use Rattle.mp_ast.specs.PlainTrees.{PlainBlock, PlainTree, statements_of_part}
use Rattle.mp_ast.specs.Blocks.{PlacedBlock, blocks}
use Rattle.mp_tables.specs.declared.errors.RuleError.{RuleError}
use Rattle.mp_tables.specs.declared.declarations.LabelStanding.TheVariants as standing
use Rattle.mp_tables.specs.declared.declarations.Decl.{Decl}
use Rattle.mp_tables.specs.declared.declarations.Decl.TheVariants as decl
use Rattle.mp_tables.specs.declared.tables.Entry.{Entry}
use Rattle.mp_tables.specs.declared.tables.Table.{Table}
use Rattle.mp_tables.specs.PlainTypedStatements.{PlainTypedStatements}
use Rattle.mp_tables.specs.Asks.{Answers, assigns}
use Rattle.mp_tables.specs.Reports.{Rule, each}
use Rattle.mp_tables.specs.Seen.{table_at, answers_of}
use Rattle.mp_tables.specs.DefiningPoints.{Points}
use Rattle.mp_tables.specs.StatementWalks.{begin_of, has_value, prefixes_in, outermost_prefixes}
use Rattle.mp_tables.specs.Elaboration.{elaborate}
use Rattle.mp_tables.specs.Statements.{prefixes, standing_label, outermost, statement_part}
use Rattle.mp_tables.specs.ProgramErrors.{settle, settled, judge, errors_in, errors_at, tables_of}
use Rattle.mp_tables.specs.Checked.{Each, outermost_labels, within_sequence, CheckedSequence, CheckedBlocks}
use Rattle.mp_tables.specs.Complete.{PartsOf, NothingMissing, CompleteDecl, Complete, ShortStatements, ShortBlocks, CompleteIsChecked}
use Rattle.mp_tables.proofs.CleanLemmas.{Clean, clean_pure, ◌then◌, ◌so◌, clean_report_if, clean_lift, true_false, false_true, holds, none_some, some_inj}
use Rattle.mp_tables.proofs.ElaborationLemmas.{AllPoints}
use Rattle.mp_tables.proofs.StableLemmas.{OwnDecl, each_table, found_in}
use Rattle.mp_tables.proofs.StatementLemmas.{nowhere, OnceStanding, OuterOnce, PlaceFits, labels_fit, sequence_clean}

-- ---- labels stand once

clean_all : {X : Type 0} {a : Answers} {P : X → Type 0} (f : X → Rule (Unit {0})) → ((x : X) → Clean a (f x) (λ u. P x)) → (xs : List X) → Clean a (each f xs) (λ u. Each P xs)
clean_all f c [] = clean_pure tt tt
clean_all f c (x ∷ xs) = c x then λ u. clean_all f c xs so λ u q p. (p, q)

-- no prefix has the value of one before it
abbrev Apart : List Number → List Number → Type 0
Apart earlier [] = Unit {0}
Apart earlier (n ∷ more) = (list_any (has_value n.value) earlier ≡ false) × Apart (n ∷ earlier) more

or_true : (x : Bool) {y : Bool} → y ≡ true → (x || y) ≡ true
or_true true e = refl
or_true false e = e

none_again : (v : ℕ) (earlier list : List Number) → list_any (has_value v) earlier ≡ true → Apart earlier list → count_by (has_value v) list ≡ 0
none_again v earlier [] e a = refl
none_again v earlier (n ∷ more) e a = sum_by-cons (λ x. cond (has_value v x) 1 0) n more
    ∙ by (has_value v n) refl (none_again v (n ∷ earlier) more (or_true (has_value v n) e) a.1)
  where
    by : (b : Bool) → has_value v n ≡ b → count_by (has_value v) more ≡ 0 → cond b 1 0 + count_by (has_value v) more ≡ 0
    by true p c = true_false (sym e ∙ ap (λ k. list_any (has_value k) earlier) (sym (eqb-true n.value v p)) ∙ a.0)
    by false p c = omega (arith, c)

one_in : (v : ℕ) (earlier list : List Number) → list_any (has_value v) list ≡ true → Apart earlier list → count_by (has_value v) list ≡ 1
one_in v earlier [] e a = false_true e
one_in v earlier (n ∷ more) e a = sum_by-cons (λ x. cond (has_value v x) 1 0) n more ∙ by (has_value v n) refl e (one_in v (n ∷ earlier) more)
  where
    by : (b : Bool) → has_value v n ≡ b → (b || list_any (has_value v) more) ≡ true →
        (list_any (has_value v) more ≡ true → Apart (n ∷ earlier) more → count_by (has_value v) more ≡ 1) → cond b 1 0 + count_by (has_value v) more ≡ 1
    by true p q f = let z : count_by (has_value v) more ≡ 0 = none_again v (n ∷ earlier) more (ap (λ x. x || list_any (has_value v) earlier) p) a.1 in omega (arith, z)
    by false p q f = let z : count_by (has_value v) more ≡ 1 = f q a.1 in omega (arith, z)

stands_in : (v : ℕ) (ps ns : List Number) → Each (λ n. list_any (has_value n.value) ps ≡ true) ns → list_any (has_value v) ns ≡ true → list_any (has_value v) ps ≡ true
stands_in v ps [] g e = false_true e
stands_in v ps (n ∷ ns) g e = by (has_value v n) refl e (stands_in v ps ns g.1)
  where
    by : (b : Bool) → has_value v n ≡ b → (b || list_any (has_value v) ns) ≡ true → (list_any (has_value v) ns ≡ true → list_any (has_value v) ps ≡ true) →
        list_any (has_value v) ps ≡ true
    by true p q f = subst (λ k. list_any (has_value k) ps ≡ true) (eqb-true n.value v p) g.0
    by false p q f = f q

standing_by : (b : Bool) → cond b standing.Outermost standing.Inner ≡ standing.NotOnce → ⊥
standing_by true e = cc
standing_by false e = cc

once : (own : PlainBlock) → Each (λ n. list_any (has_value n.value) (prefixes_in (statements_of_part own.statements)) ≡ true) own.labels →
    Apart [] (prefixes_in (statements_of_part own.statements)) → OnceStanding own
once own g a v e h =
    let ss : PlainStatements = statements_of_part own.statements in
    let c : count_by (has_value v) (prefixes_in ss) ≡ 1 = one_in v [] (prefixes_in ss) (stands_in v (prefixes_in ss) own.labels g e) a in
    standing_by (list_any (has_value v) (outermost_prefixes ss))
    (sym (ap (λ k. cond (nat_eq k 1) (cond (list_any (has_value v) (outermost_prefixes ss)) standing.Outermost standing.Inner) standing.NotOnce) c) ∙ h)

pub no_front : {A : Type 0} (xs ys : List A) → xs ++ ys ≡ [] → (xs ≡ []) × (ys ≡ [])
no_front [] ys e = (refl, e)
no_front (x ∷ xs) ys e = absurd (let n : ⊥ = cc in n)

settle_none : (e : RuleError) (errors : List RuleError) → settle e errors ≡ [] → ⊥
settle_none e [] h = cc
settle_none e (f ∷ errors) h = by (nat_lt e.at f.at) (nat_eq e.at f.at) h
  where
    by : (x y : Bool) → cond x (e ∷ f ∷ errors) (cond y (record { at = f.at; code = min e.code f.code } ∷ errors) (f ∷ settle e errors)) ≡ [] → ⊥
    by true y h = cc
    by false true h = cc
    by false false h = cc

pub no_reports : (reports : List RuleError) → settled reports ≡ [] → reports ≡ []
no_reports [] h = refl
no_reports (e ∷ reports) h = absurd (settle_none e (settled reports) h)

module _ (tables : List Table) (complete : Complete tables) (path : List PathStep) (own : PlainBlock) where
  prefixes_clean : (earlier list : List Number) → Clean (answers_of tables) (prefixes own earlier list) (λ u. Apart earlier list)
  prefixes_clean earlier [] = clean_pure tt tt
  prefixes_clean earlier (n ∷ more) =
      clean_report_if (nat_lt 9999 n.value) 311 n.at
      then λ u. clean_report_if (not (list_any (has_value n.value) own.labels)) 306 n.at
      then λ u. clean_report_if (list_any (has_value n.value) earlier) 308 n.at
      then λ u. prefixes_clean (n ∷ earlier) more
      so λ u a e p q. (e, a)

  stand_clean : (n : Number) → Clean (answers_of tables) (standing_label own n) (λ u. list_any (has_value n.value) (prefixes_in (statements_of_part own.statements)) ≡ true)
  stand_clean n = clean_report_if (not (list_any (has_value n.value) (prefixes_in (statements_of_part own.statements)))) 309 n.at
      so λ u e. holds (list_any (has_value n.value) (prefixes_in (statements_of_part own.statements))) e

  fits_here : OnceStanding own → OuterOnce tables path →
      PlaceFits tables path nowhere (record { region = record { path = path; opened = []; controlled = [] }; own = own; labels = [] })
  fits_here o f = record { region = record { path = refl; count = refl; opened = tt }; labels = refl; once = o; outer = f }

  abbrev CheckedPart : PlainTypedStatements → Type 0
  CheckedPart ts = CheckedSequence (within_sequence ts (record { tables = tables; path = path; opened = []; labels = [] })) ts

  part_clean : Clean (answers_of tables) (statement_part path own) (λ ts. OnceStanding own
      × (OuterOnce tables path → ShortStatements (statements_of_part own.statements) → CheckedPart ts)
      × (outermost_labels ts ≡ map (λ n. n.value) (outermost_prefixes (statements_of_part own.statements))))
  part_clean =
      let ss : PlainStatements = statements_of_part own.statements in
      clean_lift (assigns path)
      then λ ok. clean_report_if (not ok) 315 (begin_of own.statements)
      then λ u. clean_all (standing_label own) stand_clean own.labels
      then λ u. prefixes_clean [] (prefixes_in ss)
      then λ u. sequence_clean tables complete path (outermost path own) ss
      so λ ts g a s p q. (
        once own s a,
        λ f short.
            g.1 (record { opened = []; labels = outermost_labels ts ++ [] })
            (labels_fit tables complete path nowhere (record { region = record { path = path; opened = []; controlled = [] }; own = own; labels = [] }) ss ts g.0
            (fits_here (once own s a) f)) short,
        g.0,
      )

  -- ---- a block without errors

  -- no error of the declarations, and none of the statements
  no_errors : errors_in (answers_of tables) path own ≡ [] → (((elaborate path own).run (answers_of tables)).errors ≡ [])
      × (((statement_part path own []).run (answers_of tables)).1 ≡ [])
  no_errors e =
      no_front ((elaborate path own).run (answers_of tables)).errors ((statement_part path own []).run (answers_of tables)).1
      (no_reports ((judge path own).run (answers_of tables)).reports e)

  pub block_once : errors_in (answers_of tables) path own ≡ [] → OnceStanding own
  block_once e = (part_clean.by [] (no_errors e).1).1.0

  pub block_labels : errors_in (answers_of tables) path own ≡ [] →
      outermost_labels ((judge path own).run (answers_of tables)).statements ≡ map (λ n. n.value) (outermost_prefixes (statements_of_part own.statements))
  block_labels e = (part_clean.by [] (no_errors e).1).1.2

  pub block_checked : errors_in (answers_of tables) path own ≡ [] → OuterOnce tables path → ShortStatements (statements_of_part own.statements) →
      CheckedPart ((judge path own).run (answers_of tables)).statements
  block_checked e o short = (part_clean.by [] (no_errors e).1).1.1 o short

-- ---- all blocks

pub no_map : {A B : Type 0} (f : A → B) (xs : List A) → map f xs ≡ [] → xs ≡ []
no_map f [] e = refl
no_map f (x ∷ xs) e = absurd (let n : ⊥ = cc in n)

-- ---- each declaration has the path of its block, and each label stands once

abbrev PlacedDecl : List PathStep → Decl → Type 0
PlacedDecl path (decl.Const q v) = q ≡ path
PlacedDecl path (decl.Sort q t) = q ≡ path
PlacedDecl path (decl.Var q v) = q ≡ path
PlacedDecl path (decl.Param q p) = q ≡ path
PlacedDecl path (decl.Proc q r) = q ≡ path
PlacedDecl path (decl.Func q r offset) = q ≡ path
PlacedDecl path (decl.Label q s) = q ≡ path
PlacedDecl path (decl.Required r) = Unit {0}

own_placed : (path : List PathStep) (own : PlainBlock) (d : Decl) → OwnDecl path own d → PlacedDecl path d
own_placed path own (decl.Const q v) g = g
own_placed path own (decl.Sort q t) g = g
own_placed path own (decl.Var q v) g = g
own_placed path own (decl.Param q p) g = g
own_placed path own (decl.Proc q r) g = g
own_placed path own (decl.Func q r offset) g = g
own_placed path own (decl.Label q s) g = g.0
own_placed path own (decl.Required r) g = tt

abbrev OnceDecl : List PathStep → Decl → Type 0
OnceDecl path (decl.Label q s) = s ≡ standing.NotOnce → ⊥
OnceDecl path _ = Unit {0}

own_once : (path : List PathStep) (own : PlainBlock) → OnceStanding own → (d : Decl) → OwnDecl path own d → OnceDecl path d
own_once path own o (decl.Label q s) g = λ e. o g.1.0 g.1.1 (sym g.1.2 ∙ e)
own_once path own o d g = tt

points_map : (D E : Decl → Type 0) → ((d : Decl) → D d → E d) → (ps : Points) → AllPoints D ps → AllPoints E ps
points_map D E f [] g = tt
points_map D E f (p ∷ ps) g = (f p.1.decl g.0, points_map D E f ps g.1)

anything : (bs : List PlacedBlock) → AllByRecursion (λ b. Unit {0}) bs
anything [] = tt
anything (b ∷ bs) = (tt, anything bs)

placed : (program : PlainTree) → AllByRecursion (λ t. AllPoints (PlacedDecl t.path) t.names) (tables_of program)
placed program =
    each_table program (λ t. AllPoints (PlacedDecl t.path) t.names) (λ b. Unit {0})
    (λ b t r e g. subst (λ p. AllPoints (PlacedDecl p) t.names) (sym e) (points_map (OwnDecl b.path b.own) (PlacedDecl b.path) (own_placed b.path b.own) t.names g))
    (anything (blocks program))

once_all : (program : PlainTree) → AllByRecursion (λ b. OnceStanding b.own) (blocks program) → AllByRecursion (λ t. AllPoints (OnceDecl t.path) t.names) (tables_of program)
once_all program o =
    each_table program (λ t. AllPoints (OnceDecl t.path) t.names) (λ b. OnceStanding b.own)
    (λ b t r e g. subst (λ p. AllPoints (OnceDecl p) t.names) (sym e) (points_map (OwnDecl b.path b.own) (OnceDecl b.path) (own_once b.path b.own r) t.names g)) o

-- nothing is missing, and each declaration has its block's path
with_path : (tables : List Table) (path : List PathStep) (d : Decl) → PlacedDecl path d → PartsOf tables path d → CompleteDecl tables path d
with_path tables path (decl.Const q v) p g = g
with_path tables path (decl.Sort q t) p g = tt
with_path tables path (decl.Var q v) p g = (p, g)
with_path tables path (decl.Param q x) p g = (p, g)
with_path tables path (decl.Proc q r) p g = (p, g)
with_path tables path (decl.Func q r offset) p g = (p, g.0, g.1)
with_path tables path (decl.Label q s) p g = p
with_path tables path (decl.Required r) p g = tt

pub made_complete : (program : PlainTree) → NothingMissing (tables_of program) → Complete (tables_of program)
made_complete program m =
    record {
      names = λ path t n e p q. with_path (tables_of program) path e.decl (found_in PlacedDecl (tables_of program) path t n e (placed program) p q) (m.names path t n e p q);
      shapes = m.shapes;
    }

module _ (tables : List Table) (once' : AllByRecursion (λ t. AllPoints (OnceDecl t.path) t.names) tables) where
  outer_once : (path : List PathStep) → OuterOnce tables path
  outer_once path depth n q s e = by (table_at tables (take depth path)) refl e
    where
      entry : (t : Table) (o : Option Entry) → table_at tables (take depth path) ≡ Some t → lookup (bytes_eq n) t.names ≡ o →
          option_map (λ x. x.decl) o ≡ Some (decl.Label q s) → s ≡ standing.NotOnce → ⊥
      entry t None p k l = none_some l
      entry t (Some x) p k l = subst (OnceDecl (take depth path)) (some_inj l) (found_in OnceDecl tables (take depth path) t n x once' p k)

      by : (t : Option Table) → table_at tables (take depth path) ≡ t →
          option_map (λ x. x.decl) (option_and_then (λ y. lookup (bytes_eq n) y.names) t) ≡ Some (decl.Label q s) → s ≡ standing.NotOnce → ⊥
      by None p k = none_some k
      by (Some t) p k = entry t (lookup (bytes_eq n) t.names) p refl k

all_once : (tables : List Table) (complete : Complete tables) (bs : List PlacedBlock) → flat_map (errors_at (answers_of tables)) bs ≡ [] →
    AllByRecursion (λ b. OnceStanding b.own) bs
all_once tables complete [] e = tt
all_once tables complete (b ∷ bs) e =
    let h = no_front (errors_at (answers_of tables) b) (flat_map (errors_at (answers_of tables)) bs) e in
    (block_once tables complete b.path b.own (no_map _ (errors_in (answers_of tables) b.path b.own) h.0), all_once tables complete bs h.1)

blocks_checked : (tables : List Table) (complete : Complete tables) → ((path : List PathStep) → OuterOnce tables path) → (bs : List PlacedBlock) → ShortBlocks bs →
    flat_map (errors_at (answers_of tables)) bs ≡ [] → CheckedBlocks tables bs
blocks_checked tables complete o [] s e = tt
blocks_checked tables complete o (b ∷ bs) s e =
    let h = no_front (errors_at (answers_of tables) b) (flat_map (errors_at (answers_of tables)) bs) e in
    (block_checked tables complete b.path b.own (no_map _ (errors_in (answers_of tables) b.path b.own) h.0) (o b.path) s.0, blocks_checked tables complete o bs s.1 h.1)

pub complete_is_checked : (program : PlainTree) → CompleteIsChecked program
complete_is_checked program missing short accepted =
    let tables : List Table = tables_of program in
    let complete : Complete tables = made_complete program missing in
    let none = no_reports (flat_map (errors_at (answers_of tables)) (blocks program)) accepted in
    blocks_checked tables complete (outer_once tables (once_all program (all_once tables complete (blocks program) none))) (blocks program) short none
