-- The labels of a block's table are found in its typed statement part.
use Rattle.std.proofs.Common.{◌≡◌, ℕ, ◌<◌, Bool, true, false, cond, ◌||◌, List, [], ◌∷◌, Option, Some, None, refl, sym, ap, subst, map, nat_eq, eqb-true, eq-eqb, arith}
use Rattle.std.specs.Prelude.{bytes_eq, count_by, flat_map, option_map, option_and_then}
use Rattle.std.specs.Map.{lookup}
use Rattle.std.specs.List.{AllByRecursion, list_any}
use Rattle.std.proofs.lemmas.Bool.{ltb-false}
use Rattle.mp_ast.specs.declared.leaves.Number.{Number}
use Rattle.mp_ast.specs.PlainStatements.{PlainStatements}
use Rattle.mp_ast.specs.PlainTrees.{PlainTree, statements_of_part}
use Rattle.mp_ast.specs.Blocks.{PlacedBlock, blocks}
use Rattle.mp_tables.specs.declared.declarations.Decl.{Decl}
use Rattle.mp_tables.specs.declared.declarations.Decl.TheVariants as decl
use Rattle.mp_tables.specs.declared.declarations.LabelStanding.{LabelStanding}
use Rattle.mp_tables.specs.declared.declarations.LabelStanding.TheVariants as standing
use Rattle.mp_tables.specs.declared.tables.Entry.{Entry}
use Rattle.mp_tables.specs.declared.tables.Table.{Table}
use Rattle.mp_tables.specs.Asks.{Answers}
use Rattle.mp_tables.specs.StatementWalks.{label_name, has_value, prefixes_in, outermost_prefixes, standing_of}
use Rattle.mp_tables.specs.Seen.{table_at, answers_of}
use Rattle.mp_tables.specs.Elaboration.{elaborate, name_at}
use Rattle.mp_tables.specs.Statements.{statement_part}
use Rattle.mp_tables.specs.ProgramErrors.{judge, errors_in, errors_at, table_after, tables_of, typed_in}
use Rattle.mp_tables.specs.Complete.{Complete}
use Rattle.mp_tables.specs.Frames.{LabelsStand, LabelsFound}
use Rattle.mp_tables.proofs.CleanLemmas.{none_some, some_inj, false_true}
use Rattle.mp_tables.proofs.CheckedLemmas.{no_front, no_map, no_reports, block_labels, made_complete}
use Rattle.mp_tables.proofs.StableLemmas.{tables_are_stable}
use Rattle.mp_tables.proofs.DigitLemmas.{label_same}
use Rattle.mp_tables.proofs.FrameLemmas.{the_block, Small, labelled_last, labels_small}

-- where a label stands that is said to stand in the outermost sequence
outermost_is : (ss : PlainStatements) (v : ℕ) → standing_of ss v ≡ standing.Outermost → list_any (has_value v) (outermost_prefixes ss) ≡ true
outermost_is ss v e = by (nat_eq (count_by (has_value v) (prefixes_in ss)) 1) (list_any (has_value v) (outermost_prefixes ss)) e
  where
    by : (x y : Bool) → cond x (cond y standing.Outermost standing.Inner) standing.NotOnce ≡ standing.Outermost → y ≡ true
    by true true h = refl
    by true false h = absurd (let n : ⊥ = cc in n)
    by false y h = absurd (let n : ⊥ = cc in n)

small_in : (ns : List Number) (v : ℕ) → Small ns → list_any (has_value v) ns ≡ true → v < 10000
small_in [] v g e = false_true e
small_in (n ∷ ns) v g e = by (has_value v n) refl e (small_in ns v g.1)
  where
    by : (b : Bool) → has_value v n ≡ b → (b || list_any (has_value v) ns) ≡ true → (list_any (has_value v) ns ≡ true → v < 10000) → v < 10000
    by true p q f = let same : n.value ≡ v = eqb-true n.value v p in omega (arith, same, ltb-false 9999 n.value g.0)
    by false p q f = f q

values_in : (v : ℕ) (ns : List Number) → list_any (has_value v) ns ≡ true → list_any (nat_eq v) (map (λ n. n.value) ns) ≡ true
values_in v [] e = e
values_in v (n ∷ ns) e = by (has_value v n) refl e (values_in v ns)
  where
    behind : (x : Bool) {y : Bool} → y ≡ true → (x || y) ≡ true
    behind true k = refl
    behind false k = k

    by : (b : Bool) → has_value v n ≡ b → (b || list_any (has_value v) ns) ≡ true → (list_any (has_value v) ns ≡ true → list_any (nat_eq v) (map (λ m. m.value) ns) ≡ true) →
        (nat_eq v n.value || list_any (nat_eq v) (map (λ m. m.value) ns)) ≡ true
    by true p q f = ap (λ x. x || list_any (nat_eq v) (map (λ m. m.value) ns)) (eq-eqb v n.value (sym (eqb-true n.value v p)))
    by false p q f = behind (nat_eq v n.value) (f q)

abbrev standing_in : Decl → Option LabelStanding
standing_in (decl.Label q s) = Some s
standing_in _ = None

module _ (tables : List Table) (complete : Complete tables) where
  block_labelled : (b : PlacedBlock) → table_at tables b.path ≡ Some (table_after tables b) → errors_in (answers_of tables) b.path b.own ≡ [] →
      LabelsStand tables (typed_in (answers_of tables) b.path b.own)
  block_labelled b t e l d =
      let a : Answers = answers_of tables in
      let none = (no_front ((elaborate b.path b.own).run a).errors ((statement_part b.path b.own []).run a).1 (no_reports ((judge b.path b.own).run a).reports e)).0 in
      let g = found (lookup (bytes_eq (label_name l)) (table_after tables b).names)
      (subst (λ o. option_map (λ x. x.decl) (option_and_then (λ y. lookup (bytes_eq (label_name l)) y.names) o) ≡ Some (decl.Label b.path standing.Outermost)) t d) in
      let k = (labelled_last a (the_block tables b.path b.own) (name_at b.path)).labels (label_name l) g.0 b.path standing.Outermost g.1 g.2 in
      let small = small_in b.own.labels k.0 (labels_small a (the_block tables b.path b.own) (name_at b.path) none) k.2 in
      let same : k.0 ≡ l = label_same k.0 l small (sym k.1) in
      let outer : standing_of (statements_of_part b.own.statements) k.0 ≡ standing.Outermost = sym (some_inj (ap standing_in k.3)) in
      let stands =
      values_in l (outermost_prefixes (statements_of_part b.own.statements))
      (subst (λ v. list_any (has_value v) (outermost_prefixes (statements_of_part b.own.statements)) ≡ true) same
      (outermost_is (statements_of_part b.own.statements) k.0 outer)) in
      subst (λ ns. list_any (nat_eq l) ns ≡ true) (sym (block_labels tables complete b.path b.own e)) stands
    where
      found : (o : Option Entry) → option_map (λ x. x.decl) o ≡ Some (decl.Label b.path standing.Outermost) → (x : Entry) × (o ≡ Some x)
          × (x.decl ≡ decl.Label b.path standing.Outermost)
      found None h = none_some h
      found (Some x) h = (x, refl, some_inj h)

  blocks_labelled : (bs : List PlacedBlock) → AllByRecursion (λ b. table_at tables b.path ≡ Some (table_after tables b)) bs → flat_map (errors_at (answers_of tables)) bs ≡ [] →
      AllByRecursion (λ b. LabelsStand tables (typed_in (answers_of tables) b.path b.own)) bs
  blocks_labelled [] t e = tt
  blocks_labelled (b ∷ bs) t e =
      let h = no_front (errors_at (answers_of tables) b) (flat_map (errors_at (answers_of tables)) bs) e in
      (block_labelled b t.0 (no_map _ (errors_in (answers_of tables) b.path b.own) h.0), blocks_labelled bs t.1 h.1)

pub labels_found : (program : PlainTree) → LabelsFound program
labels_found program missing accepted =
    blocks_labelled (tables_of program) (made_complete program missing) (blocks program) (tables_are_stable program)
    (no_reports (flat_map (errors_at (answers_of (tables_of program))) (blocks program)) accepted)
