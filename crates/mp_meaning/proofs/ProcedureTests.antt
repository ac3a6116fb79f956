-- A program that passes the test has procedures without results.
use Rattle.std.proofs.Common.{◌≡◌, List, [], ◌∷◌, ◌++◌, Option, Some, None, Bool, true, false, refl, sym, subst}
use Rattle.std.specs.Prelude.{◌||◌, not, find, option_and_then, is_some, is_none}
use Rattle.mp_base.specs.declared.path.PathStep.{PathStep}
use Rattle.mp_ast.specs.Blocks.{same_path, same_step}
use Rattle.mp_tables.specs.declared.headings.FormalKind.{FormalKind}
use Rattle.mp_tables.specs.declared.headings.FormalKind.TheVariants as formal
use Rattle.mp_tables.specs.declared.declarations.Decl.TheVariants as decl
use Rattle.mp_tables.specs.declared.tables.Nested.{Nested}
use Rattle.mp_tables.specs.declared.tables.Table.{Table}
use Rattle.mp_tables.specs.TypeRelations.{same_kind}
use Rattle.mp_tables.specs.Calls.{heading_or_none}
use Rattle.mp_tables.specs.Seen.{table_at, nested_at, heading_of}
use Rattle.mp_tables.specs.CheckedTests.{each}
use Rattle.mp_tables.proofs.CheckedTestLemmas.{all_parts}
use Rattle.mp_meaning.specs.Names.{Path, same_path as same_name_path}
use Rattle.mp_meaning.specs.Programs.{result_number}
use Rattle.mp_meaning.specs.CheckedProgramTests.{names_in, block_without_result, routine_without_result, parameter_without_result, ProceduresTestTells}
use Rattle.mp_meaning.proofs.SoundNumbers.{path_of_block}
use Rattle.mp_meaning.proofs.SoundTests.{each_found, entry_found, declared_entry}

or_none : {X : Type 0} (b : Bool) (o : Option X) → (b || is_none o) ≡ true → b ≡ false → o ≡ None
or_none true o e f = absurd (let f : ⊥ = cc in f)
or_none false None e f = refl
or_none false (Some x) e f = absurd (let f : ⊥ = cc in f)

some_or_none : {X Y : Type 0} (o : Option X) (q : Option Y) → (is_some o || is_none q) ≡ true → o ≡ None → q ≡ None
some_or_none None q e f = or_none false q e refl
some_or_none (Some x) q e f = absurd (let f : ⊥ = cc in f)

of_procedure : {X : Type 0} (k : FormalKind) (o : Option X) → (not (same_kind k formal.Procedure) || is_none o) ≡ true → k ≡ formal.Procedure → o ≡ None
of_procedure k o e is = or_none false o (subst (λ k. (not (same_kind k formal.Procedure) || is_none o) ≡ true) is e) refl

nested_without : (tables : List Table) → each (λ t. each routine_without_result t.nested) tables ≡ true → (around path : List PathStep) (n : Nested) →
    nested_at tables around path ≡ Some n → routine_without_result n ≡ true
nested_without tables k around [] n e = absurd (let f : ⊥ = cc in f)
nested_without tables k around (step ∷ []) n e = by_table (table_at tables around) refl e
  where
    by_table : (o : Option Table) → table_at tables around ≡ o → option_and_then (λ t. find (λ x. same_step step x.step) t.nested) o ≡ Some n → routine_without_result n ≡ true
    by_table None is e = absurd (let f : ⊥ = cc in f)
    by_table (Some t) is e = each_found routine_without_result (λ x. same_step step x.step) t.nested n
        (each_found (λ t. each routine_without_result t.nested) (λ t. same_path around t.path) tables t k is) e
nested_without tables k around (step ∷ next ∷ inward) n e = nested_without tables k (around ++ step ∷ []) (next ∷ inward) n e

names_without : (tables : List Table) → each (λ t. each (λ e. parameter_without_result e.1.decl) t.names) tables ≡ true → (path : Path) (o : Option Table) →
    table_at tables path ≡ o → each (λ e. parameter_without_result e.1.decl) (names_in o) ≡ true
names_without tables k path None e = refl
names_without tables k path (Some t) e = each_found (λ t. each (λ e. parameter_without_result e.1.decl) t.names) (λ t. same_path path t.path) tables t k e

pub procedures_test_tells : ProceduresTestTells
procedures_test_tells tables p k =
    let a = all_parts (each (block_without_result tables) p.blocks ∷ each (λ t. each routine_without_result t.nested) tables ∷
    each (λ t. each (λ e. parameter_without_result e.1.decl) t.names) tables ∷ []) k in
    record {
      block = λ path b e none.
          let passes = each_found (block_without_result tables) (λ b. same_name_path b.path path) p.blocks b a.0 e in
          let same : b.path ≡ path = path_of_block p path b e in
          some_or_none (heading_of tables b.path).result (result_number b.frame) passes (subst (λ q. (heading_of tables q).result ≡ None) (sym same) none);
      routine = λ path n e is. or_none n.function n.heading.result (nested_without tables a.1.0 [] path n e) is;
      parameter = λ path n q e is.
          let x = declared_entry tables path n (decl.Param path q) e in
          let passes : parameter_without_result (decl.Param path q) ≡ true = subst (λ d. parameter_without_result d ≡ true) x.is
          (entry_found (λ n x. parameter_without_result x.decl) n (names_in (table_at tables path)) x.entry
          (names_without tables a.1.1.0 path (table_at tables path) refl) x.found) in
          of_procedure q.kind (heading_or_none q.own).result passes is;
    }
