-- A table that stands under its path is found by it, and one that is added goes last.
use Rattle.std.proofs.Common.{◌≡◌, Bool, cond, ◌&&◌, List, [], ◌∷◌, ◌++◌, Some, None, map, refl, sym, ap, subst, ◌∙◌}
use Rattle.std.specs.Map.{lookup, keys_of, values_of}
use Rattle.std.specs.Cmp.Lexicographic.{pointwise}
use Rattle.mp_base.specs.declared.path.PathStep.{PathStep}
use Rattle.mp_ast.specs.Blocks.{same_step, same_path}
use Rattle.mp_tables.specs.declared.tables.Table.{Table}
use Rattle.mp_tables.specs.Seen.{table_at}
use Rattle.indexmap.specs.IndexMap.{IndexMap, insert_entry}
use Rattle.indexmap.proofs.CallerLemmas.{insert_entry-new}
use Rattle.mp_scope.specs.Kept.{StandsIn, IsKept, Closed}
use Rattle.mp_scope.proofs.GrownLemmas.{closed-append}

module _ (step_eq : PathStep → PathStep → Bool) (same : (s t : PathStep) → step_eq s t ≡ same_step s t) where
  pointwise-steps : (p q : List PathStep) → pointwise step_eq p q ≡ same_path p q
  pointwise-steps [] [] = refl
  pointwise-steps [] (t ∷ q) = refl
  pointwise-steps (s ∷ p) [] = refl
  pointwise-steps (s ∷ p) (t ∷ q) = (λ i. same s t i && pointwise-steps p q i)

  pub lookup-tables :
      (path : List PathStep) (entries : List (List PathStep × Table)) → keys_of entries ≡ map (λ t. t.path) (values_of entries) →
      lookup (pointwise step_eq path) entries ≡ table_at (values_of entries) path
  lookup-tables path [] keyed = refl
  lookup-tables path (e ∷ entries) keyed =
      let first : e.0 ≡ e.1.path = cc in
      let more : keys_of entries ≡ map (λ t. t.path) (values_of entries) = cc in
      (λ i. cond (pointwise-steps path (first i) i) (Some e.1) (lookup-tables path entries more i))

pub values_of-append : {K V : Type 0} (es fs : List (K × V)) → values_of (es ++ fs) ≡ values_of es ++ values_of fs
values_of-append [] fs = refl
values_of-append (e ∷ es) fs = ap (λ xs. e.1 ∷ xs) (values_of-append es fs)

pub keyed-append :
    (entries : List (List PathStep × Table)) (path : List PathStep) (t : Table) → path ≡ t.path →
    keys_of entries ≡ map (λ t. t.path) (values_of entries) →
    keys_of (entries ++ (path, t) ∷ []) ≡ map (λ t. t.path) (values_of (entries ++ (path, t) ∷ []))
keyed-append [] path t same keyed = ap (λ p. p ∷ []) same
keyed-append (e ∷ entries) path t same keyed =
    let first : e.0 ≡ e.1.path = cc in
    let more : keys_of entries ≡ map (λ t. t.path) (values_of entries) = cc in
    (λ i. first i ∷ keyed-append entries path t same more i)

module _ {S : Type 0} (step_eq : PathStep → PathStep → Bool) (same : (s t : PathStep) → step_eq s t ≡ same_step s t)
    (old new : IndexMap (List PathStep) Table S) (path : List PathStep) (t : Table) (alike : path ≡ t.path)
    (entered : new.entries ≡ insert_entry (pointwise step_eq) old.entries path t) (kept : IsKept old.entries)
    (free : table_at (values_of old.entries) t.path ≡ None) where
  added : new.entries ≡ old.entries ++ (path, t) ∷ []
  added = entered ∙ insert_entry-new (pointwise step_eq) old path t (lookup-tables step_eq same path old.entries kept.keyed ∙ ap (table_at (values_of old.entries)) alike ∙ free)

  pub values_added : values_of new.entries ≡ values_of old.entries ++ t ∷ []
  values_added = ap values_of added ∙ values_of-append old.entries ((path, t) ∷ [])

  pub kept_added : StandsIn (values_of old.entries ++ t ∷ []) t → IsKept new.entries
  kept_added own =
      record {
        keyed = subst (λ es. keys_of es ≡ map (λ t. t.path) (values_of es)) (sym added) (keyed-append old.entries path t alike kept.keyed);
        closed = subst Closed (sym values_added) (closed-append (values_of old.entries) t kept.closed own);
      }
