use Rattle.std.proofs.Common.{◌≡◌, ◌∙◌, ◌++◌, ◌∷◌, [], None, refl, sym, ap, subst}
use Rattle.mp_base.specs.contracts.path.PathStepPartialEq.TheImpl as step
use Rattle.mp_tables.specs.Seen.{table_at}
use Rattle.mp_scope.specs.Kept.{StandsIn}
use Rattle.mp_scope.proofs.KeptLemmas.{values_added, kept_added}
use Rattle.mp_scope.proofs.tables.Tables.add.Goals as goal

pub invariant_of-self-2 : goal.invariant_of-self-2
invariant_of-self-2 c =
    let back = sym c.self.view_is in
    let free = subst (λ ts. table_at ts c.args.table.path ≡ None) back c.requires.new in
    let stands = subst (λ ts. StandsIn (ts ++ c.args.table ∷ []) c.args.table) back c.requires.stands in
    kept_added step.eq-value.it (λ s t. refl)
    c.self.inside.by_path c.insert.new.self c.in_ok-path.path c.args.table
    c.in_ok-path.ensures c.in_ok-insert.ensures.entries c.self.invariant free stands

pub returns-clause-ok : goal.returns-clause-ok
returns-clause-ok c =
    let free = subst (λ ts. table_at ts c.args.table.path ≡ None) (sym c.self.view_is) c.requires.new in
    values_added step.eq-value.it (λ s t. refl)
    c.self.inside.by_path c.insert.new.self c.in_ok-path.path c.args.table
    c.in_ok-path.ensures c.in_ok-insert.ensures.entries c.self.invariant free
    ∙ ap (λ ts. ts ++ c.args.table ∷ []) c.self.view_is
