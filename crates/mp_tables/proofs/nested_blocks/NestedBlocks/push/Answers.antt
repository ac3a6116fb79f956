use Rattle.std.proofs.Common.{◌≡◌, ap, sym, subst, refl, ◌∙◌, length, OnOk, ◌++◌, ◌∷◌, []}
use Rattle.std.specs.Map.{lookup}
use Rattle.indexmap.specs.IndexMap.{insert_entry}
use Rattle.indexmap.proofs.CallerLemmas.{insert_entry-new}
use Rattle.mp_base.specs.declared.path.PathStep.{PathStep}
use Rattle.mp_ast.specs.Blocks.{same_step}
use Rattle.mp_tables.specs.Lookups.{IsIndex}
use Rattle.mp_tables.proofs.LookupLemmas.{index_known, index_new, none_is, same_step-Decides}
use Rattle.mp_tables.proofs.nested_blocks.NestedBlocks.push.Goals as goal

pub invariant_of-self-then-contains_key : goal.invariant_of-self-then-contains_key
invariant_of-self-then-contains_key c =
    let known = sym c.contains_key.ensures ∙ c.if-contains_key.true in
    subst (IsIndex same_step (λ step x. same_step step x.step) c.self.inside.first.entries) (sym c.in_ok-push.ensures.ok)
    (index_known same_step (λ step x. same_step step x.step) same_step-Decides c.self.inside.first.entries c.self.inside.items _ c.args.nested.step
    c.self.invariant (λ q. refl) known)

pub invariant_of-self-2 : goal.invariant_of-self-2
invariant_of-self-2 c =
    let step = c.args.nested.step in
    let copied : PathStep = record { name = c.in_ok-copy.field-0; nth = step.nth } in
    let copy_is : copied ≡ step = (λ i. record { name = c.in_ok-copy.ensures i; nth = step.nth }) in
    let same : c.reserve.new.self.entries ≡ c.self.inside.first.entries = c.in_ok-reserve.ensures.entries in
    let new = sym c.contains_key.ensures ∙ c.if-contains_key.false in
    let free = none_is (lookup (same_step step) c.self.inside.first.entries) new in
    let absent = (λ i. lookup (same_step (copy_is i)) (same i)) ∙ free in
    let made =
    subst (λ r. OnOk r (c.insert.new.self.entries ≡ insert_entry same_step c.reserve.new.self.entries copied c.len-number.result)) c.unwrap.ensures c.insert.ensures.entries
    ∙ insert_entry-new same_step c.reserve.new.self copied c.len-number.result absent in
    let length_is : c.len-number.result ≡ length c.self.inside.items = c.len-number.ensures in
    let index =
    index_new same_step (λ step x. same_step step x.step) c.self.inside.first.entries c.self.inside.items c.args.nested step c.self.invariant (λ q. refl) in
    let entries = made ∙ (λ i. same i ++ (copy_is i, length_is i) ∷ []) in
    subst (λ items. IsIndex same_step (λ step x. same_step step x.step) c.insert.new.self.entries items) (sym c.in_ok-push-2.ensures.ok)
    (subst (λ entries. IsIndex same_step (λ step x. same_step step x.step) entries (c.self.inside.items ++ c.args.nested ∷ [])) (sym entries) index)
