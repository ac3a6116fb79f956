use Rattle.std.proofs.Common.{◌≡◌, ap, sym, subst, ◌∙◌, nat_eq, length, OnOk, ◌++◌, ◌∷◌, []}
use Rattle.std.proofs.lemmas.Bool.Decides.{Decides-eqb}
use Rattle.std.specs.Map.{lookup}
use Rattle.indexmap.specs.IndexMap.{insert_entry}
use Rattle.indexmap.proofs.CallerLemmas.{insert_entry-new}
use Rattle.mp_tables.specs.Lookups.{IsIndex}
use Rattle.mp_tables.proofs.LookupLemmas.{index_known, index_new, nat_eq-turned, none_is}
use Rattle.mp_tables.proofs.shapes.Shapes.push.Goals as goal

pub invariant_of-self-then-contains_key : goal.invariant_of-self-then-contains_key
invariant_of-self-then-contains_key c =
    let known = sym c.contains_key.ensures ∙ c.if-contains_key.true in
    subst (IsIndex nat_eq (λ at x. nat_eq x.at at) c.self.inside.first.entries) (sym c.in_ok-push.ensures.ok)
    (index_known nat_eq (λ at x. nat_eq x.at at) Decides-eqb c.self.inside.first.entries c.self.inside.items _ c.args.shaped.at c.self.invariant
    (nat_eq-turned c.args.shaped.at) known)

pub invariant_of-self-2 : goal.invariant_of-self-2
invariant_of-self-2 c =
    let same : c.reserve.new.self.entries ≡ c.self.inside.first.entries = c.in_ok-reserve.ensures.entries in
    let new = sym c.contains_key.ensures ∙ c.if-contains_key.false in
    let free = none_is (lookup (nat_eq c.args.shaped.at) c.self.inside.first.entries) new in
    let made =
    subst (λ r. OnOk r (c.insert.new.self.entries ≡ insert_entry nat_eq c.reserve.new.self.entries c.args.shaped.at c.len-number.result)) c.unwrap.ensures
    c.insert.ensures.entries
    ∙ insert_entry-new nat_eq c.reserve.new.self c.args.shaped.at c.len-number.result (ap (lookup (nat_eq c.args.shaped.at)) same ∙ free) in
    let length_is : c.len-number.result ≡ length c.self.inside.items = c.len-number.ensures in
    let index =
    index_new nat_eq (λ at x. nat_eq x.at at) c.self.inside.first.entries c.self.inside.items c.args.shaped c.args.shaped.at c.self.invariant
    (nat_eq-turned c.args.shaped.at) in
    let entries = made ∙ (λ i. same i ++ (c.args.shaped.at, length_is i) ∷ []) in
    subst (λ items. IsIndex nat_eq (λ at x. nat_eq x.at at) c.insert.new.self.entries items) (sym c.in_ok-push-2.ensures.ok)
    (subst (λ entries. IsIndex nat_eq (λ at x. nat_eq x.at at) entries (c.self.inside.items ++ c.args.shaped ∷ [])) (sym entries) index)
