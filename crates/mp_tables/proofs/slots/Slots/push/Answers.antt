use Rattle.std.proofs.Common.{◌≡◌, ap, sym, subst, ◌∙◌, bytes_eq, length, OnOk, ◌++◌, ◌∷◌, []}
use Rattle.std.proofs.lemmas.Slice.Eq.{bytes_eq-Decides}
use Rattle.std.specs.Map.{lookup}
use Rattle.indexmap.specs.IndexMap.{insert_entry}
use Rattle.indexmap.proofs.CallerLemmas.{insert_entry-new}
use Rattle.mp_tables.specs.Lookups.{IsIndex}
use Rattle.mp_tables.specs.Sizes.{has_name}
use Rattle.mp_tables.proofs.LookupLemmas.{index_known, index_new, index_unnamed, none_is}
use Rattle.mp_tables.proofs.slots.Slots.push.Goals as goal

pub invariant_of-self-in-None : goal.invariant_of-self-in-None
invariant_of-self-in-None c =
    subst (IsIndex bytes_eq (λ n s. has_name n s.name) c.self.inside.first.entries) (sym c.in_ok-push-in-None.ensures.ok)
    (index_unnamed bytes_eq (λ n s. has_name n s.name) c.self.inside.first.entries c.self.inside.items _ c.self.invariant (λ q. ap (has_name q) c.in-None.is))

pub invariant_of-self-then-contains_key : goal.invariant_of-self-then-contains_key
invariant_of-self-then-contains_key c =
    let known = sym c.contains_key.ensures ∙ c.if-contains_key.true in
    subst (IsIndex bytes_eq (λ n s. has_name n s.name) c.self.inside.first.entries) (sym c.in_ok-push.ensures.ok)
    (index_known bytes_eq (λ n s. has_name n s.name) bytes_eq-Decides c.self.inside.first.entries c.self.inside.items _ _ c.self.invariant
    (λ q. ap (has_name q) c.in-Some.is ∙ ap (bytes_eq q) (sym c.in_ok-name-in-Some.ensures)) known)

pub invariant_of-self-2 : goal.invariant_of-self-2
invariant_of-self-2 c =
    let same : c.reserve.new.self.entries ≡ c.self.inside.first.entries = c.in_ok-reserve.ensures.entries in
    let new = sym c.contains_key.ensures ∙ c.if-contains_key.false in
    let free = none_is (lookup (bytes_eq c.in_ok-name-in-Some.name) c.self.inside.first.entries) new in
    let made =
    subst (λ r. OnOk r (c.insert.new.self.entries ≡ insert_entry bytes_eq c.reserve.new.self.entries c.in_ok-name-in-Some.name c.len-number.result)) c.unwrap.ensures c.insert.ensures.entries
    ∙ insert_entry-new bytes_eq c.reserve.new.self c.in_ok-name-in-Some.name c.len-number.result (ap (lookup (bytes_eq c.in_ok-name-in-Some.name)) same ∙ free) in
    let length_is : c.len-number.result ≡ length c.self.inside.items = c.len-number.ensures in
    let index =
    index_new bytes_eq (λ n s. has_name n s.name) c.self.inside.first.entries c.self.inside.items c.args.slot c.in_ok-name-in-Some.name c.self.invariant
    (λ q. ap (has_name q) c.in-Some.is ∙ ap (bytes_eq q) (sym c.in_ok-name-in-Some.ensures)) in
    let entries = made ∙ (λ i. same i ++ (c.in_ok-name-in-Some.name, length_is i) ∷ []) in
    subst (λ items. IsIndex bytes_eq (λ n s. has_name n s.name) c.insert.new.self.entries items) (sym c.in_ok-push-2.ensures.ok)
    (subst (λ entries. IsIndex bytes_eq (λ n s. has_name n s.name) entries (c.self.inside.items ++ c.args.slot ∷ [])) (sym entries) index)
