-- What each action keeps, and what it does with more starts left. It keeps the order of activations, and adds to the files
-- and to the numbers that were given. With more starts left it comes to the same, with as many more left; where it pauses
-- for want of a start it goes on, and adds to what there was at the pause.
use Rattle.std.proofs.Common.{◌≡◌, ℕ, zero, suc, ◌+◌, ◌<◌, ◌≤◌, Option, Some, None, Bool, true, false, refl, sym, ap, ◌∙◌, subst, arith}
use Rattle.std.specs.Prelude.{nat_eq}
use Rattle.mp_meaning.specs.Names.{Path}
use Rattle.mp_meaning.specs.Configurations.{Configuration}
use Rattle.mp_meaning.specs.Outcomes.{Outcome, Done, Jump, Fault, Limit, Hole, Paused, Spent, Wrong, Action, Command, bind, ◌>>=◌, ◌>>◌, gives, skip, now, update, fault, limit, wrong, needs, choose, unless, begin, start}
use Rattle.mp_meaning.specs.Calls.{outward}
use Rattle.mp_meaning.specs.Laws.{AreInOrder}
use Rattle.mp_meaning.proofs.GrowthValues.{Grown, grown_itself, grown_still, NoTags, tags_grown}

-- ---- configurations

pub record Upright (c : Configuration) : Type 0 where
  pub in_order : AreInOrder c.next c.activations
  pub some : 0 < c.next
  pub left : 0 < c.left
  pub tags : NoTags (c.roots 0).value

pub record Further (c d : Configuration) : Type 0 where
  pub next : c.next ≤ d.next
  pub output : Grown (c.roots 0).value (d.roots 0).value

pub further_itself : (c : Configuration) → Further c c
further_itself c = record { next = omega arith; output = grown_itself (c.roots 0).value }

pub further_still : (b c d : Configuration) → Further b c → Further c d → Further b d
further_still b c d f g = record {
  next = let low = f.next in let high = g.next in omega (arith, low, high);
  output = grown_still (b.roots 0).value (c.roots 0).value (d.roots 0).value f.output g.output;
}

pub tags_further : (c d : Configuration) → Further c d → NoTags (c.roots 0).value → NoTags (d.roots 0).value
tags_further c d f n = tags_grown (c.roots 0).value (d.roots 0).value f.output n

abbrev pub with_more : ℕ → Configuration → Configuration
with_more d c = record c { left = c.left + d }

-- ---- outcomes

abbrev pub Goes : Configuration → Configuration → Type 0
Goes c d = Upright d × Further c d

abbrev pub IsOnward : {A : Type 0} → (Path → Bool) → Configuration → Outcome A → Type 0
IsOnward closed c (Done v d) = Goes c d
IsOnward closed c (Jump l r d) = Goes c d
IsOnward closed c (Fault number at d) = Goes c d
IsOnward closed c (Limit number at d) = Goes c d
IsOnward closed c (Hole path at d) = (closed path ≡ true) × Goes c d
IsOnward closed c (Paused d) = AreInOrder d.next d.activations × (d.left ≡ 0) × Further c d
IsOnward closed c Spent = Unit {0}
IsOnward closed c Wrong = Unit {0}

pub record Onward {A : Type 0} (closed : Path → Bool) (c : Configuration) (o : Outcome A) : Type 0 where
  pub by : IsOnward closed c o

-- the outcome, and the one with so many starts more
abbrev pub IsSo : {A : Type 0} → (Path → Bool) → ℕ → Outcome A → Outcome A → Type 0
IsSo closed more (Done v d) o = o ≡ Done v (with_more more d)
IsSo closed more (Jump l r d) o = o ≡ Jump l r (with_more more d)
IsSo closed more (Fault number at d) o = o ≡ Fault number at (with_more more d)
IsSo closed more (Limit number at d) o = o ≡ Limit number at (with_more more d)
IsSo closed more (Hole path at d) o = o ≡ Hole path at (with_more more d)
IsSo closed more (Paused d) o = Onward closed d o
IsSo closed more Spent o = Unit {0}
IsSo closed more Wrong o = o ≡ Wrong

pub record So {A : Type 0} (closed : Path → Bool) (more : ℕ) (o q : Outcome A) : Type 0 where
  pub by : IsSo closed more o q

-- an action begun here
pub record SteadyAt {A : Type 0} (closed : Path → Bool) (c : Configuration) (m : Action A) : Type 0 where
  pub onward : Upright c → Onward closed c (m c)
  pub so : (more : ℕ) → Upright c → So closed more (m c) (m (with_more more c))

pub record Steady {A : Type 0} (closed : Path → Bool) (m : Action A) : Type 0 where
  pub by : (c : Configuration) → SteadyAt closed c m

-- ---- one after another

pub onward_still : {A : Type 0} {closed : Path → Bool} (b c : Configuration) (o : Outcome A) → Further b c → Onward closed c o → Onward closed b o
onward_still b c (Done v d) f g = let h = g.by in record { by = (h.0, further_still b c d f h.1) }
onward_still b c (Jump l r d) f g = let h = g.by in record { by = (h.0, further_still b c d f h.1) }
onward_still b c (Fault number at d) f g = let h = g.by in record { by = (h.0, further_still b c d f h.1) }
onward_still b c (Limit number at d) f g = let h = g.by in record { by = (h.0, further_still b c d f h.1) }
onward_still b c (Hole path at d) f g = let h = g.by in record { by = (h.0, (h.1.0, further_still b c d f h.1.1)) }
onward_still b c (Paused d) f g = let h = g.by in record { by = (h.0, h.1, further_still b c d f h.2) }
onward_still b c Spent f g = record { by = tt }
onward_still b c Wrong f g = record { by = tt }

pub onward_bind : {A B : Type 0} {closed : Path → Bool} (c : Configuration) (o : Outcome A) (go : A → Configuration → Outcome B) → Onward closed c o →
    ((v : A) (d : Configuration) → o ≡ Done v d → Upright d → Onward closed d (go v d)) → Onward closed c (bind o go)
onward_bind c (Done v d) go g f = let h = g.by in onward_still c d (go v d) h.1 (f v d refl h.0)
onward_bind c (Jump l r d) go g f = record { by = g.by }
onward_bind c (Fault number at d) go g f = record { by = g.by }
onward_bind c (Limit number at d) go g f = record { by = g.by }
onward_bind c (Hole path at d) go g f = record { by = g.by }
onward_bind c (Paused d) go g f = record { by = g.by }
onward_bind c Spent go g f = record { by = tt }
onward_bind c Wrong go g f = record { by = tt }

-- `f` is of the first outcome, `go_on` of any configuration from which the other one may go on
pub so_bind : {A B : Type 0} {closed : Path → Bool} (more : ℕ) (o q : Outcome A) (go : A → Configuration → Outcome B) → So closed more o q →
    ((v : A) (d : Configuration) → o ≡ Done v d → So closed more (go v d) (go v (with_more more d))) →
    ((v : A) (d : Configuration) → q ≡ Done v d → Upright d → Onward closed d (go v d)) → So closed more (bind o go) (bind q go)
so_bind {closed = closed} more (Done v d) q go g f h = subst (λ x. So closed more (go v d) (bind x go)) (sym g.by) (f v d refl)
so_bind more (Jump l r d) q go g f h = record { by = ap (λ x. bind x go) g.by }
so_bind more (Fault number at d) q go g f h = record { by = ap (λ x. bind x go) g.by }
so_bind more (Limit number at d) q go g f h = record { by = ap (λ x. bind x go) g.by }
so_bind more (Hole path at d) q go g f h = record { by = ap (λ x. bind x go) g.by }
so_bind more (Paused d) q go g f h = record { by = onward_bind d q go g.by h }
so_bind more Spent q go g f h = record { by = tt }
so_bind more Wrong q go g f h = record { by = ap (λ x. bind x go) g.by }

pub upright_done : {A : Type 0} {closed : Path → Bool} (c : Configuration) (o : Outcome A) (v : A) (d : Configuration) → Onward closed c o → o ≡ Done v d → Upright d
upright_done {A} {closed} c o v d g e = let h : Goes c d = (subst (λ o. Onward {A = A} closed c o) e g).by in h.0

-- The second action may rest on what the first one gives, begun here or with more starts left.
pub bind_at : {A B : Type 0} {closed : Path → Bool} {m : Action A} {go : A → Action B} (c : Configuration) → SteadyAt closed c m →
    ((b : Configuration) (v : A) (d : Configuration) → b.roots ≡ c.roots → b.activations ≡ c.activations → m b ≡ Done v d → SteadyAt closed d (go v)) →
    SteadyAt closed c (m >>= go)
bind_at {m = m} {go = go} c f g = record {
  onward = λ up. onward_bind c (m c) go (f.onward up) (λ v d e up. (g c v d refl refl e).onward up);
  so = λ more up. so_bind more (m c) (m (with_more more c)) go (f.so more up)
      (λ v d e. (g c v d refl refl e).so more (upright_done c (m c) v d (f.onward up) e))
      (λ v d e up. (g (with_more more c) v d refl refl e).onward up);
}

pub then_at : {A B : Type 0} {closed : Path → Bool} {m : Action A} {o : Action B} (c : Configuration) → SteadyAt closed c m →
    ((b : Configuration) (v : A) (d : Configuration) → b.roots ≡ c.roots → b.activations ≡ c.activations → m b ≡ Done v d → SteadyAt closed d o) → SteadyAt closed c (m >> o)
then_at {m = m} {o = o} c f g = record {
  onward = λ up. onward_bind c (m c) (λ v c. o c) (f.onward up) (λ v d e up. (g c v d refl refl e).onward up);
  so = λ more up. so_bind more (m c) (m (with_more more c)) (λ v c. o c) (f.so more up)
      (λ v d e. (g c v d refl refl e).so more (upright_done c (m c) v d (f.onward up) e))
      (λ v d e up. (g (with_more more c) v d refl refl e).onward up);
}

pub bind_with : {A B : Type 0} {closed : Path → Bool} {m : Action A} {go : A → Action B} → Steady closed m →
    ((c : Configuration) (v : A) (d : Configuration) → m c ≡ Done v d → SteadyAt closed d (go v)) → Steady closed (m >>= go)
bind_with f g = record { by = λ c. bind_at c (f.by c) (λ b v d r a e. g b v d e) }

pub bind_steady : {A B : Type 0} {closed : Path → Bool} {m : Action A} {go : A → Action B} → Steady closed m → ((v : A) → Steady closed (go v)) → Steady closed (m >>= go)
bind_steady f g = record { by = λ c. bind_at c (f.by c) (λ b v d r a e. (g v).by d) }

pub then_with : {A B : Type 0} {closed : Path → Bool} {m : Action A} {o : Action B} → Steady closed m →
    ((c : Configuration) (v : A) (d : Configuration) → m c ≡ Done v d → SteadyAt closed d o) → Steady closed (m >> o)
then_with f g = record { by = λ c. then_at c (f.by c) (λ b v d r a e. g b v d e) }

pub then_steady : {A B : Type 0} {closed : Path → Bool} {m : Action A} {o : Action B} → Steady closed m → Steady closed o → Steady closed (m >> o)
then_steady f g = record { by = λ c. then_at c (f.by c) (λ b v d r a e. g.by d) }

-- ---- actions

done_at : {A : Type 0} {closed : Path → Bool} (v : A) (c : Configuration) → Upright c → Onward closed c (Done v c)
done_at v c up = record { by = (up, further_itself c) }

pub gives_steady : {A : Type 0} {closed : Path → Bool} (v : A) → Steady closed (gives v)
gives_steady v = record { by = λ c. record { onward = done_at v c; so = λ more up. record { by = refl } } }

pub skip_steady : {closed : Path → Bool} → Steady closed skip
skip_steady = record { by = λ c. record { onward = done_at tt c; so = λ more up. record { by = refl } } }

pub fault_steady : {A : Type 0} {closed : Path → Bool} (at number : ℕ) → Steady {A = A} closed (fault at number)
fault_steady at number = record { by = λ c. record { onward = λ up. record { by = (up, further_itself c) }; so = λ more up. record { by = refl } } }

pub limit_steady : {A : Type 0} {closed : Path → Bool} (at number : ℕ) → Steady {A = A} closed (limit at number)
limit_steady at number = record { by = λ c. record { onward = λ up. record { by = (up, further_itself c) }; so = λ more up. record { by = refl } } }

pub wrong_steady : {A : Type 0} {closed : Path → Bool} → Steady {A = A} closed wrong
wrong_steady = record { by = λ c. record { onward = λ up. record { by = tt }; so = λ more up. record { by = refl } } }

pub needs_steady : {A : Type 0} {closed : Path → Bool} (o : Option A) → Steady closed (needs o)
needs_steady None = record { by = λ c. record { onward = λ up. record { by = tt }; so = λ more up. record { by = refl } } }
needs_steady (Some x) = record { by = λ c. record { onward = done_at x c; so = λ more up. record { by = refl } } }

-- an action that looks at the configuration, and not at the starts that are left
pub now_at : {A : Type 0} {closed : Path → Bool} {go : Configuration → Action A} (c : Configuration) → ((more : ℕ) (c : Configuration) → go (with_more more c) ≡ go c) →
    SteadyAt closed c (go c) → SteadyAt closed c (now >>= go)
now_at {closed = closed} {go = go} c same g = record {
  onward = g.onward;
  so = λ more up. subst (λ f. So closed more (go c c) (f (with_more more c))) (sym (same more c)) (g.so more up);
}

pub now_steady : {A : Type 0} {closed : Path → Bool} {go : Configuration → Action A} → ((more : ℕ) (c : Configuration) → go (with_more more c) ≡ go c) →
    ((c : Configuration) → Steady closed (go c)) → Steady closed (now >>= go)
now_steady same g = record { by = λ c. now_at c same ((g c).by c) }

-- a change of the configuration here
pub update_at : {closed : Path → Bool} (change : Configuration → Configuration) (c : Configuration) → ((more : ℕ) → change (with_more more c) ≡ with_more more (change c)) →
    (Upright c → Goes c (change c)) → SteadyAt closed c (update change)
update_at change c same goes = record { onward = λ up. record { by = goes up }; so = λ more up. record { by = ap (Done tt) (same more) } }

pub choose_at : {A : Type 0} {closed : Path → Bool} (b : Bool) {m o : Action A} (c : Configuration) → (b ≡ true → SteadyAt closed c m) → (b ≡ false → SteadyAt closed c o) →
    SteadyAt closed c (choose b m o)
choose_at true c f g = record { onward = (f refl).onward; so = (f refl).so }
choose_at false c f g = record { onward = (g refl).onward; so = (g refl).so }

pub choose_steady : {A : Type 0} {closed : Path → Bool} (b : Bool) {m o : Action A} → Steady closed m → Steady closed o → Steady closed (choose b m o)
choose_steady b f g = record { by = λ c. choose_at b c (λ e. f.by c) (λ e. g.by c) }

pub unless_steady : {closed : Path → Bool} (b : Bool) {m : Command} → Steady closed m → Steady closed (unless b m)
unless_steady true f = record { by = λ c. record { onward = done_at tt c; so = λ more up. record { by = refl } } }
unless_steady false f = record { by = λ c. record { onward = (f.by c).onward; so = (f.by c).so } }

-- what follows a test that all accepted programs pass
pub tested_at : {A : Type 0} {closed : Path → Bool} (b : Bool) {o : Action A} (c : Configuration) → (b ≡ true → SteadyAt closed c o) → SteadyAt closed c (unless b wrong >> o)
tested_at true c f = record { onward = (f refl).onward; so = (f refl).so }
tested_at false c f = record { onward = λ up. record { by = tt }; so = λ more up. record { by = refl } }

-- a change of what is kept beside activations, roots, numbers and starts
pub update_steady : {closed : Path → Bool} (change : Configuration → Configuration) → ((more : ℕ) (c : Configuration) → change (with_more more c) ≡ with_more more (change c)) →
    ((c : Configuration) → Upright c → Goes c (change c)) → Steady closed (update change)
update_steady change same goes = record { by = λ c. update_at change c (λ more. same more c) (goes c) }

pub begin_steady : {closed : Path → Bool} (at : ℕ) → Steady closed (begin at)
begin_steady {closed} at = record { by = λ c. record { onward = λ up. onward_by c c.left up; so = λ more up. so_by more c c.left up } }
  where
    upright_at : (c : Configuration) (left : ℕ) → 0 < left → Upright c → Upright (record c { left = left; at = at })
    upright_at c left some up = record { in_order = up.in_order; some = up.some; left = some; tags = up.tags }

    onward_by : (c : Configuration) (left : ℕ) → Upright c → Onward closed c (start at left c)
    onward_by c zero up = record { by = tt }
    onward_by c (suc zero) up = record { by = (up.in_order, refl, record { next = omega arith; output = grown_itself (c.roots 0).value }) }
    onward_by c (suc (suc n)) up = record { by = (upright_at c (suc n) (omega arith) up, record { next = omega arith; output = grown_itself (c.roots 0).value }) }

    by_more : (c : Configuration) (n : ℕ) → Upright c → Onward closed (record c { left = 0; at = at }) (start at n c)
    by_more c zero up = record { by = tt }
    by_more c (suc zero) up = record { by = (up.in_order, refl, record { next = omega arith; output = grown_itself (c.roots 0).value }) }
    by_more c (suc (suc n)) up = record { by = (upright_at c (suc n) (omega arith) up, record { next = omega arith; output = grown_itself (c.roots 0).value }) }

    upright_more : (more : ℕ) (c : Configuration) → Upright c → Upright (with_more more c)
    upright_more more c up = record { in_order = up.in_order; some = up.some; left = let some = up.left in omega (arith, some); tags = up.tags }

    two : (n more : ℕ) → suc (suc n) + more ≡ suc (suc (n + more))
    two n more = omega arith

    one : (n more : ℕ) → suc (n + more) ≡ suc n + more
    one n more = omega arith

    so_by : (more : ℕ) (c : Configuration) (left : ℕ) → Upright c → So closed more (start at left c) (start at (left + more) (with_more more c))
    so_by more c zero up = record { by = tt }
    so_by more c (suc zero) up = record { by = by_more (with_more more c) (1 + more) (upright_more more c up) }
    so_by more c (suc (suc n)) up = record { by = ap (λ l. start at l (with_more more c)) (two n more) ∙ ap (λ l. Done tt (record c { left = l; at = at })) (one n more) }

-- ---- the end of a call

pub onward_outward : {closed : Path → Bool} (number : ℕ) (c : Configuration) (o : Outcome (Unit {0})) → Onward closed c o → Onward closed c (outward number o)
onward_outward {closed} number c (Jump l r d) g = by_test (nat_eq number r)
  where
    by_test : (b : Bool) → Onward closed c (elim b as (λ is. Outcome (Unit {0})) [ true ↦ Wrong | false ↦ Jump l r d ])
    by_test true = record { by = tt }
    by_test false = g
onward_outward number c (Done v d) g = g
onward_outward number c (Fault x at d) g = g
onward_outward number c (Limit x at d) g = g
onward_outward number c (Hole path at d) g = g
onward_outward number c (Paused d) g = g
onward_outward number c Spent g = g
onward_outward number c Wrong g = g

pub so_outward : {closed : Path → Bool} (number more : ℕ) (o q : Outcome (Unit {0})) → So closed more o q → So closed more (outward number o) (outward number q)
so_outward {closed} number more (Jump l r d) q g = subst (λ x. So closed more (outward number (Jump l r d)) (outward number x)) (sym g.by) (by_test (nat_eq number r))
  where
    by_test : (b : Bool) → So closed more (elim b as (λ is. Outcome (Unit {0})) [ true ↦ Wrong | false ↦ Jump l r d ])
        (elim b as (λ is. Outcome (Unit {0})) [ true ↦ Wrong | false ↦ Jump l r (with_more more d) ])
    by_test true = record { by = refl }
    by_test false = record { by = refl }
so_outward number more (Done v d) q g = record { by = ap (outward number) g.by }
so_outward number more (Fault x at d) q g = record { by = ap (outward number) g.by }
so_outward number more (Limit x at d) q g = record { by = ap (outward number) g.by }
so_outward number more (Hole path at d) q g = record { by = ap (outward number) g.by }
so_outward number more (Paused d) q g = record { by = onward_outward number d q g.by }
so_outward number more Spent q g = record { by = tt }
so_outward number more Wrong q g = record { by = ap (outward number) g.by }
