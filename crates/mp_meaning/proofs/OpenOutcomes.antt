-- The same program with no block closed: an action does what it does there, unless it meets a hole.
use Rattle.std.proofs.Common.{◌≡◌, ℕ, Bool, true, false, refl, ap, subst}
use Rattle.mp_meaning.specs.Configurations.{Configuration}
use Rattle.mp_meaning.specs.Outcomes.{Outcome, Done, Jump, Fault, Limit, Hole, Paused, Spent, Wrong, Action, bind, ◌>>=◌, ◌>>◌, choose}
use Rattle.mp_meaning.specs.Calls.{outward}

abbrev pub FollowsBy : {A : Type 0} → Outcome A → Outcome A → Type 0
FollowsBy (Done v c) o = Done v c ≡ o
FollowsBy (Jump l r c) o = Jump l r c ≡ o
FollowsBy (Fault number at c) o = Fault number at c ≡ o
FollowsBy (Limit number at c) o = Limit number at c ≡ o
FollowsBy (Hole path at c) o = Unit {0}
FollowsBy (Paused c) o = Paused c ≡ o
FollowsBy Spent o = Unit {0}
FollowsBy Wrong o = Unit {0}

pub record Follows {A : Type 0} (o q : Outcome A) : Type 0 where
  pub by : FollowsBy o q

pub record Opens {A : Type 0} (m n : Action A) : Type 0 where
  pub by : (c : Configuration) → Follows (m c) (n c)

pub follows_itself : {A : Type 0} (o : Outcome A) → Follows o o
follows_itself (Done v c) = record { by = refl }
follows_itself (Jump l r c) = record { by = refl }
follows_itself (Fault number at c) = record { by = refl }
follows_itself (Limit number at c) = record { by = refl }
follows_itself (Hole path at c) = record { by = tt }
follows_itself (Paused c) = record { by = refl }
follows_itself Spent = record { by = tt }
follows_itself Wrong = record { by = tt }

follows_equal : {A : Type 0} {o q : Outcome A} → o ≡ q → Follows o q
follows_equal {o} e = subst (λ x. Follows o x) e (follows_itself o)

pub itself : {A : Type 0} {m : Action A} → Opens m m
itself {m} = record { by = λ c. follows_itself (m c) }

-- what makes no call
pub alike : {A : Type 0} (m : Action A) → Opens m m
alike m = itself

pub follows_bind : {A B : Type 0} (o q : Outcome A) (go on : A → Configuration → Outcome B) → Follows o q → ((v : A) (c : Configuration) → Follows (go v c) (on v c)) →
    Follows (bind o go) (bind q on)
follows_bind (Done v c) q go on g f = subst (λ x. Follows (go v c) (bind x on)) g.by (f v c)
follows_bind (Jump l r c) q go on g f = record { by = ap (λ x. bind x on) g.by }
follows_bind (Fault number at c) q go on g f = record { by = ap (λ x. bind x on) g.by }
follows_bind (Limit number at c) q go on g f = record { by = ap (λ x. bind x on) g.by }
follows_bind (Hole path at c) q go on g f = record { by = tt }
follows_bind (Paused c) q go on g f = record { by = ap (λ x. bind x on) g.by }
follows_bind Spent q go on g f = record { by = tt }
follows_bind Wrong q go on g f = record { by = tt }

pub bind_opens : {A B : Type 0} {m n : Action A} {go on : A → Action B} → Opens m n → ((v : A) → Opens (go v) (on v)) → Opens (m >>= go) (n >>= on)
bind_opens {m} {n} {go} {on} f g = record { by = λ c. follows_bind (m c) (n c) go on (f.by c) (λ v after. (g v).by after) }

pub then_opens : {A B : Type 0} {m n : Action A} {o q : Action B} → Opens m n → Opens o q → Opens (m >> o) (n >> q)
then_opens {m} {n} {o} {q} f g = record { by = λ c. follows_bind (m c) (n c) (λ v c. o c) (λ v c. q c) (f.by c) (λ v after. g.by after) }

pub choose_opens : {A : Type 0} (b : Bool) {m n o q : Action A} → Opens m n → Opens o q → Opens (choose b m o) (choose b n q)
choose_opens true f g = record { by = λ c. f.by c }
choose_opens false f g = record { by = λ c. g.by c }

pub follows_outward : (number : ℕ) (o q : Outcome (Unit {0})) → Follows o q → Follows (outward number o) (outward number q)
follows_outward number (Done v c) q g = follows_equal (ap (outward number) g.by)
follows_outward number (Jump l r c) q g = follows_equal (ap (outward number) g.by)
follows_outward number (Fault x at c) q g = follows_equal (ap (outward number) g.by)
follows_outward number (Limit x at c) q g = follows_equal (ap (outward number) g.by)
follows_outward number (Hole path at c) q g = record { by = tt }
follows_outward number (Paused c) q g = follows_equal (ap (outward number) g.by)
follows_outward number Spent q g = record { by = tt }
follows_outward number Wrong q g = record { by = tt }
