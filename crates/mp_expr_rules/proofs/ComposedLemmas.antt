-- Calls one after another follow rules one after another, where each gives its result in a form of its own; and what a loop keeps
-- that has followed a rule so far.
use Rattle.std.proofs.Common.{◌≡◌, ℕ, false, List, [], ◌∷◌, ◌++◌, Result, Ok, Err, refl, ap, ◌∙◌}
use Rattle.mp_tables.specs.declared.errors.RuleError.{RuleError}
use Rattle.std.specs.Prelude.{IfOk}
use Rattle.mp_base.specs.declared.memory.Memory.{Memory}
use Rattle.mp_tables.specs.Asks.{State, after, Kept}
use Rattle.mp_tables.specs.Reports.{Threads, Rule, ◌>>=◌, ◌>>◌, pure, report, report_if, FollowsAs, Rest}

-- no question changes what a scope answers, however many are asked
pub kept_on : (s u v : State) → Kept s u → Kept u v → Kept s v
kept_on s u v h k =
    record {
      answers = k.answers ∙ h.answers;
      stands = k.stands ∙ h.stands;
      paths = k.paths ∙ h.paths;
    }

-- a scope that was asked answers as before
pub kept_after : {S X A : Type 0} (f : X → A) (m : Threads S A) (s u : State) (x y : S) (r : X) → FollowsAs f m s x u y (Ok r) → Kept s u
kept_after f m s u x y r h =
    record {
      answers = ap (λ t. t.answers) h.1;
      stands = ap (λ t. t.stands) h.1;
      paths = ap (λ t. t.path_stands) h.1;
    }

module _ {S A B X : Type 0} (f : X → A) (m : Threads S A) (k : A → Threads S B) where
  -- the first call has answered r, and left the scope u and the state y
  pub follows_as_on :
      {Y : Type 0} (g : Y → B) (s u v : State) (x y z : S) (r : X) (q : Result Y Memory) →
      FollowsAs f m s x u y (Ok r) → FollowsAs g (k (f r)) u y v z q → FollowsAs g (m >>= k) s x v z q
  follows_as_on g s u v x y z r (Ok w) first h =
      (h.0 ∙ (λ i. (k (first.0 i).0 (first.0 i).1).run (first.1 i).answers), h.1 ∙ (λ i. after (k (first.0 i).0 (first.0 i).1) (first.1 i)))
  follows_as_on g s u v x y z r (Err e) first h = kept_on s u v (kept_after f m s u x y r first) h

  -- the next call of what is left has answered r
  pub rest_on :
      {C : Type 0} (s u : State) (x y : S) (whole : Threads S C) (first : State) (none : S) (r : X) (go : B → Threads S C) →
      Rest (λ e. (m >>= (λ a. k a >>= go)) e) s x whole first none → FollowsAs f m s x u y (Ok r) → Rest (k (f r) >>= go) u y whole first none
  rest_on s u x y whole first none r go rest h =
      record {
        found = (λ i. ((k (h.0 i).0 >>= go) (h.0 i).1).run (h.1 i).answers) ∙ rest.found;
        left = (λ i. after ((k (h.0 i).0 >>= go) (h.0 i).1) (h.1 i)) ∙ rest.left;
        kept = kept_on first s u rest.kept (kept_after f m s u x y r h);
      }

-- an error was reported first
pub after_report :
    {B Y : Type 0} (g : Y → B) (k : Rule B) (code at : ℕ) (s v : State) (e e1 z : List RuleError) (q : Result Y Memory) →
    e1 ≡ e ++ record { at = at; code = code } ∷ [] → FollowsAs g k s e1 v z q → FollowsAs g (report code at >> k) s e v z q
after_report g k code at s v e e1 z q h rest = follows_as_on (λ (x : Unit {0}). x) (report code at) (λ _. k) g s s v e e1 z tt q ((λ i. (tt, h i)), refl) rest

-- no error was reported first
pub unreported :
    {B Y : Type 0} (g : Y → B) (k : Rule B) (code at : ℕ) (s v : State) (e z : List RuleError) (q : Result Y Memory) →
    FollowsAs g k s e v z q → FollowsAs g (report_if false code at >> k) s e v z q
unreported g k code at s v e z q h = follows_as_on (λ (x : Unit {0}). x) (report_if false code at) (λ _. k) g s s v e e z tt q (refl, refl) h

-- what is found without asking
pub found_by :
    {B Y : Type 0} (g : Y → B) (b : B) (s : State) (e : List RuleError) (q : Result Y Memory) → IfOk q (λ y. g y ≡ b) → FollowsAs g (pure b) s e s e q
found_by g b s e (Ok y) h = ((λ i. (h i, e)), refl)
found_by g b s e (Err x) h = record { answers = refl; stands = refl; paths = refl }

module _ {S C : Type 0} where
  -- nothing is left
  pub rest_done :
      {X : Type 0} (f : X → C) (v : C) (r : X) (s : State) (x : S) (whole : Threads S C) (first : State) (none : S) →
      Rest (pure v) s x whole first none → f r ≡ v → FollowsAs f whole first none s x (Ok r)
  rest_done f v r s x whole first none rest e = ((λ i. (e i, x)) ∙ rest.found, rest.left)

  -- all is left
  pub rest_all : (whole : Threads S C) (first : State) (none : S) → Rest whole first none whole first none
  rest_all whole first none = record { found = refl; left = refl; kept = record { answers = refl; stands = refl; paths = refl } }
