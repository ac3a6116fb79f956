-- The laws of what blocks are counted by: declarations, depth, and ordinals of their own.
use Rattle.std.proofs.Common.{◌≡◌, ℕ, zero, suc, ◌+◌, ◌<◌, ◌≤◌, Bool, true, false, [], ◌++◌, length, Ok, Err, refl, sym, ap, ◌∙◌, subst, arith}
use Rattle.std.proofs.lemmas.Bool.{lt-ltb, ltb-true}
use Rattle.std.specs.Prelude.{if◌then◌else◌, nat_lt}
use Rattle.mp_ast.specs.Rules.{Input, Rule}
use Rattle.mp_ast.specs.Rules as rule
use Rattle.mp_cursor.specs.Nexts.{next_of}
use Rattle.mp_cursor.specs.Nexts.{Nexts}
use Rattle.mp_cursor.specs.Parsers.{Outcome, Parser, next_token, counted, deeper, with_own_ordinals, back_at, too_many, too_deep, left}
use Rattle.mp_cursor.proofs.Settled.{settles_counted, settles_deeper, settles_own_ordinals}
use Rattle.mp_cursor.specs.declared.failure.Failure.{Failure}
use Rattle.mp_cursor.proofs.Settled.{place, stopped, put}
use Rattle.mp_cursor.proofs.Recovery.{is_else, failure_is, Front, recovers_first}
use Rattle.mp_cursor.proofs.RuleLaws.{LawWhere, law_unfinished, read, read_is}

-- ---- declarations

abbrev one_more : Input → Input
one_more i = record i { declared = i.declared + 1 }

counted_by : (b : Bool) (i : Input) (x : Unit {0}) (j : Input) → (if b then read tt (one_more i) else Err (too_many i)) ≡ read x j → (b ≡ true) × (one_more i ≡ j)
counted_by true i x j h = (refl, (read_is tt x (one_more i) j h).1)
counted_by false i x j h = absurd (let n : ⊥ = cc in n)

counted_first : (b : Bool) (i : Input) (e : Failure) → (if b then read {A = Unit {0}} tt (one_more i) else Err (too_many i)) ≡ stopped e → place e ≡ length i.rest
unfolding too_many left
counted_first true i e h = absurd (let n : ⊥ = cc in n)
counted_first false i e h = sym (ap place (failure_is {A = Unit {0}} (too_many i) e h))

pub law_counted : {P : Type 0} (most : ℕ) (g : Nexts) → LawWhere P false g g (counted most) (rule.one_more_declaration most)
unfolding counted next_token
law_counted most g = record {
  sound = λ i x j h. let w = counted_by (nat_lt i.declared most) i x j h in (ltb-true _ _ w.0, sym w.1);
  complete = λ i x j d e.
      ap (λ b. if b then read tt (one_more i) else Err (too_many i)) (lt-ltb _ _ d.0) ∙ ap (λ m. read tt m) (sym d.1);
  begins = λ i x j d e. ap (λ m. g (next_of m.rest)) (sym d.1) ∙ e;
  shrinks = λ i x j h. let e = ap (λ m. length m.rest) (counted_by (nat_lt i.declared most) i x j h).1 in omega arith;
  settles = settles_counted most;
  moves = λ i x j d. ([], ap (λ m. m.rest) (sym d.1), λ t h. (d.0, ap (λ m. put m t) d.1));
  recovers = λ granted. recovers_first (counted most) (rule.one_more_declaration most) (λ i e h. counted_first (nat_lt i.declared most) i e h);
  ends = λ granted e. absurd (let n : ⊥ = cc in n);
}

-- ---- depth

too_deep_first : {A : Type 0} (p : Parser A) (i : Input) (e : Failure) → deeper zero p i ≡ stopped e → place e ≡ length i.rest
unfolding too_deep left
too_deep_first {A} p i e h = sym (ap place (failure_is {A = A} (too_deep i) e h))

-- where so many more blocks may stand in one another, and it is a law for what stands there
pub law_deeper : {P A : Type 0} {b : Bool} {f g : Nexts} {p : Parser A} {r : Rule A} (depth : ℕ) → LawWhere P b f g p r →
    LawWhere P false f g (deeper depth p) (rule.deeper depth r)
law_deeper {p = p} {r = r} zero a = record {
  sound = λ i x j h. absurd (let n : ⊥ = cc in n);
  complete = λ i x j d e. absurd d;
  begins = λ i x j d e. absurd d;
  shrinks = λ i x j h. absurd (let n : ⊥ = cc in n);
  settles = settles_deeper zero p a.settles;
  moves = λ i x j d. absurd d;
  recovers = λ granted. recovers_first (deeper zero p) (rule.deeper zero r) (too_deep_first p);
  ends = λ granted e. absurd (let n : ⊥ = cc in n);
}
law_deeper (suc depth) a = law_unfinished a

-- ---- ordinals of their own

abbrev afresh : Input → Input
afresh i = record i { at = 0 }

own_by : {A : Type 0} (r : Rule A) (i : Input) (x : A) (j : Input) (o : Outcome A) → ((y : A) (m : Input) → o ≡ read y m → r (afresh i) y m) →
    back_at i.at o ≡ read x j → rule.with_own_ordinals r i x j
own_by r i x j (Ok p) f h =
    let w = read_is p.0 x (record p.1 { at = i.at }) j h in
    (p.1, subst (λ y. r (afresh i) y p.1) w.0 (f p.0 p.1 refl), sym w.1)
own_by r i x j (Err e) f h = absurd (let n : ⊥ = cc in n)

own_shrinks : {A : Type 0} (at n : ℕ) (x : A) (j : Input) (o : Outcome A) → ((y : A) (m : Input) → o ≡ read y m → length m.rest ≤ n) → back_at at o ≡ read x j → length j.rest ≤ n
own_shrinks at n x j (Ok p) f h =
    let e = ap (λ m. length m.rest) (read_is p.0 x (record p.1 { at = at }) j h).1 in
    let l = f p.0 p.1 refl in
    omega arith
own_shrinks at n x j (Err e) f h = absurd (let m : ⊥ = cc in m)

own_recovers : {A : Type 0} (r : Rule A) (i : Input) (e : Failure) (o : Outcome A) → ((f : Failure) → o ≡ stopped f → place f < length i.rest →
    Front r (afresh i) (place f)) → back_at i.at o ≡ stopped e → place e < length i.rest → Front (rule.with_own_ordinals r) i (place e)
own_recovers r i e (Ok x) a h l = absurd (let n : ⊥ = cc in n)
own_recovers {A} r i e (Err f) a h l =
    let u = failure_is {A = A} f e h in
    let g = a e (ap stopped u) l in
    (g.0, g.1, g.2, g.3, record g.4 { at = i.at }, g.5, g.6, λ t o. (put g.4 t, g.7 t o, refl))

pub law_own_ordinals : {P A : Type 0} {b : Bool} {f g : Nexts} {p : Parser A} {r : Rule A} → LawWhere P b f g p r →
    LawWhere P b f g (with_own_ordinals p) (rule.with_own_ordinals r)
unfolding with_own_ordinals next_token
law_own_ordinals {g = g} {p = p} {r = r} a = record {
  sound = λ i x j h. own_by r i x j (p (afresh i)) (λ y m e. a.sound (afresh i) y m e) h;
  complete = λ i x j d e.
      ap (back_at i.at) (a.complete (afresh i) x d.0 d.1 (ap (λ m. g (next_of m.rest)) (sym d.2) ∙ e)) ∙ ap (λ m. read x m) (sym d.2);
  begins = λ i x j d e. a.begins (afresh i) x d.0 d.1 (ap (λ m. g (next_of m.rest)) (sym d.2) ∙ e);
  shrinks = λ i x j h. own_shrinks i.at (length i.rest) x j (p (afresh i)) (λ y m e. a.shrinks (afresh i) y m e) h;
  settles = settles_own_ordinals p a.settles;
  moves =
      λ i x j d. let w = a.moves (afresh i) x d.0 d.1 in let u = ap (λ m. m.rest) d.2 in (
        w.0,
        w.1 ∙ ap (λ ks. w.0 ++ ks) (sym u),
        λ t h. (put d.0 t, w.2 t (λ v. ap is_else (sym u) ∙ h v), ap (λ m. put m t) d.2),
      );
  recovers = λ granted i e h l. own_recovers r i e (p (afresh i)) (λ f u v. a.recovers granted (afresh i) f u v) h l;
  ends = λ granted e i. let w = a.ends granted e (afresh i) in (w.0, w.1, record w.2 { at = i.at }, w.3, λ t o. (put w.2 t, w.4 t o, refl));
}
