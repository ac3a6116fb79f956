-- No rule of declarations takes a name away, adds one, or moves its defining point: each fills in at the point that stands.
use Rattle.std.proofs.Common.{◌≡◌, ℕ, Bool, true, false, cond, ◌&&◌, List, [], ◌++◌, Option, Some, None, nat_eq, eqb-true, refl, sym, ap, ◌∙◌}
use Rattle.std.specs.Prelude.{bytes_eq, option_map}
use Rattle.std.specs.Map.{lookup}
use Rattle.mp_base.specs.declared.path.PathStep.{PathStep}
use Rattle.mp_ast.specs.PlainTrees.{PlainBlock}
use Rattle.mp_tables.specs.declared.declarations.Decl.{Decl}
use Rattle.mp_tables.specs.declared.tables.Entry.{Entry}
use Rattle.mp_tables.specs.Asks.{Answers}
use Rattle.mp_tables.specs.DefiningPoints.{Points, Declaring, given_points, label_points, declared_points, with_points, filled}
use Rattle.mp_tables.specs.Seen.{or_else}
use Rattle.mp_tables.specs.Denoters.{Known}
use Rattle.mp_tables.specs.Headings.{parameters_in}
use Rattle.mp_tables.specs.Elaboration.{parameter_points, name_at, declarations, nothing_known}
use Rattle.mp_tables.specs.FirstPoints.{FirstPointIsFound, OwnPointIsFilled, FirstPointsStand, defined_at, tokens_of, points_of}
use Rattle.mp_tables.proofs.FoundNames.{lookup_append, lookup_with, lookup_filled}
use Rattle.mp_tables.proofs.StaysLemmas.{IsKept}
use Rattle.mp_tables.proofs.FrameLemmas.{after_given, after_names, definitions_stay}

pub first_point_is_found : (points : Points) → FirstPointIsFound points
first_point_is_found points n = lookup_with n [] points

pub own_point_is_filled : (known : Points) → OwnPointIsFilled known
own_point_is_filled known n m at d = lookup_filled n m at d known

-- a definition that is filled in keeps the tokens
tokens_kept : (same : Bool) (at : ℕ) (d : Decl) (found : Option Entry) → tokens_of (option_map (defined_at same at d) found) ≡ tokens_of found
tokens_kept same at d None = refl
tokens_kept false at d (Some e) = refl
tokens_kept true at d (Some e) = by (nat_eq e.at at) refl
  where
    by : (b : Bool) → nat_eq e.at at ≡ b →
        tokens_of (Some (cond b (record { decl = d; at = at; last = e.last }) e)) ≡ tokens_of (Some e)
    by true same = let there = sym (eqb-true e.at at same) in (λ i. Some (record { at = there i; last = e.last }))
    by false other = refl

-- the names that stand are these, with these tokens
record Has (points : Points) (k : Known) : Type 0 where
  pub by : (n : List ℕ) → tokens_of (lookup (bytes_eq n) k.names) ≡ tokens_of (lookup (bytes_eq n) points)

filled_has : (points names : Points) (m : List ℕ) (at : ℕ) (d : Decl) (n : List ℕ) →
    tokens_of (lookup (bytes_eq n) names) ≡ tokens_of (lookup (bytes_eq n) points) → tokens_of (lookup (bytes_eq n) (filled m at d names)) ≡ tokens_of (lookup (bytes_eq n) points)
filled_has points names m at d n e = ap tokens_of (lookup_filled n m at d names) ∙ tokens_kept (bytes_eq m n) at d (lookup (bytes_eq n) names) ∙ e

has_kept : (points : Points) → IsKept (Has points)
has_kept points =
    record {
      errors = λ k es f i. record { by = i.by };
      shapes = λ k ss i. record { by = i.by };
      headings = λ k hs i. record { by = i.by };
      nested = λ k ns i. record { by = i.by };
      fills = λ k m at d o i. record { by = λ n. filled_has points k.names m at d n (i.by n) };
    }

or_left : {x y : Option Entry} (z : Option Entry) → x ≡ y → or_else x z ≡ or_else y z
or_left z e = ap (λ o. or_else o z) e

module _ (a : Answers) (b : Declaring) where
  abbrev given_names : Points
  given_names = given_points b (parameter_points b.path (parameters_in b.heading.formals) (after_given a b (name_at b.path)).frame)

  abbrev more_names : Points
  more_names = label_points b ++ declared_points b

  names_first : (n : List ℕ) → lookup (bytes_eq n) (after_names a b (name_at b.path)).names ≡ lookup (bytes_eq n) (points_of a b)
  names_first n =
      lookup_with n (with_points [] given_names) more_names
      ∙ lookup_append (bytes_eq n) (with_points [] given_names) more_names
      ∙ or_left (lookup (bytes_eq n) more_names) (lookup_with n [] given_names)
      ∙ sym (lookup_append (bytes_eq n) given_names more_names)

  has_first : Has (points_of a b) (after_names a b (name_at b.path))
  has_first = record { by = λ n. ap tokens_of (names_first n) }

  has_last :
      Has (points_of a b)
      ((declarations b (name_at b.path) nothing_known).run a).1
  has_last =
      (definitions_stay b a (Has (points_of a b)) (has_kept (points_of a b))
      (λ k t cells x i. record { by = λ n. filled_has (points_of a b) k.names x.name x.at _ n (i.by n) })).by
      (after_names a b (name_at b.path)) has_first

pub first_points_stand : (a : Answers) (path : List PathStep) (own : PlainBlock) → FirstPointsStand a path own
first_points_stand a path own = (has_last a (record { path = path; own = own; heading = a.heading path })).by
