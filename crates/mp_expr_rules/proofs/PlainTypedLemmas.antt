-- The plain form of a typed tree is the plain forms of its parts, put together. Each variant's equation follows from that of
-- the fold; where the parts stand in a list, a fold's `map` over it and the plain form of each are one pass.
use Rattle.std.proofs.Common.{◌≡◌, ℕ, ℤ, List, [], ◌∷◌, map, Option, None, Some, refl, sym, ap, ◌∙◌}
use Rattle.mp_ast.specs.declared.leaves.SignKind.{SignKind}
use Rattle.mp_tables.specs.declared.typed_expressions.Sort.{Sort}
use Rattle.mp_tables.specs.declared.typed_expressions.Check.{Check}
use Rattle.mp_tables.specs.declared.typed_expressions.FieldAt.{FieldAt}
use Rattle.mp_tables.specs.declared.typed_expressions.Component.{Component}
use Rattle.mp_tables.specs.declared.typed_expressions.TypedSelector.{TypedSelector}
use Rattle.mp_tables.specs.declared.typed_expressions.TypedSelector.TheVariants as selector
use Rattle.mp_tables.specs.declared.typed_expressions.TypedAccess.{TypedAccess}
use Rattle.mp_tables.specs.declared.typed_expressions.Comparison.{Comparison}
use Rattle.mp_tables.specs.declared.typed_expressions.TypedOperation.{TypedOperation}
use Rattle.mp_tables.specs.declared.typed_expressions.TypedMember.{TypedMember}
use Rattle.mp_tables.specs.declared.typed_expressions.Callee.{Callee}
use Rattle.mp_tables.specs.declared.typed_expressions.TypedActual.{TypedActual}
use Rattle.mp_tables.specs.declared.typed_expressions.TypedActual.TheVariants as actual
use Rattle.mp_tables.specs.declared.typed_expressions.TypedCall.{TypedCall}
use Rattle.mp_tables.specs.declared.typed_expressions.OrdinalFunction.{OrdinalFunction}
use Rattle.mp_tables.specs.declared.typed_expressions.TypedExpr.{TypedExpr, fold-roll-TypedExpr}
use Rattle.mp_tables.specs.declared.typed_expressions.TypedExpr.TheOpen.{TypedExpr-F}
use Rattle.mp_tables.specs.declared.typed_expressions.TypedExpr.TheVariants as tree
use Rattle.mp_tables.specs.PlainTypedExpressions as plain
use Rattle.mp_tables.specs.PlainTypedExpressions.{PlainTypedExpr, PlainTypedSelectors, PlainTypedActuals, PlainTypedMembers, with_selector, with_actual, with_member}
use Rattle.mp_tables.specs.PlainTypedExpressions.{selectors_of, actuals_of, members_of, operations_of, itself, layer_typed_expr, plain_typed_expr}

-- ---- lists of parts, each of which a function changes in the expressions in it

module _ {A B : Type 0} (f : A → B) (g : B → PlainTypedExpr) where
  selectors_of-map :
      (h : TypedSelector A → TypedSelector B) →
      ((c : Component A) → h (selector.Index c) ≡ selector.Index (record { index = f c.index; low = c.low; high = c.high; size = c.size })) →
      ((x : FieldAt) → h (selector.Field x) ≡ selector.Field x) →
      (h selector.Follow ≡ selector.Follow) →
      (h selector.Buffer ≡ selector.Buffer) →
      (l : List (TypedSelector A)) → selectors_of g (map h l) ≡ selectors_of (λ x. g (f x)) l
  selectors_of-map h i n o b [] = refl
  selectors_of-map h i n o b (selector.Index c ∷ l) =
      ap (λ s. with_selector g s (selectors_of g (map h l))) (i c) ∙ ap (plain.Index (g (f c.index)) c.low c.high c.size) (selectors_of-map h i n o b l)
  selectors_of-map h i n o b (selector.Field x ∷ l) =
      ap (λ s. with_selector g s (selectors_of g (map h l))) (n x) ∙ ap (plain.Field x) (selectors_of-map h i n o b l)
  selectors_of-map h i n o b (selector.Follow ∷ l) =
      ap (λ s. with_selector g s (selectors_of g (map h l))) o ∙ ap plain.Follow (selectors_of-map h i n o b l)
  selectors_of-map h i n o b (selector.Buffer ∷ l) =
      ap (λ s. with_selector g s (selectors_of g (map h l))) b ∙ ap plain.Buffer (selectors_of-map h i n o b l)

  actuals_of-map :
      (h : TypedActual A → TypedActual B) →
      (s : TypedSelector A → TypedSelector B) →
      ((x : A) (c : Check) → h (actual.Value x c) ≡ actual.Value (f x) c) →
      ((a : TypedAccess A) → h (actual.Variable a) ≡ actual.Variable (record { root = a.root; selectors = map s a.selectors })) →
      ((c : Callee) → h (actual.Routine c) ≡ actual.Routine c) →
      ((l : List (TypedSelector A)) → selectors_of g (map s l) ≡ selectors_of (λ x. g (f x)) l) →
      (l : List (TypedActual A)) → actuals_of g (map h l) ≡ actuals_of (λ x. g (f x)) l
  actuals_of-map h s v a r t [] = refl
  actuals_of-map h s v a r t (actual.Value x c ∷ l) =
      ap (λ k. with_actual g k (actuals_of g (map h l))) (v x c) ∙ ap (plain.Value (g (f x)) c) (actuals_of-map h s v a r t l)
  actuals_of-map h s v a r t (actual.Variable x ∷ l) =
      ap (λ k. with_actual g k (actuals_of g (map h l))) (a x) ∙
      ap (λ k. plain.Variable x.root k (actuals_of g (map h l))) (t x.selectors) ∙
      ap (plain.Variable x.root (selectors_of (λ x. g (f x)) x.selectors)) (actuals_of-map h s v a r t l)
  actuals_of-map h s v a r t (actual.Routine c ∷ l) =
      ap (λ k. with_actual g k (actuals_of g (map h l))) (r c) ∙ ap (plain.Routine c) (actuals_of-map h s v a r t l)

  member-map :
      (h : TypedMember A → TypedMember B) →
      ((x : A) → h (record { first = x; last = None }) ≡ record { first = f x; last = None }) →
      ((x y : A) → h (record { first = x; last = Some y }) ≡ record { first = f x; last = Some (f y) }) →
      (x : A) (last : Option A) (more : PlainTypedMembers) →
      let m = h (record { first = x; last = last }) in with_member g m.first m.last more ≡ with_member (λ x. g (f x)) x last more
  member-map h one two x None more = ap (λ m. with_member g m.first m.last more) (one x)
  member-map h one two x (Some y) more = ap (λ m. with_member g m.first m.last more) (two x y)

  members_of-map :
      (h : TypedMember A → TypedMember B) →
      ((x : A) → h (record { first = x; last = None }) ≡ record { first = f x; last = None }) →
      ((x y : A) → h (record { first = x; last = Some y }) ≡ record { first = f x; last = Some (f y) }) →
      (l : List (TypedMember A)) → members_of g (map h l) ≡ members_of (λ x. g (f x)) l
  members_of-map h one two [] = refl
  members_of-map h one two (m ∷ l) =
      member-map h one two m.first m.last (members_of g (map h l)) ∙ ap (with_member (λ x. g (f x)) m.first m.last) (members_of-map h one two l)

  operations_of-map :
      (h : TypedOperation A → TypedOperation B) →
      ((o : TypedOperation A) → h o ≡ record { operator = o.operator; operand = f o.operand }) →
      (l : List (TypedOperation A)) → operations_of g (map h l) ≡ operations_of (λ x. g (f x)) l
  operations_of-map h each [] = refl
  operations_of-map h each (o ∷ l) =
      ap (λ o. plain.Operation o.operator (g o.operand) (operations_of g (map h l))) (each o) ∙
      ap (plain.Operation o.operator (g (f o.operand))) (operations_of-map h each l)

-- ---- the equations

pub plain_ordinal : (n : ℤ) → plain_typed_expr (tree.Ordinal n) ≡ plain.Ordinal n
unfolding plain_typed_expr
plain_ordinal n = ap plain_typed_expr (sym (tree.rolls-Ordinal n)) ∙ fold-roll-TypedExpr PlainTypedExpr layer_typed_expr (TypedExpr-F.Ordinal n)

pub plain_text : (s : List ℕ) → plain_typed_expr (tree.Text s) ≡ plain.Text s
unfolding plain_typed_expr
plain_text s = ap plain_typed_expr (sym (tree.rolls-Text s)) ∙ fold-roll-TypedExpr PlainTypedExpr layer_typed_expr (TypedExpr-F.Text s)

pub plain_nil : plain_typed_expr tree.Nil ≡ plain.Nil
unfolding plain_typed_expr
plain_nil = ap plain_typed_expr (sym tree.rolls-Nil) ∙ fold-roll-TypedExpr PlainTypedExpr layer_typed_expr TypedExpr-F.Nil

pub plain_load : (s : Sort) (a : TypedAccess TypedExpr) → plain_typed_expr (tree.Load s a) ≡ plain.Load s a.root (selectors_of plain_typed_expr a.selectors)
unfolding plain_typed_expr
plain_load s a =
    ap plain_typed_expr (sym (tree.rolls-Load s a)) ∙ fold-roll-TypedExpr PlainTypedExpr layer_typed_expr (TypedExpr-F.Load s a) ∙
    ap (plain.Load s a.root) (selectors_of-map plain_typed_expr itself _ (λ _. refl) (λ _. refl) refl refl a.selectors)

pub plain_call : (s : Sort) (c : TypedCall TypedExpr) → plain_typed_expr (tree.Call s c) ≡ plain.Call s c.callee (actuals_of plain_typed_expr c.actuals)
unfolding plain_typed_expr
plain_call s c =
    ap plain_typed_expr (sym (tree.rolls-Call s c)) ∙ fold-roll-TypedExpr PlainTypedExpr layer_typed_expr (TypedExpr-F.Call s c) ∙
    ap (plain.Call s c.callee)
    (actuals_of-map plain_typed_expr itself _ _ (λ _ _. refl) (λ _. refl) (λ _. refl)
    (selectors_of-map plain_typed_expr itself _ (λ _. refl) (λ _. refl) refl refl) c.actuals)

pub plain_apply : (o : OrdinalFunction) (x : TypedExpr) → plain_typed_expr (tree.Apply o x) ≡ plain.Apply o (plain_typed_expr x)
unfolding plain_typed_expr
plain_apply o x = ap plain_typed_expr (sym (tree.rolls-Apply o x)) ∙ fold-roll-TypedExpr PlainTypedExpr layer_typed_expr (TypedExpr-F.Apply o x)

pub plain_eof : (a : TypedAccess TypedExpr) → plain_typed_expr (tree.Eof a) ≡ plain.Eof a.root (selectors_of plain_typed_expr a.selectors)
unfolding plain_typed_expr
plain_eof a =
    ap plain_typed_expr (sym (tree.rolls-Eof a)) ∙ fold-roll-TypedExpr PlainTypedExpr layer_typed_expr (TypedExpr-F.Eof a) ∙
    ap (plain.Eof a.root) (selectors_of-map plain_typed_expr itself _ (λ _. refl) (λ _. refl) refl refl a.selectors)

pub plain_eoln : (a : TypedAccess TypedExpr) → plain_typed_expr (tree.Eoln a) ≡ plain.Eoln a.root (selectors_of plain_typed_expr a.selectors)
unfolding plain_typed_expr
plain_eoln a =
    ap plain_typed_expr (sym (tree.rolls-Eoln a)) ∙ fold-roll-TypedExpr PlainTypedExpr layer_typed_expr (TypedExpr-F.Eoln a) ∙
    ap (plain.Eoln a.root) (selectors_of-map plain_typed_expr itself _ (λ _. refl) (λ _. refl) refl refl a.selectors)

pub plain_not : (x : TypedExpr) → plain_typed_expr (tree.Not x) ≡ plain.Not (plain_typed_expr x)
unfolding plain_typed_expr
plain_not x = ap plain_typed_expr (sym (tree.rolls-Not x)) ∙ fold-roll-TypedExpr PlainTypedExpr layer_typed_expr (TypedExpr-F.Not x)

pub plain_signed : (s : SignKind) (x : TypedExpr) → plain_typed_expr (tree.Signed s x) ≡ plain.Signed s (plain_typed_expr x)
unfolding plain_typed_expr
plain_signed s x = ap plain_typed_expr (sym (tree.rolls-Signed s x)) ∙ fold-roll-TypedExpr PlainTypedExpr layer_typed_expr (TypedExpr-F.Signed s x)

pub plain_chain : (x : TypedExpr) (more : List (TypedOperation TypedExpr)) → plain_typed_expr (tree.Chain x more) ≡
    plain.Chain (plain_typed_expr x) (operations_of plain_typed_expr more)
unfolding plain_typed_expr
plain_chain x more =
    ap plain_typed_expr (sym (tree.rolls-Chain x more)) ∙ fold-roll-TypedExpr PlainTypedExpr layer_typed_expr (TypedExpr-F.Chain x more) ∙
    ap (plain.Chain (plain_typed_expr x)) (operations_of-map plain_typed_expr itself _ (λ _. refl) more)

pub plain_compare : (s : Sort) (o : Comparison) (x y : TypedExpr) → plain_typed_expr (tree.Compare s o x y) ≡
    plain.Compare s o (plain_typed_expr x) (plain_typed_expr y)
unfolding plain_typed_expr
plain_compare s o x y =
    ap plain_typed_expr (sym (tree.rolls-Compare s o x y)) ∙ fold-roll-TypedExpr PlainTypedExpr layer_typed_expr (TypedExpr-F.Compare s o x y)

pub plain_in : (x y : TypedExpr) → plain_typed_expr (tree.In x y) ≡ plain.In (plain_typed_expr x) (plain_typed_expr y)
unfolding plain_typed_expr
plain_in x y = ap plain_typed_expr (sym (tree.rolls-In x y)) ∙ fold-roll-TypedExpr PlainTypedExpr layer_typed_expr (TypedExpr-F.In x y)

pub plain_set : (members : List (TypedMember TypedExpr)) → plain_typed_expr (tree.Set members) ≡ plain.Set (members_of plain_typed_expr members)
unfolding plain_typed_expr
plain_set members =
    ap plain_typed_expr (sym (tree.rolls-Set members)) ∙ fold-roll-TypedExpr PlainTypedExpr layer_typed_expr (TypedExpr-F.Set members) ∙
    ap plain.Set (members_of-map plain_typed_expr itself _ (λ _. refl) (λ _ _. refl) members)

pub plain_wrong : plain_typed_expr tree.Wrong ≡ plain.Wrong
unfolding plain_typed_expr
plain_wrong = ap plain_typed_expr (sym tree.rolls-Wrong) ∙ fold-roll-TypedExpr PlainTypedExpr layer_typed_expr TypedExpr-F.Wrong
