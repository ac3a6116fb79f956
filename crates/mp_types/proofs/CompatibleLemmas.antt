-- The tests of types tell what the cases say.
use Rattle.std.proofs.Common.{◌≡◌, ℕ, ◌+◌, ◌<◌, ℤ, pos, negsuc, nat_abs, Bool, true, false, cond, ◌&&◌, ◌||◌, List, [], ◌∷◌, Option, Some, None}
use Rattle.std.proofs.Common.{refl, sym, ap, ◌∙◌, subst, arith, nat_eq, eqb-true, eq-eqb, int_lt, ltb-true, lt-ltb}
use Rattle.std.specs.Prelude.{bytes_eq, not, option_map, ◌↔◌}
use Rattle.std.specs.Ordering.{int_eq}
use Rattle.std.proofs.lemmas.Slice.Eq.{bytes_eq-Decides}
use Rattle.std.proofs.lemmas.Bool.Decides.{Decides-int_eq}
use Rattle.mp_base.specs.declared.path.PathStep.{PathStep}
use Rattle.mp_ast.specs.Blocks.{same_path}
use Rattle.mp_tables.specs.declared.types.TypeId.{TypeId}
use Rattle.mp_tables.specs.declared.types.TypeId.TheVariants as type
use Rattle.mp_tables.specs.declared.types.Bounds.{Bounds}
use Rattle.mp_tables.specs.declared.types.ArrayShape.{ArrayShape}
use Rattle.mp_tables.specs.declared.types.Shape.{Shape}
use Rattle.mp_tables.specs.declared.types.Shape.TheVariants as shape
use Rattle.mp_tables.specs.declared.types.Typed.{Typed}
use Rattle.mp_tables.specs.TypeRelations.{same, unless_missing, both, ordinal, same_host, same_identity, same_bool, is_nil, compatible_sets, compatible_pointers}
use Rattle.mp_tables.specs.TypeRelations.{compatible_shapes, compatible, holds_file, assignable}
use Rattle.mp_tables.specs.TypeRelations.{StringForm, NoString, OfLength, OfSomeLength, is_string_index, string_by, string_form, equal_length}
use Rattle.mp_tables.proofs.CleanLemmas.{false_true, some_inj}
use Rattle.mp_tables.proofs.SortLemmas.{both_true, either_true, same-eq}
use Rattle.mp_types.specs.Compatible.{Agree, IsCompatible, SameType, SameHost, SetsAlike, NilFirst, NilSecond, SameLength, IsNil, IsPointer, host_of}
use Rattle.mp_types.specs.Compatible.{MayHaveLength, IsStringType, CharacterString, PackedArray}

-- ---- tests

none_some : {A B : Type 0} {x : A} → None ≡ Some x → B
none_some e = absurd cc

pub same_bools : (x y : Bool) → (x ≡ true → y ≡ true) → (y ≡ true → x ≡ true) → x ≡ y
same_bools true y f g = sym (f refl)
same_bools false true f g = g refl
same_bools false false f g = refl

pub both_are : (x y : Bool) → x ≡ true → y ≡ true → (x && y) ≡ true
both_are x y e f = ap (λ z. z && y) e ∙ f

first_is : (x y : Bool) → x ≡ true → (x || y) ≡ true
first_is x y e = ap (λ z. z || y) e

second_is : (x y : Bool) → y ≡ true → (x || y) ≡ true
second_is true y e = refl
second_is false y e = e

-- ---- identities

same_path-refl : (p : List PathStep) → same_path p p ≡ true
same_path-refl [] = refl
same_path-refl (s ∷ p) =
    ap (λ x. (x && nat_eq s.nth s.nth) && same_path p p) ((bytes_eq-Decides s.name s.name).1 refl) ∙ ap (λ x. x && same_path p p) (eq-eqb s.nth s.nth refl) ∙ same_path-refl p

pub same-refl : (a : TypeId) → same a a ≡ true
same-refl type.Integer = refl
same-refl type.Boolean = refl
same-refl type.Char = refl
same-refl type.Text = refl
same-refl (type.Own p at) = both_are (same_path p p) (nat_eq at at) (same_path-refl p) (eq-eqb at at refl)

pub same-is : (a b : TypeId) → a ≡ b → same a b ≡ true
same-is a b e = subst (λ x. same a x ≡ true) e (same-refl a)

-- ---- compatible types are so in one of the cases

module _ (a b : Typed) where
  by_identity : (i j : Option TypeId) → a.id ≡ i → b.id ≡ j → both same i j ≡ true → IsCompatible a b
  by_identity None j p q e = false_true e
  by_identity (Some x) None p q e = false_true e
  by_identity (Some x) (Some y) p q e = SameType x p (q ∙ ap Some (sym (same-eq x y e)))

  by_host : (o r : Option Bounds) → ordinal a ≡ o → ordinal b ≡ r → both same_host o r ≡ true → IsCompatible a b
  by_host None r p q e = false_true e
  by_host (Some x) None p q e = false_true e
  by_host (Some x) (Some y) p q e = SameHost x y p q (same-eq x.host y.host e)

  by_length : (f g : StringForm) → string_form a.shape ≡ f → string_form b.shape ≡ g → equal_length f g ≡ true → IsCompatible a b
  by_length f g p q e =
      let n = lengths f g e in
      SameLength n.0 (subst (λ x. MayHaveLength x n.0) (sym p) n.1) (subst (λ x. MayHaveLength x n.0) (sym q) n.2)
    where
      lengths : (f g : StringForm) → equal_length f g ≡ true → (n : ℕ) × MayHaveLength f n × MayHaveLength g n
      lengths (OfLength m) (OfLength n) e = (m, refl, sym (eqb-true m n e))
      lengths OfSomeLength (OfLength n) e = (n, tt, refl)
      lengths (OfLength m) OfSomeLength e = (m, refl, tt)
      lengths OfSomeLength OfSomeLength e = (0, tt, tt)
      lengths NoString g e = false_true e
      lengths (OfLength m) NoString e = false_true e
      lengths OfSomeLength NoString e = false_true e

agree_bools : (p q : Option Bool) → unless_missing same_bool p q ≡ true → Agree p q
agree_bools (Some true) (Some true) e x y f g = sym (some_inj f) ∙ some_inj g
agree_bools (Some false) (Some false) e x y f g = sym (some_inj f) ∙ some_inj g
agree_bools (Some true) (Some false) e x y f g = false_true e
agree_bools (Some false) (Some true) e x y f g = false_true e
agree_bools None q e x y f g = none_some f
agree_bools (Some p) None e x y f g = none_some g

agree_hosts : (o r : Option Bounds) → unless_missing same_host o r ≡ true → Agree (host_of o) (host_of r)
agree_hosts (Some o) (Some r) e x y f g = sym (some_inj f) ∙ same-eq o.host r.host e ∙ some_inj g
agree_hosts None r e x y f g = none_some f
agree_hosts (Some o) None e x y f g = none_some g

nil_is : (t : Typed) (i : Option TypeId) (d : Option TypeId) → t.id ≡ i → t.shape ≡ shape.Ptr d → is_nil (record { id = i; shape = shape.Ptr d }) ≡ true → IsNil t
nil_is t None d p q e = (p, (d, q))
nil_is t (Some x) d p q e = false_true e

by_shapes :
    (i j : Option TypeId) (s t : Shape) →
    compatible_shapes (record { id = i; shape = s }) (record { id = j; shape = t }) s t ≡ true →
    IsCompatible (record { id = i; shape = s }) (record { id = j; shape = t })
by_shapes i j (shape.SetOf p x) (shape.SetOf q y) e =
    let k = both_true (unless_missing same_bool p q) (unless_missing same_host x y) e in
    SetsAlike p q x y refl refl (agree_bools p q k.0) (agree_hosts x y k.1)
by_shapes i j (shape.Ptr x) (shape.Ptr y) e =
    let a : Typed = record { id = i; shape = shape.Ptr x } in
    let b : Typed = record { id = j; shape = shape.Ptr y } in
    either_true (same_identity a b || is_nil a) (is_nil b) e
    (λ f. either_true (same_identity a b) (is_nil a) f
    (λ g. by_identity a b i j refl refl g)
    (λ g. NilFirst (nil_is a i x refl refl g) (y, refl)))
    (λ f. NilSecond (x, refl) (nil_is b j y refl refl f))
by_shapes i j s t e =
    let a : Typed = record { id = i; shape = s } in
    let b : Typed = record { id = j; shape = t } in
    either_true (both same_host (ordinal a) (ordinal b)) (equal_length (string_form s) (string_form t)) e
    (λ f. by_host a b (ordinal a) (ordinal b) refl refl f)
    (λ f. by_length a b (string_form s) (string_form t) refl refl f)

compatible-is : (a b : Typed) → compatible a b ≡ true → IsCompatible a b
compatible-is a b e =
    either_true (same_identity a b) (compatible_shapes a b a.shape b.shape) e
    (λ f. by_identity a b a.id b.id refl refl f)
    (λ f. by_shapes a.id b.id a.shape b.shape f)

-- ---- in each case types are compatible

bools_agree : (p q : Option Bool) → Agree p q → unless_missing same_bool p q ≡ true
bools_agree (Some true) (Some true) h = refl
bools_agree (Some false) (Some false) h = refl
bools_agree (Some true) (Some false) h = sym (h true false refl refl)
bools_agree (Some false) (Some true) h = h false true refl refl
bools_agree None q h = refl
bools_agree (Some p) None h = refl

hosts_agree : (o r : Option Bounds) → Agree (host_of o) (host_of r) → unless_missing same_host o r ≡ true
hosts_agree (Some o) (Some r) h = same-is o.host r.host (h o.host r.host refl refl)
hosts_agree None r h = refl
hosts_agree (Some o) None h = refl

equal_lengths : (f g : StringForm) (n : ℕ) → MayHaveLength f n → MayHaveLength g n → equal_length f g ≡ true
equal_lengths (OfLength l) (OfLength m) n p q = eq-eqb l m (p ∙ sym q)
equal_lengths OfSomeLength (OfLength m) n p q = refl
equal_lengths (OfLength l) OfSomeLength n p q = refl
equal_lengths OfSomeLength OfSomeLength n p q = refl
equal_lengths NoString g n p q = absurd p
equal_lengths (OfLength l) NoString n p q = absurd q
equal_lengths OfSomeLength NoString n p q = absurd q

-- ordinal types with one host, and strings of one length, are compatible by their shapes
hosts_compatible :
    (i j : Option TypeId) (s t : Shape) (x y : Bounds) →
    ordinal (record { id = i; shape = s }) ≡ Some x → ordinal (record { id = j; shape = t }) ≡ Some y → x.host ≡ y.host →
    compatible_shapes (record { id = i; shape = s }) (record { id = j; shape = t }) s t ≡ true
hosts_compatible i j (shape.SetOf p b) (shape.SetOf q c) x y e f h = none_some e
hosts_compatible i j (shape.Ptr d) (shape.Ptr c) x y e f h = none_some e
hosts_compatible i j s t x y e f h =
    first_is (both same_host (ordinal (record { id = i; shape = s })) (ordinal (record { id = j; shape = t }))) (equal_length (string_form s) (string_form t))
    (ap (λ o. both same_host o (ordinal (record { id = j; shape = t }))) e ∙ ap (λ o. both same_host (Some x) o) f ∙ same-is x.host y.host h)

lengths_compatible :
    (i j : Option TypeId) (s t : Shape) (n : ℕ) →
    MayHaveLength (string_form s) n → MayHaveLength (string_form t) n →
    compatible_shapes (record { id = i; shape = s }) (record { id = j; shape = t }) s t ≡ true
lengths_compatible i j (shape.SetOf p b) (shape.SetOf q c) n e f = absurd e
lengths_compatible i j (shape.Ptr d) (shape.Ptr c) n e f = absurd e
lengths_compatible i j s t n e f =
    second_is (both same_host (ordinal (record { id = i; shape = s })) (ordinal (record { id = j; shape = t })))
    (equal_length (string_form s) (string_form t))
    (equal_lengths (string_form s) (string_form t) n e f)

by_shape : (a b : Typed) (s t : Shape) → a.shape ≡ s → b.shape ≡ t → compatible_shapes a b s t ≡ true → compatible a b ≡ true
by_shape a b s t p q e =
    second_is (same_identity a b) (compatible_shapes a b a.shape b.shape) (ap (λ x. compatible_shapes a b x b.shape) p ∙ ap (λ x. compatible_shapes a b s x) q ∙ e)

is_nil-is : (t : Typed) (d : Option TypeId) → t.id ≡ None → t.shape ≡ shape.Ptr d → is_nil t ≡ true
is_nil-is t d p q = ap (λ i. is_nil (record { id = i; shape = t.shape })) p ∙ ap (λ s. is_nil (record { id = None; shape = s })) q

is-compatible : (a b : Typed) → IsCompatible a b → compatible a b ≡ true
is-compatible a b (SameType id p q) =
    first_is (same_identity a b) (compatible_shapes a b a.shape b.shape)
    (ap (λ i. both same i b.id) p ∙ ap (λ i. both same (Some id) i) q ∙ same-refl id)
is-compatible a b (SameHost x y p q h) = by_shape a b a.shape b.shape refl refl (hosts_compatible a.id b.id a.shape b.shape x y p q h)
is-compatible a b (SetsAlike p q x y e f g h) =
    by_shape a b (shape.SetOf p x) (shape.SetOf q y) e f (both_are (unless_missing same_bool p q) (unless_missing same_host x y) (bools_agree p q g) (hosts_agree x y h))
is-compatible a b (NilFirst n p) =
    by_shape a b (shape.Ptr n.1.0) (shape.Ptr p.0) n.1.1 p.1
    (first_is (same_identity a b || is_nil a) (is_nil b) (second_is (same_identity a b) (is_nil a) (is_nil-is a n.1.0 n.0 n.1.1)))
is-compatible a b (NilSecond p n) =
    by_shape a b (shape.Ptr p.0) (shape.Ptr n.1.0) p.1 n.1.1 (second_is (same_identity a b || is_nil a) (is_nil b) (is_nil-is b n.1.0 n.0 n.1.1))
is-compatible a b (SameLength n p q) = by_shape a b a.shape b.shape refl refl (lengths_compatible a.id b.id a.shape b.shape n p q)

pub compatible_cases : (a b : Typed) → (compatible a b ≡ true) ↔ IsCompatible a b
compatible_cases a b = (compatible-is a b, is-compatible a b)

turned : (a b : Typed) → IsCompatible a b → IsCompatible b a
turned a b (SameType id p q) = SameType id q p
turned a b (SameHost x y p q h) = SameHost y x q p (sym h)
turned a b (SetsAlike p q x y e f g h) = SetsAlike q p y x f e (λ u v k l. sym (g v u l k)) (λ u v k l. sym (h v u l k))
turned a b (NilFirst n p) = NilSecond p n
turned a b (NilSecond p n) = NilFirst n p
turned a b (SameLength n p q) = SameLength n q p

pub compatible-sym : (a b : Typed) → compatible a b ≡ compatible b a
compatible-sym a b =
    same_bools (compatible a b) (compatible b a)
    (λ e. is-compatible b a (turned a b (compatible-is a b e)))
    (λ e. is-compatible a b (turned b a (compatible-is b a e)))

pub assignable-itself : (id : TypeId) (s : Shape) → assignable (record { id = Some id; shape = s }) (record { id = Some id; shape = s }) ≡ not (holds_file s)
assignable-itself id s = ap (λ x. cond x (not (holds_file s)) (compatible (record { id = Some id; shape = s }) (record { id = Some id; shape = s }))) (same-refl id)

-- ---- string types

form_length : {m n : ℕ} → OfLength m ≡ OfLength n → m ≡ n
form_length e = cc

no_form : {A : Type 0} {n : ℕ} → NoString ≡ OfLength n → A
no_form e = absurd cc

some_form : {A : Type 0} {n : ℕ} → OfSomeLength ≡ OfLength n → A
some_form e = absurd cc

module _ (a : ArrayShape) (n : ℕ) where
  by_high :
      (b : Bounds) (z : ℤ) →
      a.packed ≡ true → a.index ≡ Some (record b { high = z }) → a.component ≡ Some type.Char →
      type.Integer ≡ b.host → b.low ≡ pos 1 → int_lt (pos 1) z ≡ true → nat_abs z ≡ n →
      IsStringType (shape.Arr a) n
  by_high b (negsuc k) p i c h l g e = false_true g
  by_high b (pos k) p i c h l g e =
      PackedArray a n p
      (i
      ∙ ap (λ t. Some (record { host = t; low = b.low; high = pos k })) (sym h)
      ∙ ap (λ z. Some (record { host = type.Integer; low = z; high = pos k })) l
      ∙ ap (λ m. Some (record { host = type.Integer; low = pos 1; high = pos m })) e)
      (omega (arith, ltb-true 1 k g, e)) c

  by_index :
      (b : Bounds) (c : TypeId) (t : Bool) →
      (is_string_index b && same type.Char c) ≡ t → a.packed ≡ true → a.index ≡ Some b → a.component ≡ Some c →
      cond t (OfLength (nat_abs b.high)) NoString ≡ OfLength n → IsStringType (shape.Arr a) n
  by_index b c false k p i j e = no_form e
  by_index b c true k p i j e =
      let u = both_true (is_string_index b) (same type.Char c) k in
      let v = both_true (same type.Integer b.host && int_eq b.low (pos 1)) (int_lt (pos 1) b.high) u.0 in
      let w = both_true (same type.Integer b.host) (int_eq b.low (pos 1)) v.0 in
      by_high b b.high p i (j ∙ ap Some (sym (same-eq type.Char c u.1))) (same-eq type.Integer b.host w.0) ((Decides-int_eq b.low (pos 1)).0 w.1) v.1 (form_length e)

  by_parts : (i : Option Bounds) (j : Option TypeId) → a.index ≡ i → a.component ≡ j → a.packed ≡ true → string_by i j ≡ OfLength n → IsStringType (shape.Arr a) n
  by_parts None None p q k e = some_form e
  by_parts None (Some c) p q k e = without_index (same type.Char c) e
    where
      without_index : (t : Bool) → cond t OfSomeLength NoString ≡ OfLength n → IsStringType (shape.Arr a) n
      without_index true e = some_form e
      without_index false e = no_form e
  by_parts (Some b) None p q k e = without_component (is_string_index b) e
    where
      without_component : (t : Bool) → cond t OfSomeLength NoString ≡ OfLength n → IsStringType (shape.Arr a) n
      without_component true e = some_form e
      without_component false e = no_form e
  by_parts (Some b) (Some c) p q k e = by_index b c (is_string_index b && same type.Char c) refl k p q e

  by_packed : (t : Bool) → a.packed ≡ t → cond t (string_by a.index a.component) NoString ≡ OfLength n → IsStringType (shape.Arr a) n
  by_packed true p e = by_parts a.index a.component refl refl p e
  by_packed false p e = no_form e

string-is : (s : Shape) (n : ℕ) → string_form s ≡ OfLength n → IsStringType s n
string-is (shape.Str m) n e = subst (λ k. IsStringType (shape.Str m) k) (form_length e) (CharacterString m)
string-is (shape.Arr a) n e = by_packed a n a.packed refl e
string-is s n e = no_form e

is-string : (s : Shape) (n : ℕ) → IsStringType s n → string_form s ≡ OfLength n
is-string s n (CharacterString m) = refl
is-string s n (PackedArray a m p i h c) =
    ap (λ t. cond t (string_by a.index a.component) NoString) p
    ∙ ap (λ x. string_by x a.component) i
    ∙ ap (λ x. string_by (Some (record { host = type.Integer; low = pos 1; high = pos m })) x) c
    ∙ ap (λ t. cond (t && true) (OfLength m) NoString) (lt-ltb 1 m h)

pub string_types : (s : Shape) (n : ℕ) → (string_form s ≡ OfLength n) ↔ IsStringType s n
string_types s n = (string-is s n, is-string s n)

pub one_identity : (a b : TypeId) → (same a b ≡ true) ↔ (a ≡ b)
one_identity a b = (same-eq a b, same-is a b)
