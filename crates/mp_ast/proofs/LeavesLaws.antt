-- What is told of tokens one after another: ordinals rise, each leaf stands at its token, and each identifier has one leaf.
use Rattle.std.proofs.Common.{◌≡◌, ℕ, zero, suc, ◌+◌, ◌≤◌, ◌<◌, ⊎_elim, Bool, true, false, ◌&&◌, List, [], ◌∷◌, ◌++◌, length, get_or, count_by, nat_eq}
use Rattle.std.proofs.Common.{Option, Some, None, refl, sym, ap, ◌∙◌, subst, append_assoc, arith}
use Rattle.std.specs.Prelude.{slice_get}
use Rattle.std.specs.List.{AllByRecursion}
use Rattle.std.proofs.lemmas.Bool.{cases_Bool, cond-true, cond-false, eq-eqb, eqb-true, false_from_ne_true, false≢true}
use Rattle.std.proofs.lemmas.List.Sums.{sum_by-cons}
use Rattle.std.proofs.lemmas.Option.{slice_get-get_or}
use Rattle.mp_ast.specs.declared.tokens.TokenKind.{TokenKind}
use Rattle.mp_ast.specs.declared.tokens.TokenKind.TheVariants as kind
use Rattle.mp_ast.specs.declared.words.WordSymbol.TheVariants as w
use Rattle.mp_ast.specs.declared.blocks.Tree.{Tree}
use Rattle.mp_ast.specs.BlockGrammar.{Limits}
use Rattle.mp_ast.specs.Programs.{Derives}
use Rattle.mp_ast.specs.PlainTrees.{PlainStatementPart, PlainBlock, Compound, plain_tree}
use Rattle.mp_ast.specs.Blocks.{PlacedBlock, blocks, index_in}
use Rattle.mp_ast.specs.Leaves.{Leaf, Name, Forward, Mark, Bracket, Before, ordinal_of, has_token, is_identifier_token, Fits}
use Rattle.mp_ast.specs.LeavesOfBlocks.{leaves_of_program, leaves_of_labels, leaves_of_constant_definitions, leaves_of_type_definitions, leaves_of_sections}
use Rattle.mp_ast.specs.LeavesOfBlocks.{leaves_of_declarations, leaves_of_statements, leaves_of_statement_part, leaves_of_block}
use Rattle.mp_ast.specs.LeavesInText.{ordinal_behind, AreInOrder, OrdinalsRise, OrdinalsAreBelow, LeavesStand, tells_identifier, EachIdentifierIsTold}
use Rattle.mp_ast.proofs.PathLemmas.{all-map}
use Rattle.mp_ast.proofs.IndexLemmas.{number, yes_one, not_zero}
use Rattle.mp_ast.proofs.LeavesTold.{is_name, Told, finished, told, placed, untold}
use Rattle.mp_ast.proofs.LeavesOfBlocks.{derived_spelled}
use Rattle.mp_ast.proofs.LeavesPlaced.{Stands, all_stand}

-- ---- ordinals rise

behind_token : (leaf : Leaf) (at : ℕ) → has_token leaf ≡ true → ordinal_of leaf ≡ at → at + 1 ≡ ordinal_behind leaf
behind_token leaf at own here =
    ap (λ n. n + 1) (sym here) ∙ sym (cond-true (has_token leaf) (ordinal_of leaf + 1) (ordinal_of leaf) own)

behind_nothing : (leaf : Leaf) (at : ℕ) → has_token leaf ≡ false → ordinal_of leaf ≡ at → at ≡ ordinal_behind leaf
behind_nothing leaf at own here = sym here ∙ sym (cond-false (has_token leaf) (ordinal_of leaf + 1) (ordinal_of leaf) own)

not_behind : (leaf : Leaf) → ordinal_of leaf ≤ ordinal_behind leaf
not_behind leaf =
    ⊎_elim
    (λ own. let e = behind_token leaf (ordinal_of leaf) own refl in omega (arith, e))
    (λ own. let e = behind_nothing leaf (ordinal_of leaf) own refl in omega (arith, e))
    (cases_Bool (has_token leaf))

told_in_order : (at : ℕ) (ks : List TokenKind) (leaves : List Leaf) → Told at ks leaves → (low : ℕ) → low ≤ at → AreInOrder low leaves
told_in_order at [] [] finished low h = tt
told_in_order at (k ∷ ks) (x ∷ xs) (told l ms leaf leaves own here named fits more) low h = (
  omega (arith, h, here),
  subst (λ n. AreInOrder n xs) (behind_token x at own here) (told_in_order (at + 1) ks xs more (at + 1) (omega arith)),
)
told_in_order at ks (x ∷ xs) (placed ms leaf leaves own here more) low h = (
  omega (arith, h, here),
  subst (λ n. AreInOrder n xs) (behind_nothing x at own here) (told_in_order at ks xs more at (omega arith)),
)
told_in_order at (k ∷ ks) xs (untold l ms leaves plain more) low h = told_in_order (at + 1) ks xs more low (omega (arith, h))

-- ---- ordinals are below the number of tokens

told_below :
    (most at : ℕ) (ks : List TokenKind) (leaves : List Leaf) → Told at ks leaves → at + length ks ≡ most →
    AllByRecursion (λ leaf. has_token leaf ≡ true → ordinal_of leaf < most) leaves
told_below most at [] [] finished e = tt
told_below most at (k ∷ ks) (x ∷ xs) (told l ms leaf leaves own here named fits more) e =
    (λ _. omega (arith, e, here), told_below most (at + 1) ks xs more (omega (arith, e)))
told_below most at ks (x ∷ xs) (placed ms leaf leaves own here more) e =
    (λ token. absurd (false≢true (sym own ∙ token)), told_below most at ks xs more e)
told_below most at (k ∷ ks) xs (untold l ms leaves plain more) e = told_below most (at + 1) ks xs more (omega (arith, e))

-- the last leaf is a token
abbrev EndsWithToken : List Leaf → Type 0
EndsWithToken leaves = (front : List Leaf) × (leaf : Leaf) × (has_token leaf ≡ true) × (leaves ≡ front ++ leaf ∷ [])

ends_behind : (xs ys : List Leaf) → EndsWithToken ys → EndsWithToken (xs ++ ys)
ends_behind xs ys e = (xs ++ e.0, e.1, e.2, ap (λ l. xs ++ l) e.3 ∙ sym (append_assoc xs e.0 (e.1 ∷ [])))

part_ends : (p : PlainStatementPart) → EndsWithToken (leaves_of_statement_part p)
part_ends (Compound begin statements end) = (Mark begin (kind.Word w.Begin) ∷ leaves_of_statements statements, Mark end (kind.Word w.End), refl, refl)

block_ends : (b : PlainBlock) → EndsWithToken (leaves_of_block b)
block_ends b =
    let statements = leaves_of_statement_part b.statements in
    let declarations = leaves_of_declarations b.declarations ++ statements in
    let variables = leaves_of_sections b.variables ++ declarations in
    let types = leaves_of_type_definitions b.types ++ variables in
    let constants = leaves_of_constant_definitions b.constants ++ types in
    let labels = leaves_of_labels b.labels ++ constants in
    ends_behind (leaves_of_program b.program) labels
    (ends_behind (leaves_of_labels b.labels) constants
    (ends_behind (leaves_of_constant_definitions b.constants) types
    (ends_behind (leaves_of_type_definitions b.types) variables
    (ends_behind (leaves_of_sections b.variables) declarations
    (ends_behind (leaves_of_declarations b.declarations) statements (part_ends b.statements))))))

below_last :
    (most : ℕ) (front : List Leaf) (leaf : Leaf) (low : ℕ) → AreInOrder low (front ++ leaf ∷ []) → ordinal_of leaf < most →
    (low ≤ ordinal_of leaf) × AllByRecursion (λ x. ordinal_of x < most) (front ++ leaf ∷ [])
below_last most [] leaf low h below = (h.0, (below, tt))
below_last most (x ∷ front) leaf low h below =
    let rest = below_last most front leaf (ordinal_behind x) h.1 below in
    let step = not_behind x in
    let first = rest.0 in
    let here = h.0 in
    (omega (arith, here, first, step), (omega (arith, first, step, below), rest.1))

last_of : (P : Leaf → Type 0) (front : List Leaf) (leaf : Leaf) → AllByRecursion P (front ++ leaf ∷ []) → P leaf
last_of P [] leaf a = a.0
last_of P (x ∷ front) leaf a = last_of P front leaf a.1

abbrev TokenBelow : ℕ → Leaf → Type 0
TokenBelow most leaf = has_token leaf ≡ true → ordinal_of leaf < most

all_below :
    (most : ℕ) (leaves : List Leaf) → EndsWithToken leaves → AreInOrder 0 leaves → AllByRecursion (TokenBelow most) leaves →
    AllByRecursion (λ leaf. ordinal_of leaf < most) leaves
all_below most leaves e order below =
    let last = last_of (TokenBelow most) e.0 e.1 (subst (AllByRecursion (TokenBelow most)) e.3 below) e.2 in
    subst (AllByRecursion (λ leaf. ordinal_of leaf < most)) (sym e.3) (below_last most e.0 e.1 0 (subst (AreInOrder 0) e.3 order) last).1

-- ---- leaves stand at their tokens

told_stand :
    (text : List TokenKind) (index : ℕ → ℕ) (at : ℕ) (ks : List TokenKind) (leaves : List Leaf) → Told at ks leaves →
    ((n : ℕ) (k : TokenKind) → slice_get ks n ≡ Some k → slice_get text (index (at + n)) ≡ Some k) →
    AllByRecursion (λ leaf. has_token leaf ≡ true → (k : TokenKind) × (slice_get text (index (ordinal_of leaf)) ≡ Some k) × Fits leaf k) leaves
told_stand text index at [] [] finished f = tt
told_stand text index at (k ∷ ks) (x ∷ xs) (told l ms leaf leaves own here named fits more) f = (
  λ _. (k, ap (λ i. slice_get text (index i)) (let e : ordinal_of x ≡ at + 0 = omega (arith, here) in e) ∙ f 0 k refl, fits),
  told_stand text index (at + 1) ks xs more (λ n m e.
      let next : at + 1 + n ≡ at + suc n = omega arith in ap (λ i. slice_get text (index i)) next ∙ f (suc n) m e),
)
told_stand text index at ks (x ∷ xs) (placed ms leaf leaves own here more) f =
    (λ token. absurd (false≢true (sym own ∙ token)), told_stand text index at ks xs more f)
told_stand text index at (k ∷ ks) xs (untold l ms leaves plain more) f =
    told_stand text index (at + 1) ks xs more (λ n m e.
    let next : at + 1 + n ≡ at + suc n = omega arith in ap (λ i. slice_get text (index i)) next ∙ f (suc n) m e)

-- ---- each identifier is told of once

and_false : (b c : Bool) → c ≡ false → (b && c) ≡ false
and_false true c e = e
and_false false c e = refl

elsewhere : (n : ℕ) (leaf : Leaf) (at : ℕ) → ordinal_of leaf ≡ at → (at ≡ n → ⊥) → tells_identifier n leaf ≡ false
elsewhere n leaf at here other =
    and_false (is_identifier_token leaf) (nat_eq (ordinal_of leaf) n)
    (false_from_ne_true (nat_eq (ordinal_of leaf) n) (λ e. other (sym here ∙ eqb-true (ordinal_of leaf) n e)))

no_identifier : (leaf : Leaf) → has_token leaf ≡ false → is_identifier_token leaf ≡ false
no_identifier (Name x) e = e
no_identifier (Forward at) e = e
no_identifier (Mark at k) e = refl
no_identifier (Bracket at) e = refl
no_identifier (Before at) e = refl

no_token : (n : ℕ) (leaf : Leaf) → has_token leaf ≡ false → tells_identifier n leaf ≡ false
no_token n leaf e = ap (λ b. b && nat_eq (ordinal_of leaf) n) (no_identifier leaf e)

counted : (n : ℕ) (leaf : Leaf) (leaves : List Leaf) → count_by (tells_identifier n) (leaf ∷ leaves) ≡ number (tells_identifier n leaf) + count_by (tells_identifier n) leaves
counted n leaf leaves = sum_by-cons (λ x. number (tells_identifier n x)) leaf leaves

passed : (n : ℕ) (leaf : Leaf) (leaves : List Leaf) → tells_identifier n leaf ≡ false → count_by (tells_identifier n) (leaf ∷ leaves) ≡ count_by (tells_identifier n) leaves
passed n leaf leaves e =
    let c = counted n leaf leaves in
    let none = not_zero e in
    omega (arith, c, none)

none_told : (n at : ℕ) (ks : List TokenKind) (leaves : List Leaf) → Told at ks leaves → n < at → count_by (tells_identifier n) leaves ≡ 0
none_told n at [] [] finished h = refl
none_told n at (k ∷ ks) (x ∷ xs) (told l ms leaf leaves own here named fits more) h =
    passed n x xs (elsewhere n x at here (λ e. omega (arith, e, h))) ∙ none_told n (at + 1) ks xs more (omega (arith, h))
none_told n at ks (x ∷ xs) (placed ms leaf leaves own here more) h = passed n x xs (no_token n x own) ∙ none_told n at ks xs more h
none_told n at (k ∷ ks) xs (untold l ms leaves plain more) h = none_told n (at + 1) ks xs more (omega (arith, h))

abbrev names : Option TokenKind → Bool
names None = false
names (Some k) = is_name k

one_told :
    (at : ℕ) (ks : List TokenKind) (leaves : List Leaf) → Told at ks leaves → (n : ℕ) (name : List ℕ) → slice_get ks n ≡ Some (kind.Id name) →
    count_by (tells_identifier (at + n)) leaves ≡ 1
one_told at [] [] finished n name e = absurd (false≢true (ap names e))
one_told at (k ∷ ks) (x ∷ xs) (told l ms leaf leaves own here named fits more) zero name e =
    let is : is_identifier_token x ≡ true = sym named ∙ ap names e in
    let same : ordinal_of x ≡ at + 0 = omega (arith, here) in
    let tells : tells_identifier (at + 0) x ≡ true = ap (λ b. b && nat_eq (ordinal_of x) (at + 0)) is ∙ eq-eqb (ordinal_of x) (at + 0) same in
    let c = counted (at + 0) x xs in
    let one = yes_one tells in
    let rest = none_told (at + 0) (at + 1) ks xs more (omega arith) in
    omega (arith, c, one, rest)
one_told at (k ∷ ks) (x ∷ xs) (told l ms leaf leaves own here named fits more) (suc n) name e =
    let next : at + suc n ≡ at + 1 + n = omega arith in
    passed (at + suc n) x xs (elsewhere (at + suc n) x at here (λ q. omega (arith, q))) ∙
    ap (λ m. count_by (tells_identifier m) xs) next ∙ one_told (at + 1) ks xs more n name e
one_told at ks (x ∷ xs) (placed ms leaf leaves own here more) n name e = passed (at + n) x xs (no_token (at + n) x own) ∙ one_told at ks xs more n name e
one_told at (k ∷ ks) xs (untold l ms leaves plain more) zero name e = absurd (false≢true (sym plain ∙ ap names e))
one_told at (k ∷ ks) xs (untold l ms leaves plain more) (suc n) name e =
    let next : at + suc n ≡ at + 1 + n = omega arith in
    ap (λ m. count_by (tells_identifier m) xs) next ∙ one_told (at + 1) ks xs more n name e

-- ---- the laws, of one block

module _ (text : List TokenKind) (block : PlacedBlock) (s : Stands text block) where
  rises : OrdinalsRise block
  rises = told_in_order 0 s.own (leaves_of_block block.own) s.told 0 (omega arith)

  below : OrdinalsAreBelow block
  below =
      let most : 0 + length s.own ≡ block.own.tokens = let e = s.tokens in omega (arith, e) in
      all_below block.own.tokens (leaves_of_block block.own) (block_ends block.own) rises
      (told_below block.own.tokens 0 s.own (leaves_of_block block.own) s.told most)

  stand : LeavesStand text block
  stand =
      told_stand text (index_in block) 0 s.own (leaves_of_block block.own) s.told (λ n k e.
      let same : 0 + n ≡ n = omega arith in ap (λ i. slice_get text (index_in block i)) same ∙ s.kinds n k e)

  once : EachIdentifierIsTold text block
  once n name h e =
      let within : n < length s.own = let t = s.tokens in omega (arith, h, t) in
      let k = get_or s.own n (kind.Id name) in
      let own : slice_get s.own n ≡ Some k = slice_get-get_or s.own n (kind.Id name) within in
      let named : slice_get s.own n ≡ Some (kind.Id name) = own ∙ sym (s.kinds n k own) ∙ e in
      let same : n ≡ 0 + n = omega arith in
      ap (λ m. count_by (tells_identifier m) (leaves_of_block block.own)) same ∙ one_told 0 s.own (leaves_of_block block.own) s.told n name named

-- ---- the laws, of programs

module _ (limits : Limits) (kinds : List TokenKind) (tree : Tree) (derives : Derives limits kinds tree) where
  stands : AllByRecursion (Stands kinds) (blocks (plain_tree tree))
  stands = all_stand (plain_tree tree) kinds (derived_spelled limits kinds tree derives)

  pub ordinals_rise : AllByRecursion OrdinalsRise (blocks (plain_tree tree))
  ordinals_rise = all-map (Stands kinds) OrdinalsRise (rises kinds) (blocks (plain_tree tree)) stands

  pub ordinals_are_below : AllByRecursion OrdinalsAreBelow (blocks (plain_tree tree))
  ordinals_are_below = all-map (Stands kinds) OrdinalsAreBelow (below kinds) (blocks (plain_tree tree)) stands

  pub leaves_stand : AllByRecursion (LeavesStand kinds) (blocks (plain_tree tree))
  leaves_stand = all-map (Stands kinds) (LeavesStand kinds) (stand kinds) (blocks (plain_tree tree)) stands

  pub each_identifier_is_told : AllByRecursion (EachIdentifierIsTold kinds) (blocks (plain_tree tree))
  each_identifier_is_told = all-map (Stands kinds) (EachIdentifierIsTold kinds) (once kinds) (blocks (plain_tree tree)) stands
