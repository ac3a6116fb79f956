-- The own tokens of each block of a tree, at their indices in the text that the tree is read from.
use Rattle.std.proofs.Common.{◌≡◌, ℕ, ◌+◌, ◌<◌, ◌-◌, ⊎_elim, List, [], ◌∷◌, ◌++◌, length, get_or, Some, refl, sym, ap, ◌∙◌, append_assoc, arith}
use Rattle.std.specs.Prelude.{slice_get}
use Rattle.std.specs.List.{AllByRecursion}
use Rattle.std.proofs.lemmas.Bool.{cases_lt}
use Rattle.std.proofs.lemmas.List.{length-append, append-nil, get_or_append_left, get_or-append-add}
use Rattle.std.proofs.lemmas.Option.{slice_get_within, slice_get-get_or, get_or_from_slice_get}
use Rattle.mp_base.specs.declared.path.PathStep.{PathStep}
use Rattle.mp_ast.specs.declared.tokens.TokenKind.{TokenKind}
use Rattle.mp_ast.specs.PlainTrees.{PlainTree, PlainTrees, TreeOf, NoTrees, Beside}
use Rattle.mp_ast.specs.Blocks.{Nested, PlacedBlock, nested_in, tokens_of, blocks, blocks_from, blocks_inside, index_from, index_in}
use Rattle.mp_ast.specs.LeavesOfBlocks.{leaves_of_block}
use Rattle.mp_ast.proofs.BlockLemmas.{index_near, index_far}
use Rattle.mp_ast.proofs.PathLemmas.{all-append}
use Rattle.mp_ast.proofs.LeavesTold.{Told}
use Rattle.mp_ast.proofs.LeavesSpelled.{Spelled, Woven, spelled-length}

-- ---- an element of a list, in lists around it

element_at : {X : Type 0} (xs : List X) (i : ℕ) (x : X) → i < length xs → x ≡ (get_or xs i x) → slice_get xs i ≡ Some x
element_at xs i x h e = slice_get-get_or xs i x h ∙ ap Some (sym e)

element_within : {X : Type 0} (before xs behind : List X) (i : ℕ) (x : X) → slice_get xs i ≡ Some x → slice_get (before ++ (xs ++ behind)) (length before + i) ≡ Some x
element_within before xs behind i x e =
    let h = slice_get_within xs i x e in
    let a = length-append before (xs ++ behind) in
    let b = length-append xs behind in
    element_at (before ++ (xs ++ behind)) (length before + i) x (omega (arith, h, a, b))
    (sym (get_or-append-add before (xs ++ behind) i x ∙ get_or_append_left xs behind x i h ∙ get_or_from_slice_get xs i x x e))

element_left : {X : Type 0} (xs ys : List X) (i : ℕ) (x : X) → slice_get (xs ++ ys) i ≡ Some x → i < length xs → slice_get xs i ≡ Some x
element_left xs ys i x e h =
    element_at xs i x h (sym (sym (get_or_append_left xs ys x i h) ∙ get_or_from_slice_get (xs ++ ys) i x x e))

element_right : {X : Type 0} (xs ys : List X) (i : ℕ) (x : X) → slice_get (xs ++ ys) (length xs + i) ≡ Some x → slice_get ys i ≡ Some x
element_right xs ys i x e =
    let h = slice_get_within (xs ++ ys) (length xs + i) x e in
    let a = length-append xs ys in
    element_at ys i x (omega (arith, h, a)) (sym (sym (get_or-append-add xs ys i x) ∙ get_or_from_slice_get (xs ++ ys) (length xs + i) x x e))

-- ---- own tokens at their indices

-- A block's own tokens, as its leaves tell of them, stand at their indices in the text.
pub record Stands (text : List TokenKind) (block : PlacedBlock) : Type 0 where
  pub own : List TokenKind
  pub tokens : length own ≡ block.own.tokens
  pub told : Told 0 own (leaves_of_block block.own)
  pub kinds : (n : ℕ) (k : TokenKind) → slice_get own n ≡ Some k → slice_get text (index_in block n) ≡ Some k

-- the front of woven tokens, what is nested, and the rest, in the text around
text_around :
    (text before near inner rest behind ks : List TokenKind) → text ≡ before ++ (ks ++ behind) → ks ≡ near ++ (inner ++ rest) →
    text ≡ before ++ (near ++ (inner ++ (rest ++ behind)))
text_around text before near inner rest behind ks e f =
    e ∙ ap (λ l. before ++ (l ++ behind)) f ∙ ap (λ l. before ++ l) (append_assoc near (inner ++ rest) behind ∙ ap (λ l. near ++ l) (append_assoc inner rest behind))

woven_kinds :
    (text : List TokenKind) (start at : ℕ) (before behind mine : List TokenKind) (nested : List Nested) (trees : PlainTrees) (ks : List TokenKind) →
    text ≡ before ++ (ks ++ behind) → start + at ≡ length before → Woven at mine nested trees ks →
    (n : ℕ) (k : TokenKind) → slice_get mine n ≡ Some k → slice_get text (index_from start nested trees (at + n)) ≡ Some k
woven_kinds text start at before behind mine [] (Beside tree more) ks e s w n k h = elim w [ ]
woven_kinds text start at before behind mine (x ∷ nested) NoTrees ks e s w n k h = elim w [ ]
woven_kinds text start at before behind mine [] NoTrees ks e s w n k h =
    let place : start + (at + n) ≡ length before + n = omega (arith, s) in
    ap (slice_get text) place ∙ ap (λ l. slice_get l (length before + n)) e ∙
    element_within before ks behind n k (ap (λ l. slice_get l n) (sym w) ∙ h)
woven_kinds text start at before behind mine (x ∷ nested) (Beside tree more) ks e s w n k h =
    let near = w.0 in
    let far = w.1 in
    let inner = w.2 in
    let rest = w.3 in
    let T = tokens_of tree in
    let here : at + length near ≡ x.semicolon + 1 = w.5 in
    let around = text_around text before near inner rest behind ks e w.6 in
    let mine_at : slice_get (near ++ far) n ≡ Some k = ap (λ l. slice_get l n) (sym w.4) ∙ h in
    ⊎_elim
    (λ far_off.
    let m = n - length near in
    let split : n ≡ length near + m = omega (arith, far_off, here) in
    let long = spelled-length tree inner w.7 in
    let before_rest = length-append before (near ++ inner) in
    let both = length-append near inner in
    let text_rest : text ≡ (before ++ (near ++ inner)) ++ (rest ++ behind) =
    around ∙ ap (λ l. before ++ l) (sym (append_assoc near inner (rest ++ behind))) ∙ sym (append_assoc before (near ++ inner) (rest ++ behind)) in
    let there : start + T + (x.semicolon + 1) ≡ length (before ++ (near ++ inner)) = omega (arith, s, here, long, before_rest, both) in
    let back : at + n ≡ x.semicolon + 1 + m = omega (arith, here, split) in
    let found = woven_kinds text (start + T) (x.semicolon + 1) (before ++ (near ++ inner)) behind far nested more rest text_rest there w.8 m k
    (element_right near far m k (ap (slice_get (near ++ far)) (sym split) ∙ mine_at)) in
    ap (slice_get text) (index_far start x nested tree more (at + n) far_off) ∙
    ap (λ i. slice_get text (index_from (start + T) nested more i)) back ∙ found)
    (λ close.
    let within : n < length near = omega (arith, close, here) in
    let place : start + (at + n) ≡ length before + n = omega (arith, s) in
    ap (slice_get text) (index_near start x nested tree more (at + n) close ∙ place) ∙
    ap (λ l. slice_get l (length before + n)) around ∙
    element_within before near (inner ++ (rest ++ behind)) n k (element_left near far n k mine_at within))
    (cases_lt x.semicolon (at + n))

mutual
  stand_from :
      (text : List TokenKind) (path : List PathStep) (start : ℕ) (before behind : List TokenKind) (tree : PlainTree) (ks : List TokenKind) →
      text ≡ before ++ (ks ++ behind) → start ≡ length before → Spelled tree ks → AllByRecursion (Stands text) (blocks_from path start tree)
  stand_from text path start before behind (TreeOf own inside) ks e s sp =
      let from : start + 0 ≡ length before = omega (arith, s) in (
        record {
          own = sp.0;
          tokens = sp.1;
          told = sp.2;
          kinds = λ n k h.
              let same : 0 + n ≡ n = omega arith in
              ap (λ i. slice_get text (index_from start (nested_in own) inside i)) (sym same) ∙
              woven_kinds text start 0 before behind sp.0 (nested_in own) inside ks e from sp.3 n k h;
        },
        stand_inside text path start 0 before behind sp.0 (nested_in own) inside ks e from sp.3,
      )

  stand_inside :
      (text : List TokenKind) (path : List PathStep) (start at : ℕ) (before behind mine : List TokenKind) (nested : List Nested) (trees : PlainTrees)
      (ks : List TokenKind) → text ≡ before ++ (ks ++ behind) → start + at ≡ length before → Woven at mine nested trees ks →
      AllByRecursion (Stands text) (blocks_inside path start nested trees)
  stand_inside text path start at before behind mine [] NoTrees ks e s w = tt
  stand_inside text path start at before behind mine [] (Beside tree more) ks e s w = elim w [ ]
  stand_inside text path start at before behind mine (x ∷ nested) NoTrees ks e s w = elim w [ ]
  stand_inside text path start at before behind mine (x ∷ nested) (Beside tree more) ks e s w =
      let near = w.0 in
      let inner = w.2 in
      let rest = w.3 in
      let T = tokens_of tree in
      let step = path ++ x.step ∷ [] in
      let here : at + length near ≡ x.semicolon + 1 = w.5 in
      let around = text_around text before near inner rest behind ks e w.6 in
      let long = spelled-length tree inner w.7 in
      let before_tree = length-append before near in
      let before_rest = length-append before (near ++ inner) in
      let both = length-append near inner in
      let text_rest : text ≡ (before ++ (near ++ inner)) ++ (rest ++ behind) =
      around ∙ ap (λ l. before ++ l) (sym (append_assoc near inner (rest ++ behind))) ∙ sym (append_assoc before (near ++ inner) (rest ++ behind)) in
      let there : start + T + (x.semicolon + 1) ≡ length (before ++ (near ++ inner)) = omega (arith, s, here, long, before_rest, both) in
      let first : start + x.semicolon + 1 ≡ length (before ++ near) = omega (arith, s, here, before_tree) in
      let text_tree : text ≡ (before ++ near) ++ (inner ++ (rest ++ behind)) = around ∙ sym (append_assoc before near (inner ++ (rest ++ behind))) in
      all-append (Stands text) (blocks_from step (start + x.semicolon + 1) tree) (blocks_inside path (start + T) nested more)
      (stand_from text step (start + x.semicolon + 1) (before ++ near) (rest ++ behind) tree inner text_tree first w.7)
      (stand_inside text path (start + T) (x.semicolon + 1) (before ++ (near ++ inner)) behind w.1 nested more rest text_rest there w.8)

pub all_stand : (tree : PlainTree) (text : List TokenKind) → Spelled tree text → AllByRecursion (Stands text) (blocks tree)
all_stand tree text sp =
    let all : text ≡ text ++ [] = sym (append-nil text) in
    stand_from text [] 0 [] [] tree text all refl sp
