-- Trees over the tokens that they are read from. A block has tokens of its own, which its leaves tell of, and the tokens
-- of a nested block stand between two of them: own tokens and those of the nested blocks are woven.
use Rattle.std.proofs.Common.{◌≡◌, ℕ, ◌+◌, List, [], ◌∷◌, ◌++◌, length, refl, sym, ap, ◌∙◌, subst, append_assoc, arith}
use Rattle.std.proofs.lemmas.List.{length-append}
use Rattle.mp_ast.specs.declared.tokens.TokenKind.{TokenKind}
use Rattle.mp_ast.specs.Rules.{Input}
use Rattle.mp_ast.specs.PlainTrees.{PlainTree, PlainTrees, TreeOf, NoTrees, Beside}
use Rattle.mp_ast.specs.Blocks.{Nested, nested_in, tokens_of, tokens_of_all}
use Rattle.mp_ast.specs.Leaves.{Leaf}
use Rattle.mp_ast.specs.LeavesOfBlocks.{leaves_of_block}
use Rattle.mp_ast.proofs.LeavesTold.{Told, told-append, ToldBetween}

abbrev mutual
  -- these are the tokens of a tree
  pub Spelled : PlainTree → List TokenKind → Type 0
  Spelled (TreeOf own inside) ks =
      (mine : List TokenKind) × (length mine ≡ own.tokens) × Told 0 mine (leaves_of_block own) × Woven 0 mine (nested_in own) inside ks

  -- own tokens from an ordinal on, and nested trees, are these tokens
  pub Woven : ℕ → List TokenKind → List Nested → PlainTrees → List TokenKind → Type 0
  Woven at mine [] NoTrees ks = mine ≡ ks
  Woven at mine [] (Beside tree more) ks = ⊥
  Woven at mine (n ∷ nested) NoTrees ks = ⊥
  Woven at mine (n ∷ nested) (Beside tree more) ks =
      (near : List TokenKind) × (far : List TokenKind) × (inner : List TokenKind) × (rest : List TokenKind) ×
      (mine ≡ near ++ far) × (at + length near ≡ n.semicolon + 1) × (ks ≡ near ++ (inner ++ rest)) ×
      Spelled tree inner × Woven (n.semicolon + 1) far nested more rest

woven-front :
    (front : List TokenKind) (at : ℕ) (mine : List TokenKind) (nested : List Nested) (trees : PlainTrees) (ks : List TokenKind) →
    Woven (at + length front) mine nested trees ks → Woven at (front ++ mine) nested trees (front ++ ks)
woven-front front at mine [] NoTrees ks w = ap (λ l. front ++ l) w
woven-front front at mine [] (Beside tree more) ks w = elim w [ ]
woven-front front at mine (n ∷ nested) NoTrees ks w = elim w [ ]
woven-front front at mine (n ∷ nested) (Beside tree more) ks w =
    let both = length-append front w.0 in
    let place : at + length front + length w.0 ≡ n.semicolon + 1 = w.5 in (
      front ++ w.0,
      w.1,
      w.2,
      w.3,
      ap (λ l. front ++ l) w.4 ∙ sym (append_assoc front w.0 w.1),
      omega (arith, both, place),
      ap (λ l. front ++ l) w.6 ∙ sym (append_assoc front w.0 (w.2 ++ w.3)),
      w.7,
      w.8,
    )

woven-behind :
    (behind : List TokenKind) (at : ℕ) (mine : List TokenKind) (nested : List Nested) (trees : PlainTrees) (ks : List TokenKind) →
    Woven at mine nested trees ks → Woven at (mine ++ behind) nested trees (ks ++ behind)
woven-behind behind at mine [] NoTrees ks w = ap (λ l. l ++ behind) w
woven-behind behind at mine [] (Beside tree more) ks w = elim w [ ]
woven-behind behind at mine (n ∷ nested) NoTrees ks w = elim w [ ]
woven-behind behind at mine (n ∷ nested) (Beside tree more) ks w = (
  w.0,
  w.1 ++ behind,
  w.2,
  w.3 ++ behind,
  ap (λ l. l ++ behind) w.4 ∙ append_assoc w.0 w.1 behind,
  w.5,
  ap (λ l. l ++ behind) w.6 ∙ append_assoc w.0 (w.2 ++ w.3) behind ∙ ap (λ l. w.0 ++ l) (append_assoc w.2 w.3 behind),
  w.7,
  woven-behind behind (n.semicolon + 1) w.1 nested more w.3 w.8,
)

mutual
  pub spelled-length : (tree : PlainTree) (ks : List TokenKind) → Spelled tree ks → length ks ≡ tokens_of tree
  spelled-length (TreeOf own inside) ks sp =
      woven-length 0 sp.0 (nested_in own) inside ks sp.3 ∙ ap (λ n. n + tokens_of_all inside) sp.1

  woven-length :
      (at : ℕ) (mine : List TokenKind) (nested : List Nested) (trees : PlainTrees) (ks : List TokenKind) →
      Woven at mine nested trees ks → length ks ≡ length mine + tokens_of_all trees
  woven-length at mine [] NoTrees ks w = let e = ap length w in omega (arith, e)
  woven-length at mine [] (Beside tree more) ks w = elim w [ ]
  woven-length at mine (n ∷ nested) NoTrees ks w = elim w [ ]
  woven-length at mine (n ∷ nested) (Beside tree more) ks w =
      let own = ap length w.4 ∙ length-append w.0 w.1 in
      let all = ap length w.6 ∙ length-append w.0 (w.2 ++ w.3) in
      let inner = length-append w.2 w.3 in
      let tree = spelled-length tree w.2 w.7 in
      let rest = woven-length (n.semicolon + 1) w.1 nested more w.3 w.8 in
      omega (arith, own, all, inner, tree, rest)

-- ---- what is read from one place in a block to another

pub record Spread (i : Input) (leaves : List Leaf) (nested : List Nested) (trees : PlainTrees) (j : Input) : Type 0 where
  pub own : List TokenKind
  pub read : List TokenKind
  pub rest : i.rest ≡ read ++ j.rest
  pub at : j.at ≡ i.at + length own
  pub told : Told i.at own leaves
  pub woven : Woven i.at own nested trees read

-- what is read where no tree is nested
pub plain_spread : (i j : Input) (xs : List Leaf) → ToldBetween i xs j → Spread i xs [] NoTrees j
plain_spread i j xs a = record { own = a.read; read = a.read; rest = a.rest; at = a.at; told = a.told; woven = refl }

pub spread_front :
    (i m j : Input) (xs ys : List Leaf) (nested : List Nested) (trees : PlainTrees) →
    ToldBetween i xs m → Spread m ys nested trees j → Spread i (xs ++ ys) nested trees j
spread_front i m j xs ys nested trees a b =
    let both = length-append a.read b.own in
    record {
      own = a.read ++ b.own;
      read = a.read ++ b.read;
      rest = a.rest ∙ ap (λ l. a.read ++ l) b.rest ∙ sym (append_assoc a.read b.read j.rest);
      at = omega (arith, a.at, b.at, both);
      told = told-append b.own ys i.at a.read xs a.told (subst (λ n. Told n b.own ys) a.at b.told);
      woven = woven-front a.read i.at b.own nested trees b.read (subst (λ n. Woven n b.own nested trees b.read) a.at b.woven);
    }

pub spread_behind :
    (i m j : Input) (xs ys : List Leaf) (nested : List Nested) (trees : PlainTrees) →
    Spread i xs nested trees m → ToldBetween m ys j → Spread i (xs ++ ys) nested trees j
spread_behind i m j xs ys nested trees a b =
    let both = length-append a.own b.read in
    record {
      own = a.own ++ b.read;
      read = a.read ++ b.read;
      rest = a.rest ∙ ap (λ l. a.read ++ l) b.rest ∙ sym (append_assoc a.read b.read j.rest);
      at = omega (arith, a.at, b.at, both);
      told = told-append b.read ys i.at a.own xs a.told (subst (λ n. Told n b.read ys) a.at b.told);
      woven = woven-behind b.read i.at a.own nested trees a.read a.woven;
    }

-- what a nested block reads: no own token of the block around
pub record NestedSpelled (i : Input) (tree : PlainTree) (j : Input) : Type 0 where
  pub read : List TokenKind
  pub rest : i.rest ≡ read ++ j.rest
  pub at : j.at ≡ i.at
  pub spelled : Spelled tree read

-- a heading with its `;`, the nested block behind it, and what follows
pub spread_nested :
    (i m k j : Input) (xs ys : List Leaf) (n : Nested) (tree : PlainTree) (nested : List Nested) (trees : PlainTrees) →
    ToldBetween i xs m → m.at ≡ n.semicolon + 1 → NestedSpelled m tree k → Spread k ys nested trees j →
    Spread i (xs ++ ys) (n ∷ nested) (Beside tree trees) j
spread_nested i m k j xs ys n tree nested trees a e t b =
    let both = length-append a.read b.own in
    let same : k.at ≡ i.at + length a.read = t.at ∙ a.at in
    let here : k.at ≡ n.semicolon + 1 = t.at ∙ e in
    record {
      own = a.read ++ b.own;
      read = a.read ++ (t.read ++ b.read);
      rest =
          a.rest ∙ ap (λ l. a.read ++ l) (t.rest ∙ ap (λ l. t.read ++ l) b.rest ∙ sym (append_assoc t.read b.read j.rest)) ∙
          sym (append_assoc a.read (t.read ++ b.read) j.rest);
      at = omega (arith, a.at, t.at, b.at, both);
      told = told-append b.own ys i.at a.read xs a.told (subst (λ n. Told n b.own ys) same b.told);
      woven = (
        a.read,
        b.own,
        t.read,
        b.read,
        refl,
        sym a.at ∙ e,
        refl,
        t.spelled,
        subst (λ n. Woven n b.own nested trees b.read) here b.woven,
      );
    }
