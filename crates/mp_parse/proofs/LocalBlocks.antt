-- A nested block is read by its own tokens alone.
use Rattle.std.proofs.Common.{◌≡◌, ◌⊎◌, inl, inr, ℕ, zero, suc, ◌+◌, ◌-◌, ◌<◌, ◌≤◌, List, ◌++◌, length, None, Ok, Err, refl, sym, ap, ◌∙◌, arith}
use Rattle.mp_ast.specs.declared.blocks.Tree.{Tree}
use Rattle.mp_ast.specs.declared.tokens.TokenKind.{TokenKind}
use Rattle.mp_ast.specs.Rules.{Input}
use Rattle.mp_ast.specs.BlockGrammar.{Limits}
use Rattle.mp_cursor.specs.declared.failure.Failure.TheVariants.{Memory, Wrong, TooDeep, TooMany}
use Rattle.mp_cursor.specs.Parsers.{Outcome, Parser, with_own_ordinals, back_at, ◌<$>◌}
use Rattle.mp_cursor.proofs.Settled.{put}
use Rattle.mp_cursor.proofs.RuleLaws.{read, read_is}
use Rattle.mp_parse.specs.Blocks as p
use Rattle.mp_parse.specs.Locality.{IsLocal}
use Rattle.mp_parse.proofs.DeclarationLaws.{law_nested_block}
use Rattle.mp_parse.proofs.Raised.{Behind, Inside, Past, Raised}
use Rattle.mp_parse.proofs.RaisedBlocks.{Raising, from, raised_nested}
use Rattle.mp_parse.proofs.ClosedLaws.{closed_nested}

input : ℕ → ℕ → List TokenKind → Input
input at declared rest = record { at = at; declared = declared; rest = rest }

same_input : (i j : Input) → i.at ≡ j.at → i.declared ≡ j.declared → i.rest ≡ j.rest → i ≡ j
unfolding input
same_input i j a d r = ap (λ n. input n i.declared i.rest) a ∙ ap (λ n. input j.at n i.rest) d ∙ ap (input j.at j.declared) r

-- ---- ordinals of their own

own_by : {A : Type 0} (at to : ℕ) (o : Outcome A) (x : A) (j : Input) → back_at at o ≡ read x j → back_at to o ≡ read x (record j { at = to })
own_by at to (Ok q) x j h = let w = read_is q.0 x (record q.1 { at = at }) j h in ap (λ y. read y (record q.1 { at = to })) w.0 ∙ ap (λ m. read x (record m { at = to })) w.1
own_by at to (Err e) x j h = absurd (let n : ⊥ = cc in n)

own_at : {A : Type 0} (at to : ℕ) (o : Outcome A) (x : A) (j : Input) → back_at at o ≡ read x j → j.at ≡ at
own_at at to (Ok q) x j h = sym (ap (λ m. m.at) (read_is q.0 x (record q.1 { at = at }) j h).1)
own_at at to (Err e) x j h = absurd (let n : ⊥ = cc in n)

-- where the ordinals of the block around stand makes no difference
module _ (limits : Limits) where
  moved_at : (depth to : ℕ) (i : Input) (x : Tree) (j : Input) → p.nested_block limits depth i ≡ read x j →
      p.nested_block limits depth (record i { at = to }) ≡ read x (record j { at = to })
  unfolding p.nested_block with_own_ordinals
  moved_at zero to i x j h = absurd (let n : ⊥ = cc in n)
  moved_at (suc depth) to i x j h = own_by i.at to ((p.tree_of limits <$> p.block_with limits None depth (p.nested_block limits depth)) (record i { at = 0 })) x j h

  stays_at : (depth : ℕ) (i : Input) (x : Tree) (j : Input) → p.nested_block limits depth i ≡ read x j → j.at ≡ i.at
  unfolding p.nested_block with_own_ordinals
  stays_at zero i x j h = absurd (let n : ⊥ = cc in n)
  stays_at (suc depth) i x j h = own_at i.at 0 ((p.tree_of limits <$> p.block_with limits None depth (p.nested_block limits depth)) (record i { at = 0 })) x j h

-- ---- how many declarations were made before it

-- the same limits, with fewer declarations before the second, or as many
fewer : (limits : Limits) (below above : ℕ) → above ≤ below → Raising ⊥ ⊥ ⊥ below above limits limits
fewer limits below above l = record {
  openers = record { no_lower = omega arith; same = λ s. absurd s; higher = λ h. absurd h };
  depth = record { no_lower = omega arith; same = λ s. absurd s; higher = λ h. absurd h };
  declarations = record { no_lower = omega (arith, l); higher = λ h. absurd h; more = λ m. absurd m };
}

-- with fewer
strictly_fewer : (limits : Limits) (below above : ℕ) → above < below → Raising (Unit {0}) ⊥ (Unit {0}) below above limits limits
strictly_fewer limits below above l = record {
  openers = record { no_lower = omega arith; same = λ s. refl; higher = λ h. absurd h };
  depth = record { no_lower = omega arith; same = λ s. refl; higher = λ h. absurd h };
  declarations = record { no_lower = omega (arith, l); higher = λ h. absurd h; more = λ m. omega (arith, l) };
}

same_depth : {Same : Type 0} (depth : ℕ) → Behind Same ⊥ (suc depth) (suc depth)
same_depth depth =
    record { room_less = depth; high_less = depth; room_is = refl; high_is = refl; limit = record { no_lower = omega arith; same = λ s. refl; higher = λ h. absurd h } }

grown : {A : Type 0} (n declared : ℕ) (o : Outcome A) (x : A) (j : Input) → o ≡ read x j → Inside n declared o → declared ≤ j.declared
grown n declared (Ok q) x j h s = let e = ap (λ m. m.declared) (read_is q.0 x q.1 j h).1 in let l = s.1 in omega arith
grown n declared (Err e) x j h s = absurd (let z : ⊥ = cc in z)

past_read : {A : Type 0} (n declared : ℕ) (o : Outcome A) (x : A) (j : Input) → o ≡ read x j → Past n declared o → declared ≤ j.declared
past_read n declared (Ok q) x j h s = let e = ap (λ m. m.declared) (read_is q.0 x q.1 j h).1 in let l = s.1 in omega arith
past_read n declared (Err e) x j h s = absurd (let z : ⊥ = cc in z)

module _ (limits : Limits) (depth : ℕ) where
  abbrev nested : Parser Tree
  nested = p.nested_block limits (suc depth)

  grows : (i : Input) (x : Tree) (j : Input) → nested i ≡ read x j → i.declared ≤ j.declared
  grows i x j h = grown (length i.rest) i.declared (nested i) x j h ((raised_nested (fewer limits 0 0 (omega arith)) (suc depth) (suc depth)).inside i)

  -- fewer before, or as many
  down_by : (i : Input) (x : Tree) (j : Input) (d : ℕ) (o u : Outcome Tree) → o ≡ read x j → Raised ⊥ ⊥ ⊥ (from limits i.declared d) o u →
      i.declared ≤ j.declared → u ≡ read x (record j { declared = d + (j.declared - i.declared) })
  down_by i x j d (Ok q) u h r g =
      let w = read_is q.0 x q.1 j h in
      let e = ap (λ m. m.declared) w.1 in
      let s = r.1 in
      r.3 ∙ ap (λ y. read y (record q.1 { declared = r.0 })) w.0 ∙ ap (λ m. read x (record m { declared = r.0 })) w.1 ∙
      ap (λ n. read x (record j { declared = n })) (let z : r.0 ≡ d + (j.declared - i.declared) = omega arith in z)
  down_by i x j d (Err e) u h r g = absurd (let n : ⊥ = cc in n)

  down : (i : Input) (x : Tree) (j : Input) (d : ℕ) → nested i ≡ read x j → d ≤ i.declared →
      nested (record i { declared = d }) ≡ read x (record j { declared = d + (j.declared - i.declared) })
  down i x j d h l =
      down_by i x j d (nested i) (nested (record i { declared = d })) h
      ((raised_nested (fewer limits i.declared d l) (suc depth) (suc depth)).raised (same_depth depth) i d refl (omega arith) (λ n. absurd n, λ n. absurd n)) (grows i x j h)

  -- more before: with fewer it reads the same as with these
  up_by : (i : Input) (x : Tree) (j : Input) (d : ℕ) (o u : Outcome Tree) → u ≡ read x j → Raised (Unit {0}) ⊥ (Unit {0})
      (from limits d i.declared) o u → i.declared ≤ j.declared → d + (j.declared - i.declared) ≤ limits.declarations →
      o ≡ read x (record j { declared = d + (j.declared - i.declared) })
  up_by i x j d (Ok q) u h r g few =
      let w = read_is q.0 x (record q.1 { declared = r.0 }) j (sym r.3 ∙ h) in
      let s = r.1 in
      let e = ap (λ m. m.declared) w.1 in
      ap (λ y. read y q.1) w.0
      ∙ ap (λ m. read x m) (same_input q.1 (record j { declared = d + (j.declared - i.declared) }) (ap (λ m. m.at) w.1) (omega arith) (ap (λ m. m.rest) w.1))
  up_by i x j d (Err Memory) u h r g few = absurd r
  up_by i x j d (Err (Wrong n)) u h r g few = absurd (let z : ⊥ = cc in z)
  up_by i x j d (Err (TooDeep n)) u h r g few = absurd (let s = r.0 tt in let z : ⊥ = cc in z)
  up_by i x j d (Err (TooMany n)) u h r g few = absurd (too_many n (r tt))
    where
      too_many : (n : ℕ) → (other : ℕ) × (limits.declarations + i.declared < other + d) × Past n other u → ⊥
      too_many n w = let l = w.1 in let m = past_read n w.0 u x j h w.2 in omega (arith, few, g)

  up : (i : Input) (x : Tree) (j : Input) (d : ℕ) → nested i ≡ read x j → i.declared < d → d + (j.declared - i.declared) ≤ limits.declarations →
      nested (record i { declared = d }) ≡ read x (record j { declared = d + (j.declared - i.declared) })
  up i x j d h l few =
      up_by i x j d (nested (record i { declared = d })) (nested i) h
      ((raised_nested (strictly_fewer limits d i.declared l) (suc depth) (suc depth)).raised (same_depth depth)
      (record i { declared = d }) i.declared refl (omega arith) (λ n. absurd n, λ n. omega (arith, few))) (grows i x j h) few

  either_way : (d n : ℕ) → (d ≤ n) ⊎ (n < d)
  either_way zero n = inl (omega arith)
  either_way (suc d) zero = inr (omega arith)
  either_way (suc d) (suc n) = further (either_way d n)
    where
      further : (d ≤ n) ⊎ (n < d) → (suc d ≤ suc n) ⊎ (suc n < suc d)
      further (inl l) = inl (omega (arith, l))
      further (inr l) = inr (omega (arith, l))

  moved : (i : Input) (x : Tree) (j : Input) (d : ℕ) → nested i ≡ read x j → d + (j.declared - i.declared) ≤ limits.declarations →
      (d ≤ i.declared) ⊎ (i.declared < d) → nested (record i { declared = d }) ≡ read x (record j { declared = d + (j.declared - i.declared) })
  moved i x j d h few (inl l) = down i x j d h l
  moved i x j d h few (inr l) = up i x j d h l few

  local_block : IsLocal limits.declarations nested
  local_block i x j h =
      let w = (closed_nested limits (suc depth)).takes i x j ((law_nested_block limits (suc depth)).sound i x j h) in
      record {
        kinds = w.kinds;
        tokens = w.tokens;
        at = stays_at limits (suc depth) i x j h;
        declared = grows i x j h;
        anywhere = λ at d rest few.
            let here = (law_nested_block limits (suc depth)).complete (put i (w.kinds ++ rest)) x (put j rest) (w.anywhere rest) refl in
            moved_at limits (suc depth) at (put (record i { declared = d }) (w.kinds ++ rest)) x
            (put (record j { declared = d + (j.declared - i.declared) }) rest) (moved (put i (w.kinds ++ rest)) x (put j rest) d here few (either_way d i.declared));
      }

pub blocks_are_local : (limits : Limits) (depth : ℕ) → IsLocal limits.declarations (p.nested_block limits depth)
unfolding p.nested_block
blocks_are_local limits zero = λ i x j h. absurd (let n : ⊥ = cc in n)
blocks_are_local limits (suc depth) = local_block limits depth
