-- Blocks and programs end in their own last token: what follows is not heeded at all. Each stands on the laws of its
-- parts, of which some heed whether an `else` follows.
use Rattle.std.proofs.Common.{◌≡◌, ℕ, zero, suc, ◌+◌, ◌≤◌, List, [], ◌∷◌, ◌++◌, length, length-append, Option, Some, None, refl, sym, ap, ◌∙◌, subst, append_assoc, arith}
use Rattle.mp_ast.specs.declared.tokens.TokenKind.{TokenKind}
use Rattle.mp_ast.specs.declared.tokens.TokenKind.TheVariants as kind
use Rattle.mp_ast.specs.declared.words.WordSymbol.TheVariants as w
use Rattle.mp_ast.specs.declared.blocks.ProgramHeading.{ProgramHeading}
use Rattle.mp_ast.specs.declared.blocks.Tree.{Tree}
use Rattle.mp_ast.specs.Rules.{Input, Rule, gives, token, ◌>>=◌}
use Rattle.mp_ast.specs.Rules as rule
use Rattle.mp_ast.specs.BlockGrammar as g
use Rattle.mp_ast.specs.BlockGrammar.{Limits}
use Rattle.mp_cursor.specs.Nexts.{any}
use Rattle.mp_cursor.proofs.Settled.{put}
use Rattle.mp_cursor.proofs.Recovery.{Instead, Moves, is_else, moves_pure, moves_then, moves_or, moves_token, moves_many}
use Rattle.mp_cursor.proofs.LeafLaws.{law_identifier}
use Rattle.mp_cursor.proofs.BlockLaws.{law_counted}
use Rattle.mp_parse_type.proofs.HeadingLaws.{law_heading}
use Rattle.mp_parse_stmt.proofs.StatementLaws.{law_sequence_behind}
use Rattle.mp_parse.proofs.PartLaws.{law_labels, law_constants, law_types, law_variables}
use Rattle.mp_parse.proofs.DeclarationLaws.{law_forward, law_parameters}

-- the tokens that a rule takes, whatever follows them; some, where it is said to take one at least
pub record Taken {A : Type 0} (least : ℕ) (r : Rule A) (i : Input) (x : A) (j : Input) : Type 0 where
  pub kinds : List TokenKind
  pub enough : least ≤ length kinds
  pub tokens : i.rest ≡ kinds ++ j.rest
  pub anywhere : (t : List TokenKind) → r (put i (kinds ++ t)) x (put j t)

pub record Closed {A : Type 0} (least : ℕ) (r : Rule A) : Type 0 where
  pub takes : (i : Input) (x : A) (j : Input) → r i x j → Taken least r i x j

-- ---- one after another

-- what may stand before an `else` where it did
same_front : (c t old whole : List TokenKind) → 1 ≤ length c → whole ≡ c ++ old → Instead (c ++ t) whole
same_front [] t old whole some e h = absurd (let n : ⊥ = omega arith in n)
same_front (k ∷ c) t old whole some e h = ap is_else e ∙ h

module _ {A B : Type 0} (r : Rule A) (s : A → Rule B) where
  chain : (least : ℕ) (i : Input) (y : B) (j : Input) (x : A) (m : Input) (c d : List TokenKind) → i.rest ≡ c ++ m.rest → m.rest ≡ d ++ j.rest → least ≤ length c + length d
      → ((t : List TokenKind) → r (put i (c ++ (d ++ t))) x (put m (d ++ t))) → ((t : List TokenKind) → s x (put m (d ++ t)) y (put j t)) → Taken least (r >>= s) i y j
  chain least i y j x m c d e f n a b = record {
    kinds = c ++ d;
    enough = let l = length-append c d in omega (arith, n);
    tokens = e ∙ ap (λ ks. c ++ ks) f ∙ sym (append_assoc c d j.rest);
    anywhere = λ t. (x, put m (d ++ t), subst (λ ks. r (put i ks) x (put m (d ++ t))) (sym (append_assoc c d t)) (a t), b t);
  }

  -- the other takes a token at least
  pub closed_then : Moves r → ((x : A) → Closed 1 (s x)) → Closed 1 (r >>= s)
  closed_then a b = record {
    takes = λ i y j d.
        let f = a i d.0 d.1 d.2 in
        let g = (b d.0).takes d.1 y j d.3 in
        let n = g.enough in
        chain 1 i y j d.0 d.1 f.0 g.kinds f.1 g.tokens (omega arith) (λ t. f.2 (g.kinds ++ t) (same_front g.kinds t j.rest d.1.rest n g.tokens)) g.anywhere;
  }

  -- the one heeds nothing that follows
  pub closed_next : (least : ℕ) → Closed least r → ((x : A) → Closed 0 (s x)) → Closed least (r >>= s)
  closed_next least a b = record {
    takes = λ i y j d.
        let f = a.takes i d.0 d.1 d.2 in
        let g = (b d.0).takes d.1 y j d.3 in
        let n = f.enough in
        chain least i y j d.0 d.1 f.kinds g.kinds f.tokens g.tokens (omega arith) (λ t. f.anywhere (g.kinds ++ t)) g.anywhere;
  }

closed_pure : {A : Type 0} (x : A) → Closed 0 (gives x)
closed_pure x = record { takes = λ i y j d. record { kinds = []; enough = omega arith; tokens = ap (λ m. m.rest) d.1; anywhere = λ t. (d.0, ap (λ m. put m t) d.1) } }

closed_here : Closed 0 rule.here
closed_here = record { takes = λ i y j d. record { kinds = []; enough = omega arith; tokens = ap (λ m. m.rest) d.1; anywhere = λ t. (d.0, ap (λ m. put m t) d.1) } }

closed_token : (k : TokenKind) → Closed 1 (token k)
closed_token k = record { takes = λ i at j d. record { kinds = k ∷ []; enough = omega arith; tokens = d.0; anywhere = λ t. (refl, d.1, d.2, d.3) } }

closed_fewer : {A : Type 0} (r : Rule A) → Closed 1 r → Closed 0 r
closed_fewer r a = record { takes = λ i x j d. let w = a.takes i x j d in record { kinds = w.kinds; enough = omega arith; tokens = w.tokens; anywhere = w.anywhere } }

closed_own : {A : Type 0} (r : Rule A) → Closed 1 r → Closed 1 (rule.with_own_ordinals r)
closed_own r a = record {
  takes = λ i x j d.
      let w = a.takes (record i { at = 0 }) x d.0 d.1 in
      record {
        kinds = w.kinds;
        enough = w.enough;
        tokens = w.tokens ∙ ap (λ ks. w.kinds ++ ks) (sym (ap (λ m. m.rest) d.2));
        anywhere = λ t. (put d.0 t, w.anywhere t, ap (λ m. put m t) d.2);
      };
}

-- ---- blocks

module _ (openers : ℕ) where
  closed_statements : (room : ℕ) → openers ≡ room → Closed 1 (g.statement_part openers)
  closed_statements zero e = record { takes = λ i x j d. absurd (subst (λ n. rule.opener n (kind.Word w.Begin) i d.0 d.1) e d.2) }
  closed_statements (suc room) e =
      closed_next _ _ 1 (record {
        takes = λ i at j d. let t : token (kind.Word w.Begin) i at j = subst (λ n. rule.opener n (kind.Word w.Begin) i at j) e d in
            record {
              kinds = kind.Word w.Begin ∷ [];
              enough = omega arith;
              tokens = t.0;
              anywhere =
                  λ more. subst (λ n. rule.opener n (kind.Word w.Begin) (put i (kind.Word w.Begin ∷ more)) at (put j more)) (sym e) (refl, t.1, t.2, t.3);
            };
      })
      (λ at. closed_fewer _ (closed_then _ _ (law_sequence_behind openers room e).moves (λ found. closed_next _ _ 1 (closed_token _) (λ end. closed_pure _))))

module _ (limits : Limits) where
  module _ (r : Rule Tree) (nested : Moves r) where
    declaration_moves : Moves (g.declaration limits r)
    declaration_moves =
        moves_then _ _ (law_counted {P = Unit {0}} limits.declarations any).moves (λ z.
        moves_then _ _ (law_heading limits.openers).moves (λ heading.
        moves_then _ _ (moves_token _) (λ semicolon.
        moves_then _ _ (moves_or _ _ law_forward.moves (moves_then _ _ nested (λ tree. moves_pure _))) (λ rest.
        moves_then _ _ (moves_token _) (λ z. moves_pure _)))))

    deeper_moves : (depth : ℕ) → Moves (rule.deeper depth (g.declaration limits r))
    deeper_moves zero = λ i x j d. absurd d
    deeper_moves (suc depth) = declaration_moves

    closed_block : (program : Option ProgramHeading) (depth : ℕ) → Closed 1 (g.block_with limits program depth r)
    closed_block program depth =
        closed_then _ _ law_labels.moves (λ labels.
        closed_then _ _ law_constants.moves (λ constants.
        closed_then _ _ (law_types limits.openers).moves (λ types.
        closed_then _ _ (law_variables limits.openers).moves (λ variables.
        closed_then _ _ (λ i xs j d. moves_many _ (deeper_moves depth) j xs i d) (λ declared.
        closed_next _ _ 1 (closed_statements limits.openers limits.openers refl) (λ statements.
        closed_next _ _ 0 closed_here (λ tokens. closed_pure _)))))))

  closed_moves : {A : Type 0} (r : Rule A) → Closed 1 r → Moves r
  closed_moves r a i x j d = let f = a.takes i x j d in (f.kinds, f.tokens, λ t h. f.anywhere t)

  pub closed_nested : (depth : ℕ) → Closed 1 (g.nested_block limits depth)
  unfolding g.nested_block
  closed_nested zero = record { takes = λ i x j d. absurd d }
  closed_nested (suc depth) = closed_own _ (closed_next _ _ 1 (closed_block _ (closed_moves _ (closed_nested depth)) None depth) (λ x. closed_pure _))

  -- ---- programs

  pub closed_program : Closed 1 (g.program limits)
  closed_program =
      closed_then _ _ (moves_token _) (λ z.
      closed_then _ _ (law_identifier {P = Unit {0}}).moves (λ name.
      closed_then _ _ (law_parameters limits).moves (λ parameters.
      closed_then _ _ (moves_token _) (λ z.
      closed_then _ _ (closed_moves _ (closed_block _ (closed_moves _ (closed_nested limits.depth))
      (Some (record { name = name; parameters = parameters })) limits.depth)) (λ found.
      closed_next _ _ 1 (closed_token _) (λ z. closed_next _ _ 0 closed_here (λ tokens. closed_pure _)))))))
