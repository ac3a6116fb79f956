-- How a derivation is written: `seq _ _ p q` for p and then q, `inl p` for the first alternative, `past_N p` for one behind
-- N others, `p ⊳ ps` for one more of many; and what names and numbers that stand alone derive.
use Rattle.std.proofs.Common.{◌≡◌, ◌⊎◌, ℕ, ◌+◌, List, [], ◌∷◌, None, refl, inl, inr}
use Rattle.mp_ast.specs.declared.tokens.TokenKind.{TokenKind}
use Rattle.mp_ast.specs.declared.tokens.TokenKind.TheVariants.{Id, Number}
use Rattle.mp_ast.specs.declared.leaves.Constant.TheVariants as c
use Rattle.mp_ast.specs.declared.expressions.Expr.{Expr}
use Rattle.mp_ast.specs.declared.expressions.Expr.TheVariants as e
use Rattle.mp_ast.specs.Rules.{Rule, Input, gives, token, here, not_before, Many, no_more, one_more}
use Rattle.mp_ast.specs.LeafGrammar.{constant}
use Rattle.mp_ast.specs.ExpressionGrammar.{Deeper, behind, factor_with, expression_with, access, expression}

pub seq : {A : Type 0} {P Q : A → Input → Type 0} (x : A) (m : Input) → P x m → Q x m → (x : A) × (m : Input) × P x m × Q x m
seq x m p q = (x, m, p, q)

infixr 6 ◌⊳◌
pub ◌⊳◌ : {A : Type 0} {r : Rule A} {x : A} {xs : List A} {i m j : Input} → r i x m → Many r j xs m → Many r j (x ∷ xs) i
p ⊳ ps = one_more _ _ _ _ p ps

pub past_1 : {A B : Type 0} → B → A ⊎ B
past_1 p = inr p

pub past_2 : {A B C : Type 0} → C → A ⊎ (B ⊎ C)
past_2 p = inr (inr p)

pub past_3 : {A B C D : Type 0} → D → A ⊎ (B ⊎ (C ⊎ D))
past_3 p = inr (past_2 p)

pub past_4 : {A B C D E : Type 0} → E → A ⊎ (B ⊎ (C ⊎ (D ⊎ E)))
past_4 p = inr (past_3 p)

pub past_5 : {A B C D E F : Type 0} → F → A ⊎ (B ⊎ (C ⊎ (D ⊎ (E ⊎ F))))
past_5 p = inr (past_4 p)

pub past_6 : {A B C D E F G : Type 0} → G → A ⊎ (B ⊎ (C ⊎ (D ⊎ (E ⊎ (F ⊎ G)))))
past_6 p = inr (past_5 p)

pub past_7 : {A B C D E F G H : Type 0} → H → A ⊎ (B ⊎ (C ⊎ (D ⊎ (E ⊎ (F ⊎ (G ⊎ H))))))
past_7 p = inr (past_6 p)

pub past_8 : {A B C D E F G H I : Type 0} → I → A ⊎ (B ⊎ (C ⊎ (D ⊎ (E ⊎ (F ⊎ (G ⊎ (H ⊎ I)))))))
past_8 p = inr (past_7 p)

pub past_9 : {A B C D E F G H I J : Type 0} → J → A ⊎ (B ⊎ (C ⊎ (D ⊎ (E ⊎ (F ⊎ (G ⊎ (H ⊎ (I ⊎ J))))))))
past_9 p = inr (past_8 p)

pub past_10 : {A B C D E F G H I J K : Type 0} → K → A ⊎ (B ⊎ (C ⊎ (D ⊎ (E ⊎ (F ⊎ (G ⊎ (H ⊎ (I ⊎ (J ⊎ K)))))))))
past_10 p = inr (past_9 p)

-- a token that stands there is read
pub took : {k : TokenKind} {at declared : ℕ} {rest : List TokenKind} →
    token k (record { at = at; declared = declared; rest = k ∷ rest }) at (record { at = at + 1; declared = declared; rest = rest })
took = (refl, refl, refl, refl)

-- nothing is read
pub nothing : {A : Type 0} {x : A} {i : Input} → gives x i x i
nothing = (refl, refl)

-- the ordinal of the next token
pub next : {i : Input} → here i i.at i
next = (refl, refl)

-- behind the last token no other one stands
pub at_end : {k : TokenKind} {at declared : ℕ} → not_before k (record { at = at; declared = declared; rest = [] }) tt (record { at = at; declared = declared; rest = [] })
at_end {k} = (λ more h. let f : ◌≡◌ {A = List TokenKind} [] (k ∷ more) = h in absurd (cc), refl)

-- a number as a constant
pub number_constant : (at declared value : ℕ) (rest : List TokenKind) →
    constant (record { at = at; declared = declared; rest = Number value ∷ rest }) (c.Number None (record { at = at; value = value }))
    (record { at = at + 1; declared = declared; rest = rest })
number_constant at declared value rest = inl (seq _ _ (past_1 nothing) (inl (seq _ _ took nothing)))

-- a factor alone is an expression
pub factor_alone : (room : ℕ) (behind : Deeper) (i : Input) (x : Expr) (j : Input) → factor_with room behind i x j → expression_with room behind i x j
factor_alone room behind i x j f = seq _ _ (seq _ _ (past_1 nothing) (seq _ _ (seq _ _ f (seq _ _ no_more nothing)) (seq _ _ no_more nothing))) (seq _ _ (past_1 nothing) nothing)

pub name_access : (room at declared : ℕ) (name : List ℕ) (rest : List TokenKind) →
    access room (record { at = at; declared = declared; rest = Id name ∷ rest }) (record { name = record { at = at; name = name }; selectors = [] })
    (record { at = at + 1; declared = declared; rest = rest })
name_access room at declared name rest = seq _ _ took (seq _ _ (seq _ _ no_more nothing) nothing)

pub name_expression : (room at declared : ℕ) (name : List ℕ) (rest : List TokenKind) →
    expression room (record { at = at; declared = declared; rest = Id name ∷ rest }) (e.Access (record { name = record { at = at; name = name }; selectors = [] }))
    (record { at = at + 1; declared = declared; rest = rest })
name_expression room at declared name rest = factor_alone room (behind room) _ _ _ (past_3 (inl (seq _ _ (name_access room at declared name rest) nothing)))

pub number_expression : (room at declared value : ℕ) (rest : List TokenKind) →
    expression room (record { at = at; declared = declared; rest = Number value ∷ rest }) (e.Number (record { at = at; value = value }))
    (record { at = at + 1; declared = declared; rest = rest })
number_expression room at declared value rest = factor_alone room (behind room) _ _ _ (inl (seq _ _ took nothing))
