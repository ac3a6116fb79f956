-- What the grammar has no derivation of.
use Rattle.std.proofs.Common.{◌≡◌, ◌≢◌, ℕ, List, [], ◌∷◌, map, Option, Some, None, refl, sym, inl, inr, ap, ◌∙◌}
use Rattle.mp_ast.specs.declared.expressions.Expr.{Expr}
use Rattle.mp_ast.specs.declared.statements.Statement.{Statement}
use Rattle.mp_ast.specs.declared.statements.Statement.TheVariants as t
use Rattle.mp_ast.specs.declared.tokens.TokenKind.{TokenKind}
use Rattle.mp_ast.specs.declared.tokens.TokenKind.TheVariants.{Word}
use Rattle.mp_ast.specs.declared.words.WordSymbol.TheVariants as w
use Rattle.mp_ast.specs.declared.leaves.Sign.{Sign}
use Rattle.mp_ast.specs.declared.leaves.Constant.{Constant}
use Rattle.mp_ast.specs.declared.leaves.Constant.TheVariants as c
use Rattle.mp_ast.specs.Rules.{Rule, Input, ◌>>◌, ◌<$>◌, ◌<|>◌, gives, optional, none, Many, no_more, one_more, word, not_before}
use Rattle.mp_ast.specs.LeafGrammar.{sign, number, identifier, constant}
use Rattle.mp_ast.specs.StatementGrammar.{behind}
use Rattle.mp_ast.specs.Examples.{NoElseFollows, NoRoomForPacked, NoneInTheDeepest}

-- equal `if` statements are both without an `else`
without_else : (at place : ℕ) (condition other : Expr) (body first : Statement) (second : Option Statement) → t.If at condition first second ≡
    t.If place other body None → second ≡ None
without_else at place condition other body first None h = refl
without_else at place condition other body first (Some x) h = let f : t.If at condition first (Some x) ≡ t.If place other body None = h in absurd (cc)

-- where an `else` part is left out, no `else` follows
nothing_behind : (second : Option Statement) (i m j : Input) (more : List TokenKind) (r : Rule Statement) → second ≡ None → m ≡ j →
    (Some <$> (word w.Else >> r) <|> not_before (Word w.Else) >> gives None) i second m → j.rest ≢ Word w.Else ∷ more
nothing_behind second i m j more r none e (inl p) k = let f = p.3.0 in absurd (cc)
nothing_behind second i m j more r none e (inr p) k = p.2.0 more (ap (λ v. v.rest) (p.2.1 ∙ p.3.1 ∙ e) ∙ k)

-- By the alternatives of a statement: all but the `if` give another tree. Of an `if` the part behind is `None`, so that it
-- reads nothing, where the next token is no `else`.
pub no_else_follows : NoElseFollows
no_else_follows room at condition body i j more (inl (inl p)) = let f = p.3.0 in absurd (cc)
no_else_follows room at condition body i j more (inl (inr (inl p))) = let f = p.3.3.3.0 in absurd (cc)
no_else_follows room at condition body i j more (inl (inr (inr (inl p)))) = let f = p.3.3.0 in absurd (cc)
no_else_follows room at condition body i j more (inl (inr (inr (inr (inl p))))) = let f = p.3.3.0 in absurd (cc)
no_else_follows room at condition body i j more (inl (inr (inr (inr (inr (inl p)))))) = let f = p.3.3.3.0 in absurd (cc)
no_else_follows room at condition body i j more (inl (inr (inr (inr (inr (inr (inl p))))))) =
    let f = p.3.3.3.3.3.0 in
    let none : p.3.3.3.3.0 ≡ None = without_else p.0 at p.3.0 condition body p.3.3.3.0 p.3.3.3.3.0 f in
    nothing_behind p.3.3.3.3.0 p.3.3.3.1 p.3.3.3.3.1 j more (behind room).statement none p.3.3.3.3.3.1 p.3.3.3.3.2
no_else_follows room at condition body i j more (inl (inr (inr (inr (inr (inr (inr (inl p)))))))) = let f = p.3.3.3.3.3.3.0 in absurd (cc)
no_else_follows room at condition body i j more (inl (inr (inr (inr (inr (inr (inr (inr (inl p))))))))) = let f = p.3.3.3.3.0 in absurd (cc)
no_else_follows room at condition body i j more (inl (inr (inr (inr (inr (inr (inr (inr (inr (inl p)))))))))) = let f = p.3.3.3.3.0 in absurd (cc)
no_else_follows room at condition body i j more (inl (inr (inr (inr (inr (inr (inr (inr (inr (inr (inl p))))))))))) = let f = p.3.3.3.3.0 in absurd (cc)
no_else_follows room at condition body i j more (inl (inr (inr (inr (inr (inr (inr (inr (inr (inr (inr p))))))))))) = let f = p.3.3.3.3.0 in absurd (cc)
no_else_follows room at condition body i j more (inr p) = let f = p.3.3.3.0 in absurd (cc)

-- ---- `packed` is no first token of a constant

no_sign : (x : Sign) (i j : Input) (more : List TokenKind) → i.rest ≡ Word w.Packed ∷ more → sign i x j → ⊥
no_sign x i j more e (inl p) = let f = p.2.0 in absurd (cc)
no_sign x i j more e (inr p) = let f = p.2.0 in absurd (cc)

no_number_or_name : (s : Option Sign) (x : Constant) (i m j : Input) (more : List TokenKind) → i.rest ≡ Word w.Packed ∷ more → optional sign i s m →
    (c.Number s <$> number <|> c.Name s <$> identifier) m x j → ⊥
no_number_or_name s x i m j more e (inl p) q = no_sign p.0 i p.1 more e p.2
no_number_or_name s x i m j more e (inr p) (inl q) = let f = q.2.0 in let g = ap (λ v. v.rest) p.1 in absurd (cc)
no_number_or_name s x i m j more e (inr p) (inr q) = let f = q.2.0 in let g = ap (λ v. v.rest) p.1 in absurd (cc)

no_constant : (x : Constant) (i j : Input) (more : List TokenKind) → i.rest ≡ Word w.Packed ∷ more → constant i x j → ⊥
no_constant x i j more e (inl p) = no_number_or_name p.0 x i p.1 j more e p.2 p.3
no_constant x i j more e (inr p) = let f = p.2.0 in absurd (cc)

-- By the alternatives of a type: the simple ones and the pointers begin with another token, and the structured ones want
-- an opener.
pub no_room_for_packed : NoRoomForPacked
no_room_for_packed tree i j more e (inl (inl p)) = let f = p.2.0 in absurd (cc)
no_room_for_packed tree i j more e (inl (inr (inl p))) = let f = p.2.0 in absurd (cc)
no_room_for_packed tree i j more e (inl (inr (inr p))) = no_constant p.0 i p.1 more e p.2
no_room_for_packed tree i j more e (inr (inl p)) = let f = p.2.0 in absurd (cc)
no_room_for_packed tree i j more e (inr (inr (inl (inl p)))) = absurd p.2
no_room_for_packed tree i j more e (inr (inr (inl (inr (inl p))))) = absurd p.2
no_room_for_packed tree i j more e (inr (inr (inl (inr (inr (inl p)))))) = absurd p.2
no_room_for_packed tree i j more e (inr (inr (inl (inr (inr (inr p)))))) = absurd p.2
no_room_for_packed tree i j more e (inr (inr (inr p))) = absurd p.2

-- ---- the deepest block

many_of_none : {A : Type 0} (xs : List A) (i j : Input) → Many none j xs i → xs ≡ []
many_of_none _ _ j no_more = refl
many_of_none _ _ j (one_more x xs i m p more) = absurd p

pub none_in_the_deepest : NoneInTheDeepest
none_in_the_deepest limits heading found i j p =
    let declared = p.3.3.3.3 in
    sym (ap (λ b. b.0.declarations) declared.3.3.3.0) ∙ ap (map (λ d. d.declaration)) (many_of_none declared.0 p.3.3.3.1 declared.1 declared.2)
