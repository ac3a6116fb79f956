-- What a new version changes is a change in the sense of `relex`.
use Rattle.std.proofs.Common.{◌≡◌, ◌≤◌, ◌+◌, ℕ, List, [], ◌∷◌, length, ap, sym, subst, ◌∙◌, arith}
use Rattle.mp_ast.specs.declared.errors.LexError.{LexError}
use Rattle.mp_ast.specs.declared.tokens.Token.{Token}
use Rattle.mp_base.specs.declared.limits.TheConstants.{TEXT_LIMIT}
use Rattle.mp_base.specs.Text.{bytes_of}
use Rattle.mp_desk.specs.Desk.{AreLexed, IsChangeOfEdit, IsChangeOfWhole, edit_change, last_text}
use Rattle.mp_lex.specs.Lexed.{lexical_errors, lexical_tokens}
use Rattle.mp_lex.specs.Relexing.{Changes, IsChanged}
use Rattle.mp_lex.proofs.ChangeLemmas.{are_changes}
use Rattle.mp_text.specs.Changes.{change_bytes, change_removed, change_start}
use Rattle.mp_text.specs.Edits.{IsInRange, edited}
use Rattle.mp_text.specs.declared.edits.Edit.{Edit}
use Rattle.mp_text.proofs.ChangeLemmas.{byte_change}
use Rattle.mp_text.proofs.SharedLemmas.{size_edited}

-- an edit brings few bytes where the new text is small
pub few_added : (e : Edit) (text : List (List ℕ)) → IsInRange e text → length (bytes_of text) ≤ TEXT_LIMIT → length (bytes_of (edited e text)) ≤ TEXT_LIMIT →
    length (change_bytes e) ≤ TEXT_LIMIT + TEXT_LIMIT
few_added e text h small made = let within = (byte_change e text h).within in omega (arith, size_edited e text h)

pub edit_changes : (e : Edit) (text : List (List ℕ)) → IsChangeOfEdit e text
edit_changes e text h =
    let is = byte_change e text h in
    subst (λ t. Changes (edit_change e text) (bytes_of text) t) (sym is.bytes)
    ((are_changes (change_start e text) (change_removed e text) (change_bytes e) (bytes_of text) (bytes_of text)).splice is.within)

pub whole_changes : (before after : List (List ℕ)) → IsChangeOfWhole before after
whole_changes before after = (are_changes 0 0 [] (bytes_of before) (bytes_of after)).whole

-- the same change, in the numbers that were computed
pub is_changed : (start removed added s r a : ℕ) (before after : List (List ℕ)) (tokens : List Token) (errors : List LexError) (bytes : List ℕ) → start ≡ s →
    removed ≡ r → added ≡ a → length (bytes_of before) ≤ TEXT_LIMIT → AreLexed before tokens errors → bytes ≡ bytes_of after →
    Changes (record { start = s; removed = r; added = a }) (bytes_of before) (bytes_of after) →
    IsChanged tokens errors (record { start = start; removed = removed; added = added }) bytes
is_changed start removed added s r a before after tokens errors bytes p q v small lexed b changes =
    let T : List ℕ → Type 0 = λ t. Changes (record { start = s; removed = r; added = a }) (bytes_of before) t in
    let A : ℕ → Type 0 = λ k. Changes (record { start = s; removed = r; added = k }) (bytes_of before) bytes in
    let R : ℕ → Type 0 = λ k. Changes (record { start = s; removed = k; added = added }) (bytes_of before) bytes in
    let S : ℕ → Type 0 = λ k. Changes (record { start = k; removed = removed; added = added }) (bytes_of before) bytes in
    record {
      before = bytes_of before;
      short = omega arith;
      tokens_are = lexed.tokens_are;
      errors_are = lexed.errors_are;
      changes = subst S (sym p) (subst R (sym q) (subst A (sym v) (subst T (sym b) changes)));
    }

-- the first version has no bytes
pub lexed_first : (versions : List (List (List ℕ))) (bytes : List ℕ) (tokens : List Token) (errors : List LexError) → versions ≡ [] ∷ [] → bytes ≡ [] →
    tokens ≡ lexical_tokens bytes → errors ≡ lexical_errors bytes → AreLexed (last_text versions) tokens errors
unfolding bytes_of
lexed_first versions bytes tokens errors e b t r =
    let same : bytes ≡ bytes_of (last_text versions) = b ∙ sym (ap (λ v. bytes_of (last_text v)) e) in
    record { tokens_are = t ∙ ap lexical_tokens same; errors_are = r ∙ ap lexical_errors same }
