use Rattle.std.proofs.Common.{◌≡◌, ◌+◌, ◌<◌, drop, length, ap, subst, sym, ◌∙◌, arith}
use Rattle.mp_lex.specs.Lengths.{comment_len}
use Rattle.mp_lex.specs.Split.{item_len}
use Rattle.mp_lex.specs.Windows.{IsRead}
use Rattle.mp_lex.proofs.WindowLemmas.{brace_reach, paren_reach, is_here}
use Rattle.mp_lex.proofs.AheadLemmas.{number_reach, string_reach, word_reach}
use Rattle.mp_lex.proofs.window.read_ahead.Goals as goal

pub returns-in_err-read_comment-clause-reach : goal.returns-in_err-read_comment-clause-reach
returns-in_err-read_comment-clause-reach g c =
    let text = g.T.Reader.bytes c.args.text.now in
    let at = c.args.at in
    let inside : at < length c.has.new.window.bytes.items = is_here _ _ c.in_ok-has.field-0 c.if-not-branch.false c.in_ok-has.ensures.byte in
    let same : item_len (drop (c.has.new.window.from + at) text) ≡ item_len (drop (c.args.window.now.from + at) text) =
    ap (λ k. item_len (drop (k + at) text)) c.has.ensures.from in
    let far = brace_reach text c.has.new.window.from c.has.new.window.bytes.items at c.index.result.now c.has.ensures.read inside c.index.ensures c.if-first-eq123.true in
    omega (arith, far, same, c.has.ensures.reach, c.read_comment.ensures.reach)

pub returns-then-first-eq123-clause-reach : goal.returns-then-first-eq123-clause-reach
returns-then-first-eq123-clause-reach g c =
    let text = g.T.Reader.bytes c.args.text.now in
    let at = c.args.at in
    let inside : at < length c.has.new.window.bytes.items = is_here _ _ c.in_ok-has.field-0 c.if-not-branch.false c.in_ok-has.ensures.byte in
    let same : item_len (drop (c.has.new.window.from + at) text) ≡ item_len (drop (c.args.window.now.from + at) text) =
    ap (λ k. item_len (drop (k + at) text)) c.has.ensures.from in
    let far = brace_reach text c.has.new.window.from c.has.new.window.bytes.items at c.index.result.now c.has.ensures.read inside c.index.ensures c.if-first-eq123.true in
    omega (arith, far, same, c.has.ensures.reach, c.read_comment.ensures.reach)

pub returns-in_err-read_comment-2-clause-reach : goal.returns-in_err-read_comment-2-clause-reach
returns-in_err-read_comment-2-clause-reach g c =
    let text = g.T.Reader.bytes c.args.text.now in
    let at = c.args.at in
    let inside : at < length c.has.new.window.bytes.items = is_here _ _ c.in_ok-has.field-0 c.if-not-branch.false c.in_ok-has.ensures.byte in
    let next : at + 1 < length c.has-2.new.window.bytes.items = is_here _ _ c.in_ok-has-2.field-0 c.if-not-branch-2.false c.in_ok-has-2.ensures.byte in
    let froms : c.has-2.new.window.from ≡ c.has.new.window.from = c.has-2.ensures.from in
    let same : item_len (drop (c.has.new.window.from + at) text) ≡ item_len (drop (c.args.window.now.from + at) text) =
    ap (λ k. item_len (drop (k + at) text)) c.has.ensures.from in
    let comments : comment_len (drop (c.has-2.new.window.from + (at + 2)) text) ≡ comment_len (drop (c.has.new.window.from + (at + 2)) text) =
    ap (λ k. comment_len (drop (k + (at + 2)) text)) froms in
    let read : IsRead text c.has.new.window.from c.has-2.new.window.bytes.items = subst (λ k. IsRead text k c.has-2.new.window.bytes.items) froms c.has-2.ensures.read in
    let far = paren_reach text c.has.new.window.from c.has.new.window.bytes.items c.has-2.new.window.bytes.items at c.index.result.now
    c.index-second.result.now c.has.ensures.read read inside next c.index.ensures c.index-second.ensures c.if-first-ne40.false c.if-second-ne42.false in
    omega (arith, far, same, comments, c.has.ensures.reach, c.has-2.ensures.reach, c.read_comment-2.ensures.reach)

pub returns-clause-reach : goal.returns-clause-reach
returns-clause-reach g c =
    let text = g.T.Reader.bytes c.args.text.now in
    let at = c.args.at in
    let inside : at < length c.has.new.window.bytes.items = is_here _ _ c.in_ok-has.field-0 c.if-not-branch.false c.in_ok-has.ensures.byte in
    let next : at + 1 < length c.has-2.new.window.bytes.items = is_here _ _ c.in_ok-has-2.field-0 c.if-not-branch-2.false c.in_ok-has-2.ensures.byte in
    let froms : c.has-2.new.window.from ≡ c.has.new.window.from = c.has-2.ensures.from in
    let same : item_len (drop (c.has.new.window.from + at) text) ≡ item_len (drop (c.args.window.now.from + at) text) =
    ap (λ k. item_len (drop (k + at) text)) c.has.ensures.from in
    let comments : comment_len (drop (c.has-2.new.window.from + (at + 2)) text) ≡ comment_len (drop (c.has.new.window.from + (at + 2)) text) =
    ap (λ k. comment_len (drop (k + (at + 2)) text)) froms in
    let read : IsRead text c.has.new.window.from c.has-2.new.window.bytes.items = subst (λ k. IsRead text k c.has-2.new.window.bytes.items) froms c.has-2.ensures.read in
    let far = paren_reach text c.has.new.window.from c.has.new.window.bytes.items c.has-2.new.window.bytes.items at c.index.result.now
    c.index-second.result.now c.has.ensures.read read inside next c.index.ensures c.index-second.ensures c.if-first-ne40.false c.if-second-ne42.false in
    omega (arith, far, same, comments, c.has.ensures.reach, c.has-2.ensures.reach, c.read_comment-2.ensures.reach)

pub returns-in_err-read_word-clause-reach : goal.returns-in_err-read_word-clause-reach
returns-in_err-read_word-clause-reach g c =
    let text = g.T.Reader.bytes c.args.text.now in
    let at = c.args.at in
    let inside : at < length c.has.new.window.bytes.items = is_here _ _ c.in_ok-has.field-0 c.if-not-branch.false c.in_ok-has.ensures.byte in
    let same : item_len (drop (c.has.new.window.from + at) text) ≡ item_len (drop (c.args.window.now.from + at) text) =
    ap (λ k. item_len (drop (k + at) text)) c.has.ensures.from in
    let far = word_reach text c.has.new.window.from c.has.new.window.bytes.items at c.index.result.now c.has.ensures.read inside c.index.ensures
    (sym c.is_ascii_alphabetic.ensures.value ∙ c.if-is_ascii_alphabetic.true) in
    omega (arith, far, same, c.has.ensures.reach, c.read_word.ensures.reach)

pub returns-then-is_ascii_alphabetic-clause-reach : goal.returns-then-is_ascii_alphabetic-clause-reach
returns-then-is_ascii_alphabetic-clause-reach g c =
    let text = g.T.Reader.bytes c.args.text.now in
    let at = c.args.at in
    let inside : at < length c.has.new.window.bytes.items = is_here _ _ c.in_ok-has.field-0 c.if-not-branch.false c.in_ok-has.ensures.byte in
    let same : item_len (drop (c.has.new.window.from + at) text) ≡ item_len (drop (c.args.window.now.from + at) text) =
    ap (λ k. item_len (drop (k + at) text)) c.has.ensures.from in
    let far = word_reach text c.has.new.window.from c.has.new.window.bytes.items at c.index.result.now c.has.ensures.read inside c.index.ensures
    (sym c.is_ascii_alphabetic.ensures.value ∙ c.if-is_ascii_alphabetic.true) in
    omega (arith, far, same, c.has.ensures.reach, c.read_word.ensures.reach)

pub returns-in_err-read_number-clause-reach : goal.returns-in_err-read_number-clause-reach
returns-in_err-read_number-clause-reach g c =
    let text = g.T.Reader.bytes c.args.text.now in
    let at = c.args.at in
    let inside : at < length c.has.new.window.bytes.items = is_here _ _ c.in_ok-has.field-0 c.if-not-branch.false c.in_ok-has.ensures.byte in
    let same : item_len (drop (c.has.new.window.from + at) text) ≡ item_len (drop (c.args.window.now.from + at) text) =
    ap (λ k. item_len (drop (k + at) text)) c.has.ensures.from in
    let far = number_reach text c.has.new.window.from c.has.new.window.bytes.items at c.index.result.now c.has.ensures.read inside c.index.ensures
    (sym c.is_ascii_alphabetic.ensures.value ∙ c.if-is_ascii_alphabetic.false) (sym c.is_ascii_digit.ensures.value ∙ c.if-is_ascii_digit.true) in
    omega (arith, far, same, c.has.ensures.reach, c.read_number.ensures.reach)

pub returns-then-is_ascii_digit-clause-reach : goal.returns-then-is_ascii_digit-clause-reach
returns-then-is_ascii_digit-clause-reach g c =
    let text = g.T.Reader.bytes c.args.text.now in
    let at = c.args.at in
    let inside : at < length c.has.new.window.bytes.items = is_here _ _ c.in_ok-has.field-0 c.if-not-branch.false c.in_ok-has.ensures.byte in
    let same : item_len (drop (c.has.new.window.from + at) text) ≡ item_len (drop (c.args.window.now.from + at) text) =
    ap (λ k. item_len (drop (k + at) text)) c.has.ensures.from in
    let far = number_reach text c.has.new.window.from c.has.new.window.bytes.items at c.index.result.now c.has.ensures.read inside c.index.ensures
    (sym c.is_ascii_alphabetic.ensures.value ∙ c.if-is_ascii_alphabetic.false) (sym c.is_ascii_digit.ensures.value ∙ c.if-is_ascii_digit.true) in
    omega (arith, far, same, c.has.ensures.reach, c.read_number.ensures.reach)

pub returns-in_err-read_string-clause-reach : goal.returns-in_err-read_string-clause-reach
returns-in_err-read_string-clause-reach g c =
    let text = g.T.Reader.bytes c.args.text.now in
    let at = c.args.at in
    let inside : at < length c.has.new.window.bytes.items = is_here _ _ c.in_ok-has.field-0 c.if-not-branch.false c.in_ok-has.ensures.byte in
    let same : item_len (drop (c.has.new.window.from + at) text) ≡ item_len (drop (c.args.window.now.from + at) text) =
    ap (λ k. item_len (drop (k + at) text)) c.has.ensures.from in
    let far = string_reach text c.has.new.window.from c.has.new.window.bytes.items at c.index.result.now c.has.ensures.read inside c.index.ensures c.if-first-eq39.true in
    omega (arith, far, same, c.has.ensures.reach, c.read_string.ensures.reach)

pub returns-then-first-eq39-clause-reach : goal.returns-then-first-eq39-clause-reach
returns-then-first-eq39-clause-reach g c =
    let text = g.T.Reader.bytes c.args.text.now in
    let at = c.args.at in
    let inside : at < length c.has.new.window.bytes.items = is_here _ _ c.in_ok-has.field-0 c.if-not-branch.false c.in_ok-has.ensures.byte in
    let same : item_len (drop (c.has.new.window.from + at) text) ≡ item_len (drop (c.args.window.now.from + at) text) =
    ap (λ k. item_len (drop (k + at) text)) c.has.ensures.from in
    let far = string_reach text c.has.new.window.from c.has.new.window.bytes.items at c.index.result.now c.has.ensures.read inside c.index.ensures c.if-first-eq39.true in
    omega (arith, far, same, c.has.ensures.reach, c.read_string.ensures.reach)
