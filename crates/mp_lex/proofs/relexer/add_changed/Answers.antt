use Rattle.std.proofs.Common.{◌≡◌, ◌+◌, ◌-◌, ◌++◌, take, drop, length, ap, sym, subst, ◌∙◌, arith, false}
use Rattle.mp_lex.specs.Items.{is_item}
use Rattle.mp_lex.specs.Split.{IsLongest, item_len}
use Rattle.mp_lex.specs.Meaning.{meaning}
use Rattle.mp_lex.specs.Lexed.{token_of, error_of}
use Rattle.mp_lex.specs.Relexing.{is_start_again}
use Rattle.mp_lex.specs.Windows.{IsLexedTo}
use Rattle.mp_lex.proofs.SplitLemmas.{item_len_is}
use Rattle.mp_lex.proofs.WindowLemmas.{read_none, item_bytes}
use Rattle.mp_lex.proofs.RelexLemmas.{kept_first, lexed_item, reads_first}
use Rattle.mp_lex.proofs.relexer.add_changed.Goals as goal

pub items-init : goal.items-init
items-init g c =
    let text = g.T.Reader.bytes c.args.text.now in
    let lexed = c.requires.lexed in
    let none = ap length c.new.ensures.items in
    let same : c.args.from ≡ c.args.from + 0 = omega arith in
    record {
      window = λ i. c.args.from;
      read = read_none text c.args.from c.new.result.items lexed.within c.new.ensures.items;
      known = omega arith;
      reach = omega (arith, none);
      steps = omega (arith, none);
      lexed = subst (λ k. IsLexedTo text k c.args.tokens.now c.args.errors.now) same lexed;
      before = let h = kept_first c.args.change c.args.old.now.tokens c.args.old.now.errors text c.args.from c.requires.added c.requires.before in omega (arith, h);
    }

pub returns-in_err-end-clause-steps : goal.returns-in_err-end-clause-steps
returns-in_err-end-clause-steps g c =
    let text = g.T.Reader.bytes c.args.text.now in
    let so = c.items.invariant in
    let not_here : is_start_again c.args.change c.args.old.now.tokens c.args.old.now.errors (c.args.from + c.items.at) ≡ false = sym c.starts_again.ensures
    ∙ c.if-not-starts_again.true in
    let far = reads_first c.args.change c.items.tokens c.args.old.now.tokens c.items.errors c.args.old.now.errors text c.args.from c.items.window.from
    c.items.at so.window so.lexed (omega (arith, c.items-test.true, c.len-len.ensures)) so.before not_here in
    omega (arith, far, so.steps, so.reach, c.read_item.ensures.steps, c.read_item.ensures.reach)

pub returns-in_err-found-clause-steps : goal.returns-in_err-found-clause-steps
returns-in_err-found-clause-steps g c =
    let text = g.T.Reader.bytes c.args.text.now in
    let so = c.items.invariant in
    let not_here : is_start_again c.args.change c.args.old.now.tokens c.args.old.now.errors (c.args.from + c.items.at) ≡ false = sym c.starts_again.ensures
    ∙ c.if-not-starts_again.true in
    let far = reads_first c.args.change c.items.tokens c.args.old.now.tokens c.items.errors c.args.old.now.errors text c.args.from c.items.window.from
    c.items.at so.window so.lexed (omega (arith, c.items-test.true, c.len-len.ensures)) so.before not_here in
    omega (arith, far, so.steps, so.reach, c.read_item.ensures.steps, c.read_item.ensures.reach)

pub returns-in_err-add-clause-steps : goal.returns-in_err-add-clause-steps
returns-in_err-add-clause-steps g c =
    let text = g.T.Reader.bytes c.args.text.now in
    let so = c.items.invariant in
    let not_here : is_start_again c.args.change c.args.old.now.tokens c.args.old.now.errors (c.args.from + c.items.at) ≡ false = sym c.starts_again.ensures
    ∙ c.if-not-starts_again.true in
    let far = reads_first c.args.change c.items.tokens c.args.old.now.tokens c.items.errors c.args.old.now.errors text c.args.from c.items.window.from
    c.items.at so.window so.lexed (omega (arith, c.items-test.true, c.len-len.ensures)) so.before not_here in
    omega (arith, far, so.steps, so.reach, c.read_item.ensures.steps, c.read_item.ensures.reach)

pub meaning-requires-clause-item : goal.meaning-requires-clause-item
meaning-requires-clause-item g c =
    let text = g.T.Reader.bytes c.args.text.now in
    let is = c.in_ok-end.ensures.item in
    let later = is.later in
    ap is_item (item_bytes text c.read_item.new.window.from c.read_item.new.window.bytes.items c.deref.result.now c.items.at c.in_ok-end.end
    c.read_item.ensures.read c.deref.ensures.value (omega arith) c.in_ok-end.ensures.within
    ∙ ap (λ from. take (c.in_ok-end.end - c.items.at) (drop (from + c.items.at) text)) c.read_item.ensures.from)
    ∙ is.longest.passes

pub items-preserved : goal.items-preserved
items-preserved g c =
    let text = g.T.Reader.bytes c.args.text.now in
    let so = c.items.invariant in
    let is = c.in_ok-end.ensures.item in
    let later = is.later in
    let at = c.items.at in
    let end = c.in_ok-end.end in
    let from = c.args.from in
    let n = end - at in
    let within = c.in_ok-end.ensures.within in
    let same_from_place : drop (c.items.window.from + at) text ≡ drop (from + at) text = ap (λ k. drop (k + at) text) so.window in
    let longest : IsLongest is_item n (drop (from + at) text) = subst (IsLongest is_item n) same_from_place is.longest in
    let bytes : take n (drop at c.deref.result.now) ≡ take n (drop (from + at) text) =
    item_bytes text c.read_item.new.window.from c.read_item.new.window.bytes.items c.deref.result.now at end c.read_item.ensures.read c.deref.ensures.value (omega arith) within
    ∙ ap (λ k. take n (drop (k + at) text)) (c.read_item.ensures.from ∙ so.window) in
    let not_here : is_start_again c.args.change c.args.old.now.tokens c.args.old.now.errors (from + at) ≡ false = sym c.starts_again.ensures ∙ c.if-not-starts_again.true in
    let far = reads_first c.args.change c.items.tokens c.args.old.now.tokens c.items.errors c.args.old.now.errors text from c.items.window.from at so.window
    so.lexed (omega (arith, c.items-test.true, c.len-len.ensures)) so.before not_here in
    let len : item_len (drop (c.items.window.from + at) text) ≡ n = item_len_is (drop (c.items.window.from + at) text) n is.longest in
    let place : from + at + n ≡ from + end = omega arith in
    record {
      window = c.read_item.ensures.from ∙ so.window;
      read = c.read_item.ensures.read;
      known = within;
      reach = omega (arith, len, so.reach, c.read_item.ensures.reach);
      steps = omega (arith, so.steps, c.read_item.ensures.steps);
      lexed = subst (λ k. IsLexedTo text k c.add.new.tokens c.add.new.errors) place
          (lexed_item text (from + at) n c.items.tokens c.add.new.tokens c.items.errors c.add.new.errors so.lexed longest
          (c.in_ok-add.ensures.tokens ∙ ap (λ m. c.items.tokens ++ token_of (from + at) n m) (c.in_ok-found.ensures ∙ ap meaning bytes))
          (c.in_ok-add.ensures.errors ∙ ap (λ m. c.items.errors ++ error_of (from + at) n m) (c.in_ok-found.ensures ∙ ap meaning bytes)));
      before = omega (arith, far, len);
    }
