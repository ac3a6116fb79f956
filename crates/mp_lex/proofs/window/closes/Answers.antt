use Rattle.mp_lex.proofs.WindowLemmas.{other_byte}
use Rattle.mp_lex.proofs.window.closes.Goals as goal

pub returns-then-byte-ne42-clause-goes_on : goal.returns-then-byte-ne42-clause-goes_on
returns-then-byte-ne42-clause-goes_on g c e =
    other_byte (g.T.Reader.bytes c.args.text.now) c.args.window.now.from c.args.window.now.bytes.items c.args.at c.index-byte.result.now c.requires.read
    c.requires.at c.index-byte.ensures c.if-byte-eq125.false c.if-byte-ne42.true
