use Rattle.std.proofs.Common.{[], ◌%◌, ◌==◌, ap}
use Rattle.mp_files.proofs.ItemLemmas.{kept_text}
use Rattle.std.proofs.lemmas.Nat.Bits.{bit_at-zero}
use Rattle.mp_files.proofs.item_list.ItemList.of.Goals as goal

pub returns : goal.returns
returns c = rw (c.new.ensures.items, c.in_ok-from_slice.ensures.items) (kept_text [] 0 c.args.bytes.now (λ at low. ap (λ n. n == 1) (bit_at-zero (at % 8))))
