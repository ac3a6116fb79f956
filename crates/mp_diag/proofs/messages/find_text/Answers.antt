use Rattle.std.proofs.Common.{◌≡◌, ◌∙◌, arith}
use Rattle.std.proofs.lemmas.Grind.{common_steps}
use Rattle.std.specs.Option.{option_map, option_copied}
use Rattle.mp_diag.proofs.CodesLemmas.{text_found}
use Rattle.mp_diag.proofs.messages.find_text.Goals as goal

pub returns : goal.returns
returns c =
    let text : option_copied c.map.result ≡ option_map (λ message. message.now.1.now) c.find_message.result = grind (arith, common_steps) in
    text ∙ text_found c.args.messages.now c.args.code c.find_message.result c.find_message.ensures
