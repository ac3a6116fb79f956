use Rattle.std.proofs.Common.{◌≡◌, drop}
use Rattle.mp_script.specs.Access.{completes, have_form, parts_of}
use Rattle.mp_script.proofs.access.have_form.Given as goal

abbrev pub invariant-tokens : goal.invariant-tokens
invariant-tokens l = completes l.stage (parts_of (drop l.token-index l.tokens)) ≡ have_form (parts_of l.tokens)
