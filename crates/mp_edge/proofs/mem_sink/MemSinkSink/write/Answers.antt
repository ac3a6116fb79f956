use Rattle.std.proofs.Common.{◌≡◌, ap, ◌∙◌, refl}
use Rattle.mp_edge.proofs.mem_sink.MemSinkSink.write.Goals as goal

-- the list that is looked through is that of the sink
pub returns-then-is_listed-clause-listed : goal.returns-then-is_listed-clause-listed
returns-then-is_listed-clause-listed c =
    let e : c.deref.result.now ≡ c.args.self.now.fail = c.deref.ensures.value ∙ ap (λ s. s.fail) c.self.view_is in
    (λ _. rw e at (c.is_listed.ensures.0 c.if-is_listed.true), λ _. refl)
