-- Splices, and whole texts, are changes.
use Rattle.std.proofs.Common.{◌≡◌, ℕ, ◌+◌, List, ◌++◌, take, drop, length, refl, ap, sym, ◌∙◌, arith}
use Rattle.std.proofs.lemmas.List.{length-append, length-take-le, take-append-le, take-take, drop-drop, drop_all}
use Rattle.std.proofs.Math.Seq.{drop-append_seam}
use Rattle.mp_lex.specs.Relexing.{AreChanges}

-- behind a front of so many bytes
behind : (front new back : List ℕ) (start : ℕ) → length front ≡ start → drop (start + length new) (front ++ (new ++ back)) ≡ back
behind front new back start e =
    let sum : start + length new ≡ length front + length new = omega (arith, e) in
    ap (λ k. drop k (front ++ (new ++ back))) sum ∙ sym (drop-drop (length new) (length front) (front ++ (new ++ back)))
    ∙ ap (drop (length new)) (drop-append_seam front (new ++ back)) ∙ drop-append_seam new back

pub are_changes : (start removed : ℕ) (new before after : List ℕ) → AreChanges start removed new before after
are_changes start removed new before after = record {
  splice = λ within.
      let front : length (take start before) ≡ start = length-take-le start before (omega arith) in
      record {
        removed = within;
        added = omega (arith, front, length-append (take start before) (new ++ drop (start + removed) before), length-append new (drop (start + removed) before));
        front = take-append-le start (take start before) (new ++ drop (start + removed) before) (omega (arith, front)) ∙ take-take start start before (omega arith);
        back = behind (take start before) new (drop (start + removed) before) start front;
      };
  whole = record {
    removed = omega arith;
    added = omega arith;
    front = refl;
    back = drop_all (0 + length after) after (omega arith) ∙ sym (drop_all (0 + length before) before (omega arith));
  };
}
