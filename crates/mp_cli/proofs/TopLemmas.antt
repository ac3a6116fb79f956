-- What a call took, wrote and left, put together.
use Rattle.std.proofs.Common.{◌≡◌, ℕ, ◌+◌, ◌<◌, ◌≤◌, List, [], ◌∷◌, length, Option, None, refl, ap, sym, ◌∙◌, arith}
use Rattle.std.proofs.lemmas.List.{length-append}
use Rattle.mp_base.specs.declared.limits.TheConstants.{SCRIPT_LIMIT}
use Rattle.mp_base.specs.Text.{bytes_of, cut, lacking_end, lines_of}
use Rattle.mp_base.proofs.Cuts.{bytes_of-lines_of, lines_of-bytes_of, lines_of_are_lines}
use Rattle.mp_edge.specs.Told.{IsFront}
use Rattle.mp_edge.proofs.ToldLemmas.{grows_none, consumes_none}
use Rattle.mp_cli.specs.declared.status.Status.TheVariants as status
use Rattle.mp_cli.specs.Top.{Met}

-- the lines of bytes whose last line was ended
pub ended_lines : (taken text : List ℕ) → text ≡ bytes_of (lines_of taken) → lines_of text ≡ lines_of taken
ended_lines taken text e = ap lines_of e ∙ lines_of-bytes_of (lines_of taken) (lines_of_are_lines taken)

pub ended_stays : (taken text slice : List ℕ) → text ≡ bytes_of (lines_of taken) → slice ≡ text → slice ≡ bytes_of (lines_of slice)
ended_stays taken text slice e s = let same = s ∙ e in same ∙ ap bytes_of (sym (ended_lines taken slice same))

one_at_most : (rest : List ℕ) → length (lacking_end rest) ≤ 1
one_at_most [] = omega arith
one_at_most (b ∷ rest) = omega arith

-- an end that the last line lacks is one byte
pub ended_few : (taken slice : List ℕ) → slice ≡ bytes_of (lines_of taken) → length taken < SCRIPT_LIMIT → length slice ≤ SCRIPT_LIMIT
ended_few taken slice e h =
    let parts : length slice ≡ length taken + length (lacking_end (cut taken).rest) =
    ap length (e ∙ bytes_of-lines_of taken) ∙ length-append taken (lacking_end (cut taken).rest) in
    omega (arith, parts, one_at_most (cut taken).rest, h)

pub front_of : (front bytes whole : List ℕ) → bytes ≡ whole → IsFront front bytes → IsFront front whole
front_of front bytes whole e f = (f.0, sym e ∙ f.1)

-- words of no form
pub met_nothing : (taken left written : Option (List ℕ)) → Met None status.Words taken taken left left written written
met_nothing taken left written = record {
  taken = [];
  written = [];
  takes = grows_none taken;
  leaves = consumes_none left;
  writes = grows_none written;
  limit = omega arith;
  holds = (refl, refl, refl);
  last_read = tt;
}
