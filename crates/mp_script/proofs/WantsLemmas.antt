-- A command wants fewer lines than a number of ten digits.
use Rattle.std.proofs.Common.{◌≡◌, ◌<◌, ℕ, List, [], ◌∷◌, map, length, nat_le, Option, None, Some, Bool, true, false, cond, sym, subst, arith}
use Rattle.std.specs.Option.{IfSome, option_map}
use Rattle.mp_base.specs.declared.limits.TheConstants.{COMMAND_LIMIT}
use Rattle.mp_script.specs.declared.commands.Verb.{Verb}
use Rattle.mp_script.specs.declared.commands.Verb.TheVariants as verb
use Rattle.mp_script.specs.declared.keywords.Keyword.{Keyword}
use Rattle.mp_script.specs.declared.keywords.Keyword.TheVariants as keyword
use Rattle.mp_script.specs.Access.{is_access}
use Rattle.mp_script.specs.Keywords.{keyword_of}
use Rattle.mp_script.specs.Meaning.{alone, by_keyword, by_words, chomped, meant, show_verb, verb_of, wants_of}
use Rattle.mp_script.specs.Numbers.{number_of, one, two, three, perhaps, AreSmall}
use Rattle.mp_script.specs.Words.{words_of, behind_word}
use Rattle.mp_script.proofs.NumberLemmas.{numbers_small}

abbrev pub WantsFew : Option Verb → Type 0
WantsFew v = IfSome v (λ w. wants_of w < 1000000000)

one_few : (f : ℕ → Verb) → ((n : ℕ) → n < 1000000000 → wants_of (f n) < 1000000000) → (ns : List (Option ℕ)) → AreSmall ns → WantsFew (option_map f (one ns))
one_few f h [] s = tt
one_few f h (None ∷ []) s = tt
one_few f h (Some a ∷ []) s = h a s.0
one_few f h (a ∷ b ∷ ns) s = tt

two_few : (f : ℕ × ℕ → Verb) → ((p : ℕ × ℕ) → p.1 < 1000000000 → wants_of (f p) < 1000000000) → (ns : List (Option ℕ)) → AreSmall ns → WantsFew (option_map f (two ns))
two_few f h [] s = tt
two_few f h (a ∷ []) s = tt
two_few f h (None ∷ b ∷ []) s = tt
two_few f h (Some a ∷ None ∷ []) s = tt
two_few f h (Some a ∷ Some b ∷ []) s = h (a, b) s.1.0
two_few f h (a ∷ b ∷ c ∷ ns) s = tt

three_few : (f : ℕ × ℕ × ℕ → Verb) → ((p : ℕ × ℕ × ℕ) → p.2 < 1000000000 → wants_of (f p) < 1000000000) → (ns : List (Option ℕ)) → AreSmall ns → WantsFew (option_map f (three ns))
three_few f h [] s = tt
three_few f h (a ∷ []) s = tt
three_few f h (a ∷ b ∷ []) s = tt
three_few f h (None ∷ b ∷ c ∷ []) s = tt
three_few f h (Some a ∷ None ∷ c ∷ []) s = tt
three_few f h (Some a ∷ Some b ∷ None ∷ []) s = tt
three_few f h (Some a ∷ Some b ∷ Some c ∷ []) s = h (a, b, c) s.1.1.0
three_few f h (a ∷ b ∷ c ∷ d ∷ ns) s = tt

perhaps_few : (f : Option ℕ → Verb) → ((n : Option ℕ) → wants_of (f n) < 1000000000) → (ns : List (Option ℕ)) → WantsFew (option_map f (perhaps ns))
perhaps_few f h [] = h None
perhaps_few f h (None ∷ []) = tt
perhaps_few f h (Some a ∷ []) = h (Some a)
perhaps_few f h (a ∷ b ∷ ns) = tt

alone_few : (v : Verb) → wants_of v < 1000000000 → (ns : List (Option ℕ)) → WantsFew (alone v ns)
alone_few v h [] = h
alone_few v h (n ∷ ns) = tt

show_verb_few : (access : List ℕ) → WantsFew (show_verb access)
unfolding wants_of
show_verb_few access = at (is_access access)
  where
    at : (v : Bool) → WantsFew (cond v (Some (verb.Show access)) None)
    at true = omega arith
    at false = tt

verb_few : (k : Keyword) (ns : List (Option ℕ)) (access : List ℕ) → AreSmall ns → WantsFew (verb_of k ns access)
unfolding wants_of
verb_few keyword.Insert ns access s = two_few (λ n. verb.Insert n.0 n.1) (λ p h. h) ns s
verb_few keyword.Delete ns access s = two_few (λ n. verb.Delete n.0 n.1) (λ p h. omega arith) ns s
verb_few keyword.Replace ns access s = three_few (λ n. verb.Replace n.0 n.1 n.2) (λ p h. h) ns s
verb_few keyword.Sub ns access s = three_few (λ n. verb.Sub n.0 n.1 n.2) (λ p h. omega arith) ns s
verb_few keyword.Back ns access s = one_few (λ n. verb.Back n) (λ n h. omega arith) ns s
verb_few keyword.Text ns access s = perhaps_few (λ n. verb.Text n) (λ n. omega arith) ns
verb_few keyword.Listing ns access s = perhaps_few (λ n. verb.List n) (λ n. omega arith) ns
verb_few keyword.Ready ns access s = alone_few verb.Ready (omega arith) ns
verb_few keyword.Input ns access s = one_few (λ n. verb.Input n) (λ n h. h) ns s
verb_few keyword.Break ns access s = one_few (λ n. verb.Break n) (λ n h. omega arith) ns s
verb_few keyword.Clear ns access s = one_few (λ n. verb.Clear n) (λ n h. omega arith) ns s
verb_few keyword.Run ns access s = perhaps_few (λ n. verb.Run n) (λ n. omega arith) ns
verb_few keyword.Go ns access s = perhaps_few (λ n. verb.Go n) (λ n. omega arith) ns
verb_few keyword.Step ns access s = perhaps_few (λ n. verb.Step n) (λ n. omega arith) ns
verb_few keyword.Show ns access s = show_verb_few access
verb_few keyword.Where ns access s = alone_few verb.Chain (omega arith) ns
verb_few keyword.Kill ns access s = alone_few verb.Kill (omega arith) ns
verb_few keyword.Quit ns access s = alone_few verb.Quit (omega arith) ns

keyword_few : (k : Option Keyword) (ns : List (Option ℕ)) (access : List ℕ) → AreSmall ns → WantsFew (by_keyword k ns access)
keyword_few None ns access s = tt
keyword_few (Some k) ns access s = verb_few k ns access s

words_few : (words : List (List ℕ)) (line : List ℕ) → WantsFew (by_words words line)
unfolding wants_of
words_few [] line = omega arith
words_few (word ∷ words) line = keyword_few (keyword_of word) (map number_of words) (behind_word line) (numbers_small words)

pub wants_few : (line : List ℕ) → WantsFew (meant line)
unfolding meant
wants_few line = at (nat_le (length (chomped line)) COMMAND_LIMIT)
  where
    at : (v : Bool) → WantsFew (cond v (by_words (words_of (chomped line)) (chomped line)) None)
    at true = words_few (words_of (chomped line)) (chomped line)
    at false = tt

pub few_of : (line : List ℕ) (v : Verb) (n : ℕ) → Some v ≡ meant line → n ≡ wants_of v → n < 1000000000
few_of line v n e w =
    let few : wants_of v < 1000000000 = subst WantsFew (sym e) (wants_few line) in
    omega (arith, w, few)
