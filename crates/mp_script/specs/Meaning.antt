-- Which command a line is.
use Rattle.std.specs.Prelude.{ℕ, ◌-◌, ◌==◌, List, [], ◌∷◌, nat_le, length, take, map, if◌then◌else◌, Option, Some, None, slice_index}
use Rattle.std.specs.Option.{option_map}
use Rattle.mp_base.specs.declared.limits.TheConstants.{COMMAND_LIMIT}
use Rattle.mp_script.specs.declared.commands.Verb.{Verb}
use Rattle.mp_script.specs.declared.commands.Verb.TheVariants as verb
use Rattle.mp_script.specs.declared.keywords.Keyword.{Keyword}
use Rattle.mp_script.specs.declared.keywords.Keyword.TheVariants as keyword
use Rattle.mp_script.specs.Keywords.{keyword_of}
use Rattle.mp_script.specs.Words.{words_of, behind_word}
use Rattle.mp_script.specs.Numbers.{number_of, one, two, three, perhaps}
use Rattle.mp_script.specs.Access.{is_access}

-- a line without a byte 13 at its end
unfoldable pub chomped : List ℕ → List ℕ
chomped line = if slice_index line (length line - 1) == 13 then take (length line - 1) line else line

-- the verb of a keyword that nothing follows
abbrev pub alone : Verb → List (Option ℕ) → Option Verb
alone v [] = Some v
alone v (n ∷ numbers) = None

-- the verb of a keyword that an access follows
abbrev pub show_verb : List ℕ → Option Verb
show_verb access = if is_access access then Some (verb.Show access) else None

-- the verb of a keyword by the numbers that the words behind it are, or by the access that stands behind it
abbrev pub verb_of : Keyword → List (Option ℕ) → List ℕ → Option Verb
verb_of keyword.Insert numbers access = option_map (λ n. verb.Insert n.0 n.1) (two numbers)
verb_of keyword.Delete numbers access = option_map (λ n. verb.Delete n.0 n.1) (two numbers)
verb_of keyword.Replace numbers access = option_map (λ n. verb.Replace n.0 n.1 n.2) (three numbers)
verb_of keyword.Sub numbers access = option_map (λ n. verb.Sub n.0 n.1 n.2) (three numbers)
verb_of keyword.Back numbers access = option_map (λ n. verb.Back n) (one numbers)
verb_of keyword.Text numbers access = option_map (λ n. verb.Text n) (perhaps numbers)
verb_of keyword.Listing numbers access = option_map (λ n. verb.List n) (perhaps numbers)
verb_of keyword.Ready numbers access = alone verb.Ready numbers
verb_of keyword.Input numbers access = option_map (λ n. verb.Input n) (one numbers)
verb_of keyword.Break numbers access = option_map (λ n. verb.Break n) (one numbers)
verb_of keyword.Clear numbers access = option_map (λ n. verb.Clear n) (one numbers)
verb_of keyword.Run numbers access = option_map (λ n. verb.Run n) (perhaps numbers)
verb_of keyword.Go numbers access = option_map (λ n. verb.Go n) (perhaps numbers)
verb_of keyword.Step numbers access = option_map (λ n. verb.Step n) (perhaps numbers)
verb_of keyword.Show numbers access = show_verb access
verb_of keyword.Where numbers access = alone verb.Chain numbers
verb_of keyword.Kill numbers access = alone verb.Kill numbers
verb_of keyword.Quit numbers access = alone verb.Quit numbers

abbrev pub by_keyword : Option Keyword → List (Option ℕ) → List ℕ → Option Verb
by_keyword None numbers access = None
by_keyword (Some k) numbers access = verb_of k numbers access

-- the verb of a line with these words
abbrev pub by_words : List (List ℕ) → List ℕ → Option Verb
by_words [] line = Some verb.Nothing
by_words (word ∷ words) line = by_keyword (keyword_of word) (map number_of words) (behind_word line)

-- the verb of a line of a script, if it has a command's form: a byte 13 at its end does not count
unfoldable pub meant : List ℕ → Option Verb
meant line = if nat_le (length (chomped line)) COMMAND_LIMIT then by_words (words_of (chomped line)) (chomped line) else None

-- how many of the lines that follow it a command takes
unfoldable pub wants_of : Verb → ℕ
wants_of verb.Nothing = 0
wants_of (verb.Insert after count) = count
wants_of (verb.Delete first last) = 0
wants_of (verb.Replace first last count) = count
wants_of (verb.Sub line column count) = 1
wants_of (verb.Back version) = 0
wants_of (verb.Text version) = 0
wants_of (verb.List version) = 0
wants_of verb.Ready = 0
wants_of (verb.Input count) = count
wants_of (verb.Break line) = 0
wants_of (verb.Clear line) = 0
wants_of (verb.Run steps) = 0
wants_of (verb.Go steps) = 0
wants_of (verb.Step steps) = 0
wants_of (verb.Show access) = 0
wants_of verb.Chain = 0
wants_of verb.Kill = 0
wants_of verb.Quit = 0
