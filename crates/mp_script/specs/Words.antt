-- The words of a command line, and what stands behind the first.
use Rattle.std.specs.Prelude.{◌≡◌, ℕ, ◌+◌, ◌-◌, ◌<◌, Bool, true, false, not, ◌==◌, ◌||◌, ◌&&◌, List, [], ◌∷◌, ◌++◌, IsTrue, length, take, drop, slice_index, if◌then◌else◌}
use Rattle.std.specs.List.{list_all, prefix_len}

-- a space or a tab
abbrev pub is_separator : ℕ → Bool
is_separator b = b == 32 || b == 9

abbrev pub is_word_byte : ℕ → Bool
is_word_byte b = not (is_separator b)

abbrev pub AreSeparators : List ℕ → Type 0
AreSeparators bytes = IsTrue (list_all is_separator bytes)

-- bytes without a separator, at least one
abbrev pub IsCommandWord : List ℕ → Type 0
IsCommandWord bytes = (0 < length bytes) × IsTrue (list_all is_word_byte bytes)

-- no word goes on in these bytes
abbrev pub ends_word : List ℕ → Bool
ends_word [] = true
ends_word (b ∷ rest) = is_separator b

-- a line whose first word is this one, and whose bytes behind it meet a condition
pub record BeginsWith (first line : List ℕ) (Rest : List ℕ → Type 0) : Type 0 where
  pub gap : List ℕ
  pub rest : List ℕ
  pub all : line ≡ gap ++ (first ++ rest)
  pub separators : AreSeparators gap
  pub word : IsCommandWord first
  pub ends : IsTrue (ends_word rest)
  pub more : Rest rest

-- What the words of a line are: the line is words with separators before, between and behind them.
unfoldable pub AreWords : List ℕ → List (List ℕ) → Type 0
AreWords line [] = AreSeparators line
AreWords line (word ∷ words) = BeginsWith word line (λ rest. AreWords rest words)

-- a word, where there is a byte
abbrev pub word_of : List ℕ → List (List ℕ)
word_of [] = []
word_of (b ∷ word) = (b ∷ word) ∷ []

-- the words of a word's first bytes and the bytes that follow them
unfoldable pub words_from : List ℕ → List ℕ → List (List ℕ)
words_from word [] = word_of word
words_from word (b ∷ bytes) = if is_separator b then word_of word ++ words_from [] bytes else words_from (word ++ b ∷ []) bytes

abbrev pub words_of : List ℕ → List (List ℕ)
words_of line = words_from [] line

-- each line has its words, and no others
abbrev pub HasItsWords : List ℕ → Type 0
HasItsWords line = AreWords line (words_of line) × ((words : List (List ℕ)) → AreWords line words → words ≡ words_of line)

-- what stands behind the bytes at the front that pass
abbrev pub behind : (ℕ → Bool) → List ℕ → List ℕ
behind test bytes = drop (prefix_len test bytes) bytes

-- how many bytes there are up to the last that is no separator
unfoldable pub content_len : List ℕ → ℕ
content_len [] = 0
content_len (b ∷ bytes) = if is_separator b && content_len bytes == 0 then 0 else 1 + content_len bytes

-- without the separators at the end
abbrev pub without_end : List ℕ → List ℕ
without_end bytes = take (content_len bytes) bytes

-- what stands behind the first word, without the separators at its ends
unfoldable pub behind_word : List ℕ → List ℕ
behind_word line = without_end (behind is_separator (behind is_word_byte (behind is_separator line)))

-- neither the first byte nor the last is a separator
abbrev pub IsTrimmed : List ℕ → Type 0
IsTrimmed bytes = 0 < length bytes → (is_separator (slice_index bytes 0) ≡ false) × (is_separator (slice_index bytes (length bytes - 1)) ≡ false)

-- What `behind_word` means: the line is its first word and these bytes, with separators before, between and behind
-- them. Where there is no word there are no such bytes, so the word is the line's first where the line has one.
pub record IsBehindWord (line found : List ℕ) : Type 0 where
  pub before : List ℕ
  pub word : List ℕ
  pub between : List ℕ
  pub after : List ℕ
  pub all : line ≡ before ++ (word ++ (between ++ (found ++ after)))
  pub separators : AreSeparators before × AreSeparators between × AreSeparators after
  pub letters : IsTrue (list_all is_word_byte word)
  pub ends : IsTrue (ends_word (between ++ (found ++ after)))
  pub trimmed : IsTrimmed found
  pub first : word ≡ [] → found ≡ []

-- bytes stand behind a line's first word, and no others do
abbrev pub HasOneBehindWord : List ℕ → Type 0
HasOneBehindWord line = IsBehindWord line (behind_word line) × ((found : List ℕ) → IsBehindWord line found → found ≡ behind_word line)
