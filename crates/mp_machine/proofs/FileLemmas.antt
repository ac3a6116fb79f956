-- A call on a text file leaves what stands before the position: reading moves past items, and writing adds some.
use Rattle.std.proofs.Common.{ℕ, List, ◌++◌, Bool, true, false, refl, append_assoc}
use Rattle.std.specs.Prelude.{◌+◌, if◌then◌else◌, length, nat_lt, take}
use Rattle.std.specs.List.{prefix_len}
use Rattle.mp_base.specs.declared.limits.TheConstants.{MAXINT}
use Rattle.mp_files.specs.declared.causes.TheConstants.{END_OF_FILE, INTEGER_OVERFLOW, NO_NUMBER, WRONG_STATE}
use Rattle.mp_files.specs.declared.items.Item.{Item}
use Rattle.mp_files.specs.Items.{is_character, is_space}
use Rattle.mp_files.specs.TextFiles.{TextFile, FileCall, Gives, Fails, at_item, in_reading, in_writing, is_nothing, is_reading}
use Rattle.mp_files.specs.TextFiles.{is_writing}
use Rattle.mp_files.specs.TextFiles.{write_items, digits_of, is_negative, moved, number_at, past_spaces, sign_len, signed}
use Rattle.mp_files.specs.TextFiles.{value_of, with_written}
use Rattle.mp_files.specs.TextFiles as text
use Rattle.mp_machine.specs.Laws.{IsLonger}

abbrev pub AfterCall : {A : Type 0} → TextFile → FileCall A → Type 0
AfterCall f (Gives x g) = IsLonger f.before g.before
AfterCall f (Fails n) = Unit {0}

pub record Appends {A : Type 0} (operation : TextFile → FileCall A) : Type 0 where
  pub by : (f : TextFile) → AfterCall f (operation f)

longer : (xs more : List Item) → IsLonger xs (xs ++ more)
longer xs more = (more, refl)

-- what a call gives only where a test holds
when_appends : {A : Type 0} (f : TextFile) (b : Bool) (c : FileCall A) (n : ℕ) → AfterCall f c →
    AfterCall f (if b then c else Fails n)
when_appends f true c n g = g
when_appends f false c n g = tt

unless_appends : {A : Type 0} (f : TextFile) (b : Bool) (c : FileCall A) (n : ℕ) → AfterCall f c →
    AfterCall f (if b then Fails n else c)
unless_appends f true c n g = tt
unless_appends f false c n g = g

item_appends : {A : Type 0} (f g : TextFile) (c : FileCall A) → AfterCall f c → AfterCall f (at_item g c)
item_appends f g c k =
    when_appends f (is_reading g.state) _ WRONG_STATE (unless_appends f (is_nothing g.behind) c END_OF_FILE k)

pub writes_append : (items : List Item) → Appends (write_items items)
writes_append items = record {
  by = λ f. when_appends f (is_writing f.state) (Gives tt (with_written items f)) WRONG_STATE (longer f.before items);
}

pub get_appends : Appends text.get
get_appends = record { by = λ f. item_appends f f (Gives tt (moved 1 f)) (longer f.before (take 1 f.behind)) }

pub line_appends : Appends text.read_line
line_appends = record { by = λ f. item_appends f f (Gives tt (past_line f)) (longer f.before (take (line_len f) f.behind)) }
  where
    line_len : TextFile → ℕ
    line_len f = prefix_len is_character f.behind + 1

    past_line : TextFile → TextFile
    past_line f = moved (line_len f) f

pub number_appends : Appends text.read_number
number_appends = record {
  by = λ f. item_appends f (past_spaces f) (number_at (past_spaces f) (past_spaces f).behind)
      (number f (past_spaces f).behind);
}
  where
    spaces : TextFile → List Item
    spaces f = take (prefix_len is_space f.behind) f.behind

    digits : TextFile → List Item → List Item
    digits f items = take (sign_len items + length (digits_of items)) (past_spaces f).behind

    number : (f : TextFile) (items : List Item) → AfterCall f (number_at (past_spaces f) items)
    number f items = unless_appends f (is_nothing (digits_of items)) _ NO_NUMBER
        (unless_appends f (nat_lt MAXINT (value_of (digits_of items))) _ INTEGER_OVERFLOW
        (spaces f ++ digits f items, append_assoc f.before (spaces f) (digits f items)))
