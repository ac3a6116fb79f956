-- A file that is asked whether it is in writing, and one that is made, in terms of the files of a run.
use Rattle.std.proofs.Common.{◌≡◌, ℕ, ◌+◌, Bool, true, false, Option, None, Some, List, [], ◌∷◌, ◌++◌, length, refl, sym, ◌∙◌, ap, append-nil}
use Rattle.std.specs.Prelude.{if◌then◌else◌, nat_lt, not, slice_index_or, slice_set}
use Rattle.std.proofs.Common.{arith}
use Rattle.std.proofs.lemmas.Bool.{ltb-true}
use Rattle.std.proofs.lemmas.List.{set-get_or}
use Rattle.std.proofs.lemmas.Option.{slice_get-get_or}
use Rattle.mp_files.specs.declared.causes.FileEnd.{FileEnd}
use Rattle.mp_files.specs.declared.causes.FileEnd.TheVariants as end
use Rattle.mp_files.specs.declared.items.Item.{Item}
use Rattle.mp_files.specs.RunFiles.{RunFiles, after_writing, begun, is_required, with_new_file, write_refusal}
use Rattle.mp_files.specs.TextFiles.{TextFile, closed_file, is_writing}
use Rattle.mp_machine.specs.FileRows.{must_write_on}
use Rattle.mp_machine.specs.Outcomes.{Done, Fault}
use Rattle.mp_machine.specs.States.{State}

abbrev files_in : State → RunFiles
files_in s = record { files = s.files; written = s.written }

-- ---- what a test of the state and one of the limit refuse

abbrev refusal_of : (writing past : Bool) → Option FileEnd
refusal_of writing past = if not writing then Some (end.Fault 12) else if past then Some (end.Limit 4) else None

allowed : (b past : Bool) → refusal_of b past ≡ None → b ≡ true
allowed true past e = refl
allowed false past e = absurd (let v : ⊥ = cc in v)

limited : (b past : Bool) (m : ℕ) → refusal_of b past ≡ Some (end.Limit m) → b ≡ true
limited true past m e = refl
limited false past m e = absurd (let v : ⊥ = cc in v)

refused : (b past : Bool) (m : ℕ) → refusal_of b past ≡ Some (end.Fault m) → b ≡ false
refused false past m e = refl
refused true true m e = absurd (let v : ⊥ = cc in v)
refused true false m e = absurd (let v : ⊥ = cc in v)

fault_is : (b past : Bool) (m : ℕ) → refusal_of b past ≡ Some (end.Fault m) → 12 ≡ m
fault_is false past m e = let v : 12 ≡ m = cc in v
fault_is true true m e = absurd (let v : ⊥ = cc in v)
fault_is true false m e = absurd (let v : ⊥ = cc in v)

-- ---- whether a file is in writing

module _ (k : ℕ) (s : State) where
  file_there : TextFile
  file_there = slice_index_or s.files k closed_file

  writing_done : nat_lt k (length s.files) ≡ true → is_writing file_there.state ≡ true → must_write_on (Some k) s ≡ Done tt s
  unfolding file_there
  writing_done there e = rw (slice_get-get_or s.files k closed_file (ltb-true k (length s.files) there), e) refl

  writing_fault : nat_lt k (length s.files) ≡ true → is_writing file_there.state ≡ false → must_write_on (Some k) s ≡ Fault 12 s
  unfolding file_there
  writing_fault there e = rw (slice_get-get_or s.files k closed_file (ltb-true k (length s.files) there), e) refl

  pub may_write : (n : ℕ) → nat_lt k (length s.files) ≡ true → write_refusal k n (files_in s) ≡ None → must_write_on (Some k) s ≡ Done tt s
  unfolding file_there
  may_write n there e = writing_done there (allowed _ _ e)

  pub may_write_less : (n m : ℕ) → nat_lt k (length s.files) ≡ true → write_refusal k n (files_in s) ≡ Some (end.Limit m) →
      must_write_on (Some k) s ≡ Done tt s
  unfolding file_there
  may_write_less n m there e = writing_done there (limited _ _ m e)

  pub may_not_write : (n m : ℕ) → nat_lt k (length s.files) ≡ true → write_refusal k n (files_in s) ≡ Some (end.Fault m) →
      must_write_on (Some k) s ≡ Fault m s
  unfolding file_there
  may_not_write n m there e = writing_fault there (refused _ _ m e) ∙ ap (λ m. Fault m s) (fault_is _ _ m e)

-- ---- nothing is written

none_more : (n : ℕ) → n + 0 ≡ n
none_more n = omega arith

-- as the file is written anew with these items before its position
abbrev rewritten : ℕ → RunFiles → TextFile → List Item → (written : ℕ) → RunFiles
rewritten k run f items n = record { files = slice_set run.files k (record f { before = items }); written = n }

pub nothing_written : (k : ℕ) (run : RunFiles) → after_writing k [] run ≡ run
nothing_written k run =
    let f : TextFile = slice_index_or run.files k closed_file in
    ap (λ items. rewritten k run f items (run.written + 0)) (append-nil f.before)
    ∙ ap (λ n. rewritten k run f f.before n) (none_more run.written)
    ∙ ap (λ files. record { files = files; written = run.written }) (set-get_or run.files k closed_file)

-- ---- a file is made

index_push : (xs : List TextFile) (c d : TextFile) → slice_index_or (xs ++ c ∷ []) (length xs) d ≡ c
index_push [] c d = refl
index_push (x ∷ xs) c d = index_push xs c d

set_push : (xs : List TextFile) (c d : TextFile) → slice_set (xs ++ c ∷ []) (length xs) d ≡ xs ++ d ∷ []
set_push [] c d = refl
set_push (x ∷ xs) c d = ap (λ l. x ∷ l) (set_push xs c d)

pub made_anew : (new : TextFile → TextFile) (k : ℕ) (run : RunFiles) → k ≡ length run.files → is_required k ≡ false →
    begun new k (with_new_file run) ≡ record { files = run.files ++ new closed_file ∷ []; written = run.written }
made_anew new k run e own =
    rw own (ap (λ j. record { files = slice_set (run.files ++ closed_file ∷ []) j (new (slice_index_or (run.files ++ closed_file ∷ []) j closed_file)); written = run.written }) e
    ∙ ap (λ f. record { files = slice_set (run.files ++ closed_file ∷ []) (length run.files) (new f); written = run.written }) (index_push run.files closed_file closed_file)
    ∙ ap (λ l. record { files = l; written = run.written }) (set_push run.files closed_file (new closed_file)))
