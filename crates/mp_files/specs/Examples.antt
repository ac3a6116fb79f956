-- Worked cases of the definitions, found by computation: each call in each state of a file, each fault and limit, and of
-- two causes the first.
use Rattle.std.specs.Prelude.{◌≡◌, ℕ, true, false, List, [], ◌∷◌, ◌++◌, map, Some, None, ℤ, pos, negsuc, codes}
use Rattle.mp_base.specs.declared.limits.TheConstants.{OUTPUT_LIMIT}
use Rattle.mp_files.specs.declared.causes.FileEnd.TheVariants.{Fault, Limit}
use Rattle.mp_files.specs.declared.items.Item.{Item}
use Rattle.mp_files.specs.declared.items.Item.TheVariants.{Character, LineEnd}
use Rattle.mp_files.specs.Items.{characters, items_of}
use Rattle.mp_files.specs.TextFiles.{FileCall, Gives, Fails, TextFile, Reading, Writing, closed_file, eof, eoln, get, input_file, output_file, page_items, read_line, read_number, reset, rewrite, shown, write_items}
use Rattle.mp_files.specs.WrittenFields.{character_field, integer_field, truth_field, width_refusal}
use Rattle.mp_files.specs.RunFiles.{RunFiles, after_reset, after_rewrite, after_writing, starting, write_refusal}

-- a file in reading: what stands before its position and behind it
abbrev pub reading : List Item → List Item → TextFile
reading before behind = record { before = before; behind = behind; state = Reading }

-- a file in writing: what was written
abbrev pub writing : List Item → TextFile
writing items = record { before = items; behind = []; state = Writing }

-- text without line ends
abbrev pub text : List ℕ → List Item
text bytes = characters bytes

-- `eof` is true in writing and where nothing is left; `eoln` has fault 12 before fault 11
abbrev pub EndsAreTold : Type 0
EndsAreTold =
    (map eof (closed_file ∷ writing [] ∷ writing (text (codes "ab")) ∷ reading [] [] ∷ reading [] (LineEnd ∷ []) ∷ reading (text (codes "a")) (text (codes "b")) ∷ []) ≡
    Fails 12 ∷ Gives true (writing []) ∷ Gives true (writing (text (codes "ab"))) ∷ Gives true (reading [] []) ∷ Gives false (reading [] (LineEnd ∷ [])) ∷
    Gives false (reading (text (codes "a")) (text (codes "b"))) ∷ [])
    × (map eoln (closed_file ∷ writing [] ∷ reading (text (codes "a")) [] ∷ reading [] (LineEnd ∷ text (codes "a")) ∷ reading [] (text (codes "a")) ∷
    reading [] (Character 10 ∷ []) ∷ []) ≡
    Fails 12 ∷ Fails 12 ∷ Fails 11 ∷ Gives true (reading [] (LineEnd ∷ text (codes "a"))) ∷ Gives false (reading [] (text (codes "a"))) ∷
    Gives false (reading [] (Character 10 ∷ [])) ∷ [])
    × (map shown (closed_file ∷ writing (text (codes "a")) ∷ reading (text (codes "a")) [] ∷ reading [] (LineEnd ∷ []) ∷ reading [] (text (codes "ab")) ∷
    reading [] (Character 10 ∷ []) ∷ []) ≡
    None ∷ None ∷ None ∷ Some 32 ∷ Some 97 ∷ Some 10 ∷ [])

-- a reset ends an unfinished last line, also one whose last character is number 10, and no other
abbrev pub FilesAreBegun : Type 0
FilesAreBegun =
    (map reset (closed_file ∷ writing [] ∷ writing (text (codes "ab")) ∷ writing (Character 97 ∷ LineEnd ∷ []) ∷ writing (Character 10 ∷ []) ∷
    reading (text (codes "a")) (text (codes "b") ++ LineEnd ∷ []) ∷ []) ≡
    reading [] [] ∷ reading [] [] ∷ reading [] (text (codes "ab") ++ LineEnd ∷ []) ∷ reading [] (Character 97 ∷ LineEnd ∷ []) ∷ reading [] (Character 10 ∷
    LineEnd ∷ []) ∷ reading [] (text (codes "ab") ++ LineEnd ∷ []) ∷ [])
    × (map rewrite (closed_file ∷ writing (text (codes "ab")) ∷ reading [] (text (codes "ab")) ∷ []) ≡ writing [] ∷ writing [] ∷ writing [] ∷ [])

-- `get` and `readln`
abbrev pub PositionsAreMoved : Type 0
PositionsAreMoved =
    (map get (closed_file ∷ writing (text (codes "a")) ∷ reading (text (codes "a")) [] ∷ reading [] (text (codes "ab")) ∷ reading (text (codes "a")) (LineEnd ∷
    text (codes "b")) ∷ []) ≡
    Fails 12 ∷ Fails 12 ∷ Fails 11 ∷ Gives tt (reading (text (codes "a")) (text (codes "b"))) ∷ Gives tt (reading (Character 97 ∷ LineEnd ∷ []) (text (codes "b"))) ∷ [])
    × (map read_line (closed_file ∷ writing [] ∷ reading (text (codes "a")) [] ∷ reading [] (text (codes "ab") ++ LineEnd ∷ text (codes "c")) ∷
    reading [] (LineEnd ∷ LineEnd ∷ []) ∷ reading [] (text (codes "ab")) ∷ reading [] (Character 10 ∷ LineEnd ∷ []) ∷ []) ≡
    Fails 12 ∷ Fails 12 ∷ Fails 11 ∷ Gives tt (reading (text (codes "ab") ++ LineEnd ∷ []) (text (codes "c"))) ∷ Gives tt (reading (LineEnd ∷ []) (LineEnd ∷
    [])) ∷ Gives tt (reading (text (codes "ab")) []) ∷ Gives tt (reading (Character 10 ∷ LineEnd ∷ []) []) ∷ [])

-- a number that is read from these bytes, and what is left behind it
abbrev pub numbered : List ℕ → List ℕ → ℤ → FileCall ℤ
numbered bytes rest n = Gives n (reading (items_of bytes) (items_of rest))

abbrev pub read_from : List ℕ → FileCall ℤ
read_from bytes = read_number (input_file bytes)

-- Signs, spaces and line ends; up to the last digit; no digits are fault 13, also at the end behind a sign, and nothing but
-- spaces is fault 11; the greatest integer and one more. A tab and a character with the number 10 are no spaces.
abbrev pub NumbersAreRead : Type 0
NumbersAreRead =
    (map read_from (codes "7" ∷ codes "+42 x" ∷ codes "  -13;" ∷ codes " \n \n0129" ∷ codes "-0" ∷ codes "2147483647" ∷ codes "-2147483647" ∷ codes "5-3" ∷ []) ≡
    numbered (codes "7") [] (pos 7) ∷ numbered (codes "+42") (codes " x") (pos 42) ∷ numbered (codes "  -13") (codes ";") (negsuc 12) ∷
    numbered (codes " \n \n0129") [] (pos 129) ∷ numbered (codes "-0") [] (pos 0)
    ∷ numbered (codes "2147483647") [] (pos 2147483647) ∷ numbered (codes "-2147483647") [] (negsuc 2147483646) ∷ numbered (codes "5") (codes "-3") (pos 5) ∷ [])
    × (map read_from ([] ∷ codes "  \n " ∷ codes "x" ∷ codes " -" ∷ codes "- 3" ∷ codes "+-3" ∷ codes "-\n3" ∷ codes "\t3" ∷ codes "2147483648" ∷
    codes "-2147483648" ∷ codes "99999999999999999999999" ∷ []) ≡
    Fails 11 ∷ Fails 11 ∷ Fails 13 ∷ Fails 13 ∷ Fails 13 ∷ Fails 13 ∷ Fails 13 ∷ Fails 13 ∷ Fails 1 ∷ Fails 1 ∷ Fails 1 ∷ [])
    × (map read_number (closed_file ∷ writing (text (codes "7")) ∷ reading [] (Character 10 ∷ text (codes "7")) ∷ reading (text (codes "1")) (text (codes "2")) ∷ []) ≡
    Fails 12 ∷ Fails 12 ∷ Fails 13 ∷ Gives (pos 2) (reading (text (codes "12")) []) ∷ [])

-- what is written goes to the end; `page` ends an unfinished line
abbrev pub ItemsAreWritten : Type 0
ItemsAreWritten =
    (map (write_items (Character 98 ∷ LineEnd ∷ [])) (closed_file ∷ reading [] (text (codes "a")) ∷ writing (text (codes "a")) ∷ []) ≡
    Fails 12 ∷ Fails 12 ∷ Gives tt (writing (text (codes "ab") ++ LineEnd ∷ [])) ∷ [])
    × (map page_items (writing [] ∷ writing (Character 97 ∷ LineEnd ∷ []) ∷ writing (text (codes "a")) ∷ writing (Character 10 ∷ []) ∷ writing (Character 12 ∷ []) ∷ []) ≡
    (Character 12 ∷ []) ∷ (Character 12 ∷ []) ∷ (LineEnd ∷ Character 12 ∷ []) ∷ (LineEnd ∷ Character 12 ∷ []) ∷ (LineEnd ∷ Character 12 ∷ []) ∷ [])

-- `input`, `output` and a file in this state, so many bytes written
abbrev pub run_with : TextFile → ℕ → RunFiles
run_with f written = record { files = input_file (codes "x") ∷ output_file ∷ f ∷ []; written = written }

-- the state of a file comes before limit 4, which is kept at the last byte; reset and rewrite leave `input` and `output`
abbrev pub RunsKeepTheLimit : Type 0
RunsKeepTheLimit =
    (map (write_refusal 2 1) (run_with closed_file 0 ∷ run_with (reading [] []) OUTPUT_LIMIT ∷ run_with (writing []) 16777215 ∷ run_with (writing []) 16777216 ∷ []) ≡
    Some (Fault 12) ∷ Some (Fault 12) ∷ None ∷ Some (Limit 4) ∷ [])
    × (write_refusal 1 16777216 (starting []) ≡ None) × (write_refusal 1 16777217 (starting []) ≡
    Some (Limit 4)) × (write_refusal 2 0 (run_with (writing []) OUTPUT_LIMIT) ≡ None)
    × (after_writing 1 (text (codes "ab")) (run_with closed_file 5) ≡ record { files = input_file (codes "x") ∷ writing (text (codes "ab")) ∷ closed_file ∷ []; written = 7 })
    × (map (λ number. after_reset number (run_with (writing (text (codes "a"))) 1)) (0 ∷ 1 ∷ 2 ∷ []) ≡
    run_with (writing (text (codes "a"))) 1 ∷ run_with (writing (text (codes "a"))) 1 ∷ run_with (reading [] (Character 97 ∷ LineEnd ∷ [])) 1 ∷ [])
    × (map (λ number. after_rewrite number (run_with (reading [] (text (codes "a"))) 1)) (0 ∷ 1 ∷ 2 ∷ []) ≡
    run_with (reading [] (text (codes "a"))) 1 ∷ run_with (reading [] (text (codes "a"))) 1 ∷ run_with (writing []) 1 ∷ [])

-- fields: an integer is written whole, the others are cut; fault 14 below 1 and limit 3 above 4,096
abbrev pub FieldsAreWritten : Type 0
FieldsAreWritten =
    (integer_field 11 (pos 7) ≡ codes "          7") × (integer_field 1 (pos 123) ≡ codes "123") × (integer_field 5 (negsuc 11) ≡
    codes "  -12") × (integer_field 3 (negsuc 2147483646) ≡ codes "-2147483647")
    × (truth_field 5 true ≡ codes " True") × (truth_field 5 false ≡ codes "False") × (truth_field 2 true ≡ codes "Tr") × (truth_field 7 false ≡ codes "  False")
    × (character_field 1 (codes "a") ≡ codes "a") × (character_field 3 (codes "a") ≡ codes "  a") × (character_field 2 (codes "abc") ≡
    codes "ab") × (character_field 4 (codes "abc") ≡ codes " abc")
    × (map width_refusal (negsuc 0 ∷ pos 0 ∷ pos 1 ∷ pos 4096 ∷ pos 4097 ∷ []) ≡ Some (Fault 14) ∷ Some (Fault 14) ∷ None ∷ None ∷ Some (Limit 3) ∷ [])
