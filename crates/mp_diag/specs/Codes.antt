-- The codes that a listing may name, and their texts.
use Rattle.std.specs.Prelude.{ℕ, ◌==◌, List, [], ◌∷◌, Option, IsSome, codes}
use Rattle.std.specs.List.{find}
use Rattle.std.specs.Option.{option_map}

-- Each code with its text. The errors of tokens have 101 to 108, those of the grammar 201 to 205, and those of the
-- rules on names, types, expressions and statements 301 to 351.
unfoldable pub table : List (ℕ × List ℕ)
table =
    (101, codes "bad character") ∷
    (102, codes "comment not closed") ∷
    (103, codes "string not closed") ∷
    (104, codes "empty string") ∷
    (105, codes "letter touches number") ∷
    (106, codes "real number") ∷
    (107, codes "number too large") ∷
    (108, codes "real division") ∷
    (201, codes "syntax error") ∷
    (202, codes "text ends too early") ∷
    (203, codes "nested too deep") ∷
    (204, codes "too many blocks") ∷
    (205, codes "text after the program") ∷
    (301, codes "not declared") ∷
    (302, codes "used before its declaration") ∷
    (303, codes "needs type real") ∷
    (304, codes "declared twice") ∷
    (305, codes "wrong kind of name") ∷
    (306, codes "label not declared") ∷
    (307, codes "label declared twice") ∷
    (308, codes "label stands twice") ∷
    (309, codes "label stands nowhere") ∷
    (310, codes "goto may not lead there") ∷
    (311, codes "label past 9999") ∷
    (312, codes "forward without block") ∷
    (313, codes "heading repeated") ∷
    (314, codes "result type missing") ∷
    (315, codes "function never assigned") ∷
    (316, codes "bounds out of order") ∷
    (317, codes "bounds do not fit") ∷
    (318, codes "ordinal type needed") ∷
    (319, codes "set base outside 0..255") ∷
    (320, codes "file not allowed here") ∷
    (321, codes "only text files") ∷
    (322, codes "sign without integer") ∷
    (323, codes "result not simple or pointer") ∷
    (324, codes "constant does not fit") ∷
    (325, codes "constant repeated") ∷
    (326, codes "no text variable") ∷
    (330, codes "operands do not fit") ∷
    (331, codes "sign needs an integer") ∷
    (332, codes "Boolean needed") ∷
    (334, codes "types do not fit") ∷
    (335, codes "not an array") ∷
    (336, codes "not a record") ∷
    (337, codes "not a pointer or file") ∷
    (338, codes "no such field") ∷
    (339, codes "index does not fit") ∷
    (340, codes "wrong number of parameters") ∷
    (341, codes "variable needed") ∷
    (342, codes "same type needed") ∷
    (343, codes "packed component or tag") ∷
    (344, codes "parameter lists differ") ∷
    (345, codes "width not allowed") ∷
    (346, codes "no control variable") ∷
    (347, codes "control variable threatened") ∷
    (348, codes "cannot be assigned") ∷
    (349, codes "parameter does not fit") ∷
    (350, codes "input or output not named") ∷
    (351, codes "member types differ") ∷
    []

-- the text that these rows give to a code, where one of them has it
abbrev pub text_in : List (ℕ × List ℕ) → ℕ → Option (List ℕ)
text_in rows code = option_map (λ row. row.1) (find (λ row. row.0 == code) rows)

-- the text of a code
abbrev pub text_of : ℕ → Option (List ℕ)
text_of code = text_in table code

-- the code stands in the table
abbrev pub IsListed : ℕ → Type 0
IsListed code = IsSome (text_of code)
