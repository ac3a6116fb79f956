-- Programs with errors of statements and of text files.
use Rattle.std.specs.Prelude.{true, false, [], ◌∷◌, Some, None, codes}
use Rattle.mp_ast.specs.declared.leaves.SignKind.TheVariants as sign
use Rattle.mp_ast.specs.declared.leaves.Constant.TheVariants as c
use Rattle.mp_ast.specs.declared.statements.Direction.TheVariants as direction
use Rattle.mp_ast.specs.declared.headings.HeadingKind.TheVariants as kind
use Rattle.mp_ast.specs.declared.blocks.DeclaredBody.TheVariants as body
use Rattle.mp_ast.specs.PlainExpressions as e
use Rattle.mp_ast.specs.PlainStatements as s
use Rattle.mp_ast.specs.PlainTypes as t
use Rattle.mp_ast.specs.PlainHeadings as h
use Rattle.mp_ast.specs.PlainTrees as tree
use Rattle.mp_ast.specs.PlainTrees.{PlainTree}
use Rattle.mp_tables.specs.ExampleTokens.{i, n}

--     program p;
--     var i, j: integer; c: char; b: boolean; r: record f: integer end; t: text;
--     procedure q(x: integer; var y: integer); var i: integer; begin j := 1; i := 2; for j := 1 to 2 do; y := 3; for y := 1 to 2 do; for x := 1 to 2 do end;
--     begin if i then; while c do; repeat until 1; case i of 1: ; 'a': ; 1, 2: ; -2: end; case r of 1: ; end; case c of 'a': ; 'b', 'a': end;
--      for j := 'a' to 2 do begin j := 1; q(1, j); q(j, i); for j := 1 to 2 do end; for r := 1 to 2 do; for q := 1 to 2 do; for t := 1 to 2 do; for undecl := 1 to 2 do;
--      with r do for f := 1 to 2 do; with i do; with r do f := c; q(1); q(1, 2, 3); q(c, i); q(i, c); q(1, 1); q(i:3, j); b(1); i;
--      for i := 1 to 2 do for i := 1 to 2 do; for b := false to true do; for c := 'a' to 1 do end.
abbrev pub statements : PlainTree
statements =
    (tree.TreeOf
    (record {
      program = (Some (record { name = (i 1 (codes "p")); parameters = [] }));
      labels = [];
      constants = [];
      types = [];
      variables =
          (t.Section
          ((i 4 (codes "i")) ∷ (i 6 (codes "j")) ∷ [])
          (t.Named (i 8 (codes "integer")))
          (t.Section
          ((i 10 (codes "c")) ∷ [])
          (t.Named (i 12 (codes "char")))
          (t.Section
          ((i 14 (codes "b")) ∷ [])
          (t.Named (i 16 (codes "boolean")))
          (t.Section
          ((i 18 (codes "r")) ∷ [])
          (t.Record 20 false (t.Fields (t.Section ((i 21 (codes "f")) ∷ []) (t.Named (i 23 (codes "integer"))) t.NoSections)))
          (t.Section ((i 26 (codes "t")) ∷ []) (t.Named (i 28 (codes "text"))) t.NoSections)))));
      declarations =
          (record {
            heading =
                record {
                  at = 30;
                  name = (i 31 (codes "q"));
                  formals =
                      (h.Formal
                      (h.Values ((i 33 (codes "x")) ∷ []) (i 35 (codes "integer")))
                      (h.Formal (h.Variables 37 ((i 38 (codes "y")) ∷ []) (i 40 (codes "integer"))) h.NoFormals));
                  kind = kind.Procedure;
                };
            semicolon = 42;
            body = body.Block;
          }
          ∷ []);
      statements =
          tree.Compound 44 (s.Sequence
          (s.If 45 (e.Access (i 46 (codes "i")) e.NoSelectors) (s.Empty 48))
          (s.Sequence
          (s.While 49 (e.Access (i 50 (codes "c")) e.NoSelectors) (s.Empty 52))
          (s.Sequence
          (s.Repeat 53 (s.Sequence (s.Empty 54) s.NoStatements) (e.Number (n 55 1)))
          (s.Sequence
          (s.Case 57
          (e.Access (i 58 (codes "i")) e.NoSelectors)
          (s.Arm
          ((c.Number None (n 60 1)) ∷ [])
          (s.Empty 62)
          (s.Arm
          ((c.Text (record { at = 63; characters = (97 ∷ []) })) ∷ [])
          (s.Empty 65)
          (s.Arm
          ((c.Number None (n 66 1)) ∷ (c.Number None (n 68 2)) ∷ [])
          (s.Empty 70)
          (s.Arm ((c.Number (Some (record { at = 71; kind = sign.Minus })) (n 72 2)) ∷ []) (s.Empty 74) s.NoArms)))))
          (s.Sequence
          (s.Case 76 (e.Access (i 77 (codes "r")) e.NoSelectors) (s.Arm ((c.Number None (n 79 1)) ∷ []) (s.Empty 81) s.NoArms))
          (s.Sequence
          (s.Case 84
          (e.Access (i 85 (codes "c")) e.NoSelectors)
          (s.Arm
          ((c.Text (record { at = 87; characters = (97 ∷ []) })) ∷ [])
          (s.Empty 89)
          (s.Arm
          ((c.Text (record { at = 90; characters = (98 ∷ []) })) ∷ (c.Text (record { at = 92; characters = (97 ∷ []) })) ∷ [])
          (s.Empty 94)
          s.NoArms)))
          (s.Sequence
          (s.For 96
          (record {
            variable = (i 97 (codes "j"));
            assign = 98;
            first = (e.Text (record { at = 99; characters = (97 ∷ []) }));
            direction = direction.To;
            last = (e.Number (n 101 2));
          })
          (s.Compound 103
          (s.Sequence
          (s.Assign (record { name = (i 104 (codes "j")); selectors = e.NoSelectors }) 105 (e.Number (n 106 1)))
          (s.Sequence
          (s.Call
          (i 108 (codes "q"))
          (e.Actual (e.Number (n 110 1)) (e.Actual (e.Access (i 112 (codes "j")) e.NoSelectors) e.NoActuals)))
          (s.Sequence
          (s.Call
          (i 115 (codes "q"))
          (e.Actual
          (e.Access (i 117 (codes "j")) e.NoSelectors)
          (e.Actual (e.Access (i 119 (codes "i")) e.NoSelectors) e.NoActuals)))
          (s.Sequence
          (s.For 122
          (record {
            variable = (i 123 (codes "j"));
            assign = 124;
            first = (e.Number (n 125 1));
            direction = direction.To;
            last = (e.Number (n 127 2));
          })
          (s.Empty 129))
          s.NoStatements))))))
          (s.Sequence
          (s.For 131
          (record {
            variable = (i 132 (codes "r"));
            assign = 133;
            first = (e.Number (n 134 1));
            direction = direction.To;
            last = (e.Number (n 136 2));
          })
          (s.Empty 138))
          (s.Sequence
          (s.For 139
          (record {
            variable = (i 140 (codes "q"));
            assign = 141;
            first = (e.Number (n 142 1));
            direction = direction.To;
            last = (e.Number (n 144 2));
          })
          (s.Empty 146))
          (s.Sequence
          (s.For 147
          (record {
            variable = (i 148 (codes "t"));
            assign = 149;
            first = (e.Number (n 150 1));
            direction = direction.To;
            last = (e.Number (n 152 2));
          })
          (s.Empty 154))
          (s.Sequence
          (s.For 155
          (record {
            variable = (i 156 (codes "undecl"));
            assign = 157;
            first = (e.Number (n 158 1));
            direction = direction.To;
            last = (e.Number (n 160 2));
          })
          (s.Empty 162))
          (s.Sequence
          (s.With 163
          ((record { name = (i 164 (codes "r")); selectors = e.NoSelectors }) ∷ [])
          (s.For 166
          (record {
            variable = (i 167 (codes "f"));
            assign = 168;
            first = (e.Number (n 169 1));
            direction = direction.To;
            last = (e.Number (n 171 2));
          })
          (s.Empty 173)))
          (s.Sequence
          (s.With 174 ((record { name = (i 175 (codes "i")); selectors = e.NoSelectors }) ∷ []) (s.Empty 177))
          (s.Sequence
          (s.With 178
          ((record { name = (i 179 (codes "r")); selectors = e.NoSelectors }) ∷ [])
          (s.Assign
          (record { name = (i 181 (codes "f")); selectors = e.NoSelectors })
          182
          (e.Access (i 183 (codes "c")) e.NoSelectors)))
          (s.Sequence
          (s.Call (i 185 (codes "q")) (e.Actual (e.Number (n 187 1)) e.NoActuals))
          (s.Sequence
          (s.Call
          (i 190 (codes "q"))
          (e.Actual
          (e.Number (n 192 1))
          (e.Actual (e.Number (n 194 2)) (e.Actual (e.Number (n 196 3)) e.NoActuals))))
          (s.Sequence
          (s.Call
          (i 199 (codes "q"))
          (e.Actual
          (e.Access (i 201 (codes "c")) e.NoSelectors)
          (e.Actual (e.Access (i 203 (codes "i")) e.NoSelectors) e.NoActuals)))
          (s.Sequence
          (s.Call
          (i 206 (codes "q"))
          (e.Actual
          (e.Access (i 208 (codes "i")) e.NoSelectors)
          (e.Actual (e.Access (i 210 (codes "c")) e.NoSelectors) e.NoActuals)))
          (s.Sequence
          (s.Call
          (i 213 (codes "q"))
          (e.Actual (e.Number (n 215 1)) (e.Actual (e.Number (n 217 1)) e.NoActuals)))
          (s.Sequence
          (s.Call
          (i 220 (codes "q"))
          (e.ActualWithWidth
          (e.Access (i 222 (codes "i")) e.NoSelectors)
          223
          (e.Number (n 224 3))
          (e.Actual (e.Access (i 226 (codes "j")) e.NoSelectors) e.NoActuals)))
          (s.Sequence
          (s.Call (i 229 (codes "b")) (e.Actual (e.Number (n 231 1)) e.NoActuals))
          (s.Sequence
          (s.Call (i 234 (codes "i")) e.NoActuals)
          (s.Sequence
          (s.For 236
          (record {
            variable = (i 237 (codes "i"));
            assign = 238;
            first = (e.Number (n 239 1));
            direction = direction.To;
            last = (e.Number (n 241 2));
          })
          (s.For 243
          (record {
            variable = (i 244 (codes "i"));
            assign = 245;
            first = (e.Number (n 246 1));
            direction = direction.To;
            last = (e.Number (n 248 2));
          })
          (s.Empty 250)))
          (s.Sequence
          (s.For 251
          (record {
            variable = (i 252 (codes "b"));
            assign = 253;
            first = (e.Access (i 254 (codes "false")) e.NoSelectors);
            direction = direction.To;
            last = (e.Access (i 256 (codes "true")) e.NoSelectors);
          })
          (s.Empty 258))
          (s.Sequence
          (s.For 259
          (record {
            variable = (i 260 (codes "c"));
            assign = 261;
            first = (e.Text (record { at = 262; characters = (97 ∷ []) }));
            direction = direction.To;
            last = (e.Number (n 264 1));
          })
          (s.Empty 266))
          s.NoStatements))))))))))))))))))))))))) 266;
      tokens = 268;
    })
    (tree.Beside
    (tree.TreeOf
    (record {
      program = None;
      labels = [];
      constants = [];
      types = [];
      variables = (t.Section ((i 1 (codes "i")) ∷ []) (t.Named (i 3 (codes "integer"))) t.NoSections);
      declarations = [];
      statements =
          tree.Compound 5 (s.Sequence
          (s.Assign (record { name = (i 6 (codes "j")); selectors = e.NoSelectors }) 7 (e.Number (n 8 1)))
          (s.Sequence
          (s.Assign (record { name = (i 10 (codes "i")); selectors = e.NoSelectors }) 11 (e.Number (n 12 2)))
          (s.Sequence
          (s.For 14
          (record {
            variable = (i 15 (codes "j"));
            assign = 16;
            first = (e.Number (n 17 1));
            direction = direction.To;
            last = (e.Number (n 19 2));
          })
          (s.Empty 21))
          (s.Sequence
          (s.Assign (record { name = (i 22 (codes "y")); selectors = e.NoSelectors }) 23 (e.Number (n 24 3)))
          (s.Sequence
          (s.For 26
          (record {
            variable = (i 27 (codes "y"));
            assign = 28;
            first = (e.Number (n 29 1));
            direction = direction.To;
            last = (e.Number (n 31 2));
          })
          (s.Empty 33))
          (s.Sequence
          (s.For 34
          (record {
            variable = (i 35 (codes "x"));
            assign = 36;
            first = (e.Number (n 37 1));
            direction = direction.To;
            last = (e.Number (n 39 2));
          })
          (s.Empty 41))
          s.NoStatements)))))) 41;
      tokens = 42;
    })
    tree.NoTrees)
    tree.NoTrees))

--     program p(output, f);
--     var f: text; i: integer; b: boolean; s: packed array [1..4] of char; a: array [1..3] of char;
--     begin read(i); read(f, i); read(f); readln(f); readln; read(f, b); read(f, 1); write(f); writeln(f); write; writeln; write(i, b, s, 'x', 'xyz'); write(a); write(f, i:3);
--      write(i:b); reset(f); reset; reset(i); rewrite(f, f); get(f:2); put(f); page; page(f); page(f, f); b := eof; b := eof(f); b := eoln(i); b := eof(f, f); i := f^; f^ := 'a';
--      write(undecl); read(undecl); write(f:3); read(f, f); output^ := 'a'; write(output, 1) end.
abbrev pub text_files : PlainTree
text_files =
    (tree.TreeOf
    (record {
      program = (Some (record { name = (i 1 (codes "p")); parameters = ((i 3 (codes "output")) ∷ (i 5 (codes "f")) ∷ []) }));
      labels = [];
      constants = [];
      types = [];
      variables =
          (t.Section
          ((i 9 (codes "f")) ∷ [])
          (t.Named (i 11 (codes "text")))
          (t.Section
          ((i 13 (codes "i")) ∷ [])
          (t.Named (i 15 (codes "integer")))
          (t.Section
          ((i 17 (codes "b")) ∷ [])
          (t.Named (i 19 (codes "boolean")))
          (t.Section
          ((i 21 (codes "s")) ∷ [])
          (t.Array 23 true
          (t.Index 23 (t.Subrange (c.Number None (n 26 1)) (c.Number None (n 28 4))) t.NoIndices)
          (t.Named (i 31 (codes "char"))))
          (t.Section
          ((i 33 (codes "a")) ∷ [])
          (t.Array 35 false
          (t.Index 35 (t.Subrange (c.Number None (n 37 1)) (c.Number None (n 39 3))) t.NoIndices)
          (t.Named (i 42 (codes "char"))))
          t.NoSections)))));
      declarations = [];
      statements =
          tree.Compound 44 (s.Sequence
          (s.Call (i 45 (codes "read")) (e.Actual (e.Access (i 47 (codes "i")) e.NoSelectors) e.NoActuals))
          (s.Sequence
          (s.Call
          (i 50 (codes "read"))
          (e.Actual (e.Access (i 52 (codes "f")) e.NoSelectors) (e.Actual (e.Access (i 54 (codes "i")) e.NoSelectors) e.NoActuals)))
          (s.Sequence
          (s.Call (i 57 (codes "read")) (e.Actual (e.Access (i 59 (codes "f")) e.NoSelectors) e.NoActuals))
          (s.Sequence
          (s.Call (i 62 (codes "readln")) (e.Actual (e.Access (i 64 (codes "f")) e.NoSelectors) e.NoActuals))
          (s.Sequence
          (s.Call (i 67 (codes "readln")) e.NoActuals)
          (s.Sequence
          (s.Call
          (i 69 (codes "read"))
          (e.Actual (e.Access (i 71 (codes "f")) e.NoSelectors) (e.Actual (e.Access (i 73 (codes "b")) e.NoSelectors) e.NoActuals)))
          (s.Sequence
          (s.Call
          (i 76 (codes "read"))
          (e.Actual (e.Access (i 78 (codes "f")) e.NoSelectors) (e.Actual (e.Number (n 80 1)) e.NoActuals)))
          (s.Sequence
          (s.Call (i 83 (codes "write")) (e.Actual (e.Access (i 85 (codes "f")) e.NoSelectors) e.NoActuals))
          (s.Sequence
          (s.Call (i 88 (codes "writeln")) (e.Actual (e.Access (i 90 (codes "f")) e.NoSelectors) e.NoActuals))
          (s.Sequence
          (s.Call (i 93 (codes "write")) e.NoActuals)
          (s.Sequence
          (s.Call (i 95 (codes "writeln")) e.NoActuals)
          (s.Sequence
          (s.Call
          (i 97 (codes "write"))
          (e.Actual
          (e.Access (i 99 (codes "i")) e.NoSelectors)
          (e.Actual
          (e.Access (i 101 (codes "b")) e.NoSelectors)
          (e.Actual
          (e.Access (i 103 (codes "s")) e.NoSelectors)
          (e.Actual
          (e.Text (record { at = 105; characters = (120 ∷ []) }))
          (e.Actual (e.Text (record { at = 107; characters = (120 ∷ 121 ∷ 122 ∷ []) })) e.NoActuals))))))
          (s.Sequence
          (s.Call (i 110 (codes "write")) (e.Actual (e.Access (i 112 (codes "a")) e.NoSelectors) e.NoActuals))
          (s.Sequence
          (s.Call
          (i 115 (codes "write"))
          (e.Actual
          (e.Access (i 117 (codes "f")) e.NoSelectors)
          (e.ActualWithWidth (e.Access (i 119 (codes "i")) e.NoSelectors) 120 (e.Number (n 121 3)) e.NoActuals)))
          (s.Sequence
          (s.Call
          (i 124 (codes "write"))
          (e.ActualWithWidth
          (e.Access (i 126 (codes "i")) e.NoSelectors)
          127
          (e.Access (i 128 (codes "b")) e.NoSelectors)
          e.NoActuals))
          (s.Sequence
          (s.Call (i 131 (codes "reset")) (e.Actual (e.Access (i 133 (codes "f")) e.NoSelectors) e.NoActuals))
          (s.Sequence
          (s.Call (i 136 (codes "reset")) e.NoActuals)
          (s.Sequence
          (s.Call
          (i 138 (codes "reset"))
          (e.Actual (e.Access (i 140 (codes "i")) e.NoSelectors) e.NoActuals))
          (s.Sequence
          (s.Call
          (i 143 (codes "rewrite"))
          (e.Actual
          (e.Access (i 145 (codes "f")) e.NoSelectors)
          (e.Actual (e.Access (i 147 (codes "f")) e.NoSelectors) e.NoActuals)))
          (s.Sequence
          (s.Call
          (i 150 (codes "get"))
          (e.ActualWithWidth
          (e.Access (i 152 (codes "f")) e.NoSelectors)
          153
          (e.Number (n 154 2))
          e.NoActuals))
          (s.Sequence
          (s.Call
          (i 157 (codes "put"))
          (e.Actual (e.Access (i 159 (codes "f")) e.NoSelectors) e.NoActuals))
          (s.Sequence
          (s.Call (i 162 (codes "page")) e.NoActuals)
          (s.Sequence
          (s.Call
          (i 164 (codes "page"))
          (e.Actual (e.Access (i 166 (codes "f")) e.NoSelectors) e.NoActuals))
          (s.Sequence
          (s.Call
          (i 169 (codes "page"))
          (e.Actual
          (e.Access (i 171 (codes "f")) e.NoSelectors)
          (e.Actual (e.Access (i 173 (codes "f")) e.NoSelectors) e.NoActuals)))
          (s.Sequence
          (s.Assign
          (record { name = (i 176 (codes "b")); selectors = e.NoSelectors })
          177
          (e.Access (i 178 (codes "eof")) e.NoSelectors))
          (s.Sequence
          (s.Assign
          (record { name = (i 180 (codes "b")); selectors = e.NoSelectors })
          181
          (e.Call
          (i 182 (codes "eof"))
          (e.Actual (e.Access (i 184 (codes "f")) e.NoSelectors) e.NoActuals)))
          (s.Sequence
          (s.Assign
          (record { name = (i 187 (codes "b")); selectors = e.NoSelectors })
          188
          (e.Call
          (i 189 (codes "eoln"))
          (e.Actual (e.Access (i 191 (codes "i")) e.NoSelectors) e.NoActuals)))
          (s.Sequence
          (s.Assign
          (record { name = (i 194 (codes "b")); selectors = e.NoSelectors })
          195
          (e.Call
          (i 196 (codes "eof"))
          (e.Actual
          (e.Access (i 198 (codes "f")) e.NoSelectors)
          (e.Actual (e.Access (i 200 (codes "f")) e.NoSelectors) e.NoActuals))))
          (s.Sequence
          (s.Assign
          (record { name = (i 203 (codes "i")); selectors = e.NoSelectors })
          204
          (e.Access (i 205 (codes "f")) (e.Follow 206 e.NoSelectors)))
          (s.Sequence
          (s.Assign
          (record {
            name = (i 208 (codes "f"));
            selectors = (e.Follow 209 e.NoSelectors);
          })
          210
          (e.Text (record { at = 211; characters = (97 ∷ []) })))
          (s.Sequence
          (s.Call
          (i 213 (codes "write"))
          (e.Actual
          (e.Access (i 215 (codes "undecl")) e.NoSelectors)
          e.NoActuals))
          (s.Sequence
          (s.Call
          (i 218 (codes "read"))
          (e.Actual
          (e.Access (i 220 (codes "undecl")) e.NoSelectors)
          e.NoActuals))
          (s.Sequence
          (s.Call
          (i 223 (codes "write"))
          (e.ActualWithWidth
          (e.Access (i 225 (codes "f")) e.NoSelectors)
          226
          (e.Number (n 227 3))
          e.NoActuals))
          (s.Sequence
          (s.Call
          (i 230 (codes "read"))
          (e.Actual
          (e.Access (i 232 (codes "f")) e.NoSelectors)
          (e.Actual
          (e.Access (i 234 (codes "f")) e.NoSelectors)
          e.NoActuals)))
          (s.Sequence
          (s.Assign
          (record {
            name = (i 237 (codes "output"));
            selectors = (e.Follow 238 e.NoSelectors);
          })
          239
          (e.Text (record { at = 240; characters = (97 ∷ []) })))
          (s.Sequence
          (s.Call
          (i 242 (codes "write"))
          (e.Actual
          (e.Access (i 244 (codes "output")) e.NoSelectors)
          (e.Actual (e.Number (n 246 1)) e.NoActuals)))
          s.NoStatements)))))))))))))))))))))))))))))))))))) 248;
      tokens = 250;
    })
    tree.NoTrees)

--     program p;
--     var r: record f: ^integer; g: integer end;
--     begin with r do for f := 1 to 2 do; with r do for g := 1 to 2 do end.
abbrev pub fields_as_control_variables : PlainTree
fields_as_control_variables =
    (tree.TreeOf
    (record {
      program = (Some (record { name = (i 1 (codes "p")); parameters = [] }));
      labels = [];
      constants = [];
      types = [];
      variables =
          (t.Section
          ((i 4 (codes "r")) ∷ [])
          (t.Record 6 false
          (t.Fields
          (t.Section ((i 7 (codes "f")) ∷ []) (t.Pointer 9 (i 10 (codes "integer")))
          (t.Section ((i 12 (codes "g")) ∷ []) (t.Named (i 14 (codes "integer"))) t.NoSections))))
          t.NoSections);
      declarations = [];
      statements =
          tree.Compound 17 (s.Sequence
          (s.With 18
          (record { name = (i 19 (codes "r")); selectors = e.NoSelectors } ∷ [])
          (s.For 21
          (record {
            variable = (i 22 (codes "f"));
            assign = 23;
            first = (e.Number (n 24 1));
            direction = direction.To;
            last = (e.Number (n 26 2));
          })
          (s.Empty 28)))
          (s.Sequence
          (s.With 29
          (record { name = (i 30 (codes "r")); selectors = e.NoSelectors } ∷ [])
          (s.For 32
          (record {
            variable = (i 33 (codes "g"));
            assign = 34;
            first = (e.Number (n 35 1));
            direction = direction.To;
            last = (e.Number (n 37 2));
          })
          (s.Empty 39)))
          s.NoStatements)) 39;
      tokens = 41;
    })
    tree.NoTrees)
