-- Programs with errors of expressions and of procedural parameters.
use Rattle.std.specs.Prelude.{true, false, [], ◌∷◌, Some, None, codes}
use Rattle.mp_ast.specs.declared.leaves.SignKind.TheVariants as sign
use Rattle.mp_ast.specs.declared.leaves.Constant.TheVariants as c
use Rattle.mp_ast.specs.declared.expressions.Operator.TheVariants as op
use Rattle.mp_ast.specs.declared.headings.HeadingKind.TheVariants as kind
use Rattle.mp_ast.specs.declared.blocks.DeclaredBody.TheVariants as body
use Rattle.mp_ast.specs.PlainExpressions as e
use Rattle.mp_ast.specs.PlainStatements as s
use Rattle.mp_ast.specs.PlainTypes as t
use Rattle.mp_ast.specs.PlainHeadings as h
use Rattle.mp_ast.specs.PlainTrees as tree
use Rattle.mp_ast.specs.PlainTrees.{PlainTree}
use Rattle.mp_tables.specs.ExampleTokens.{i, n}

--     program p(output);
--     type e = (r, g, b); s = packed array [1..3] of char; st = set of 0..9; pt = ^integer; ar = array [1..5] of integer;
--     var i: integer; bo: boolean; c: char; en: e; str: s; se: st; pn: pt; arr: ar; t: text;
--     begin i := 1 + true; i := -c; i := not i; bo := i = c; bo := str = 'abc'; bo := str < 'abcd'; bo := pn = nil; bo := pn < nil;
--      bo := i in se; bo := c in se; bo := se <= [1, 2]; bo := se < [1]; se := [1, 'a', 2..3, true]; se := [str]; se := se + [i]; se := se * [en];
--      i := arr[c] + arr[i] + arr[undecl]; i := undecl + true; bo := (undecl = 1) = 2; i := i div 2 mod true; bo := bo and i or bo; c := str[1];
--      str := 'abc'; str := 'ab'; arr := arr; t := t; pn := nil; en := r; en := i; i := ord(en) + abs(c) + sqr(1, 2) + succ(i); c := chr(i); bo := odd(i); en := pred(en, en); i := -i + 3 end.
abbrev pub expressions : PlainTree
expressions =
    (tree.TreeOf
    (record {
      program = (Some (record { name = (i 1 (codes "p")); parameters = ((i 3 (codes "output")) ∷ []) }));
      labels = [];
      constants = [];
      types =
          (record {
            name = (i 7 (codes "e"));
            of = (t.Enumeration 9 ((i 10 (codes "r")) ∷ (i 12 (codes "g")) ∷ (i 14 (codes "b")) ∷ []));
            semicolon = 16;
          }
          ∷ record {
            name = (i 17 (codes "s"));
            of =
                (t.Array 19 true
                (t.Index 19 (t.Subrange (c.Number None (n 22 1)) (c.Number None (n 24 3))) t.NoIndices)
                (t.Named (i 27 (codes "char"))));
            semicolon = 28;
          }
          ∷ record {
            name = (i 29 (codes "st"));
            of = (t.Set 31 false (t.Subrange (c.Number None (n 33 0)) (c.Number None (n 35 9))));
            semicolon = 36;
          }
          ∷ record { name = (i 37 (codes "pt")); of = (t.Pointer 39 (i 40 (codes "integer"))); semicolon = 41 }
          ∷ record {
            name = (i 42 (codes "ar"));
            of =
                (t.Array 44 false
                (t.Index 44 (t.Subrange (c.Number None (n 46 1)) (c.Number None (n 48 5))) t.NoIndices)
                (t.Named (i 51 (codes "integer"))));
            semicolon = 52;
          }
          ∷ []);
      variables =
          (t.Section
          ((i 54 (codes "i")) ∷ [])
          (t.Named (i 56 (codes "integer")))
          (t.Section
          ((i 58 (codes "bo")) ∷ [])
          (t.Named (i 60 (codes "boolean")))
          (t.Section
          ((i 62 (codes "c")) ∷ [])
          (t.Named (i 64 (codes "char")))
          (t.Section
          ((i 66 (codes "en")) ∷ [])
          (t.Named (i 68 (codes "e")))
          (t.Section
          ((i 70 (codes "str")) ∷ [])
          (t.Named (i 72 (codes "s")))
          (t.Section
          ((i 74 (codes "se")) ∷ [])
          (t.Named (i 76 (codes "st")))
          (t.Section
          ((i 78 (codes "pn")) ∷ [])
          (t.Named (i 80 (codes "pt")))
          (t.Section
          ((i 82 (codes "arr")) ∷ [])
          (t.Named (i 84 (codes "ar")))
          (t.Section ((i 86 (codes "t")) ∷ []) (t.Named (i 88 (codes "text"))) t.NoSections)))))))));
      declarations = [];
      statements =
          tree.Compound 90 (s.Sequence
          (s.Assign
          (record { name = (i 91 (codes "i")); selectors = e.NoSelectors })
          92
          (e.Sum None (e.Number (n 93 1)) (e.Operation 94 op.Add (e.Access (i 95 (codes "true")) e.NoSelectors) e.NoOperations)))
          (s.Sequence
          (s.Assign
          (record { name = (i 97 (codes "i")); selectors = e.NoSelectors })
          98
          (e.Sum (Some (record { at = 99; kind = sign.Minus })) (e.Access (i 100 (codes "c")) e.NoSelectors) e.NoOperations))
          (s.Sequence
          (s.Assign
          (record { name = (i 102 (codes "i")); selectors = e.NoSelectors })
          103
          (e.Not 104 (e.Access (i 105 (codes "i")) e.NoSelectors)))
          (s.Sequence
          (s.Assign
          (record { name = (i 107 (codes "bo")); selectors = e.NoSelectors })
          108
          (e.Relation (e.Access (i 109 (codes "i")) e.NoSelectors) 110 op.Equal (e.Access (i 111 (codes "c")) e.NoSelectors)))
          (s.Sequence
          (s.Assign
          (record { name = (i 113 (codes "bo")); selectors = e.NoSelectors })
          114
          (e.Relation
          (e.Access (i 115 (codes "str")) e.NoSelectors)
          116
          op.Equal
          (e.Text (record { at = 117; characters = (97 ∷ 98 ∷ 99 ∷ []) }))))
          (s.Sequence
          (s.Assign
          (record { name = (i 119 (codes "bo")); selectors = e.NoSelectors })
          120
          (e.Relation
          (e.Access (i 121 (codes "str")) e.NoSelectors)
          122
          op.Less
          (e.Text (record { at = 123; characters = (97 ∷ 98 ∷ 99 ∷ 100 ∷ []) }))))
          (s.Sequence
          (s.Assign
          (record { name = (i 125 (codes "bo")); selectors = e.NoSelectors })
          126
          (e.Relation (e.Access (i 127 (codes "pn")) e.NoSelectors) 128 op.Equal (e.Nil 129)))
          (s.Sequence
          (s.Assign
          (record { name = (i 131 (codes "bo")); selectors = e.NoSelectors })
          132
          (e.Relation (e.Access (i 133 (codes "pn")) e.NoSelectors) 134 op.Less (e.Nil 135)))
          (s.Sequence
          (s.Assign
          (record { name = (i 137 (codes "bo")); selectors = e.NoSelectors })
          138
          (e.Relation (e.Access (i 139 (codes "i")) e.NoSelectors) 140 op.In (e.Access (i 141 (codes "se")) e.NoSelectors)))
          (s.Sequence
          (s.Assign
          (record { name = (i 143 (codes "bo")); selectors = e.NoSelectors })
          144
          (e.Relation (e.Access (i 145 (codes "c")) e.NoSelectors) 146 op.In (e.Access (i 147 (codes "se")) e.NoSelectors)))
          (s.Sequence
          (s.Assign
          (record { name = (i 149 (codes "bo")); selectors = e.NoSelectors })
          150
          (e.Relation
          (e.Access (i 151 (codes "se")) e.NoSelectors)
          152
          op.LessOrEqual
          (e.Set 153 (e.Member (e.Number (n 154 1)) (e.Member (e.Number (n 156 2)) e.NoMembers)))))
          (s.Sequence
          (s.Assign
          (record { name = (i 159 (codes "bo")); selectors = e.NoSelectors })
          160
          (e.Relation
          (e.Access (i 161 (codes "se")) e.NoSelectors)
          162
          op.Less
          (e.Set 163 (e.Member (e.Number (n 164 1)) e.NoMembers))))
          (s.Sequence
          (s.Assign
          (record { name = (i 167 (codes "se")); selectors = e.NoSelectors })
          168
          (e.Set 169
          (e.Member
          (e.Number (n 170 1))
          (e.Member
          (e.Text (record { at = 172; characters = (97 ∷ []) }))
          (e.MemberRange
          (e.Number (n 174 2))
          (e.Number (n 176 3))
          (e.Member (e.Access (i 178 (codes "true")) e.NoSelectors) e.NoMembers))))))
          (s.Sequence
          (s.Assign
          (record { name = (i 181 (codes "se")); selectors = e.NoSelectors })
          182
          (e.Set 183 (e.Member (e.Access (i 184 (codes "str")) e.NoSelectors) e.NoMembers)))
          (s.Sequence
          (s.Assign
          (record { name = (i 187 (codes "se")); selectors = e.NoSelectors })
          188
          (e.Sum None
          (e.Access (i 189 (codes "se")) e.NoSelectors)
          (e.Operation 190 op.Add
          (e.Set 191 (e.Member (e.Access (i 192 (codes "i")) e.NoSelectors) e.NoMembers))
          e.NoOperations)))
          (s.Sequence
          (s.Assign
          (record { name = (i 195 (codes "se")); selectors = e.NoSelectors })
          196
          (e.Product
          (e.Access (i 197 (codes "se")) e.NoSelectors)
          (e.Operation 198 op.Multiply
          (e.Set 199 (e.Member (e.Access (i 200 (codes "en")) e.NoSelectors) e.NoMembers))
          e.NoOperations)))
          (s.Sequence
          (s.Assign
          (record { name = (i 203 (codes "i")); selectors = e.NoSelectors })
          204
          (e.Sum None
          (e.Access
          (i 205 (codes "arr"))
          (e.Index 206 (e.Access (i 207 (codes "c")) e.NoSelectors) e.NoSelectors))
          (e.Operation 209 op.Add
          (e.Access
          (i 210 (codes "arr"))
          (e.Index 211 (e.Access (i 212 (codes "i")) e.NoSelectors) e.NoSelectors))
          (e.Operation 214 op.Add
          (e.Access
          (i 215 (codes "arr"))
          (e.Index 216 (e.Access (i 217 (codes "undecl")) e.NoSelectors) e.NoSelectors))
          e.NoOperations))))
          (s.Sequence
          (s.Assign
          (record { name = (i 220 (codes "i")); selectors = e.NoSelectors })
          221
          (e.Sum None
          (e.Access (i 222 (codes "undecl")) e.NoSelectors)
          (e.Operation 223 op.Add (e.Access (i 224 (codes "true")) e.NoSelectors) e.NoOperations)))
          (s.Sequence
          (s.Assign
          (record { name = (i 226 (codes "bo")); selectors = e.NoSelectors })
          227
          (e.Relation
          (e.Inside 228
          (e.Relation
          (e.Access (i 229 (codes "undecl")) e.NoSelectors)
          230
          op.Equal
          (e.Number (n 231 1))))
          233
          op.Equal
          (e.Number (n 234 2))))
          (s.Sequence
          (s.Assign
          (record { name = (i 236 (codes "i")); selectors = e.NoSelectors })
          237
          (e.Product
          (e.Access (i 238 (codes "i")) e.NoSelectors)
          (e.Operation 239 op.Div
          (e.Number (n 240 2))
          (e.Operation 241 op.Mod (e.Access (i 242 (codes "true")) e.NoSelectors) e.NoOperations))))
          (s.Sequence
          (s.Assign
          (record { name = (i 244 (codes "bo")); selectors = e.NoSelectors })
          245
          (e.Sum None
          (e.Product
          (e.Access (i 246 (codes "bo")) e.NoSelectors)
          (e.Operation 247 op.And (e.Access (i 248 (codes "i")) e.NoSelectors) e.NoOperations))
          (e.Operation 249 op.Or (e.Access (i 250 (codes "bo")) e.NoSelectors) e.NoOperations)))
          (s.Sequence
          (s.Assign
          (record { name = (i 252 (codes "c")); selectors = e.NoSelectors })
          253
          (e.Access (i 254 (codes "str")) (e.Index 255 (e.Number (n 256 1)) e.NoSelectors)))
          (s.Sequence
          (s.Assign
          (record { name = (i 259 (codes "str")); selectors = e.NoSelectors })
          260
          (e.Text (record { at = 261; characters = (97 ∷ 98 ∷ 99 ∷ []) })))
          (s.Sequence
          (s.Assign
          (record { name = (i 263 (codes "str")); selectors = e.NoSelectors })
          264
          (e.Text (record { at = 265; characters = (97 ∷ 98 ∷ []) })))
          (s.Sequence
          (s.Assign
          (record { name = (i 267 (codes "arr")); selectors = e.NoSelectors })
          268
          (e.Access (i 269 (codes "arr")) e.NoSelectors))
          (s.Sequence
          (s.Assign
          (record { name = (i 271 (codes "t")); selectors = e.NoSelectors })
          272
          (e.Access (i 273 (codes "t")) e.NoSelectors))
          (s.Sequence
          (s.Assign
          (record { name = (i 275 (codes "pn")); selectors = e.NoSelectors })
          276
          (e.Nil 277))
          (s.Sequence
          (s.Assign
          (record { name = (i 279 (codes "en")); selectors = e.NoSelectors })
          280
          (e.Access (i 281 (codes "r")) e.NoSelectors))
          (s.Sequence
          (s.Assign
          (record { name = (i 283 (codes "en")); selectors = e.NoSelectors })
          284
          (e.Access (i 285 (codes "i")) e.NoSelectors))
          (s.Sequence
          (s.Assign
          (record { name = (i 287 (codes "i")); selectors = e.NoSelectors })
          288
          (e.Sum None
          (e.Call
          (i 289 (codes "ord"))
          (e.Actual (e.Access (i 291 (codes "en")) e.NoSelectors) e.NoActuals))
          (e.Operation 293
          op.Add
          (e.Call
          (i 294 (codes "abs"))
          (e.Actual (e.Access (i 296 (codes "c")) e.NoSelectors) e.NoActuals))
          (e.Operation 298
          op.Add
          (e.Call
          (i 299 (codes "sqr"))
          (e.Actual
          (e.Number (n 301 1))
          (e.Actual (e.Number (n 303 2)) e.NoActuals)))
          (e.Operation 305
          op.Add
          (e.Call
          (i 306 (codes "succ"))
          (e.Actual
          (e.Access (i 308 (codes "i")) e.NoSelectors)
          e.NoActuals))
          e.NoOperations)))))
          (s.Sequence
          (s.Assign
          (record { name = (i 311 (codes "c")); selectors = e.NoSelectors })
          312
          (e.Call
          (i 313 (codes "chr"))
          (e.Actual (e.Access (i 315 (codes "i")) e.NoSelectors) e.NoActuals)))
          (s.Sequence
          (s.Assign
          (record { name = (i 318 (codes "bo")); selectors = e.NoSelectors })
          319
          (e.Call
          (i 320 (codes "odd"))
          (e.Actual (e.Access (i 322 (codes "i")) e.NoSelectors) e.NoActuals)))
          (s.Sequence
          (s.Assign
          (record { name = (i 325 (codes "en")); selectors = e.NoSelectors })
          326
          (e.Call
          (i 327 (codes "pred"))
          (e.Actual
          (e.Access (i 329 (codes "en")) e.NoSelectors)
          (e.Actual
          (e.Access (i 331 (codes "en")) e.NoSelectors)
          e.NoActuals))))
          (s.Sequence
          (s.Assign
          (record { name = (i 334 (codes "i")); selectors = e.NoSelectors })
          335
          (e.Sum
          (Some (record { at = 336; kind = sign.Minus }))
          (e.Access (i 337 (codes "i")) e.NoSelectors)
          (e.Operation 338 op.Add (e.Number (n 339 3)) e.NoOperations)))
          s.NoStatements)))))))))))))))))))))))))))))))))) 340;
      tokens = 342;
    })
    tree.NoTrees)

--     program p;
--     type t = integer;
--     procedure a(x: integer; procedure pr(y: integer; var z: char)); begin pr(1, x); pr(1); pr end;
--     procedure b(y: integer; var z: char); begin end;
--     procedure c(y, z: integer); begin end;
--     function f(y: integer; var z: char): integer; begin f := 1; f := f(1, z) end;
--     function g(function h: integer): integer; begin g := h; h := 1; g := h + g(h) end;
--     function h1: integer; begin h1 := 1 end;
--     function h2: char; begin h2 := 'a' end;
--     begin a(1, b); a(1, c); a(1, f); a(1, 1); a(1, t); a(1, write); a(1, undecl); a(1, b(1)); if g(h1) = g(h2) then; f(1, 2); g end.
abbrev pub procedural_parameters : PlainTree
procedural_parameters =
    (tree.TreeOf
    (record {
      program = (Some (record { name = (i 1 (codes "p")); parameters = [] }));
      labels = [];
      constants = [];
      types = (record { name = (i 4 (codes "t")); of = (t.Named (i 6 (codes "integer"))); semicolon = 7 } ∷ []);
      variables = t.NoSections;
      declarations =
          (record {
            heading =
                record {
                  at = 8;
                  name = (i 9 (codes "a"));
                  formals =
                      (h.Formal
                      (h.Values ((i 11 (codes "x")) ∷ []) (i 13 (codes "integer")))
                      (h.Formal
                      (h.Procedure 15
                      (i 16 (codes "pr"))
                      (h.Formal
                      (h.Values ((i 18 (codes "y")) ∷ []) (i 20 (codes "integer")))
                      (h.Formal (h.Variables 22 ((i 23 (codes "z")) ∷ []) (i 25 (codes "char"))) h.NoFormals)))
                      h.NoFormals));
                  kind = kind.Procedure;
                };
            semicolon = 28;
            body = body.Block;
          }
          ∷ record {
            heading =
                record {
                  at = 30;
                  name = (i 31 (codes "b"));
                  formals =
                      (h.Formal
                      (h.Values ((i 33 (codes "y")) ∷ []) (i 35 (codes "integer")))
                      (h.Formal (h.Variables 37 ((i 38 (codes "z")) ∷ []) (i 40 (codes "char"))) h.NoFormals));
                  kind = kind.Procedure;
                };
            semicolon = 42;
            body = body.Block;
          }
          ∷ record {
            heading =
                record {
                  at = 44;
                  name = (i 45 (codes "c"));
                  formals = (h.Formal (h.Values ((i 47 (codes "y")) ∷ (i 49 (codes "z")) ∷ []) (i 51 (codes "integer"))) h.NoFormals);
                  kind = kind.Procedure;
                };
            semicolon = 53;
            body = body.Block;
          }
          ∷ record {
            heading =
                record {
                  at = 55;
                  name = (i 56 (codes "f"));
                  formals =
                      (h.Formal
                      (h.Values ((i 58 (codes "y")) ∷ []) (i 60 (codes "integer")))
                      (h.Formal (h.Variables 62 ((i 63 (codes "z")) ∷ []) (i 65 (codes "char"))) h.NoFormals));
                  kind = (kind.Function (Some (i 68 (codes "integer"))));
                };
            semicolon = 69;
            body = body.Block;
          }
          ∷ record {
            heading =
                record {
                  at = 71;
                  name = (i 72 (codes "g"));
                  formals = (h.Formal (h.Function 74 (i 75 (codes "h")) h.NoFormals (i 77 (codes "integer"))) h.NoFormals);
                  kind = (kind.Function (Some (i 80 (codes "integer"))));
                };
            semicolon = 81;
            body = body.Block;
          }
          ∷ record {
            heading = record { at = 83; name = (i 84 (codes "h1")); formals = h.NoFormals; kind = (kind.Function (Some (i 86 (codes "integer")))) };
            semicolon = 87;
            body = body.Block;
          }
          ∷ record {
            heading = record { at = 89; name = (i 90 (codes "h2")); formals = h.NoFormals; kind = (kind.Function (Some (i 92 (codes "char")))) };
            semicolon = 93;
            body = body.Block;
          }
          ∷ []);
      statements =
          tree.Compound 95 (s.Sequence
          (s.Call (i 96 (codes "a")) (e.Actual (e.Number (n 98 1)) (e.Actual (e.Access (i 100 (codes "b")) e.NoSelectors) e.NoActuals)))
          (s.Sequence
          (s.Call (i 103 (codes "a")) (e.Actual (e.Number (n 105 1)) (e.Actual (e.Access (i 107 (codes "c")) e.NoSelectors) e.NoActuals)))
          (s.Sequence
          (s.Call (i 110 (codes "a")) (e.Actual (e.Number (n 112 1)) (e.Actual (e.Access (i 114 (codes "f")) e.NoSelectors) e.NoActuals)))
          (s.Sequence
          (s.Call (i 117 (codes "a")) (e.Actual (e.Number (n 119 1)) (e.Actual (e.Number (n 121 1)) e.NoActuals)))
          (s.Sequence
          (s.Call
          (i 124 (codes "a"))
          (e.Actual (e.Number (n 126 1)) (e.Actual (e.Access (i 128 (codes "t")) e.NoSelectors) e.NoActuals)))
          (s.Sequence
          (s.Call
          (i 131 (codes "a"))
          (e.Actual (e.Number (n 133 1)) (e.Actual (e.Access (i 135 (codes "write")) e.NoSelectors) e.NoActuals)))
          (s.Sequence
          (s.Call
          (i 138 (codes "a"))
          (e.Actual (e.Number (n 140 1)) (e.Actual (e.Access (i 142 (codes "undecl")) e.NoSelectors) e.NoActuals)))
          (s.Sequence
          (s.Call
          (i 145 (codes "a"))
          (e.Actual
          (e.Number (n 147 1))
          (e.Actual (e.Call (i 149 (codes "b")) (e.Actual (e.Number (n 151 1)) e.NoActuals)) e.NoActuals)))
          (s.Sequence
          (s.If 155
          (e.Relation
          (e.Call (i 156 (codes "g")) (e.Actual (e.Access (i 158 (codes "h1")) e.NoSelectors) e.NoActuals))
          160
          op.Equal
          (e.Call (i 161 (codes "g")) (e.Actual (e.Access (i 163 (codes "h2")) e.NoSelectors) e.NoActuals)))
          (s.Empty 166))
          (s.Sequence
          (s.Call (i 167 (codes "f")) (e.Actual (e.Number (n 169 1)) (e.Actual (e.Number (n 171 2)) e.NoActuals)))
          (s.Sequence (s.Call (i 174 (codes "g")) e.NoActuals) s.NoStatements))))))))))) 175;
      tokens = 177;
    })
    (tree.Beside
    (tree.TreeOf
    (record {
      program = None;
      labels = [];
      constants = [];
      types = [];
      variables = t.NoSections;
      declarations = [];
      statements =
          tree.Compound 0 (s.Sequence
          (s.Call (i 1 (codes "pr")) (e.Actual (e.Number (n 3 1)) (e.Actual (e.Access (i 5 (codes "x")) e.NoSelectors) e.NoActuals)))
          (s.Sequence
          (s.Call (i 8 (codes "pr")) (e.Actual (e.Number (n 10 1)) e.NoActuals))
          (s.Sequence (s.Call (i 13 (codes "pr")) e.NoActuals) s.NoStatements))) 14;
      tokens = 15;
    })
    tree.NoTrees)
    (tree.Beside
    (tree.TreeOf
    (record {
      program = None;
      labels = [];
      constants = [];
      types = [];
      variables = t.NoSections;
      declarations = [];
      statements = tree.Compound 0 (s.Sequence (s.Empty 1) s.NoStatements) 1;
      tokens = 2;
    })
    tree.NoTrees)
    (tree.Beside
    (tree.TreeOf
    (record {
      program = None;
      labels = [];
      constants = [];
      types = [];
      variables = t.NoSections;
      declarations = [];
      statements = tree.Compound 0 (s.Sequence (s.Empty 1) s.NoStatements) 1;
      tokens = 2;
    })
    tree.NoTrees)
    (tree.Beside
    (tree.TreeOf
    (record {
      program = None;
      labels = [];
      constants = [];
      types = [];
      variables = t.NoSections;
      declarations = [];
      statements =
          tree.Compound 0 (s.Sequence
          (s.Assign (record { name = (i 1 (codes "f")); selectors = e.NoSelectors }) 2 (e.Number (n 3 1)))
          (s.Sequence
          (s.Assign
          (record { name = (i 5 (codes "f")); selectors = e.NoSelectors })
          6
          (e.Call
          (i 7 (codes "f"))
          (e.Actual (e.Number (n 9 1)) (e.Actual (e.Access (i 11 (codes "z")) e.NoSelectors) e.NoActuals))))
          s.NoStatements)) 13;
      tokens = 14;
    })
    tree.NoTrees)
    (tree.Beside
    (tree.TreeOf
    (record {
      program = None;
      labels = [];
      constants = [];
      types = [];
      variables = t.NoSections;
      declarations = [];
      statements =
          tree.Compound 0 (s.Sequence
          (s.Assign (record { name = (i 1 (codes "g")); selectors = e.NoSelectors }) 2 (e.Access (i 3 (codes "h")) e.NoSelectors))
          (s.Sequence
          (s.Assign (record { name = (i 5 (codes "h")); selectors = e.NoSelectors }) 6 (e.Number (n 7 1)))
          (s.Sequence
          (s.Assign
          (record { name = (i 9 (codes "g")); selectors = e.NoSelectors })
          10
          (e.Sum None
          (e.Access (i 11 (codes "h")) e.NoSelectors)
          (e.Operation 12 op.Add
          (e.Call (i 13 (codes "g")) (e.Actual (e.Access (i 15 (codes "h")) e.NoSelectors) e.NoActuals))
          e.NoOperations)))
          s.NoStatements))) 17;
      tokens = 18;
    })
    tree.NoTrees)
    (tree.Beside
    (tree.TreeOf
    (record {
      program = None;
      labels = [];
      constants = [];
      types = [];
      variables = t.NoSections;
      declarations = [];
      statements =
          tree.Compound 0 (s.Sequence
          (s.Assign (record { name = (i 1 (codes "h1")); selectors = e.NoSelectors }) 2 (e.Number (n 3 1)))
          s.NoStatements) 4;
      tokens = 5;
    })
    tree.NoTrees)
    (tree.Beside
    (tree.TreeOf
    (record {
      program = None;
      labels = [];
      constants = [];
      types = [];
      variables = t.NoSections;
      declarations = [];
      statements =
          tree.Compound 0 (s.Sequence
          (s.Assign
          (record { name = (i 1 (codes "h2")); selectors = e.NoSelectors })
          2
          (e.Text (record { at = 3; characters = (97 ∷ []) })))
          s.NoStatements) 4;
      tokens = 5;
    })
    tree.NoTrees)
    tree.NoTrees))))))))
