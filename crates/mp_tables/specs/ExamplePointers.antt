-- A program with errors of pointers and of packed arrays.
use Rattle.std.specs.Prelude.{true, false, [], ◌∷◌, Some, None, codes}
use Rattle.mp_ast.specs.declared.leaves.Constant.TheVariants as c
use Rattle.mp_ast.specs.declared.headings.HeadingKind.TheVariants as kind
use Rattle.mp_ast.specs.declared.blocks.DeclaredBody.TheVariants as body
use Rattle.mp_ast.specs.PlainExpressions as e
use Rattle.mp_ast.specs.PlainStatements as s
use Rattle.mp_ast.specs.PlainTypes as t
use Rattle.mp_ast.specs.PlainHeadings as h
use Rattle.mp_ast.specs.PlainTrees as tree
use Rattle.mp_ast.specs.PlainTrees.{PlainTree}
use Rattle.mp_tables.specs.ExampleTokens.{i, n}

--     program p;
--     type c = (red, green); q = ^r; r = record n: q; case t: c of red: (x: integer; case boolean of true: (z: integer); false: ()); green: () end;
--      pa = packed array [1..3] of char; ua = array [1..9] of char; ub = array [1..9] of integer; pr = packed record k: integer; case tg: boolean of true: () end;
--     var v: q; i: integer; a: pa; b: ua; d: ub; k: pr; w: ^ua;
--     procedure y(var x: integer); begin end;
--     procedure yb(var x: boolean); begin end;
--     begin new(v); new(v, red); new(v, red, true); new(v, red, true, 1); new(v, green, 1); new(v, 1); new(v, i); new(nil); new; dispose(v); dispose(nil); dispose(i); dispose(v, green);
--      new(w, 1); new(undecl, 1); new(w:2); pack(b, i, a); pack(a, i, b); pack(b, 'a', a); pack(d, 1, a); unpack(a, b, i); unpack(a, d, i); pack(b, i); v^.n := nil; v^.x := 1; i := v^^; w^[1] := 'a';
--      y(k.k); yb(k.tg); with k do begin y(k); yb(tg) end; y(v^.x); y(i); y((i)); y(red) end.
abbrev pub pointers_and_packing : PlainTree
pointers_and_packing =
    (tree.TreeOf
    (record {
      program = (Some (record { name = (i 1 (codes "p")); parameters = [] }));
      labels = [];
      constants = [];
      types =
          (record { name = (i 4 (codes "c")); of = (t.Enumeration 6 ((i 7 (codes "red")) ∷ (i 9 (codes "green")) ∷ [])); semicolon = 11 }
          ∷ record { name = (i 12 (codes "q")); of = (t.Pointer 14 (i 15 (codes "r"))); semicolon = 16 }
          ∷ record {
            name = (i 17 (codes "r"));
            of =
                (t.Record 19 false
                (t.FieldsWithVariants
                (t.Section ((i 20 (codes "n")) ∷ []) (t.Named (i 22 (codes "q"))) t.NoSections)
                24
                (Some (i 25 (codes "t")))
                (i 27 (codes "c"))
                (t.Variant
                ((c.Name None (i 29 (codes "red"))) ∷ [])
                (t.FieldsWithVariants
                (t.Section ((i 32 (codes "x")) ∷ []) (t.Named (i 34 (codes "integer"))) t.NoSections)
                36
                None
                (i 37 (codes "boolean"))
                (t.Variant
                ((c.Name None (i 39 (codes "true"))) ∷ [])
                (t.Fields (t.Section ((i 42 (codes "z")) ∷ []) (t.Named (i 44 (codes "integer"))) t.NoSections))
                (t.Variant ((c.Name None (i 47 (codes "false"))) ∷ []) (t.Fields t.NoSections) t.NoVariants)))
                (t.Variant ((c.Name None (i 53 (codes "green"))) ∷ []) (t.Fields t.NoSections) t.NoVariants))));
            semicolon = 58;
          }
          ∷ record {
            name = (i 59 (codes "pa"));
            of =
                (t.Array 61 true
                (t.Index 61 (t.Subrange (c.Number None (n 64 1)) (c.Number None (n 66 3))) t.NoIndices)
                (t.Named (i 69 (codes "char"))));
            semicolon = 70;
          }
          ∷ record {
            name = (i 71 (codes "ua"));
            of =
                (t.Array 73 false
                (t.Index 73 (t.Subrange (c.Number None (n 75 1)) (c.Number None (n 77 9))) t.NoIndices)
                (t.Named (i 80 (codes "char"))));
            semicolon = 81;
          }
          ∷ record {
            name = (i 82 (codes "ub"));
            of =
                (t.Array 84 false
                (t.Index 84 (t.Subrange (c.Number None (n 86 1)) (c.Number None (n 88 9))) t.NoIndices)
                (t.Named (i 91 (codes "integer"))));
            semicolon = 92;
          }
          ∷ record {
            name = (i 93 (codes "pr"));
            of =
                (t.Record 95 true
                (t.FieldsWithVariants
                (t.Section ((i 97 (codes "k")) ∷ []) (t.Named (i 99 (codes "integer"))) t.NoSections)
                101
                (Some (i 102 (codes "tg")))
                (i 104 (codes "boolean"))
                (t.Variant ((c.Name None (i 106 (codes "true"))) ∷ []) (t.Fields t.NoSections) t.NoVariants)));
            semicolon = 111;
          }
          ∷ []);
      variables =
          (t.Section
          ((i 113 (codes "v")) ∷ [])
          (t.Named (i 115 (codes "q")))
          (t.Section
          ((i 117 (codes "i")) ∷ [])
          (t.Named (i 119 (codes "integer")))
          (t.Section
          ((i 121 (codes "a")) ∷ [])
          (t.Named (i 123 (codes "pa")))
          (t.Section
          ((i 125 (codes "b")) ∷ [])
          (t.Named (i 127 (codes "ua")))
          (t.Section
          ((i 129 (codes "d")) ∷ [])
          (t.Named (i 131 (codes "ub")))
          (t.Section
          ((i 133 (codes "k")) ∷ [])
          (t.Named (i 135 (codes "pr")))
          (t.Section ((i 137 (codes "w")) ∷ []) (t.Pointer 139 (i 140 (codes "ua"))) t.NoSections)))))));
      declarations =
          (record {
            heading =
                record {
                  at = 142;
                  name = (i 143 (codes "y"));
                  formals = (h.Formal (h.Variables 145 ((i 146 (codes "x")) ∷ []) (i 148 (codes "integer"))) h.NoFormals);
                  kind = kind.Procedure;
                };
            semicolon = 150;
            body = body.Block;
          }
          ∷ record {
            heading =
                record {
                  at = 152;
                  name = (i 153 (codes "yb"));
                  formals = (h.Formal (h.Variables 155 ((i 156 (codes "x")) ∷ []) (i 158 (codes "boolean"))) h.NoFormals);
                  kind = kind.Procedure;
                };
            semicolon = 160;
            body = body.Block;
          }
          ∷ []);
      statements =
          tree.Compound 162 (s.Sequence
          (s.Call (i 163 (codes "new")) (e.Actual (e.Access (i 165 (codes "v")) e.NoSelectors) e.NoActuals))
          (s.Sequence
          (s.Call
          (i 168 (codes "new"))
          (e.Actual (e.Access (i 170 (codes "v")) e.NoSelectors) (e.Actual (e.Access (i 172 (codes "red")) e.NoSelectors) e.NoActuals)))
          (s.Sequence
          (s.Call
          (i 175 (codes "new"))
          (e.Actual
          (e.Access (i 177 (codes "v")) e.NoSelectors)
          (e.Actual
          (e.Access (i 179 (codes "red")) e.NoSelectors)
          (e.Actual (e.Access (i 181 (codes "true")) e.NoSelectors) e.NoActuals))))
          (s.Sequence
          (s.Call
          (i 184 (codes "new"))
          (e.Actual
          (e.Access (i 186 (codes "v")) e.NoSelectors)
          (e.Actual
          (e.Access (i 188 (codes "red")) e.NoSelectors)
          (e.Actual (e.Access (i 190 (codes "true")) e.NoSelectors) (e.Actual (e.Number (n 192 1)) e.NoActuals)))))
          (s.Sequence
          (s.Call
          (i 195 (codes "new"))
          (e.Actual
          (e.Access (i 197 (codes "v")) e.NoSelectors)
          (e.Actual (e.Access (i 199 (codes "green")) e.NoSelectors) (e.Actual (e.Number (n 201 1)) e.NoActuals))))
          (s.Sequence
          (s.Call
          (i 204 (codes "new"))
          (e.Actual (e.Access (i 206 (codes "v")) e.NoSelectors) (e.Actual (e.Number (n 208 1)) e.NoActuals)))
          (s.Sequence
          (s.Call
          (i 211 (codes "new"))
          (e.Actual
          (e.Access (i 213 (codes "v")) e.NoSelectors)
          (e.Actual (e.Access (i 215 (codes "i")) e.NoSelectors) e.NoActuals)))
          (s.Sequence
          (s.Call (i 218 (codes "new")) (e.Actual (e.Nil 220) e.NoActuals))
          (s.Sequence
          (s.Call (i 223 (codes "new")) e.NoActuals)
          (s.Sequence
          (s.Call (i 225 (codes "dispose")) (e.Actual (e.Access (i 227 (codes "v")) e.NoSelectors) e.NoActuals))
          (s.Sequence
          (s.Call (i 230 (codes "dispose")) (e.Actual (e.Nil 232) e.NoActuals))
          (s.Sequence
          (s.Call (i 235 (codes "dispose")) (e.Actual (e.Access (i 237 (codes "i")) e.NoSelectors) e.NoActuals))
          (s.Sequence
          (s.Call
          (i 240 (codes "dispose"))
          (e.Actual
          (e.Access (i 242 (codes "v")) e.NoSelectors)
          (e.Actual (e.Access (i 244 (codes "green")) e.NoSelectors) e.NoActuals)))
          (s.Sequence
          (s.Call
          (i 247 (codes "new"))
          (e.Actual (e.Access (i 249 (codes "w")) e.NoSelectors) (e.Actual (e.Number (n 251 1)) e.NoActuals)))
          (s.Sequence
          (s.Call
          (i 254 (codes "new"))
          (e.Actual
          (e.Access (i 256 (codes "undecl")) e.NoSelectors)
          (e.Actual (e.Number (n 258 1)) e.NoActuals)))
          (s.Sequence
          (s.Call
          (i 261 (codes "new"))
          (e.ActualWithWidth (e.Access (i 263 (codes "w")) e.NoSelectors) 264 (e.Number (n 265 2)) e.NoActuals))
          (s.Sequence
          (s.Call
          (i 268 (codes "pack"))
          (e.Actual
          (e.Access (i 270 (codes "b")) e.NoSelectors)
          (e.Actual
          (e.Access (i 272 (codes "i")) e.NoSelectors)
          (e.Actual (e.Access (i 274 (codes "a")) e.NoSelectors) e.NoActuals))))
          (s.Sequence
          (s.Call
          (i 277 (codes "pack"))
          (e.Actual
          (e.Access (i 279 (codes "a")) e.NoSelectors)
          (e.Actual
          (e.Access (i 281 (codes "i")) e.NoSelectors)
          (e.Actual (e.Access (i 283 (codes "b")) e.NoSelectors) e.NoActuals))))
          (s.Sequence
          (s.Call
          (i 286 (codes "pack"))
          (e.Actual
          (e.Access (i 288 (codes "b")) e.NoSelectors)
          (e.Actual
          (e.Text (record { at = 290; characters = (97 ∷ []) }))
          (e.Actual (e.Access (i 292 (codes "a")) e.NoSelectors) e.NoActuals))))
          (s.Sequence
          (s.Call
          (i 295 (codes "pack"))
          (e.Actual
          (e.Access (i 297 (codes "d")) e.NoSelectors)
          (e.Actual
          (e.Number (n 299 1))
          (e.Actual (e.Access (i 301 (codes "a")) e.NoSelectors) e.NoActuals))))
          (s.Sequence
          (s.Call
          (i 304 (codes "unpack"))
          (e.Actual
          (e.Access (i 306 (codes "a")) e.NoSelectors)
          (e.Actual
          (e.Access (i 308 (codes "b")) e.NoSelectors)
          (e.Actual (e.Access (i 310 (codes "i")) e.NoSelectors) e.NoActuals))))
          (s.Sequence
          (s.Call
          (i 313 (codes "unpack"))
          (e.Actual
          (e.Access (i 315 (codes "a")) e.NoSelectors)
          (e.Actual
          (e.Access (i 317 (codes "d")) e.NoSelectors)
          (e.Actual (e.Access (i 319 (codes "i")) e.NoSelectors) e.NoActuals))))
          (s.Sequence
          (s.Call
          (i 322 (codes "pack"))
          (e.Actual
          (e.Access (i 324 (codes "b")) e.NoSelectors)
          (e.Actual (e.Access (i 326 (codes "i")) e.NoSelectors) e.NoActuals)))
          (s.Sequence
          (s.Assign
          (record {
            name = (i 329 (codes "v"));
            selectors = (e.Follow 330 (e.Field 331 (i 332 (codes "n")) e.NoSelectors));
          })
          333
          (e.Nil 334))
          (s.Sequence
          (s.Assign
          (record {
            name = (i 336 (codes "v"));
            selectors = (e.Follow 337 (e.Field 338 (i 339 (codes "x")) e.NoSelectors));
          })
          340
          (e.Number (n 341 1)))
          (s.Sequence
          (s.Assign
          (record { name = (i 343 (codes "i")); selectors = e.NoSelectors })
          344
          (e.Access (i 345 (codes "v")) (e.Follow 346 (e.Follow 347 e.NoSelectors))))
          (s.Sequence
          (s.Assign
          (record {
            name = (i 349 (codes "w"));
            selectors = (e.Follow 350 (e.Index 351 (e.Number (n 352 1)) e.NoSelectors));
          })
          354
          (e.Text (record { at = 355; characters = (97 ∷ []) })))
          (s.Sequence
          (s.Call
          (i 357 (codes "y"))
          (e.Actual
          (e.Access
          (i 359 (codes "k"))
          (e.Field 360 (i 361 (codes "k")) e.NoSelectors))
          e.NoActuals))
          (s.Sequence
          (s.Call
          (i 364 (codes "yb"))
          (e.Actual
          (e.Access
          (i 366 (codes "k"))
          (e.Field 367 (i 368 (codes "tg")) e.NoSelectors))
          e.NoActuals))
          (s.Sequence
          (s.With 371
          ((record { name = (i 372 (codes "k")); selectors = e.NoSelectors }) ∷ [])
          (s.Compound 374
          (s.Sequence
          (s.Call
          (i 375 (codes "y"))
          (e.Actual (e.Access (i 377 (codes "k")) e.NoSelectors) e.NoActuals))
          (s.Sequence
          (s.Call
          (i 380 (codes "yb"))
          (e.Actual
          (e.Access (i 382 (codes "tg")) e.NoSelectors)
          e.NoActuals))
          s.NoStatements))))
          (s.Sequence
          (s.Call
          (i 386 (codes "y"))
          (e.Actual
          (e.Access
          (i 388 (codes "v"))
          (e.Follow 389 (e.Field 390 (i 391 (codes "x")) e.NoSelectors)))
          e.NoActuals))
          (s.Sequence
          (s.Call
          (i 394 (codes "y"))
          (e.Actual (e.Access (i 396 (codes "i")) e.NoSelectors) e.NoActuals))
          (s.Sequence
          (s.Call
          (i 399 (codes "y"))
          (e.Actual
          (e.Inside 401 (e.Access (i 402 (codes "i")) e.NoSelectors))
          e.NoActuals))
          (s.Sequence
          (s.Call
          (i 406 (codes "y"))
          (e.Actual
          (e.Access (i 408 (codes "red")) e.NoSelectors)
          e.NoActuals))
          s.NoStatements)))))))))))))))))))))))))))))))))) 410;
      tokens = 412;
    })
    (tree.Beside
    (tree.TreeOf
    (record {
      program = None;
      labels = [];
      constants = [];
      types = [];
      variables = t.NoSections;
      declarations = [];
      statements = tree.Compound 0 (s.Sequence (s.Empty 1) s.NoStatements) 1;
      tokens = 2;
    })
    tree.NoTrees)
    (tree.Beside
    (tree.TreeOf
    (record {
      program = None;
      labels = [];
      constants = [];
      types = [];
      variables = t.NoSections;
      declarations = [];
      statements = tree.Compound 0 (s.Sequence (s.Empty 1) s.NoStatements) 1;
      tokens = 2;
    })
    tree.NoTrees)
    tree.NoTrees)))
