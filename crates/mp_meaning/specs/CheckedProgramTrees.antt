-- Programs as trees, which show that the premise of soundness can be met, and that it is needed. Above each stands its text; all
-- but the last are without errors.
use Rattle.std.specs.Prelude.{ℕ, true, false, List, [], ◌∷◌, Some, None, codes}
use Rattle.mp_ast.specs.declared.leaves.Identifier.{Identifier}
use Rattle.mp_ast.specs.declared.leaves.Number.{Number}
use Rattle.mp_ast.specs.declared.leaves.SignKind.TheVariants as sign
use Rattle.mp_ast.specs.declared.leaves.Constant.TheVariants as c
use Rattle.mp_ast.specs.declared.expressions.Operator.TheVariants as op
use Rattle.mp_ast.specs.declared.statements.Direction.TheVariants as direction
use Rattle.mp_ast.specs.declared.headings.HeadingKind.TheVariants as kind
use Rattle.mp_ast.specs.declared.blocks.DeclaredBody.TheVariants as body
use Rattle.mp_ast.specs.PlainExpressions as e
use Rattle.mp_ast.specs.PlainStatements as s
use Rattle.mp_ast.specs.PlainTypes as t
use Rattle.mp_ast.specs.PlainHeadings as h
use Rattle.mp_ast.specs.PlainTrees as tree
use Rattle.mp_ast.specs.PlainTrees.{PlainTree}

abbrev i : ℕ → List ℕ → Identifier
i at name = record { at = at; name = name }

abbrev n : ℕ → ℕ → Number
n at value = record { at = at; value = value }

--     program p(input, output);
--     label 9;
--     var i, j: integer;
--     procedure swap(var x, y: integer);
--     var z: integer;
--     begin z := x; x := y; y := z end;
--     function fact(n: integer): integer;
--     begin if n < 2 then fact := 1 else fact := n * fact(n - 1) end;
--     procedure repeated(procedure q(var a, b: integer); k: integer);
--     begin if k > 0 then begin q(i, j); repeated(q, k - 1) end else goto 9 end;
--     function sum(function f(n: integer): integer; n: integer): integer;
--     var k, s: integer;
--     begin s := 0; for k := 1 to n do s := s + f(k); sum := s end;
--     begin i := 1; j := 2; swap(i, j); writeln(sum(fact, 4), i: 3); repeated(swap, 3);
--     9: writeln('done') end.
abbrev pub procedures : PlainTree
procedures = (tree.TreeOf (record { program = (Some (record { name = (i 1 (codes "p")); parameters = ((i 3 (codes "input")) ∷ (i 5 (codes "output")) ∷ []) })); labels = ((n 9 9) ∷ []); constants = []; types = []; variables = (t.Section ((i 12 (codes "i")) ∷ (i 14 (codes "j")) ∷ []) (t.Named (i 16 (codes "integer"))) t.NoSections); declarations = (record { heading = record { at = 18; name = (i 19 (codes "swap")); formals = (h.Formal (h.Variables 21 ((i 22 (codes "x")) ∷ (i 24 (codes "y")) ∷ []) (i 26 (codes "integer"))) h.NoFormals); kind = kind.Procedure }; semicolon = 28; body = body.Block } ∷ record { heading = record { at = 30; name = (i 31 (codes "fact")); formals = (h.Formal (h.Values ((i 33 (codes "n")) ∷ []) (i 35 (codes "integer"))) h.NoFormals); kind = kind.Function (Some (i 38 (codes "integer"))) }; semicolon = 39; body = body.Block } ∷ record { heading = record { at = 41; name = (i 42 (codes "repeated")); formals = (h.Formal (h.Procedure 44 (i 45 (codes "q")) (h.Formal (h.Variables 47 ((i 48 (codes "a")) ∷ (i 50 (codes "b")) ∷ []) (i 52 (codes "integer"))) h.NoFormals)) (h.Formal (h.Values ((i 55 (codes "k")) ∷ []) (i 57 (codes "integer"))) h.NoFormals)); kind = kind.Procedure }; semicolon = 59; body = body.Block } ∷ record { heading = record { at = 61; name = (i 62 (codes "sum")); formals = (h.Formal (h.Function 64 (i 65 (codes "f")) (h.Formal (h.Values ((i 67 (codes "n")) ∷ []) (i 69 (codes "integer"))) h.NoFormals) (i 72 (codes "integer"))) (h.Formal (h.Values ((i 74 (codes "n")) ∷ []) (i 76 (codes "integer"))) h.NoFormals)); kind = kind.Function (Some (i 79 (codes "integer"))) }; semicolon = 80; body = body.Block } ∷ []); statements = tree.Compound 82 (s.Sequence (s.Assign (record { name = (i 83 (codes "i")); selectors = e.NoSelectors }) 84 (e.Number (n 85 1))) (s.Sequence (s.Assign (record { name = (i 87 (codes "j")); selectors = e.NoSelectors }) 88 (e.Number (n 89 2))) (s.Sequence (s.Call (i 91 (codes "swap")) (e.Actual (e.Access (i 93 (codes "i")) e.NoSelectors) (e.Actual (e.Access (i 95 (codes "j")) e.NoSelectors) e.NoActuals))) (s.Sequence (s.Call (i 98 (codes "writeln")) (e.Actual (e.Call (i 100 (codes "sum")) (e.Actual (e.Access (i 102 (codes "fact")) e.NoSelectors) (e.Actual (e.Number (n 104 4)) e.NoActuals))) (e.ActualWithWidth (e.Access (i 107 (codes "i")) e.NoSelectors) 108 (e.Number (n 109 3)) e.NoActuals))) (s.Sequence (s.Call (i 112 (codes "repeated")) (e.Actual (e.Access (i 114 (codes "swap")) e.NoSelectors) (e.Actual (e.Number (n 116 3)) e.NoActuals))) (s.Sequence (s.Labelled (n 119 9) (s.Call (i 121 (codes "writeln")) (e.Actual (e.Text (record { at = 123; characters = (100 ∷ 111 ∷ 110 ∷ 101 ∷ []) })) e.NoActuals))) s.NoStatements)))))) 125; tokens = 127 }) (tree.Beside (tree.TreeOf (record { program = None; labels = []; constants = []; types = []; variables = (t.Section ((i 1 (codes "z")) ∷ []) (t.Named (i 3 (codes "integer"))) t.NoSections); declarations = []; statements = tree.Compound 5 (s.Sequence (s.Assign (record { name = (i 6 (codes "z")); selectors = e.NoSelectors }) 7 (e.Access (i 8 (codes "x")) e.NoSelectors)) (s.Sequence (s.Assign (record { name = (i 10 (codes "x")); selectors = e.NoSelectors }) 11 (e.Access (i 12 (codes "y")) e.NoSelectors)) (s.Sequence (s.Assign (record { name = (i 14 (codes "y")); selectors = e.NoSelectors }) 15 (e.Access (i 16 (codes "z")) e.NoSelectors)) s.NoStatements))) 17; tokens = 18 }) tree.NoTrees) (tree.Beside (tree.TreeOf (record { program = None; labels = []; constants = []; types = []; variables = t.NoSections; declarations = []; statements = tree.Compound 0 (s.Sequence (s.IfElse 1 (e.Relation (e.Access (i 2 (codes "n")) e.NoSelectors) 3 op.Less (e.Number (n 4 2))) (s.Assign (record { name = (i 6 (codes "fact")); selectors = e.NoSelectors }) 7 (e.Number (n 8 1))) (s.Assign (record { name = (i 10 (codes "fact")); selectors = e.NoSelectors }) 11 (e.Product (e.Access (i 12 (codes "n")) e.NoSelectors) (e.Operation 13 op.Multiply (e.Call (i 14 (codes "fact")) (e.Actual (e.Sum None (e.Access (i 16 (codes "n")) e.NoSelectors) (e.Operation 17 op.Subtract (e.Number (n 18 1)) e.NoOperations)) e.NoActuals)) e.NoOperations)))) s.NoStatements) 20; tokens = 21 }) tree.NoTrees) (tree.Beside (tree.TreeOf (record { program = None; labels = []; constants = []; types = []; variables = t.NoSections; declarations = []; statements = tree.Compound 0 (s.Sequence (s.IfElse 1 (e.Relation (e.Access (i 2 (codes "k")) e.NoSelectors) 3 op.Greater (e.Number (n 4 0))) (s.Compound 6 (s.Sequence (s.Call (i 7 (codes "q")) (e.Actual (e.Access (i 9 (codes "i")) e.NoSelectors) (e.Actual (e.Access (i 11 (codes "j")) e.NoSelectors) e.NoActuals))) (s.Sequence (s.Call (i 14 (codes "repeated")) (e.Actual (e.Access (i 16 (codes "q")) e.NoSelectors) (e.Actual (e.Sum None (e.Access (i 18 (codes "k")) e.NoSelectors) (e.Operation 19 op.Subtract (e.Number (n 20 1)) e.NoOperations)) e.NoActuals))) s.NoStatements))) (s.Goto 24 (n 25 9))) s.NoStatements) 26; tokens = 27 }) tree.NoTrees) (tree.Beside (tree.TreeOf (record { program = None; labels = []; constants = []; types = []; variables = (t.Section ((i 1 (codes "k")) ∷ (i 3 (codes "s")) ∷ []) (t.Named (i 5 (codes "integer"))) t.NoSections); declarations = []; statements = tree.Compound 7 (s.Sequence (s.Assign (record { name = (i 8 (codes "s")); selectors = e.NoSelectors }) 9 (e.Number (n 10 0))) (s.Sequence (s.For 12 (record { variable = (i 13 (codes "k")); assign = 14; first = (e.Number (n 15 1)); direction = direction.To; last = (e.Access (i 17 (codes "n")) e.NoSelectors) }) (s.Assign (record { name = (i 19 (codes "s")); selectors = e.NoSelectors }) 20 (e.Sum None (e.Access (i 21 (codes "s")) e.NoSelectors) (e.Operation 22 op.Add (e.Call (i 23 (codes "f")) (e.Actual (e.Access (i 25 (codes "k")) e.NoSelectors) e.NoActuals)) e.NoOperations)))) (s.Sequence (s.Assign (record { name = (i 28 (codes "sum")); selectors = e.NoSelectors }) 29 (e.Access (i 30 (codes "s")) e.NoSelectors)) s.NoStatements))) 31; tokens = 32 }) tree.NoTrees) tree.NoTrees)))))

--     program p(output);
--     const low = 1; high = 4;
--     type colour = (red, green);
--     list = ^node;
--     node = record value: integer; next: list; case kind: colour of red: (x: integer); green: (case boolean of true: (c: char); false: (d, f: boolean)) end;
--     word = packed array [low..high] of char;
--     var l: list; n: node; w, v: word; a: array [1..9] of char; s: set of 0..9; m: array [colour, 0..2] of integer; i: integer; k: colour;
--     procedure show(l: list);
--     begin while l <> nil do with l^ do begin write(value); l := next end end;
--     begin new(l); l^.value := 3; l^.next := nil; l^.kind := green; l^.c := 'a'; n := l^; n.kind := red; n.x := 7; show(l);
--     w := 'abcd'; v := w; w[2] := v[1]; if w < v then write(w) else write('less'); for i := 1 to 9 do a[i] := w[(i - 1) mod 4 + 1]; pack(a, 2, w); unpack(w, a, 3);
--     s := [1, 3..5]; s := s + [i] * [0]; if (3 in s) and not (s = []) then for k := red to green do m[k, 1] := ord(k) + succ(1);
--     with n, l^ do begin value := value + 1; if kind = green then c := 'b' end; dispose(l) end.
abbrev pub variables : PlainTree
variables = (tree.TreeOf (record { program = (Some (record { name = (i 1 (codes "p")); parameters = ((i 3 (codes "output")) ∷ []) })); labels = []; constants = (record { name = (i 7 (codes "low")); value = (c.Number None (n 9 1)); semicolon = 10 } ∷ record { name = (i 11 (codes "high")); value = (c.Number None (n 13 4)); semicolon = 14 } ∷ []); types = (record { name = (i 16 (codes "colour")); of = (t.Enumeration 18 ((i 19 (codes "red")) ∷ (i 21 (codes "green")) ∷ [])); semicolon = 23 } ∷ record { name = (i 24 (codes "list")); of = (t.Pointer 26 (i 27 (codes "node"))); semicolon = 28 } ∷ record { name = (i 29 (codes "node")); of = (t.Record 31 false (t.FieldsWithVariants (t.Section ((i 32 (codes "value")) ∷ []) (t.Named (i 34 (codes "integer"))) (t.Section ((i 36 (codes "next")) ∷ []) (t.Named (i 38 (codes "list"))) t.NoSections)) 40 (Some (i 41 (codes "kind"))) (i 43 (codes "colour")) (t.Variant ((c.Name None (i 45 (codes "red"))) ∷ []) (t.Fields (t.Section ((i 48 (codes "x")) ∷ []) (t.Named (i 50 (codes "integer"))) t.NoSections)) (t.Variant ((c.Name None (i 53 (codes "green"))) ∷ []) (t.FieldsWithVariants t.NoSections 56 None (i 57 (codes "boolean")) (t.Variant ((c.Name None (i 59 (codes "true"))) ∷ []) (t.Fields (t.Section ((i 62 (codes "c")) ∷ []) (t.Named (i 64 (codes "char"))) t.NoSections)) (t.Variant ((c.Name None (i 67 (codes "false"))) ∷ []) (t.Fields (t.Section ((i 70 (codes "d")) ∷ (i 72 (codes "f")) ∷ []) (t.Named (i 74 (codes "boolean"))) t.NoSections)) t.NoVariants))) t.NoVariants)))); semicolon = 78 } ∷ record { name = (i 79 (codes "word")); of = (t.Array 83 true (t.Index 83 (t.Subrange (c.Name None (i 84 (codes "low"))) (c.Name None (i 86 (codes "high")))) t.NoIndices) (t.Named (i 89 (codes "char")))); semicolon = 90 } ∷ []); variables = (t.Section ((i 92 (codes "l")) ∷ []) (t.Named (i 94 (codes "list"))) (t.Section ((i 96 (codes "n")) ∷ []) (t.Named (i 98 (codes "node"))) (t.Section ((i 100 (codes "w")) ∷ (i 102 (codes "v")) ∷ []) (t.Named (i 104 (codes "word"))) (t.Section ((i 106 (codes "a")) ∷ []) (t.Array 109 false (t.Index 109 (t.Subrange (c.Number None (n 110 1)) (c.Number None (n 112 9))) t.NoIndices) (t.Named (i 115 (codes "char")))) (t.Section ((i 117 (codes "s")) ∷ []) (t.Set 119 false (t.Subrange (c.Number None (n 121 0)) (c.Number None (n 123 9)))) (t.Section ((i 125 (codes "m")) ∷ []) (t.Array 128 false (t.Index 128 (t.Named (i 129 (codes "colour"))) (t.Index 130 (t.Subrange (c.Number None (n 131 0)) (c.Number None (n 133 2))) t.NoIndices)) (t.Named (i 136 (codes "integer")))) (t.Section ((i 138 (codes "i")) ∷ []) (t.Named (i 140 (codes "integer"))) (t.Section ((i 142 (codes "k")) ∷ []) (t.Named (i 144 (codes "colour"))) t.NoSections)))))))); declarations = (record { heading = record { at = 146; name = (i 147 (codes "show")); formals = (h.Formal (h.Values ((i 149 (codes "l")) ∷ []) (i 151 (codes "list"))) h.NoFormals); kind = kind.Procedure }; semicolon = 153; body = body.Block } ∷ []); statements = tree.Compound 155 (s.Sequence (s.Call (i 156 (codes "new")) (e.Actual (e.Access (i 158 (codes "l")) e.NoSelectors) e.NoActuals)) (s.Sequence (s.Assign (record { name = (i 161 (codes "l")); selectors = (e.Follow 162 (e.Field 163 (i 164 (codes "value")) e.NoSelectors)) }) 165 (e.Number (n 166 3))) (s.Sequence (s.Assign (record { name = (i 168 (codes "l")); selectors = (e.Follow 169 (e.Field 170 (i 171 (codes "next")) e.NoSelectors)) }) 172 (e.Nil 173)) (s.Sequence (s.Assign (record { name = (i 175 (codes "l")); selectors = (e.Follow 176 (e.Field 177 (i 178 (codes "kind")) e.NoSelectors)) }) 179 (e.Access (i 180 (codes "green")) e.NoSelectors)) (s.Sequence (s.Assign (record { name = (i 182 (codes "l")); selectors = (e.Follow 183 (e.Field 184 (i 185 (codes "c")) e.NoSelectors)) }) 186 (e.Text (record { at = 187; characters = (97 ∷ []) }))) (s.Sequence (s.Assign (record { name = (i 189 (codes "n")); selectors = e.NoSelectors }) 190 (e.Access (i 191 (codes "l")) (e.Follow 192 e.NoSelectors))) (s.Sequence (s.Assign (record { name = (i 194 (codes "n")); selectors = (e.Field 195 (i 196 (codes "kind")) e.NoSelectors) }) 197 (e.Access (i 198 (codes "red")) e.NoSelectors)) (s.Sequence (s.Assign (record { name = (i 200 (codes "n")); selectors = (e.Field 201 (i 202 (codes "x")) e.NoSelectors) }) 203 (e.Number (n 204 7))) (s.Sequence (s.Call (i 206 (codes "show")) (e.Actual (e.Access (i 208 (codes "l")) e.NoSelectors) e.NoActuals)) (s.Sequence (s.Assign (record { name = (i 211 (codes "w")); selectors = e.NoSelectors }) 212 (e.Text (record { at = 213; characters = (97 ∷ 98 ∷ 99 ∷ 100 ∷ []) }))) (s.Sequence (s.Assign (record { name = (i 215 (codes "v")); selectors = e.NoSelectors }) 216 (e.Access (i 217 (codes "w")) e.NoSelectors)) (s.Sequence (s.Assign (record { name = (i 219 (codes "w")); selectors = (e.Index 220 (e.Number (n 221 2)) e.NoSelectors) }) 223 (e.Access (i 224 (codes "v")) (e.Index 225 (e.Number (n 226 1)) e.NoSelectors))) (s.Sequence (s.IfElse 229 (e.Relation (e.Access (i 230 (codes "w")) e.NoSelectors) 231 op.Less (e.Access (i 232 (codes "v")) e.NoSelectors)) (s.Call (i 234 (codes "write")) (e.Actual (e.Access (i 236 (codes "w")) e.NoSelectors) e.NoActuals)) (s.Call (i 239 (codes "write")) (e.Actual (e.Text (record { at = 241; characters = (108 ∷ 101 ∷ 115 ∷ 115 ∷ []) })) e.NoActuals))) (s.Sequence (s.For 244 (record { variable = (i 245 (codes "i")); assign = 246; first = (e.Number (n 247 1)); direction = direction.To; last = (e.Number (n 249 9)) }) (s.Assign (record { name = (i 251 (codes "a")); selectors = (e.Index 252 (e.Access (i 253 (codes "i")) e.NoSelectors) e.NoSelectors) }) 255 (e.Access (i 256 (codes "w")) (e.Index 257 (e.Sum None (e.Product (e.Inside 258 (e.Sum None (e.Access (i 259 (codes "i")) e.NoSelectors) (e.Operation 260 op.Subtract (e.Number (n 261 1)) e.NoOperations))) (e.Operation 263 op.Mod (e.Number (n 264 4)) e.NoOperations)) (e.Operation 265 op.Add (e.Number (n 266 1)) e.NoOperations)) e.NoSelectors)))) (s.Sequence (s.Call (i 269 (codes "pack")) (e.Actual (e.Access (i 271 (codes "a")) e.NoSelectors) (e.Actual (e.Number (n 273 2)) (e.Actual (e.Access (i 275 (codes "w")) e.NoSelectors) e.NoActuals)))) (s.Sequence (s.Call (i 278 (codes "unpack")) (e.Actual (e.Access (i 280 (codes "w")) e.NoSelectors) (e.Actual (e.Access (i 282 (codes "a")) e.NoSelectors) (e.Actual (e.Number (n 284 3)) e.NoActuals)))) (s.Sequence (s.Assign (record { name = (i 287 (codes "s")); selectors = e.NoSelectors }) 288 (e.Set 289 (e.Member (e.Number (n 290 1)) (e.MemberRange (e.Number (n 292 3)) (e.Number (n 294 5)) e.NoMembers)))) (s.Sequence (s.Assign (record { name = (i 297 (codes "s")); selectors = e.NoSelectors }) 298 (e.Sum None (e.Access (i 299 (codes "s")) e.NoSelectors) (e.Operation 300 op.Add (e.Product (e.Set 301 (e.Member (e.Access (i 302 (codes "i")) e.NoSelectors) e.NoMembers)) (e.Operation 304 op.Multiply (e.Set 305 (e.Member (e.Number (n 306 0)) e.NoMembers)) e.NoOperations)) e.NoOperations))) (s.Sequence (s.If 309 (e.Product (e.Inside 310 (e.Relation (e.Number (n 311 3)) 312 op.In (e.Access (i 313 (codes "s")) e.NoSelectors))) (e.Operation 315 op.And (e.Not 316 (e.Inside 317 (e.Relation (e.Access (i 318 (codes "s")) e.NoSelectors) 319 op.Equal (e.Set 320 e.NoMembers)))) e.NoOperations)) (s.For 324 (record { variable = (i 325 (codes "k")); assign = 326; first = (e.Access (i 327 (codes "red")) e.NoSelectors); direction = direction.To; last = (e.Access (i 329 (codes "green")) e.NoSelectors) }) (s.Assign (record { name = (i 331 (codes "m")); selectors = (e.Index 332 (e.Access (i 333 (codes "k")) e.NoSelectors) (e.Index 334 (e.Number (n 335 1)) e.NoSelectors)) }) 337 (e.Sum None (e.Call (i 338 (codes "ord")) (e.Actual (e.Access (i 340 (codes "k")) e.NoSelectors) e.NoActuals)) (e.Operation 342 op.Add (e.Call (i 343 (codes "succ")) (e.Actual (e.Number (n 345 1)) e.NoActuals)) e.NoOperations))))) (s.Sequence (s.With 348 ((record { name = (i 349 (codes "n")); selectors = e.NoSelectors }) ∷ (record { name = (i 351 (codes "l")); selectors = (e.Follow 352 e.NoSelectors) }) ∷ []) (s.Compound 354 (s.Sequence (s.Assign (record { name = (i 355 (codes "value")); selectors = e.NoSelectors }) 356 (e.Sum None (e.Access (i 357 (codes "value")) e.NoSelectors) (e.Operation 358 op.Add (e.Number (n 359 1)) e.NoOperations))) (s.Sequence (s.If 361 (e.Relation (e.Access (i 362 (codes "kind")) e.NoSelectors) 363 op.Equal (e.Access (i 364 (codes "green")) e.NoSelectors)) (s.Assign (record { name = (i 366 (codes "c")); selectors = e.NoSelectors }) 367 (e.Text (record { at = 368; characters = (98 ∷ []) })))) s.NoStatements)))) (s.Sequence (s.Call (i 371 (codes "dispose")) (e.Actual (e.Access (i 373 (codes "l")) e.NoSelectors) e.NoActuals)) s.NoStatements))))))))))))))))))))) 375; tokens = 377 }) (tree.Beside (tree.TreeOf (record { program = None; labels = []; constants = []; types = []; variables = t.NoSections; declarations = []; statements = tree.Compound 0 (s.Sequence (s.While 1 (e.Relation (e.Access (i 2 (codes "l")) e.NoSelectors) 3 op.NotEqual (e.Nil 4)) (s.With 6 ((record { name = (i 7 (codes "l")); selectors = (e.Follow 8 e.NoSelectors) }) ∷ []) (s.Compound 10 (s.Sequence (s.Call (i 11 (codes "write")) (e.Actual (e.Access (i 13 (codes "value")) e.NoSelectors) e.NoActuals)) (s.Sequence (s.Assign (record { name = (i 16 (codes "l")); selectors = e.NoSelectors }) 17 (e.Access (i 18 (codes "next")) e.NoSelectors)) s.NoStatements))))) s.NoStatements) 20; tokens = 21 }) tree.NoTrees) tree.NoTrees))

--     program p(input, output, f);
--     label 1, 2;
--     var f: text; c: char; i: integer; b: boolean;
--     begin read(i, c); readln; while not eof do begin while not eoln(input) do begin read(c); write(c) end; readln; writeln end;
--     rewrite(f); f^ := 'x'; put(f); write(f, 12: 4, true, 'text': 6); page(f); reset(f); c := f^; get(f);
--     1: i := i + 1; if i < 3 then goto 1; repeat i := i - 1; if i = 0 then goto 2; 2: until i <= 0;
--     case i of 0: b := true; 1, 2: begin b := false; b := chr(65) = 'a' end end; case c of 'a': i := -1; 'b': ; 'c': i := 2 end
--     end.
abbrev pub files : PlainTree
files = (tree.TreeOf (record { program = (Some (record { name = (i 1 (codes "p")); parameters = ((i 3 (codes "input")) ∷ (i 5 (codes "output")) ∷ (i 7 (codes "f")) ∷ []) })); labels = ((n 11 1) ∷ (n 13 2) ∷ []); constants = []; types = []; variables = (t.Section ((i 16 (codes "f")) ∷ []) (t.Named (i 18 (codes "text"))) (t.Section ((i 20 (codes "c")) ∷ []) (t.Named (i 22 (codes "char"))) (t.Section ((i 24 (codes "i")) ∷ []) (t.Named (i 26 (codes "integer"))) (t.Section ((i 28 (codes "b")) ∷ []) (t.Named (i 30 (codes "boolean"))) t.NoSections)))); declarations = []; statements = tree.Compound 32 (s.Sequence (s.Call (i 33 (codes "read")) (e.Actual (e.Access (i 35 (codes "i")) e.NoSelectors) (e.Actual (e.Access (i 37 (codes "c")) e.NoSelectors) e.NoActuals))) (s.Sequence (s.Call (i 40 (codes "readln")) e.NoActuals) (s.Sequence (s.While 42 (e.Not 43 (e.Access (i 44 (codes "eof")) e.NoSelectors)) (s.Compound 46 (s.Sequence (s.While 47 (e.Not 48 (e.Call (i 49 (codes "eoln")) (e.Actual (e.Access (i 51 (codes "input")) e.NoSelectors) e.NoActuals))) (s.Compound 54 (s.Sequence (s.Call (i 55 (codes "read")) (e.Actual (e.Access (i 57 (codes "c")) e.NoSelectors) e.NoActuals)) (s.Sequence (s.Call (i 60 (codes "write")) (e.Actual (e.Access (i 62 (codes "c")) e.NoSelectors) e.NoActuals)) s.NoStatements)))) (s.Sequence (s.Call (i 66 (codes "readln")) e.NoActuals) (s.Sequence (s.Call (i 68 (codes "writeln")) e.NoActuals) s.NoStatements))))) (s.Sequence (s.Call (i 71 (codes "rewrite")) (e.Actual (e.Access (i 73 (codes "f")) e.NoSelectors) e.NoActuals)) (s.Sequence (s.Assign (record { name = (i 76 (codes "f")); selectors = (e.Follow 77 e.NoSelectors) }) 78 (e.Text (record { at = 79; characters = (120 ∷ []) }))) (s.Sequence (s.Call (i 81 (codes "put")) (e.Actual (e.Access (i 83 (codes "f")) e.NoSelectors) e.NoActuals)) (s.Sequence (s.Call (i 86 (codes "write")) (e.Actual (e.Access (i 88 (codes "f")) e.NoSelectors) (e.ActualWithWidth (e.Number (n 90 12)) 91 (e.Number (n 92 4)) (e.Actual (e.Access (i 94 (codes "true")) e.NoSelectors) (e.ActualWithWidth (e.Text (record { at = 96; characters = (116 ∷ 101 ∷ 120 ∷ 116 ∷ []) })) 97 (e.Number (n 98 6)) e.NoActuals))))) (s.Sequence (s.Call (i 101 (codes "page")) (e.Actual (e.Access (i 103 (codes "f")) e.NoSelectors) e.NoActuals)) (s.Sequence (s.Call (i 106 (codes "reset")) (e.Actual (e.Access (i 108 (codes "f")) e.NoSelectors) e.NoActuals)) (s.Sequence (s.Assign (record { name = (i 111 (codes "c")); selectors = e.NoSelectors }) 112 (e.Access (i 113 (codes "f")) (e.Follow 114 e.NoSelectors))) (s.Sequence (s.Call (i 116 (codes "get")) (e.Actual (e.Access (i 118 (codes "f")) e.NoSelectors) e.NoActuals)) (s.Sequence (s.Labelled (n 121 1) (s.Assign (record { name = (i 123 (codes "i")); selectors = e.NoSelectors }) 124 (e.Sum None (e.Access (i 125 (codes "i")) e.NoSelectors) (e.Operation 126 op.Add (e.Number (n 127 1)) e.NoOperations)))) (s.Sequence (s.If 129 (e.Relation (e.Access (i 130 (codes "i")) e.NoSelectors) 131 op.Less (e.Number (n 132 3))) (s.Goto 134 (n 135 1))) (s.Sequence (s.Repeat 137 (s.Sequence (s.Assign (record { name = (i 138 (codes "i")); selectors = e.NoSelectors }) 139 (e.Sum None (e.Access (i 140 (codes "i")) e.NoSelectors) (e.Operation 141 op.Subtract (e.Number (n 142 1)) e.NoOperations))) (s.Sequence (s.If 144 (e.Relation (e.Access (i 145 (codes "i")) e.NoSelectors) 146 op.Equal (e.Number (n 147 0))) (s.Goto 149 (n 150 2))) (s.Sequence (s.Labelled (n 152 2) (s.Empty 154)) s.NoStatements))) (e.Relation (e.Access (i 155 (codes "i")) e.NoSelectors) 156 op.LessOrEqual (e.Number (n 157 0)))) (s.Sequence (s.Case 159 (e.Access (i 160 (codes "i")) e.NoSelectors) (s.Arm ((c.Number None (n 162 0)) ∷ []) (s.Assign (record { name = (i 164 (codes "b")); selectors = e.NoSelectors }) 165 (e.Access (i 166 (codes "true")) e.NoSelectors)) (s.Arm ((c.Number None (n 168 1)) ∷ (c.Number None (n 170 2)) ∷ []) (s.Compound 172 (s.Sequence (s.Assign (record { name = (i 173 (codes "b")); selectors = e.NoSelectors }) 174 (e.Access (i 175 (codes "false")) e.NoSelectors)) (s.Sequence (s.Assign (record { name = (i 177 (codes "b")); selectors = e.NoSelectors }) 178 (e.Relation (e.Call (i 179 (codes "chr")) (e.Actual (e.Number (n 181 65)) e.NoActuals)) 183 op.Equal (e.Text (record { at = 184; characters = (97 ∷ []) })))) s.NoStatements))) s.NoArms))) (s.Sequence (s.Case 188 (e.Access (i 189 (codes "c")) e.NoSelectors) (s.Arm ((c.Text (record { at = 191; characters = (97 ∷ []) })) ∷ []) (s.Assign (record { name = (i 193 (codes "i")); selectors = e.NoSelectors }) 194 (e.Sum (Some (record { at = 195; kind = sign.Minus })) (e.Number (n 196 1)) e.NoOperations)) (s.Arm ((c.Text (record { at = 198; characters = (98 ∷ []) })) ∷ []) (s.Empty 200) (s.Arm ((c.Text (record { at = 201; characters = (99 ∷ []) })) ∷ []) (s.Assign (record { name = (i 203 (codes "i")); selectors = e.NoSelectors }) 204 (e.Number (n 205 2))) s.NoArms)))) s.NoStatements)))))))))))))))) 207; tokens = 209 }) tree.NoTrees)

--     program p;
--     type a = ^integer; b = ^c; c = record x, y: integer end;
--     var v: a; w: b;
--     begin new(w); v := w; v^ := v^ + 1 end.
abbrev pub mixed_pointers : PlainTree
mixed_pointers = (tree.TreeOf (record { program = (Some (record { name = (i 1 (codes "p")); parameters = [] })); labels = []; constants = []; types = (record { name = (i 4 (codes "a")); of = (t.Pointer 6 (i 7 (codes "integer"))); semicolon = 8 } ∷ record { name = (i 9 (codes "b")); of = (t.Pointer 11 (i 12 (codes "c"))); semicolon = 13 } ∷ record { name = (i 14 (codes "c")); of = (t.Record 16 false (t.Fields (t.Section ((i 17 (codes "x")) ∷ (i 19 (codes "y")) ∷ []) (t.Named (i 21 (codes "integer"))) t.NoSections))); semicolon = 23 } ∷ []); variables = (t.Section ((i 25 (codes "v")) ∷ []) (t.Named (i 27 (codes "a"))) (t.Section ((i 29 (codes "w")) ∷ []) (t.Named (i 31 (codes "b"))) t.NoSections)); declarations = []; statements = tree.Compound 33 (s.Sequence (s.Call (i 34 (codes "new")) (e.Actual (e.Access (i 36 (codes "w")) e.NoSelectors) e.NoActuals)) (s.Sequence (s.Assign (record { name = (i 39 (codes "v")); selectors = e.NoSelectors }) 40 (e.Access (i 41 (codes "w")) e.NoSelectors)) (s.Sequence (s.Assign (record { name = (i 43 (codes "v")); selectors = (e.Follow 44 e.NoSelectors) }) 45 (e.Sum None (e.Access (i 46 (codes "v")) (e.Follow 47 e.NoSelectors)) (e.Operation 48 op.Add (e.Number (n 49 1)) e.NoOperations))) s.NoStatements))) 50; tokens = 52 }) tree.NoTrees)
