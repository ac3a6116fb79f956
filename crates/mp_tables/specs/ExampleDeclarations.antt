-- Programs with errors of declarations: names, types, records, procedures and functions, labels.
use Rattle.std.specs.Prelude.{true, false, [], ◌∷◌, Some, None, codes}
use Rattle.mp_ast.specs.declared.leaves.SignKind.TheVariants as sign
use Rattle.mp_ast.specs.declared.leaves.Constant.TheVariants as c
use Rattle.mp_ast.specs.declared.headings.HeadingKind.TheVariants as kind
use Rattle.mp_ast.specs.declared.blocks.DeclaredBody.TheVariants as body
use Rattle.mp_ast.specs.PlainExpressions as e
use Rattle.mp_ast.specs.PlainStatements as s
use Rattle.mp_ast.specs.PlainTypes as t
use Rattle.mp_ast.specs.PlainHeadings as h
use Rattle.mp_ast.specs.PlainTrees as tree
use Rattle.mp_ast.specs.PlainTrees.{PlainTree}
use Rattle.mp_tables.specs.ExampleTokens.{i, n}

--     program p;
--     const c = d; d = 1; e = e; f = round; g = p;
--     type t = array [1..2] of t; u = ^v; v = record x: u end; w = ^missing; s = c;
--     var x: real; y: c;
--     procedure q; begin y := 1; z end;
--     begin q := 1; x := c end.
abbrev pub used_names : PlainTree
used_names =
    (tree.TreeOf
    (record {
      program = (Some (record { name = (i 1 (codes "p")); parameters = [] }));
      labels = [];
      constants =
          (record { name = (i 4 (codes "c")); value = (c.Name None (i 6 (codes "d"))); semicolon = 7 }
          ∷ record { name = (i 8 (codes "d")); value = (c.Number None (n 10 1)); semicolon = 11 }
          ∷ record { name = (i 12 (codes "e")); value = (c.Name None (i 14 (codes "e"))); semicolon = 15 }
          ∷ record { name = (i 16 (codes "f")); value = (c.Name None (i 18 (codes "round"))); semicolon = 19 }
          ∷ record { name = (i 20 (codes "g")); value = (c.Name None (i 22 (codes "p"))); semicolon = 23 }
          ∷ []);
      types =
          (record {
            name = (i 25 (codes "t"));
            of =
                (t.Array 27 false (t.Index 27 (t.Subrange (c.Number None (n 29 1)) (c.Number None (n 31 2))) t.NoIndices) (t.Named (i 34 (codes "t"))));
            semicolon = 35;
          }
          ∷ record { name = (i 36 (codes "u")); of = (t.Pointer 38 (i 39 (codes "v"))); semicolon = 40 }
          ∷ record {
            name = (i 41 (codes "v"));
            of = (t.Record 43 false (t.Fields (t.Section ((i 44 (codes "x")) ∷ []) (t.Named (i 46 (codes "u"))) t.NoSections)));
            semicolon = 48;
          }
          ∷ record { name = (i 49 (codes "w")); of = (t.Pointer 51 (i 52 (codes "missing"))); semicolon = 53 }
          ∷ record { name = (i 54 (codes "s")); of = (t.Named (i 56 (codes "c"))); semicolon = 57 }
          ∷ []);
      variables =
          (t.Section
          ((i 59 (codes "x")) ∷ [])
          (t.Named (i 61 (codes "real")))
          (t.Section ((i 63 (codes "y")) ∷ []) (t.Named (i 65 (codes "c"))) t.NoSections));
      declarations =
          (record {
            heading = record { at = 67; name = (i 68 (codes "q")); formals = h.NoFormals; kind = kind.Procedure };
            semicolon = 69;
            body = body.Block;
          }
          ∷ []);
      statements =
          tree.Compound 71 (s.Sequence
          (s.Assign (record { name = (i 72 (codes "q")); selectors = e.NoSelectors }) 73 (e.Number (n 74 1)))
          (s.Sequence
          (s.Assign (record { name = (i 76 (codes "x")); selectors = e.NoSelectors }) 77 (e.Access (i 78 (codes "c")) e.NoSelectors))
          s.NoStatements)) 79;
      tokens = 81;
    })
    (tree.Beside
    (tree.TreeOf
    (record {
      program = None;
      labels = [];
      constants = [];
      types = [];
      variables = t.NoSections;
      declarations = [];
      statements =
          tree.Compound 0 (s.Sequence
          (s.Assign (record { name = (i 1 (codes "y")); selectors = e.NoSelectors }) 2 (e.Number (n 3 1)))
          (s.Sequence (s.Call (i 5 (codes "z")) e.NoActuals) s.NoStatements)) 6;
      tokens = 7;
    })
    tree.NoTrees)
    tree.NoTrees))

--     program p(input, f, g, x, f);
--     type e = (red, green, blue, red); s = 5..3; t = 1..true; u = 'a'..'b'; v = 1..u;
--      a1 = array [integer] of char; a2 = array [1..3, e] of u; a3 = array [a2] of integer;
--      s1 = set of 0..300; s2 = set of e; s3 = set of a2; s4 = set of -1..5; fl = file of char;
--      c1 = packed array [1..5] of char;
--     var f: text; g: integer; h: fl; input: integer;
--     procedure q(t1: text; var t2: text; a: a2; function fn: a2; procedure pr(x, x: integer); x: undefinedtype);
--     begin end;
--     function r: a2; begin r := 1 end;
--     begin end.
abbrev pub type_denoters : PlainTree
type_denoters =
    (tree.TreeOf
    (record {
      program =
          (Some
          (record {
            name = (i 1 (codes "p"));
            parameters = ((i 3 (codes "input")) ∷ (i 5 (codes "f")) ∷ (i 7 (codes "g")) ∷ (i 9 (codes "x")) ∷ (i 11 (codes "f")) ∷ []);
          }));
      labels = [];
      constants = [];
      types =
          (record {
            name = (i 15 (codes "e"));
            of = (t.Enumeration 17 ((i 18 (codes "red")) ∷ (i 20 (codes "green")) ∷ (i 22 (codes "blue")) ∷ (i 24 (codes "red")) ∷ []));
            semicolon = 26;
          }
          ∷ record { name = (i 27 (codes "s")); of = (t.Subrange (c.Number None (n 29 5)) (c.Number None (n 31 3))); semicolon = 32 }
          ∷ record { name = (i 33 (codes "t")); of = (t.Subrange (c.Number None (n 35 1)) (c.Name None (i 37 (codes "true")))); semicolon = 38 }
          ∷ record {
            name = (i 39 (codes "u"));
            of = (t.Subrange (c.Text (record { at = 41; characters = (97 ∷ []) })) (c.Text (record { at = 43; characters = (98 ∷ []) })));
            semicolon = 44;
          }
          ∷ record { name = (i 45 (codes "v")); of = (t.Subrange (c.Number None (n 47 1)) (c.Name None (i 49 (codes "u")))); semicolon = 50 }
          ∷ record {
            name = (i 51 (codes "a1"));
            of = (t.Array 53 false (t.Index 53 (t.Named (i 55 (codes "integer"))) t.NoIndices) (t.Named (i 58 (codes "char"))));
            semicolon = 59;
          }
          ∷ record {
            name = (i 60 (codes "a2"));
            of =
                (t.Array 62 false
                (t.Index 62 (t.Subrange (c.Number None (n 64 1)) (c.Number None (n 66 3))) (t.Index 67 (t.Named (i 68 (codes "e"))) t.NoIndices))
                (t.Named (i 71 (codes "u"))));
            semicolon = 72;
          }
          ∷ record {
            name = (i 73 (codes "a3"));
            of = (t.Array 75 false (t.Index 75 (t.Named (i 77 (codes "a2"))) t.NoIndices) (t.Named (i 80 (codes "integer"))));
            semicolon = 81;
          }
          ∷ record {
            name = (i 82 (codes "s1"));
            of = (t.Set 84 false (t.Subrange (c.Number None (n 86 0)) (c.Number None (n 88 300))));
            semicolon = 89;
          }
          ∷ record { name = (i 90 (codes "s2")); of = (t.Set 92 false (t.Named (i 94 (codes "e")))); semicolon = 95 }
          ∷ record { name = (i 96 (codes "s3")); of = (t.Set 98 false (t.Named (i 100 (codes "a2")))); semicolon = 101 }
          ∷ record {
            name = (i 102 (codes "s4"));
            of = (t.Set 104 false (t.Subrange (c.Number (Some (record { at = 106; kind = sign.Minus })) (n 107 1)) (c.Number None (n 109 5))));
            semicolon = 110;
          }
          ∷ record { name = (i 111 (codes "fl")); of = (t.File 113 113 (t.Named (i 115 (codes "char")))); semicolon = 116 }
          ∷ record {
            name = (i 117 (codes "c1"));
            of =
                (t.Array 119 true
                (t.Index 119 (t.Subrange (c.Number None (n 122 1)) (c.Number None (n 124 5))) t.NoIndices)
                (t.Named (i 127 (codes "char"))));
            semicolon = 128;
          }
          ∷ []);
      variables =
          (t.Section
          ((i 130 (codes "f")) ∷ [])
          (t.Named (i 132 (codes "text")))
          (t.Section
          ((i 134 (codes "g")) ∷ [])
          (t.Named (i 136 (codes "integer")))
          (t.Section
          ((i 138 (codes "h")) ∷ [])
          (t.Named (i 140 (codes "fl")))
          (t.Section ((i 142 (codes "input")) ∷ []) (t.Named (i 144 (codes "integer"))) t.NoSections))));
      declarations =
          (record {
            heading =
                record {
                  at = 146;
                  name = (i 147 (codes "q"));
                  formals =
                      (h.Formal
                      (h.Values ((i 149 (codes "t1")) ∷ []) (i 151 (codes "text")))
                      (h.Formal
                      (h.Variables 153 ((i 154 (codes "t2")) ∷ []) (i 156 (codes "text")))
                      (h.Formal
                      (h.Values ((i 158 (codes "a")) ∷ []) (i 160 (codes "a2")))
                      (h.Formal
                      (h.Function 162 (i 163 (codes "fn")) h.NoFormals (i 165 (codes "a2")))
                      (h.Formal
                      (h.Procedure 167
                      (i 168 (codes "pr"))
                      (h.Formal (h.Values ((i 170 (codes "x")) ∷ (i 172 (codes "x")) ∷ []) (i 174 (codes "integer"))) h.NoFormals))
                      (h.Formal (h.Values ((i 177 (codes "x")) ∷ []) (i 179 (codes "undefinedtype"))) h.NoFormals))))));
                  kind = kind.Procedure;
                };
            semicolon = 181;
            body = body.Block;
          }
          ∷ record {
            heading = record { at = 183; name = (i 184 (codes "r")); formals = h.NoFormals; kind = (kind.Function (Some (i 186 (codes "a2")))) };
            semicolon = 187;
            body = body.Block;
          }
          ∷ []);
      statements = tree.Compound 189 (s.Sequence (s.Empty 190) s.NoStatements) 190;
      tokens = 192;
    })
    (tree.Beside
    (tree.TreeOf
    (record {
      program = None;
      labels = [];
      constants = [];
      types = [];
      variables = t.NoSections;
      declarations = [];
      statements = tree.Compound 0 (s.Sequence (s.Empty 1) s.NoStatements) 1;
      tokens = 2;
    })
    tree.NoTrees)
    (tree.Beside
    (tree.TreeOf
    (record {
      program = None;
      labels = [];
      constants = [];
      types = [];
      variables = t.NoSections;
      declarations = [];
      statements =
          tree.Compound 0 (s.Sequence (s.Assign (record { name = (i 1 (codes "r")); selectors = e.NoSelectors }) 2 (e.Number (n 3 1))) s.NoStatements) 4;
      tokens = 5;
    })
    tree.NoTrees)
    tree.NoTrees)))

--     program p;
--     const n = 'no'; m = -n; k = -red; j = +maxint;
--     type c = (red, green, blue);
--      r = record a, b: integer; a: char; case t: c of red: (x, b: integer); green, red: (y: record z, z: char; case integer of 1: (); -1, 1: (w: c) end); 5: (v: boolean); 'ab': () end;
--      q = record case r of 1: (a: integer); 2: () end;
--     var v: r;
--     begin v.a := 1; v.x := 2; v.t := red; v.y.z := 'a'; v.y.w := red; v.nofield := 1; v.a.b := 1; v^ := 1; v[1] := 2; with v, y do begin z := 'b'; a := 3; w := blue; red := 1 end end.
abbrev pub record_types : PlainTree
record_types =
    (tree.TreeOf
    (record {
      program = (Some (record { name = (i 1 (codes "p")); parameters = [] }));
      labels = [];
      constants =
          (record { name = (i 4 (codes "n")); value = (c.Text (record { at = 6; characters = (110 ∷ 111 ∷ []) })); semicolon = 7 }
          ∷ record { name = (i 8 (codes "m")); value = (c.Name (Some (record { at = 10; kind = sign.Minus })) (i 11 (codes "n"))); semicolon = 12 }
          ∷ record {
            name = (i 13 (codes "k"));
            value = (c.Name (Some (record { at = 15; kind = sign.Minus })) (i 16 (codes "red")));
            semicolon = 17;
          }
          ∷ record {
            name = (i 18 (codes "j"));
            value = (c.Name (Some (record { at = 20; kind = sign.Plus })) (i 21 (codes "maxint")));
            semicolon = 22;
          }
          ∷ []);
      types =
          (record {
            name = (i 24 (codes "c"));
            of = (t.Enumeration 26 ((i 27 (codes "red")) ∷ (i 29 (codes "green")) ∷ (i 31 (codes "blue")) ∷ []));
            semicolon = 33;
          }
          ∷ record {
            name = (i 34 (codes "r"));
            of =
                (t.Record 36 false
                (t.FieldsWithVariants
                (t.Section
                ((i 37 (codes "a")) ∷ (i 39 (codes "b")) ∷ [])
                (t.Named (i 41 (codes "integer")))
                (t.Section ((i 43 (codes "a")) ∷ []) (t.Named (i 45 (codes "char"))) t.NoSections))
                47
                (Some (i 48 (codes "t")))
                (i 50 (codes "c"))
                (t.Variant
                ((c.Name None (i 52 (codes "red"))) ∷ [])
                (t.Fields (t.Section ((i 55 (codes "x")) ∷ (i 57 (codes "b")) ∷ []) (t.Named (i 59 (codes "integer"))) t.NoSections))
                (t.Variant
                ((c.Name None (i 62 (codes "green"))) ∷ (c.Name None (i 64 (codes "red"))) ∷ [])
                (t.Fields
                (t.Section
                ((i 67 (codes "y")) ∷ [])
                (t.Record 69 false
                (t.FieldsWithVariants
                (t.Section ((i 70 (codes "z")) ∷ (i 72 (codes "z")) ∷ []) (t.Named (i 74 (codes "char"))) t.NoSections)
                76
                None
                (i 77 (codes "integer"))
                (t.Variant
                ((c.Number None (n 79 1)) ∷ [])
                (t.Fields t.NoSections)
                (t.Variant
                ((c.Number (Some (record { at = 84; kind = sign.Minus })) (n 85 1)) ∷ (c.Number None (n 87 1)) ∷ [])
                (t.Fields (t.Section ((i 90 (codes "w")) ∷ []) (t.Named (i 92 (codes "c"))) t.NoSections))
                t.NoVariants))))
                t.NoSections))
                (t.Variant
                ((c.Number None (n 97 5)) ∷ [])
                (t.Fields (t.Section ((i 100 (codes "v")) ∷ []) (t.Named (i 102 (codes "boolean"))) t.NoSections))
                (t.Variant ((c.Text (record { at = 105; characters = (97 ∷ 98 ∷ []) })) ∷ []) (t.Fields t.NoSections) t.NoVariants))))));
            semicolon = 110;
          }
          ∷ record {
            name = (i 111 (codes "q"));
            of =
                (t.Record 113 false
                (t.FieldsWithVariants t.NoSections 114 None
                (i 115 (codes "r"))
                (t.Variant
                ((c.Number None (n 117 1)) ∷ [])
                (t.Fields (t.Section ((i 120 (codes "a")) ∷ []) (t.Named (i 122 (codes "integer"))) t.NoSections))
                (t.Variant ((c.Number None (n 125 2)) ∷ []) (t.Fields t.NoSections) t.NoVariants))));
            semicolon = 130;
          }
          ∷ []);
      variables = (t.Section ((i 132 (codes "v")) ∷ []) (t.Named (i 134 (codes "r"))) t.NoSections);
      declarations = [];
      statements =
          tree.Compound 136 (s.Sequence
          (s.Assign
          (record { name = (i 137 (codes "v")); selectors = (e.Field 138 (i 139 (codes "a")) e.NoSelectors) })
          140
          (e.Number (n 141 1)))
          (s.Sequence
          (s.Assign
          (record { name = (i 143 (codes "v")); selectors = (e.Field 144 (i 145 (codes "x")) e.NoSelectors) })
          146
          (e.Number (n 147 2)))
          (s.Sequence
          (s.Assign
          (record { name = (i 149 (codes "v")); selectors = (e.Field 150 (i 151 (codes "t")) e.NoSelectors) })
          152
          (e.Access (i 153 (codes "red")) e.NoSelectors))
          (s.Sequence
          (s.Assign
          (record {
            name = (i 155 (codes "v"));
            selectors = (e.Field 156 (i 157 (codes "y")) (e.Field 158 (i 159 (codes "z")) e.NoSelectors));
          })
          160
          (e.Text (record { at = 161; characters = (97 ∷ []) })))
          (s.Sequence
          (s.Assign
          (record {
            name = (i 163 (codes "v"));
            selectors = (e.Field 164 (i 165 (codes "y")) (e.Field 166 (i 167 (codes "w")) e.NoSelectors));
          })
          168
          (e.Access (i 169 (codes "red")) e.NoSelectors))
          (s.Sequence
          (s.Assign
          (record { name = (i 171 (codes "v")); selectors = (e.Field 172 (i 173 (codes "nofield")) e.NoSelectors) })
          174
          (e.Number (n 175 1)))
          (s.Sequence
          (s.Assign
          (record {
            name = (i 177 (codes "v"));
            selectors = (e.Field 178 (i 179 (codes "a")) (e.Field 180 (i 181 (codes "b")) e.NoSelectors));
          })
          182
          (e.Number (n 183 1)))
          (s.Sequence
          (s.Assign (record { name = (i 185 (codes "v")); selectors = (e.Follow 186 e.NoSelectors) }) 187 (e.Number (n 188 1)))
          (s.Sequence
          (s.Assign
          (record { name = (i 190 (codes "v")); selectors = (e.Index 191 (e.Number (n 192 1)) e.NoSelectors) })
          194
          (e.Number (n 195 2)))
          (s.Sequence
          (s.With 197
          ((record { name = (i 198 (codes "v")); selectors = e.NoSelectors })
          ∷ (record { name = (i 200 (codes "y")); selectors = e.NoSelectors })
          ∷ [])
          (s.Compound 202
          (s.Sequence
          (s.Assign
          (record { name = (i 203 (codes "z")); selectors = e.NoSelectors })
          204
          (e.Text (record { at = 205; characters = (98 ∷ []) })))
          (s.Sequence
          (s.Assign (record { name = (i 207 (codes "a")); selectors = e.NoSelectors }) 208 (e.Number (n 209 3)))
          (s.Sequence
          (s.Assign
          (record { name = (i 211 (codes "w")); selectors = e.NoSelectors })
          212
          (e.Access (i 213 (codes "blue")) e.NoSelectors))
          (s.Sequence
          (s.Assign
          (record { name = (i 215 (codes "red")); selectors = e.NoSelectors })
          216
          (e.Number (n 217 1)))
          s.NoStatements))))))
          s.NoStatements)))))))))) 219;
      tokens = 221;
    })
    tree.NoTrees)

--     program p;
--     procedure a; forward;
--     procedure b; forward;
--     function f(x: integer): integer; forward;
--     procedure b(x: integer); begin end;
--     function f: char; begin f := 1 end;
--     function g; begin end;
--     function h: integer; begin end;
--     procedure b; begin end;
--     function k: integer; procedure in1; begin k := 1 end; begin end;
--     function fwd: integer; forward;
--     function fwd; begin fwd := 2 end;
--     begin b; b(1); a := 1; k := 2; f(1); a(2) end.
abbrev pub procedures_and_functions : PlainTree
procedures_and_functions =
    (tree.TreeOf
    (record {
      program = (Some (record { name = (i 1 (codes "p")); parameters = [] }));
      labels = [];
      constants = [];
      types = [];
      variables = t.NoSections;
      declarations =
          (record {
            heading = record { at = 3; name = (i 4 (codes "a")); formals = h.NoFormals; kind = kind.Procedure };
            semicolon = 5;
            body = body.Forward 6;
          }
          ∷ record {
            heading = record { at = 8; name = (i 9 (codes "b")); formals = h.NoFormals; kind = kind.Procedure };
            semicolon = 10;
            body = body.Forward 11;
          }
          ∷ record {
            heading =
                record {
                  at = 13;
                  name = (i 14 (codes "f"));
                  formals = (h.Formal (h.Values ((i 16 (codes "x")) ∷ []) (i 18 (codes "integer"))) h.NoFormals);
                  kind = (kind.Function (Some (i 21 (codes "integer"))));
                };
            semicolon = 22;
            body = body.Forward 23;
          }
          ∷ record {
            heading =
                record {
                  at = 25;
                  name = (i 26 (codes "b"));
                  formals = (h.Formal (h.Values ((i 28 (codes "x")) ∷ []) (i 30 (codes "integer"))) h.NoFormals);
                  kind = kind.Procedure;
                };
            semicolon = 32;
            body = body.Block;
          }
          ∷ record {
            heading = record { at = 34; name = (i 35 (codes "f")); formals = h.NoFormals; kind = (kind.Function (Some (i 37 (codes "char")))) };
            semicolon = 38;
            body = body.Block;
          }
          ∷ record {
            heading = record { at = 40; name = (i 41 (codes "g")); formals = h.NoFormals; kind = (kind.Function None) };
            semicolon = 42;
            body = body.Block;
          }
          ∷ record {
            heading = record { at = 44; name = (i 45 (codes "h")); formals = h.NoFormals; kind = (kind.Function (Some (i 47 (codes "integer")))) };
            semicolon = 48;
            body = body.Block;
          }
          ∷ record {
            heading = record { at = 50; name = (i 51 (codes "b")); formals = h.NoFormals; kind = kind.Procedure };
            semicolon = 52;
            body = body.Block;
          }
          ∷ record {
            heading = record { at = 54; name = (i 55 (codes "k")); formals = h.NoFormals; kind = (kind.Function (Some (i 57 (codes "integer")))) };
            semicolon = 58;
            body = body.Block;
          }
          ∷ record {
            heading =
                record { at = 60; name = (i 61 (codes "fwd")); formals = h.NoFormals; kind = (kind.Function (Some (i 63 (codes "integer")))) };
            semicolon = 64;
            body = body.Forward 65;
          }
          ∷ record {
            heading = record { at = 67; name = (i 68 (codes "fwd")); formals = h.NoFormals; kind = (kind.Function None) };
            semicolon = 69;
            body = body.Block;
          }
          ∷ []);
      statements =
          tree.Compound 71 (s.Sequence
          (s.Call (i 72 (codes "b")) e.NoActuals)
          (s.Sequence
          (s.Call (i 74 (codes "b")) (e.Actual (e.Number (n 76 1)) e.NoActuals))
          (s.Sequence
          (s.Assign (record { name = (i 79 (codes "a")); selectors = e.NoSelectors }) 80 (e.Number (n 81 1)))
          (s.Sequence
          (s.Assign (record { name = (i 83 (codes "k")); selectors = e.NoSelectors }) 84 (e.Number (n 85 2)))
          (s.Sequence
          (s.Call (i 87 (codes "f")) (e.Actual (e.Number (n 89 1)) e.NoActuals))
          (s.Sequence (s.Call (i 92 (codes "a")) (e.Actual (e.Number (n 94 2)) e.NoActuals)) s.NoStatements)))))) 96;
      tokens = 98;
    })
    (tree.Beside
    (tree.TreeOf
    (record {
      program = None;
      labels = [];
      constants = [];
      types = [];
      variables = t.NoSections;
      declarations = [];
      statements = tree.Compound 0 (s.Sequence (s.Empty 1) s.NoStatements) 1;
      tokens = 2;
    })
    tree.NoTrees)
    (tree.Beside
    (tree.TreeOf
    (record {
      program = None;
      labels = [];
      constants = [];
      types = [];
      variables = t.NoSections;
      declarations = [];
      statements =
          tree.Compound 0 (s.Sequence (s.Assign (record { name = (i 1 (codes "f")); selectors = e.NoSelectors }) 2 (e.Number (n 3 1))) s.NoStatements) 4;
      tokens = 5;
    })
    tree.NoTrees)
    (tree.Beside
    (tree.TreeOf
    (record {
      program = None;
      labels = [];
      constants = [];
      types = [];
      variables = t.NoSections;
      declarations = [];
      statements = tree.Compound 0 (s.Sequence (s.Empty 1) s.NoStatements) 1;
      tokens = 2;
    })
    tree.NoTrees)
    (tree.Beside
    (tree.TreeOf
    (record {
      program = None;
      labels = [];
      constants = [];
      types = [];
      variables = t.NoSections;
      declarations = [];
      statements = tree.Compound 0 (s.Sequence (s.Empty 1) s.NoStatements) 1;
      tokens = 2;
    })
    tree.NoTrees)
    (tree.Beside
    (tree.TreeOf
    (record {
      program = None;
      labels = [];
      constants = [];
      types = [];
      variables = t.NoSections;
      declarations = [];
      statements = tree.Compound 0 (s.Sequence (s.Empty 1) s.NoStatements) 1;
      tokens = 2;
    })
    tree.NoTrees)
    (tree.Beside
    (tree.TreeOf
    (record {
      program = None;
      labels = [];
      constants = [];
      types = [];
      variables = t.NoSections;
      declarations =
          (record {
            heading = record { at = 0; name = (i 1 (codes "in1")); formals = h.NoFormals; kind = kind.Procedure };
            semicolon = 2;
            body = body.Block;
          }
          ∷ []);
      statements = tree.Compound 4 (s.Sequence (s.Empty 5) s.NoStatements) 5;
      tokens = 6;
    })
    (tree.Beside
    (tree.TreeOf
    (record {
      program = None;
      labels = [];
      constants = [];
      types = [];
      variables = t.NoSections;
      declarations = [];
      statements =
          tree.Compound 0 (s.Sequence
          (s.Assign (record { name = (i 1 (codes "k")); selectors = e.NoSelectors }) 2 (e.Number (n 3 1)))
          s.NoStatements) 4;
      tokens = 5;
    })
    tree.NoTrees)
    tree.NoTrees))
    (tree.Beside
    (tree.TreeOf
    (record {
      program = None;
      labels = [];
      constants = [];
      types = [];
      variables = t.NoSections;
      declarations = [];
      statements =
          tree.Compound 0 (s.Sequence
          (s.Assign (record { name = (i 1 (codes "fwd")); selectors = e.NoSelectors }) 2 (e.Number (n 3 2)))
          s.NoStatements) 4;
      tokens = 5;
    })
    tree.NoTrees)
    tree.NoTrees))))))))

--     program p;
--     label 1, 2, 1, 10000, 3;
--     procedure q; label 4; begin goto 1; goto 2; goto 5; 4: ; 6: end;
--     begin 1: begin 2: end; goto 2; 2: ; 10000: goto 10000; if true then 3: goto 3; goto 3 end.
abbrev pub labels : PlainTree
labels =
    (tree.TreeOf
    (record {
      program = (Some (record { name = (i 1 (codes "p")); parameters = [] }));
      labels = ((n 4 1) ∷ (n 6 2) ∷ (n 8 1) ∷ (n 10 10000) ∷ (n 12 3) ∷ []);
      constants = [];
      types = [];
      variables = t.NoSections;
      declarations =
          (record {
            heading = record { at = 14; name = (i 15 (codes "q")); formals = h.NoFormals; kind = kind.Procedure };
            semicolon = 16;
            body = body.Block;
          }
          ∷ []);
      statements =
          tree.Compound 18 (s.Sequence
          (s.Labelled (n 19 1) (s.Compound 21 (s.Sequence (s.Labelled (n 22 2) (s.Empty 24)) s.NoStatements)))
          (s.Sequence
          (s.Goto 26 (n 27 2))
          (s.Sequence
          (s.Labelled (n 29 2) (s.Empty 31))
          (s.Sequence
          (s.Labelled (n 32 10000) (s.Goto 34 (n 35 10000)))
          (s.Sequence
          (s.If 37 (e.Access (i 38 (codes "true")) e.NoSelectors) (s.Labelled (n 40 3) (s.Goto 42 (n 43 3))))
          (s.Sequence (s.Goto 45 (n 46 3)) s.NoStatements)))))) 47;
      tokens = 49;
    })
    (tree.Beside
    (tree.TreeOf
    (record {
      program = None;
      labels = ((n 1 4) ∷ []);
      constants = [];
      types = [];
      variables = t.NoSections;
      declarations = [];
      statements =
          tree.Compound 3 (s.Sequence
          (s.Goto 4 (n 5 1))
          (s.Sequence
          (s.Goto 7 (n 8 2))
          (s.Sequence
          (s.Goto 10 (n 11 5))
          (s.Sequence (s.Labelled (n 13 4) (s.Empty 15)) (s.Sequence (s.Labelled (n 16 6) (s.Empty 18)) s.NoStatements))))) 18;
      tokens = 19;
    })
    tree.NoTrees)
    tree.NoTrees))

--     program p;
--     label 1, 2, 007, 9999;
--     procedure q; begin goto 1; goto 2; goto 7 end;
--     begin 1: begin goto 2; 2: goto 1 end; 7: goto 1; goto 2 end.
abbrev pub gotos : PlainTree
gotos =
    (tree.TreeOf
    (record {
      program = (Some (record { name = (i 1 (codes "p")); parameters = [] }));
      labels = ((n 4 1) ∷ (n 6 2) ∷ (n 8 7) ∷ (n 10 9999) ∷ []);
      constants = [];
      types = [];
      variables = t.NoSections;
      declarations =
          (record {
            heading = record { at = 12; name = (i 13 (codes "q")); formals = h.NoFormals; kind = kind.Procedure };
            semicolon = 14;
            body = body.Block;
          }
          ∷ []);
      statements =
          tree.Compound 16 (s.Sequence
          (s.Labelled
          (n 17 1)
          (s.Compound 19 (s.Sequence (s.Goto 20 (n 21 2)) (s.Sequence (s.Labelled (n 23 2) (s.Goto 25 (n 26 1))) s.NoStatements))))
          (s.Sequence (s.Labelled (n 29 7) (s.Goto 31 (n 32 1))) (s.Sequence (s.Goto 34 (n 35 2)) s.NoStatements))) 36;
      tokens = 38;
    })
    (tree.Beside
    (tree.TreeOf
    (record {
      program = None;
      labels = [];
      constants = [];
      types = [];
      variables = t.NoSections;
      declarations = [];
      statements =
          tree.Compound 0 (s.Sequence (s.Goto 1 (n 2 1)) (s.Sequence (s.Goto 4 (n 5 2)) (s.Sequence (s.Goto 7 (n 8 7)) s.NoStatements))) 9;
      tokens = 10;
    })
    tree.NoTrees)
    tree.NoTrees))
