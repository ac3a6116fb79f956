-- Programs as trees, by which the rules are tried. Above each stands its text; an identifier `i` and a number `n` have the
-- ordinals of their tokens in their block.
pub use Rattle.mp_tables.specs.ExampleDeclarations.{used_names, type_denoters, record_types, procedures_and_functions, labels, gotos}
pub use Rattle.mp_tables.specs.ExampleExpressions.{expressions, procedural_parameters}
pub use Rattle.mp_tables.specs.ExampleStatements.{statements, text_files, fields_as_control_variables}
pub use Rattle.mp_tables.specs.ExamplePointers.{pointers_and_packing}
use Rattle.std.specs.Prelude.{false, [], ◌∷◌, Some, None, codes}
use Rattle.mp_ast.specs.declared.leaves.Constant.TheVariants as c
use Rattle.mp_ast.specs.declared.statements.Direction.TheVariants as direction
use Rattle.mp_ast.specs.declared.headings.HeadingKind.TheVariants as kind
use Rattle.mp_ast.specs.declared.blocks.DeclaredBody.TheVariants as body
use Rattle.mp_ast.specs.PlainExpressions as e
use Rattle.mp_ast.specs.PlainStatements as s
use Rattle.mp_ast.specs.PlainTypes as t
use Rattle.mp_ast.specs.PlainHeadings as h
use Rattle.mp_ast.specs.PlainTrees as tree
use Rattle.mp_ast.specs.PlainTrees.{PlainTree}
use Rattle.mp_tables.specs.ExampleTokens.{i, n}

--     program p(output);
--     const c = 1;
--     procedure q;
--     const d = c; c = 2;
--     begin writeln(d) end;
--     begin q end.
abbrev pub used_before_its_declaration : PlainTree
used_before_its_declaration =
    (tree.TreeOf
    (record {
      program = (Some (record { name = (i 1 (codes "p")); parameters = ((i 3 (codes "output")) ∷ []) }));
      labels = [];
      constants = (record { name = (i 7 (codes "c")); value = (c.Number None (n 9 1)); semicolon = 10 } ∷ []);
      types = [];
      variables = t.NoSections;
      declarations =
          (record {
            heading = record { at = 11; name = (i 12 (codes "q")); formals = h.NoFormals; kind = kind.Procedure };
            semicolon = 13;
            body = body.Block;
          }
          ∷ []);
      statements = tree.Compound 15 (s.Sequence (s.Call (i 16 (codes "q")) e.NoActuals) s.NoStatements) 17;
      tokens = 19;
    })
    (tree.Beside
    (tree.TreeOf
    (record {
      program = None;
      labels = [];
      constants =
          (record { name = (i 1 (codes "d")); value = (c.Name None (i 3 (codes "c"))); semicolon = 4 }
          ∷ record { name = (i 5 (codes "c")); value = (c.Number None (n 7 2)); semicolon = 8 }
          ∷ []);
      types = [];
      variables = t.NoSections;
      declarations = [];
      statements =
          tree.Compound 9 (s.Sequence (s.Call (i 10 (codes "writeln")) (e.Actual (e.Access (i 12 (codes "d")) e.NoSelectors) e.NoActuals)) s.NoStatements) 14;
      tokens = 15;
    })
    tree.NoTrees)
    tree.NoTrees))

--     program p(output);
--     var x: integer;
--     procedure a;
--     procedure b;
--     begin x := 1 end;
--     begin b end;
--     begin x := 0; a; writeln(x) end.
abbrev pub nested_blocks : PlainTree
nested_blocks =
    (tree.TreeOf
    (record {
      program = (Some (record { name = (i 1 (codes "p")); parameters = ((i 3 (codes "output")) ∷ []) }));
      labels = [];
      constants = [];
      types = [];
      variables = (t.Section ((i 7 (codes "x")) ∷ []) (t.Named (i 9 (codes "integer"))) t.NoSections);
      declarations =
          (record {
            heading = record { at = 11; name = (i 12 (codes "a")); formals = h.NoFormals; kind = kind.Procedure };
            semicolon = 13;
            body = body.Block;
          }
          ∷ []);
      statements =
          tree.Compound 15 (s.Sequence
          (s.Assign (record { name = (i 16 (codes "x")); selectors = e.NoSelectors }) 17 (e.Number (n 18 0)))
          (s.Sequence
          (s.Call (i 20 (codes "a")) e.NoActuals)
          (s.Sequence (s.Call (i 22 (codes "writeln")) (e.Actual (e.Access (i 24 (codes "x")) e.NoSelectors) e.NoActuals)) s.NoStatements))) 26;
      tokens = 28;
    })
    (tree.Beside
    (tree.TreeOf
    (record {
      program = None;
      labels = [];
      constants = [];
      types = [];
      variables = t.NoSections;
      declarations =
          (record {
            heading = record { at = 0; name = (i 1 (codes "b")); formals = h.NoFormals; kind = kind.Procedure };
            semicolon = 2;
            body = body.Block;
          }
          ∷ []);
      statements = tree.Compound 4 (s.Sequence (s.Call (i 5 (codes "b")) e.NoActuals) s.NoStatements) 6;
      tokens = 7;
    })
    (tree.Beside
    (tree.TreeOf
    (record {
      program = None;
      labels = [];
      constants = [];
      types = [];
      variables = t.NoSections;
      declarations = [];
      statements =
          tree.Compound 0 (s.Sequence (s.Assign (record { name = (i 1 (codes "x")); selectors = e.NoSelectors }) 2 (e.Number (n 3 1))) s.NoStatements) 4;
      tokens = 5;
    })
    tree.NoTrees)
    tree.NoTrees))
    tree.NoTrees))

--     program p(output);
--     var x: integer;
--     procedure a;
--     var x: Boolean;
--     procedure b;
--     begin x := 1 end;
--     begin b end;
--     begin x := 0; a; writeln(x) end.
abbrev pub hidden_variable : PlainTree
hidden_variable =
    (tree.TreeOf
    (record {
      program = (Some (record { name = (i 1 (codes "p")); parameters = ((i 3 (codes "output")) ∷ []) }));
      labels = [];
      constants = [];
      types = [];
      variables = (t.Section ((i 7 (codes "x")) ∷ []) (t.Named (i 9 (codes "integer"))) t.NoSections);
      declarations =
          (record {
            heading = record { at = 11; name = (i 12 (codes "a")); formals = h.NoFormals; kind = kind.Procedure };
            semicolon = 13;
            body = body.Block;
          }
          ∷ []);
      statements =
          tree.Compound 15 (s.Sequence
          (s.Assign (record { name = (i 16 (codes "x")); selectors = e.NoSelectors }) 17 (e.Number (n 18 0)))
          (s.Sequence
          (s.Call (i 20 (codes "a")) e.NoActuals)
          (s.Sequence (s.Call (i 22 (codes "writeln")) (e.Actual (e.Access (i 24 (codes "x")) e.NoSelectors) e.NoActuals)) s.NoStatements))) 26;
      tokens = 28;
    })
    (tree.Beside
    (tree.TreeOf
    (record {
      program = None;
      labels = [];
      constants = [];
      types = [];
      variables = (t.Section ((i 1 (codes "x")) ∷ []) (t.Named (i 3 (codes "boolean"))) t.NoSections);
      declarations =
          (record {
            heading = record { at = 5; name = (i 6 (codes "b")); formals = h.NoFormals; kind = kind.Procedure };
            semicolon = 7;
            body = body.Block;
          }
          ∷ []);
      statements = tree.Compound 9 (s.Sequence (s.Call (i 10 (codes "b")) e.NoActuals) s.NoStatements) 11;
      tokens = 12;
    })
    (tree.Beside
    (tree.TreeOf
    (record {
      program = None;
      labels = [];
      constants = [];
      types = [];
      variables = t.NoSections;
      declarations = [];
      statements =
          tree.Compound 0 (s.Sequence (s.Assign (record { name = (i 1 (codes "x")); selectors = e.NoSelectors }) 2 (e.Number (n 3 1))) s.NoStatements) 4;
      tokens = 5;
    })
    tree.NoTrees)
    tree.NoTrees))
    tree.NoTrees))

--     program p(output);
--     type r = record b: integer end;
--     var v: r;
--     procedure a;
--     procedure c;
--     begin v.b := 7 end;
--     begin c end;
--     begin a; writeln(v.b:2) end.
abbrev pub field_of_an_outer_variable : PlainTree
field_of_an_outer_variable =
    (tree.TreeOf
    (record {
      program = (Some (record { name = (i 1 (codes "p")); parameters = ((i 3 (codes "output")) ∷ []) }));
      labels = [];
      constants = [];
      types =
          (record {
            name = (i 7 (codes "r"));
            of = (t.Record 9 false (t.Fields (t.Section ((i 10 (codes "b")) ∷ []) (t.Named (i 12 (codes "integer"))) t.NoSections)));
            semicolon = 14;
          }
          ∷ []);
      variables = (t.Section ((i 16 (codes "v")) ∷ []) (t.Named (i 18 (codes "r"))) t.NoSections);
      declarations =
          (record {
            heading = record { at = 20; name = (i 21 (codes "a")); formals = h.NoFormals; kind = kind.Procedure };
            semicolon = 22;
            body = body.Block;
          }
          ∷ []);
      statements =
          tree.Compound 24 (s.Sequence
          (s.Call (i 25 (codes "a")) e.NoActuals)
          (s.Sequence
          (s.Call
          (i 27 (codes "writeln"))
          (e.ActualWithWidth
          (e.Access (i 29 (codes "v")) (e.Field 30 (i 31 (codes "b")) e.NoSelectors))
          32
          (e.Number (n 33 2))
          e.NoActuals))
          s.NoStatements)) 35;
      tokens = 37;
    })
    (tree.Beside
    (tree.TreeOf
    (record {
      program = None;
      labels = [];
      constants = [];
      types = [];
      variables = t.NoSections;
      declarations =
          (record {
            heading = record { at = 0; name = (i 1 (codes "c")); formals = h.NoFormals; kind = kind.Procedure };
            semicolon = 2;
            body = body.Block;
          }
          ∷ []);
      statements = tree.Compound 4 (s.Sequence (s.Call (i 5 (codes "c")) e.NoActuals) s.NoStatements) 6;
      tokens = 7;
    })
    (tree.Beside
    (tree.TreeOf
    (record {
      program = None;
      labels = [];
      constants = [];
      types = [];
      variables = t.NoSections;
      declarations = [];
      statements =
          tree.Compound 0 (s.Sequence
          (s.Assign
          (record { name = (i 1 (codes "v")); selectors = (e.Field 2 (i 3 (codes "b")) e.NoSelectors) })
          4
          (e.Number (n 5 7)))
          s.NoStatements) 6;
      tokens = 7;
    })
    tree.NoTrees)
    tree.NoTrees))
    tree.NoTrees))

--     program p;
--     type t = 5..1; u = set of integer;
--     var a, a: t; b: w;
--     begin end.
abbrev pub errors_of_declarations : PlainTree
errors_of_declarations =
    (tree.TreeOf
    (record {
      program = (Some (record { name = (i 1 (codes "p")); parameters = [] }));
      labels = [];
      constants = [];
      types =
          (record { name = (i 4 (codes "t")); of = (t.Subrange (c.Number None (n 6 5)) (c.Number None (n 8 1))); semicolon = 9 }
          ∷ record { name = (i 10 (codes "u")); of = (t.Set 12 false (t.Named (i 14 (codes "integer")))); semicolon = 15 }
          ∷ []);
      variables =
          (t.Section
          ((i 17 (codes "a")) ∷ (i 19 (codes "a")) ∷ [])
          (t.Named (i 21 (codes "t")))
          (t.Section ((i 23 (codes "b")) ∷ []) (t.Named (i 25 (codes "w"))) t.NoSections));
      declarations = [];
      statements = tree.Compound 27 (s.Sequence (s.Empty 28) s.NoStatements) 28;
      tokens = 30;
    })
    tree.NoTrees)

--     program p;
--     label 1;
--     var i: integer;
--     begin for i := 1 to 3 do begin i := 2; 1: end;
--     goto 1; if i then end.
abbrev pub errors_of_statements : PlainTree
errors_of_statements =
    (tree.TreeOf
    (record {
      program = (Some (record { name = (i 1 (codes "p")); parameters = [] }));
      labels = ((n 4 1) ∷ []);
      constants = [];
      types = [];
      variables = (t.Section ((i 7 (codes "i")) ∷ []) (t.Named (i 9 (codes "integer"))) t.NoSections);
      declarations = [];
      statements =
          tree.Compound 11 (s.Sequence
          (s.For 12
          (record {
            variable = (i 13 (codes "i"));
            assign = 14;
            first = (e.Number (n 15 1));
            direction = direction.To;
            last = (e.Number (n 17 3));
          })
          (s.Compound 19
          (s.Sequence
          (s.Assign (record { name = (i 20 (codes "i")); selectors = e.NoSelectors }) 21 (e.Number (n 22 2)))
          (s.Sequence (s.Labelled (n 24 1) (s.Empty 26)) s.NoStatements))))
          (s.Sequence (s.Goto 28 (n 29 1)) (s.Sequence (s.If 31 (e.Access (i 32 (codes "i")) e.NoSelectors) (s.Empty 34)) s.NoStatements))) 34;
      tokens = 36;
    })
    tree.NoTrees)
