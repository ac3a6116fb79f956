-- Required procedures, jumps, statements and runs.
use Rattle.std.proofs.Common.{◌≡◌, ℕ, zero, suc, ◌+◌, List, [], ◌∷◌, ◌++◌, Option, Some, None, Bool, true, false, refl, sym, ap, subst, eqb-true, arith}
use Rattle.std.specs.Prelude.{nat_eq, nat_le, length, ℤ, is_none}
use Rattle.mp_base.specs.declared.limits.TheConstants.{CELL_LIMIT}
use Rattle.mp_tables.specs.declared.typed_statements.ReadSort.{ReadSort}
use Rattle.mp_tables.specs.declared.typed_statements.ReadSort.TheVariants as reads
use Rattle.mp_tables.specs.declared.typed_statements.WriteSort.{WriteSort}
use Rattle.mp_tables.specs.declared.typed_statements.WriteSort.TheVariants as writes
use Rattle.mp_tables.specs.declared.typed_statements.FileProcedure.{FileProcedure}
use Rattle.mp_tables.specs.declared.typed_statements.FileProcedure.TheVariants as procedure
use Rattle.mp_tables.specs.PlainTypedExpressions.{PlainTypedExpr, PlainTypedAccess}
use Rattle.mp_tables.specs.PlainTypedStatements.{PlainTypedBlock, PlainTypedStatement, PlainTypedStatements, PlainTypedArms, PlainTypedFor, PlainReading, PlainWriting, PlainPacking, PlainRequiredCall}
use Rattle.mp_tables.specs.PlainTypedStatements as tree
use Rattle.mp_meaning.specs.Numbers.{maxint, least_integer, lies_in, natural, same_number, one_of}
use Rattle.mp_files.specs.declared.causes.FileEnd.{FileEnd}
use Rattle.mp_files.specs.declared.causes.FileEnd.TheVariants as end
use Rattle.mp_files.specs.WrittenFields.{integer_field, character_field, truth_field, width_refusal, width_of}
use Rattle.mp_meaning.specs.Forms.{Form, cells_of}
use Rattle.mp_meaning.specs.Values.{Values, Structure, undefined, is_scalar, Reference, Value, Undefined, Number, Pointer, is_structure, string_in}
use Rattle.mp_meaning.specs.Programs.{Program, block_of, from_label, leads_into}
use Rattle.mp_meaning.specs.Configurations.{Root, Configuration, newest, live_cells, find_activation}
use Rattle.mp_meaning.specs.Outcomes.{Outcome, Done, Jump, Fault, Limit, Hole, Paused, Spent, Wrong, Command}
use Rattle.mp_meaning.specs.Names.{Path}
use Rattle.mp_meaning.specs.Calls.{Self, Task, Body, WhileTurn, RepeatTurn, ForTurn, Again, leave_procedure}
use Rattle.mp_meaning.specs.RequiredProcedures.{on_file_procedure, default_width, must_be_width, defined_string, field, take_value, with_object, make, disposed, dispose, must_hold_all, set_array, pack, unpack, read_all, eval_width, write_one, write_all, required}
use Rattle.mp_meaning.specs.Jumps.{jump, jump_out, go_to, go_on, caught, catch, alone}
use Rattle.mp_meaning.specs.StatementKinds.{within, after, test, while_turn, repeat_turn, for_turn, for_statement, open_all}
use Rattle.mp_meaning.specs.Statements.{exec, exec_all, exec_arm, exec_sequence, exec_block, exec_task, run}
use Rattle.mp_meaning.specs.Operators.{is_true}
use Rattle.mp_meaning.proofs.GrowthValues.{Grown, grown_itself}
use Rattle.mp_meaning.proofs.SteadyOutcomes.{Upright, Further, Goes, further_itself, tags_further, with_more, Onward, So, onward_still, Steady, bind_steady, then_steady, gives_steady, skip_steady, now_steady, fault_steady, limit_steady, wrong_steady, needs_steady, update_steady, choose_at, choose_steady, unless_steady, begin_steady}
use Rattle.mp_meaning.proofs.SteadyVariables.{not_zero, number_steady, pointer_steady, held_steady, set_at, set_steady, fits_then, assign_steady, object_steady, write_bytes_steady, write_line_steady, page_steady, put_steady, get_steady, read_line_steady, read_character_steady, read_integer_steady, reset_steady, rewrite_steady}
use Rattle.mp_meaning.proofs.SteadyExpressions.{in_order_wider, output_ended, until_goes, until_more, SelfSteady, activation_steady, block_steady, variable_steady, routine_steady, left_steady, call_steady, eval_steady, actuals_steady, form_steady, eval_number_steady}

-- ---- objects

-- an object more has a number of its own
object_goes : (f : Form) (c : Configuration) → Upright c → Goes c (with_object f c)
object_goes f c up =
    let further : Further c (with_object f c) = record { next = omega arith; output = by (nat_eq 0 c.next) refl } in (
      record {
        in_order = in_order_wider c.next (c.next + 1) c.activations (omega arith) up.in_order;
        some = omega arith;
        left = up.left;
        tags =
            tags_further c (with_object f c) further up.tags;
      },
      further,
    )
  where
    by : (b : Bool) → nat_eq 0 c.next ≡ b → Grown (c.roots 0).value (elim b as (λ is. Root) [ true ↦ record { value = undefined f; live = true } | false ↦ c.roots 0 ]).value
    by true e = absurd (let same : 0 ≡ c.next = eqb-true 0 c.next e in let some = up.some in let f : ⊥ = omega (arith, same, some) in f)
    by false e = grown_itself (c.roots 0).value

-- the value of an object that is disposed of stays
disposed_goes : (o : Reference) (c : Configuration) → Upright c → Goes c (disposed o c)
disposed_goes o c up =
    let further : Further c (disposed o c) = record { next = omega arith; output = output_ended c.roots o.root } in
    (record { in_order = up.in_order; some = up.some; left = up.left; tags = tags_further c (disposed o c) further up.tags }, further)

module _ {closed : Path → Bool} where
  -- ---- required procedures

  file_procedure_steady : (at : ℕ) (f : FileProcedure) (r : Reference) → Steady closed (on_file_procedure at f r)
  file_procedure_steady at procedure.Reset r = reset_steady at r
  file_procedure_steady at procedure.Rewrite r = rewrite_steady at r
  file_procedure_steady at procedure.Get r = get_steady at r
  file_procedure_steady at procedure.Put r = put_steady at r
  file_procedure_steady at procedure.Page r = page_steady at r

  string_steady : (at : ℕ) (bytes : Option (List ℕ)) → Steady closed (defined_string at bytes)
  string_steady at None = fault_steady at 9
  string_steady at (Some bytes) = gives_steady bytes

  be_width_steady : (at : ℕ) (o : Option FileEnd) → Steady closed (must_be_width at o)
  be_width_steady at None = skip_steady
  be_width_steady at (Some (end.Fault number)) = fault_steady at number
  be_width_steady at (Some (end.Limit number)) = limit_steady at number
  be_width_steady at (Some end.Memory) = wrong_steady

  field_steady : (at : ℕ) (of : WriteSort) (v : Value) → Steady closed (field at of v)
  field_steady at writes.Integer v = bind_steady (number_steady v) (λ n. gives_steady (λ width. integer_field width n))
  field_steady at writes.Char v = bind_steady (number_steady v) (λ n. gives_steady (λ width. character_field width (natural n ∷ [])))
  field_steady at writes.Boolean v = bind_steady (number_steady v) (λ n. gives_steady (λ width. truth_field width (is_true n)))
  field_steady at (writes.Text count) v =
      then_steady (unless_steady (is_structure v) wrong_steady) (bind_steady (string_steady at (string_in v)) (λ bytes. gives_steady (λ width. character_field width bytes)))

  take_steady : (at : ℕ) (of : ReadSort) (file : Reference) → Steady closed (take_value at of file)
  take_steady at reads.Integer file = read_integer_steady at file
  take_steady at reads.Char file = read_character_steady at file

  make_steady : (at : ℕ) (f : Form) (cells : ℕ) (r : Reference) → Steady closed (make at f cells r)
  make_steady at f cells r =
      bind_steady (held_steady at r) (λ old. then_steady (unless_steady (is_scalar old) wrong_steady) (now_steady (λ more c. refl) (λ c.
      then_steady (unless_steady (nat_le (live_cells c + cells) CELL_LIMIT) (limit_steady at 2))
      (then_steady (unless_steady (nat_eq (cells_of f) cells) wrong_steady)
      (then_steady (update_steady (with_object f) (λ more c. refl) (λ c up. object_goes f c up)) (set_steady at r (Pointer (suc (length c.objects))) refl))))))

  dispose_steady : (at object : ℕ) → Steady closed (dispose at object)
  dispose_steady at object = bind_steady (object_steady at object)
      (λ o. now_steady (λ more c. refl) (λ c. then_steady (unless_steady (is_none (find_activation c.activations o.root)) wrong_steady)
      (update_steady (disposed o) (λ more c. refl) (λ c up. disposed_goes o c up))))

  hold_all_steady : (at : ℕ) (q : PlainPacking) (i : ℤ) → Steady closed (must_hold_all at q i)
  hold_all_steady at q i = unless_steady _ (fault_steady at 4)

  set_array_steady : (at : ℕ) (r : Reference) (vs : Values) → Steady closed (set_array at r vs)
  set_array_steady at r vs =
      record {
        by = λ c. choose_at (nat_eq r.root 0) c (λ standard. wrong_steady.by c)
            (λ own. set_at at r (Structure vs) c (λ old e standard form. absurd (let f : ⊥ = not_zero r.root own standard in f)));
      }

  pack_steady : (at : ℕ) (q : PlainPacking) (a z : Reference) (i : ℤ) → Steady closed (pack at q a z i)
  pack_steady at q a z i = then_steady (hold_all_steady at q i) (bind_steady (held_steady at a) (λ v. set_array_steady at z _))

  unpack_steady : (at : ℕ) (q : PlainPacking) (a z : Reference) (i : ℤ) → Steady closed (unpack at q a z i)
  unpack_steady at q a z i = then_steady (hold_all_steady at q i) (bind_steady (held_steady at z) (λ v. bind_steady (held_steady at a) (λ old. set_array_steady at a _)))

  -- ---- jumps

  jump_steady : (l number : ℕ) → Steady closed (jump l number)
  jump_steady l number = record { by = λ c. record { onward = λ up. record { by = (up, further_itself c) }; so = λ more up. record { by = refl } } }

  jump_out_steady : (l number : ℕ) → Steady closed (jump_out l number)
  jump_out_steady l number = record {
    by = λ c. record {
      onward = λ up. record { by = until_goes number c.activations c refl up };
      so = λ more up. record { by = ap (Jump l number) (until_more number c.activations more c) };
    };
  }

  go_to_steady : (p : Program) (d l : ℕ) → Steady closed (go_to p d l)
  go_to_steady p d l = now_steady (λ more c. refl) (λ c. bind_steady (activation_steady d) (λ number.
      choose_steady (nat_eq number (newest c.activations)) (jump_steady l number) (bind_steady (block_steady p number) (λ block.
      choose_steady (leads_into p block.path l) (jump_out_steady l number) wrong_steady))))

module _ (p : Program) (self : Self) (good : SelfSteady p self) where
  module _ (opened : List Reference) (at : ℕ) where
    read_all_steady : (file : Reference) (readings : List PlainReading) → Steady p.is_closed (read_all p self opened at file readings)
    read_all_steady file [] = skip_steady
    read_all_steady file (r ∷ more) =
        bind_steady (form_steady p self good opened at true r.target.access) (λ target.
        bind_steady (take_steady at r.of file) (λ v.
        fits_then at r.target.check v (λ plain. then_steady (assign_steady at r.target.tagging target v plain) (read_all_steady file more))))

    width_steady : (of : WriteSort) (width : Option PlainTypedExpr) → Steady p.is_closed (eval_width p self opened at of width)
    width_steady of None = gives_steady (default_width of)
    width_steady of (Some e) = eval_number_steady p self good opened at e

    write_one_steady : (file : Reference) (w : PlainWriting) → Steady p.is_closed (write_one p self opened at file w)
    write_one_steady file w =
        bind_steady (eval_steady p self good opened at w.value) (λ v. bind_steady (width_steady w.of w.width) (λ width.
        bind_steady (field_steady at w.of v) (λ bytes.
        then_steady (be_width_steady at (width_refusal width)) (write_bytes_steady at file (bytes (width_of width))))))

    write_all_steady : (file : Reference) (writings : List PlainWriting) → Steady p.is_closed (write_all p self opened at file writings)
    write_all_steady file [] = skip_steady
    write_all_steady file (w ∷ more) = then_steady (write_one_steady file w) (write_all_steady file more)

    required_steady : (call : PlainRequiredCall) → Steady p.is_closed (required p self opened at call)
    required_steady (tree.File f access) = bind_steady (form_steady p self good opened at false access) (λ file. file_procedure_steady at f file)
    required_steady (tree.Read line access readings) =
        bind_steady (form_steady p self good opened at false access) (λ file.
        then_steady (read_all_steady file readings) (choose_steady line (read_line_steady at file) skip_steady))
    required_steady (tree.Write line access writings) =
        bind_steady (form_steady p self good opened at false access) (λ file.
        then_steady (write_all_steady file writings) (choose_steady line (write_line_steady at file) skip_steady))
    required_steady (tree.New access domain cells) =
        bind_steady (form_steady p self good opened at false access) (λ r. make_steady at (p.form domain) cells r)
    required_steady (tree.Dispose e) =
        bind_steady (eval_steady p self good opened at e) (λ v. bind_steady (pointer_steady v) (λ i. dispose_steady at i))
    required_steady (tree.Pack q) =
        bind_steady (form_steady p self good opened at false q.unpacked) (λ a. bind_steady (eval_number_steady p self good opened at q.index) (λ i.
        bind_steady (form_steady p self good opened at false q.packed) (λ z. pack_steady at q a z i)))
    required_steady (tree.Unpack q) =
        bind_steady (form_steady p self good opened at false q.packed) (λ z. bind_steady (form_steady p self good opened at false q.unpacked) (λ a.
        bind_steady (eval_number_steady p self good opened at q.index) (λ i. unpack_steady at q a z i)))

  -- ---- catching jumps

  caught_onward : (opened : List Reference) (number : ℕ) (whole : PlainTypedStatements) (c : Configuration) (o : Outcome (Unit {0})) → Onward p.is_closed c o →
      Onward p.is_closed c (caught self opened number whole o)
  caught_onward opened number whole c (Jump l r d) g = by_test (nat_eq number r)
    where
      found : (t : Option PlainTypedStatements) → Onward p.is_closed c (go_on self opened whole t (Jump l r d) d)
      found None = g
      found (Some rest) = let h = g.by in onward_still c d _ h.1 (((good.by (Again whole rest opened)).by d).onward h.0)

      by_test : (b : Bool) → Onward p.is_closed c (elim b as (λ is. Outcome (Unit {0}))
          [ true ↦ go_on self opened whole (from_label l whole) (Jump l r d) d | false ↦ Jump l r d ])
      by_test true = found (from_label l whole)
      by_test false = g
  caught_onward opened number whole c (Done v d) g = g
  caught_onward opened number whole c (Fault x at d) g = g
  caught_onward opened number whole c (Limit x at d) g = g
  caught_onward opened number whole c (Hole path at d) g = g
  caught_onward opened number whole c (Paused d) g = g
  caught_onward opened number whole c Spent g = g
  caught_onward opened number whole c Wrong g = g

  caught_so : (opened : List Reference) (number more : ℕ) (whole : PlainTypedStatements) (c : Configuration) (o q : Outcome (Unit {0})) → Onward p.is_closed c o →
      So p.is_closed more o q → So p.is_closed more (caught self opened number whole o) (caught self opened number whole q)
  caught_so opened number more whole c (Jump l r d) q g s =
      subst (λ x. So p.is_closed more (caught self opened number whole (Jump l r d)) (caught self opened number whole x)) (sym s.by) (by_test (nat_eq number r))
    where
      found : (t : Option PlainTypedStatements) → So p.is_closed more (go_on self opened whole t (Jump l r d) d)
          (go_on self opened whole t (Jump l r (with_more more d)) (with_more more d))
      found None = record { by = refl }
      found (Some rest) = let h = g.by in ((good.by (Again whole rest opened)).by d).so more h.0

      by_test : (b : Bool) → So p.is_closed more (elim b as (λ is. Outcome (Unit {0}))
          [ true ↦ go_on self opened whole (from_label l whole) (Jump l r d) d | false ↦ Jump l r d ])
          (elim b as (λ is. Outcome (Unit {0})) [
            | true ↦ go_on self opened whole (from_label l whole) (Jump l r (with_more more d)) (with_more more d)
            | false ↦
                Jump l r (with_more more d)
          ])
      by_test true = found (from_label l whole)
      by_test false = record { by = refl }
  caught_so opened number more whole c (Done v d) q g s = record { by = ap (caught self opened number whole) s.by }
  caught_so opened number more whole c (Fault x at d) q g s = record { by = ap (caught self opened number whole) s.by }
  caught_so opened number more whole c (Limit x at d) q g s = record { by = ap (caught self opened number whole) s.by }
  caught_so opened number more whole c (Hole path at d) q g s = record { by = ap (caught self opened number whole) s.by }
  caught_so opened number more whole c (Paused d) q g s = record { by = caught_onward opened number whole d q s.by }
  caught_so opened number more whole c Spent q g s = record { by = tt }
  caught_so opened number more whole c Wrong q g s = record { by = ap (caught self opened number whole) s.by }

  catch_steady : (opened : List Reference) (whole : PlainTypedStatements) (m : Command) → Steady p.is_closed m → Steady p.is_closed (catch self opened whole m)
  catch_steady opened whole m f = record {
    by = λ c. record {
      onward = λ up. caught_onward opened (newest c.activations) whole c (m c) ((f.by c).onward up);
      so = λ more up. caught_so opened (newest c.activations) more whole c (m c) (m (with_more more c)) ((f.by c).onward up) ((f.by c).so more up);
    };
  }

  -- ---- loops

  module _ (opened : List Reference) where
    test_steady : (at : ℕ) (e : PlainTypedExpr) → Steady p.is_closed (test p self opened at e)
    test_steady at e = bind_steady (eval_number_steady p self good opened at e) (λ n. gives_steady (is_true n))

    while_next : (at : ℕ) (e : PlainTypedExpr) (s : PlainTypedStatement) → Steady p.is_closed (λ c. self (WhileTurn at e s opened) c)
    while_next at e s = record { by = λ c. (good.by (WhileTurn at e s opened)).by c }

    while_steady : (at : ℕ) (e : PlainTypedExpr) (s : PlainTypedStatement) (body : Command) → Steady p.is_closed body → Steady p.is_closed (while_turn p self opened at e s body)
    while_steady at e s body f = bind_steady (test_steady at e) (λ b. choose_steady b (then_steady f (while_next at e s)) skip_steady)

    repeat_next : (at : ℕ) (ss : PlainTypedStatements) (e : PlainTypedExpr) → Steady p.is_closed (λ c. self (RepeatTurn at ss e opened) c)
    repeat_next at ss e = record { by = λ c. (good.by (RepeatTurn at ss e opened)).by c }

    repeat_steady : (at : ℕ) (s : PlainTypedStatement) (more : PlainTypedStatements) (e : PlainTypedExpr) (body : Command) → Steady p.is_closed body →
        Steady p.is_closed (repeat_turn p self opened at (tree.Sequence s more) e body)
    repeat_steady at s more e body f =
        then_steady f (bind_steady ((test_steady at e)) (λ b. choose_steady b skip_steady (repeat_next at (tree.Sequence s more) e)))

    for_next : (at : ℕ) (head : PlainTypedFor) (variable : Reference) (value last : ℤ) (s : PlainTypedStatement) →
        Steady p.is_closed (λ c. self (ForTurn at head variable value last s opened) c)
    for_next at head variable value last s = record { by = λ c. (good.by (ForTurn at head variable value last s opened)).by c }

    for_turn_steady : (at : ℕ) (head : PlainTypedFor) (variable : Reference) (value last : ℤ) (s : PlainTypedStatement) (body : Command) → Steady p.is_closed body →
        Steady p.is_closed (for_turn p self opened at head variable value last s body)
    for_turn_steady at head variable value last s body f =
        then_steady (set_steady at variable (Number value) refl) (then_steady f
        (choose_steady (same_number value last) (set_steady at variable Undefined refl)
        (then_steady (unless_steady (lies_in least_integer maxint (after head.direction value)) wrong_steady)
        (for_next at head variable (after head.direction value) last s))))

    for_steady : (at : ℕ) (head : PlainTypedFor) (s : PlainTypedStatement) (body : Command) → Steady p.is_closed body →
        Steady p.is_closed (for_statement p self opened at head s body)
    for_steady at head s body f =
        then_steady (begin_steady at) (bind_steady (eval_number_steady p self good opened at head.first) (λ value.
        bind_steady (eval_number_steady p self good opened at head.last) (λ last.
        bind_steady (variable_steady p head.variable) (λ variable.
        choose_steady (within head.direction value last)
        (then_steady (unless_steady (lies_in head.low head.high value) (fault_steady at 3))
        (then_steady (unless_steady (lies_in head.low head.high last) (fault_steady at 3))
        (for_turn_steady at head variable value last s body f)))
        (set_steady at variable Undefined refl)))))

  open_all_steady : (at : ℕ) (opened : List Reference) (records : List PlainTypedAccess) → Steady p.is_closed (open_all p self at opened records)
  open_all_steady at opened [] = gives_steady opened
  open_all_steady at opened (a ∷ more) = bind_steady (form_steady p self good opened at false a) (λ r. open_all_steady at (opened ++ r ∷ []) more)

  -- ---- statements

  mutual
    exec_steady : (opened : List Reference) (s : PlainTypedStatement) → Steady p.is_closed (exec p self opened s)
    exec_steady opened (tree.Labelled l s) = catch_steady opened (alone (tree.Labelled l s)) (exec p self opened s) (exec_steady opened s)
    exec_steady opened (tree.Empty at) = begin_steady at
    exec_steady opened (tree.Assign at target e) =
        then_steady (begin_steady at) (bind_steady (form_steady p self good opened at true target.access) (λ r.
        bind_steady (eval_steady p self good opened at e) (λ v.
        fits_then at target.check v (λ plain. assign_steady at target.tagging r v plain))))
    exec_steady opened (tree.Call at called) =
        then_steady (begin_steady at) (bind_steady (routine_steady p at called.callee) (λ f.
        bind_steady (actuals_steady p self good opened at called.actuals) (λ vs.
        call_steady p self good at f vs leave_procedure (λ block number. left_steady block number))))
    exec_steady opened (tree.Required at called) = then_steady (begin_steady at) (required_steady opened at called)
    exec_steady opened (tree.Goto at d l) = then_steady (begin_steady at) (go_to_steady p d l)
    exec_steady opened (tree.Compound at ss) =
        then_steady (begin_steady at) (catch_steady opened ss (exec_all p self opened ss) (exec_all_steady opened ss))
    exec_steady opened (tree.If at e s) =
        then_steady (begin_steady at) (bind_steady (test_steady opened at e) (λ b. choose_steady b ((exec_steady opened s)) skip_steady))
    exec_steady opened (tree.IfElse at e s t) =
        then_steady (begin_steady at) (bind_steady (test_steady opened at e) (λ b. choose_steady b ((exec_steady opened s)) ((exec_steady opened t))))
    exec_steady opened (tree.Case at e arms) =
        then_steady (begin_steady at) (bind_steady (eval_number_steady p self good opened at e) (λ n. exec_arm_steady opened at n arms))
    exec_steady opened (tree.While at e s) =
        then_steady (begin_steady at) (while_steady opened at e s (exec p self opened s) (exec_steady opened s))
    exec_steady opened (tree.Repeat at tree.NoStatements e) = then_steady (begin_steady at) wrong_steady
    exec_steady opened (tree.Repeat at (tree.Sequence s more) e) =
        then_steady (begin_steady at) (repeat_steady opened at s more e (exec_sequence p self opened (tree.Sequence s more))
        (catch_steady opened (tree.Sequence s more) (exec_all p self opened (tree.Sequence s more)) (then_steady (exec_steady opened s) (exec_all_steady opened more))))
    exec_steady opened (tree.For at head s) = for_steady opened at head s (exec p self opened s) (exec_steady opened s)
    exec_steady opened (tree.With at count records s) =
        then_steady (begin_steady at) (bind_steady (open_all_steady at opened records) (λ wider. (exec_steady wider s)))
    exec_steady opened (tree.Wrong at) = wrong_steady

    exec_all_steady : (opened : List Reference) (ss : PlainTypedStatements) → Steady p.is_closed (exec_all p self opened ss)
    exec_all_steady opened tree.NoStatements = skip_steady
    exec_all_steady opened (tree.Sequence s more) = then_steady ((exec_steady opened s)) (exec_all_steady opened more)

    exec_arm_steady : (opened : List Reference) (at : ℕ) (n : ℤ) (arms : PlainTypedArms) → Steady p.is_closed (exec_arm p self opened at n arms)
    exec_arm_steady opened at n tree.NoArms = fault_steady at 5
    exec_arm_steady opened at n (tree.Arm constants s more) =
        choose_steady (one_of n constants) ((exec_steady opened s)) (exec_arm_steady opened at n more)

  part_steady : (b : PlainTypedBlock) → Steady p.is_closed (exec_block p self b)
  part_steady b = then_steady (begin_steady b.begin) (catch_steady [] b.statements (exec_all p self [] b.statements) (exec_all_steady [] b.statements))

  task_steady : (t : Task) → Steady p.is_closed (exec_task p self t)
  task_steady (Body path) = bind_steady (needs_steady (block_of p path)) (λ b. part_steady b)
  task_steady (WhileTurn at e s opened) = while_steady opened at e s (exec p self opened s) (exec_steady opened s)
  task_steady (RepeatTurn at tree.NoStatements e opened) = wrong_steady
  task_steady (RepeatTurn at (tree.Sequence s more) e opened) =
      repeat_steady opened at s more e (exec_sequence p self opened (tree.Sequence s more))
      (catch_steady opened (tree.Sequence s more) (exec_all p self opened (tree.Sequence s more)) (exec_all_steady opened (tree.Sequence s more)))
  task_steady (ForTurn at head variable value last s opened) = for_turn_steady opened at head variable value last s (exec p self opened s) (exec_steady opened s)
  task_steady (Again whole rest opened) = catch_steady opened whole (exec_all p self opened rest) (exec_all_steady opened rest)

pub run_steady : (p : Program) (k : ℕ) → SelfSteady p (run p k)
run_steady p zero = record { by = λ t. record { by = λ c. record { onward = λ up. record { by = tt }; so = λ more up. record { by = tt } } } }
run_steady p (suc k) = record { by = λ t. record { by = λ c. let h = (task_steady p (run p k) (run_steady p k) t).by c in record { onward = h.onward; so = h.so } } }
