-- Statements and runs in a program, and in the same one with no block closed.
use Rattle.std.proofs.Common.{ℕ, zero, suc, List, [], ◌∷◌, ◌++◌, Option, Some, None, Bool, true, false, ap, subst}
use Rattle.std.specs.Prelude.{nat_eq, ℤ, not, ◌&&◌}
use Rattle.mp_meaning.specs.Laws.{all_open}
use Rattle.mp_meaning.specs.Names.{Path}
use Rattle.mp_files.specs.WrittenFields.{width_refusal, width_of}
use Rattle.mp_tables.specs.declared.typed_statements.WriteSort.{WriteSort}
use Rattle.mp_tables.specs.PlainTypedExpressions.{PlainTypedExpr, PlainTypedAccess}
use Rattle.mp_tables.specs.PlainTypedStatements.{PlainTypedBlock, PlainTypedStatement, PlainTypedStatements, PlainTypedArms, PlainTypedFor, PlainReading, PlainWriting, PlainRequiredCall}
use Rattle.mp_tables.specs.PlainTypedStatements as tree
use Rattle.mp_meaning.specs.Numbers.{maxint, least_integer, lies_in, same_number, one_of}
use Rattle.mp_meaning.specs.Values.{Reference, Number, Undefined}
use Rattle.mp_meaning.specs.Programs.{Program, block_of, from_label, is_found, leads_into}
use Rattle.mp_meaning.specs.Configurations.{newest}
use Rattle.mp_meaning.specs.Outcomes.{now, Outcome, Done, Jump, Fault, Limit, Hole, Paused, Spent, Wrong, Command, ◌>>◌, choose, unless, needs, gives, skip, fault, wrong, begin}
use Rattle.mp_meaning.specs.Variables.{as_pointer, must_fit, assign, set}
use Rattle.mp_meaning.specs.Operators.{is_true}
use Rattle.mp_meaning.specs.Calls.{activation_at, block_in, Self, Task, Body, WhileTurn, RepeatTurn, ForTurn, Again, variable_at, leave_procedure}
use Rattle.mp_meaning.specs.FileCalls.{read_line, write_line, write_bytes}
use Rattle.mp_meaning.specs.RequiredProcedures.{must_be_width, on_file_procedure, field, take_value, make, dispose, pack, unpack, read_all, eval_width, write_one, write_all, required}
use Rattle.mp_meaning.specs.Jumps.{jump, jump_out, go_to, go_on, caught, catch, alone}
use Rattle.mp_meaning.specs.StatementKinds.{within, after, test, while_turn, repeat_turn, for_turn, for_statement, open_all}
use Rattle.mp_meaning.specs.Statements.{exec, exec_all, exec_arm, exec_sequence, exec_task, run}
use Rattle.mp_meaning.proofs.OpenOutcomes.{Follows, Opens, follows_itself, itself, alike, bind_opens, then_opens, choose_opens}
use Rattle.mp_meaning.proofs.OpenExpressions.{routine_opens, SelfOpens, call_opens, eval_opens, actuals_opens, form_opens, eval_number_opens}

module _ (p : Program) (low high : Self) (good : SelfOpens low high) where
  -- ---- required procedures

  module _ (opened : List Reference) (at : ℕ) where
    read_all_opens : (file : Reference) (readings : List PlainReading) → Opens (read_all p low opened at file readings) (read_all (all_open p) high opened at file readings)
    read_all_opens file [] = itself
    read_all_opens file (r ∷ more) =
        bind_opens (form_opens p low high good opened at true r.target.access) (λ target. bind_opens (alike (take_value at r.of file)) (λ v.
        then_opens (alike (must_fit at r.target.check v)) (then_opens (alike (assign at r.target.tagging target v)) (read_all_opens file more))))

    width_opens : (of : WriteSort) (width : Option PlainTypedExpr) → Opens (eval_width p low opened at of width) (eval_width (all_open p) high opened at of width)
    width_opens of None = itself
    width_opens of (Some e) = eval_number_opens p low high good opened at e

    write_one_opens : (file : Reference) (w : PlainWriting) → Opens (write_one p low opened at file w) (write_one (all_open p) high opened at file w)
    write_one_opens file w =
        bind_opens (eval_opens p low high good opened at w.value) (λ v. bind_opens (width_opens w.of w.width) (λ width. bind_opens (alike (field at w.of v)) (λ bytes.
        alike (must_be_width at (width_refusal width) >> write_bytes at file (bytes (width_of width))))))

    write_all_opens : (file : Reference) (writings : List PlainWriting) → Opens (write_all p low opened at file writings) (write_all (all_open p) high opened at file writings)
    write_all_opens file [] = itself
    write_all_opens file (w ∷ more) = then_opens (write_one_opens file w) (write_all_opens file more)

    required_opens : (call : PlainRequiredCall) → Opens (required p low opened at call) (required (all_open p) high opened at call)
    required_opens (tree.File f access) = bind_opens (form_opens p low high good opened at false access) (λ file. alike (on_file_procedure at f file))
    required_opens (tree.Read line access readings) =
        bind_opens (form_opens p low high good opened at false access) (λ file. then_opens (read_all_opens file readings) (alike (choose line (read_line at file) skip)))
    required_opens (tree.Write line access writings) =
        bind_opens (form_opens p low high good opened at false access) (λ file. then_opens (write_all_opens file writings) (alike (choose line (write_line at file) skip)))
    required_opens (tree.New access domain cells) = bind_opens (form_opens p low high good opened at false access) (λ r. alike (make at (p.form domain) cells r))
    required_opens (tree.Dispose e) = bind_opens (eval_opens p low high good opened at e) (λ v. bind_opens (alike (as_pointer v)) (λ i. alike (dispose at i)))
    required_opens (tree.Pack q) =
        bind_opens (form_opens p low high good opened at false q.unpacked) (λ a. bind_opens (eval_number_opens p low high good opened at q.index) (λ i.
        bind_opens (form_opens p low high good opened at false q.packed) (λ z. alike (pack at q a z i))))
    required_opens (tree.Unpack q) =
        bind_opens (form_opens p low high good opened at false q.packed) (λ z. bind_opens (form_opens p low high good opened at false q.unpacked) (λ a.
        bind_opens (eval_number_opens p low high good opened at q.index) (λ i. alike (unpack at q a z i))))

  -- ---- jumps

  leads_opens : (path : Path) (l : ℕ) (m : Command) → Opens (choose (leads_into p path l) m wrong) (choose (leads_into (all_open p) path l) m wrong)
  leads_opens path l m = by_block (block_of p path)
    where
      by_found : (closed found : Bool) → Opens (choose (not closed && found) m wrong) (choose found m wrong)
      by_found true found = record { by = λ c. record { by = tt } }
      by_found false found = itself

      by_block : (o : Option PlainTypedBlock) →
          Opens (choose (elim o as (λ b. Bool) [ None ↦ false | Some b ↦ not (p.is_closed path) && is_found (from_label l b.statements) ]) m wrong)
          (choose (elim o as (λ b. Bool) [ None ↦ false | Some b ↦ not false && is_found (from_label l b.statements) ]) m wrong)
      by_block None = itself
      by_block (Some b) = by_found (p.is_closed path) (is_found (from_label l b.statements))

  go_to_opens : (d l : ℕ) → Opens (go_to p d l) (go_to (all_open p) d l)
  go_to_opens d l = bind_opens (alike now) (λ c. bind_opens (alike (activation_at d)) (λ number.
      choose_opens (nat_eq number (newest c.activations)) (alike (jump l number))
      (bind_opens (alike (block_in p number)) (λ block. leads_opens block.path l (jump_out l number)))))

  -- ---- catching jumps

  caught_follows : (opened : List Reference) (number : ℕ) (whole : PlainTypedStatements) (o q : Outcome (Unit {0})) → Follows o q →
      Follows (caught low opened number whole o) (caught high opened number whole q)
  caught_follows opened number whole (Jump l r c) q g =
      subst (λ x. Follows (caught low opened number whole (Jump l r c)) (caught high opened number whole x)) g.by (by_test (nat_eq number r))
    where
      found : (t : Option PlainTypedStatements) → Follows (go_on low opened whole t (Jump l r c) c) (go_on high opened whole t (Jump l r c) c)
      found None = follows_itself (Jump l r c)
      found (Some rest) = (good.by (Again whole rest opened)).by c

      by_test : (b : Bool) → Follows (elim b as (λ is. Outcome (Unit {0})) [ true ↦ go_on low opened whole (from_label l whole) (Jump l r c) c | false ↦ Jump l r c ])
          (elim b as (λ is. Outcome (Unit {0})) [ true ↦ go_on high opened whole (from_label l whole) (Jump l r c) c | false ↦ Jump l r c ])
      by_test true = found (from_label l whole)
      by_test false = follows_itself (Jump l r c)
  caught_follows opened number whole (Done v c) q g = record { by = ap (λ x. caught high opened number whole x) g.by }
  caught_follows opened number whole (Fault x at c) q g = record { by = ap (λ x. caught high opened number whole x) g.by }
  caught_follows opened number whole (Limit x at c) q g = record { by = ap (λ x. caught high opened number whole x) g.by }
  caught_follows opened number whole (Hole path at c) q g = record { by = tt }
  caught_follows opened number whole (Paused c) q g = record { by = ap (λ x. caught high opened number whole x) g.by }
  caught_follows opened number whole Spent q g = record { by = tt }
  caught_follows opened number whole Wrong q g = record { by = tt }

  catch_opens : (opened : List Reference) (whole : PlainTypedStatements) (m n : Command) → Opens m n → Opens (catch low opened whole m) (catch high opened whole n)
  catch_opens opened whole m n f = record { by = λ c. caught_follows opened (newest c.activations) whole (m c) (n c) (f.by c) }

  -- ---- loops

  module _ (opened : List Reference) where
    test_opens : (at : ℕ) (e : PlainTypedExpr) → Opens (test p low opened at e) (test (all_open p) high opened at e)
    test_opens at e = bind_opens (eval_number_opens p low high good opened at e) (λ n. alike (gives (is_true n)))

    turn_opens : (t : Task) → Opens (λ c. low t c) (λ c. high t c)
    turn_opens t = record { by = λ c. (good.by t).by c }

    while_opens : (at : ℕ) (e : PlainTypedExpr) (s : PlainTypedStatement) (m n : Command) → Opens m n →
        Opens (while_turn p low opened at e s m) (while_turn (all_open p) high opened at e s n)
    while_opens at e s m n f = bind_opens (test_opens at e) (λ b. choose_opens b (then_opens f (turn_opens (WhileTurn at e s opened))) (alike skip))

    repeat_opens : (at : ℕ) (ss : PlainTypedStatements) (e : PlainTypedExpr) (m n : Command) → Opens m n →
        Opens (repeat_turn p low opened at ss e m) (repeat_turn (all_open p) high opened at ss e n)
    repeat_opens at tree.NoStatements e m n f = itself
    repeat_opens at (tree.Sequence s more) e m n f =
        then_opens f (bind_opens (test_opens at e) (λ b. choose_opens b (alike skip) (turn_opens (RepeatTurn at (tree.Sequence s more) e opened))))

    for_turn_opens : (at : ℕ) (head : PlainTypedFor) (variable : Reference) (value last : ℤ) (s : PlainTypedStatement) (m n : Command) → Opens m n →
        Opens (for_turn p low opened at head variable value last s m) (for_turn (all_open p) high opened at head variable value last s n)
    for_turn_opens at head variable value last s m n f =
        then_opens (alike (set at variable (Number value))) (then_opens f
        (choose_opens (same_number value last) (alike (set at variable Undefined))
        (then_opens (alike (unless (lies_in least_integer maxint (after head.direction value)) wrong))
        (turn_opens (ForTurn at head variable (after head.direction value) last s opened)))))

    for_opens : (at : ℕ) (head : PlainTypedFor) (s : PlainTypedStatement) (m n : Command) → Opens m n →
        Opens (for_statement p low opened at head s m) (for_statement (all_open p) high opened at head s n)
    for_opens at head s m n f =
        then_opens (alike (begin at)) (bind_opens (eval_number_opens p low high good opened at head.first) (λ value.
        bind_opens (eval_number_opens p low high good opened at head.last) (λ last. bind_opens (alike (variable_at p head.variable)) (λ variable.
        choose_opens (within head.direction value last)
        (then_opens (alike (unless (lies_in head.low head.high value) (fault at 3)))
        (then_opens (alike (unless (lies_in head.low head.high last) (fault at 3))) (for_turn_opens at head variable value last s m n f)))
        (alike (set at variable Undefined))))))

  open_all_opens : (at : ℕ) (opened : List Reference) (records : List PlainTypedAccess) → Opens (open_all p low at opened records) (open_all (all_open p) high at opened records)
  open_all_opens at opened [] = itself
  open_all_opens at opened (a ∷ more) = bind_opens (form_opens p low high good opened at false a) (λ r. open_all_opens at (opened ++ r ∷ []) more)

  -- ---- statements

  mutual
    exec_opens : (opened : List Reference) (s : PlainTypedStatement) → Opens (exec p low opened s) (exec (all_open p) high opened s)
    exec_opens opened (tree.Labelled l s) = catch_opens opened (alone (tree.Labelled l s)) (exec p low opened s) (exec (all_open p) high opened s) (exec_opens opened s)
    exec_opens opened (tree.Empty at) = itself
    exec_opens opened (tree.Assign at target e) =
        then_opens (alike (begin at)) (bind_opens (form_opens p low high good opened at true target.access) (λ r.
        bind_opens (eval_opens p low high good opened at e) (λ v. alike (must_fit at target.check v >> assign at target.tagging r v))))
    exec_opens opened (tree.Call at called) =
        then_opens (alike (begin at)) (bind_opens (routine_opens p at called.callee) (λ f.
        bind_opens (actuals_opens p low high good opened at called.actuals) (λ vs. call_opens p low high good at f vs leave_procedure)))
    exec_opens opened (tree.Required at called) = then_opens (alike (begin at)) (required_opens opened at called)
    exec_opens opened (tree.Goto at d l) = then_opens (alike (begin at)) (go_to_opens d l)
    exec_opens opened (tree.Compound at ss) =
        then_opens (alike (begin at)) (catch_opens opened ss (exec_all p low opened ss) (exec_all (all_open p) high opened ss) (exec_all_opens opened ss))
    exec_opens opened (tree.If at e s) =
        then_opens (alike (begin at)) (bind_opens (test_opens opened at e) (λ b. choose_opens b (exec_opens opened s) (alike skip)))
    exec_opens opened (tree.IfElse at e s t) =
        then_opens (alike (begin at)) (bind_opens (test_opens opened at e) (λ b. choose_opens b (exec_opens opened s) (exec_opens opened t)))
    exec_opens opened (tree.Case at e arms) =
        then_opens (alike (begin at)) (bind_opens (eval_number_opens p low high good opened at e) (λ n. exec_arm_opens opened at n arms))
    exec_opens opened (tree.While at e s) =
        then_opens (alike (begin at)) (while_opens opened at e s (exec p low opened s) (exec (all_open p) high opened s) (exec_opens opened s))
    exec_opens opened (tree.Repeat at ss e) =
        then_opens (alike (begin at)) (repeat_opens opened at ss e (exec_sequence p low opened ss) (exec_sequence (all_open p) high opened ss)
        (catch_opens opened ss (exec_all p low opened ss) (exec_all (all_open p) high opened ss) (exec_all_opens opened ss)))
    exec_opens opened (tree.For at head s) = for_opens opened at head s (exec p low opened s) (exec (all_open p) high opened s) (exec_opens opened s)
    exec_opens opened (tree.With at count records s) =
        then_opens (alike (begin at)) (bind_opens (open_all_opens at opened records) (λ wider. exec_opens wider s))
    exec_opens opened (tree.Wrong at) = itself

    exec_all_opens : (opened : List Reference) (ss : PlainTypedStatements) → Opens (exec_all p low opened ss) (exec_all (all_open p) high opened ss)
    exec_all_opens opened tree.NoStatements = itself
    exec_all_opens opened (tree.Sequence s more) = then_opens (exec_opens opened s) (exec_all_opens opened more)

    exec_arm_opens : (opened : List Reference) (at : ℕ) (n : ℤ) (arms : PlainTypedArms) → Opens (exec_arm p low opened at n arms) (exec_arm (all_open p) high opened at n arms)
    exec_arm_opens opened at n tree.NoArms = itself
    exec_arm_opens opened at n (tree.Arm constants s more) = choose_opens (one_of n constants) (exec_opens opened s) (exec_arm_opens opened at n more)

  sequence_opens : (opened : List Reference) (ss : PlainTypedStatements) → Opens (exec_sequence p low opened ss) (exec_sequence (all_open p) high opened ss)
  sequence_opens opened ss = catch_opens opened ss (exec_all p low opened ss) (exec_all (all_open p) high opened ss) (exec_all_opens opened ss)

  task_opens : (t : Task) → Opens (exec_task p low t) (exec_task (all_open p) high t)
  task_opens (Body path) = bind_opens (alike (needs (block_of p path))) (λ b. then_opens (alike (begin b.begin)) (sequence_opens [] b.statements))
  task_opens (WhileTurn at e s opened) = while_opens opened at e s (exec p low opened s) (exec (all_open p) high opened s) (exec_opens opened s)
  task_opens (RepeatTurn at ss e opened) = repeat_opens opened at ss e (exec_sequence p low opened ss) (exec_sequence (all_open p) high opened ss) (sequence_opens opened ss)
  task_opens (ForTurn at head variable value last s opened) =
      for_turn_opens opened at head variable value last s (exec p low opened s) (exec (all_open p) high opened s) (exec_opens opened s)
  task_opens (Again whole rest opened) = catch_opens opened whole (exec_all p low opened rest) (exec_all (all_open p) high opened rest) (exec_all_opens opened rest)

pub run_opens : (p : Program) (k : ℕ) → SelfOpens (run p k) (run (all_open p) k)
run_opens p zero = record { by = λ t. record { by = λ c. record { by = tt } } }
run_opens p (suc k) = record { by = λ t. record { by = λ c. (task_opens p (run p k) (run (all_open p) k) (run_opens p k) t).by c } }
