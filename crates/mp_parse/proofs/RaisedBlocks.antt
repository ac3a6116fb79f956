-- Parsers of blocks and programs under higher limits.
use Rattle.std.proofs.Common.{◌≡◌, ℕ, zero, suc, ◌+◌, ◌<◌, ◌≤◌, Bool, true, false, length, Option, Some, None, Err, refl, sym, subst, arith}
use Rattle.std.proofs.lemmas.Bool.{lt-ltb, ltb-true, ltb-false}
use Rattle.std.specs.Prelude.{if◌then◌else◌, nat_lt}
use Rattle.mp_ast.specs.declared.words.WordSymbol.TheVariants as w
use Rattle.mp_ast.specs.declared.symbols.Symbol.TheVariants as s
use Rattle.mp_ast.specs.declared.blocks.ProgramHeading.{ProgramHeading}
use Rattle.mp_ast.specs.declared.blocks.Tree.{Tree}
use Rattle.mp_ast.specs.BlockGrammar.{Limits}
use Rattle.mp_ast.specs.Rules.{Input}
use Rattle.mp_cursor.specs.declared.next.Next.TheVariants as next
use Rattle.mp_cursor.specs.declared.next.Next.TheVariants.{Word, Symbol}
use Rattle.mp_cursor.specs.Nexts.{Nexts, is}
use Rattle.mp_cursor.specs.Parsers.{Parser, and_then, ◌>>◌, next_token, counted, deeper, too_deep, too_many, left}
use Rattle.mp_cursor.proofs.RuleLaws.{read}
use Rattle.mp_parse.specs.Blocks as p
use Rattle.mp_parse.proofs.Raised.{Inside, Past, Few, Counting, Counted, inside_more, past_more, Raised, Raises, RaisesBefore, Begun, Limit, Behind}
use Rattle.mp_parse.proofs.Raised.{limit_less, less, no_room, not_higher, raised_pure, raised_refuse, raised_here, raised_expect, raised_identifier}
use Rattle.mp_parse.proofs.Raised.{raised_number, raised_directive, raised_then, raised_map, raised_branch, raised_repeated, raised_repeated_where}
use Rattle.mp_parse.proofs.Raised.{raised_identifiers, raised_constant, raised_granted, raised_never, raised_refused, raised_own, raised_opened}
use Rattle.mp_parse.proofs.Raised.{begun_then, begun_granted}
use Rattle.mp_parse.proofs.RaisedTypes.{raised_denoter, raised_section}
use Rattle.mp_parse.proofs.RaisedHeadings.{begun_heading}
use Rattle.mp_parse.proofs.RaisedStatements.{raised_sequence, behind_raises}

-- ---- the parts of a block

module _ {Same Higher More : Type 0} {count : Counting} {G : Type 0} where
  raised_labels : Raises Same Higher More count G p.labels p.labels
  unfolding p.labels p.label_part
  raised_labels =
      raised_branch (is (Word w.Label)) (raised_then (raised_expect _) (λ z.
      raised_then (raised_then raised_number (λ first. raised_repeated _ _ (λ found. raised_map _ (raised_then (raised_expect _) (λ at. raised_number))))) (λ labels.
      raised_then (raised_expect _) (λ z. raised_pure)))) raised_pure

  raised_constant_definition : Raises Same Higher More count G p.constant_definition p.constant_definition
  unfolding p.constant_definition
  raised_constant_definition =
      raised_then raised_identifier (λ name. raised_then (raised_expect _) (λ z. raised_then raised_constant (λ value. raised_then (raised_expect _) (λ semicolon. raised_pure))))

  raised_constants : Raises Same Higher More count G p.constants p.constants
  unfolding p.constants p.some_constants p.further_constant
  raised_constants =
      raised_branch (is (Word w.Const)) (raised_then (raised_expect _) (λ z. raised_then raised_constant_definition
      (λ first. raised_repeated _ _ (λ found. raised_map _ raised_constant_definition)))) raised_pure

module _ {Same Higher More : Type 0} {count : Counting} (room high : ℕ) where
  raised_type_definition : Raises Same Higher More count (Limit Same Higher room high) (p.type_definition room) (p.type_definition high)
  unfolding p.type_definition
  raised_type_definition =
      raised_then raised_identifier (λ name. raised_then (raised_expect _) (λ z. raised_then (raised_denoter room high)
      (λ of. raised_then (raised_expect _) (λ semicolon. raised_pure))))

  raised_types : Raises Same Higher More count (Limit Same Higher room high) (p.types room) (p.types high)
  unfolding p.types p.some_types p.further_type
  raised_types =
      raised_branch (is (Word w.«Type»)) (raised_then (raised_expect _) (λ z. raised_then raised_type_definition
      (λ first. raised_repeated _ _ (λ found. raised_map _ raised_type_definition)))) raised_pure

  raised_variable_section : Raises Same Higher More count (Limit Same Higher room high) (p.variable_section room) (p.variable_section high)
  unfolding p.variable_section
  raised_variable_section = raised_then (raised_section (raised_denoter room high)) (λ found. raised_then (raised_expect _) (λ z. raised_pure))

  raised_variables : Raises Same Higher More count (Limit Same Higher room high) (p.variables room) (p.variables high)
  unfolding p.variables p.some_sections p.further_section
  raised_variables =
      raised_branch (is (Word w.Var)) (raised_then (raised_expect _) (λ z. raised_then raised_variable_section
      (λ first. raised_repeated _ _ (λ found. raised_map _ raised_variable_section)))) raised_pure

  raised_statement_part : Raises Same Higher More count (Limit Same Higher room high) (p.statement_part room) (p.statement_part high)
  unfolding p.statement_part
  raised_statement_part =
      raised_opened (Word w.Begin) refl room high (λ at. raised_then (raised_sequence (behind_raises high room).statement)
      (λ found. raised_then (raised_expect _) (λ end. raised_pure)))

-- ---- declarations

abbrev one_more : Input → Input
one_more i = record i { declared = i.declared + 1 }

abbrev counting : {B : Type 0} → Bool → Parser B → Parser B
counting b q i = and_then (if b then read {A = Unit {0}} tt (one_more i) else Err (too_many i)) (λ z. q)

counted_inside : {B : Type 0} (q : Parser B) → ((i : Input) → Inside (length i.rest) i.declared (q i)) → (i : Input) (b : Bool) →
    Inside (length i.rest) i.declared (counting b q i)
unfolding too_many left
counted_inside q a i true = inside_more (length i.rest) (length i.rest) (i.declared + 1) i.declared (q (one_more i)) (omega arith) (omega arith) (a (one_more i))
counted_inside q a i false = omega arith

counted_past : {B : Type 0} (q : Parser B) (f : Nexts) → ((i : Input) → f (next_token i) ≡ true → Past (length i.rest) i.declared (q i)) →
    (i : Input) → f (next_token i) ≡ true → (b : Bool) → b ≡ true → Past (length i.rest) (i.declared + 1) (counting b q i)
unfolding next_token
counted_past q f takes i e true l = takes (one_more i) e
counted_past q f takes i e false l = absurd (let z : ⊥ = cc in z)

-- The limit on declarations and another, which with the differences of the counts is not lower.
pub record MostDeclared (Higher More : Type 0) (count : Counting) (high : ℕ) : Type 0 where
  pub no_lower : count.most + count.above ≤ high + count.below
  pub higher : Higher → count.most + count.above < high + count.below
  pub more : More → count.most + count.above < high + count.below

-- a declaration, which is begun by its first token
module _ (Same Higher More : Type 0) (count : Counting) {B : Type 0} (f : Nexts) (q q' : Parser B) (high : ℕ)
    (l : MostDeclared Higher More count high) (takes : (i : Input) → f (next_token i) ≡ true → Past (length i.rest) i.declared (q' i)) where
  gets_past : (i : Input) (other : ℕ) → f (next_token i) ≡ true → Counted count i.declared other → i.declared ≤ count.most →
      count.most + count.above < high + count.below → Past (length i.rest) (other + 1) (counting (nat_lt other high) q' (record i { declared = other }))
  unfolding next_token
  gets_past i other e s few m = counted_past q' f takes (record i { declared = other }) e (nat_lt other high) (lt-ltb other high (omega (arith, s, few, m)))

  counted_raised : ((i : Input) (other : ℕ) → Counted count i.declared other → Few Higher More count i.declared →
      Raised Same Higher More count (q i) (q' (record i { declared = other }))) → (i : Input) (other : ℕ) → f (next_token i) ≡ true →
      Counted count i.declared other → Few Higher More count i.declared → (b : Bool) → nat_lt i.declared count.most ≡ b
      → Raised Same Higher More count (counting b q i) (counting (nat_lt other high) q' (record i { declared = other }))
  unfolding too_many left
  counted_raised a i other e s few true h =
      let less = ltb-true i.declared count.most h in
      let n = l.no_lower in
      subst (λ c. Raised Same Higher More count (q (one_more i)) (counting c q' (record i { declared = other }))) (sym (lt-ltb other high (omega (arith, s, less, n))))
      (a (one_more i) (other + 1) (omega (arith, s)) (λ h. omega (arith, less), λ h. omega (arith, less)))
  counted_raised a i other e s few false h =
      λ g. let n = l.more g in let k = ltb-false i.declared count.most h in (other + 1, omega (arith, s, k), gets_past i other e s (few.1 g) n)

  -- where blocks may stand so much deeper
  deeper_inside : ((i : Input) → Inside (length i.rest) i.declared (q' i)) → (higher : ℕ) (i : Input) → Inside (length i.rest) i.declared (deeper higher (counted high >> q') i)
  unfolding counted too_deep left
  deeper_inside a zero i = omega arith
  deeper_inside a (suc higher) i = counted_inside q' a i (nat_lt i.declared high)

  deeper_raised : (depth higher : ℕ) → Raises Same Higher More count (Behind Same Higher depth higher) q q' → Limit Same Higher depth higher →
      (i : Input) (other : ℕ) → f (next_token i) ≡ true → Counted count i.declared other → Few Higher More count i.declared
      → Raised Same Higher More count (deeper depth (counted count.most >> q) i) (deeper higher (counted high >> q') (record i { declared = other }))
  unfolding counted too_deep left
  deeper_raised zero zero a d i other e s few = (λ s. refl, λ h. absurd (let x = d.higher h in let z : ⊥ = omega arith in z))
  deeper_raised zero (suc higher) a d i other e s few = (
    λ s. absurd (let x = d.same s in let z : ⊥ = omega arith in z),
    λ h. past_more (length i.rest) (other + 1) 0 (counting (nat_lt other high) q' (record i { declared = other })) (omega arith) (gets_past i other e s (few.0 h) (l.higher h)),
  )
  deeper_raised (suc depth) zero a d i other e s few = absurd (let x = d.no_lower in let z : ⊥ = omega arith in z)
  deeper_raised (suc depth) (suc higher) a d i other e s few =
      let g : Behind Same Higher (suc depth) (suc higher) = record { room_less = depth; high_less = higher; room_is = refl; high_is = refl; limit = limit_less depth higher d } in
      counted_raised (λ j m t less. a.raised g j m refl t less) i other e s few (nat_lt i.declared count.most) refl

  deeper_raises : (depth higher : ℕ) → Raises Same Higher More count (Behind Same Higher depth higher) q q' →
      RaisesBefore Same Higher More count (Limit Same Higher depth higher) f (deeper depth (counted count.most >> q)) (deeper higher (counted high >> q'))
  deeper_raises depth higher a = record {
    inside = deeper_inside (λ i. a.inside i) higher;
    raised = λ d i other e s few. deeper_raised depth higher a d i other e s few;
  }

raised_deeper : {Same Higher More : Type 0} {count : Counting} {B : Type 0} {f : Nexts} {q q' : Parser B} (high : ℕ) →
    MostDeclared Higher More count high → (depth higher : ℕ) → Begun Same Higher More count (Behind Same Higher depth higher) f q q'
    → RaisesBefore Same Higher More count (Limit Same Higher depth higher) f (deeper depth (counted count.most >> q)) (deeper higher (counted high >> q'))
raised_deeper {Same = Same} {Higher = Higher} {More = More} {count = count} {f = f} {q = q} {q' = q'} high l depth higher a =
    deeper_raises Same Higher More count f q q' high l a.takes depth higher a.raises

-- ---- blocks, and blocks in one another

abbrev pub from : Limits → ℕ → ℕ → Counting
from limits below above = record { most = limits.declarations; below = below; above = above }

-- limits and others of which none is lower, where the counts of declarations differ
pub record Raising (Same Higher More : Type 0) (below above : ℕ) (limits others : Limits) : Type 0 where
  pub openers : Limit Same Higher limits.openers others.openers
  pub depth : Limit Same Higher limits.depth others.depth
  pub declarations : MostDeclared Higher More (from limits below above) others.declarations

module _ {Same Higher More : Type 0} {below above : ℕ} {limits others : Limits} (r : Raising Same Higher More below above limits others) where
  module _ (depth higher : ℕ) {a b : Parser Tree} (nested : Raises Same Higher More (from limits below above) (Behind Same Higher depth higher) a b) where
    raised_declaration : (found : p.Found) → RaisesBefore Same Higher More (from limits below above) (Limit Same Higher depth higher) p.declaring
        (p.further_declaration limits depth a found) (p.further_declaration others higher b found)
    unfolding p.further_declaration p.declaration p.block_body p.forward_directive
    raised_declaration found =
        raised_map _ (raised_deeper others.declarations r.declarations depth higher
        (begun_then (begun_granted (λ u. r.openers) (begun_heading limits.openers others.openers)) (λ heading.
        raised_then (raised_expect _) (λ semicolon.
        raised_then (raised_branch (is next.Identifier) (raised_then (raised_directive _) (λ at. raised_pure)) (raised_then nested (λ tree. raised_pure))) (λ rest.
        raised_then (raised_expect _) (λ z. raised_pure))))))

    raised_declarations : Raises Same Higher More (from limits below above) (Limit Same Higher depth higher) (p.declarations limits depth a) (p.declarations others higher b)
    unfolding p.declarations
    raised_declarations = raised_repeated_where _ _ raised_declaration

    raised_block_with : (program : Option ProgramHeading) → Raises Same Higher More (from limits below above) (Limit Same Higher depth higher)
        (p.block_with limits program depth a) (p.block_with others program higher b)
    unfolding p.block_with
    raised_block_with program =
        raised_then raised_labels (λ labels.
        raised_then raised_constants (λ constants.
        raised_then (raised_granted (λ u. r.openers) (raised_types limits.openers others.openers)) (λ types.
        raised_then (raised_granted (λ u. r.openers) (raised_variables limits.openers others.openers)) (λ variables.
        raised_then raised_declarations (λ declared.
        raised_then (raised_granted (λ u. r.openers) (raised_statement_part limits.openers others.openers)) (λ statements.
        raised_then raised_here (λ tokens. raised_pure)))))))

  pub raised_nested : (higher depth : ℕ) → Raises Same Higher More (from limits below above) (Behind Same Higher depth higher)
      (p.nested_block limits depth) (p.nested_block others higher)
  unfolding p.nested_block
  raised_nested zero zero = raised_refuse
  raised_nested zero (suc depth) = raised_refused (not_higher (suc depth))
  raised_nested (suc higher) zero = raised_never (no_room (suc higher)) (raised_own (raised_map _ (raised_block_with higher higher (raised_nested higher higher) None)))
  raised_nested (suc higher) (suc depth) = raised_granted (less depth higher) (raised_own (raised_map _ (raised_block_with depth higher (raised_nested higher depth) None)))

  -- ---- programs

  raised_program_heading : Raises Same Higher More (from limits below above) (Unit {0}) (p.program_heading limits) (p.program_heading others)
  unfolding p.program_heading p.parameters p.some_parameters
  raised_program_heading =
      raised_then (raised_expect _) (λ z. raised_then raised_identifier (λ name.
      raised_then (raised_branch (is (Symbol s.LeftParen)) (raised_then (raised_expect _) (λ z.
      raised_then raised_identifiers (λ names. raised_then (raised_expect _) (λ z. raised_pure)))) raised_pure) (λ parameters.
      raised_then (raised_expect _) (λ z. raised_pure))))

  pub raised_program : Raises Same Higher More (from limits below above) (Unit {0}) (p.program limits) (p.program others)
  unfolding p.program
  raised_program =
      raised_then raised_program_heading (λ heading.
      raised_then (raised_granted (λ u. r.depth) (raised_block_with limits.depth others.depth (raised_nested others.depth limits.depth) (Some heading))) (λ found.
      raised_then (raised_expect _) (λ z. raised_then raised_here (λ tokens. raised_pure))))
