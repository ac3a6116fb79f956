-- Codes that are loaded later change nothing else.
use Rattle.std.proofs.Common.{◌≡◌, ℕ, zero, suc, ◌<◌, ◌≤◌, List, [], ◌∷◌, ◌++◌, Option, length, reverse, take}
use Rattle.std.proofs.Common.{refl, ◌∙◌, ap, arith, subst, Bool, true, false, Some, None, ◌⊎◌, inl, inr}
use Rattle.std.specs.Prelude.{slice_get}
use Rattle.mp_machine.specs.declared.operands.Operand.{Operand}
use Rattle.mp_machine.specs.declared.activations.Activation.{Activation}
use Rattle.mp_machine.specs.declared.machine.Over.{Over}
use Rattle.mp_machine.specs.declared.processor.Processor.{Processor}
use Rattle.mp_code.specs.BlockCode.{BlockCode}
use Rattle.mp_machine.specs.Blocks.{Path, same_path}
use Rattle.mp_machine.specs.Loads.{AllFound, path_in, paths_of}
use Rattle.mp_machine.specs.Machines.{IsInside, answer_if, machine_in, machine_seen}
use Rattle.mp_machine.specs.Shown.{AreLoaded, IsLoaded, frame_seen, frames_seen, own_operands, state_of}
use Rattle.mp_machine.specs.States.{Codes, Loaded, State, code_of}
use Rattle.mp_machine.specs.Steps.{Machine, program_alone}
use Rattle.mp_machine.proofs.PathLemmas.{same_path_self}

stands_before : (codes more : Codes) (k : ℕ) → k < length codes → slice_get (codes ++ more) k ≡ slice_get codes k
stands_before [] more k l = absurd (omega (arith, l))
stands_before (c ∷ codes) more zero l = refl
stands_before (c ∷ codes) more (suc k) l = stands_before codes more k (omega (arith, l))

frames_same : (p q : ℕ → Path) (n : ℕ) (all : List Activation) (xs : List Operand) → ((b : ℕ) → b < n → p b ≡ q b) →
    AreLoaded n all →
    frames_seen p all xs ≡ frames_seen q all xs
frames_same p q n [] xs same l = refl
frames_same p q n (a ∷ older) xs same l =
    ap (λ path. frame_seen (λ b. path) a (own_operands a.below xs) ∷ frames_seen p older (take a.below xs)) (same a.block l.0)
    ∙ ap (λ fs. frame_seen q a (own_operands a.below xs) ∷ fs) (frames_same p q n older (take a.below xs) same l.1)

state_same : (codes more : Codes) (m : Processor) → IsLoaded (length codes) m →
    state_of (paths_of (codes ++ more)) m ≡ state_of (paths_of codes) m
state_same codes more m l =
    ap (λ fs. record (state_of (paths_of codes) m) { frames = fs })
    (frames_same (paths_of (codes ++ more)) (paths_of codes) (length codes) (m.newest ∷ reverse m.older.items) m.operands.items
    (λ b inside. ap path_in (stands_before codes more b inside)) l.blocks)

pub machine_same : (codes more : Codes) (m : Processor) (o : Option Over) → IsLoaded (length codes) m →
    machine_in (machine_seen (codes ++ more) m o) ≡ machine_in (machine_seen codes m o)
machine_same codes more m o l =
    let whole : State → Machine = λ s. record { state = s; over = answer_if s o } in
    ap whole (state_same codes more m l)

loaded_from : (n m : ℕ) (all : List Activation) → n ≤ m → AreLoaded n all → AreLoaded m all
loaded_from n m [] le l = tt
loaded_from n m (a ∷ older) le l = (let h = l.0 in omega (arith, h, le), loaded_from n m older le l.1)

length_more : (codes more : Codes) → length codes ≤ length (codes ++ more)
length_more [] more = omega arith
length_more (c ∷ codes) more = let h = length_more codes more in omega (arith, h)

-- ---- each block is found by its path

code_before : (codes more : Codes) (path : Path) (code : BlockCode) → code_of codes path ≡ Some code →
    code_of (codes ++ more) path ≡ Some code
code_before [] more path code e = absurd (let v : ⊥ = cc in v)
code_before (l ∷ codes) more path code e = by_test (same_path l.path path) (code_before codes more path code) e
  where
    by_test : (b : Bool) → (code_of codes path ≡ Some code → code_of (codes ++ more) path ≡ Some code) →
        (elim b as (λ is. Option BlockCode) [ true ↦ Some l.code | false ↦ code_of codes path ]) ≡ Some code →
        (elim b as (λ is. Option BlockCode) [ true ↦ Some l.code | false ↦ code_of (codes ++ more) path ]) ≡ Some code
    by_test true rest e = e
    by_test false rest e = rest e

code_last : (codes : Codes) (l : Loaded) → code_of codes l.path ≡ None → code_of (codes ++ l ∷ []) l.path ≡ Some l.code
code_last [] l e = ap (λ b. elim b as (λ is. Option BlockCode) [ true ↦ Some l.code | false ↦ None ]) (same_path_self l.path)
code_last (c ∷ codes) l e = by_test (same_path c.path l.path) (code_last codes l) e
  where
    by_test : (b : Bool) → (code_of codes l.path ≡ None → code_of (codes ++ l ∷ []) l.path ≡ Some l.code) →
        (elim b as (λ is. Option BlockCode) [ true ↦ Some c.code | false ↦ code_of codes l.path ]) ≡ None →
        (elim b as (λ is. Option BlockCode) [ true ↦ Some c.code | false ↦ code_of (codes ++ l ∷ []) l.path ]) ≡ Some l.code
    by_test true rest e = absurd (let v : ⊥ = cc in v)
    by_test false rest e = rest e

before_or_last : (codes : Codes) (l : Loaded) (k : ℕ) (x : Loaded) → slice_get (codes ++ l ∷ []) k ≡ Some x →
    (slice_get codes k ≡ Some x) ⊎ (l ≡ x)
before_or_last [] l zero x e = inr (let v : l ≡ x = cc in v)
before_or_last [] l (suc k) x e = absurd (let v : ⊥ = cc in v)
before_or_last (c ∷ codes) l zero x e = inl e
before_or_last (c ∷ codes) l (suc k) x e = before_or_last codes l k x e

found_more : (codes : Codes) (l : Loaded) → code_of codes l.path ≡ None → AllFound codes → AllFound (codes ++ l ∷ [])
found_more codes l none found = record {
  each = λ place x there. elim (before_or_last codes l place x there) [
    | inl e ↦ code_before codes (l ∷ []) x.path x.code (found.each place x e)
    | inr e ↦ subst (λ x. code_of (codes ++ l ∷ []) x.path ≡ Some x.code) e (code_last codes l none)
  ];
}

pub found_alone : (main : BlockCode) → AllFound (program_alone main)
found_alone main = found_more [] (record { path = []; code = main }) refl (record { each = λ place l e. absurd (let v : ⊥ = cc in v) })

pub inside_more : (codes : Codes) (l : Loaded) (m : Processor) (o : Option Over) → code_of codes l.path ≡ None → IsInside codes m o →
    IsInside (codes ++ l ∷ []) m o
inside_more codes l m o none is = record {
  loaded = record {
    blocks = loaded_from (length codes) (length (codes ++ l ∷ [])) (m.newest ∷ reverse m.older.items)
        (length_more codes (l ∷ [])) is.loaded.blocks;
  };
  found = found_more codes l none is.found;
  sound = is.sound;
}
