-- What each operation takes and puts, and where it leads, a row each.
use Rattle.std.specs.Prelude.{◌≡◌, ℕ, Bool, true, false, ◌&&◌, [], ◌∷◌, map, Some, None, nat_eq, pos}
use Rattle.std.specs.List.{list_all}
use Rattle.mp_code.specs.declared.instructions.Operation.{Operation}
use Rattle.mp_code.specs.declared.instructions.Operation.TheVariants as operation
use Rattle.mp_code.specs.declared.instructions.FileOperation.TheVariants as file
use Rattle.mp_code.specs.declared.instructions.RangeFault.TheVariants as range
use Rattle.mp_code.specs.declared.instructions.Relation.TheVariants as relation
use Rattle.mp_code.specs.declared.instructions.RequiredFile.TheVariants as required
use Rattle.mp_code.specs.Shape.{takes, puts, successors}

record Effect : Type 0 where
  of : Operation
  taken : ℕ
  put : ℕ

abbrev effect : Operation → ℕ → ℕ → Effect
effect o n m = record { of = o; taken = n; put = m }

abbrev is_right : Effect → Bool
is_right e = nat_eq (takes e.of) e.taken && nat_eq (puts e.of) e.put

abbrev pub EffectsOfOperations : Type 0
EffectsOfOperations =
    list_all is_right (
    -- constants and addresses
    effect operation.Stmt 0 0 ∷ effect (operation.Int (pos 7)) 0 1 ∷ effect operation.Nil 0 1 ∷ effect operation.Empty 0 1 ∷ effect (operation.Chars []) 0 1 ∷
    effect (operation.Proc 0 []) 0 1 ∷ effect (operation.Addr 1 3) 0 1 ∷ effect (operation.FileAt required.Input) 0 1 ∷ effect operation.Dup 1 2 ∷
    -- cells
    effect operation.Load 1 1 ∷ effect operation.Store 2 0 ∷ effect (operation.Clear 5) 1 0 ∷ effect (operation.LoadMany 5) 1 1 ∷ effect (operation.StoreMany 5) 2 0 ∷
    effect (operation.Offset 2) 1 1 ∷ effect (operation.Index (pos 1) (pos 9) 2) 2 1 ∷ effect operation.Follow 1 1 ∷
    effect (operation.Active 1 []) 1 1 ∷ effect (operation.Choose 1 (pos 0) [] 4) 1 1 ∷ effect (operation.Tag [] 4) 2 0 ∷
    -- numbers and sets
    effect operation.Add 2 1 ∷ effect operation.Sub 2 1 ∷ effect operation.Mul 2 1 ∷ effect operation.Div 2 1 ∷ effect operation.Mod 2 1 ∷
    effect operation.Neg 1 1 ∷ effect operation.Odd 1 1 ∷ effect operation.Not 1 1 ∷ effect operation.And 2 1 ∷ effect operation.Or 2 1 ∷
    effect (operation.Range (pos 1) (pos 9) range.OutsideType) 1 1 ∷ effect (operation.Within (pos 1) (pos 9)) 1 1 ∷ effect (operation.Cmp relation.Less) 2 1 ∷
    effect operation.Has 2 1 ∷ effect operation.One 2 1 ∷ effect operation.Span 3 1 ∷ effect operation.Union 2 1 ∷ effect operation.Meet 2 1 ∷ effect operation.Less 2 1 ∷
    -- jumps and calls
    effect (operation.Jump 0) 0 0 ∷ effect (operation.False 0) 1 0 ∷ effect (operation.Case []) 1 0 ∷ effect (operation.Leave 0 7) 0 0 ∷
    effect (operation.Call 0 [] 3 true) 3 1 ∷ effect (operation.Call 0 [] 2 false) 2 0 ∷ effect (operation.CallBy 3 true) 4 1 ∷ effect (operation.CallBy 0 false) 1 0 ∷
    effect (operation.Return None) 0 0 ∷ effect (operation.Return (Some 2)) 0 0 ∷ effect (operation.New 3) 1 0 ∷ effect operation.Dispose 1 0 ∷
    -- files
    effect (operation.File file.Eof) 1 1 ∷ effect (operation.File file.Eoln) 1 1 ∷ effect (operation.File file.Get) 1 0 ∷ effect (operation.File file.Put) 1 0 ∷
    effect (operation.File file.Reset) 1 0 ∷ effect (operation.File file.Rewrite) 1 0 ∷ effect (operation.File file.ReadLine) 1 0 ∷ effect (operation.File file.WriteLine) 1 0 ∷
    effect (operation.File file.Page) 1 0 ∷ effect (operation.File file.ReadInt) 1 1 ∷ effect (operation.File file.ReadChar) 1 1 ∷ effect (operation.File file.WriteInt) 3 0 ∷
    effect (operation.File file.WriteChar) 3 0 ∷ effect (operation.File file.WriteBool) 3 0 ∷ effect (operation.File file.WriteChars) 3 0 ∷ []) ≡ true

abbrev pub Successors : Type 0
Successors =
    map (successors 4) (
    operation.Stmt ∷ operation.Jump 9 ∷ operation.False 9 ∷ operation.Case (record { constant = pos 2; target = 7 } ∷ record { constant = pos 3; target = 8 } ∷ []) ∷
    operation.Leave 0 7 ∷ operation.Call 0 [] 1 true ∷ operation.CallBy 1 false ∷ operation.Return None ∷ operation.Return (Some 2) ∷ operation.Dispose ∷ []) ≡
    (5 ∷ []) ∷ (9 ∷ []) ∷ (5 ∷ 9 ∷ []) ∷ (7 ∷ 8 ∷ []) ∷
    [] ∷ (5 ∷ []) ∷ (5 ∷ []) ∷ [] ∷ [] ∷ (5 ∷ []) ∷ []
