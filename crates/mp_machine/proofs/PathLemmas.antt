-- Paths that are the same, and the loaded blocks that are found by them.
use Rattle.std.proofs.Common.{◌≡◌, ◌&&◌, ℕ, ◌+◌, ◌<◌, true, false, List, [], ◌∷◌, drop, length, map, get_or, Option, Some}
use Rattle.std.proofs.Common.{refl, sym, ◌∙◌, ap, arith}
use Rattle.std.specs.Prelude.{bytes_eq, nat_eq, slice_get}
use Rattle.std.proofs.lemmas.List.{drop_more}
use Rattle.std.proofs.lemmas.Option.{slice_get_within, get_or_from_slice_get, slice_get_read, slice_get-map}
use Rattle.std.specs.Arc.{arc_value}
use Rattle.std.specs.Option.{option_map}
use Rattle.std.proofs.lemmas.Bool.{and_parts, eq-eqb, eqb-true}
use Rattle.std.proofs.lemmas.Slice.Eq.{bytes_eq-Decides}
use Rattle.mp_code.specs.BlockCode.{BlockCode}
use Rattle.mp_machine.specs.Blocks.{Path, same_path}
use Rattle.mp_machine.specs.declared.codes.LoadedBlock.{LoadedBlock}
use Rattle.mp_machine.specs.Loads.{IsFound, loaded_by}
use Rattle.mp_machine.specs.States.{Codes, Loaded, code_of}

same_names : (xs ys : List ℕ) → bytes_eq xs ys ≡ true → xs ≡ ys
same_names xs ys e = grind (arith, e, bytes_eq-Decides)

pub same_path_is : (p q : Path) → same_path p q ≡ true → p ≡ q
same_path_is [] [] e = refl
same_path_is [] (t ∷ q) e = absurd (let v : ⊥ = cc in v)
same_path_is (s ∷ p) [] e = absurd (let v : ⊥ = cc in v)
same_path_is (s ∷ p) (t ∷ q) e =
    let outer = and_parts (bytes_eq s.name t.name && nat_eq s.nth t.nth) (same_path p q) e in
    let inner = and_parts (bytes_eq s.name t.name) (nat_eq s.nth t.nth) outer.0 in
    let name : s.name ≡ t.name = same_names s.name t.name inner.0 in
    let nth : s.nth ≡ t.nth = eqb-true s.nth t.nth inner.1 in
    let more : p ≡ q = same_path_is p q outer.1 in
    λ i. record { name = name i; nth = nth i } ∷ more i

self_name : (xs : List ℕ) → bytes_eq xs xs ≡ true
self_name xs = grind (arith, bytes_eq-Decides)

pub same_path_self : (p : Path) → same_path p p ≡ true
same_path_self [] = refl
same_path_self (s ∷ p) = rw (self_name s.name, eq-eqb s.nth s.nth refl, same_path_self p) refl

drop_one : (codes : Codes) (k : ℕ) (l : Loaded) → slice_get codes k ≡ Some l → drop k codes ≡ l ∷ drop (k + 1) codes
drop_one codes k l e = drop_more codes k l (slice_get_within codes k l e) ∙
    ap (λ x. x ∷ drop (k + 1) codes) (get_or_from_slice_get codes k l l e)

pub found_there : (codes : Codes) (path : Path) (k : ℕ) (l : Loaded) → slice_get codes k ≡ Some l →
    same_path l.path path ≡ true →
    code_of (drop k codes) path ≡ code_of codes path → IsFound codes path k
found_there codes path k l there same left = record {
  code = l.code;
  stands = there ∙ ap (λ p. Some (record l { path = p })) (same_path_is l.path path same);
  counts = sym left ∙ ap (λ rest. code_of rest path) (drop_one codes k l there)
      ∙ ap (λ b. elim b as (λ is. Option BlockCode) [ true ↦ Some l.code | false ↦ code_of (drop (k + 1) codes) path ]) same;
}

-- the block at a place, among those that the machine keeps
stands_there : (blocks : List LoadedBlock) (k : ℕ) (b : LoadedBlock) → k < length blocks → b ≡ get_or blocks k b →
    slice_get (map loaded_by blocks) k ≡ Some (loaded_by b)
stands_there blocks k b inside is = slice_get-map loaded_by blocks k ∙
    ap (option_map loaded_by) (slice_get_read blocks (length blocks) k b refl inside is)

pub found_by : (codes : Codes) (blocks : List LoadedBlock) (path : Path) (k : ℕ) (b : LoadedBlock) →
    codes ≡ map loaded_by blocks →
    k < length blocks → b ≡ get_or blocks k b → same_path b.path path ≡ true → code_of (drop k codes) path ≡ code_of codes
    path → IsFound codes path k
found_by codes blocks path k b view inside is same left =
    found_there codes path k (loaded_by b) (ap (λ l. slice_get l k) view ∙ stands_there blocks k b inside is) same left

pub not_there : (codes : Codes) (blocks : List LoadedBlock) (path : Path) (k : ℕ) (b : LoadedBlock) →
    codes ≡ map loaded_by blocks →
    k < length blocks → b ≡ get_or blocks k b → same_path b.path path ≡ false → code_of (drop k codes) path ≡ code_of codes
    path →
    code_of (drop (k + 1) codes) path ≡ code_of codes path
not_there codes blocks path k b view inside is other left =
    sym (ap (λ rest. code_of rest path) (drop_one codes k (loaded_by b) (ap (λ l. slice_get l k) view ∙
    stands_there blocks k b inside is))
    ∙ ap (λ t. elim t as (λ is. Option BlockCode) [
      | true ↦ Some (arc_value b.code)
      | false ↦
          code_of (drop (k + 1) codes) path
    ]) other)
    ∙ left
