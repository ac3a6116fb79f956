-- Told bytes that grow or are consumed twice.
use Rattle.std.proofs.Common.{◌≡◌, ℕ, ◌+◌, ◌-◌, List, [], ◌++◌, Option, None, Some, take, drop, length, refl, ap, sym, ◌∙◌, ◌≤◌, arith}
use Rattle.std.proofs.lemmas.List.{append_assoc, append-nil, take_rest, length-drop, take-append-drop}
use Rattle.std.proofs.Math.Seq.{take-add}
use Rattle.std.specs.Io.KnownBytes.{Consumes}
use Rattle.mp_edge.specs.Told.{Grows, GrowsPartly}

pub grows_none : (a : Option (List ℕ)) → Grows a a []
grows_none None = tt
grows_none (Some old) = sym (append-nil old)

pub grows_more : (a b c : Option (List ℕ)) (x y : List ℕ) → Grows a b x → Grows b c y → Grows a c (x ++ y)
grows_more (Some a) (Some b) (Some c) x y h k = k ∙ ap (λ t. t ++ y) h ∙ append_assoc a x y
grows_more (Some a) (Some b) None x y h k = tt
grows_more (Some a) None (Some c) x y h k = absurd k
grows_more (Some a) None None x y h k = tt
grows_more None (Some b) c x y h k = absurd h
grows_more None None (Some c) x y h k = absurd k
grows_more None None None x y h k = tt

-- a write took n bytes more, from a place on
pub grows_part : (a b c : Option (List ℕ)) (bytes : List ℕ) (at n : ℕ) → Grows a b (take at bytes) →
    Grows b c (take n (take (length bytes - at) (drop at bytes))) → Grows a c (take (at + n) bytes)
grows_part a b c bytes at n h k =
    let e : take at bytes ++ take n (take (length bytes - at) (drop at bytes)) ≡ take (at + n) bytes =
    ap (λ t. take at bytes ++ take n t) (take_rest bytes at) ∙ sym (take-add at n bytes) in
    rw e at (grows_more a b c (take at bytes) (take n (take (length bytes - at) (drop at bytes))) h k)

pub part_within : (bytes : List ℕ) (at n : ℕ) → at ≤ length bytes → n ≤ length (take (length bytes - at) (drop at bytes)) → at + n ≤ length bytes
part_within bytes at n h k = omega (arith, ap length (take_rest bytes at), length-drop at bytes)

-- some bytes were written, and then a write failed
pub partly_failed : (a b c : Option (List ℕ)) (bytes : List ℕ) (at : ℕ) → Grows a b (take at bytes) → Grows b c [] → GrowsPartly a c bytes
partly_failed a b c bytes at h k = (take at bytes, rw append-nil at (grows_more a b c (take at bytes) [] h k), (drop at bytes, sym (take-append-drop at bytes)))

pub consumes_none : (a : Option (List ℕ)) → Consumes a a []
consumes_none None = tt
consumes_none (Some xs) = refl

pub consumes_more : (a b c : Option (List ℕ)) (x y : List ℕ) → Consumes a b x → Consumes b c y → Consumes a c (x ++ y)
consumes_more None b c x y h k = tt
consumes_more (Some a) (Some b) (Some c) x y h k = h ∙ ap (λ t. x ++ t) k ∙ sym (append_assoc x y c)
consumes_more (Some a) (Some b) None x y h k = absurd k
consumes_more (Some a) None c x y h k = absurd h
