-- The number of the first line that is too long, found by going over the bytes of a text.
use Rattle.std.proofs.Common.{◌≡◌, ℕ, zero, suc, ◌+◌, ◌-◌, ◌<◌, ◌≤◌, true, false, ◌==◌, cond, List, [], ◌∷◌, length, get_or, drop, Option, Some, None}
use Rattle.std.proofs.Common.{refl, ap, sym, subst, ◌∙◌, arith, nat_lt, if◌then◌else◌, ⊎_elim}
use Rattle.std.specs.List.{position_from}
use Rattle.std.proofs.lemmas.List.{drop_more, drop_all}
use Rattle.std.proofs.lemmas.Bool.{eqb-true, le-leb, lt-leb, cases_lt}
use Rattle.mp_base.specs.declared.limits.TheConstants.{LINE_LIMIT}
use Rattle.mp_base.specs.Text.{lines_of, cut}
use Rattle.mp_base.proofs.Places.{headed, lines_of_end, lines_of_other}
use Rattle.mp_text.specs.Refusals.{is_long}

-- the number of the first line that is too long, where so many bytes of the first line, which has this number, stand
-- before these
unfoldable pub long_from : ℕ → ℕ → List ℕ → Option ℕ
long_from number before [] = None
long_from number before (b ∷ bytes) = if b == 10 then long_from (number + 1) 0 bytes else (if nat_lt before LINE_LIMIT then long_from number (before + 1) bytes else Some number)

long_from_end : (number before b : ℕ) (bytes : List ℕ) → b ≡ 10 → long_from number before (b ∷ bytes) ≡ long_from (number + 1) 0 bytes
unfolding long_from
long_from_end number before b bytes e =
    ap (λ x. cond (x == 10) (long_from (number + 1) 0 bytes) (cond (nat_lt before LINE_LIMIT) (long_from number (before + 1) bytes) (Some number))) e

long_from_more : (number before b : ℕ) (bytes : List ℕ) → (b == 10) ≡ false → nat_lt before LINE_LIMIT ≡ true →
    long_from number before (b ∷ bytes) ≡ long_from number (before + 1) bytes
unfolding long_from
long_from_more number before b bytes e h = rw (e, h) refl

long_from_stop : (number before b : ℕ) (bytes : List ℕ) → (b == 10) ≡ false → nat_lt before LINE_LIMIT ≡ false → long_from number before (b ∷ bytes) ≡ Some number
unfolding long_from
long_from_stop number before b bytes e h = rw (e, h) refl

-- the same over lines, where so many bytes stand before the first
abbrev long_past : ℕ → ℕ → List (List ℕ) → Option ℕ
long_past number before [] = None
long_past number before (line ∷ text) = cond (nat_lt LINE_LIMIT (before + length line)) (Some number) (position_from is_long (number + 1) text)

long_headed : (number before b : ℕ) (text : List (List ℕ)) → before < LINE_LIMIT → long_past number before (headed b text) ≡ long_past number (before + 1) text
long_headed number before b [] h = ap (λ x. cond x (Some number) None) (lt-leb (suc LINE_LIMIT) (before + 1) (omega arith))
long_headed number before b (line ∷ text) h =
    let l : before + length (b ∷ line) ≡ before + 1 + length line = omega arith in
    ap (λ n. cond (nat_lt LINE_LIMIT n) (Some number) (position_from is_long (number + 1) text)) l

long_headed_not : (number before b : ℕ) (text : List (List ℕ)) → LINE_LIMIT ≤ before → long_past number before (headed b text) ≡ Some number
long_headed_not number before b [] h = ap (λ x. cond x (Some number) None) (le-leb (suc LINE_LIMIT) (before + 1) (omega arith))
long_headed_not number before b (line ∷ text) h =
    ap (λ x. cond x (Some number) (position_from is_long (number + 1) text)) (le-leb (suc LINE_LIMIT) (before + length (b ∷ line)) (omega arith))

long_first : (number : ℕ) (text : List (List ℕ)) → long_past number 0 text ≡ position_from is_long number text
long_first number [] = refl
long_first number (line ∷ text) = let e : 0 + length line ≡ length line = omega arith in
    ap (λ n. cond (nat_lt LINE_LIMIT n) (Some number) (position_from is_long (number + 1) text)) e

nothing_long : (number before : ℕ) → None ≡ long_past number before (lines_of [])
unfolding lines_of cut
nothing_long number before = refl

long_lines : (bytes : List ℕ) (number before : ℕ) → before ≤ LINE_LIMIT → long_from number before bytes ≡ long_past number before (lines_of bytes)
unfolding long_from
long_lines [] number before h = nothing_long number before
long_lines (b ∷ bytes) number before h =
    elim (b == 10) as (λ v. (b == 10) ≡ v → cond v (long_from (number + 1) 0 bytes)
    (cond (nat_lt before LINE_LIMIT) (long_from number (before + 1) bytes) (Some number)) ≡ long_past number before (lines_of (b ∷ bytes))) [
      | true ↦ λ e. line_end (eqb-true b 10 e) (long_lines bytes (number + 1) 0 (omega arith))
      | false ↦ λ e. other e (λ w. long_lines bytes number (before + 1) w)
    ] refl
  where
    line_end : b ≡ 10 → long_from (number + 1) 0 bytes ≡ long_past (number + 1) 0 (lines_of bytes) →
        long_from (number + 1) 0 bytes ≡ long_past number before (lines_of (b ∷ bytes))
    line_end e ih =
        let n : nat_lt LINE_LIMIT (before + 0) ≡ false = lt-leb (suc LINE_LIMIT) (before + 0) (omega arith) in
        ih ∙ long_first (number + 1) (lines_of bytes)
        ∙ sym (ap (λ x. long_past number before (lines_of (x ∷ bytes))) e ∙ ap (long_past number before) (lines_of_end bytes)
        ∙ ap (λ x. cond x (Some number) (position_from is_long (number + 1) (lines_of bytes))) n)

    other : (b == 10) ≡ false → (before + 1 ≤ LINE_LIMIT → long_from number (before + 1) bytes ≡ long_past number (before + 1) (lines_of bytes)) →
        cond (nat_lt before LINE_LIMIT) (long_from number (before + 1) bytes) (Some number) ≡ long_past number before (lines_of (b ∷ bytes))
    other e ih =
        ⊎_elim
        (λ (lt : before < LINE_LIMIT). let t : nat_lt before LINE_LIMIT ≡ true = le-leb (suc before) LINE_LIMIT (omega arith) in
        rw t (ih (omega arith) ∙ sym (ap (long_past number before) (lines_of_other b bytes e) ∙ long_headed number before b (lines_of bytes) lt)))
        (λ (le : LINE_LIMIT ≤ before). let t : nat_lt before LINE_LIMIT ≡ false = lt-leb (suc before) LINE_LIMIT (omega arith) in
        rw t (sym (ap (long_past number before) (lines_of_other b bytes e) ∙ long_headed_not number before b (lines_of bytes) le)))
        (cases_lt before LINE_LIMIT)

pub long_from_is : (bytes : List ℕ) → long_from 1 0 bytes ≡ position_from is_long 1 (lines_of bytes)
long_from_is bytes = long_lines bytes 1 0 (omega arith) ∙ long_first 1 (lines_of bytes)

-- the same at a place of the bytes
pub long_at_end : (number before : ℕ) (bytes : List ℕ) (i : ℕ) → i < length bytes → get_or bytes i 0 ≡ 10 →
    long_from (number + 1) 0 (drop (i + 1) bytes) ≡ long_from number before (drop i bytes)
long_at_end number before bytes i h e = sym (ap (long_from number before) (drop_more bytes i 0 h) ∙ long_from_end number before (get_or bytes i 0) (drop (i + 1) bytes) e)

pub long_at_more : (number before : ℕ) (bytes : List ℕ) (i : ℕ) → i < length bytes → (get_or bytes i 0 == 10) ≡ false → before < LINE_LIMIT →
    long_from number (before + 1) (drop (i + 1) bytes) ≡ long_from number before (drop i bytes)
long_at_more number before bytes i h e lt =
    sym (ap (long_from number before) (drop_more bytes i 0 h)
    ∙ long_from_more number before (get_or bytes i 0) (drop (i + 1) bytes) e (le-leb (suc before) LINE_LIMIT (omega arith)))

pub long_at_stop : (number before : ℕ) (bytes : List ℕ) (i : ℕ) → i < length bytes → (get_or bytes i 0 == 10) ≡ false → LINE_LIMIT ≤ before →
    long_from number before (drop i bytes) ≡ Some number
long_at_stop number before bytes i h e le = ap (long_from number before) (drop_more bytes i 0 h)
    ∙ long_from_stop number before (get_or bytes i 0) (drop (i + 1) bytes) e (lt-leb (suc before) LINE_LIMIT (omega arith))

pub long_behind : (number before : ℕ) (bytes : List ℕ) (i : ℕ) → length bytes ≤ i → long_from number before (drop i bytes) ≡ None
unfolding long_from
long_behind number before bytes i h = ap (long_from number before) (drop_all i bytes h)

-- no line from this place on is too long, wherever numbers begin
abbrev pub HasNoLong : List ℕ → ℕ → Type 0
HasNoLong bytes i = (number : ℕ) → long_from number 0 (drop i bytes) ≡ None

one_byte : (bytes : List ℕ) (i number before : ℕ) → i < length bytes → before < LINE_LIMIT → long_from (number + 1) 0 (drop (i + 1) bytes) ≡ None →
    long_from number (before + 1) (drop (i + 1) bytes) ≡ None → long_from number before (drop i bytes) ≡ None
one_byte bytes i number before h l end more =
    elim (get_or bytes i 0 == 10) as (λ v. (get_or bytes i 0 == 10) ≡ v → long_from number before (drop i bytes) ≡ None) [
      | true ↦ λ e. sym (long_at_end number before bytes i h (eqb-true (get_or bytes i 0) 10 e)) ∙ end
      | false ↦ λ e. sym (long_at_more number before bytes i h e l) ∙ more
    ] refl

-- up to a line end that is near enough, no line is
line_short : (bytes : List ℕ) (d i number before : ℕ) → i + d < length bytes → get_or bytes (i + d) 0 ≡ 10 → before + d ≤ LINE_LIMIT →
    HasNoLong bytes (i + d + 1) → long_from number before (drop i bytes) ≡ None
line_short bytes zero i number before h e s n =
    let same : i + 0 ≡ i = omega arith in
    sym (long_at_end number before bytes i (omega arith) (subst (λ k. get_or bytes k 0 ≡ 10) same e))
    ∙ subst (λ k. long_from (number + 1) 0 (drop (k + 1) bytes) ≡ None) same (n (number + 1))
line_short bytes (suc d) i number before h e s n =
    let same : i + suc d ≡ i + 1 + d = omega arith in
    let there = subst (λ k. get_or bytes k 0 ≡ 10) same e in
    let rest : HasNoLong bytes (i + 1 + d + 1) = subst (λ k. HasNoLong bytes (k + 1)) same n in
    one_byte bytes i number before (omega arith) (omega arith) (line_short bytes d (i + 1) (number + 1) 0 (omega arith) there (omega arith) rest)
    (line_short bytes d (i + 1) number (before + 1) (omega arith) there (omega arith) rest)

-- nor where so few bytes are left
rest_short : (bytes : List ℕ) (d i number before : ℕ) → i + d ≡ length bytes → before + d ≤ LINE_LIMIT → long_from number before (drop i bytes) ≡ None
rest_short bytes zero i number before h s = long_behind number before bytes i (omega arith)
rest_short bytes (suc d) i number before h s =
    one_byte bytes i number before (omega arith) (omega arith) (rest_short bytes d (i + 1) (number + 1) 0 (omega arith) (omega arith))
    (rest_short bytes d (i + 1) number (before + 1) (omega arith) (omega arith))

pub short_up_to : (bytes : List ℕ) (i end : ℕ) → i ≤ end → end < i + LINE_LIMIT + 1 → end < length bytes → get_or bytes end 0 ≡ 10 → HasNoLong bytes (end + 1) → HasNoLong bytes i
short_up_to bytes i end b w h e n number =
    let same : end ≡ i + (end - i) = omega arith in
    line_short bytes (end - i) i number 0 (omega arith) (subst (λ k. get_or bytes k 0 ≡ 10) same e) (omega arith) (subst (λ k. HasNoLong bytes (k + 1)) same n)

pub short_from : (bytes : List ℕ) (i : ℕ) → i ≤ length bytes → length bytes ≤ i + LINE_LIMIT → HasNoLong bytes i
short_from bytes i h s number = rest_short bytes (length bytes - i) i number 0 (omega arith) (omega arith)

pub none_is_long : (bytes : List ℕ) → HasNoLong bytes 0 → position_from is_long 1 (lines_of bytes) ≡ None
none_is_long bytes n = sym (long_from_is bytes) ∙ n 1
