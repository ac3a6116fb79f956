-- Values whose files have grown: in one form, each file with what it had before its position, and more.
use Rattle.std.proofs.Common.{◌≡◌, ℕ, zero, suc, List, [], ◌∷◌, ◌++◌, Option, Some, None, Bool, true, false, refl, sym, ap, ◌∙◌, subst, append-nil, append_assoc}
use Rattle.std.specs.Prelude.{◌+◌, if◌then◌else◌, nat_eq, take, length, nat_lt}
use Rattle.std.specs.List.{prefix_len}
use Rattle.std.proofs.lemmas.Bool.{and_parts}
use Rattle.mp_base.specs.declared.limits.TheConstants.{MAXINT}
use Rattle.mp_files.specs.declared.causes.TheConstants.{END_OF_FILE, INTEGER_OVERFLOW, NO_NUMBER, WRONG_STATE}
use Rattle.mp_files.specs.declared.items.Item.{Item}
use Rattle.mp_files.specs.Items.{is_space, byte_of, bytes_of}
use Rattle.mp_files.specs.TextFiles.{TextFile, FileCall, Gives, Fails, is_reading, is_writing, is_nothing, at_item, moved, number_at, past_spaces, read_number, get, read_line, write_items, with_written, sign_len, digits_of, value_of}
use Rattle.mp_meaning.specs.Configurations.{Configuration, file_in, output_of}
use Rattle.mp_meaning.specs.Values.{Value, Undefined, Number, Members, Pointer, Routine, Refers, File, Structure, Values, NoValues, Then, is_scalar, is_plain, all_plain, alike, all_alike, value_at, part_in, component, changed_at, changed_in, changed, cleared_first, retagged_at, retagged, can_retag_at, can_retag, cells_of_first}

abbrev pub Longer : List Item → List Item → Type 0
Longer xs ys = (more : List Item) × (ys ≡ xs ++ more)

pub longer_itself : (xs : List Item) → Longer xs xs
longer_itself xs = ([], sym (append-nil xs))

pub longer_still : (xs ys zs : List Item) → Longer xs ys → Longer ys zs → Longer xs zs
longer_still xs ys zs f g = (f.0 ++ g.0, g.1 ∙ ap (λ l. l ++ g.0) f.1 ∙ append_assoc xs f.0 g.0)

abbrev mutual
  pub Grown : Value → Value → Type 0
  Grown (Structure vs) (Structure ws) = AllGrown vs ws
  Grown (Structure vs) w = ⊥
  Grown (File f) (File g) = Longer f.before g.before
  Grown (File f) w = ⊥
  Grown v w = is_scalar w ≡ true

  pub AllGrown : Values → Values → Type 0
  AllGrown NoValues NoValues = Unit {0}
  AllGrown (Then v more) (Then w others) = Grown v w × AllGrown more others
  AllGrown vs ws = ⊥

mutual
  pub grown_itself : (v : Value) → Grown v v
  grown_itself (Structure vs) = all_grown_itself vs
  grown_itself (File f) = longer_itself f.before
  grown_itself Undefined = refl
  grown_itself (Number n) = refl
  grown_itself (Members set) = refl
  grown_itself (Pointer o) = refl
  grown_itself (Routine path parent) = refl
  grown_itself (Refers root way type) = refl

  all_grown_itself : (vs : Values) → AllGrown vs vs
  all_grown_itself NoValues = tt
  all_grown_itself (Then v more) = (grown_itself v, all_grown_itself more)

-- what has grown from a single value is one
scalar_grown : (v w : Value) → is_scalar v ≡ true → Grown v w → is_scalar w ≡ true
scalar_grown (Structure vs) w e g = absurd (let f : ⊥ = cc in f)
scalar_grown (File f) w e g = absurd (let f : ⊥ = cc in f)
scalar_grown Undefined w e g = g
scalar_grown (Number n) w e g = g
scalar_grown (Members set) w e g = g
scalar_grown (Pointer o) w e g = g
scalar_grown (Routine path parent) w e g = g
scalar_grown (Refers root way type) w e g = g

mutual
  pub grown_still : (u v w : Value) → Grown u v → Grown v w → Grown u w
  grown_still (Structure us) (Structure vs) (Structure ws) f g = all_grown_still us vs ws f g
  grown_still (File a) (File b) (File c) f g = longer_still a.before b.before c.before f g
  grown_still Undefined v w f g = scalar_grown v w f g
  grown_still (Number n) v w f g = scalar_grown v w f g
  grown_still (Members set) v w f g = scalar_grown v w f g
  grown_still (Pointer o) v w f g = scalar_grown v w f g
  grown_still (Routine path parent) v w f g = scalar_grown v w f g
  grown_still (Refers root way type) v w f g = scalar_grown v w f g
  grown_still (Structure us) (Structure vs) (File x) f g = absurd g
  grown_still (Structure us) (Structure vs) Undefined f g = absurd g
  grown_still (Structure us) (Structure vs) (Number n) f g = absurd g
  grown_still (Structure us) (Structure vs) (Members set) f g = absurd g
  grown_still (Structure us) (Structure vs) (Pointer o) f g = absurd g
  grown_still (Structure us) (Structure vs) (Routine path parent) f g = absurd g
  grown_still (Structure us) (Structure vs) (Refers root way type) f g = absurd g
  grown_still (Structure us) (File x) w f g = absurd f
  grown_still (Structure us) Undefined w f g = absurd f
  grown_still (Structure us) (Number n) w f g = absurd f
  grown_still (Structure us) (Members set) w f g = absurd f
  grown_still (Structure us) (Pointer o) w f g = absurd f
  grown_still (Structure us) (Routine path parent) w f g = absurd f
  grown_still (Structure us) (Refers root way type) w f g = absurd f
  grown_still (File a) (File b) (Structure ws) f g = absurd g
  grown_still (File a) (File b) Undefined f g = absurd g
  grown_still (File a) (File b) (Number n) f g = absurd g
  grown_still (File a) (File b) (Members set) f g = absurd g
  grown_still (File a) (File b) (Pointer o) f g = absurd g
  grown_still (File a) (File b) (Routine path parent) f g = absurd g
  grown_still (File a) (File b) (Refers root way type) f g = absurd g
  grown_still (File a) (Structure vs) w f g = absurd f
  grown_still (File a) Undefined w f g = absurd f
  grown_still (File a) (Number n) w f g = absurd f
  grown_still (File a) (Members set) w f g = absurd f
  grown_still (File a) (Pointer o) w f g = absurd f
  grown_still (File a) (Routine path parent) w f g = absurd f
  grown_still (File a) (Refers root way type) w f g = absurd f

  all_grown_still : (us vs ws : Values) → AllGrown us vs → AllGrown vs ws → AllGrown us ws
  all_grown_still NoValues NoValues NoValues f g = tt
  all_grown_still (Then u us) (Then v vs) (Then w ws) f g = (grown_still u v w f.0 g.0, all_grown_still us vs ws f.1 g.1)
  all_grown_still NoValues NoValues (Then w ws) f g = absurd g
  all_grown_still NoValues (Then v vs) ws f g = absurd f
  all_grown_still (Then u us) NoValues ws f g = absurd f
  all_grown_still (Then u us) (Then v vs) NoValues f g = absurd g

-- a value without files of the same form
mutual
  pub grown_plain : (v w : Value) → alike v w ≡ true → is_plain w ≡ true → Grown v w
  grown_plain (Structure vs) (Structure ws) e p = all_grown_plain vs ws e p
  grown_plain (Structure vs) (File x) e p = absurd (let f : ⊥ = cc in f)
  grown_plain (Structure vs) Undefined e p = absurd (let f : ⊥ = cc in f)
  grown_plain (Structure vs) (Number n) e p = absurd (let f : ⊥ = cc in f)
  grown_plain (Structure vs) (Members set) e p = absurd (let f : ⊥ = cc in f)
  grown_plain (Structure vs) (Pointer o) e p = absurd (let f : ⊥ = cc in f)
  grown_plain (Structure vs) (Routine path parent) e p = absurd (let f : ⊥ = cc in f)
  grown_plain (Structure vs) (Refers root way type) e p = absurd (let f : ⊥ = cc in f)
  grown_plain (File a) (File b) e p = absurd (let f : ⊥ = cc in f)
  grown_plain (File a) (Structure ws) e p = absurd (let f : ⊥ = cc in f)
  grown_plain (File a) Undefined e p = absurd (let f : ⊥ = cc in f)
  grown_plain (File a) (Number n) e p = absurd (let f : ⊥ = cc in f)
  grown_plain (File a) (Members set) e p = absurd (let f : ⊥ = cc in f)
  grown_plain (File a) (Pointer o) e p = absurd (let f : ⊥ = cc in f)
  grown_plain (File a) (Routine path parent) e p = absurd (let f : ⊥ = cc in f)
  grown_plain (File a) (Refers root way type) e p = absurd (let f : ⊥ = cc in f)
  grown_plain Undefined w e p = e
  grown_plain (Number n) w e p = e
  grown_plain (Members set) w e p = e
  grown_plain (Pointer o) w e p = e
  grown_plain (Routine path parent) w e p = e
  grown_plain (Refers root way type) w e p = e

  all_grown_plain : (vs ws : Values) → all_alike vs ws ≡ true → all_plain ws ≡ true → AllGrown vs ws
  all_grown_plain NoValues NoValues e p = tt
  all_grown_plain NoValues (Then w ws) e p = absurd (let f : ⊥ = cc in f)
  all_grown_plain (Then v vs) NoValues e p = absurd (let f : ⊥ = cc in f)
  all_grown_plain (Then v vs) (Then w ws) e p =
      let a = and_parts (alike v w) (all_alike vs ws) e in
      let b = and_parts (is_plain w) (all_plain ws) p in
      (grown_plain v w a.0 b.0, all_grown_plain vs ws a.1 b.1)

-- ---- a component that has grown

grown_at : (vs : Values) (i : ℕ) (x : Value) (change : Value → Value) → value_at vs i ≡ Some x → Grown x (change x) → AllGrown vs (changed_at i change vs)
grown_at NoValues i x change e g = absurd (let f : ⊥ = cc in f)
grown_at (Then v more) zero x change e g = let same : x ≡ v = cc in (subst (λ y. Grown y (change y)) same g, all_grown_itself more)
grown_at (Then v more) (suc i) x change e g = (grown_itself v, grown_at more i x change e g)

grown_part : (v : Value) (i : ℕ) (x : Value) (change : Value → Value) → part_in (Some v) i ≡ Some x → Grown x (change x) → Grown v (changed_in i change v)
grown_part (Structure vs) i x change e g = grown_at vs i x change e g
grown_part (File f) i x change e g = absurd (let f : ⊥ = cc in f)
grown_part Undefined i x change e g = absurd (let f : ⊥ = cc in f)
grown_part (Number n) i x change e g = absurd (let f : ⊥ = cc in f)
grown_part (Members set) i x change e g = absurd (let f : ⊥ = cc in f)
grown_part (Pointer o) i x change e g = absurd (let f : ⊥ = cc in f)
grown_part (Routine path parent) i x change e g = absurd (let f : ⊥ = cc in f)
grown_part (Refers root way type) i x change e g = absurd (let f : ⊥ = cc in f)

pub grown_changed : (v : Value) (way : List ℕ) (x : Value) (change : Value → Value) → component v way ≡ Some x → Grown x (change x) → Grown v (changed v way change)
grown_changed v [] x change e g = let same : x ≡ v = cc in subst (λ y. Grown y (change y)) same g
grown_changed v (i ∷ way) x change e g = by (λ whole. grown_changed v way whole (changed_in i change)) (component v way) refl e
  where
    by : ((whole : Value) → component v way ≡ Some whole → Grown whole (changed_in i change whole) → Grown v (changed v way (changed_in i change))) → (o : Option Value) →
        component v way ≡ o → part_in o i ≡ Some x → Grown v (changed v way (changed_in i change))
    by within None h e = absurd (let f : ⊥ = cc in f)
    by within (Some whole) h e = within whole h (grown_part whole i x change e g)

-- ---- the standard files hold no tag: behind a single value in them nothing stands

abbrev pub is_last : Values → Bool
is_last NoValues = true
is_last (Then v more) = false

abbrev mutual
  pub NoTags : Value → Type 0
  NoTags (Structure vs) = NoTagsIn vs
  NoTags v = Unit {0}

  pub NoTagsIn : Values → Type 0
  NoTagsIn NoValues = Unit {0}
  NoTagsIn (Then v more) = (is_scalar v ≡ true → is_last more ≡ true) × NoTags v × NoTagsIn more

last_grown : (vs ws : Values) → AllGrown vs ws → is_last vs ≡ true → is_last ws ≡ true
last_grown NoValues NoValues g e = refl
last_grown NoValues (Then w ws) g e = absurd g
last_grown (Then v vs) ws g e = absurd (let f : ⊥ = cc in f)

scalar_before : (v w : Value) → Grown v w → is_scalar w ≡ true → is_scalar v ≡ true
scalar_before Undefined w g e = refl
scalar_before (Number n) w g e = refl
scalar_before (Members set) w g e = refl
scalar_before (Pointer o) w g e = refl
scalar_before (Routine path parent) w g e = refl
scalar_before (Refers root way type) w g e = refl
scalar_before (Structure vs) (Structure ws) g e = absurd (let f : ⊥ = cc in f)
scalar_before (Structure vs) (File x) g e = absurd g
scalar_before (Structure vs) Undefined g e = absurd g
scalar_before (Structure vs) (Number n) g e = absurd g
scalar_before (Structure vs) (Members set) g e = absurd g
scalar_before (Structure vs) (Pointer o) g e = absurd g
scalar_before (Structure vs) (Routine path parent) g e = absurd g
scalar_before (Structure vs) (Refers root way type) g e = absurd g
scalar_before (File a) (File b) g e = absurd (let f : ⊥ = cc in f)
scalar_before (File a) (Structure ws) g e = absurd g
scalar_before (File a) Undefined g e = absurd g
scalar_before (File a) (Number n) g e = absurd g
scalar_before (File a) (Members set) g e = absurd g
scalar_before (File a) (Pointer o) g e = absurd g
scalar_before (File a) (Routine path parent) g e = absurd g
scalar_before (File a) (Refers root way type) g e = absurd g

mutual
  pub tags_grown : (v w : Value) → Grown v w → NoTags v → NoTags w
  tags_grown (Structure vs) (Structure ws) g n = all_tags_grown vs ws g n
  tags_grown (File a) (Structure ws) g n = absurd g
  tags_grown Undefined (Structure ws) g n = absurd (let f : ⊥ = cc in f)
  tags_grown (Number m) (Structure ws) g n = absurd (let f : ⊥ = cc in f)
  tags_grown (Members set) (Structure ws) g n = absurd (let f : ⊥ = cc in f)
  tags_grown (Pointer o) (Structure ws) g n = absurd (let f : ⊥ = cc in f)
  tags_grown (Routine path parent) (Structure ws) g n = absurd (let f : ⊥ = cc in f)
  tags_grown (Refers root way type) (Structure ws) g n = absurd (let f : ⊥ = cc in f)
  tags_grown v (File b) g n = tt
  tags_grown v Undefined g n = tt
  tags_grown v (Number m) g n = tt
  tags_grown v (Members set) g n = tt
  tags_grown v (Pointer o) g n = tt
  tags_grown v (Routine path parent) g n = tt
  tags_grown v (Refers root way type) g n = tt

  all_tags_grown : (vs ws : Values) → AllGrown vs ws → NoTagsIn vs → NoTagsIn ws
  all_tags_grown NoValues NoValues g n = tt
  all_tags_grown NoValues (Then w ws) g n = absurd g
  all_tags_grown (Then v vs) NoValues g n = absurd g
  all_tags_grown (Then v vs) (Then w ws) g n = (λ e. last_grown vs ws g.1 (n.0 (scalar_before v w g.0 e)), tags_grown v w g.0 n.1, all_tags_grown vs ws g.1 n.2)

-- so where a tag would be set, nothing behind it is cleared
tags_at : (vs : Values) (i : ℕ) (x : Value) → NoTagsIn vs → value_at vs i ≡ Some x → NoTags x
tags_at NoValues i x n e = absurd (let f : ⊥ = cc in f)
tags_at (Then v more) zero x n e = let same : v ≡ x = cc in subst NoTags same n.1
tags_at (Then v more) (suc i) x n e = tags_at more i x n.2 e

tags_in : (v : Value) (i : ℕ) (x : Value) → NoTags v → part_in (Some v) i ≡ Some x → NoTags x
tags_in (Structure vs) i x n e = tags_at vs i x n e
tags_in (File f) i x n e = absurd (let f : ⊥ = cc in f)
tags_in Undefined i x n e = absurd (let f : ⊥ = cc in f)
tags_in (Number m) i x n e = absurd (let f : ⊥ = cc in f)
tags_in (Members set) i x n e = absurd (let f : ⊥ = cc in f)
tags_in (Pointer o) i x n e = absurd (let f : ⊥ = cc in f)
tags_in (Routine path parent) i x n e = absurd (let f : ⊥ = cc in f)
tags_in (Refers root way type) i x n e = absurd (let f : ⊥ = cc in f)

pub tags_of_component : (v : Value) (way : List ℕ) (x : Value) → NoTags v → component v way ≡ Some x → NoTags x
tags_of_component v [] x n e = let same : v ≡ x = cc in subst NoTags same n
tags_of_component v (i ∷ way) x n e = by (λ whole. tags_of_component v way whole n) (component v way) refl e
  where
    by : ((whole : Value) → component v way ≡ Some whole → NoTags whole) → (o : Option Value) → component v way ≡ o → part_in o i ≡ Some x → NoTags x
    by within None h e = absurd (let f : ⊥ = cc in f)
    by within (Some whole) h e = tags_in whole i x (within whole h) e

retagged_grown_at : (i : ℕ) (new : Value) (slots cells : ℕ) (vs : Values) → NoTagsIn vs → is_scalar new ≡ true → can_retag_at i slots cells vs ≡ true →
    AllGrown vs (retagged_at i new slots vs)
retagged_grown_at i new slots cells NoValues n s e = tt
retagged_grown_at (suc i) new slots cells (Then v more) n s e = (grown_itself v, retagged_grown_at i new slots cells more n.2 s e)
retagged_grown_at zero new slots cells (Then v more) n s e =
    let p = and_parts (is_scalar v) (nat_eq (cells_of_first slots more) cells) e in
    (single v p.0, behind more (n.0 p.0))
  where
    single : (v : Value) → is_scalar v ≡ true → Grown v new
    single (Structure vs) e = absurd (let f : ⊥ = cc in f)
    single (File f) e = absurd (let f : ⊥ = cc in f)
    single Undefined e = s
    single (Number m) e = s
    single (Members set) e = s
    single (Pointer o) e = s
    single (Routine path parent) e = s
    single (Refers root way type) e = s

    behind : (more : Values) → is_last more ≡ true → AllGrown more (cleared_first slots more)
    behind NoValues e = tt
    behind (Then w others) e = absurd (let f : ⊥ = cc in f)

pub retagged_grown : (i : ℕ) (new : Value) (slots cells : ℕ) (v : Value) → NoTags v → is_scalar new ≡ true → can_retag i slots cells v ≡ true → Grown v (retagged i new slots v)
retagged_grown i new slots cells (Structure vs) n s e = retagged_grown_at i new slots cells vs n s e
retagged_grown i new slots cells (File f) n s e = absurd (let f : ⊥ = cc in f)
retagged_grown i new slots cells Undefined n s e = absurd (let f : ⊥ = cc in f)
retagged_grown i new slots cells (Number m) n s e = absurd (let f : ⊥ = cc in f)
retagged_grown i new slots cells (Members set) n s e = absurd (let f : ⊥ = cc in f)
retagged_grown i new slots cells (Pointer o) n s e = absurd (let f : ⊥ = cc in f)
retagged_grown i new slots cells (Routine path parent) n s e = absurd (let f : ⊥ = cc in f)
retagged_grown i new slots cells (Refers root way type) n s e = absurd (let f : ⊥ = cc in f)

-- ---- calls on files leave what stands before the position, and more

abbrev pub FileGrows : {A : Type 0} → TextFile → FileCall A → Type 0
FileGrows f (Gives v g) = Longer f.before g.before
FileGrows f (Fails fault) = Unit {0}

if_grows : {A : Type 0} (f : TextFile) (b : Bool) (call : FileCall A) (n : ℕ) → FileGrows f call → FileGrows f (if b then call else Fails n)
if_grows f true call n g = g
if_grows f false call n g = tt

or_fails : {A : Type 0} (f : TextFile) (b : Bool) (n : ℕ) (call : FileCall A) → FileGrows f call → FileGrows f (if b then Fails n else call)
or_fails f true n call g = tt
or_fails f false n call g = g

at_item_grows : {A : Type 0} (f g : TextFile) (call : FileCall A) → FileGrows f call → FileGrows f (at_item g call)
at_item_grows f g call h = if_grows f (is_reading g.state) _ WRONG_STATE (or_fails f (is_nothing g.behind) END_OF_FILE call h)

moved_longer : (n : ℕ) (f : TextFile) → Longer f.before (moved n f).before
moved_longer n f = (take n f.behind, refl)

pub get_grows : (f : TextFile) → FileGrows f (get f)
get_grows f = at_item_grows f f (Gives tt (moved 1 f)) (moved_longer 1 f)

pub read_line_grows : (f : TextFile) → FileGrows f (read_line f)
read_line_grows f = at_item_grows f f (Gives tt (moved _ f)) (moved_longer _ f)

pub read_number_grows : (f : TextFile) → FileGrows f (read_number f)
read_number_grows f =
    at_item_grows f (past_spaces f) (number_at (past_spaces f) (past_spaces f).behind)
    (or_fails f (is_nothing (digits_of (past_spaces f).behind)) NO_NUMBER _ (or_fails f (nat_lt MAXINT (value_of (digits_of (past_spaces f).behind))) INTEGER_OVERFLOW _ further))
  where
    further : Longer f.before (moved (sign_len (past_spaces f).behind + length (digits_of (past_spaces f).behind)) (past_spaces f)).before
    further = longer_still f.before (past_spaces f).before _ (moved_longer (prefix_len is_space f.behind) f) (moved_longer _ (past_spaces f))

pub write_grows : (items : List Item) (f : TextFile) → FileGrows f (write_items items f)
write_grows items f = if_grows f (is_writing f.state) (Gives tt (with_written items f)) WRONG_STATE (items, refl)

-- ---- the bytes of `output`

abbrev GrownIf : Option Value → Option Value → Type 0
GrownIf (Some v) (Some w) = Grown v w
GrownIf None None = Unit {0}
GrownIf o q = ⊥

value_grown : (vs ws : Values) (i : ℕ) → AllGrown vs ws → GrownIf (value_at vs i) (value_at ws i)
value_grown NoValues NoValues i g = tt
value_grown NoValues (Then w ws) i g = absurd g
value_grown (Then v vs) NoValues i g = absurd g
value_grown (Then v vs) (Then w ws) zero g = g.0
value_grown (Then v vs) (Then w ws) (suc i) g = value_grown vs ws i g.1

no_part : (w : Value) (i : ℕ) → is_scalar w ≡ true → GrownIf None (part_in (Some w) i)
no_part (Structure ws) i e = absurd (let f : ⊥ = cc in f)
no_part (File g) i e = tt
no_part Undefined i e = tt
no_part (Number n) i e = tt
no_part (Members set) i e = tt
no_part (Pointer o) i e = tt
no_part (Routine path parent) i e = tt
no_part (Refers root way type) i e = tt

part_of_value : (v w : Value) (i : ℕ) → Grown v w → GrownIf (part_in (Some v) i) (part_in (Some w) i)
part_of_value (Structure vs) (Structure ws) i g = value_grown vs ws i g
part_of_value (Structure vs) (File x) i g = absurd g
part_of_value (Structure vs) Undefined i g = absurd g
part_of_value (Structure vs) (Number n) i g = absurd g
part_of_value (Structure vs) (Members set) i g = absurd g
part_of_value (Structure vs) (Pointer o) i g = absurd g
part_of_value (Structure vs) (Routine path parent) i g = absurd g
part_of_value (Structure vs) (Refers root way type) i g = absurd g
part_of_value (File a) (File b) i g = tt
part_of_value (File a) (Structure ws) i g = absurd g
part_of_value (File a) Undefined i g = absurd g
part_of_value (File a) (Number n) i g = absurd g
part_of_value (File a) (Members set) i g = absurd g
part_of_value (File a) (Pointer o) i g = absurd g
part_of_value (File a) (Routine path parent) i g = absurd g
part_of_value (File a) (Refers root way type) i g = absurd g
part_of_value Undefined w i g = no_part w i g
part_of_value (Number n) w i g = no_part w i g
part_of_value (Members set) w i g = no_part w i g
part_of_value (Pointer o) w i g = no_part w i g
part_of_value (Routine path parent) w i g = no_part w i g
part_of_value (Refers root way type) w i g = no_part w i g

part_grown : (o q : Option Value) (i : ℕ) → GrownIf o q → GrownIf (part_in o i) (part_in q i)
part_grown (Some v) (Some w) i g = part_of_value v w i g
part_grown None None i g = tt
part_grown (Some v) None i g = absurd g
part_grown None (Some w) i g = absurd g

component_grown : (v w : Value) (way : List ℕ) → Grown v w → GrownIf (component v way) (component w way)
component_grown v w [] g = g
component_grown v w (i ∷ way) g = part_grown (component v way) (component w way) i (component_grown v w way g)

no_file : (w : Value) → is_scalar w ≡ true → (file_in (Some w)).before ≡ []
no_file (Structure ws) e = absurd (let f : ⊥ = cc in f)
no_file (File g) e = absurd (let f : ⊥ = cc in f)
no_file Undefined e = refl
no_file (Number n) e = refl
no_file (Members set) e = refl
no_file (Pointer o) e = refl
no_file (Routine path parent) e = refl
no_file (Refers root way type) e = refl

file_of_value : (v w : Value) → Grown v w → Longer (file_in (Some v)).before (file_in (Some w)).before
file_of_value (Structure vs) (Structure ws) g = longer_itself []
file_of_value (Structure vs) (File x) g = absurd g
file_of_value (Structure vs) Undefined g = absurd g
file_of_value (Structure vs) (Number n) g = absurd g
file_of_value (Structure vs) (Members set) g = absurd g
file_of_value (Structure vs) (Pointer o) g = absurd g
file_of_value (Structure vs) (Routine path parent) g = absurd g
file_of_value (Structure vs) (Refers root way type) g = absurd g
file_of_value (File a) (File b) g = g
file_of_value (File a) (Structure ws) g = absurd g
file_of_value (File a) Undefined g = absurd g
file_of_value (File a) (Number n) g = absurd g
file_of_value (File a) (Members set) g = absurd g
file_of_value (File a) (Pointer o) g = absurd g
file_of_value (File a) (Routine path parent) g = absurd g
file_of_value (File a) (Refers root way type) g = absurd g
file_of_value Undefined w g = ([], no_file w g)
file_of_value (Number n) w g = ([], no_file w g)
file_of_value (Members set) w g = ([], no_file w g)
file_of_value (Pointer o) w g = ([], no_file w g)
file_of_value (Routine path parent) w g = ([], no_file w g)
file_of_value (Refers root way type) w g = ([], no_file w g)

file_grown : (o q : Option Value) → GrownIf o q → Longer (file_in o).before (file_in q).before
file_grown (Some v) (Some w) g = file_of_value v w g
file_grown None None g = longer_itself []
file_grown (Some v) None g = absurd g
file_grown None (Some w) g = absurd g

bytes_append : (xs ys : List Item) → bytes_of (xs ++ ys) ≡ bytes_of xs ++ bytes_of ys
bytes_append [] ys = refl
bytes_append (x ∷ xs) ys = ap (λ l. byte_of x ∷ l) (bytes_append xs ys)

pub output_grown : (c d : Configuration) → Grown (c.roots 0).value (d.roots 0).value → (more : List ℕ) × (output_of d ≡ output_of c ++ more)
output_grown c d g =
    let files = file_grown (component (c.roots 0).value (0 ∷ 1 ∷ [])) (component (d.roots 0).value (0 ∷ 1 ∷ []))
    (component_grown (c.roots 0).value (d.roots 0).value (0 ∷ 1 ∷ []) g) in
    (bytes_of files.0, ap bytes_of files.1 ∙ bytes_append (file_in (component (c.roots 0).value (0 ∷ 1 ∷ []))).before files.0)
