-- The test of an access's form tells what it should.
use Rattle.std.proofs.Common.{◌≡◌, true, false, List, [], ◌∷◌, ◌++◌, refl, ap, sym, ◌∙◌, append_assoc}
use Rattle.mp_script.specs.declared.access.AccessPart.{AccessPart}
use Rattle.mp_script.specs.declared.access.AccessPart.TheVariants as part
use Rattle.mp_script.specs.declared.access.Stage.{Stage}
use Rattle.mp_script.specs.declared.access.Stage.TheVariants as stage
use Rattle.mp_script.specs.Access.{Index, Number, Signed, Char, Name, Selector, Indexed, Field, Pointed, IsAccess, IsFormTested, after, completes}
use Rattle.mp_script.specs.Access.{have_form, is_complete, parts_of_index, parts_of_more, parts_of_selectors}

-- what completes an access, by what may come next
record AreSelectors (parts : List AccessPart) : Type 0 where
  selectors : List Selector
  all : parts ≡ parts_of_selectors selectors

record IsField (parts : List AccessPart) : Type 0 where
  selectors : List Selector
  all : parts ≡ part.Name ∷ parts_of_selectors selectors

record AreIndexes (parts : List AccessPart) : Type 0 where
  index : Index
  more : List Index
  selectors : List Selector
  all : parts ≡ parts_of_index index ++ (parts_of_more more ++ (part.Close ∷ parts_of_selectors selectors))

record IsNumber (parts : List AccessPart) : Type 0 where
  more : List Index
  selectors : List Selector
  all : parts ≡ part.Number ∷ (parts_of_more more ++ (part.Close ∷ parts_of_selectors selectors))

record AreClosed (parts : List AccessPart) : Type 0 where
  more : List Index
  selectors : List Selector
  all : parts ≡ parts_of_more more ++ (part.Close ∷ parts_of_selectors selectors)

abbrev Completes : Stage → List AccessPart → Type 0
Completes stage.Start parts = IsAccess parts
Completes stage.Selectors parts = AreSelectors parts
Completes stage.Field parts = IsField parts
Completes stage.Index parts = AreIndexes parts
Completes stage.Number parts = IsNumber parts
Completes stage.Close parts = AreClosed parts
Completes stage.Wrong parts = ⊥

regrouped : (a b c : List AccessPart) → a ++ (b ++ (part.Close ∷ c)) ≡ (a ++ (b ++ (part.Close ∷ []))) ++ c
regrouped a b c = ap (λ t. a ++ t) (sym (append_assoc b (part.Close ∷ []) c)) ∙ sym (append_assoc a (b ++ (part.Close ∷ [])) c)

one_more : (s : Stage) (p : AccessPart) (parts : List AccessPart) → Completes (after s p) parts → Completes s (p ∷ parts)
unfolding parts_of_more parts_of_selectors
one_more stage.Start part.Name parts m = record { selectors = m.selectors; all = ap (λ t. part.Name ∷ t) m.all }
one_more stage.Start part.Number parts m = absurd m
one_more stage.Start part.Char parts m = absurd m
one_more stage.Start part.Sign parts m = absurd m
one_more stage.Start part.Dot parts m = absurd m
one_more stage.Start part.Caret parts m = absurd m
one_more stage.Start part.Open parts m = absurd m
one_more stage.Start part.Comma parts m = absurd m
one_more stage.Start part.Close parts m = absurd m
one_more stage.Start part.Other parts m = absurd m
one_more stage.Selectors part.Name parts m = absurd m
one_more stage.Selectors part.Number parts m = absurd m
one_more stage.Selectors part.Char parts m = absurd m
one_more stage.Selectors part.Sign parts m = absurd m
one_more stage.Selectors part.Dot parts m = record { selectors = Field ∷ m.selectors; all = ap (λ t. part.Dot ∷ t) m.all }
one_more stage.Selectors part.Caret parts m = record { selectors = Pointed ∷ m.selectors; all = ap (λ t. part.Caret ∷ t) m.all }
one_more stage.Selectors part.Open parts m =
    record {
      selectors = Indexed m.index m.more ∷ m.selectors;
      all = ap (λ t. part.Open ∷ t) (m.all ∙ regrouped (parts_of_index m.index) (parts_of_more m.more) (parts_of_selectors m.selectors));
    }
one_more stage.Selectors part.Comma parts m = absurd m
one_more stage.Selectors part.Close parts m = absurd m
one_more stage.Selectors part.Other parts m = absurd m
one_more stage.Field part.Name parts m = record { selectors = m.selectors; all = ap (λ t. part.Name ∷ t) m.all }
one_more stage.Field part.Number parts m = absurd m
one_more stage.Field part.Char parts m = absurd m
one_more stage.Field part.Sign parts m = absurd m
one_more stage.Field part.Dot parts m = absurd m
one_more stage.Field part.Caret parts m = absurd m
one_more stage.Field part.Open parts m = absurd m
one_more stage.Field part.Comma parts m = absurd m
one_more stage.Field part.Close parts m = absurd m
one_more stage.Field part.Other parts m = absurd m
one_more stage.Index part.Name parts m = record { index = Name; more = m.more; selectors = m.selectors; all = ap (λ t. part.Name ∷ t) m.all }
one_more stage.Index part.Number parts m = record { index = Number; more = m.more; selectors = m.selectors; all = ap (λ t. part.Number ∷ t) m.all }
one_more stage.Index part.Char parts m = record { index = Char; more = m.more; selectors = m.selectors; all = ap (λ t. part.Char ∷ t) m.all }
one_more stage.Index part.Sign parts m = record { index = Signed; more = m.more; selectors = m.selectors; all = ap (λ t. part.Sign ∷ t) m.all }
one_more stage.Index part.Dot parts m = absurd m
one_more stage.Index part.Caret parts m = absurd m
one_more stage.Index part.Open parts m = absurd m
one_more stage.Index part.Comma parts m = absurd m
one_more stage.Index part.Close parts m = absurd m
one_more stage.Index part.Other parts m = absurd m
one_more stage.Number part.Name parts m = absurd m
one_more stage.Number part.Number parts m = record { more = m.more; selectors = m.selectors; all = ap (λ t. part.Number ∷ t) m.all }
one_more stage.Number part.Char parts m = absurd m
one_more stage.Number part.Sign parts m = absurd m
one_more stage.Number part.Dot parts m = absurd m
one_more stage.Number part.Caret parts m = absurd m
one_more stage.Number part.Open parts m = absurd m
one_more stage.Number part.Comma parts m = absurd m
one_more stage.Number part.Close parts m = absurd m
one_more stage.Number part.Other parts m = absurd m
one_more stage.Close part.Name parts m = absurd m
one_more stage.Close part.Number parts m = absurd m
one_more stage.Close part.Char parts m = absurd m
one_more stage.Close part.Sign parts m = absurd m
one_more stage.Close part.Dot parts m = absurd m
one_more stage.Close part.Caret parts m = absurd m
one_more stage.Close part.Open parts m = absurd m
one_more stage.Close part.Comma parts m =
    record {
      more = m.index ∷ m.more;
      selectors = m.selectors;
      all = ap (λ t. part.Comma ∷ t)
          (m.all ∙ sym (append_assoc (parts_of_index m.index) (parts_of_more m.more) (part.Close ∷ parts_of_selectors m.selectors)));
    }
one_more stage.Close part.Close parts m = record { more = []; selectors = m.selectors; all = ap (λ t. part.Close ∷ t) m.all }
one_more stage.Close part.Other parts m = absurd m
one_more stage.Wrong part.Name parts m = absurd m
one_more stage.Wrong part.Number parts m = absurd m
one_more stage.Wrong part.Char parts m = absurd m
one_more stage.Wrong part.Sign parts m = absurd m
one_more stage.Wrong part.Dot parts m = absurd m
one_more stage.Wrong part.Caret parts m = absurd m
one_more stage.Wrong part.Open parts m = absurd m
one_more stage.Wrong part.Comma parts m = absurd m
one_more stage.Wrong part.Close parts m = absurd m
one_more stage.Wrong part.Other parts m = absurd m

no_more : (s : Stage) → is_complete s ≡ true → Completes s []
unfolding parts_of_selectors
no_more stage.Start e = let f : false ≡ true = e in absurd (cc)
no_more stage.Selectors e = record { selectors = []; all = refl }
no_more stage.Field e = let f : false ≡ true = e in absurd (cc)
no_more stage.Index e = let f : false ≡ true = e in absurd (cc)
no_more stage.Number e = let f : false ≡ true = e in absurd (cc)
no_more stage.Close e = let f : false ≡ true = e in absurd (cc)
no_more stage.Wrong e = let f : false ≡ true = e in absurd (cc)

completed : (parts : List AccessPart) (s : Stage) → completes s parts ≡ true → Completes s parts
unfolding completes
completed [] s e = no_more s e
completed (p ∷ parts) s e = one_more s p parts (completed parts (after s p) e)

index_read : (index : Index) (parts : List AccessPart) → completes stage.Index (parts_of_index index ++ parts) ≡ completes stage.Close parts
unfolding completes
index_read Number parts = refl
index_read Signed parts = refl
index_read Char parts = refl
index_read Name parts = refl

more_read : (more : List Index) (parts : List AccessPart) → completes stage.Close (parts_of_more more ++ parts) ≡ completes stage.Close parts
unfolding completes parts_of_more
more_read [] parts = refl
more_read (index ∷ more) parts = ap (completes stage.Index) (append_assoc (parts_of_index index) (parts_of_more more) parts)
    ∙ index_read index (parts_of_more more ++ parts) ∙ more_read more parts

selectors_read : (selectors : List Selector) → completes stage.Selectors (parts_of_selectors selectors) ≡ true
unfolding completes parts_of_selectors
selectors_read [] = refl
selectors_read (Field ∷ selectors) = selectors_read selectors
selectors_read (Pointed ∷ selectors) = selectors_read selectors
selectors_read (Indexed index more ∷ selectors) =
    let rest = parts_of_selectors selectors in
    ap (completes stage.Index) (sym (regrouped (parts_of_index index) (parts_of_more more) rest))
    ∙ index_read index (parts_of_more more ++ (part.Close ∷ rest)) ∙ more_read more (part.Close ∷ rest) ∙ selectors_read selectors

access_read : (parts : List AccessPart) → IsAccess parts → have_form parts ≡ true
unfolding completes
access_read parts h = ap have_form h.all ∙ selectors_read h.selectors

pub form_tested : (parts : List AccessPart) → IsFormTested parts
form_tested parts = ((λ e. completed parts stage.Start e), (λ h. access_read parts h))
