-- Keywords are found by their spellings.
use Rattle.std.proofs.Common.{◌≡◌, ℕ, Bool, true, false, cond, List, [], ◌∷◌, Some, None, refl, ap, sym, ◌∙◌}
use Rattle.std.specs.Prelude.{bytes_eq}
use Rattle.std.specs.List.{find}
use Rattle.std.proofs.lemmas.Slice.Eq.{bytes_eq-Decides}
use Rattle.mp_script.specs.declared.keywords.Keyword.{Keyword}
use Rattle.mp_script.specs.declared.keywords.Keyword.TheVariants as keyword
use Rattle.mp_script.specs.Keywords.{keyword_of, keywords, spelling, IsFoundBySpelling}

-- what is found passes
find_passes : (p : Keyword → Bool) (ks : List Keyword) (k : Keyword) → find p ks ≡ Some k → p k ≡ true
find_passes p [] k e = absurd (let n : None ≡ Some k = e in cc)
find_passes p (first ∷ ks) k e = at (p first) refl (λ f. find_passes p ks k f) e
  where
    at : (b : Bool) → p first ≡ b → (find p ks ≡ Some k → p k ≡ true) → cond b (Some first) (find p ks) ≡ Some k → p k ≡ true
    at true t rest f = let same : first ≡ k = cc in sym (ap p same) ∙ t
    at false t rest f = rest f

all_named : (k : Keyword) → find (λ v. bytes_eq (spelling v) (spelling k)) keywords ≡ Some k
all_named keyword.Insert = refl
all_named keyword.Delete = refl
all_named keyword.Replace = refl
all_named keyword.Sub = refl
all_named keyword.Back = refl
all_named keyword.Text = refl
all_named keyword.Listing = refl
all_named keyword.Ready = refl
all_named keyword.Input = refl
all_named keyword.Break = refl
all_named keyword.Clear = refl
all_named keyword.Run = refl
all_named keyword.Go = refl
all_named keyword.Step = refl
all_named keyword.Show = refl
all_named keyword.Where = refl
all_named keyword.Kill = refl
all_named keyword.Quit = refl

pub found_by_spelling : (word : List ℕ) (k : Keyword) → IsFoundBySpelling word k
unfolding keyword_of
found_by_spelling word k = (
  (λ e. sym ((bytes_eq-Decides (spelling k) word).0 (find_passes (λ v. bytes_eq (spelling v) word) keywords k e))),
  (λ e. ap (λ n. find (λ v. bytes_eq (spelling v) n) keywords) e ∙ all_named k),
)
