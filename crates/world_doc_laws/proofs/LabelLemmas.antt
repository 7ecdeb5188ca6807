-- The tags of a label that is read are those of names.
use Rattle.std.proofs.Common.{◌≡◌, ℕ, ◌<◌, List, [], ◌∷◌, length, Option, Some, None, Result, Ok, Err, refl}
use Rattle.std.specs.Prelude.{IfOk, take, drop}
use Rattle.std.specs.Str.{bytes_eq}
use Rattle.std.specs.List.{AllByRecursion}
use Rattle.std.specs.FinSet.{from_list}
use Rattle.std.proofs.lemmas.List.Quantifiers.{position-Some}
use Rattle.flow_labels.specs.declared.Label.{Label}
use Rattle.flow_labels.specs.declared.two_lists.TwoSets.{TwoSets}
use Rattle.flow_labels.specs.declared.two_lists.Form.TheVariants.{Label as label_form}
use Rattle.flow_labels.specs.TwoLists.{Text}
use Rattle.flow_labels.specs.Names.{place_of}
use Rattle.flow_labels.specs.Reading.{◌>>=◌, found, tags_of_names, sets_of, sets_in, first_end, words, bad_place}
use Rattle.flow_labels.specs.LabelText.{label_or, label_of}
use Rattle.lam_machine_terms.specs.Valid.{AreBelow}
use Rattle.lam_machine_means.proofs.TagLemmas.{below_list}

-- the tags of a label are below a number
abbrev pub IsBelow : ℕ → Label → Type 0
IsBelow n l = AreBelow n l.s × AreBelow n l.i

abbrev AreSetsBelow : ℕ → TwoSets → Type 0
AreSetsBelow n s = AreBelow n s.first × AreBelow n s.second

pub place_below : (names : List Text) (name : Text) (t : ℕ) → place_of names name ≡ Some t → t < length names
place_below names name t e = (position-Some (bytes_eq name) names t [] e).0

onward : {A B : Type 0} (r : Result A ℕ) (Q : A → Type 0) → IfOk r Q → (f : A → Result B ℕ) (P : B → Type 0) → ((x : A) → Q x → IfOk (f x) P) → IfOk (r >>= f) P
onward (Ok x) Q q f P h = h x q
onward (Err e) Q q f P h = tt

module _ (names : List Text) where
  abbrev Below : ℕ → Type 0
  Below t = t < length names

  abbrev AllBelow : List ℕ → Type 0
  AllBelow ts = AllByRecursion Below ts

  found_below : (o : Option ℕ) (at : ℕ) → ((t : ℕ) → o ≡ Some t → Below t) → IfOk (found o at) Below
  found_below None at h = tt
  found_below (Some t) at h = h t refl

  tags_below : (ws : List (ℕ × Text)) → IfOk (tags_of_names names ws) AllBelow
  tags_below [] = tt
  tags_below (w ∷ ws) =
      onward (found (place_of names w.1) w.0) Below (found_below (place_of names w.1) w.0 (place_below names w.1)) (λ t. tags_of_names names ws >>= λ ts. Ok (t ∷ ts)) AllBelow
      (λ t l. onward (tags_of_names names ws) AllBelow (tags_below ws) (λ ts. Ok (t ∷ ts)) AllBelow (λ ts ls. (l, ls)))

  abbrev both : List ℕ → List ℕ → Result TwoSets ℕ
  both s i = Ok (record { first = from_list s; second = from_list i })

  sets_below : (a b : List (ℕ × Text)) → IfOk (sets_of names a b) (AreSetsBelow (length names))
  sets_below a b =
      onward (tags_of_names names a) AllBelow (tags_below a) (λ s. tags_of_names names b >>= λ i. both s i) (AreSetsBelow (length names))
      (λ s h. onward (tags_of_names names b) AllBelow (tags_below b) (λ i. both s i) (AreSetsBelow (length names)) (λ i k. (below_list (length names) s h, below_list (length names) i k)))

  by_form : (o : Option ℕ) (r : Result TwoSets ℕ) → IfOk r (AreSetsBelow (length names)) → IfOk (label_or o r) (IsBelow (length names))
  by_form (Some at) r h = tt
  by_form None (Ok s) h = h
  by_form None (Err at) h = tt

  pub label_below : (text : Text) → IfOk (label_of names text) (IsBelow (length names))
  label_below text = by_form (bad_place label_form text) (sets_in names text) (sets_below (words (take (first_end text) text) [] 0) (words (drop (first_end text) text) [] (first_end text)))
