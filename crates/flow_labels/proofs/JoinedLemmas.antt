-- Names are written one after the other.
use Rattle.std.proofs.Common.{◌≡◌, ℕ, ◌+◌, ◌<◌, List, [], ◌∷◌, ◌++◌, length, take, map, get_or, refl, sym, ap, ◌∙◌, arith, append_assoc, append-nil, zero, suc}
use Rattle.std.proofs.lemmas.List.{take_more}
use Rattle.flow_labels.specs.TwoLists.{Text, after_commas, joined}

after_push : (ns : List Text) (n : Text) → after_commas (ns ++ n ∷ []) ≡ after_commas ns ++ 44 ∷ n
after_push [] n = ap (λ (t : Text). 44 ∷ t) (append-nil n)
after_push (m ∷ ns) n = ap (λ (t : Text). 44 ∷ t) (ap (λ (t : Text). m ++ t) (after_push ns n) ∙ sym (append_assoc m (after_commas ns) (44 ∷ n)))

joined_push : (m : Text) (ns : List Text) (n : Text) → joined ((m ∷ ns) ++ n ∷ []) ≡ joined (m ∷ ns) ++ 44 ∷ n
joined_push m ns n = ap (λ (t : Text). m ++ t) (after_push ns n) ∙ sym (append_assoc m (after_commas ns) (44 ∷ n))

map_push : (f : ℕ → Text) (ts : List ℕ) (t : ℕ) → map f (ts ++ t ∷ []) ≡ map f ts ++ f t ∷ []
map_push f [] t = refl
map_push f (x ∷ ts) t = ap (λ (ns : List Text). f x ∷ ns) (map_push f ts t)

-- the names of the tags up to a place
abbrev pub Written : (ℕ → Text) → List ℕ → Text → Text → ℕ → Type 0
Written f tags start now i = now ≡ start ++ joined (map f (take i tags))

one_more : (f : ℕ → Text) (tags : List ℕ) (i t : ℕ) → i < length tags → t ≡ get_or tags i t → map f (take (i + 1) tags) ≡ map f (take i tags) ++ f t ∷ []
one_more f tags i t less is = ap (map f) (take_more tags i t less ∙ ap (λ (x : ℕ). take i tags ++ x ∷ []) (sym is)) ∙ map_push f (take i tags) t

-- the first name
pub first_written : (f : ℕ → Text) (tags : List ℕ) (start old new : Text) (i t : ℕ) → i ≡ 0 → i < length tags → t ≡ get_or tags i t → Written f tags start old i → new ≡ old ++ f t → Written f tags start new (i + 1)
first_written f tags start old new i t at less is so_far made =
    let none : map f (take i tags) ≡ [] = rw at refl in
    let start_only : old ≡ start = so_far ∙ ap (λ (ns : List Text). start ++ joined ns) none ∙ append-nil start in
    let now : joined (map f (take (i + 1) tags)) ≡ f t = ap joined (one_more f tags i t less is ∙ ap (λ (ns : List Text). ns ++ f t ∷ []) none) ∙ append-nil (f t) in
    made ∙ ap (λ (u : Text). u ++ f t) start_only ∙ ap (λ (u : Text). start ++ u) (sym now)

later_push : (f : ℕ → Text) (tags : List ℕ) (i : ℕ) (n : Text) → 0 < i → i < length tags → joined (map f (take i tags) ++ n ∷ []) ≡ joined (map f (take i tags)) ++ 44 ∷ n
later_push f [] i n more less = absurd (omega arith)
later_push f (x ∷ tags) zero n more less = absurd (omega arith)
later_push f (x ∷ tags) (suc i) n more less = joined_push (f x) (map f (take i tags)) n

-- a name after a comma
pub later_written : (f : ℕ → Text) (tags : List ℕ) (start old comma new : Text) (i t : ℕ) → 0 < i → i < length tags → t ≡ get_or tags i t → Written f tags start old i → comma ≡ old ++ 44 ∷ [] → new ≡ comma ++ f t → Written f tags start new (i + 1)
later_written f tags start old comma new i t more less is so_far then_comma made =
    let now : joined (map f (take (i + 1) tags)) ≡ joined (map f (take i tags)) ++ 44 ∷ f t = ap joined (one_more f tags i t less is) ∙ later_push f tags i (f t) more less in
    made ∙ ap (λ (u : Text). u ++ f t) then_comma ∙ append_assoc old (44 ∷ []) (f t) ∙ ap (λ (u : Text). u ++ 44 ∷ f t) so_far
    ∙ append_assoc start (joined (map f (take i tags))) (44 ∷ f t) ∙ ap (λ (u : Text). start ++ u) (sym now)
