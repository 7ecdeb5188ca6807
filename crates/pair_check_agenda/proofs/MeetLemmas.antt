-- Where two lists of entries meet.
use Rattle.std.proofs.Common.{◌≡◌, ◌<◌, ◌+◌, ℕ, Bool, true, false, cond, List, [], ◌∷◌, ◌++◌, length, take, get_or, Some, refl, sym, ap, ◌∙◌}
use Rattle.std.specs.Prelude.{◌||◌, min, slice_get}
use Rattle.std.specs.Option.{option_map}
use Rattle.std.proofs.lemmas.List.{take_more, length-map, map-append}
use Rattle.std.proofs.lemmas.Option.{slice_get_read, slice_get-map, slice_get_within, get_or_from_slice_get}
use Rattle.lam_machine_terms.specs.Views.{Item}
use Rattle.pair_check_terms.specs.declared.answer.PairAnswer.TheVariants.{TurnsDiffer, ReleaseDiffers}
use Rattle.pair_check_terms.specs.Pairs.{is_turn, GoTogether, IsMet}
use Rattle.pair_check_agenda.specs.declared.entry.Entry.{Entry}
use Rattle.pair_check_agenda.specs.Agendas.{item_in, items_in}

-- an entry more
pub pushed : (es fs : List Entry) (x : Entry) → fs ≡ es ++ x ∷ [] → items_in fs ≡ items_in es ++ item_in x ∷ []
pushed es fs x e = ap (λ (l : List Entry). items_in l) e ∙ map-append item_in es (x ∷ [])

-- the item of an entry stands at its place
item_at : (es : List Entry) (n : ℕ) (x : Entry) → n < length es → x ≡ get_or es n x → slice_get (items_in es) n ≡ Some (item_in x)
item_at es n x lt is = slice_get-map item_in es n ∙ ap (option_map item_in) (slice_get_read es (length es) n x refl lt is)

front_more : (es : List Entry) (n : ℕ) (x : Entry) → n < length es → x ≡ get_or es n x → take (n + 1) (items_in es) ≡ take n (items_in es) ++ item_in x ∷ []
front_more es n x lt is =
    let at = item_at es n x lt is in
    take_more (items_in es) n (item_in x) (slice_get_within (items_in es) n (item_in x) at)
    ∙ ap (λ (y : Item). take n (items_in es) ++ y ∷ []) (get_or_from_slice_get (items_in es) n (item_in x) (item_in x) at)

module _ (es fs : List Entry) (n : ℕ) (same : take n (items_in es) ≡ take n (items_in fs)) where
  module _ (x y : Entry) (lt : n < length es) (lt' : n < length fs) (is : x ≡ get_or es n x) (is' : y ≡ get_or fs n y) where
    -- one entry more is equal
    pub one_same : item_in x ≡ item_in y → take (n + 1) (items_in es) ≡ take (n + 1) (items_in fs)
    one_same e =
        front_more es n x lt is
        ∙ ap (λ (front : List Item). front ++ item_in x ∷ []) same
        ∙ ap (λ (z : Item). take n (items_in fs) ++ z ∷ []) e
        ∙ sym (front_more fs n y lt' is')

    -- or it differs
    pub differ_here : (item_in x ≡ item_in y → ⊥) → IsMet (items_in es) (items_in fs) (cond (is_turn (item_in x) || is_turn (item_in y)) (TurnsDiffer n) (ReleaseDiffers n))
    differ_here apart = go (is_turn (item_in x) || is_turn (item_in y)) refl
      where
        go : (b : Bool) → (is_turn (item_in x) || is_turn (item_in y)) ≡ b → IsMet (items_in es) (items_in fs) (cond b (TurnsDiffer n) (ReleaseDiffers n))
        go true e = record { same = same; left = item_in x; right = item_in y; left_at = item_at es n x lt is; right_at = item_at fs n y lt' is'; differ = apart; kind = e }
        go false e = record { same = same; left = item_in x; right = item_in y; left_at = item_at es n x lt is; right_at = item_at fs n y lt' is'; differ = apart; kind = e }

  -- the end of one
  pub go_together : n ≡ min (length es) (length fs) → GoTogether n (items_in es) (items_in fs)
  go_together e =
      record {
        same = same;
        whole = e ∙ ap (λ k. min k (length fs)) (sym (length-map es item_in)) ∙ ap (λ k. min (length (items_in es)) k) (sym (length-map fs item_in));
      }
