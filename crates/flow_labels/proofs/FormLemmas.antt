-- Reading stops at the least place that continues no text of the form, and nowhere else.
use Rattle.std.proofs.Common.{◌≡◌, ℕ, ◌+◌, ◌<◌, ◌≤◌, List, [], ◌∷◌, ◌++◌, length, take, Option, Some, None, IsNone, IfSome, ◌↔◌, refl, sym, ap, subst, ◌∙◌, arith, suc}
use Rattle.std.proofs.lemmas.Option.{same_Some}
use Rattle.flow_labels.specs.TwoLists.{Text, AllNames, joined, braced, between, spelled, Spells, HasForm, IsBadPlace}
use Rattle.flow_labels.specs.Reading.{start, step, at_end, go_on, bad_from, bad_place}
use Rattle.flow_labels.specs.declared.two_lists.Form.{Form}
use Rattle.flow_labels.specs.declared.two_lists.Form.TheVariants.{Label, Caps}
use Rattle.flow_labels.specs.declared.two_lists.Side.TheVariants.{Second}
use Rattle.flow_labels.specs.declared.two_lists.Spot.{Spot}
use Rattle.flow_labels.specs.declared.two_lists.Spot.TheVariants.{Closed}
use Rattle.flow_labels.proofs.RestLemmas.{Rest, Next, IsEnd, Opened, Marked, read_on, read_back, end_read, alive}

-- ---- a text that is read to its end
not_some : {X : Type 0} {x : X} → Some x ≡ None → ⊥
not_some e = cc

ended : (form : Form) (spot : Spot) (at : ℕ) → at_end spot at ≡ None → Rest form spot []
ended form (Closed Second) at e = refl
ended form spot at e = absurd (not_some e)

is_read : (form : Form) (text : Text) (spot : Spot) (at : ℕ) → bad_from form text spot at ≡ None → Rest form spot text
is_read form [] spot at e = ended form spot at e
is_read form (b ∷ bs) spot at e =
    elim (step form spot b) as (λ o. step form spot b ≡ o → go_on o at (λ next. bad_from form bs next (at + 1)) ≡ None → Rest form spot (b ∷ bs)) [
      | None ↦ λ was stop. absurd (not_some stop)
      | Some next ↦ λ was rest. read_back form spot next b bs was (is_read form bs next (at + 1) rest)
    ] refl e

reads : (form : Form) (text : Text) (spot : Spot) (at : ℕ) → Rest form spot text → bad_from form text spot at ≡ None
reads form [] spot at h = rw (end_read form spot h) refl
reads form (b ∷ bs) spot at h =
    let next : Next form spot b bs = read_on form spot b bs h in
    rw next.1 (reads form bs next.0 (at + 1) next.2)

-- ---- a text that is not
record BadIn (form : Form) (spot : Spot) (text : Text) (j : ℕ) : Type 0 where
  within : j ≤ length text
  rest : Text
  front : Rest form spot (take j text ++ rest)
  stops : j < length text → (r : Text) → Rest form spot (take (suc j) text ++ r) → ⊥
  incomplete : Rest form spot text → ⊥

abbrev Stopped : Form → Spot → Text → ℕ → ℕ → Type 0
Stopped form spot text at k = (j : ℕ) × (k ≡ at + j) × BadIn form spot text j

stuck : (form : Form) (spot : Spot) (b : ℕ) (t : Text) → step form spot b ≡ None → Rest form spot (b ∷ t) → ⊥
stuck form spot b t none h = let next : Next form spot b t = read_on form spot b t h in not_some (sym next.1 ∙ none)

goes_on : (form : Form) (spot next : Spot) (b : ℕ) (t : Text) → step form spot b ≡ Some next → Rest form spot (b ∷ t) → Rest form next t
goes_on form spot next b t e h =
    let other : Next form spot b t = read_on form spot b t h in
    let same : other.0 ≡ next = same_Some _ _ (sym other.1 ∙ e) in
    subst (λ (s : Spot). Rest form s t) same other.2

stop_end : (form : Form) (spot : Spot) (at k : ℕ) → at_end spot at ≡ Some k → Stopped form spot [] at k
stop_end form spot at k e =
    let live = alive form spot in (
      0,
      place spot at k e,
      record {
        within = omega arith;
        rest = live.0;
        front = live.1;
        stops = λ less r h. absurd (omega arith);
        incomplete = λ h. no_end spot at k e (end_read form spot h);
      },
    )
  where
    place : (spot : Spot) (at k : ℕ) → at_end spot at ≡ Some k → k ≡ at + 0
    place (Closed Second) at k e = absurd cc
    place spot at k e = let same : at ≡ k = cc in omega arith

    no_end : (spot : Spot) (at k : ℕ) → at_end spot at ≡ Some k → spot ≡ Closed Second → ⊥
    no_end spot at k e same = let none : at_end spot at ≡ None = rw same refl in not_some (sym e ∙ none)

stop_here : (form : Form) (spot : Spot) (b : ℕ) (bs : Text) (at k : ℕ) → step form spot b ≡ None → Some at ≡ Some k → Stopped form spot (b ∷ bs) at k
stop_here form spot b bs at k none e =
    let live = alive form spot in
    let same : at ≡ k = cc in (
      0,
      omega arith,
      record {
        within = omega arith;
        rest = live.0;
        front = live.1;
        stops = λ less r h. stuck form spot b r none h;
        incomplete = λ h. stuck form spot b bs none h;
      },
    )

stop_later : (form : Form) (spot next : Spot) (b : ℕ) (bs : Text) (at k : ℕ) → step form spot b ≡ Some next → Stopped form next bs (at + 1) k → Stopped form spot (b ∷ bs) at k
stop_later form spot next b bs at k was later =
    let j : ℕ = later.0 in
    let is : k ≡ at + 1 + later.0 = later.1 in
    let h : BadIn form next bs later.0 = later.2 in (
      suc later.0,
      omega arith,
      record {
        within = let w : later.0 ≤ length bs = h.within in omega arith;
        rest = h.rest;
        front = read_back form spot next b (take later.0 bs ++ h.rest) was h.front;
        stops = λ less r longer. h.stops (omega arith) r (goes_on form spot next b (take (suc later.0) bs ++ r) was longer);
        incomplete = λ all. h.incomplete (goes_on form spot next b bs was all);
      },
    )

stops_at : (form : Form) (text : Text) (spot : Spot) (at k : ℕ) → bad_from form text spot at ≡ Some k → Stopped form spot text at k
stops_at form [] spot at k e = stop_end form spot at k e
stops_at form (b ∷ bs) spot at k e =
    elim (step form spot b) as (λ o. step form spot b ≡ o → go_on o at (λ next. bad_from form bs next (at + 1)) ≡ Some k → Stopped form spot (b ∷ bs) at k) [
      | None ↦ λ was stop. stop_here form spot b bs at k was stop
      | Some next ↦ λ was rest. stop_later form spot next b bs at k was (stops_at form bs next (at + 1) k rest)
    ] refl e

-- ---- what may follow at the start are the texts of the form
spelled_rest : (form : Form) (a b : List Text) → AllNames a → AllNames b → Rest form (start form) (spelled form a b)
spelled_rest form a b alla allb = at form
  where
    second : (form : Form) → Marked (between form) (Marked 123 (Opened IsEnd)) (between form ∷ braced b [])
    second form = record { rest = braced b []; goes = record { rest = joined b ++ 125 ∷ []; goes = record { names = b; rest = []; all = allb; goes = refl; text_is = refl }; text_is = refl }; text_is = refl }

    first : (form : Form) → Marked 123 (Opened (Marked (between form) (Marked 123 (Opened IsEnd)))) (braced a (between form ∷ braced b []))
    first form = record { rest = joined a ++ 125 ∷ (between form ∷ braced b []); goes = record { names = a; rest = between form ∷ braced b []; all = alla; goes = second form; text_is = refl }; text_is = refl }

    at : (form : Form) → Rest form (start form) (spelled form a b)
    at Label = first Label
    at Caps = record { rest = braced a (45 ∷ braced b []); goes = first Caps; text_is = refl }

two_lists : (m : ℕ) (t : Text) → Marked 123 (Opened (Marked m (Marked 123 (Opened IsEnd)))) t → (a : List Text) × (b : List Text) × AllNames a × AllNames b × (t ≡ braced a (m ∷ braced b []))
two_lists m t h =
    let one : Opened (Marked m (Marked 123 (Opened IsEnd))) h.rest = h.goes in
    let two : Marked m (Marked 123 (Opened IsEnd)) one.rest = one.goes in
    let three : Marked 123 (Opened IsEnd) two.rest = two.goes in
    let four : Opened IsEnd three.rest = three.goes in
    let end : four.rest ≡ [] = four.goes in
    let last : two.rest ≡ braced four.names [] = three.text_is ∙ ap (λ (u : Text). 123 ∷ u) (four.text_is ∙ ap (λ (u : Text). joined four.names ++ 125 ∷ u) end) in
    (one.names, four.names, one.all, four.all, h.text_is ∙ ap (λ (u : Text). 123 ∷ u) (one.text_is ∙ ap (λ (u : Text). joined one.names ++ 125 ∷ u) (two.text_is ∙ ap (λ (u : Text). m ∷ u) last)))

pub form_of_rest : (form : Form) (text : Text) → Rest form (start form) text → HasForm form text
form_of_rest Label text h = let found = two_lists 47 text h in (found.0, found.1, record { first = found.2; second = found.3; text_is = found.4 })
form_of_rest Caps text h =
    let inner : Marked 123 (Opened (Marked 45 (Marked 123 (Opened IsEnd)))) h.rest = h.goes in
    let found = two_lists 45 h.rest inner in
    (found.0, found.1, record { first = found.2; second = found.3; text_is = h.text_is ∙ ap (λ (u : Text). 43 ∷ u) found.4 })

pub rest_of_form : (form : Form) (text : Text) → HasForm form text → Rest form (start form) text
rest_of_form form text h = let spells : Spells form text h.0 h.1 = h.2 in subst (λ (t : Text). Rest form (start form) t) (sym spells.text_is) (spelled_rest form h.0 h.1 spells.first spells.second)

-- ---- the laws
pub read_form : (form : Form) (text : Text) → bad_place form text ≡ None → HasForm form text
read_form form text e = form_of_rest form text (is_read form text (start form) 0 e)

pub form_read : (form : Form) (text : Text) → HasForm form text → bad_place form text ≡ None
form_read form text h = reads form text (start form) 0 (rest_of_form form text h)

pub bad_is_least : (form : Form) (text : Text) (k : ℕ) → bad_place form text ≡ Some k → IsBadPlace form text k
bad_is_least form text k e =
    let stop : Stopped form (start form) text 0 k = stops_at form text (start form) 0 k e in
    let h : BadIn form (start form) text stop.0 = stop.2 in
    let is : k ≡ stop.0 = let e : k ≡ 0 + stop.0 = stop.1 in omega arith in
    subst (IsBadPlace form text) (sym is) (record {
      within = h.within;
      front = (h.rest, form_of_rest form _ h.front);
      stops = λ less longer. h.stops less longer.0 (subst (λ (n : ℕ). Rest form (start form) (take n text ++ longer.0)) (let one : stop.0 + 1 ≡ suc stop.0 = omega arith in one) (rest_of_form form _ longer.1));
      incomplete = λ all. h.incomplete (rest_of_form form text all);
    })

pub none_is_form : (form : Form) (text : Text) (r : Option ℕ) → r ≡ bad_place form text → IsNone r ↔ HasForm form text
none_is_form form text None e = ((λ none. read_form form text (sym e)), (λ h. refl))
none_is_form form text (Some k) e = ((λ none. absurd cc), (λ h. absurd (not_some (e ∙ form_read form text h))))

pub some_is_bad : (form : Form) (text : Text) (r : Option ℕ) → r ≡ bad_place form text → IfSome r (IsBadPlace form text)
some_is_bad form text None e = tt
some_is_bad form text (Some k) e = bad_is_least form text k (sym e)
