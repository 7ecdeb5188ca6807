-- What the last state of a table says of a seat.
use Rattle.std.proofs.Common.{◌≡◌, ◌≢◌, ◌⊎◌, ℕ, ◌<◌, ◌≤◌, List, [], ◌∷◌, length, Option, Some, refl, sym, ap, ◌∙◌, subst, inl, inr, arith}
use Rattle.std.specs.Prelude.{slice_get}
use Rattle.std.specs.List.{All}
use Rattle.std.proofs.lemmas.List.Elements.{All-weaker}
use mathlib.Core.Option.{some, none, some-injective}
use mathlib.Core.List.{IsPrefix}
use lib.ListN.{get_elem?}
use Rattle.atomic_table.specs.Table.{State, Seen, Final}
use Rattle.atomic_table.specs.Seated.{TableId}
use Rattle.seat_host.specs.declared.law.View.{View}
use Rattle.seat_host.specs.declared.law.Given.{Given}
use Rattle.seat_host.specs.Places.{Shared, shared}
use Rattle.seat_host.specs.Places.{turns_in}
use Rattle.seat_host.specs.Seats.{Closes, StaysOpen, ClosesBy, sitting}
use Rattle.seat_host.specs.declared.answer.Closed.{Closed}
use Rattle.seat_host.specs.declared.answer.CloseFault.{CloseFault}
use Rattle.seat_host.specs.declared.answer.CloseFault.TheVariants.{Open, NoMemory as OutOfMemory}
use Rattle.std.specs.Prelude.{Result, Ok, Err, IfOk, IfErr}
use Rattle.seat_host.specs.Law.{Keeps, HomeOrOut}
use Rattle.seat_host.proofs.Fronts.{prefix_length}

pub record Last (g : Given) (v : View) (drawn served : ℕ) (y : Shared) : Type 0 where
  pub order : served ≤ drawn
  pub seen : length v.seen ≤ served
  pub known : v.drawn ≤ drawn
  pub book : served ≡ drawn → (y.code ≡ g.code) × (y.start ≡ g.start) × IsPrefix v.seen y.places × All (λ e. slice_get y.places e.0 ≡ Some e.1) v.mine × (length y.places ≡ served)

pub last : (g : Given) (id : ℕ) (v : View) (ws : List ℕ) (xs : List Shared) (drawn served : ℕ) (y : Shared) → Final (Seen (Keeps g) id v) ws xs → get_elem? ws 0 ≡ some drawn → get_elem? ws 1 ≡ some served → get_elem? xs 0 ≡ some y → Last g v drawn served y
last g id v ws xs drawn served y end w0 w1 x0 =
    let s = end.0 in
    let h = end.1.0 in
    let f = h.views id v end.1.1 in
    let words : ws ≡ h.ticket ∷ length h.log ∷ [] = sym end.2 ∙ h.words in
    let is_drawn : h.ticket ≡ drawn = some-injective _ _ (sym (ap (λ (l : List ℕ). get_elem? l 0) words) ∙ w0) in
    let is_served : length h.log ≡ served = some-injective _ _ (sym (ap (λ (l : List ℕ). get_elem? l 1) words) ∙ w1) in
    record {
      order = let r = h.room in omega arith;
      seen = let l = prefix_length v.seen h.log f.seen in omega arith;
      known = let d = f.drawn in omega arith;
      book = λ same.
          let is : shared g.code g.start h.log ≡ y = home h.slot (omega arith) in
          subst (λ (k : Shared). (k.code ≡ g.code) × (k.start ≡ g.start) × IsPrefix v.seen k.places × All (λ e. slice_get k.places e.0 ≡ Some e.1) v.mine × (length k.places ≡ served)) is
          (refl, refl, f.seen, All-weaker (λ (e : ℕ × Option ℕ). (slice_get h.log e.0 ≡ Some e.1) × (h.owner e.0 ≡ id)) (λ (e : ℕ × Option ℕ). slice_get h.log e.0 ≡ Some e.1) (λ e t. t.0) v.mine f.mine, is_served);
    }
  where
    home : HomeOrOut g end.1.0.log end.1.0.ticket end.1.0.owner end.0 → length end.1.0.log ≡ end.1.0.ticket → shared g.code g.start end.1.0.log ≡ y
    home (inl is) same = some-injective _ _ (sym (end.4 0 (shared g.code g.start end.1.0.log) (ap (λ (l : List (mathlib.Core.Option.Option Shared)). get_elem? l 0) is)) ∙ x0)
    home (inr out) same = absurd (let lt = out.1 in omega arith)

below : (s d served drawn : ℕ) → served ≤ drawn → served ≢ drawn → s ≡ served → d ≡ drawn → s < d
below s d served drawn o n e f = omega (arith, o, n, e, f)

-- an answer by the last words of a table is one that its seats allow
pub stays_open : (id : TableId) (g : Given) (v : View) (drawn served : ℕ) (y : Shared) (r : Result Closed CloseFault) → Last g v drawn served y → ClosesBy served drawn r → IfErr r (StaysOpen (sitting id v))
stays_open id g v drawn served y (Ok p) l by = tt
stays_open id g v drawn served y (Err (Open s d)) l by =
    let o = l.order in
    let e = l.seen in
    let k = l.known in
    (below s d served drawn o by.0 by.1 by.2, omega (arith, e, by.1), omega (arith, k, by.2))
stays_open id g v drawn served y (Err OutOfMemory) l by = tt

-- a run that is closed only where the words are equal
pub closes_by : (served drawn : ℕ) (r : Result Closed CloseFault) → served ≡ drawn → IfErr r (λ e. e ≡ OutOfMemory) → ClosesBy served drawn r
closes_by served drawn (Ok c) e h = e
closes_by served drawn (Err f) e h = subst (λ (x : CloseFault). ClosesBy served drawn (Err x)) (sym h) e

pub closes : (id : TableId) (g : Given) (v : View) (drawn served : ℕ) (y : Shared) (r : Result Closed CloseFault) → (v.code ≡ g.code) × (v.start ≡ g.start) → Last g v drawn served y → ClosesBy served drawn r
    → IfOk r (λ p. (p.run.code ≡ y.code) × (p.run.start ≡ y.start) × (p.places.items ≡ y.places) × (p.run.turns ≡ turns_in y.places))
    → IfOk r (λ p. Closes (sitting id v) p.run p.places.items)
closes id g v drawn served y (Ok p) own l same is =
    let b = l.book same in
    let k = l.known in
    let n = ap length is.2 in
    let m = b.4 in
    record {
      code = is.0 ∙ b.0 ∙ sym own.0;
      start = is.1 ∙ b.1 ∙ sym own.1;
      turns = is.3 ∙ ap turns_in (sym is.2);
      seen = subst (λ (l : List (Option ℕ)). IsPrefix v.seen l) (sym is.2) b.2;
      mine = subst (λ (l : List (Option ℕ)). All (λ e. slice_get l e.0 ≡ Some e.1) v.mine) (sym is.2) b.3;
      drawn = omega (arith, k, n, m, same);
    }
closes id g v drawn served y (Err e) own l same is = tt
