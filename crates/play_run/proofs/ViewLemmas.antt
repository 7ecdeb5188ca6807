-- what an observer sees of cells, and of a write to one of them
use Rattle.std.proofs.Common.{◌≡◌, ℕ, zero, suc, ℤ, Bool, true, false, List, [], ◌∷◌, Option, Some, None, refl, sym, ap, ◌∙◌}
use Rattle.std.specs.Prelude.{if◌then◌else◌, slice_get}
use Rattle.std.specs.Option.{option_map}
use Rattle.std.proofs.lemmas.Option.{slice_get-map}
use Rattle.flow_labels.specs.declared.Label.{Label}
use Rattle.flow_labels.specs.Flow.{flows}
use Rattle.labelled_heap.specs.declared.cells.Cell.{Cell}
use Rattle.labelled_heap.specs.CellAt.{with_value}
use Rattle.play_script.specs.declared.Step.{Step}
use Rattle.play_script.specs.declared.Step.TheVariants.{Read, Write, Copy}
use Rattle.play_run.specs.declared.steps.Outcome.{Outcome}
use Rattle.play_run.specs.declared.steps.Outcome.TheVariants.{Done, Refused}
use Rattle.play_run.specs.Steps.{put, cells_after}
use Rattle.play_run.specs.Seen.{CellView, cell_view, view}

where_unseen : (b : Bool) (x y : Option ℤ) → b ≡ false → (if b then x else None) ≡ (if b then y else None)
where_unseen true x y e = absurd cc
where_unseen false x y e = refl

where_seen : (b b' : Bool) (v v' : ℤ) → b ≡ true → b ≡ b' → (if b then Some v else None) ≡ (if b' then Some v' else None) → v ≡ v'
where_seen true true v v' e f g = cc
where_seen true false v v' e f g = absurd cc
where_seen false b' v v' e f g = absurd cc

-- a write to a cell that o does not see
pub view-unseen : (o : Label) (cs : List Cell) (n : ℕ) (v : ℤ) (c : Cell) → slice_get cs n ≡ Some c → flows c.label o ≡ false → view o (with_value cs n v) ≡ view o cs
view-unseen o [] n v c e f = refl
view-unseen o (d ∷ cs) zero v c e f =
    let unseen : flows d.label o ≡ false = let same : d ≡ c = cc in ap (λ x. flows x.label o) same ∙ f in
    (λ j. record { label = d.label; value = where_unseen (flows d.label o) (Some v) (Some d.value) unseen j } ∷ view o cs)
view-unseen o (d ∷ cs) (suc n) v c e f = ap (λ rest. cell_view o d ∷ rest) (view-unseen o cs n v c e f)

heads : (x y : CellView) (xs ys : List CellView) → x ∷ xs ≡ y ∷ ys → (x ≡ y) × (xs ≡ ys)
heads x y xs ys e = (cc, cc)

-- the same write to cells that look the same
pub view-written : (o : Label) (cs ds : List Cell) (n : ℕ) (v : ℤ) → view o cs ≡ view o ds → view o (with_value cs n v) ≡ view o (with_value ds n v)
view-written o [] [] n v e = refl
view-written o [] (d ∷ ds) n v e = absurd cc
view-written o (c ∷ cs) [] n v e = absurd cc
view-written o (c ∷ cs) (d ∷ ds) zero v e =
    let parts = heads (cell_view o c) (cell_view o d) (view o cs) (view o ds) e in
    let labels = ap (λ x. x.label) parts.0 in
    (λ j. cell_view o (record { label = labels j; value = v }) ∷ parts.1 j)
view-written o (c ∷ cs) (d ∷ ds) (suc n) v e =
    let parts = heads (cell_view o c) (cell_view o d) (view o cs) (view o ds) e in
    (λ j. parts.0 j ∷ view-written o cs ds n v parts.1 j)

view-put : (o : Label) (cs ds : List Cell) (n : ℕ) (w : Outcome) → view o cs ≡ view o ds → view o (put cs n w) ≡ view o (put ds n w)
view-put o cs ds n (Done v) e = view-written o cs ds n v e
view-put o cs ds n (Refused denied) e = e

-- the same step, that went the same
pub view-after : (o : Label) (cs ds : List Cell) (s : Step) (w : Outcome) → view o cs ≡ view o ds → view o (cells_after cs s w) ≡ view o (cells_after ds s w)
view-after o cs ds (Read a n) w e = e
view-after o cs ds (Write a n v) w e = view-put o cs ds n w e
view-after o cs ds (Copy a n m) w e = view-put o cs ds m w e

-- cells of the same number that look the same
pub record LookAlike (o : Label) (c d : Cell) : Type 0 where
  pub labels : c.label ≡ d.label
  pub values : flows c.label o ≡ true → c.value ≡ d.value

pub look_alike : (o : Label) (cs ds : List Cell) (n : ℕ) (c d : Cell) → view o cs ≡ view o ds → slice_get cs n ≡ Some c → slice_get ds n ≡ Some d → LookAlike o c d
look_alike o cs ds n c d e f g =
    let same : Some (cell_view o c) ≡ Some (cell_view o d) =
    ap (option_map (cell_view o)) (sym f) ∙ sym (slice_get-map (cell_view o) cs n) ∙ ap (λ vs. slice_get vs n) e ∙ slice_get-map (cell_view o) ds n ∙ ap (option_map (cell_view o)) g in
    let views : cell_view o c ≡ cell_view o d = cc in
    let labels = ap (λ x. x.label) views in
    record {
      labels = labels;
      values = λ seen. where_seen (flows c.label o) (flows d.label o) c.value d.value seen (ap (λ l. flows l o) labels) (ap (λ x. x.value) views);
    }
