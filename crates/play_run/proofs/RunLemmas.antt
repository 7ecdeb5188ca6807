-- the runs of two plays whose cells look the same to an observer
use Rattle.std.proofs.Common.{◌≡◌, ℕ, zero, suc, Option, Some, None, List, [], ◌∷◌, take, refl, sym, ap, ◌∙◌}
use Rattle.std.specs.Prelude.{map}
use Rattle.std.specs.List.{cons_option}
use Rattle.flow_labels.specs.declared.Label.{Label}
use Rattle.capabilities.specs.Kinds.{public_of}
use Rattle.labelled_heap.specs.declared.cells.Cell.{Cell}
use Rattle.play_script.specs.declared.Step.{Step}
use Rattle.play_script.specs.Script.{Play}
use Rattle.play_run.specs.Steps.{Cast, Moment, cast_of, moment_of, moments, goes_on, start}
use Rattle.play_run.specs.Seen.{Entry, Item, item_of, noted, notes, trace, view}
use Rattle.play_run.specs.Lines.{line_of}
use Rattle.play_run.specs.Isolation.{IsolatedFrom}
use Rattle.play_run.proofs.MomentLemmas.{unseen_step, together}

-- the first note of a run: the cells before it look as those at the start
record First (o : Label) (cast : Cast) (cells : List Cell) (steps : List Step) : Type 0 where
  before : List Cell
  step : Step
  moment : Moment
  entry : Entry
  later : List Step
  looks : view o before ≡ view o cells
  takes : moment_of cast before step ≡ Some moment
  notes_it : noted o moment ≡ Some entry
  list : notes o (moments cast cells steps) ≡ entry ∷ notes o (moments cast moment.cells later)

data Skim (o : Label) (cast : Cast) (cells : List Cell) (steps : List Step) : Type 0 where
  No_more : notes o (moments cast cells steps) ≡ [] → Skim o cast cells steps
  One : First o cast cells steps → Skim o cast cells steps

-- a step after which the rest goes on from cells that look the same, and that adds no note
go_past : (o : Label) (cast : Cast) (cells after : List Cell) (steps rest : List Step) → view o after ≡ view o cells → notes o (moments cast cells steps) ≡ notes o (moments cast after rest) → Skim o cast after rest → Skim o cast cells steps
go_past o cast cells after steps rest looks same (No_more none) = No_more (same ∙ none)
go_past o cast cells after steps rest looks same (One f) =
    One (record {
      before = f.before;
      step = f.step;
      moment = f.moment;
      entry = f.entry;
      later = f.later;
      looks = f.looks ∙ looks;
      takes = f.takes;
      notes_it = f.notes_it;
      list = same ∙ f.list;
    })

skim : (o : Label) (cast : Cast) (cells : List Cell) (steps : List Step) → Skim o cast cells steps
skim o cast cells [] = No_more refl
skim o cast cells (s ∷ ss) = look (λ after. skim o cast after ss) (moment_of cast cells s) refl
  where
    sort : ((after : List Cell) → Skim o cast after ss) → (m : Moment) → moment_of cast cells s ≡ Some m → notes o (moments cast cells (s ∷ ss)) ≡ cons_option (noted o m) (notes o (moments cast m.cells ss)) → (e : Option Entry) → noted o m ≡ e → Skim o cast cells (s ∷ ss)
    sort more m h list None none =
        go_past o cast cells m.cells (s ∷ ss) ss (unseen_step o cast cells s m h none)
        (list ∙ ap (λ e. cons_option e (notes o (moments cast m.cells ss))) none) (more m.cells)
    sort more m h list (Some e) one =
        One (record {
          before = cells;
          step = s;
          moment = m;
          entry = e;
          later = ss;
          looks = refl;
          takes = h;
          notes_it = one;
          list = list ∙ ap (λ e. cons_option e (notes o (moments cast m.cells ss))) one;
        })

    look : ((after : List Cell) → Skim o cast after ss) → (x : Option Moment) → moment_of cast cells s ≡ x → Skim o cast cells (s ∷ ss)
    look more None h =
        go_past o cast cells cells (s ∷ ss) ss refl (ap (λ x. notes o (goes_on cells x (λ after. moments cast after ss))) h) (more cells)
    look more (Some m) h =
        sort more m h (ap (λ x. notes o (goes_on cells x (λ after. moments cast after ss))) h) (noted o m) refl

-- ---- both lists

front : (n : ℕ) (x y : Item) (xs ys : List Item) → take (suc n) (x ∷ xs) ≡ take (suc n) (y ∷ ys) → (x ≡ y) × (take n xs ≡ take n ys)
front n x y xs ys e = (cc, cc)

-- as far as the items agree, so do the entries
Agreed : ℕ → List Entry → List Entry → Type 0
Agreed n es fs = take n (map item_of es) ≡ take n (map item_of fs) → take n es ≡ take n fs

agreed : (o : Label) (cast : Cast) (n : ℕ) (cells cells' : List Cell) (steps steps' : List Step) → view o cells ≡ view o cells' → Agreed n (notes o (moments cast cells steps)) (notes o (moments cast cells' steps'))
unfolding Agreed
agreed o cast zero cells cells' steps steps' views = λ same. refl
agreed o cast (suc n) cells cells' steps steps' views = go (λ us us' ts ts' alike. agreed o cast n us us' ts ts' alike) (skim o cast cells steps) (skim o cast cells' steps')
  where
    go : ((us us' : List Cell) (ts ts' : List Step) → view o us ≡ view o us' → Agreed n (notes o (moments cast us ts)) (notes o (moments cast us' ts'))) → Skim o cast cells steps → Skim o cast cells' steps' → Agreed (suc n) (notes o (moments cast cells steps)) (notes o (moments cast cells' steps'))
    go more (No_more none) (No_more none') same = ap (take (suc n)) (none ∙ sym none')
    go more (No_more none) (One f) same =
        let clash : take (suc n) (map item_of []) ≡ take (suc n) (map item_of (f.entry ∷ notes o (moments cast f.moment.cells f.later))) =
        ap (λ es. take (suc n) (map item_of es)) (sym none) ∙ same ∙ ap (λ es. take (suc n) (map item_of es)) f.list in
        absurd cc
    go more (One f) (No_more none) same =
        let clash : take (suc n) (map item_of (f.entry ∷ notes o (moments cast f.moment.cells f.later))) ≡ take (suc n) (map item_of []) =
        ap (λ es. take (suc n) (map item_of es)) (sym f.list) ∙ same ∙ ap (λ es. take (suc n) (map item_of es)) none in
        absurd cc
    go more (One f) (One g) same =
        let es = notes o (moments cast f.moment.cells f.later) in
        let fs = notes o (moments cast g.moment.cells g.later) in
        let heads = front n (item_of f.entry) (item_of g.entry) (map item_of es) (map item_of fs) (ap (λ es. take (suc n) (map item_of es)) (sym f.list) ∙ same ∙ ap (λ es. take (suc n) (map item_of es)) g.list) in
        let both = together o cast f.before g.before f.step g.step f.moment g.moment f.entry g.entry (f.looks ∙ views ∙ sym g.looks) f.takes g.takes f.notes_it g.notes_it heads.0 in
        let rest = more f.moment.cells g.moment.cells f.later g.later both.views heads.1 in
        ap (take (suc n)) f.list ∙ (λ j. both.entries j ∷ rest j) ∙ ap (take (suc n)) (sym g.list)

-- the lines of entries, by the names that the plays declare
lines_same : (p q : Play) (es fs : List Entry) → p.tags ≡ q.tags → p.actor_names ≡ q.actor_names → p.cell_names ≡ q.cell_names → es ≡ fs → map (line_of p) es ≡ map (line_of q) fs
lines_same p q es fs tags actor_names cell_names same =
    (λ j. map (line_of (record { tags = tags j; kinds = []; actor_names = actor_names j; actors = []; cell_names = cell_names j; cells = []; steps = [] })) (same j))

pub isolated : (play : Play) (o : Label) → IsolatedFrom play o
unfolding Agreed
isolated p o q n agree same =
    let casts : cast_of p ≡ cast_of q = (λ j. record { actors = agree.actors j; public = public_of (agree.kinds j) }) in
    let entries : take n (trace o p) ≡ take n (trace o q) =
    agreed o (cast_of p) n (start p) (start q) p.steps q.steps agree.cells (same ∙ ap (λ cast. take n (map item_of (notes o (moments cast (start q) q.steps)))) (sym casts))
    ∙ ap (λ cast. take n (notes o (moments cast (start q) q.steps))) casts in
    record {
      entries = entries;
      lines = lines_same p q (take n (trace o p)) (take n (trace o q)) agree.tags agree.actor_names agree.cell_names entries;
    }
