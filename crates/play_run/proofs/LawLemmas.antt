-- what a moment shows, and that releases are allowed
use Rattle.std.proofs.Common.{◌≡◌, ℕ, zero, suc, ℤ, true, false, List, [], ◌∷◌, ◌++◌, Option, Some, None, refl, sym, ap, ◌∙◌, subst}
use Rattle.std.specs.Prelude.{if◌then◌else◌, map, slice_get}
use Rattle.std.specs.List.{AllByRecursion, cons_option}
use Rattle.std.proofs.lemmas.Option.{same_Some, slice_get-map, none-some}
use Rattle.std.specs.Option.{option_map}
use Rattle.std.specs.FinSet.{difference}
use Rattle.std.proofs.lemmas.Bool.{both_ways, false_from_ne_true}
use Rattle.flow_labels.specs.Tags.{least}
use Rattle.flow_labels.proofs.TagLemmas.{none-is_subset}
use Rattle.flow_labels.specs.declared.Label.{Label}
use Rattle.flow_labels.specs.declared.Rule.{Rule}
use Rattle.flow_labels.specs.declared.Rule.TheVariants.{AddS, DropS, AddI, DropI}
use Rattle.flow_labels.specs.declared.Denied.{Denied}
use Rattle.flow_labels.specs.Flow.{flows}
use Rattle.flow_labels.specs.Failing.{Test, denied_or, first_failing, read_test}
use Rattle.capabilities.specs.declared.Caps.{Caps}
use Rattle.capabilities.specs.Changes.{used, MayChange, Covers, change_test}
use Rattle.capabilities.specs.Kinds.{public_of}
use Rattle.labelled_heap.specs.declared.cells.Cell.{Cell}
use Rattle.labelled_heap.specs.CellAt.{with_value}
use Rattle.play_script.specs.declared.Step.{Step}
use Rattle.play_script.specs.declared.Step.TheVariants.{Read, Write, Copy}
use Rattle.play_script.specs.Script.{Play}
use Rattle.play_run.specs.declared.steps.Outcome.{Outcome}
use Rattle.play_run.specs.declared.steps.Outcome.TheVariants.{Done, Refused}
use Rattle.play_run.specs.Steps.{Cast, Release, Copied, Moment, cast_of, copy_test, went, put, copied_into, moment_of, moments, goes_on, start}
use Rattle.play_run.specs.Seen.{Entry, Seen, Released, past, noted, notes, trace}
use Rattle.play_run.specs.Laws.{Shows, step, release, NotesAreExact, cell_labels, usable, IsAllowed, ReleasesAreAllowed}
use Rattle.play_run.proofs.FlowLemmas.{flows-trans, read-flows}
use Rattle.play_run.proofs.MomentLemmas.{Noting, Watched, Hidden, noting, PastCopied, past_copied, TookCopy, took_read, took_write, took_copy}

-- ---- what a moment shows

shows-noted : (o : Label) (m : Moment) (e : Entry) → Shows o m e → noted o m ≡ Some e
shows-noted o m e (step seen) = ap (λ b. if b then Some (Seen m.event) else past o m.copied) seen
shows-noted o m e (release c hidden copied seen) =
    ap (λ b. if b then Some (Seen m.event) else past o m.copied) hidden
    ∙ ap (past o) copied
    ∙ ap (λ b. if b then Some (Released c.release) else None) seen

noted-shows : (o : Label) (m : Moment) (e : Entry) → noted o m ≡ Some e → Shows o m e
noted-shows o m e is = sort (noting o m)
  where
    sort : Noting o m (noted o m) → Shows o m e
    sort (Watched seen f) = subst (λ x. Shows o m x) (same_Some (Seen m.event) e (sym f ∙ is)) (step seen)
    sort (Hidden unseen f) =
        let p = past_copied o m.copied e (sym f ∙ is) in
        subst (λ x. Shows o m x) (sym p.entry) (release p.copied unseen p.is p.seen)

pub notes_exact : NotesAreExact
notes_exact o m e = (shows-noted o m e, noted-shows o m e)

-- ---- what a test that nothing fails says

step_holds : (r : Rule) (x : Option ℕ) (whole front back : Option Denied) → (whole ≡ None → (front ≡ None) × (back ≡ None)) → denied_or r x whole ≡ None → (denied_or r x front ≡ None) × (back ≡ None)
step_holds r None whole front back h e = h e
step_holds r (Some t) whole front back h e = absurd cc

parts : (a b : Test) → first_failing (a ++ b) ≡ None → (first_failing a ≡ None) × (first_failing b ≡ None)
parts [] b e = (refl, e)
parts (p ∷ a) b e = step_holds p.0 (least p.1) (first_failing (a ++ b)) (first_failing a) (first_failing b) (parts a b) e

four : (a b c d : Option ℕ) (r r' q q' : Rule) → denied_or r a (denied_or r' b (denied_or q c (denied_or q' d None))) ≡ None → (a ≡ None) × (b ≡ None) × (c ≡ None) × (d ≡ None)
four None None None None r r' q q' e = (refl, refl, refl, refl)
four a b c d r r' q q' e = absurd cc

change-may : (c : Caps) (x y : Label) → first_failing (change_test c x y) ≡ None → MayChange c x y
change-may c x y e =
    let none = four (least (difference (difference y.s x.s) c.plus)) (least (difference (difference x.s y.s) c.minus)) (least (difference (difference y.i x.i) c.plus)) (least (difference (difference x.i y.i) c.minus)) AddS DropS AddI DropI e in
    record {
      add_s = none-is_subset (difference y.s x.s) c.plus none.0;
      drop_s = none-is_subset (difference x.s y.s) c.minus none.1;
      add_i = none-is_subset (difference y.i x.i) c.plus none.2;
      drop_i = none-is_subset (difference x.i y.i) c.minus none.3;
    }

-- ---- labels stay

labels_of : List Cell → List Label
labels_of cells = map (λ c. c.label) cells

labels-with_value : (cells : List Cell) (n : ℕ) (v : ℤ) → labels_of (with_value cells n v) ≡ labels_of cells
unfolding labels_of
labels-with_value [] n v = refl
labels-with_value (c ∷ cells) zero v = refl
labels-with_value (c ∷ cells) (suc n) v = ap (λ rest. c.label ∷ rest) (labels-with_value cells n v)

labels-put : (cells : List Cell) (n : ℕ) (w : Outcome) → labels_of (put cells n w) ≡ labels_of cells
labels-put cells n (Done v) = labels-with_value cells n v
labels-put cells n (Refused denied) = refl

labels-moment : (cast : Cast) (cells : List Cell) (s : Step) (m : Moment) → moment_of cast cells s ≡ Some m → labels_of m.cells ≡ labels_of cells
labels-moment cast cells (Read a n) m e = ap (λ x. labels_of x.cells) (took_read cast cells a n m e).is
labels-moment cast cells (Write a n v) m e = ap (λ x. labels_of x.cells) (took_write cast cells a n v m e).is ∙ labels-put cells n _
labels-moment cast cells (Copy a n k) m e = ap (λ x. labels_of x.cells) (took_copy cast cells a n k m e).is ∙ labels-put cells k _

label_at : (cells : List Cell) (n : ℕ) (c : Cell) (ls : List Label) → slice_get cells n ≡ Some c → labels_of cells ≡ ls → slice_get ls n ≡ Some c.label
unfolding labels_of
label_at cells n c ls there are = ap (λ l. slice_get l n) (sym are) ∙ slice_get-map (λ (c : Cell). c.label) cells n ∙ ap (option_map (λ c. c.label)) there

-- ---- a release was allowed

copied_done : (p d : Label) (s : Step) (x : Option Denied) (v : ℤ) (k : Copied) → copied_into p s d (went x v) ≡ Some k → (x ≡ None) × (k ≡ record { label = d; release = record { copy = s; value = v; by = used p d } })
copied_done p d s None v k e = (refl, let same : record { label = d; release = record { copy = s; value = v; by = used p d } } ≡ k = cc in sym same)
copied_done p d s (Some denied) v k e = absurd cc

not_down : (o p d : Label) → flows p o ≡ false → flows d o ≡ true → flows p d ≡ false
not_down o p d unseen seen = false_from_ne_true (flows p d) (λ h. both_ways (flows p o) unseen (flows-trans p d o h seen))

allowed_copy : (play : Play) (o : Label) (cells : List Cell) (a n k : ℕ) (m : Moment) (r : Release) → labels_of cells ≡ cell_labels play → flows m.event.label o ≡ false → PastCopied o m.copied (Released r) → TookCopy (cast_of play) cells a n k m → IsAllowed play o r
allowed_copy play o cells a n k m r labels unseen p t =
    let label = t.actor.label in
    let caps = usable play t.actor in
    let from = t.from.label in
    let to = t.to.label in
    let done = copied_done label to (Copy a n k) (first_failing (copy_test (public_of play.kinds) t.actor from to)) t.from.value p.copied (ap (λ x. x.copied) (sym t.is) ∙ p.is) in
    let told : r ≡ record { copy = Copy a n k; value = t.from.value; by = used label to } = let same : r ≡ p.copied.release = cc in same ∙ ap (λ c. c.release) done.1 in
    let lower = parts (read_test label from ++ change_test caps from to) (change_test caps label to) done.0 in
    let first = parts (read_test label from) (change_test caps from to) lower.0 in
    let change = change-may caps label to lower.1 in
    let hidden : flows label o ≡ false = ap (λ x. flows x.event.label o) (sym t.is) ∙ unseen in
    let seen : flows to o ≡ true = ap (λ c. flows c.label o) (sym done.1) ∙ p.seen in
    let by : r.by ≡ used label to = ap (λ x. x.by) told in
    record {
      a = a;
      n = n;
      m = k;
      actor = t.actor;
      from = from;
      to = to;
      copy = ap (λ x. x.copy) told;
      named = t.named;
      read = label_at cells n t.from (cell_labels play) t.there labels;
      written = label_at cells k t.to (cell_labels play) t.other labels;
      unseen = hidden;
      seen = seen;
      is_down = not_down o label to hidden seen;
      may_read = read-flows label from first.0;
      may_relabel = change-may caps from to first.1;
      may_change = change;
      by = by;
      held = subst (λ x. Covers caps x) (sym by) (record { plus = change.add_i; minus = change.drop_s });
    }

allowed_moment : (play : Play) (o : Label) (cells : List Cell) (s : Step) (m : Moment) (r : Release) → labels_of cells ≡ cell_labels play → moment_of (cast_of play) cells s ≡ Some m → flows m.event.label o ≡ false → PastCopied o m.copied (Released r) → IsAllowed play o r
allowed_moment play o cells (Read a n) m r labels e unseen p = absurd (none-some p.copied (sym (ap (λ x. x.copied) (took_read (cast_of play) cells a n m e).is) ∙ p.is))
allowed_moment play o cells (Write a n v) m r labels e unseen p = absurd (none-some p.copied (sym (ap (λ x. x.copied) (took_write (cast_of play) cells a n v m e).is) ∙ p.is))
allowed_moment play o cells (Copy a n k) m r labels e unseen p = allowed_copy play o cells a n k m r labels unseen p (took_copy (cast_of play) cells a n k m e)

Fine : Play → Label → Entry → Type 0
Fine play o (Seen event) = Unit {0}
Fine play o (Released r) = IsAllowed play o r

fine_moment : (play : Play) (o : Label) (cells : List Cell) (s : Step) (m : Moment) (e : Entry) → labels_of cells ≡ cell_labels play → moment_of (cast_of play) cells s ≡ Some m → noted o m ≡ Some e → Fine play o e
unfolding Fine
fine_moment play o cells s m (Seen event) labels h is = tt
fine_moment play o cells s m (Released r) labels h is = sort (noting o m)
  where
    sort : Noting o m (noted o m) → IsAllowed play o r
    sort (Watched seen f) = let clash : Seen m.event ≡ Released r = same_Some (Seen m.event) (Released r) (sym f ∙ is) in absurd cc
    sort (Hidden unseen f) = allowed_moment play o cells s m r labels h unseen (past_copied o m.copied (Released r) (sym f ∙ is))

fine_notes : (play : Play) (o : Label) (cells : List Cell) (steps : List Step) → labels_of cells ≡ cell_labels play → AllByRecursion (Fine play o) (notes o (moments (cast_of play) cells steps))
fine_notes play o cells [] labels = tt
fine_notes play o cells (s ∷ ss) labels = look (λ after are. fine_notes play o after ss are) (moment_of (cast_of play) cells s) refl
  where
    join : (e : Option Entry) (es : List Entry) → ((x : Entry) → e ≡ Some x → Fine play o x) → AllByRecursion (Fine play o) es → AllByRecursion (Fine play o) (cons_option e es)
    join None es one more = more
    join (Some x) es one more = (one x refl, more)

    look : ((after : List Cell) → labels_of after ≡ cell_labels play → AllByRecursion (Fine play o) (notes o (moments (cast_of play) after ss))) → (x : Option Moment) → moment_of (cast_of play) cells s ≡ x → AllByRecursion (Fine play o) (notes o (goes_on cells (moment_of (cast_of play) cells s) (λ after. moments (cast_of play) after ss)))
    look more None h = subst (λ x. AllByRecursion (Fine play o) (notes o (goes_on cells x (λ after. moments (cast_of play) after ss)))) (sym h) (more cells labels)
    look more (Some m) h =
        subst (λ x. AllByRecursion (Fine play o) (notes o (goes_on cells x (λ after. moments (cast_of play) after ss)))) (sym h)
        (join (noted o m) (notes o (moments (cast_of play) m.cells ss)) (λ e is. fine_moment play o cells s m e labels h is)
        (more m.cells (labels-moment (cast_of play) cells s m h ∙ labels)))

one_of : {X : Type 0} (P : X → Type 0) (xs : List X) (k : ℕ) (x : X) → AllByRecursion P xs → slice_get xs k ≡ Some x → P x
one_of P [] k x all e = absurd cc
one_of P (y ∷ ys) zero x all e = subst P (let same : y ≡ x = cc in same) all.0
one_of P (y ∷ ys) (suc k) x all e = one_of P ys k x all.1 e

pub releases_allowed : ReleasesAreAllowed
unfolding Fine labels_of
releases_allowed play o k r e = one_of (Fine play o) (trace o play) k (Released r) (fine_notes play o (start play) play.steps refl) e
