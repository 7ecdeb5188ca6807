-- one step of a run, and the same step of another run whose cells look the same
use Rattle.std.proofs.Common.{◌≡◌, ℕ, ℤ, Bool, true, false, List, Option, Some, None, refl, sym, ap, ◌∙◌, ⊎_elim}
use Rattle.std.specs.Prelude.{if◌then◌else◌, slice_get}
use Rattle.std.proofs.lemmas.Option.{same_Some, none-some, cond_some}
use Rattle.std.proofs.lemmas.Bool.{both_ways, cases_Bool, false_from_ne_true}
use Rattle.flow_labels.specs.declared.Label.{Label}
use Rattle.flow_labels.specs.declared.Denied.{Denied}
use Rattle.flow_labels.specs.Flow.{flows}
use Rattle.flow_labels.specs.Failing.{first_failing, read_test, write_test}
use Rattle.capabilities.specs.Changes.{used}
use Rattle.labelled_heap.specs.declared.cells.Cell.{Cell}
use Rattle.play_script.specs.declared.Actor.{Actor}
use Rattle.play_script.specs.declared.Step.{Step}
use Rattle.play_script.specs.declared.Step.TheVariants.{Read, Write, Copy}
use Rattle.play_run.specs.declared.steps.Outcome.{Outcome}
use Rattle.play_run.specs.declared.steps.Outcome.TheVariants.{Done, Refused}
use Rattle.play_run.specs.Steps.{Cast, Release, Copied, Moment, found, copy_test, went, outcome_of, put, cells_after, copied_into, taken, moment_of}
use Rattle.play_run.specs.Seen.{Entry, Seen, Released, Acts, Releases, item_of, past, noted, view}
use Rattle.play_run.proofs.FlowLemmas.{flows-trans, read-flows, write-flows, copy-flows}
use Rattle.play_run.proofs.ViewLemmas.{view-unseen, view-after, look_alike}

-- ---- the rows of moment_of: what was looked up, and the moment

pub record TookRead (cast : Cast) (cells : List Cell) (a n : ℕ) (m : Moment) : Type 0 where
  pub actor : Actor
  pub cell : Cell
  pub named : slice_get cast.actors a ≡ Some actor
  pub there : slice_get cells n ≡ Some cell
  pub is : m ≡ taken cells actor (Read a n) (outcome_of (read_test actor.label cell.label) cell.value) None

pub record TookWrite (cast : Cast) (cells : List Cell) (a n : ℕ) (v : ℤ) (m : Moment) : Type 0 where
  pub actor : Actor
  pub cell : Cell
  pub named : slice_get cast.actors a ≡ Some actor
  pub there : slice_get cells n ≡ Some cell
  pub is : m ≡ taken cells actor (Write a n v) (outcome_of (write_test actor.label cell.label) v) None

pub record TookCopy (cast : Cast) (cells : List Cell) (a n k : ℕ) (m : Moment) : Type 0 where
  pub actor : Actor
  pub from : Cell
  pub to : Cell
  pub named : slice_get cast.actors a ≡ Some actor
  pub there : slice_get cells n ≡ Some from
  pub other : slice_get cells k ≡ Some to
  pub is : m ≡ taken cells actor (Copy a n k) (outcome_of (copy_test cast.public actor from.label to.label) from.value) (Some to.label)

-- what two look-ups in a row found
record Two {A B : Type 0} (x : Option A) (y : Option B) (f : A → B → Moment) (m : Moment) : Type 0 where
  first : A
  second : B
  first_is : x ≡ Some first
  second_is : y ≡ Some second
  is : m ≡ f first second

two : {A B : Type 0} (x : Option A) (y : Option B) (f : A → B → Moment) (m : Moment) → found x (λ p. found y (λ c. Some (f p c))) ≡ Some m → Two x y f m
two (Some p) (Some c) f m e = record { first = p; second = c; first_is = refl; second_is = refl; is = let same : f p c ≡ m = cc in sym same }
two x y f m e = absurd cc

-- what three found
record Three {A B C : Type 0} (x : Option A) (y : Option B) (z : Option C) (f : A → B → C → Moment) (m : Moment) : Type 0 where
  first : A
  second : B
  third : C
  first_is : x ≡ Some first
  second_is : y ≡ Some second
  third_is : z ≡ Some third
  is : m ≡ f first second third

three : {A B C : Type 0} (x : Option A) (y : Option B) (z : Option C) (f : A → B → C → Moment) (m : Moment) → found x (λ p. found y (λ c. found z (λ d. Some (f p c d)))) ≡ Some m → Three x y z f m
three (Some p) (Some c) (Some d) f m e = record { first = p; second = c; third = d; first_is = refl; second_is = refl; third_is = refl; is = let same : f p c d ≡ m = cc in sym same }
three x y z f m e = absurd cc

pub took_read : (cast : Cast) (cells : List Cell) (a n : ℕ) (m : Moment) → moment_of cast cells (Read a n) ≡ Some m → TookRead cast cells a n m
took_read cast cells a n m e =
    let t = two (slice_get cast.actors a) (slice_get cells n) (λ p c. taken cells p (Read a n) (outcome_of (read_test p.label c.label) c.value) None) m e in
    record { actor = t.first; cell = t.second; named = t.first_is; there = t.second_is; is = t.is }

pub took_write : (cast : Cast) (cells : List Cell) (a n : ℕ) (v : ℤ) (m : Moment) → moment_of cast cells (Write a n v) ≡ Some m → TookWrite cast cells a n v m
took_write cast cells a n v m e =
    let t = two (slice_get cast.actors a) (slice_get cells n) (λ p c. taken cells p (Write a n v) (outcome_of (write_test p.label c.label) v) None) m e in
    record { actor = t.first; cell = t.second; named = t.first_is; there = t.second_is; is = t.is }

pub took_copy : (cast : Cast) (cells : List Cell) (a n k : ℕ) (m : Moment) → moment_of cast cells (Copy a n k) ≡ Some m → TookCopy cast cells a n k m
took_copy cast cells a n k m e =
    let t = three (slice_get cast.actors a) (slice_get cells n) (slice_get cells k) (λ p c d. taken cells p (Copy a n k) (outcome_of (copy_test cast.public p c.label d.label) c.value) (Some d.label)) m e in
    record { actor = t.first; from = t.second; to = t.third; named = t.first_is; there = t.second_is; other = t.third_is; is = t.is }

-- ---- what is noted

pub data Noting (o : Label) (m : Moment) (e : Option Entry) : Type 0 where
  Watched : flows m.event.label o ≡ true → e ≡ Some (Seen m.event) → Noting o m e
  Hidden : flows m.event.label o ≡ false → e ≡ past o m.copied → Noting o m e

pub noting : (o : Label) (m : Moment) → Noting o m (noted o m)
noting o m =
    let says = λ (b : Bool). if b then Some (Seen m.event) else past o m.copied in
    ⊎_elim (λ h. Watched h (ap says h)) (λ h. Hidden h (ap says h)) (cases_Bool (flows m.event.label o))

record IsHidden (o : Label) (m : Moment) : Type 0 where
  hidden : flows m.event.label o ≡ false
  nothing : past o m.copied ≡ None

unnoted : (o : Label) (m : Moment) → noted o m ≡ None → IsHidden o m
unnoted o m e = sort (noting o m)
  where
    sort : Noting o m (noted o m) → IsHidden o m
    sort (Watched h is) = absurd cc
    sort (Hidden h is) = record { hidden = h; nothing = sym is ∙ e }

-- ---- a step that is not noted keeps what is seen

up : (o p c : Label) → flows p o ≡ false → flows p c ≡ true → flows c o ≡ false
up o p c hidden goes = false_from_ne_true (flows c o) (λ h. both_ways (flows p o) hidden (flows-trans p c o goes h))

unseen_put : (o : Label) (cells : List Cell) (n : ℕ) (c : Cell) (x : Option Denied) (v : ℤ) → slice_get cells n ≡ Some c → (x ≡ None → flows c.label o ≡ false) → view o (put cells n (went x v)) ≡ view o cells
unseen_put o cells n c None v there unseen = view-unseen o cells n v c there (unseen refl)
unseen_put o cells n c (Some denied) v there unseen = refl

past_unseen : (o p d : Label) (s : Step) (v : ℤ) → past o (copied_into p s d (Done v)) ≡ None → flows d o ≡ false
past_unseen o p d s v e =
    let r : Release = record { copy = s; value = v; by = used p d } in
    false_from_ne_true (flows d o) (λ h. none-some (Released r) (sym e ∙ ap (λ b. if b then Some (Released r) else None) h))

pub unseen_step : (o : Label) (cast : Cast) (cells : List Cell) (s : Step) (m : Moment) → moment_of cast cells s ≡ Some m → noted o m ≡ None → view o m.cells ≡ view o cells
unseen_step o cast cells (Read a n) m e none =
    let t = took_read cast cells a n m e in
    ap (λ x. view o x.cells) t.is
unseen_step o cast cells (Write a n v) m e none =
    let t = took_write cast cells a n v m e in
    let h = unnoted o m none in
    let hidden : flows t.actor.label o ≡ false = ap (λ x. flows x.event.label o) (sym t.is) ∙ h.hidden in
    ap (λ x. view o x.cells) t.is
    ∙ unseen_put o cells n t.cell (first_failing (write_test t.actor.label t.cell.label)) v t.there
    (λ passes. up o t.actor.label t.cell.label hidden (write-flows t.actor.label t.cell.label passes))
unseen_step o cast cells (Copy a n k) m e none =
    let t = took_copy cast cells a n k m e in
    let h = unnoted o m none in
    let nothing : past o (copied_into t.actor.label (Copy a n k) t.to.label (outcome_of (copy_test cast.public t.actor t.from.label t.to.label) t.from.value)) ≡ None = ap (λ x. past o x.copied) (sym t.is) ∙ h.nothing in
    ap (λ x. view o x.cells) t.is
    ∙ unseen_put o cells k t.to (first_failing (copy_test cast.public t.actor t.from.label t.to.label)) t.from.value t.other
    (λ passes. past_unseen o t.actor.label t.to.label (Copy a n k) t.from.value
    (ap (λ x. past o (copied_into t.actor.label (Copy a n k) t.to.label (went x t.from.value))) (sym passes) ∙ nothing))

-- ---- the same step of the same actor, that is seen, goes the same

pub record Alike (o : Label) (m m' : Moment) : Type 0 where
  pub events : m.event ≡ m'.event
  pub views : view o m.cells ≡ view o m'.cells

went_same : (x : Option Denied) (v v' : ℤ) → (x ≡ None → v ≡ v') → went x v ≡ went x v'
went_same None v v' e = ap Done (e refl)
went_same (Some denied) v v' e = refl

taken_alike : (o : Label) (cells cells' : List Cell) (p p' : Actor) (s : Step) (w w' : Outcome) (into into' : Option Label) (m m' : Moment) → m ≡ taken cells p s w into → m' ≡ taken cells' p' s w' into' → p ≡ p' → w ≡ w' → view o cells ≡ view o cells' → Alike o m m'
taken_alike o cells cells' p p' s w w' into into' m m' is is' actors outcomes views =
    record {
      events = ap (λ x. x.event) is ∙ (λ j. record { label = (actors j).label; step = s; outcome = outcomes j }) ∙ ap (λ x. x.event) (sym is');
      views =
          ap (λ x. view o x.cells) is ∙ view-after o cells cells' s w views
          ∙ ap (λ w. view o (cells_after cells' s w)) outcomes ∙ ap (λ x. view o x.cells) (sym is');
    }

pub seen_pair : (o : Label) (cast : Cast) (cells cells' : List Cell) (s : Step) (m m' : Moment) → view o cells ≡ view o cells' → moment_of cast cells s ≡ Some m → moment_of cast cells' s ≡ Some m' → flows m.event.label o ≡ true → Alike o m m'
seen_pair o cast cells cells' (Read a n) m m' views e e' seen =
    let t = took_read cast cells a n m e in
    let t' = took_read cast cells' a n m' e' in
    let actor = same_Some t.actor t'.actor (sym t.named ∙ t'.named) in
    let alike = look_alike o cells cells' n t.cell t'.cell views t.there t'.there in
    let seen_actor : flows t.actor.label o ≡ true = ap (λ x. flows x.event.label o) (sym t.is) ∙ seen in
    let test = λ (p : Actor) (l : Label). first_failing (read_test p.label l) in
    let tests : test t.actor t.cell.label ≡ test t'.actor t'.cell.label = (λ j. test (actor j) (alike.labels j)) in
    let outcomes : outcome_of (read_test t.actor.label t.cell.label) t.cell.value ≡ outcome_of (read_test t'.actor.label t'.cell.label) t'.cell.value =
    went_same (test t.actor t.cell.label) t.cell.value t'.cell.value (λ passes. alike.values (flows-trans t.cell.label t.actor.label o (read-flows t.actor.label t.cell.label passes) seen_actor))
    ∙ ap (λ x. went x t'.cell.value) tests in
    taken_alike o cells cells' t.actor t'.actor (Read a n) _ _ None None m m' t.is t'.is actor outcomes views
seen_pair o cast cells cells' (Write a n v) m m' views e e' seen =
    let t = took_write cast cells a n v m e in
    let t' = took_write cast cells' a n v m' e' in
    let actor = same_Some t.actor t'.actor (sym t.named ∙ t'.named) in
    let alike = look_alike o cells cells' n t.cell t'.cell views t.there t'.there in
    let outcomes : outcome_of (write_test t.actor.label t.cell.label) v ≡ outcome_of (write_test t'.actor.label t'.cell.label) v =
    (λ j. outcome_of (write_test (actor j).label (alike.labels j)) v) in
    taken_alike o cells cells' t.actor t'.actor (Write a n v) _ _ None None m m' t.is t'.is actor outcomes views
seen_pair o cast cells cells' (Copy a n k) m m' views e e' seen =
    let t = took_copy cast cells a n k m e in
    let t' = took_copy cast cells' a n k m' e' in
    let actor = same_Some t.actor t'.actor (sym t.named ∙ t'.named) in
    let from = look_alike o cells cells' n t.from t'.from views t.there t'.there in
    let to = look_alike o cells cells' k t.to t'.to views t.other t'.other in
    let seen_actor : flows t.actor.label o ≡ true = ap (λ x. flows x.event.label o) (sym t.is) ∙ seen in
    let test = λ (p : Actor) (c d : Label). first_failing (copy_test cast.public p c d) in
    let tests : test t.actor t.from.label t.to.label ≡ test t'.actor t'.from.label t'.to.label = (λ j. test (actor j) (from.labels j) (to.labels j)) in
    let outcomes : outcome_of (copy_test cast.public t.actor t.from.label t.to.label) t.from.value ≡ outcome_of (copy_test cast.public t'.actor t'.from.label t'.to.label) t'.from.value =
    went_same (test t.actor t.from.label t.to.label) t.from.value t'.from.value (λ passes. from.values (flows-trans t.from.label t.actor.label o (copy-flows cast.public t.actor t.from.label t.to.label passes) seen_actor))
    ∙ ap (λ x. went x t'.from.value) tests in
    taken_alike o cells cells' t.actor t'.actor (Copy a n k) _ _ (Some t.to.label) (Some t'.to.label) m m' t.is t'.is actor outcomes views

-- ---- a release tells the cells after it

past_told : (o p d : Label) (s : Step) (w : Outcome) (r : Release) → past o (copied_into p s d w) ≡ Some (Released r) → (r.copy ≡ s) × (w ≡ Done r.value)
past_told o p d s (Refused denied) r e = absurd cc
past_told o p d s (Done v) r e =
    let q : Release = record { copy = s; value = v; by = used p d } in
    let entries : Released q ≡ Released r = (cond_some (flows d o) (Released q) (Released r) e).1 in
    let same : q ≡ r = cc in
    (ap (λ x. x.copy) (sym same), ap (λ x. Done x.value) same)

told : (o : Label) (cast : Cast) (cells : List Cell) (s : Step) (m : Moment) (r : Release) → moment_of cast cells s ≡ Some m → past o m.copied ≡ Some (Released r) → m.cells ≡ cells_after cells r.copy (Done r.value)
told o cast cells (Read a n) m r e is = absurd (none-some (Released r) (sym (ap (λ x. past o x.copied) (took_read cast cells a n m e).is) ∙ is))
told o cast cells (Write a n v) m r e is = absurd (none-some (Released r) (sym (ap (λ x. past o x.copied) (took_write cast cells a n v m e).is) ∙ is))
told o cast cells (Copy a n k) m r e is =
    let t = took_copy cast cells a n k m e in
    let both = past_told o t.actor.label t.to.label (Copy a n k) (outcome_of (copy_test cast.public t.actor t.from.label t.to.label) t.from.value) r (ap (λ x. past o x.copied) (sym t.is) ∙ is) in
    ap (λ x. x.cells) t.is ∙ (λ j. cells_after cells (sym both.0 j) (both.1 j))

-- ---- two notes with equal items

pub record Together (o : Label) (e e' : Entry) (m m' : Moment) : Type 0 where
  pub entries : e ≡ e'
  pub views : view o m.cells ≡ view o m'.cells

took_step : (cast : Cast) (cells : List Cell) (s : Step) (m : Moment) → moment_of cast cells s ≡ Some m → m.event.step ≡ s
took_step cast cells (Read a n) m e = ap (λ x. x.event.step) (took_read cast cells a n m e).is
took_step cast cells (Write a n v) m e = ap (λ x. x.event.step) (took_write cast cells a n v m e).is
took_step cast cells (Copy a n k) m e = ap (λ x. x.event.step) (took_copy cast cells a n k m e).is

-- what is past o is a copy into a cell that o sees
pub record PastCopied (o : Label) (c : Option Copied) (e : Entry) : Type 0 where
  pub copied : Copied
  pub is : c ≡ Some copied
  pub seen : flows copied.label o ≡ true
  pub entry : e ≡ Released copied.release

pub past_copied : (o : Label) (c : Option Copied) (e : Entry) → past o c ≡ Some e → PastCopied o c e
past_copied o None e h = absurd cc
past_copied o (Some c) e h = let both = cond_some (flows c.label o) (Released c.release) e h in record { copied = c; is = refl; seen = both.0; entry = sym both.1 }

pub together : (o : Label) (cast : Cast) (cells cells' : List Cell) (s s' : Step) (m m' : Moment) (e e' : Entry) → view o cells ≡ view o cells' → moment_of cast cells s ≡ Some m → moment_of cast cells' s' ≡ Some m' → noted o m ≡ Some e → noted o m' ≡ Some e' → item_of e ≡ item_of e' → Together o e e' m m'
together o cast cells cells' s s' m m' e e' views h h' is is' same = sort (noting o m) (noting o m')
  where
    sort : Noting o m (noted o m) → Noting o m' (noted o m') → Together o e e' m m'
    sort (Watched seen f) (Watched seen' f') =
        let entry : e ≡ Seen m.event = same_Some e (Seen m.event) (sym is ∙ f) in
        let entry' : e' ≡ Seen m'.event = same_Some e' (Seen m'.event) (sym is' ∙ f') in
        let acts : Acts m.event.step ≡ Acts m'.event.step = ap item_of (sym entry) ∙ same ∙ ap item_of entry' in
        let steps : m.event.step ≡ m'.event.step = cc in
        let step : s' ≡ s = sym (took_step cast cells' s' m' h') ∙ sym steps ∙ took_step cast cells s m h in
        let pair = seen_pair o cast cells cells' s m m' views h (ap (λ t. moment_of cast cells' t) (sym step) ∙ h') seen in
        record { entries = entry ∙ ap Seen pair.events ∙ sym entry'; views = pair.views }
    sort (Hidden unseen f) (Hidden unseen' f') =
        let r = past_copied o m.copied e (sym f ∙ is) in
        let r' = past_copied o m'.copied e' (sym f' ∙ is') in
        let items : Releases r.copied.release ≡ Releases r'.copied.release = ap item_of (sym r.entry) ∙ same ∙ ap item_of r'.entry in
        let releases : r.copied.release ≡ r'.copied.release = cc in
        let after = told o cast cells s m r.copied.release h (sym f ∙ is ∙ ap Some r.entry) in
        let after' = told o cast cells' s' m' r'.copied.release h' (sym f' ∙ is' ∙ ap Some r'.entry) in
        record {
          entries = r.entry ∙ ap Released releases ∙ sym r'.entry;
          views =
              ap (view o) after ∙ view-after o cells cells' r.copied.release.copy (Done r.copied.release.value) views
              ∙ ap (λ x. view o (cells_after cells' x.copy (Done x.value))) releases ∙ ap (view o) (sym after');
        }
    sort (Watched seen f) (Hidden unseen' f') =
        let entry : e ≡ Seen m.event = same_Some e (Seen m.event) (sym is ∙ f) in
        let r' = past_copied o m'.copied e' (sym f' ∙ is') in
        let items : Acts m.event.step ≡ Releases r'.copied.release = ap item_of (sym entry) ∙ same ∙ ap item_of r'.entry in
        absurd cc
    sort (Hidden unseen f) (Watched seen' f') =
        let entry' : e' ≡ Seen m'.event = same_Some e' (Seen m'.event) (sym is' ∙ f') in
        let r = past_copied o m.copied e (sym f ∙ is) in
        let items : Releases r.copied.release ≡ Acts m'.event.step = ap item_of (sym r.entry) ∙ same ∙ ap item_of entry' in
        absurd cc
