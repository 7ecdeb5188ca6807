-- The parts of a world make all of its view.
use Rattle.std.proofs.Common.{◌≡◌, ◌<◌, ℕ, zero, suc, refl, sym, ap, ◌∙◌, arith}
use Rattle.std.proofs.lemmas.Bool.{cases_lt}
use Rattle.std.specs.Prelude.{◌⊎◌, ◌≤◌}
use Rattle.std.proofs.Common.{inl, inr}
use Rattle.flow_labels.specs.declared.Label.{Label}
use Rattle.lam_machine_terms.specs.Worlds.{World}
use Rattle.lam_machine_terms.specs.Views.{view, Agree}
use Rattle.pair_check_terms.specs.declared.answer.Part.{Part}
use Rattle.pair_check_terms.specs.declared.answer.Part.TheVariants.{Tags, Public, Heap, Files, Pipes, Counters, Threads}
use Rattle.pair_check_terms.specs.Parts.{SameTags, SameThings, SameFiles, SameCounters, SameThreads, IsSame, place, IsFirstPart}
use Rattle.pair_check_terms.specs.Laws.{PartsMakeAgreement}

-- ---- all parts

view_same : (o : Label) (s s' : World) → ((part : Part) → IsSame o s s' part) → view o s ≡ view o s'
view_same o s s' same =
    let tags : SameTags o s s' = same Tags in
    let heap : SameThings o s s' = same Heap in
    let files : SameFiles o s s' = same Files in
    let pipes : (view o s).pipes ≡ (view o s').pipes = same Pipes in
    let counters : SameCounters o s s' = same Counters in
    let threads : SameThreads o s s' = same Threads in
    λ i. record {
      slots = heap.slots i;
      monitors = heap.monitors i;
      dirs = files.dirs i;
      files = files.files i;
      pipes = pipes i;
      heap_counts = counters.heap i;
      file_counts = counters.files i;
      pipe_counts = counters.pipes i;
      contexts = threads.contexts i;
      next_tag = tags.next i;
      threads = threads.number i;
      results = threads.results i;
    }

pub agree_by_parts : (o : Label) (s s' : World) → ((part : Part) → IsSame o s s' part) → Agree o s s'
agree_by_parts o s s' same =
    let tags : SameTags o s s' = same Tags in
    let public : s.public ≡ s'.public = same Public in
    record { names = tags.names; public = public; views = view_same o s s' same }

pub parts_by_agree : (o : Label) (s s' : World) → Agree o s s' → (part : Part) → IsSame o s s' part
parts_by_agree o s s' a Tags = record { names = a.names; next = ap (λ v. v.next_tag) a.views }
parts_by_agree o s s' a Public = a.public
parts_by_agree o s s' a Heap = record { slots = ap (λ v. v.slots) a.views; monitors = ap (λ v. v.monitors) a.views }
parts_by_agree o s s' a Files = record { dirs = ap (λ v. v.dirs) a.views; files = ap (λ v. v.files) a.views }
parts_by_agree o s s' a Pipes = ap (λ v. v.pipes) a.views
parts_by_agree o s s' a Counters = record { heap = ap (λ v. v.heap_counts) a.views; files = ap (λ v. v.file_counts) a.views; pipes = ap (λ v. v.pipe_counts) a.views }
parts_by_agree o s s' a Threads = record { contexts = ap (λ v. v.contexts) a.views; number = ap (λ v. v.threads) a.views; results = ap (λ v. v.results) a.views }

pub parts_agree : PartsMakeAgreement
parts_agree o s s' = (agree_by_parts o s s', parts_by_agree o s s')

-- ---- the first part

pub part_at : ℕ → Part
part_at zero = Tags
part_at (suc zero) = Public
part_at (suc (suc zero)) = Heap
part_at (suc (suc (suc zero))) = Files
part_at (suc (suc (suc (suc zero)))) = Pipes
part_at (suc (suc (suc (suc (suc zero))))) = Counters
part_at (suc (suc (suc (suc (suc (suc n)))))) = Threads

placed : (p : Part) → part_at (place p) ≡ p
unfolding part_at
placed Tags = refl
placed Public = refl
placed Heap = refl
placed Files = refl
placed Pipes = refl
placed Counters = refl
placed Threads = refl

-- a place has one part
pub place_inj : (p q : Part) → place p ≡ place q → p ≡ q
place_inj p q e = sym (placed p) ∙ ap part_at e ∙ placed q

pub places_few : (p : Part) → place p < 7
places_few Tags = omega arith
places_few Public = omega arith
places_few Heap = omega arith
places_few Files = omega arith
places_few Pipes = omega arith
places_few Counters = omega arith
places_few Threads = omega arith

-- where the starts agree no part is the first
pub first_differs : (o : Label) (s s' : World) (p : Part) {X : Type 0} → IsFirstPart o s s' p → Agree o s s' → X
first_differs o s s' p f a = absurd (f.differs (parts_by_agree o s s' a p))

pub one_first : (o : Label) (s s' : World) (p q : Part) → IsFirstPart o s s' p → IsFirstPart o s s' q → p ≡ q
one_first o s s' p q f g = below (cases_lt (place p) (place q))
  where
    above : place q ≤ place p → (place q < place p) ⊎ (place p ≤ place q) → p ≡ q
    above le (inl lt) = absurd (g.differs (f.before q lt))
    above le (inr ge) = place_inj p q (omega arith)

    below : (place p < place q) ⊎ (place q ≤ place p) → p ≡ q
    below (inl lt) = absurd (f.differs (g.before p lt))
    below (inr le) = above le (cases_lt (place q) (place p))
