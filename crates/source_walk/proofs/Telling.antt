-- From what is found of each thread to the answer of the walk.
use Rattle.std.proofs.Common.{◌≡◌, inl, inr, ◌⊎◌, ℕ, ◌+◌, ◌<◌, ◌≤◌, List, length, map, Option, Some, None, refl, sym, ap, ◌∙◌, subst, arith}
use Rattle.std.specs.Prelude.{slice_get}
use Rattle.std.proofs.lemmas.List.{length-map, length-append}
use Rattle.std.proofs.lemmas.Option.{slice_get_within, same_Some}
use Rattle.std.proofs.lemmas.Bool.{cases_lt}
use Rattle.lam_bytecode.specs.Codes.{CodeTree}
use Rattle.lam_resolve_tree.specs.Tree.{ResolvedTree}
use Rattle.thread_steps.specs.Threads.{Thread}
use Rattle.lam_machine_terms.specs.Worlds.{World, thread_at}
use Rattle.lam_machine_terms.specs.Turns.{Moment}
use Rattle.lam_machine_laws.specs.Own.{done_by}
use Rattle.source_walk_terms.specs.Runs.{WasSpawned, Began}
use Rattle.source_walk_terms.specs.declared.Walked.{Walked}
use Rattle.source_walk_terms.specs.declared.Walked.TheVariants.{Same, Departs}
use Rattle.source_walk_terms.specs.Walks.{KeepsToSource, LeavesAt, LeavesItsSource, IsWalkedOf}
use Rattle.source_walk_state.specs.declared.Beginning.{Beginning}
use Rattle.source_walk_run.specs.Births.{births, HasThreads}
use Rattle.source_walk_run.proofs.Lists.{is_there, split_get, made_get}
use Rattle.source_walk_run.proofs.Runs.{was_spawned, at_number}
use Rattle.source_walk_run.specs.Beginnings.{beginning_of, all_begun}
use Rattle.source_walk_run.specs.Departures.{IsMet, AreDepartures}
use Rattle.source_walk_run.specs.declared.departures.Departures.{Departures}
use Rattle.source_walk.specs.Starts.{BeginsAt, AreBeginnings}
use Rattle.source_walk.specs.Walking.{NoneBelow, IsFirstDeparture}

-- ---- one thread

module _ (r : ResolvedTree) (code : CodeTree) (w : World) (ms : List Moment) (last : World) (starts : List Beginning) (d : Departures) (begins : AreBeginnings r code w.threads starts) (departs : AreDepartures r starts ms d) (has : HasThreads (length w.threads) ms last) where
  -- it stood in the start at its beginning, or was spawned so
  abbrev BeganSo : ℕ → Beginning → Type 0
  BeganSo u b = ((th : Thread) × (thread_at w u ≡ Some th) × BeginsAt r code th b) ⊎ WasSpawned ms u b.function b.args b.caps

  began_so : (u : ℕ) (b : Beginning) → slice_get (all_begun starts ms) u ≡ Some b → BeganSo u b
  began_so u b e = by (split_get starts (map beginning_of (births ms)) u b e)
    where
      by : (slice_get starts u ≡ Some b) ⊎ ((j : ℕ) × (u ≡ length starts + j) × (slice_get (map beginning_of (births ms)) j ≡ Some b)) → BeganSo u b
      by (inl h) =
          let lt = slice_get_within starts u b h in
          let many = begins.many in
          let there = is_there w.threads u (omega (arith, lt, many)) in
          inl (there.0, there.1, begins.each u there.0 b there.1 h)
      by (inr (j, f, h)) =
          let born = made_get beginning_of (births ms) j b h in
          let number = at_number (length w.threads) ms last has j born.0 born.1 in
          let many = begins.many in
          let same : born.0.number ≡ u = omega (arith, number, many, f) in
          inr (subst (λ (x : Beginning). WasSpawned ms u x.function x.args x.caps) born.2 (subst (λ n. WasSpawned ms n born.0.function born.0.args born.0.caps) same (was_spawned ms j born.0 born.1)))

  began : (u : ℕ) (b : Beginning) → BeganSo u b → Began code w ms u b.function b.args b.caps
  began u b (inl h) = inl (h.1 ∙ ap (λ (th : Thread). Some th) h.2.it)
  began u b (inr s) = inr s

  -- as many began as there are threads in the last world, and places
  begun_many : length (all_begun starts ms) ≡ length last.threads
  begun_many =
      let long = length-append starts (map beginning_of (births ms)) in
      let made = length-map (births ms) beginning_of in
      let many = begins.many in
      let all = has.all in
      omega (arith, long, made, many, all)

  pub places_many : length last.threads ≡ length d.places.items
  places_many =
      let there = departs.many in
      let many = begins.many in
      let all = has.all in
      omega (arith, there, many, all)

  begun_there : (u : ℕ) → u < length last.threads → (b : Beginning) × (slice_get (all_begun starts ms) u ≡ Some b)
  begun_there u lt = is_there (all_begun starts ms) u (let many = begun_many in omega (arith, lt, many))

  keeps_by : (u : ℕ) (b : Beginning) → BeganSo u b → IsMet r (length (done_by u ms)) b (done_by u ms) None → KeepsToSource r code w ms u
  keeps_by u b so (inl h) = record { function = b.function; args = b.args; caps = b.caps; began = began u b so; entry = h.0; asks = h.1 }
  keeps_by u b so (inr h) = absurd (let z = h.1 in cc)

  pub keeps : (u : ℕ) → u < length last.threads → slice_get d.places.items u ≡ Some None → KeepsToSource r code w ms u
  keeps u lt e = let b = begun_there u lt in keeps_by u b.0 (began_so u b.0 b.1) (departs.each u b.0 None b.1 e)

  leaves_by : (u place : ℕ) (b : Beginning) → BeganSo u b → IsMet r (length (done_by u ms)) b (done_by u ms) (Some place) → LeavesAt r code w ms u b.function b.args b.caps place
  leaves_by u place b so (inl h) = inl (began u b so, h.0, h.1)
  leaves_by u place b (inl so) (inr h) = absurd (h.0 so.2.entry)
  leaves_by u place b (inr s) (inr h) = inr (s, h.0, some_same place 0 h.1)
    where
      some_same : (x y : ℕ) → Some x ≡ Some y → x ≡ y
      some_same x y e = cc

  pub leaves : (u place : ℕ) → u < length last.threads → slice_get d.places.items u ≡ Some (Some place) → LeavesItsSource r code w ms u place
  leaves u place lt e =
      let b = begun_there u lt in
      record { function = b.0.function; args = b.0.args; caps = b.0.caps; leaves = leaves_by u place b.0 (began_so u b.0 b.1) (departs.each u b.0 (Some place) b.1 e) }

  -- a thread of which no place is told
  keeps_below : (n u : ℕ) → NoneBelow d n → u < n → u < length last.threads → KeepsToSource r code w ms u
  keeps_below n u none below lt =
      let there = is_there d.places.items u (let many = places_many in omega (arith, lt, many)) in
      keeps u lt (there.1 ∙ ap (λ (o : Option ℕ). Some o) (none u there.0 below there.1))

  -- ---- all of them

  pub tells : (answer : Walked) → IsFirstDeparture d answer → IsWalkedOf r code w ms (length last.threads) answer
  tells (Same asks) h = ((λ u lt. keeps_below (length d.places.items) u h.0 (let many = places_many in omega (arith, lt, many)) lt), h.1 ∙ departs.asks)
  tells (Departs thread ask) h =
      let many = places_many in
      let there = slice_get_within d.places.items thread (Some ask) h.1 in
      let lt : thread < length last.threads = omega (arith, many, there) in (
        lt,
        (λ u below. keeps_below thread u h.0 below (omega (arith, below, lt))),
        leaves thread ask lt h.1,
      )

-- ---- the first that departs

-- one more does not
pub none_more : (d : Departures) (n : ℕ) (o : Option ℕ) → NoneBelow d n → slice_get d.places.items n ≡ Some o → o ≡ None → NoneBelow d (n + 1)
none_more d n o none there is u at lt e = by (cases_lt u n)
  where
    by : (u < n) ⊎ (n ≤ u) → at ≡ None
    by (inl below) = none u at below e
    by (inr above) = let same : u ≡ n = omega (arith, lt, above) in sym (same_Some o at (sym there ∙ ap (slice_get d.places.items) (sym same) ∙ e)) ∙ is

-- no place is told
pub none_of : (o : Option ℕ) → ((x : ℕ) → o ≡ Some x → ⊥) → o ≡ None
none_of None h = refl
none_of (Some x) h = absurd (h x refl)
