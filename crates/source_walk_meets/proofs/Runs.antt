-- The threads of a run: those of its start, and those that it started, by their numbers.
use Rattle.std.proofs.Common.{◌≡◌, ℕ, zero, suc, ◌+◌, ◌<◌, ◌≤◌, List, [], ◌∷◌, ◌++◌, length, Option, Some, None, refl, sym, ap, ◌∙◌, subst, arith, length-append}
use Rattle.std.specs.Prelude.{slice_get}
use Rattle.std.specs.Option.{option_to_list, option_map}
use Rattle.std.proofs.lemmas.List.{map-append, length-map, append-nil}
use Rattle.std.proofs.lemmas.List.Concat.{flat_map-append}
use Rattle.std.proofs.lemmas.Option.{slice_get-map, same_Some}
use Rattle.capabilities.specs.declared.Caps.{Caps}
use Rattle.lam_value.specs.declared.values.Value.{Value}
use Rattle.lam_value.specs.declared.values.Value.TheVariants as value
use Rattle.lam_asks.specs.declared.answer.Answer.TheVariants.{Val}
use Rattle.lam_asks.specs.declared.answer.What.{What}
use Rattle.lam_asks.specs.declared.answer.What.TheVariants.{Private, Asked}
use Rattle.lam_asks.specs.declared.ask.Ask.TheVariants.{Spawn}
use Rattle.lam_bytecode.specs.Codes.{CodeTree, AreCounted}
use Rattle.lam_machine_terms.specs.Worlds.{World}
use Rattle.lam_machine_terms.specs.Turns.{Moment, step, and_then, moments, left_by}
use Rattle.source_walk_terms.specs.Runs.{WasSpawned}
use Rattle.source_walk_meets.specs.Births.{Birth, birth_of, births, numbers, HasThreads, RunsHaveThreads}
use Rattle.source_walk_meets.proofs.Lists.{behind_get, counted_get, counted_append}
use Rattle.source_walk_meets.proofs.Turns.{turned}

-- ---- births, moment by moment

abbrev born_in : Moment → List Birth
born_in m = option_to_list (birth_of m.event.what)

pub births_append : (ms more : List Moment) → births (ms ++ more) ≡ births ms ++ births more
births_append ms more = flat_map-append born_in ms more

numbers_length : (bs : List Birth) → length (numbers bs) ≡ length bs
numbers_length bs = length-map bs (λ (b : Birth). b.number)

-- ---- a run

-- one moment, and those behind it
has_more : (n : ℕ) (m : Moment) (ms : List Moment) (last : World) → m.event.thread < n → AreCounted n (numbers (born_in m)) → HasThreads (n + length (born_in m)) ms last → HasThreads n (m ∷ ms) last
has_more n m ms last lt counted more =
    record {
      turns = (lt, more.turns);
      counted = subst (AreCounted n) (sym (map-append (λ (b : Birth). b.number) (born_in m) (births ms))) (counted_append n (numbers (born_in m)) (numbers (births ms)) counted (subst (λ k. AreCounted (n + k) (numbers (births ms))) (sym (numbers_length (born_in m))) more.counted));
      all = let long = length-append (born_in m) (births ms) in omega (arith, long, more.all);
    }

none_more : (w : World) → HasThreads (length w.threads) [] w
none_more w = record { turns = tt; counted = tt; all = omega arith }

pub run_has_threads : (code : CodeTree) (turns : List ℕ) (w : World) → HasThreads (length w.threads) (moments code turns w) (left_by w (moments code turns w))
run_has_threads code [] w = none_more w
run_has_threads code (t ∷ ts) w = by (step code w t) refl (λ v. run_has_threads code ts v)
  where
    by : (o : Option Moment) → step code w t ≡ o → ((v : World) → HasThreads (length v.threads) (moments code ts v) (left_by v (moments code ts v))) → HasThreads (length w.threads) (and_then o (moments code ts)) (left_by w (and_then o (moments code ts)))
    by None e more = none_more w
    by (Some m) e more =
        let one = turned code w t m e in
        let same = append-nil (born_in m) in
        has_more (length w.threads) m (moments code ts m.world) (left_by m.world (moments code ts m.world)) one.there (subst (λ bs. AreCounted (length w.threads) (numbers bs)) same one.counted)
        (subst (λ n. HasThreads n (moments code ts m.world) (left_by m.world (moments code ts m.world))) (one.all ∙ ap (λ bs. length w.threads + length bs) same) (more m.world))

pub runs_have : (code : CodeTree) → RunsHaveThreads code
runs_have code w turns = run_has_threads code turns w

-- ---- who was spawned

abbrev pub born : ℕ → ℕ → List Value → Caps → Birth
born u f vs k = record { number = u; function = f; args = vs; caps = k }

-- a thread that was spawned is one of those that were started, at a place
pub is_born : (ms : List Moment) (u f : ℕ) (vs : List Value) (k : Caps) → WasSpawned ms u f vs k → (j : ℕ) × (slice_get (births ms) j ≡ Some (born u f vs k))
is_born ms u f vs k s =
    (length (births s.before), ap (λ l. slice_get l (length (births s.before))) all ∙ behind_get (births s.before) (born u f vs k) (births s.later))
  where
    here : born_in s.spawning ≡ born u f vs k ∷ []
    here = ap (λ what. option_to_list (birth_of what)) s.asked

    all : births ms ≡ births s.before ++ born u f vs k ∷ births s.later
    all = ap births s.parts ∙ births_append s.before (s.spawning ∷ s.later) ∙ ap (λ bs. births s.before ++ (bs ++ births s.later)) here

-- and each of those was spawned
asked_so : (what : What) (b : Birth) → birth_of what ≡ Some b → what ≡ Asked (Spawn b.function b.args b.caps) (Val (value.Thread b.number))
asked_so Private b e = absurd cc
asked_so (Asked (Spawn f vs k) (Val (value.Thread u))) b e = ap (λ (b : Birth). Asked (Spawn b.function b.args b.caps) (Val (value.Thread b.number))) (same_Some (born u f vs k) b e)
asked_so (Asked a x) b e = absurd cc

later_on : (m : Moment) (ms : List Moment) (b : Birth) → WasSpawned ms b.number b.function b.args b.caps → WasSpawned (m ∷ ms) b.number b.function b.args b.caps
later_on m ms b s = record { before = m ∷ s.before; spawning = s.spawning; later = s.later; parts = ap (λ (l : List Moment). m ∷ l) s.parts; asked = s.asked }

pub was_spawned : (ms : List Moment) (j : ℕ) (b : Birth) → slice_get (births ms) j ≡ Some b → WasSpawned ms b.number b.function b.args b.caps
was_spawned [] j b e = absurd cc
was_spawned (m ∷ ms) j b e = by (birth_of m.event.what) refl j e (λ j b e. was_spawned ms j b e)
  where
    by : (o : Option Birth) → birth_of m.event.what ≡ o → (j : ℕ) → slice_get (option_to_list o ++ births ms) j ≡ Some b → ((j : ℕ) (b : Birth) → slice_get (births ms) j ≡ Some b → WasSpawned ms b.number b.function b.args b.caps) → WasSpawned (m ∷ ms) b.number b.function b.args b.caps
    by None f j e more = later_on m ms b (more j b e)
    by (Some c) f zero e more = record { before = []; spawning = m; later = ms; parts = refl; asked = asked_so m.event.what b (f ∙ e) }
    by (Some c) f (suc j) e more = later_on m ms b (more j b e)

-- ---- how each thread of a run began

module _ (n : ℕ) (ms : List Moment) (last : World) (has : HasThreads n ms last) where
  pub at_number : (j : ℕ) (b : Birth) → slice_get (births ms) j ≡ Some b → b.number ≡ n + j
  at_number j b e =
      counted_get n (numbers (births ms)) j b.number has.counted (slice_get-map (λ (b : Birth). b.number) (births ms) j ∙ ap (λ o. option_map (λ (b : Birth). b.number) o) e)

  -- one that was spawned is none of the first
  pub spawned_later : (u f : ℕ) (vs : List Value) (k : Caps) → WasSpawned ms u f vs k → n ≤ u
  spawned_later u f vs k s = let b = is_born ms u f vs k s in let e = at_number b.0 (born u f vs k) b.1 in omega (arith, e)

  -- and was spawned once
  pub spawned_once : (u f : ℕ) (vs : List Value) (k : Caps) (g : ℕ) (us : List Value) (h : Caps) → WasSpawned ms u f vs k → WasSpawned ms u g us h → born u f vs k ≡ born u g us h
  spawned_once u f vs k g us h s s' =
      let a = is_born ms u f vs k s in
      let b = is_born ms u g us h s' in
      let e = at_number a.0 (born u f vs k) a.1 in
      let e' = at_number b.0 (born u g us h) b.1 in
      let same : a.0 ≡ b.0 = omega (arith, e, e') in
      same_Some (born u f vs k) (born u g us h) (sym a.1 ∙ ap (slice_get (births ms)) same ∙ b.1)
