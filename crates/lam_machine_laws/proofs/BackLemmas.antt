-- The contexts below the acting one stay.
use Rattle.std.proofs.Common.{◌≡◌, ℕ, zero, suc, true, List, [], ◌∷◌, ◌++◌, Option, Some, None, refl, sym, ap, ◌∙◌, subst, append_assoc, inl, inr}
use Rattle.std.specs.Prelude.{is_some, slice_get, slice_set}
use Rattle.lam_machine_effects.specs.Fault.{Fault}
use Rattle.lam_machine_effects.specs.Codes.{CodeTree}
use Rattle.lam_machine_effects.specs.Threads.{Inside, Phase, Bottom, Body, Catch, Context, Thread}
use Rattle.lam_machine_effects.specs.Next.{asks, raised, next_in, next_of, started}
use Rattle.lam_machine_effects.specs.Worlds.{World, thread_at, contexts_in, with_thread}
use Rattle.lam_machine_effects.specs.Serves.{Effect, adds_thread, effect_of}
use Rattle.lam_machine_effects.specs.Turns.{Moment, step, and_then, moments}
use Rattle.lam_machine_laws.proofs.TurnLemmas.{acts, turned}
use Rattle.lam_machine_laws.specs.Laws.{StandsAbove, ComesBack, ContextsComeBack, handling}

-- ---- one thread of many

pub at_after : (Q : Option Thread → Type 0) (t j : ℕ) (xs : List Thread) (a : Thread) → Q (slice_get xs j) → (j ≡ t → Q (Some a)) → Q (slice_get (slice_set xs t a) j)
at_after Q t j [] a all here = all
at_after Q zero zero (x ∷ xs) a all here = here refl
at_after Q zero (suc j) (x ∷ xs) a all here = all
at_after Q (suc t) zero (x ∷ xs) a all here = all
at_after Q (suc t) (suc j) (x ∷ xs) a all here = at_after Q t j xs a all (λ e. here (ap suc e))

pub set_there : (t : ℕ) (xs : List Thread) (a : Thread) → is_some (slice_get xs t) ≡ true → slice_get (slice_set xs t a) t ≡ Some a
set_there t [] a e = absurd cc
set_there zero (x ∷ xs) a e = refl
set_there (suc t) (x ∷ xs) a e = set_there t xs a e

pub grown_there : (xs : List Thread) (a : Thread) (j : ℕ) → is_some (slice_get xs j) ≡ true → slice_get (xs ++ a ∷ []) j ≡ slice_get xs j
grown_there [] a j e = absurd cc
grown_there (x ∷ xs) a zero e = refl
grown_there (x ∷ xs) a (suc j) e = grown_there xs a j e

-- an effect leaves the threads that are there
pub effect_threads : (code : CodeTree) (t : ℕ) (e : Effect) (w : World) (j : ℕ) → is_some (thread_at w j) ≡ true → thread_at (effect_of code t e w) j ≡ thread_at w j
effect_threads code t (adds_thread unit args caps) w j h = grown_there w.threads (started code unit args caps) j h
effect_threads code t e w j h = refl

-- a thread that is there is there after a turn
pub still_there : (w : World) (t : ℕ) (to : Thread) (j : ℕ) → is_some (thread_at w j) ≡ true → is_some (thread_at (with_thread w t to) j) ≡ true
still_there w t to j h = at_after (λ x. is_some x ≡ true) t j w.threads to h (λ e. refl)

-- ---- contexts come back

-- some contexts stand on these
abbrev IsOn : List Context → Option Thread → Type 0
IsOn below x = (ys : List Context) × (contexts_in x ≡ ys ++ below)

above_there : (c : Context) (cs : List Context) (x : Option Thread) → contexts_in x ≡ c ∷ cs → is_some x ≡ true
above_there c cs None e = absurd cc
above_there c cs (Some th) e = refl

tails : (c d : Context) (cs ds : List Context) → c ∷ cs ≡ d ∷ ds → cs ≡ ds
tails c d cs ds e = cc

one_turn : (code : CodeTree) (w : World) (t u : ℕ) (m : Moment) (below : List Context) → StandsAbove w u below → step code w t ≡ Some m → IsOn below (thread_at m.world u)
one_turn code w t u m below (c, cs, e) h =
    let a = acts code w t m h in
    let b = turned code w t a.thread a.top a.rest _ m a.gives in
    let here : u ≡ t → IsOn below (Some b.to)
    = λ s. let rest = tails a.top c a.rest (cs ++ below) (sym (ap contexts_in (ap (thread_at w) s ∙ a.at) ∙ a.list) ∙ e) in
    (b.new ++ cs, b.form ∙ ap (λ l. b.new ++ l) rest ∙ sym (append_assoc b.new cs below)) in
    let set = at_after (IsOn below) t u w.threads b.to (c ∷ cs, e) here in
    let same = effect_threads code t b.effect (with_thread w t b.to) u (still_there w t b.to u (above_there c (cs ++ below) (thread_at w u) e)) in
    subst (λ (x : World). IsOn below (thread_at x u)) (sym b.world) (subst (IsOn below) (sym same) set)

come_back : (code : CodeTree) (turns : List ℕ) (w : World) (u : ℕ) (below : List Context) → StandsAbove w u below → ComesBack u below (moments code turns w)
come_back code [] w u below h = tt
come_back code (t ∷ ts) w u below h = look (λ v k. come_back code ts v u below k) (step code w t) refl
  where
    on : ((v : World) → StandsAbove v u below → ComesBack u below (moments code ts v)) → (m : Moment) → IsOn below (thread_at m.world u) → ComesBack u below (m ∷ moments code ts m.world)
    on more m ([], e) = inl e
    on more m (y ∷ ys, e) = inr ((y, ys, e), more m.world (y, ys, e))

    look : ((v : World) → StandsAbove v u below → ComesBack u below (moments code ts v)) → (x : Option Moment) → step code w t ≡ x → ComesBack u below (and_then x (moments code ts))
    look more None e = tt
    look more (Some m) e = on more m (one_turn code w t u m below h e)

pub contexts_come : (code : CodeTree) → ContextsComeBack code
contexts_come code = come_back code

-- ---- faults

raised_handled : (ph : Phase) (i : Inside) (f : Fault) → raised ph i f ≡ asks (handling ph f) i
raised_handled Bottom i f = refl
raised_handled (Body at) i f = refl
raised_handled Catch i f = refl

pub fault_next : (code : CodeTree) (c : Context) (f : Fault) → c.inside.fault ≡ Some f → next_of code c ≡ asks (handling c.phase f) c.inside
unfolding next_of
fault_next code c f e = ap (next_in code c) e ∙ raised_handled c.phase c.inside f
