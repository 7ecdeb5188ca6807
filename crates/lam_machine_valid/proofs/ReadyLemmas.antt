-- Which threads are ready.
use Rattle.std.proofs.Common.{◌≡◌, ℕ, zero, suc, ◌<◌, ◌≤◌, ◌⊎◌, inl, inr, Bool, true, false, cond, List, [], ◌∷◌, Option, Some, None, length, refl, sym, ap, subst, ◌∙◌, arith}
use Rattle.std.specs.Prelude.{is_some, is_none, not, ◌&&◌, nat_lt, slice_get}
use Rattle.std.proofs.lemmas.Bool.Decides.{nat_tests}
use Rattle.lam_asks.specs.declared.answer.Outcome.{Outcome}
use Rattle.lam_bytecode.specs.Codes.{CodeTree}
use Rattle.thread_steps.specs.Threads.{Context, Thread}
use Rattle.thread_steps.specs.Next.{Next, goes, asks, stuck, next_of}
use Rattle.lam_machine_laws.specs.Worlds.{World, thread_at, contexts_in}
use Rattle.lam_machine_laws.specs.Serving.{serve}
use Rattle.lam_machine_laws.specs.Turns.{waits, is_ready, Moment, served, turn_by, turn_on, turn_in, step, ready, IsDone, AllWait, is_living}
use Rattle.lam_machine_laws.specs.Valid.{has_contexts, IsValid}
use Rattle.lam_machine_laws.proofs.ThreadLemmas.{some_inj}
use Rattle.lam_machine_valid.proofs.NextLemmas.{what_it_may}
use Rattle.lam_machine_valid.specs.Ready.{goes_now, can_go, ReadyThreadsCanGo, EndedAreNotReady, StandsOneWay}

some_where : (b : Bool) (m : Moment) → is_some (cond b (Some m) None) ≡ b
some_where true m = refl
some_where false m = refl

module _ (code : CodeTree) (w : World) (t : ℕ) where
  by_next : (th : Thread) (c : Context) (rest : List Context) (nx : Next) → next_of code c ≡ nx → is_some (turn_by code w t th c rest nx) ≡ goes_now w t c nx
  by_next th c rest (goes i) e = refl
  by_next th c rest (asks a i) e =
      some_where (is_ready w t c a) (served code w t th c rest a i (serve w c a)) ∙ ap (λ b. b && not (waits w t c a)) (what_it_may code c a i e)
  by_next th c rest stuck e = refl

  on_thread : (th : Thread) (cs : List Context) → is_some (turn_on code w t th cs) ≡ can_go code w t cs
  on_thread th [] = refl
  on_thread th (c ∷ rest) = by_next th c rest (next_of code c) refl

  in_world : (x : Option Thread) → is_some (turn_in code w t x) ≡ can_go code w t (contexts_in x)
  in_world None = refl
  in_world (Some th) = on_thread th th.contexts

pub can_go_by : (code : CodeTree) → ReadyThreadsCanGo code
unfolding ready step
can_go_by code w t = in_world code w t (thread_at w t)

-- ---- ended and stuck

ended_none : (o : Option Outcome) → is_some o ≡ true → is_none o ≡ false
ended_none None e = sym e
ended_none (Some r) e = refl

none_left : (cs : List Context) → has_contexts cs ≡ false → cs ≡ []
none_left [] e = refl
none_left (c ∷ cs) e = absurd cc

ended_not : (code : CodeTree) (w : World) (t : ℕ) (th : Thread) → IsValid w → thread_at w t ≡ Some th → is_some th.result ≡ true → ready code w t ≡ false
ended_not code w t th v e r =
    let gone = none_left th.contexts (sym (v.threads t th e).ended ∙ ended_none th.result r) in
    can_go_by code w t ∙ ap (λ x. can_go code w t (contexts_in x)) e ∙ ap (can_go code w t) gone

done_not : (code : CodeTree) (w : World) → IsValid w → IsDone w → (t : ℕ) → ready code w t ≡ false
done_not code w v d t = by (thread_at w t) refl
  where
    by : (x : Option Thread) → thread_at w t ≡ x → ready code w t ≡ false
    by None e = can_go_by code w t ∙ ap (λ x. can_go code w t (contexts_in x)) e
    by (Some th) e = ended_not code w t th v e (d t th e)

pub not_ready : (code : CodeTree) → EndedAreNotReady code
not_ready code =
    record {
      ended = ended_not code;
      stuck = λ w t c rest e s. can_go_by code w t ∙ ap (can_go code w t) e ∙ ap (goes_now w t c) s;
      done = done_not code;
    }

-- ---- threads by number

no_thread : (ths : List Thread) (t : ℕ) → length ths ≤ t → slice_get ths t ≡ None
no_thread [] t l = refl
no_thread (x ∷ ths) zero l = absurd (omega arith)
no_thread (x ∷ ths) (suc t) l = no_thread ths t (omega arith)

abbrev AllEnded : List Thread → Type 0
AllEnded ths = (t : ℕ) (th : Thread) → slice_get ths t ≡ Some th → is_some th.result ≡ true

abbrev OneLives : List Thread → Type 0
OneLives ths = (t : ℕ) × (is_living (slice_get ths t) ≡ true)

all_or_one : (ths : List Thread) → AllEnded ths ⊎ OneLives ths
all_or_one [] = inl (λ t th e. absurd cc)
all_or_one (x ∷ ths) = by x.result refl (all_or_one ths)
  where
    by : (o : Option Outcome) → x.result ≡ o → AllEnded ths ⊎ OneLives ths → AllEnded (x ∷ ths) ⊎ OneLives (x ∷ ths)
    by None e r = inr (0, ap is_none e)
    by (Some v) e (inr r) = inr (suc r.0, r.1)
    by (Some v) e (inl h) = inl go
      where
        go : (t : ℕ) (th : Thread) → slice_get (x ∷ ths) t ≡ Some th → is_some th.result ≡ true
        go zero th f = ap is_some (ap (λ (k : Thread). k.result) (sym (some_inj x th f)) ∙ e)
        go (suc t) th f = h t th f

-- ---- one way

module _ (code : CodeTree) (w : World) where
  abbrev NoneBelow : ℕ → Type 0
  NoneBelow n = (t : ℕ) → t < n → ready code w t ≡ false

  abbrev SomeReady : Type 0
  SomeReady = (t : ℕ) × (ready code w t ≡ true)

  one_further : (n : ℕ) (b : Bool) → ready code w n ≡ b → NoneBelow n → NoneBelow (suc n) ⊎ SomeReady
  one_further n true e h = inr (n, e)
  one_further n false e h = inl (λ t l. go t l (nat_lt t n) refl)
    where
      go : (t : ℕ) → t < suc n → (b : Bool) → nat_lt t n ≡ b → ready code w t ≡ false
      go t l true k = h t (grind (arith, nat_tests, k))
      go t l false k = let same : n ≡ t = grind (arith, nat_tests, k, l) in subst (λ x. ready code w x ≡ false) same e

  search_ready : (n : ℕ) → NoneBelow n ⊎ SomeReady
  search_ready zero = inl (λ t l. absurd (omega arith))
  search_ready (suc n) = by (search_ready n)
    where
      by : NoneBelow n ⊎ SomeReady → NoneBelow (suc n) ⊎ SomeReady
      by (inl h) = one_further n (ready code w n) refl h
      by (inr h) = inr h

  -- past the last thread none is ready
  past_all : (t : ℕ) → thread_at w t ≡ None → ready code w t ≡ false
  past_all t e = can_go_by code w t ∙ ap (λ x. can_go code w t (contexts_in x)) e

  none_anywhere : NoneBelow (length w.threads) → (t : ℕ) → ready code w t ≡ false
  none_anywhere h t = go (nat_lt t (length w.threads)) refl
    where
      go : (b : Bool) → nat_lt t (length w.threads) ≡ b → ready code w t ≡ false
      go true k = h t (grind (arith, nat_tests, k))
      go false k = past_all t (no_thread w.threads t (grind (arith, nat_tests, k)))

  stands : (IsDone w) ⊎ ((t : ℕ) × (is_living (thread_at w t) ≡ true)) → NoneBelow (length w.threads) ⊎ SomeReady → IsDone w ⊎ (AllWait code w ⊎ SomeReady)
  stands (inl d) r = inl d
  stands (inr l) (inl h) = inr (inl (record { some_lives = l; none_ready = none_anywhere h }))
  stands (inr l) (inr r) = inr (inr r)

pub one_way : (code : CodeTree) → StandsOneWay code
one_way code w = stands code w (all_or_one w.threads) (search_ready code w (length w.threads))
