-- No run of a valid start ends in two ways.
use Rattle.std.proofs.Common.{◌≡◌, ℕ, Bool, true, false, List, [], ◌∷◌, Option, Some, None, refl, sym, ap, ◌∙◌}
use Rattle.std.specs.Prelude.{is_none, is_some}
use Rattle.lam_machine_terms.specs.Outcome.{Outcome}
use Rattle.lam_machine_terms.specs.Codes.{CodeTree}
use Rattle.lam_machine_terms.specs.Threads.{Context, Thread}
use Rattle.lam_machine_terms.specs.Worlds.{World, thread_at}
use Rattle.lam_machine_terms.specs.Turns.{Moment, is_living, turn_on, turn_in, step, ready, IsDone, AllWait}
use Rattle.lam_machine_terms.specs.Valid.{has_contexts, IsValid}
use Rattle.lam_machine_runs.specs.declared.How.{How}
use Rattle.lam_machine_runs.specs.declared.How.TheVariants.{Done, AllWait as all_wait, Budget}
use Rattle.lam_machine_runs.specs.Ends.{SomeReady, EndsAreOne}

open_ended : (x : Option Outcome) → is_none x ≡ true → is_some x ≡ true → ⊥
open_ended None e f = cc
open_ended (Some r) e f = cc

module _ (code : CodeTree) (w : World) where
  -- a thread that is ready has not ended
  ready_open : (t : ℕ) → IsValid w → ready code w t ≡ true → (th : Thread) × (thread_at w t ≡ Some th) × (is_none th.result ≡ true)
  unfolding ready step
  ready_open t valid e = by (thread_at w t) refl e
    where
      on : (th : Thread) → thread_at w t ≡ Some th → (cs : List Context) → th.contexts ≡ cs → is_some (turn_on code w t th cs) ≡ true → is_none th.result ≡ true
      on th at [] list e = absurd cc
      on th at (c ∷ rest) list e = (valid.threads t th at).ended ∙ ap has_contexts list

      by : (x : Option Thread) → thread_at w t ≡ x → is_some (turn_in code w t x) ≡ true → (th : Thread) × (thread_at w t ≡ Some th) × (is_none th.result ≡ true)
      by None at e = absurd cc
      by (Some th) at e = (th, at, on th at th.contexts refl e)

  done_none_ready : IsValid w → IsDone w → SomeReady code w → ⊥
  done_none_ready valid done (t, e) = let k = ready_open t valid e in open_ended (k.0).result k.2 (done t k.0 k.1)

  done_none_lives : IsDone w → (t : ℕ) → is_living (thread_at w t) ≡ true → ⊥
  done_none_lives done t e = by (thread_at w t) refl e
    where
      by : (x : Option Thread) → thread_at w t ≡ x → is_living x ≡ true → ⊥
      by None at e = cc
      by (Some th) at e = open_ended th.result e (done t th at)

  wait_none_ready : AllWait code w → SomeReady code w → ⊥
  wait_none_ready wait (t, e) = let no = wait.none_ready t in cc

pub one_end : (code : CodeTree) → EndsAreOne code
one_end code w n b Done valid h n' b' Done h' = refl
one_end code w n b all_wait valid h n' b' all_wait h' = refl
one_end code w n b Budget valid h n' b' Budget h' = refl
one_end code w n b Done valid h n' b' all_wait h' = absurd (done_none_lives code w h h'.some_lives.0 h'.some_lives.1)
one_end code w n b all_wait valid h n' b' Done h' = absurd (done_none_lives code w h' h.some_lives.0 h.some_lives.1)
one_end code w n b Done valid h n' b' Budget h' = absurd (done_none_ready code w valid h h'.0)
one_end code w n b Budget valid h n' b' Done h' = absurd (done_none_ready code w valid h' h.0)
one_end code w n b all_wait valid h n' b' Budget h' = absurd (wait_none_ready code w h h'.0)
one_end code w n b Budget valid h n' b' all_wait h' = absurd (wait_none_ready code w h' h.0)
