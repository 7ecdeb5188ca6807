-- A thread of a run is one that runs alone with the answers that it got, and those suit.
use Rattle.std.proofs.Common.{◌≡◌, inl, inr, ℕ, ◌+◌, ◌*◌, ◌≤◌, List, [], ◌∷◌, length, Some, refl, sym, ap, ◌∙◌, subst, arith}
use Rattle.std.specs.Prelude.{slice_get}
use Rattle.std.proofs.lemmas.List.{append-nil}
use Rattle.capabilities.specs.declared.Caps.{Caps}
use Rattle.lam_value.specs.declared.values.Value.{Value}
use Rattle.lam_asks.specs.declared.answer.What.{What}
use Rattle.lam_bytecode.specs.Codes.{CodeTree}
use Rattle.lam_resolve_tree.specs.Tree.{ResolvedFunction, ResolvedTree}
use Rattle.thread_steps.specs.Threads.{Context, Thread}
use Rattle.thread_steps.specs.Next.{Next, goes, started, next_of, stands, standing_in, is_ended}
use Rattle.lam_meaning.specs.Means.{means}
use Rattle.lam_meaning.specs.Plays.{asks_of, AllFit, asks_made}
use Rattle.lam_meaning_typed.specs.Kinds.{AreOf}
use Rattle.lam_meaning_laws.specs.Lone.{runs, turn, turn_of, turns, asks_in, work_done, NotStuck, alone, bound}
use Rattle.lam_meaning_laws.proofs.Turns.{turns_add}
use Rattle.lam_meaning_laws.specs.Acts.{AreFirst, lone_in, ActsWith, ActsAs}
use Rattle.lam_meaning_laws.proofs.Grows.{turns_grow, stays}
use Rattle.lam_machine_valid.specs.Turns.{moments}
use Rattle.lam_machine_valid.specs.Own.{OwnTurns, done_by}
use Rattle.lam_machine_means.specs.Runs.{asked_in, answers_in}
use Rattle.lam_machine_means.proofs.Alone.{own_turns}
use Rattle.lam_machine_means.proofs.Whole.{suit_in_runs}
use Rattle.lam_machine_means.specs.Meant.{IsFar, DoesAsMeant, RunsMean}

-- one that has ended stays as it is
ended_stays : (code : CodeTree) (th : Thread) (made : List _) (w : ℕ) (cs : List Context) → th.contexts ≡ cs → standing_in code cs ≡ is_ended → turn code (runs th [] made w) ≡ runs th [] made w
ended_stays code th made w [] e s = ap (λ cs. turn_of code th cs [] made w) e
ended_stays code th made w (c ∷ rest) e s = absurd (by (next_of code c) s)
  where
    by : (nx : Next) → stands nx ≡ is_ended → ⊥
    by (goes i) s = cc
    by nx s = cc

module _ (r : ResolvedTree) (code : CodeTree) (acts_as : ActsAs code r) (f : ℕ) (fn : ResolvedFunction) (vs : List Value) (k : Caps) (did : List What) (th : Thread) (found : slice_get r.functions f ≡ Some fn) (sorts : AreOf fn.params vs) (own : OwnTurns code (started code f vs k) did th) (suit : (n : ℕ) → AllFit (asks_of (means r n f vs k) (answers_in did)) (answers_in did)) where
  acts : (n : ℕ) → ActsWith code n r f vs k (answers_in did)
  acts n = acts_as n f fn vs k (answers_in did) found sorts (suit n)

  here : (w : ℕ) × (lone_in code f vs k (answers_in did) (length did) ≡ runs th [] (asked_in did) w)
  here =
      let o = own_turns code (started code f vs k) th did [] [] 0 own in
      (o.0, ap (λ xs. turns code (length did) (alone code f vs k xs)) (sym (append-nil (answers_in did))) ∙ o.1)

  few : work_done (lone_in code f vs k (answers_in did) (length did)) ≤ length did
  few = let g = turns_grow code (length did) (alone code f vs k (answers_in did)) in omega (arith, g.few)

  all_asked : (n : ℕ) → IsFar r code n did th → AreFirst (asks_made r n f vs k (answers_in did)) (asked_in did)
  all_asked n (inl le) = subst (λ s. AreFirst (asks_made r n f vs k (answers_in did)) (asks_in s)) here.1 ((acts n).asks_all (length did) le)
  all_asked n (inr ended) =
      let far = (n + 1) * bound r in
      let last = runs th [] (asked_in did) here.0 in
      let s = alone code f vs k (answers_in did) in
      let still = stays code far last (ended_stays code th (asked_in did) here.0 th.contexts refl ended) in
      let same : lone_in code f vs k (answers_in did) (length did + far) ≡ last = turns_add code 0 (length did) far s ∙ ap (turns code far) here.1 ∙ still in
      subst (λ s. AreFirst (asks_made r n f vs k (answers_in did)) (asks_in s)) same ((acts n).asks_all (length did + far) (omega arith))

  meant : DoesAsMeant r code f vs k did th
  meant =
      record {
        never_stuck = subst (NotStuck code) here.1 ((acts (length did)).never_stuck (length did) few);
        asks_only = subst (λ s. AreFirst (asks_in s) (asks_made r (length did) f vs k (answers_in did))) here.1 ((acts (length did)).asks_only (length did) few);
        asks_all = all_asked;
      }

pub runs_mean : (r : ResolvedTree) (code : CodeTree) → RunsMean r code
runs_mean r code acts_as is_code typed w turns valid starts u th at =
    let s = suit_in_runs r code acts_as is_code typed w turns valid starts u th at in
    record {
      function = s.function;
      args = s.args;
      caps = s.caps;
      began = s.began;
      declared = s.declared;
      found = s.found;
      result = s.result;
      sorts = s.sorts;
      meant = meant r code acts_as s.function s.declared s.args s.caps (done_by u (moments code turns w)) th s.found s.sorts s.own s.suit;
    }
