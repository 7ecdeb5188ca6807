-- What was kept of a whole run tells where its threads depart.
use Rattle.std.proofs.Common.{◌≡◌, inl, inr, ℕ, ◌+◌, ◌<◌, ◌≤◌, List, length, map, get_or, Option, Some, sym, ap, ◌∙◌, subst, arith}
use Rattle.std.specs.Prelude.{slice_get}
use Rattle.std.proofs.lemmas.List.{length-map}
use Rattle.std.proofs.lemmas.Option.{slice_get_within}
use Rattle.lam_asks.specs.declared.answer.What.{What}
use Rattle.lam_bytecode.specs.Codes.{CodeTree}
use Rattle.lam_resolve_tree.specs.Tree.{ResolvedTree}
use Rattle.lam_meaning.specs.Plays.{asks_made}
use Rattle.lam_machine_terms.specs.Limits.{most_threads}
use Rattle.lam_machine_terms.specs.Worlds.{World}
use Rattle.lam_machine_terms.specs.Turns.{moments, replay, IsRun}
use Rattle.lam_machine_laws.specs.Own.{done_by}
use Rattle.source_walk_state.specs.declared.Beginning.{Beginning}
use Rattle.source_walk_meets.specs.Births.{births, AreOfThreads, HasThreads}
use Rattle.source_walk_meets.proofs.Lists.{made_get}
use Rattle.source_walk_follow.specs.declared.followers.Follower.{Follower}
use Rattle.source_walk_follow.specs.Following.{place_left}
use Rattle.source_walk_follow.proofs.Following.{followed}
use Rattle.source_walk_run.specs.declared.turns_pass.Kept.{Kept}
use Rattle.source_walk_run.specs.declared.departures.Departures.{Departures}
use Rattle.source_walk_run.specs.Beginnings.{all_begun}
use Rattle.source_walk_run.specs.Counting.{AreTurnsOf}
use Rattle.source_walk_run.specs.Walking.{IsMeeting, AreWalking}
use Rattle.source_walk_run.specs.Keeping.{IsKept}
use Rattle.source_walk_run.specs.Departures.{IsMet, AreDepartures}
use Rattle.source_walk_run.proofs.Counts.{run_counts}

-- the walk of a thread tells where it departed
met : (r : ResolvedTree) (n : ℕ) (b : Beginning) (did : List What) (w : Follower) → IsMeeting r n b did w → IsMet r n b did (place_left w)
met r n b did w (inl h) = inl (h.0, followed r (asks_made r n b.function b.args b.caps) did w h.1)
met r n b did w (inr h) = inr (h.0, ap place_left h.1)

module _ (r : ResolvedTree) (starts : List Beginning) (counts : List ℕ) (code : CodeTree) (turns : List ℕ) (w : World) (kept : Kept) (d : Departures) (run : IsRun code turns w) (has : HasThreads (length w.threads) (moments code turns w) (replay code turns w)) (as_many : length starts ≡ length w.threads) (is : IsKept r starts counts (moments code turns w) kept) (places : d.places.items ≡ map place_left kept.walks.items) where
  known : AreWalking r starts counts (moments code turns w) kept.walks.items
  known = is.walks (subst (λ n. AreOfThreads n (moments code turns w)) (sym as_many) has.turns)

  many : length d.places.items ≡ length starts + length (births (moments code turns w))
  many = ap length places ∙ length-map kept.walks.items place_left ∙ known.many

  pub few_places : length (replay code turns w).threads ≤ most_threads → length d.places.items ≤ most_threads
  few_places few = let there = many in let all = has.all in omega (arith, there, all, as_many, few)

  module _ (few : length (replay code turns w).threads ≤ most_threads) (counted : AreTurnsOf turns most_threads counts) where
    units : (u : ℕ) → u < length d.places.items → get_or counts u 0 ≡ length (done_by u (moments code turns w))
    units u lt = let below = few_places few in counted.1 u (omega (arith, lt, below)) ∙ run_counts code u turns w run

    each : (u : ℕ) (b : Beginning) (at : Option ℕ) → slice_get (all_begun starts (moments code turns w)) u ≡ Some b → slice_get d.places.items u ≡ Some at → IsMet r (length (done_by u (moments code turns w))) b (done_by u (moments code turns w)) at
    each u b at h e =
        let walk = made_get place_left kept.walks.items u at (ap (λ l. slice_get l u) (sym places) ∙ e) in
        subst (λ (o : Option ℕ). IsMet r (length (done_by u (moments code turns w))) b (done_by u (moments code turns w)) o) walk.2
        (met r (length (done_by u (moments code turns w))) b (done_by u (moments code turns w)) walk.0
        (subst (λ n. IsMeeting r n b (done_by u (moments code turns w)) walk.0) (units u (slice_get_within d.places.items u at e)) (known.each u b walk.0 h walk.1)))

    pub all_told : d.asks ≡ kept.asks → AreDepartures r starts (moments code turns w) d
    all_told asks = record { many = many; each = each; asks = asks ∙ is.asks }
