-- Where turns stop to be a run.
use Rattle.std.proofs.Common.{◌≡◌, ◌⊎◌, inl, inr, ℕ, ◌≤◌, List, length, Option, Some, None, sym, ap, ◌∙◌, arith}
use Rattle.std.specs.Prelude.{slice_get}
use Rattle.std.specs.Option.{option_map}
use Rattle.std.proofs.lemmas.Option.{slice_get_past}
use Rattle.lam_bytecode.specs.Codes.{CodeTree}
use Rattle.lam_machine_terms.specs.Worlds.{World}
use Rattle.lam_machine_terms.specs.Turns.{moments, IsRun}
use Rattle.lam_machine_runs.specs.Runs.{StopsAt}
use Rattle.lam_machine_runs.proofs.RunLemmas.{stopped_runs}
use Rattle.lam_machine_runs.specs.Stops.{NotReady, stopped_at}
use Rattle.lam_machine_replay.specs.Stops.{RunsAreWhole}

at_end : (n k : ℕ) → n ≡ k → k ≤ n
at_end n k e = omega (arith, e)

-- as many turns as there are moments
abbrev stop_after : ℕ → List ℕ → Option NotReady
stop_after n turns = option_map (λ t. record { turn = n; thread = t }) (slice_get turns n)

past_all : (turns : List ℕ) (n : ℕ) → length turns ≤ n → stop_after n turns ≡ None
past_all turns n h = ap (λ x. option_map (λ (t : ℕ). record { turn = n; thread = t }) x) (slice_get_past turns n h)

some_is_none : {X : Type 0} (stop : NotReady) → Some stop ≡ None → X
some_is_none stop e = absurd cc

found_there : (code : CodeTree) (turns : List ℕ) (w : World) → StopsAt code w turns (length (moments code turns w)) → stopped_at code turns w ≡ None → IsRun code turns w
found_there code turns w s e =
    let n = length (moments code turns w) in
    some_is_none (record { turn = n; thread = s.0 }) (sym (ap (λ x. option_map (λ (t : ℕ). record { turn = n; thread = t }) x) s.1) ∙ e)

pub runs_whole : (code : CodeTree) → RunsAreWhole code
runs_whole code turns w = (λ run. past_all turns (length (moments code turns w)) (at_end (length (moments code turns w)) (length turns) (((stopped_runs code).whole w turns).0 run)), λ e. by e ((stopped_runs code).stops w turns))
  where
    by : stopped_at code turns w ≡ None → IsRun code turns w ⊎ StopsAt code w turns (length (moments code turns w)) → IsRun code turns w
    by e (inl run) = run
    by e (inr s) = found_there code turns w s e
