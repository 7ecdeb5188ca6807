-- How calls end that nothing failed.
use Rattle.std.proofs.Common.{◌≡◌, ℕ, List, Result, sym, ap, subst, ◌∙◌}
use Rattle.lam_main_words.specs.Words.{Text}
use Rattle.lam_closed_words.specs.Words.{Request, request_of}
use Rattle.lam_closed_plan.specs.declared.Status.{Status}
use Rattle.lam_closed_plan.specs.declared.Status.TheVariants.{Done, NoMemory, Words, Program, World, Book, Missing, ShelfFault, SinkFault, Cut, Waits, Stalled, Over}
use Rattle.lam_closed_plan.specs.Outcome.{Plan}
use Rattle.lam_closed_plan.specs.Plan.{IsPlan, IsPlanOf, written_by, PlansAreOne, IsRefused}
use Rattle.lam_closed_plan.specs.Answer.{Outside, IsAnswer}
use Rattle.lam_closed_laws.specs.Asks.{IsRunEnd, IsUnfailed}
use Rattle.lam_closed_laws.specs.Headline.{RunsAreComplete}
use Rattle.lam_closed_laws.specs.Checked.{ChecksAreTold}
use Rattle.lam_closed_laws.specs.Orderly.{OrderlyCallsEnd, IsRefusedAs, RefusalsAreExact}
use Rattle.lam_closed_laws.proofs.CallLemmas.{Did, IsNoFault, did_so, ended_whole, is_run_end}

no_fault_unfailed : IsNoFault IsUnfailed
no_fault_unfailed = record { memory = λ h. h; shelf = λ h. h; sink = λ h. h }

module _ (ws : List Text) (status : Status) (old new : Outside) (answer : IsAnswer (written_by (request_of ws)) status (IsPlan ws old.files) old new) where
  -- the plan that the call did, and that it ended so
  ended : IsUnfailed status → (d : Did status (IsPlan ws old.files) old new) × (status ≡ d.plan.status)
  ended quiet =
      let d = did_so IsUnfailed no_fault_unfailed status quiet (written_by (request_of ws)) (IsPlan ws old.files) old new answer in
      (d, (ended_whole IsUnfailed no_fault_unfailed status quiet d.plan.status d.plan.text old.taken new.taken d.does.printed).0)

  pub orderly : RunsAreComplete ws old.files → ChecksAreTold ws old.files → PlansAreOne → OrderlyCallsEnd ws status old
  orderly complete told one = record {
    runs = λ code start o b n out r quiet.
        let d = ended quiet in
        let p = (complete code start o b n out r).each d.0.plan d.0.is in
        subst IsRunEnd (sym (d.1 ∙ ap (λ (it : Plan). it.status) p.is)) (is_run_end p.end);
    checks = λ code start b turns a quiet.
        let d = ended quiet in
        d.1 ∙ ap (λ (it : Plan). it.status) (one ws old.files d.0.plan _ d.0.is (told code start b turns a).printed);
    helps = λ asks quiet.
        let d = ended quiet in
        d.1 ∙ ap (λ (it : Plan). it.status) (subst (λ (request : Result Request ℕ). IsPlanOf request old.files d.0.plan) asks d.0.is);
  }

  refused_quiet : (s : Status) → IsRefused s → IsUnfailed s
  refused_quiet Done refused = tt
  refused_quiet NoMemory refused = refused
  refused_quiet Words refused = tt
  refused_quiet Program refused = tt
  refused_quiet World refused = tt
  refused_quiet Book refused = tt
  refused_quiet Missing refused = tt
  refused_quiet ShelfFault refused = refused
  refused_quiet SinkFault refused = refused
  refused_quiet Cut refused = tt
  refused_quiet Waits refused = tt
  refused_quiet Stalled refused = tt
  refused_quiet Over refused = tt

  did_planned : IsUnfailed status → (plan : Plan) × IsRefusedAs ws status old new plan
  did_planned quiet = let d = ended quiet in (d.0.plan, record { is = d.0.is; ends = d.1; does = d.0.does })

  pub refused_exactly : PlansAreOne → RefusalsAreExact ws status old new
  refused_exactly one = record {
    planned = λ refused. did_planned (refused_quiet status refused);
    comes = λ plan is refused quiet. let d = did_planned quiet in subst (IsRefusedAs ws status old new) (one ws old.files d.0 plan d.1.is is) d.1;
    alone = λ plan other is it. one ws old.files plan other is it;
  }
