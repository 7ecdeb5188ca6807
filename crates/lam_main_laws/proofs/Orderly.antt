-- How calls end that nothing failed.
use Rattle.std.proofs.Common.{◌≡◌, ℕ, List, Option, Result, Ok, refl, sym, ap, subst, ◌∙◌, codes}
use Rattle.lam_io.specs.Outside.{Files}
use Rattle.lam_print.specs.Canon.{canon}
use Rattle.play_run.specs.Lines.{play_lines}
use Rattle.lam_bytecode.specs.Codes.{CodeTree}
use Rattle.lam_bytecode.specs.Listing.{listing_text}
use Rattle.lam_machine_terms.specs.Turns.{Moment, moments}
use Rattle.lam_machine_runs.specs.Runs.{RunsStop}
use Rattle.audit_log.specs.Log.{view_lines, audit_lines}
use Rattle.audit_log_notes.specs.Sums.{summary_lines}
use Rattle.lam_main_words.specs.Words.{Text, Request, play, check, format, code, replay, audit, help, request_of, commands, help_lines}
use Rattle.lam_main_plan.specs.declared.Status.{Status}
use Rattle.lam_main_plan.specs.declared.Status.TheVariants.{Done, NoMemory, ShelfFault, SinkFault}
use Rattle.lam_main_plan.specs.Refusals.{Plan, prints}
use Rattle.lam_main_plan.specs.Reading.{HasFile, IsCompiled, program_limit}
use Rattle.lam_main_plan.specs.Threads.{IsOfThreads, made_budget}
use Rattle.lam_main_plan.specs.Plan.{IsPlan, IsPlanOf, TellAll, PlansAreOne, IsRefused, RefusalsAreOne}
use Rattle.lam_main_plan.specs.Answer.{Outside, IsPrinted, whole, front, IsPlanned}
use Rattle.lam_main_plan.proofs.PlayLemmas.{printed_of}
use Rattle.lam_main_plan.proofs.FormatLemmas.{planned}
use Rattle.lam_main_plan.proofs.ReadLemmas.{program_then}
use Rattle.lam_main_laws.specs.Headline.{IsRunEnd, MakesBreakOff, RunsAreComplete}
use Rattle.lam_main_laws.specs.Complete.{MakesAreComplete}
use Rattle.world_save_laws.specs.Longest.{SpelledTextsAreBounded}
use Rattle.lam_main_laws.specs.Orderly.{IsUnfailed, IsOrderly, plays, checks, formats, lists, replays, audits, helps, pairs, walks, saves, saves_few, OrderlyCallsAreDone, OrderlyRunsEnd, MakesEnd, IsRefusedAs, RefusalsAreExact}
use Rattle.lam_main_laws.proofs.CallLemmas.{Did, did, broken_did, broken_front, does_run, keeps_run}
use Rattle.lam_main_laws.proofs.ReplayLemmas.{view_printed, audit_printed}
use Rattle.lam_main_laws.proofs.PairLemmas.{pair_planned}
use Rattle.lam_main_laws.proofs.WalkLemmas.{walk_planned}
use Rattle.lam_main_laws.proofs.SaveLemmas.{save_planned, save_done, few_saved}

-- ---- what the call did

unfailed_did : (status : Status) (IsPlan : Plan → Type 0) (old new : Outside) → IsUnfailed status → IsPlanned status IsPlan old new → Did status IsPlan old new
unfailed_did status IsPlan old new quiet given = did status IsPlan old new (λ e. subst IsUnfailed e quiet) (λ e. subst IsUnfailed e quiet) given

-- and it ended as planned
ended_as : (status end : Status) (text : Text) (old new : Option Text) → IsUnfailed status → IsPrinted status end text old new → status ≡ end
ended_as status end text old new quiet (whole e t) = e
ended_as status end text old new quiet (front e t) = absurd (subst IsUnfailed e quiet)

-- ---- a text is planned, and nothing is left open

record Prints (ws : List Text) (files : Files) : Type 0 where
  text : Text
  is : IsPlan ws files (prints text)
  alone : TellAll (request_of ws) files

-- words and files of a request tell all, where they do of what is asked
tells_all : (ws : List Text) (files : Files) (request : Request) → request_of ws ≡ Ok request → TellAll (Ok request) files → TellAll (request_of ws) files
tells_all ws files request is all = subst (λ (r : Result Request ℕ). TellAll r files) (sym is) all

asks : (ws : List Text) (files : Files) (request : Request) (text : Text) → request_of ws ≡ Ok request → TellAll (Ok request) files → IsPlanOf (Ok request) files (prints text) → Prints ws files
asks ws files request text is none of = record {
  text = text;
  is = subst (λ (r : Result Request ℕ). IsPlanOf r files (prints text)) (sym is) of;
  alone = tells_all ws files request is none;
}

module _ (files : Files) (program : Text) (tree : CodeTree) (h : HasFile (files program) program_limit (λ bytes. IsCompiled bytes (Ok tree))) where
  checked : IsPlanOf (Ok (check program)) files (prints (codes "ok\n"))
  checked = program_then (files program) program (λ tree p. p ≡ prints (codes "ok\n")) (prints (codes "ok\n")) tree h refl

  listed : IsPlanOf (Ok (code program)) files (prints (listing_text tree))
  listed = program_then (files program) program (λ tree p. p ≡ prints (listing_text tree)) (prints (listing_text tree)) tree h refl

module _ (stops : (tree : CodeTree) → RunsStop tree) (bounded : SpelledTextsAreBounded) where
  -- the plan of a call in order is that of a text
  orderly_text : PlansAreOne → (ws : List Text) (files : Files) (plan : Plan) → Prints ws files → IsPlan ws files plan → plan.status ≡ Done
  orderly_text one ws files plan p is = ap (λ (it : Plan). it.status) (one ws files plan (prints p.text) p.alone is p.is)

  orderly_plan : PlansAreOne → (ws : List Text) (files : Files) (plan : Plan) → IsOrderly ws files → IsPlan ws files plan → plan.status ≡ Done
  orderly_plan one ws files plan (plays script o r) is = orderly_text one ws files plan (record { text = play_lines script o; is = printed_of ws files script o r; alone = tells_all ws files (play r.file r.label) r.asks (record { turns = refl; digits = tt }) }) is
  orderly_plan one ws files plan (checks program tree ask h) is = orderly_text one ws files plan (asks ws files (check program) (codes "ok\n") ask (record { turns = refl; digits = tt }) (checked files program tree h)) is
  orderly_plan one ws files plan (formats p r) is = orderly_text one ws files plan (record { text = canon p; is = planned ws files p r; alone = tells_all ws files (format r.file) r.asks (record { turns = refl; digits = tt }) }) is
  orderly_plan one ws files plan (lists program tree ask h) is = orderly_text one ws files plan (asks ws files (code program) (listing_text tree) ask (record { turns = refl; digits = tt }) (listed files program tree h)) is
  orderly_plan one ws files plan (replays tree start o turns r) is = orderly_text one ws files plan (record { text = view_lines start.names o (moments tree turns start); is = view_printed ws files tree start o turns (stops tree) r; alone = tells_all ws files (replay r.program r.world r.book r.label) r.asks (record { turns = refl; digits = tt }) }) is
  orderly_plan one ws files plan (audits tree start turns r) is = orderly_text one ws files plan (record { text = audit_lines start.names (moments tree turns start); is = audit_printed ws files tree start turns (stops tree) r; alone = tells_all ws files (audit r.program r.world r.book) r.asks (record { turns = refl; digits = tt }) }) is
  orderly_plan one ws files plan (helps ask) is = orderly_text one ws files plan (asks ws files help (help_lines commands) ask (record { turns = refl; digits = tt }) refl) is
  orderly_plan one ws files plan (pairs tree o s turns s' turns' a) is = ap (λ (it : Plan). it.status) (pair_planned ws files tree o s turns s' turns' plan (stops tree) a is).is
  orderly_plan one ws files plan (walks tree start turns a) is = ap (λ (it : Plan). it.status) (walk_planned ws files tree start turns plan (stops tree) a is).tells.is
  orderly_plan one ws files plan (saves tree start turns a can) is = save_done a.out a.holds.starts.bytes tree start turns plan can (save_planned ws files tree start turns plan (stops tree) a is)
  orderly_plan one ws files plan (saves_few tree start turns a few) is =
      save_done a.out a.holds.starts.bytes tree start turns plan (few_saved bounded a.holds.starts.bytes tree start turns few) (save_planned ws files tree start turns plan (stops tree) a is)

  pub orderly_done : PlansAreOne → (ws : List Text) (status : Status) (old new : Outside) → IsPlanned status (IsPlan ws old.files) old new → OrderlyCallsAreDone ws status old
  orderly_done one ws status old new given orderly quiet =
      let d = unfailed_did status (IsPlan ws old.files) old new quiet given in
      ended_as status d.plan.status d.plan.text old.taken new.taken quiet d.does.printed ∙ orderly_plan one ws old.files d.plan orderly d.is

-- ---- runs

pub runs_end : ((ws : List Text) (files : Files) → RunsAreComplete ws files) → (ws : List Text) (status : Status) (old new : Outside) → IsPlanned status (IsPlan ws old.files) old new → OrderlyRunsEnd ws status old
runs_end complete ws status old new given tree start o out budget r quiet =
    let d = unfailed_did status (IsPlan ws old.files) old new quiet given in
    subst IsRunEnd (sym (ended_as status d.plan.status d.plan.text old.taken new.taken quiet d.does.printed)) (complete ws old.files tree start o out budget d.plan r d.is).1

module _ (complete : (ws : List Text) (files : Files) → MakesAreComplete ws files) where
  pub makes_end : (ws : List Text) (status : Status) (old new : Outside) → IsPlanned status (IsPlan ws old.files) old new → MakesEnd ws status
  makes_end ws status old new given seed threads out is quiet =
      let d = unfailed_did status (IsPlan ws old.files) old new quiet given in
      let m = complete ws old.files seed threads out is in
      subst IsRunEnd (sym (ended_as status d.plan.status d.plan.text old.taken new.taken quiet d.does.printed)) (m.planned d.plan d.is).1

  pub makes_broken : (ws : List Text) (status : Status) (old new : Outside) → IsPlanned status (IsPlan ws old.files) old new → MakesBreakOff ws status old new
  makes_broken ws status old new given seed threads out is sink =
      let d = broken_did status (IsPlan ws old.files) old new sink given in
      let m = complete ws old.files seed threads out is in
      let shown : List Moment → Text = summary_lines seed threads in
      let p : IsOfThreads m.code m.start out made_budget shown d.plan = (m.planned d.plan d.is).0 in
      let does = does_run m.code m.start out made_budget shown status d.plan old new p d.does in
      record {
        code = m.code;
        compiled = m.compiled;
        start = m.start;
        starts = m.starts;
        turns = p.turns;
        ended = p.ended;
        keeps = keeps_run m.code m.start out made_budget shown status d.plan old new p d.does;
        front = broken_front status p.ended (shown (moments m.code p.turns m.start)) old.taken new.taken sink does.printed;
      }

-- ---- refusals

refused_quiet : (status : Status) → IsRefused status → IsUnfailed status
refused_quiet NoMemory refused = refused
refused_quiet ShelfFault refused = refused
refused_quiet SinkFault refused = refused
refused_quiet status refused = tt

module _ (one : RefusalsAreOne) (ws : List Text) (status : Status) (old new : Outside) (given : IsPlanned status (IsPlan ws old.files) old new) where
  did_planned : IsUnfailed status → (plan : Plan) × IsRefusedAs ws status old new plan
  did_planned quiet =
      let d = unfailed_did status (IsPlan ws old.files) old new quiet given in
      (d.plan, record { is = d.is; ends = ended_as status d.plan.status d.plan.text old.taken new.taken quiet d.does.printed; does = d.does })

  comes_so : (plan : Plan) → IsPlan ws old.files plan → IsRefused plan.status → IsUnfailed status → IsRefusedAs ws status old new plan
  comes_so plan is refused quiet =
      let d = did_planned quiet in
      subst (IsRefusedAs ws status old new) (sym (one ws old.files plan d.0 refused is d.1.is)) d.1

  pub refused_exactly : RefusalsAreExact ws status old new
  refused_exactly = record {
    planned = λ refused. did_planned (refused_quiet status refused);
    comes = comes_so;
    alone = λ plan other refused is it. one ws old.files plan other refused is it;
  }
