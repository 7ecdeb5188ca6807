-- Of words of `make` nothing but a run is planned.
use Rattle.std.proofs.Common.{◌≡◌, ℕ, List, Result, Ok, sym, subst}
use Rattle.lam_io.specs.Outside.{Files}
use Rattle.lam_bytecode.specs.Codes.{CodeTree}
use Rattle.lam_machine_terms.specs.Worlds.{World}
use Rattle.world_doc_terms.specs.Start.{start_of}
use Rattle.world_save_laws.specs.Entries.{ThinnedStarts}
use Rattle.lam_make.specs.Made.{program_text, world_text}
use Rattle.audit_log_notes.specs.Sums.{summary_lines}
use Rattle.lam_main_words.specs.Words.{Text, Request}
use Rattle.lam_main_plan.specs.Refusals.{Plan}
use Rattle.lam_main_plan.specs.Replays.{ByWorld}
use Rattle.lam_main_plan.specs.Threads.{IsOfThreads, made_budget, Makes}
use Rattle.lam_main_plan.specs.Plan.{IsPlanOf}
use Rattle.lam_main_laws.specs.Headline.{IsRunEnd}
use Rattle.lam_main_laws.proofs.PlanLemmas.{of_code, of_world, is_run_end}
use Rattle.lam_main_laws.specs.Complete.{MakesAreComplete}
use Rattle.lam_main_laws.proofs.MadeCode.{made_code, made_compiled, made_entry}
use Rattle.lam_main_laws.proofs.MadeStart.{made_start, start_is}
use Rattle.lam_main_laws.proofs.Words.{threads_between}

module _ (seed threads : ℕ) (out : Text) (start : World) (starts : start_of (world_text seed threads) made_code ≡ Ok start) (plan : Plan) where
  abbrev IsOf : CodeTree → World → Plan → Type 0
  IsOf code start plan = IsOfThreads code start out made_budget (summary_lines seed threads) plan

  made_planned : Makes seed threads out plan → IsOf made_code start plan
  made_planned is =
      of_world (IsOf made_code) (start_of (world_text seed threads) made_code) start plan starts
      (of_code (λ code. ByWorld (IsOf code) (start_of (world_text seed threads) code)) program_text made_code plan made_compiled is)

  run_planned : Makes seed threads out plan → IsOf made_code start plan × IsRunEnd plan.status
  run_planned is = let p = made_planned is in (p, subst (λ (it : Plan). IsRunEnd it.status) (sym p.is) (is_run_end p.ended))

pub makes_planned : ((code : CodeTree) → ThinnedStarts code) → (ws : List Text) (files : Files) → MakesAreComplete ws files
makes_planned same ws files seed threads out asks =
    let range = threads_between ws seed threads out asks in
    let start : World = made_start made_code (made_entry same) seed threads range.1 range.0 in
    let starts : start_of (world_text seed threads) made_code ≡ Ok start = start_is made_code (made_entry same) seed threads range.1 range.0 in
    record {
      code = made_code;
      compiled = made_compiled;
      start = start;
      starts = starts;
      planned = λ plan is. run_planned seed threads out start starts plan (subst (λ (request : Result Request ℕ). IsPlanOf request files plan) asks is);
    }
