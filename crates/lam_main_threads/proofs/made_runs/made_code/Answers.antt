use Rattle.std.proofs.Common.{◌≡◌, Ok, Err, subst}
use Rattle.lam_machine_terms.specs.Worlds.{World}
use Rattle.world_doc_terms.specs.Start.{start_of}
use Rattle.lam_main_words.specs.Words.{Text}
use Rattle.audit_log_notes.specs.Sums.{summary_lines}
use Rattle.lam_main_replay.specs.Replays.{NoStart}
use Rattle.lam_main_replay.specs.Halts.{Finds}
use Rattle.lam_main_replay.specs.Threads.{IsOfThreads, made_budget}
use Rattle.lam_main_threads.proofs.TakenLemmas.{world_offers, no_world_offers}
use Rattle.lam_main_threads.proofs.made_runs.made_code.Goals as goal

pub returns-in_ok-made_run-in-Ok-clause-offers : goal.returns-in_ok-made_run-in-Ok-clause-offers
returns-in_ok-made_run-in-Ok-clause-offers g c =
    world_offers (λ out start. IsOfThreads c.args.code start out made_budget (summary_lines c.args.seed c.args.threads)) (start_of c.args.world.now c.args.code) c.in-Ok.start c.in_ok-made_run-in-Ok.field-0 (subst (λ (b : Text). start_of b c.args.code ≡ Ok c.in-Ok.start) c.as_bytes.ensures.value c.in-Ok.ensures.finds) c.in_ok-made_run-in-Ok.ensures

pub returns-in-Err-clause-offers : goal.returns-in-Err-clause-offers
returns-in-Err-clause-offers g c =
    no_world_offers (λ out start. IsOfThreads c.args.code start out made_budget (summary_lines c.args.seed c.args.threads)) (start_of c.args.world.now c.args.code) (λ (start : World). start_of c.args.world.now c.args.code ≡ Ok start) c.in-Err.halt
    (subst (λ (b : Text). Finds {X = World} (Err c.in-Err.halt) (λ (start : World). start_of b c.args.code ≡ Ok start) (NoStart c.args.code b)) c.as_bytes.ensures.value c.in-Err.ensures.finds)
