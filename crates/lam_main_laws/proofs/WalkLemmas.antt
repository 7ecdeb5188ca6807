-- From what files hold to what `walk` tells.
use Rattle.std.proofs.Common.{List, ℕ, Result, Ok, subst}
use Rattle.lam_io.specs.Outside.{Files}
use Rattle.lam_bytecode.specs.Codes.{CodeTree}
use Rattle.lam_machine_terms.specs.Worlds.{World}
use Rattle.lam_machine_runs.specs.Runs.{RunsStop}
use Rattle.lam_main_words.specs.Words.{Text, Request, walk}
use Rattle.lam_main_plan.specs.Refusals.{Plan}
use Rattle.lam_main_plan.specs.Reading.{IsRunCode, program_limit}
use Rattle.lam_main_plan.specs.Replays.{RunFiles}
use Rattle.lam_main_plan.specs.Books.{WithRun}
use Rattle.lam_main_plan.specs.Walks.{IsOfWalk, WalksRun, Walks}
use Rattle.lam_main_plan.specs.Plan.{IsPlan, IsPlanOf}
use Rattle.lam_main_laws.specs.Walks.{AsksWalk, WalksAreTold}
use Rattle.lam_main_laws.proofs.PlanLemmas.{of_bytes, of_code}
use Rattle.lam_main_laws.proofs.PairLemmas.{of_start, of_run}
use Rattle.lam_main_laws.proofs.ReplayLemmas.{never_stops}

pub walk_planned : (ws : List Text) (files : Files) (code : CodeTree) (start : World) (turns : List ℕ) (plan : Plan) → RunsStop code → (a : AsksWalk ws files code start turns) → IsPlan ws files plan → IsOfWalk a.holds.compiled.bytes code start turns plan
walk_planned ws files code start turns plan law a is =
    let run : RunFiles = record { world = a.world; book = a.book } in
    let bytes : Text = a.holds.compiled.bytes in
    let OfStart : World → Plan → Type 0 = λ s. WithRun files a.book code s (IsOfWalk bytes code s) in
    let planned : IsPlanOf (Ok (walk a.program a.world a.book)) files plan = subst (λ (request : Result Request ℕ). IsPlanOf request files plan) a.asks is in
    of_run files code plan a.book start (IsOfWalk bytes code start) turns a.holds.reads (never_stops code law turns start a.holds.ready)
    (of_start files code plan a.world OfStart start a.holds.starts
    (of_code (WalksRun files run bytes) bytes code plan a.holds.compiled.follows
    (of_bytes (files a.program) a.program program_limit (λ bs. IsRunCode bs code) (Walks files run) plan a.holds.compiled planned)))

pub told : ((code : CodeTree) → RunsStop code) → (ws : List Text) (files : Files) → WalksAreTold ws files
told stops ws files code start turns plan a is = walk_planned ws files code start turns plan (stops code) a is
