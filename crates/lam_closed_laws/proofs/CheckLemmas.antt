-- From what files hold to what `check` tells.
use Rattle.std.proofs.Common.{ℕ, List, Result, refl, sym, subst}
use Rattle.flow_labels.specs.LabelText.{label_of}
use Rattle.flow_labels.specs.declared.Label.{Label}
use Rattle.lam_io.specs.Outside.{Files}
use Rattle.lam_bytecode.specs.Codes.{CodeTree}
use Rattle.lam_machine_terms.specs.Worlds.{World}
use Rattle.lam_machine_runs.specs.Runs.{RunsStop}
use Rattle.lam_machine_runs.specs.Stops.{stopped_at}
use Rattle.closed_terms.specs.Departures.{departure}
use Rattle.closed_laws.specs.Departs.{DeparturesAreFirst}
use Rattle.lam_main_words.specs.Words.{Text}
use Rattle.lam_main_plan.specs.Refusals as refusals
use Rattle.lam_main_plan.specs.Replays.{RunFiles}
use Rattle.lam_main_plan.specs.Books.{WithRun}
use Rattle.lam_main_plan.proofs.ReadLemmas.{thin_program_then}
use Rattle.lam_main_plan.proofs.BookLemmas.{start_then, label_then, run_then, ready_then}
use Rattle.lam_main_laws.proofs.ReplayLemmas.{never_stops}
use Rattle.lam_closed_words.specs.Words.{Request}
use Rattle.lam_closed_plan.specs.Checks.{base_word, departure_line, IsOfDeparture, ChecksFrom, ChecksCode}
use Rattle.lam_closed_plan.specs.Plan.{prints, IsPlan, IsPlanOf}
use Rattle.lam_closed_laws.specs.Asks.{AsksCheck}
use Rattle.lam_closed_laws.specs.Checked.{ChecksAreTold}

module _ (ws : List Text) (files : Files) (code : CodeTree) (start : World) (b : Label) (turns : List ℕ) (law : RunsStop code) (a : AsksCheck ws files code start b turns) where
  abbrev text : Text
  text = departure_line (departure b code turns start)

  pub check_planned : IsPlan ws files (prints text)
  check_planned =
      let p : refusals.Plan = refusals.prints text in
      let run : RunFiles = record { world = a.world; book = a.book } in
      let Over : Label → refusals.Plan → Type 0 = λ x. WithRun files a.book code start (IsOfDeparture code start x) in
      subst (λ (request : Result Request ℕ). IsPlanOf request files (prints text)) (sym a.asks) (record {
        of_lam = p;
        is =
            thin_program_then (files a.program) a.program (ChecksCode files run a.base) p code a.holds.compiled
            (start_then files a.world code (ChecksFrom files a.book a.base code) p start a.holds.starts
            (label_then base_word Over p (label_of start.names a.base) b a.opens
            (run_then files a.book code start (IsOfDeparture code start b) p turns a.holds.reads
            (ready_then (IsOfDeparture code start b turns) p (stopped_at code turns start) (never_stops code law turns start a.holds.ready) refl))));
        same = refl;
      })

pub told : ((code : CodeTree) → RunsStop code) → ((code : CodeTree) (b : Label) → DeparturesAreFirst code b) → (ws : List Text) (files : Files) → ChecksAreTold ws files
told stops first ws files code start b turns a =
    let law = first code b in
    record {
      printed = check_planned ws files code start b turns (stops code) a;
      closed = law.none start turns;
      first = law.first start turns;
    }
