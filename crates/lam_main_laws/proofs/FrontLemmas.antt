-- The lines of a front of a run are a front of the lines of the run.
use Rattle.std.proofs.Common.{◌≡◌, List, map, ◌++◌, ap, subst, ◌∙◌}
use Rattle.std.specs.List.{flat_map}
use Rattle.std.proofs.lemmas.List.{map-append}
use Rattle.std.proofs.lemmas.List.Elements.{filter-append}
use Rattle.std.proofs.lemmas.Grind.{flat_map-append}
use Rattle.flow_labels.specs.declared.Label.{Label}
use Rattle.lam_io.specs.Outside.{Files}
use Rattle.lam_bytecode.specs.Codes.{CodeTree}
use Rattle.lam_machine_terms.specs.Turns.{Moment, moments, replay}
use Rattle.lam_machine_terms.specs.Views.{Entry, is_noted, noted, entry_of, trace}
use Rattle.lam_machine_runs.specs.Runs.{RunsJoin, RunsStop}
use Rattle.audit_log.specs.Log.{entry_line, view_lines}
use Rattle.lam_main_words.specs.Words.{Text}
use Rattle.lam_main_plan.specs.Refusals.{prints}
use Rattle.lam_main_plan.specs.Plan.{IsPlan}
use Rattle.lam_main_laws.specs.Fronts.{FrontsAreSeenFirst, FrontsArePrinted}
use Rattle.lam_main_laws.proofs.ReplayLemmas.{view_printed}

view_append : (names : List Text) (o : Label) (ms ns : List Moment) → view_lines names o (ms ++ ns) ≡ view_lines names o ms ++ view_lines names o ns
view_append names o ms ns =
    ap (λ (xs : List Moment). flat_map (entry_line names) (map (entry_of o) xs)) (filter-append (is_noted o) ms ns)
    ∙ ap (λ (xs : List Entry). flat_map (entry_line names) xs) (map-append (entry_of o) (noted o ms) (noted o ns))
    ∙ flat_map-append (entry_line names) (trace o ms) (trace o ns)

pub seen_first : ((code : CodeTree) → RunsJoin code) → (code : CodeTree) → FrontsAreSeenFirst code
seen_first join code names o start front back run =
    let law = join code in
    let run_of_front = ((law.joins start front back).0 run).0 in
    let later = moments code back (replay code front start) in
    (run_of_front, (view_lines names o later, ap (view_lines names o) (law.moments_join start front back run_of_front) ∙ view_append names o (moments code front start) later))

pub printed_first : ((code : CodeTree) → FrontsAreSeenFirst code) → ((code : CodeTree) → RunsStop code) → (ws : List Text) (files : Files) → FrontsArePrinted ws files
printed_first seen stops ws files code start o front back r =
    let begins = (seen code start.names o start front back r.holds.ready).1 in
    record {
      begins = (begins.0, subst (λ (text : Text). IsPlan ws files (prints text)) begins.1 (view_printed ws files code start o (front ++ back) (stops code) r));
      alone = λ ws' files' r'. view_printed ws' files' code start o front (stops code) r';
    }
