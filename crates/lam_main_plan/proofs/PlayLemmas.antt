-- a script that words and files name is played
use Rattle.std.proofs.Common.{List, Result, ℕ, sym, ap, subst, ◌∙◌}
use Rattle.flow_labels.specs.declared.Label.{Label}
use Rattle.lam_io.specs.Outside.{Files}
use Rattle.play_script.specs.Script.{Play}
use Rattle.play_run.specs.Lines.{play_lines}
use Rattle.lam_main_words.specs.Words.{Text, Request}
use Rattle.lam_main_plan.specs.Refusals.{prints}
use Rattle.lam_main_plan.specs.Reading.{of_file}
use Rattle.lam_main_plan.specs.Plan.{PlaysScript, IsPlan, IsPlanOf, played, seen_by}

pub printed_of : (ws : List Text) (files : Files) (script : Play) (observer : Label) → PlaysScript ws files script observer → IsPlan ws files (prints (play_lines script observer))
printed_of ws files script observer p =
    subst (λ (r : Result Request ℕ). IsPlanOf r files (prints (play_lines script observer))) (sym p.asks)
    (of_file (record { bytes = p.bytes; there = p.found; short = p.short; follows = sym (ap (λ r. played r p.label) p.reads ∙ ap (seen_by script) p.observes) }))
