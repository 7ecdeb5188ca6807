use Rattle.std.proofs.Common.{◌≡◌, Ok}
use Rattle.lam_io.specs.Outside.{Rose}
use Rattle.lam_main_words.specs.Words.{asked}
use Rattle.lam_main_plan.specs.Plan.{IsPlanOf, written_by}
use Rattle.lam_main_plan.proofs.AnswerLemmas.{stay_kept}
use Rattle.lam_main_replay.specs.declared.halt.Halt.TheVariants.{ShelfFailed}
use Rattle.lam_main.proofs.DoneLemmas.{reported, halted, spared}
use Rattle.lam_main.proofs.command_answer.Goals as goal

pub returns-in_default : goal.returns-in_default
returns-in_default g c =
    let old = g.H.Shelf.files c.args.shelf.now in
    let new = g.H.Shelf.files c.shown_answer.new.shelf in
    record {
      gives = λ told. reported c.done.result c.shown_answer.result (IsPlanOf (Ok (asked c.args.command)) old) old new c.done.ensures (c.shown_answer.ensures.gives told);
      kept = λ told. stay_kept (written_by (Ok (asked c.args.command))) old new (c.shown_answer.ensures.stay told);
      spared = λ told. spared c.done.result (Rose (g.H.Shelf.refusals c.args.shelf.now) (g.H.Shelf.refusals c.shown_answer.new.shelf)) old new (c.shown_answer.ensures.stay told);
      failed = halted c.done.result c.shown_answer.result (λ halt. halt ≡ ShelfFailed → Rose (g.H.Shelf.faults c.args.shelf.now) (g.H.Shelf.faults c.shown_answer.new.shelf)) c.done.ensures c.shown_answer.ensures.failed;
    }
