use Rattle.std.proofs.Common.{◌≡◌, ℕ, Result, Err, map, string_bytes, refl, sym, subst}
use Rattle.lam_main_plan.specs.Answer.{OthersKept}
use Rattle.lam_main_plan.proofs.AnswerLemmas.{stay_kept}
use Rattle.lam_main_replay.specs.declared.halt.Halt.{Halt}
use Rattle.lam_main_replay.specs.declared.halt.Halt.TheVariants.{Refused, NoMemory}
use Rattle.lam_main_replay.specs.declared.halt.Refusal.TheVariants.{Word}
use Rattle.lam_closed_words.specs.Words.{Request, request_of}
use Rattle.lam_closed_plan.specs.Plan.{IsPlanOf, written_by}
use Rattle.lam_closed_rooms.specs.declared.Report.{Report}
use Rattle.lam_closed_main.specs.Ends.{Reports}
use Rattle.lam_main_words.proofs.FormLemmas.{none_named}
use Rattle.lam_closed_main.proofs.answer_of.Goals as goal

pub returns-in-Ok-clause-gives : goal.returns-in-Ok-clause-gives
returns-in-Ok-clause-gives g c = λ told.
    subst (λ (r : Result Request ℕ). Reports c.command_answer.result (IsPlanOf r (g.H.Shelf.files c.args.shelf.now)) (g.H.Shelf.files c.args.shelf.now) (g.H.Shelf.files c.command_answer.new.shelf)) (sym c.in-Ok.ensures.value)
    (c.command_answer.ensures.gives told)

pub returns-in-Ok-clause-kept : goal.returns-in-Ok-clause-kept
returns-in-Ok-clause-kept g c = λ told.
    subst (λ (r : Result Request ℕ). OthersKept (written_by r) (g.H.Shelf.files c.args.shelf.now) (g.H.Shelf.files c.command_answer.new.shelf)) (sym c.in-Ok.ensures.value)
    (c.command_answer.ensures.kept told)

pub returns-in-Err-NoMemory-clause-words_first : goal.returns-in-Err-NoMemory-clause-words_first
returns-in-Err-NoMemory-clause-words_first g c =
    none_named (λ at. let given : Result Report Halt = Err NoMemory in given ≡ Err (Refused (Word at))) (request_of (map string_bytes c.args.words.now))
    (rw c.in-Err-NoMemory.field-0-is at c.in-Err-NoMemory.ensures.value)

pub returns-in-Err-NoMemory-clause-kept : goal.returns-in-Err-NoMemory-clause-kept
returns-in-Err-NoMemory-clause-kept g c = λ told.
    stay_kept (written_by (request_of (map string_bytes c.args.words.now))) (g.H.Shelf.files c.args.shelf.now) (g.H.Shelf.files c.args.shelf.now) (λ name. refl)
