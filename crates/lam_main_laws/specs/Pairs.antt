-- What a call of `pair` tells of two runs.
use Rattle.std.specs.Prelude.{◌≡◌, ℕ, List, Ok}
use Rattle.flow_labels.specs.LabelText.{label_of}
use Rattle.flow_labels.specs.declared.Label.{Label}
use Rattle.lam_io.specs.Outside.{Files}
use Rattle.lam_bytecode.specs.Codes.{CodeTree}
use Rattle.lam_machine_terms.specs.Worlds.{World}
use Rattle.lam_machine_terms.specs.Turns.{moments}
use Rattle.pair_check_terms.specs.declared.answer.PairAnswer.{PairAnswer}
use Rattle.pair_check_terms.specs.Pairs.{IsPaired}
use Rattle.pair_check_terms.specs.Laws.{LookSameBy}
use Rattle.lam_main_words.specs.Words.{Text, pair, request_of}
use Rattle.lam_main_plan.specs.Refusals.{Plan, prints}
use Rattle.lam_main_plan.specs.Pairs.{pair_line}
use Rattle.lam_main_plan.specs.Plan.{IsPlan}
use Rattle.lam_main_laws.specs.Calls.{HoldRun}

-- the words ask whether this observer may expect to see the same of these two runs
pub record AsksPair (ws : List Text) (files : Files) (code : CodeTree) (o : Label) (s : World) (turns : List ℕ) (s' : World) (turns' : List ℕ) : Type 0 where
  pub program : Text
  pub first_world : Text
  pub first_book : Text
  pub second_world : Text
  pub second_book : Text
  pub label : Text
  pub asks : request_of ws ≡ Ok (pair program first_world first_book second_world second_book label)
  pub first : HoldRun files program first_world first_book code s turns
  pub second : HoldRun files program second_world second_book code s' turns'
  pub observes : label_of s.names label ≡ Ok o

-- the line of what is to be said of them is printed; and where that has a number, the observer sees the same of both runs
-- up to it: the same visible events and the same releases past it, and just after them the same of both worlds
pub record TellsPair (code : CodeTree) (o : Label) (s : World) (turns : List ℕ) (s' : World) (turns' : List ℕ) (plan : Plan) : Type 0 where
  pub answer : PairAnswer
  pub paired : IsPaired o s (moments code turns s) s' (moments code turns' s') answer
  pub printed : plan ≡ prints (pair_line answer)
  pub look : LookSameBy answer o s (moments code turns s) s' (moments code turns' s')

abbrev pub PairsAreTold : List Text → Files → Type 0
PairsAreTold ws files =
    (code : CodeTree) (o : Label) (s : World) (turns : List ℕ) (s' : World) (turns' : List ℕ) (plan : Plan) →
    AsksPair ws files code o s turns s' turns' → IsPlan ws files plan → TellsPair code o s turns s' turns' plan
