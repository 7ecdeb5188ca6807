use Rattle.std.proofs.Common.{ℕ, List, subst, string_bytes}
use Rattle.lam_main_plan.specs.Replays.{IsOfTurns}
use Rattle.lam_main_replay.specs.Halts.{Says}
use Rattle.lam_main_replay.specs.Asked.{lines_for}
use Rattle.lam_main_replay.proofs.RunLemmas.{turns_say, no_turns_say}
use Rattle.lam_main_replay.proofs.replay_book.Goals as goal

pub returns-in-Ok-clause-says : goal.returns-in-Ok-clause-says
returns-in-Ok-clause-says g c = λ told.
    turns_say c.args.code.now c.args.start (lines_for c.args.viewer.now.who c.args.viewer.now.names) (g.H.Shelf.files c.args.shelf.now (string_bytes c.args.book)) (string_bytes c.args.book) c.in-Ok.turns c.shown_turns.result (c.in-Ok.ensures.finds told)
    (subst (λ (ts : List ℕ). Says c.shown_turns.result (IsOfTurns c.args.code.now c.args.start (lines_for c.args.viewer.now.who c.args.viewer.now.names) ts)) c.as_slice.ensures c.shown_turns.ensures.says)

pub returns-in-Err-clause-says : goal.returns-in-Err-clause-says
returns-in-Err-clause-says g c = λ told.
    no_turns_say c.args.code.now c.args.start (lines_for c.args.viewer.now.who c.args.viewer.now.names) (g.H.Shelf.files c.args.shelf.now (string_bytes c.args.book)) (string_bytes c.args.book) c.in-Err.halt (c.in-Err.ensures.finds told)
