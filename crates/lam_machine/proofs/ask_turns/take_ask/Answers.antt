use Rattle.std.proofs.Common.{◌≡◌, List, Some, sym, subst}
use Rattle.std.specs.Prelude.{slice_get}
use Rattle.thread_steps.specs.Threads.{Context, Thread}
use Rattle.lam_machine_terms.specs.Worlds.{contexts_in}
use Rattle.lam_machine_effects.specs.Parts.{world_of}
use Rattle.lam_machine.specs.Asking.{Serves}
use Rattle.lam_machine.proofs.AskLemmas.{top_there, is_there, fits, few_after, taken}
use Rattle.lam_machine.proofs.ask_turns.take_ask.Goals as goal

pub served-requires-clause-top : goal.served-requires-clause-top
served-requires-clause-top c =
    subst (λ (xs : List Thread). (x : Context) × (slice_get (contexts_in (slice_get xs c.args.thread)) 0 ≡ Some x)) (sym c.as_slice.ensures.value)
    (top_there c.args.code.now c.args.stores.now c.args.threads.now.items c.args.thread c.args.ask.now c.requires.asks)

pub enact-requires-clause-there : goal.enact-requires-clause-there
enact-requires-clause-there c = is_there c.args.code.now c.args.stores.now c.args.threads.now.items c.args.thread c.args.ask.now c.requires.asks

pub enact-requires-clause-room : goal.enact-requires-clause-room
enact-requires-clause-room c =
    fits c.args.code.now c.args.stores.now c.args.threads.now.items c.args.thread c.args.ask.now c.requires.asks c.in_ok-answer.field-0
    (subst (λ (xs : List Thread). Serves (world_of c.args.stores.now xs) c.args.thread c.args.ask.now c.in_ok-answer.field-0) c.as_slice.ensures.value c.in_ok-answer.ensures)

pub returns-in-Ok-enact-clause-ok : goal.returns-in-Ok-enact-clause-ok
returns-in-Ok-enact-clause-ok c = λ l e.
    taken c.args.code.now c.args.stores.now c.args.threads.now.items c.args.thread c.args.ask.now c.requires.asks l c.in_ok-answer.field-0 c.in-Ok.copy _ _ e c.in-Ok.ensures
    (subst (λ (xs : List Thread). Serves (world_of c.args.stores.now xs) c.args.thread c.args.ask.now c.in_ok-answer.field-0) c.as_slice.ensures.value c.in_ok-answer.ensures)
    c.in-Ok-enact.ensures.stores c.in-Ok-enact.ensures.threads

pub returns-in-Ok-enact-clause-few : goal.returns-in-Ok-enact-clause-few
returns-in-Ok-enact-clause-few c =
    few_after c.args.code.now c.args.stores.now c.args.threads.now.items c.args.thread c.args.ask.now c.requires.asks c.in_ok-answer.field-0 _
    (subst (λ (xs : List Thread). Serves (world_of c.args.stores.now xs) c.args.thread c.args.ask.now c.in_ok-answer.field-0) c.as_slice.ensures.value c.in_ok-answer.ensures)
    c.in-Ok-enact.ensures.threads c.requires.few
