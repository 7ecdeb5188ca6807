use Rattle.std.proofs.Common.{◌++◌, [], ◌∷◌, ap, ◌∙◌, append_assoc}
use Rattle.std.specs.Prelude.{replicate}
use Rattle.std.proofs.lemmas.List.{replicate_more}
use Rattle.lam_machine_terms.specs.Views.{turn}
use Rattle.pair_check_agenda.specs.Agendas.{items_in}
use Rattle.pair_check_agenda.specs.declared.entry.Entry.TheVariants.{Turn}
use Rattle.pair_check_agenda.proofs.MeetLemmas.{pushed}
use Rattle.pair_check_agenda.proofs.notes.put_turns.Goals as goal

pub loop-done-preserved : goal.loop-done-preserved
loop-done-preserved c =
    let before = items_in c.args.entries.now.items in
    let one = turn c.args.thread in
    pushed c.loop-done.entries.items c.push.new.self.items (Turn c.args.thread) c.in_ok-push.ensures.items
    ∙ ap (λ xs. xs ++ one ∷ []) c.loop-done.invariant
    ∙ append_assoc before (replicate c.loop-done._done one) (one ∷ [])
    ∙ ap (λ xs. before ++ xs) (replicate_more c.loop-done._done one)
