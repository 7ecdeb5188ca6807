use Rattle.std.proofs.Common.{◌≡◌, ◌∙◌, sym, ap, refl, Some, None}
use Rattle.std.specs.Option.{is_some, option_copied}
use Rattle.labelled_heap.specs.Seen.{things_in}
use Rattle.labelled_heap.proofs.RowLemmas.{found}
use Rattle.labelled_heap.proofs.ThingLemmas.{lives_seen}
use Rattle.labelled_heap.proofs.heap.Heap.lives.Goals as goal

pub returns : goal.returns
returns c =
    c.is_some.ensures
    ∙ elim c.thing_of.result as (λ o. is_some o ≡ is_some (option_copied o)) [ None ↦ refl | Some t ↦ refl ]
    ∙ ap is_some (c.thing_of.ensures ∙ sym (found c.self.inside.rows.entries c.self.invariant.kept.unique c.args.r.now))
    ∙ lives_seen (things_in c.self.inside.rows.entries) c.self.inside.counters c.args.self.now c.self.view_is c.args.r.now
