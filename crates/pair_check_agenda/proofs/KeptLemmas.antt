-- What is kept of a turn, and of private turns in a row.
use Rattle.std.proofs.Common.{◌≡◌, ℕ, suc, Bool, true, false, List, [], ◌∷◌, ◌++◌, length, Some, None, refl, sym, ap, subst, ◌∙◌}
use Rattle.std.specs.Prelude.{cond}
use Rattle.std.specs.List.{AllByRecursion}
use Rattle.std.specs.Option.{option_to_list}
use Rattle.flow_labels.specs.declared.Label.{Label}
use Rattle.flow_labels.specs.Flow.{seen}
use Rattle.lam_asks.specs.declared.answer.Event.{Event}
use Rattle.lam_machine_terms.specs.Worlds.{World}
use Rattle.lam_machine_terms.specs.Turns.{Moment}
use Rattle.lam_machine_terms.specs.Views.{Item, turn, agenda}
use Rattle.lam_machine_replay.specs.Told.{product_label, product}
use Rattle.lam_machine_replay.specs.Keeping.{KeepsTurn, IsPrivateAt, KeepsPrivate}
use Rattle.lam_machine_replay.proofs.ProductLemmas.{products_told}
use Rattle.pair_check_agenda.specs.Agendas.{IsAgenda}
use Rattle.pair_check_agenda.specs.Noting.{past_by, noted_of, private_noted}
use Rattle.pair_check_agenda.proofs.MadeLemmas.{IsNamedBy, products_named}
use Rattle.pair_check_agenda.proofs.NotedLemmas.{noted_one, agenda_join}

module _ (o : Label) where
  pub turn_kept : (n : ℕ) (e : Event) (after : World) (stored before kept : List Item) → stored ≡ before → kept ≡ stored ++ option_to_list (noted_of o e after) → KeepsTurn (IsAgenda o) n e after before kept
  turn_kept n e after stored before kept same new code t w it ms many old =
      let m : Moment = record { event = e; made = it.made; world = after } in
      new
      ∙ ap (λ xs. xs ++ option_to_list (noted_of o e after)) (same ∙ old)
      ∙ ap (λ xs. agenda o ms ++ xs) (sym (noted_one o m (products_told code w t m it.is) (products_named code w t m it.is)))
      ∙ sym (agenda_join o ms (m ∷ []))

  module _ (t : ℕ) (l : Label) where
    -- of a private turn the thread, where it is seen
    private_one : (m : Moment) → IsPrivateAt t l m → agenda o (m ∷ []) ≡ option_to_list (cond (seen l o) (Some (turn t)) None)
    private_one m is =
        noted_one o m is.told (subst (λ what. IsNamedBy (product_label what) m.made) (sym is.what) tt)
        ∙ ap (λ what. option_to_list (cond (seen m.event.label o) (Some (turn m.event.thread)) (past_by o m.event (product m.world m.event.thread what) (product_label what)))) is.what
        ∙ ap (λ label. option_to_list (cond (seen label o) (Some (turn m.event.thread)) None)) is.label
        ∙ ap (λ thread. option_to_list (cond (seen l o) (Some (turn thread)) None)) is.thread

    none_noted : (b : Bool) → [] ≡ private_noted b t 0
    none_noted true = refl
    none_noted false = refl

    one_more : (b : Bool) (k : ℕ) → option_to_list (cond b (Some (turn t)) None) ++ private_noted b t k ≡ private_noted b t (suc k)
    one_more true k = refl
    one_more false k = refl

    row_noted : (row : List Moment) → AllByRecursion (IsPrivateAt t l) row → agenda o row ≡ private_noted (seen l o) t (length row)
    row_noted [] each = none_noted (seen l o)
    row_noted (m ∷ row) each =
        agenda_join o (m ∷ []) row
        ∙ ap (λ xs. xs ++ agenda o row) (private_one m each.0)
        ∙ ap (λ xs. option_to_list (cond (seen l o) (Some (turn t)) None) ++ xs) (row_noted row each.1)
        ∙ one_more (seen l o) (length row)

    -- whether the thread is seen is read once
    pub private_kept : (many : ℕ) (stored before kept : List Item) (b : Bool) → b ≡ seen l o → stored ≡ before → kept ≡ stored ++ private_noted b t many → KeepsPrivate (IsAgenda o) t l many before kept
    private_kept many stored before kept b e same new ms row so_many each old =
        new
        ∙ ap (λ xs. xs ++ private_noted b t many) (same ∙ old)
        ∙ ap (λ x. agenda o ms ++ private_noted x t many) e
        ∙ ap (λ k. agenda o ms ++ private_noted (seen l o) t k) (sym so_many)
        ∙ ap (λ xs. agenda o ms ++ xs) (sym (row_noted row each))
        ∙ sym (agenda_join o ms row)
