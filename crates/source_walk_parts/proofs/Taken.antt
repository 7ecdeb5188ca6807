-- Controls after an access.
use Rattle.std.proofs.Common.{◌≡◌, ℕ, refl, sym, subst}
use Rattle.flow_labels.specs.declared.Denied.{Denied as Denial}
use Rattle.lam_value.specs.declared.values.Value.{Value}
use Rattle.lam_asks.specs.declared.fault.Fault.{Fault}
use Rattle.lam_asks.specs.declared.ask.Ask.TheVariants as ask
use Rattle.lam_resolve_tree.specs.Tree.{ResolvedTree}
use Rattle.lam_meaning.specs.Trees.{asked, broken, on_end, ask_value, ask_unit}
use Rattle.source_walk_state.specs.declared.Sort.{Sort}
use Rattle.source_walk_state.specs.declared.Sort.TheVariants.{Number}
use Rattle.source_walk_state.specs.declared.Reply.TheVariants as reply
use Rattle.source_walk_state.specs.declared.Frame.TheVariants as frame
use Rattle.source_walk_state.specs.declared.Control.{Control}
use Rattle.source_walk_state.specs.declared.Control.TheVariants as control
use Rattle.source_walk_state.specs.Meaning.{sort_seen, valued}
use Rattle.source_walk_parts.specs.declared.access.Access.{Access}
use Rattle.source_walk_parts.specs.declared.access.Access.TheVariants.{Reaches, Bars, Raises, Breaks}
use Rattle.source_walk_parts.specs.Accesses.{access_tree}
use Rattle.source_walk_parts.specs.States.{State, IsWaiting, IsLeft}
use Rattle.source_walk_parts.proofs.Steps.{fails_left, broken_left, asks_left, acts_left, bars_left, bars_unit_left}

module _ (s : State) (a : Access) where
  module _ (q : Sort) where
    abbrev Reads : Access → Control → State → Type 0
    Reads b d t = (r : ResolvedTree) → IsLeft r (access_tree b s.units s.own (λ x at. ask_value (asked (sort_seen q) (ask.Read x at)) s.units s.own)) 1 s d t

    pub reads_there : (x : Value) (at : ℕ) → a ≡ Reaches x at → Reads a (control.Ask (ask.Read x at) q reply.Value) s
    reads_there x at e =
        subst (λ b. Reads b (control.Ask (ask.Read x at) q reply.Value) s) (sym e)
        (λ r. asks_left r s q (ask.Read x at) (ask_value (asked (sort_seen q) (ask.Read x at)) s.units s.own) refl (λ v. refl))

    pub reads_barred : (n : Denial) (d : Control) (t : State) → a ≡ Bars n → IsWaiting (control.Ask (ask.Barred n) Number reply.Done) frame.Bar s d t → Reads a d t
    reads_barred n d t e w = subst (λ b. Reads b d t) (sym e) (λ r. bars_left r s n d t w broken)

    pub reads_raised : (f : Fault) → a ≡ Raises f → Reads a (control.Raise f) s
    reads_raised f e = subst (λ b. Reads b (control.Raise f) s) (sym e) (λ r. fails_left r s f)

    pub reads_broken : a ≡ Breaks → Reads a control.Broken s
    reads_broken e = subst (λ b. Reads b control.Broken s) (sym e) (λ r. broken_left r s)

  module _ (v : Value) where
    abbrev Writes : Access → Control → State → Type 0
    Writes b d t = (r : ResolvedTree) → IsLeft r (valued (access_tree b s.units s.own (λ x at. ask_unit (ask.Write x at v) s.units s.own))) 1 s d t

    pub writes_there : (x : Value) (at : ℕ) → a ≡ Reaches x at → Writes a (control.Ask (ask.Write x at v) Number reply.Done) s
    writes_there x at e =
        subst (λ b. Writes b (control.Ask (ask.Write x at v) Number reply.Done) s) (sym e)
        (λ r. acts_left r s (ask.Write x at v) (valued (ask_unit (ask.Write x at v) s.units s.own)) refl)

    pub writes_barred : (n : Denial) (d : Control) (t : State) → a ≡ Bars n → IsWaiting (control.Ask (ask.Barred n) Number reply.Done) frame.Bar s d t → Writes a d t
    writes_barred n d t e w = subst (λ b. Writes b d t) (sym e) (λ r. bars_unit_left r s n d t w broken)

    pub writes_raised : (f : Fault) → a ≡ Raises f → Writes a (control.Raise f) s
    unfolding on_end
    writes_raised f e = subst (λ b. Writes b (control.Raise f) s) (sym e) (λ r. fails_left r s f)

    pub writes_broken : a ≡ Breaks → Writes a control.Broken s
    unfolding on_end
    writes_broken e = subst (λ b. Writes b control.Broken s) (sym e) (λ r. broken_left r s)
