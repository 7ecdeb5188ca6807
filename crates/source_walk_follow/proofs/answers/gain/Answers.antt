use Rattle.std.proofs.Common.{◌≡◌, sym, ap, ◌∙◌, subst}
use Rattle.std.specs.Prelude.{OnOk}
use Rattle.lam_meaning.specs.Trees.{Own, gained}
use Rattle.source_walk_parts.specs.States.{state_of, with_own}
use Rattle.source_walk_follow.proofs.Given.{gains_of_ask, gains_of_mint, gains_of_received, mint_gained, caps_gained}
use Rattle.source_walk_follow.proofs.answers.gain.Goals as goal

pub returns-in-Tag : goal.returns-in-Tag
returns-in-Tag c =
    subst (λ (o : Own). OnOk c.mint_caps.result (state_of c.mint_caps.new.w ≡ with_own (state_of c.args.w.now) o)) (mint_gained c.args.ask.now c.args.v.now _ (state_of c.args.w.now).own c.in-Mint.is c.in-Tag.is) c.mint_caps.ensures

pub returns-in_default-v : goal.returns-in_default-v
returns-in_default-v c =
    ap (λ o. with_own (state_of c.args.w.now) o) (sym (ap (λ a. gained a c.args.v.now (state_of c.args.w.now).own) c.in-Mint.is ∙ gains_of_mint c.args.v.now (state_of c.args.w.now).own c.in_default-v.not-Tag))

pub returns-in-CapV : goal.returns-in-CapV
returns-in-CapV c =
    subst (λ (o : Own). OnOk c.join_caps.result (state_of c.join_caps.new.w ≡ with_own (state_of c.args.w.now) o)) (caps_gained c.args.ask.now _ c.args.v.now _ _ (state_of c.args.w.now).own c.in-ReceiveCaps.is c.in-CapV.is) c.join_caps.ensures

pub returns-in_default-v-2 : goal.returns-in_default-v-2
returns-in_default-v-2 c =
    ap (λ o. with_own (state_of c.args.w.now) o) (sym (gains_of_received c.args.ask.now _ c.args.v.now (state_of c.args.w.now).own c.in-ReceiveCaps.is c.in_default-v-2.not-CapV))

pub returns-in_default : goal.returns-in_default
returns-in_default c = ap (λ o. with_own (state_of c.args.w.now) o) (sym (gains_of_ask c.args.ask.now c.args.v.now (state_of c.args.w.now).own c.in_default.not-Mint c.in_default.not-ReceiveCaps))
