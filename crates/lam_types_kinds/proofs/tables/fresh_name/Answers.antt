use Rattle.std.proofs.Common.{refl, sym, ap, ◌∙◌, subst}
use Rattle.lam_syntax.specs.Tree.{id_tree}
use Rattle.lam_types_kinds.specs.Breaks.{Verdict}
use Rattle.lam_types_kinds.specs.Tables.{twice_if}
use Rattle.lam_types_kinds.specs.Values.{Breaks}
use Rattle.lam_types_kinds.specs.declared.fault.TypeFault.TheVariants.{Twice}
use Rattle.lam_types_kinds.proofs.TableLemmas.{fresh_is}
use Rattle.lam_types_kinds.proofs.tables.fresh_name.Goals as goal

pub returns-then-contains_key : goal.returns-then-contains_key
returns-then-contains_key g c =
    let x = id_tree c.args.x.now in
    subst (λ (v : Verdict (Unit {0})). Breaks (Twice x.at) v) (sym (fresh_is c.contains_key.result c.as_str.result.now c.args.all.now.entries x c.as_str.ensures.value c.contains_key.ensures ∙ ap (λ b. twice_if b x.at) c.if-contains_key.true)) refl

pub returns : goal.returns
returns g c =
    let x = id_tree c.args.x.now in
    fresh_is c.contains_key.result c.as_str.result.now c.args.all.now.entries x c.as_str.ensures.value c.contains_key.ensures ∙ ap (λ b. twice_if b x.at) c.if-contains_key.false
