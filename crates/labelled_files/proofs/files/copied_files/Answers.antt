use Rattle.std.proofs.Common.{◌∙◌, ap, sym, cond, Some, arith}
use Rattle.std.specs.Prelude.{option_and_then}
use Rattle.std.specs.Map.{lookup}
use Rattle.lam_value.proofs.Keys.{name_eq, name_total, name_exact, name_ties}
use Rattle.lam_value.proofs.Maps.{not_none}
use Rattle.lam_value.proofs.Rows.{copy_more, taken_all}
use Rattle.labelled_files.specs.Seen.{held}
use Rattle.labelled_files.proofs.TreeLemmas.{alike}
use Rattle.labelled_files.proofs.files.copied_files.Goals as goal

pub loop-at-init : goal.loop-at-init
loop-at-init c q = ap (λ es. option_and_then (λ x. Some (held x)) (lookup (name_eq q) es)) c.new-copy.ensures.empty

pub loop-at-preserved : goal.loop-at-preserved
loop-at-preserved c =
    copy_more name_eq name_total name_exact name_ties (λ x. Some (held x)) c.args.files.now.entries c.loop-at.copy.entries c.put.new.map.entries c.loop-at.at c.in-Some.name.now c.in-Some.contents.now c.in-Ok.contents
    (sym c.in-Some.ensures.entry) c.in-Some.ensures.value (ap (λ x. Some x) c.in-Ok.ensures.bytes) c.loop-at.invariant
    (λ q. c.in-Ok-put.ensures q ∙ ap (λ k. cond (name_eq k q) (Some c.in-Ok.contents) (lookup (name_eq q) c.loop-at.copy.entries)) c.in-Ok.ensures.name)

pub returns : goal.returns
returns c =
    alike held c.args.files.now.entries c.loop-at.copy.entries
    (λ q. c.loop-at.invariant q ∙ ap (λ es. option_and_then (λ x. Some (held x)) (lookup (name_eq q) es)) (taken_all c.args.files.now.entries c.loop-at.at c.len-at-end.result c.loop-at-test.false c.len-at-end.ensures.len))

pub unreachable-requires : goal.unreachable-requires
unreachable-requires c = not_none _ (c.get_index.ensures.found.1 (omega (arith, c.len-at-end.ensures.len))) c.in_default.is
