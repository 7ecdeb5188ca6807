use Rattle.std.proofs.Common.{◌+◌, ◌∷◌, [], ◌∙◌, ap, refl}
use Rattle.std.proofs.lemmas.Result.{err_from_is_err_and}
use Rattle.lam_main_print.specs.Lines.{texts}
use Rattle.lam_main_print.proofs.PrintLemmas.{took_line, front_of_feed, front_of_parts, front_of_head}
use Rattle.lam_main_print.proofs.print_line.Goals as goal

pub returns-in_err-print_parts-clause-printed : goal.returns-in_err-print_parts-clause-printed
returns-in_err-print_parts-clause-printed g c =
    let p = err_from_is_err_and c.from_residual.result c.from_residual.ensures.1 in
    rw p.1 (front_of_head c.args.status (texts c.args.parts.now) _ _ c.as_slice.ensures (c.as_slice-2.ensures ∙ ap (λ n. (48 + n) ∷ 32 ∷ []) c.code.ensures.value) (g.O.Sink.taken c.args.out.now) (g.O.Sink.taken c.args.out.now) _ c.in_err-print_parts.ensures.goes)

pub returns-in_err-print_parts-2-clause-printed : goal.returns-in_err-print_parts-2-clause-printed
returns-in_err-print_parts-2-clause-printed g c =
    let p = err_from_is_err_and c.from_residual-in_err-print_parts-2.result c.from_residual-in_err-print_parts-2.ensures.1 in
    rw p.1 (front_of_parts c.args.status (texts c.args.parts.now) _ _ c.as_slice.ensures (c.as_slice-2.ensures ∙ ap (λ n. (48 + n) ∷ 32 ∷ []) c.code.ensures.value) (g.O.Sink.taken c.args.out.now) (g.O.Sink.taken c.print_parts.new.out) _ c.in_ok-print_parts.ensures.goes c.in_err-print_parts-2.ensures.goes)

pub returns-in_err-write_all-clause-printed : goal.returns-in_err-write_all-clause-printed
returns-in_err-write_all-clause-printed g c =
    let p = err_from_is_err_and c.from_residual-in_err-write_all.result c.from_residual-in_err-write_all.ensures.1 in
    rw p.1 (front_of_feed c.args.status (texts c.args.parts.now) _ _ c.as_slice.ensures (c.as_slice-2.ensures ∙ ap (λ n. (48 + n) ∷ 32 ∷ []) c.code.ensures.value) (g.O.Sink.taken c.args.out.now) (g.O.Sink.taken c.print_parts.new.out) (g.O.Sink.taken c.print_parts-2.new.out) _ c.in_ok-print_parts.ensures.goes c.in_ok-print_parts-2.ensures.goes c.in_err-write_all.ensures.front)

pub returns-clause-printed : goal.returns-clause-printed
returns-clause-printed g c =
    (refl, took_line c.args.status (texts c.args.parts.now) _ _ c.as_slice.ensures (c.as_slice-2.ensures ∙ ap (λ n. (48 + n) ∷ 32 ∷ []) c.code.ensures.value) (g.O.Sink.taken c.args.out.now) (g.O.Sink.taken c.print_parts.new.out) (g.O.Sink.taken c.print_parts-2.new.out) _ c.in_ok-print_parts.ensures.goes c.in_ok-print_parts-2.ensures.goes c.in_ok-write_all.ensures.all)
