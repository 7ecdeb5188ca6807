use Rattle.std.proofs.Common.{◌∙◌, ◌<◌, ◌≤◌, length, sym, arith}
use Rattle.code_verify_tables.specs.Seen.{place_seen, places_seen}
use Rattle.code_verify_tables.proofs.Fits.{fits_end, fits_over, fits_next, fits_not}
use Rattle.code_verify_tables.proofs.kinds.all_fit.Goals as goal

pub returns-in-None : goal.returns-in-None
returns-in-None c = sym (c.loop-i.invariant ∙ fits_end (places_seen c.args.places) _ c.loop-i.i (sym c.in-None.ensures))

pub returns-then-not-fits : goal.returns-then-not-fits
returns-then-not-fits c =
    let lt : c.loop-i.i < length c.args.stack.now = omega arith in
    sym (c.loop-i.invariant ∙ fits_not (places_seen c.args.places) c.args.stack.now c.loop-i.i (place_seen c.in-Some.place) _ (sym c.in-Some.ensures) lt (sym c.fits.ensures ∙ c.if-not-fits.true))

pub loop-i-preserved : goal.loop-i-preserved
loop-i-preserved c =
    let lt : c.loop-i.i < length c.args.stack.now = omega arith in
    c.loop-i.invariant ∙ fits_next (places_seen c.args.places) c.args.stack.now c.loop-i.i (place_seen c.in-Some.place) _ (sym c.in-Some.ensures) lt (sym c.fits.ensures ∙ c.if-not-fits.false)

pub returns : goal.returns
returns c =
    let le : length c.args.stack.now ≤ c.loop-i.i = omega arith in
    sym (c.loop-i.invariant ∙ fits_over (places_seen c.args.places) c.args.stack.now c.loop-i.i le)
