use Rattle.std.proofs.Common.{refl, arith}
use Rattle.code_verify_tables.proofs.Deepest.{mapped_all}
use Rattle.code_verify_tables.proofs.OnePlace.{map_read}
use Rattle.code_verify_tables.proofs.current.test_copies_of.Goals as goal

pub loop-i-preserved : goal.loop-i-preserved
loop-i-preserved c =
    let lt = c.loop-i-test.true in
    let le = c.untested_within-deep.ensures.within in
    map_read _ _ _ _ _ _ _ (omega (arith, lt, le)) refl c.loop-i.invariant c.index-old.ensures c.tested_copy.ensures

pub returns : goal.returns
returns c =
    let no = c.loop-i-test.false in
    let far = c.loop-i.auto.i-end in
    mapped_all _ _ _ _ _ (omega (arith, no, far)) c.loop-i.invariant.1 c.untested_within-deep.ensures.same
