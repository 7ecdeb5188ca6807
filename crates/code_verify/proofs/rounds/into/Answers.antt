use Rattle.std.proofs.Common.{◌∙◌}
use Rattle.code_verify.proofs.Entries.{into_none, into_some, into_breaks, into_same}
use Rattle.code_verify.proofs.rounds.into.Goals as goal

pub returns-in_ok-copy-in-None-clause-ok : goal.returns-in_ok-copy-in-None-clause-ok
returns-in_ok-copy-in-None-clause-ok c =
    into_none _ _ _ _ _ _ _ _ c.if-at-len.false (c.len.ensures ∙ c.args.table.now.ok.0) c.index_mut.ensures.value c.replace.ensures.value c.in-None.is c.in_ok-copy-in-None.ensures

pub returns-in-None-meet-clause-err : goal.returns-in-None-meet-clause-err
returns-in-None-meet-clause-err c =
    into_breaks _ _ _ _ _ _ _ c.if-at-len.false (c.len.ensures ∙ c.args.table.now.ok.0) c.index_mut.ensures.value c.replace.ensures.value c.in-Some.is c.in-None-meet.ensures.none

pub returns-in-Some-meet-clause-ok : goal.returns-in-Some-meet-clause-ok
returns-in-Some-meet-clause-ok c =
    into_some _ _ _ _ _ _ _ _ _ c.if-at-len.false (c.len.ensures ∙ c.args.table.now.ok.0) c.index_mut.ensures.value c.replace.ensures.value c.in-Some.is c.in-Some-meet.ensures.some

pub returns-in-Some-meet-clause-same : goal.returns-in-Some-meet-clause-same
returns-in-Some-meet-clause-same c =
    λ f. into_same _ _ _ _ _ _ _ _ c.if-at-len.false (c.len.ensures ∙ c.args.table.now.ok.0) c.index_mut.ensures.value c.replace.ensures.value c.in-Some.is (c.in-Some-meet.ensures.same f)
