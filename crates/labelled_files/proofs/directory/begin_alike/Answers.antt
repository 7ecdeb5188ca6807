use Rattle.std.proofs.Common.{◌∙◌, refl, sym, ap}
use Rattle.lam_value.proofs.Rows.{taken_all}
use Rattle.labelled_files.specs.Entries.{entries_of}
use Rattle.labelled_files.proofs.EntryLemmas.{alike_more, alike_there}
use Rattle.labelled_files.proofs.directory.begin_alike.Goals as goal

pub loop-at-preserved : goal.loop-at-preserved
loop-at-preserved c =
    let same = c.if-not-same_entry.ensures.0 refl in
    alike_more c.args.a.now.entries c.args.b.now.entries c.loop-at.at c.in-Some.text.now c.in-Some-get_index.other.now c.in-Some.target.now c.in-Some-get_index.there.now
    (sym c.in-Some.ensures.entry) (sym c.in-Some-get_index.ensures.entry) same.0 same.1 c.loop-at.invariant

pub returns : goal.returns
returns c = (
  λ _. sym (ap entries_of (taken_all c.args.a.now.entries c.loop-at.at c.len-at-end.result c.loop-at-test.false c.len-at-end.ensures.len))
      ∙ c.loop-at.invariant
      ∙ ap entries_of (taken_all c.args.b.now.entries c.loop-at.at c.len-at-end.result c.loop-at-test.false (c.len-at-end.ensures.len ∙ c.requires)),
  λ _. refl,
)

pub returns-then-not-same_entry : goal.returns-then-not-same_entry
returns-then-not-same_entry c = (
  λ f. cc,
  λ same. c.if-not-same_entry.ensures.1 (alike_there c.args.a.now.entries c.args.b.now.entries c.loop-at.at c.in-Some.text.now c.in-Some-get_index.other.now c.in-Some.target.now c.in-Some-get_index.there.now
      (sym c.in-Some.ensures.entry) (sym c.in-Some-get_index.ensures.entry) same),
)
