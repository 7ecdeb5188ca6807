use Rattle.std.proofs.Common.{◌∙◌, ap, sym, arith}
use Rattle.std.specs.Map.{lookup}
use Rattle.lam_value.proofs.Maps.{not_none}
use Rattle.lam_value.proofs.Rows.{taken_all}
use Rattle.labelled_files.specs.Entries.{text_eq, entries_of}
use Rattle.labelled_files.proofs.EntryLemmas.{copied_more, apart}
use Rattle.labelled_files.proofs.directory.copied.Goals as goal

pub loop-at-init : goal.loop-at-init
loop-at-init c = record { same = ap entries_of c.new-copy.ensures.empty; unique = c.new-copy.ensures.unique }

pub loop-at-preserved : goal.loop-at-preserved
loop-at-preserved c = record {
  same =
      copied_more c.args.entries.now.entries c.loop-at.copy.entries c.put_copy.new.copy.entries c.loop-at.at c.in-Some.entry.now c.in-Some.target.now
      (sym c.in-Some.ensures.entry) c.loop-at.invariant.same c.in-Ok.ensures.entries;
  unique = c.in-Ok.ensures.unique;
}

pub put_copy-requires : goal.put_copy-requires
put_copy-requires c =
    ap (lookup (text_eq c.in-Some.entry.now.items)) c.loop-at.invariant.same
    ∙ apart c.args.entries.now.entries c.loop-at.at c.in-Some.entry.now c.in-Some.target.now c.requires (sym c.in-Some.ensures.entry)

pub returns : goal.returns
returns c = record {
  same = c.loop-at.invariant.same ∙ ap entries_of (taken_all c.args.entries.now.entries c.loop-at.at c.len-at-end.result c.loop-at-test.false c.len-at-end.ensures.len);
  unique = c.loop-at.invariant.unique;
}

pub unreachable-requires : goal.unreachable-requires
unreachable-requires c = not_none _ (c.get_index.ensures.found.1 (omega (arith, c.len-at-end.ensures.len))) c.in_default.is
