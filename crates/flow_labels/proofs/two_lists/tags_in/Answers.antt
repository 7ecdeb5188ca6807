use Rattle.std.proofs.Common.{◌≡◌, true, false, get_or, arith}
use Rattle.flow_labels.specs.Names.{is_word}
use Rattle.flow_labels.proofs.WordLemmas.{after_word, after_letter, after_last, refused_word, refused_last}
use Rattle.std.proofs.lemmas.Result.{err_from_is_err_and}
use Rattle.flow_labels.proofs.two_lists.tags_in.Goals as goal
use Rattle.flow_labels.proofs.two_lists.tags_in.Goals.{then-not-is_word+in_ok-take_word, else-not-is_word}

pub loop-at-preserved : goal.loop-at-preserved
loop-at-preserved c = elim c.if-not-is_word.branch [
  | then-not-is_word+in_ok-take_word w ↦ let plain : is_word (get_or c.args.text.now c.loop-at.at 0) ≡ false = grind arith in record {
    before = omega arith;
    so_far = rw (w.tags-is, w.start-is) (after_word c.args.names.now c.args.text.now c.args.from c.loop-at.tags.items w.take_word.new.tags.items c.loop-at.start c.loop-at.at w.in_ok-take_word.field-0 (omega arith) (omega arith) c.loop-at.invariant.so_far plain w.in_ok-take_word.ensures);
  }
  | else-not-is_word w ↦ let wordy : is_word (get_or c.args.text.now c.loop-at.at 0) ≡ true = grind arith in record {
    before = omega arith;
    so_far = rw (w.tags-is, w.start-is) (after_letter c.args.names.now c.args.text.now c.args.from c.loop-at.tags.items c.loop-at.start c.loop-at.at (omega arith) (omega arith) c.loop-at.invariant.so_far wordy);
  }
]

pub returns-in_err-take_word : goal.returns-in_err-take_word
returns-in_err-take_word c =
    let plain : is_word (get_or c.args.text.now c.loop-at.at 0) ≡ false = grind arith in
    let p = err_from_is_err_and c.from_residual.result c.from_residual.ensures.1 in
    rw (p.1, p.2) (refused_word c.args.names.now c.args.text.now c.args.from c.loop-at.tags.items c.loop-at.start c.loop-at.at c.in_err-take_word.field-0.0 (omega arith) (omega arith) c.loop-at.invariant.so_far plain c.in_err-take_word.ensures)

pub returns-in_err-take_word-2 : goal.returns-in_err-take_word-2
returns-in_err-take_word-2 c =
    let p = err_from_is_err_and c.from_residual-in_err-take_word-2.result c.from_residual-in_err-take_word-2.ensures.1 in
    rw (p.1, p.2) (refused_last c.args.names.now c.args.text.now c.args.from c.loop-at.tags.items c.loop-at.start c.loop-at.at c.in_err-take_word-2.field-0.0 (omega arith) (omega arith) c.loop-at.invariant.so_far c.in_err-take_word-2.ensures)

pub returns : goal.returns
returns c =
    after_last c.args.names.now c.args.text.now c.args.from c.loop-at.tags.items c.take_word-2.new.tags.items c.loop-at.start c.loop-at.at c.in_ok-take_word-2.field-0 (omega arith) (omega arith) c.loop-at.invariant.so_far c.in_ok-take_word-2.ensures
